-- Path numbers and vectors of a decision correspond one to one, order kept.
use Rattle.std.proofs.Common.{◌≡◌, ℕ, ◌+◌, ◌<◌, ◌≤◌, Bool, true, false, Option, Some, None, List, [], ◌∷◌, inl, inr, sym, ap, refl, ◌∙◌, subst, arith}
use Rattle.std.specs.Prelude.{◌↔◌, slice_index, IsSome, IfSome, IfNone}
use Rattle.mc_cond.specs.Tree.{Tree, IsShort, IsNumberedFrom}
use Rattle.mc_cond.specs.Vectors.{Row, Evaluation, evaluated, IsVector}
use Rattle.mc_cond.specs.Order.{rank, IsBefore}
use Rattle.mc_paths.specs.Paths.{count_of, increments, path_of, all_false, IsPath, IsInUse}
use Rattle.mc_paths.specs.steps.Descent.{Descent, descent}
use Rattle.mc_paths.proofs.Counting.{side, one, count_most}
use Rattle.mc_paths.proofs.Ordering.{Ahead, NotBehind, last, Compared, compared}
use Rattle.mc_paths.proofs.Reaching.{Stand, Reaches, reaches, seen, ended, descends, left_short}

-- the number of a vector is below the count
not_behind : (t : Tree) (v : Evaluation) → NotBehind (increments t) 1 1 v (all_false t) → path_of t v < count_of t
not_behind t v (inl same) = omega (arith, ap (path_of t) same)
not_behind t v (inr ahead) = omega (arith, ahead.gap)

pub vector_below : (t : Tree) (v : Evaluation) → IsVector t v → path_of t v < count_of t
vector_below t v (row, e) =
    let P : Evaluation → Type 0 = λ w. path_of t w < count_of t in
    subst P e (not_behind t (evaluated t row) (last t 1 1 row))

pub in_use_below : (t : Tree) (path : ℕ) → IsInUse t path → path < count_of t
in_use_below t path (v, is) = omega (arith, vector_below t v is.vector, is.number)

-- two vectors, by their numbers and in order
ahead_less : (t : Tree) (v w : Evaluation) → Ahead (increments t) 1 1 v w → path_of t v < path_of t w
ahead_less t v w ahead = omega (arith, ahead.gap, one v.outcome)

pub vectors_compared : (t : Tree) (v w : Evaluation) → IsVector t v → IsVector t w → Compared (increments t) 1 1 v w
vectors_compared t v w (p, e) (q, f) =
    let P : Evaluation → Type 0 = λ z. Compared (increments t) 1 1 z w in
    let Q : Evaluation → Type 0 = λ z. Compared (increments t) 1 1 (evaluated t p) z in
    subst P e (subst Q f (compared t 1 1 p q))

once_by : (t : Tree) (v w : Evaluation) → Compared (increments t) 1 1 v w → path_of t v ≡ path_of t w → v ≡ w
once_by t v w (inl same) h = same
once_by t v w (inr (inl ahead)) h = absurd (omega (arith, h, ahead_less t v w ahead))
once_by t v w (inr (inr ahead)) h = absurd (omega (arith, h, ahead_less t w v ahead))

pub vector_once : (t : Tree) (v w : Evaluation) → IsVector t v → IsVector t w → path_of t v ≡ path_of t w → v ≡ w
vector_once t v w iv iw h = once_by t v w (vectors_compared t v w iv iw) h

never_self : (xs : List (Option Bool)) → IsBefore xs xs → ⊥
never_self [] h = h
never_self (x ∷ xs) (inl h) = omega (arith, h)
never_self (x ∷ xs) (inr h) = never_self xs h.1

never_both : (xs ys : List (Option Bool)) → IsBefore xs ys → IsBefore ys xs → ⊥
never_both [] ys h k = h
never_both (x ∷ xs) [] h k = h
never_both (x ∷ xs) (y ∷ ys) (inl h) (inl k) = omega (arith, h, k)
never_both (x ∷ xs) (y ∷ ys) (inl h) (inr k) = omega (arith, h, ap rank k.0)
never_both (x ∷ xs) (y ∷ ys) (inr h) (inl k) = omega (arith, k, ap rank h.0)
never_both (x ∷ xs) (y ∷ ys) (inr h) (inr k) = never_both xs ys h.1 k.1

order_by : (t : Tree) (v w : Evaluation) → Compared (increments t) 1 1 v w → ((path_of t v < path_of t w) ↔ IsBefore v.answers w.answers)
order_by t v w (inl same) =
    let P : Evaluation → Type 0 = λ z. IsBefore z.answers w.answers in
    (λ lt. absurd (omega (arith, lt, ap (path_of t) same)), λ h. absurd (never_self w.answers (subst P same h)))
order_by t v w (inr (inl ahead)) = (λ lt. ahead.order, λ h. ahead_less t v w ahead)
order_by t v w (inr (inr ahead)) =
    (λ lt. absurd (omega (arith, lt, ahead_less t w v ahead)), λ h. absurd (never_both v.answers w.answers h ahead.order))

pub vector_order : (t : Tree) (v w : Evaluation) → IsVector t v → IsVector t w → ((path_of t v < path_of t w) ↔ IsBefore v.answers w.answers)
vector_order t v w iv iw = order_by t v w (vectors_compared t v w iv iw)

-- a number is in use exactly where nothing is left of it when it is followed
stand_whole : (t : Tree) → Stand (increments t) 0 (increments t)
stand_whole t k less = let P : ℕ → ℕ = λ i. slice_index (increments t) i in ap P (omega arith)

pub descent_used : (t : Tree) (path : ℕ) → IsNumberedFrom 0 t → (descent t (increments t) path).left ≡ 0 → IsPath t path (seen (descent t (increments t) path))
descent_used t path n none =
    let r : Reaches t 1 1 path (descent t (increments t) path) = reaches t 0 1 1 path (increments t) n (stand_whole t) in
    record { vector = (r.row, r.same); number = omega (arith, r.sum, none) }

descent_row : (t : Tree) (row : Row) (path : ℕ) → IsNumberedFrom 0 t → path_of t (evaluated t row) ≡ path → descent t (increments t) path ≡ ended (evaluated t row) 0
descent_row t row path n e =
    descends t 0 1 1 0 row (increments t) n (stand_whole t) (omega (arith, one (evaluated t row).outcome)) path (omega (arith, e))

pub descent_of : (t : Tree) (path : ℕ) (v : Evaluation) → IsNumberedFrom 0 t → IsPath t path v → descent t (increments t) path ≡ ended v 0
descent_of t path v n is =
    let P : Evaluation → Type 0 = λ w. descent t (increments t) path ≡ ended w 0 in
    let Q : Evaluation → ℕ = λ w. path_of t w in
    subst P is.vector.1 (descent_row t is.vector.0 path n (ap Q is.vector.1 ∙ is.number))

pub descent_idle : (t : Tree) (path : ℕ) → IsNumberedFrom 0 t → ((descent t (increments t) path).left ≡ 0 → ⊥) → IsInUse t path → ⊥
descent_idle t path n some (v, is) = let P : Descent → ℕ = λ d. d.left in some (ap P (descent_of t path v n is))

-- without operators that are evaluated in full each number below the count is in use
none_left : (n : ℕ) (o : Bool) → n < side o 1 1 → n ≡ 0
none_left n o lt = omega (arith, lt, one o)

pub descent_path : (t : Tree) (path : ℕ) → IsShort t → IsNumberedFrom 0 t → path < count_of t → IsPath t path (seen (descent t (increments t) path))
descent_path t path short n lt =
    let d : Descent = descent t (increments t) path in
    descent_used t path n (none_left d.left d.outcome (left_short t 0 1 1 path (increments t) short n (stand_whole t) (omega (arith, lt, count_most t))))

alike : (v w : Evaluation) → v.answers ≡ w.answers → v.outcome ≡ w.outcome → v ≡ w
alike v w e f =
    let P : List (Option Bool) → Evaluation = λ xs. record { answers = xs; outcome = v.outcome } in
    let Q : Bool → Evaluation = λ o. record { answers = w.answers; outcome = o } in
    ap P e ∙ ap Q f

-- the same, of the answers and the outcome that the program finds
pub followed_path : (t : Tree) (path : ℕ) (on_false : List ℕ) (v : Evaluation) → IsNumberedFrom 0 t → on_false ≡ increments t → (descent t on_false path).left ≡ 0
    → v.answers ≡ (descent t on_false path).answers → v.outcome ≡ (descent t on_false path).outcome → IsPath t path v
followed_path t path on_false v n edges none answers outcome =
    let P : Evaluation → Type 0 = λ w. IsPath t path w in
    let Q : List ℕ → Type 0 = λ es. ((descent t es path).left ≡ 0) × (v.answers ≡ (descent t es path).answers) × (v.outcome ≡ (descent t es path).outcome) in
    let at = subst Q edges (none, answers, outcome) in
    let same : seen (descent t (increments t) path) ≡ v = sym (alike v (seen (descent t (increments t) path)) at.1 at.2) in
    subst P same (descent_used t path n at.0)

pub followed_idle : (t : Tree) (path : ℕ) (on_false : List ℕ) → IsNumberedFrom 0 t → on_false ≡ increments t → ((descent t on_false path).left ≡ 0 → ⊥) → IsInUse t path → ⊥
followed_idle t path on_false n edges some =
    let Q : List ℕ → Type 0 = λ es. (descent t es path).left ≡ 0 → ⊥ in
    descent_idle t path n (subst Q edges some)

-- what is found where it must be
pub is_there : {A : Type 0} {P : Type 0} (o : Option A) → IfNone o (P → ⊥) → P → IsSome o
is_there (Some x) h p = refl
is_there None h p = absurd (h p)

pub if_there : {A : Type 0} (P : A → Type 0) (o : Option A) (x : A) → IfSome o P → o ≡ Some x → P x
if_there {A = A} P o x h e = let Q : Option A → Type 0 = λ z. IfSome z P in subst Q e h
