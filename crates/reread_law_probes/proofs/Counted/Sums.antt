-- The sums of the paths through a decision's operand are the numbers of its vectors, so that the
-- greatest of them is one less than the count of the decision.
use Rattle.std.proofs.Common.{◌≡◌, ◌∙◌, ◌⊎◌, inl, inr, refl, sym, ap, subst, ℕ, suc, ◌+◌, ◌<◌, ◌≤◌, Bool, true, false, not, ◌&&◌, ◌||◌, List, [], ◌∷◌, ◌++◌, map, length, Some, arith}
use Rattle.std.specs.Prelude.{max}
use Rattle.mc_typed.specs.declared.operators.LogicOperator.TheVariants as logic
use Rattle.decide_rules.specs.declared.operators.FullOperator.TheVariants as full
use Rattle.mc_cond.specs.Tree.{Tree, Leaf, Not, And, Or, FullAnd, FullOr, FullXor, size, IsNumberedFrom}
use Rattle.mc_cond.specs.Vectors.{Row, Evaluation, evaluated, evaluated_both, followed_where, xor}
use Rattle.mc_cond.proofs.Rows.{same_evaluation, pasted, pasted_left, pasted_right}
use Rattle.mc_paths.specs.Paths.{room, false_edges, increments, sum_along, path_of, all_false, count_of}
use Rattle.mc_paths.proofs.Counting.{total, sum_append, same_length, length_edges}
use Rattle.mc_paths.proofs.Numbers.{vector_below}
use Rattle.reread_put_back.specs.Sums.{Paths, leaf, negated, joined, both, greatest, end_of_paths, ◌⊗◌}

-- the sums of the paths of a tree, where a condition adds this where it is false
abbrev pub sums : Tree → (ℕ → ℕ) → Paths
sums (Leaf k) adds = leaf 0 (adds k)
sums (Not a) adds = negated (sums a adds)
sums (And a b) adds = joined logic.And (sums a adds) (sums b adds)
sums (Or a b) adds = joined logic.Or (sums a adds) (sums b adds)
sums (FullAnd a b) adds = both full.And (sums a adds) (sums b adds)
sums (FullOr a b) adds = both full.Or (sums a adds) (sums b adds)
sums (FullXor a b) adds = both full.Xor (sums a adds) (sums b adds)

-- from a condition on they add these
abbrev pub Adds : (ℕ → ℕ) → ℕ → List ℕ → Type 0
Adds adds c [] = Unit {0}
Adds adds c (e ∷ es) = (adds c ≡ e) × Adds adds (suc c) es

adds_left : (adds : ℕ → ℕ) (c : ℕ) (es fs : List ℕ) → Adds adds c (es ++ fs) → Adds adds c es
adds_left adds c [] fs h = tt
adds_left adds c (e ∷ es) fs h = (h.0, adds_left adds (suc c) es fs h.1)

adds_right : (adds : ℕ → ℕ) (c d : ℕ) (es fs : List ℕ) → c + length es ≡ d → Adds adds c (es ++ fs) → Adds adds d fs
adds_right adds c d [] fs e h = let same : c ≡ d = omega (arith, e) in subst (λ (k : ℕ). Adds adds k fs) same h
adds_right adds c d (x ∷ es) fs e h = adds_right adds (suc c) d es fs (omega (arith, e)) h.1

-- ---- members of lists

abbrev pub In : ℕ → List ℕ → Type 0
In s [] = ⊥
In s (x ∷ xs) = (s ≡ x) ⊎ In s xs

in_left : (s : ℕ) (xs ys : List ℕ) → In s xs → In s (xs ++ ys)
in_left s [] ys h = absurd h
in_left s (x ∷ xs) ys (inl e) = inl e
in_left s (x ∷ xs) ys (inr h) = inr (in_left s xs ys h)

in_right : (s : ℕ) (xs ys : List ℕ) → In s ys → In s (xs ++ ys)
in_right s [] ys h = h
in_right s (x ∷ xs) ys h = inr (in_right s xs ys h)

in_map : (x v : ℕ) (ys : List ℕ) → In v ys → In (x + v) (map (λ y. x + y) ys)
in_map x v [] h = absurd h
in_map x v (y ∷ ys) (inl e) = inl (ap (λ (z : ℕ). x + z) e)
in_map x v (y ∷ ys) (inr h) = inr (in_map x v ys h)

in_sum : (u v : ℕ) (xs ys : List ℕ) → In u xs → In v ys → In (u + v) (xs ⊗ ys)
in_sum u v [] ys h k = absurd h
in_sum u v (x ∷ xs) ys (inl e) k =
    in_left (u + v) (map (λ y. x + y) ys) (xs ⊗ ys) (subst (λ (z : ℕ). In (z + v) (map (λ y. x + y) ys)) (sym e) (in_map x v ys k))
in_sum u v (x ∷ xs) ys (inr h) k = in_right (u + v) (map (λ y. x + y) ys) (xs ⊗ ys) (in_sum u v xs ys h k)

out_append : (s : ℕ) (xs ys : List ℕ) → In s (xs ++ ys) → In s xs ⊎ In s ys
out_append s [] ys h = inr h
out_append s (x ∷ xs) ys (inl e) = inl (inl e)
out_append s (x ∷ xs) ys (inr h) = more (out_append s xs ys h)
  where
    more : In s xs ⊎ In s ys → In s (x ∷ xs) ⊎ In s ys
    more (inl k) = inl (inr k)
    more (inr k) = inr k

-- a sum of a member of each
pub record IsSum (s : ℕ) (xs ys : List ℕ) : Type 0 where
  pub left : ℕ
  pub right : ℕ
  pub on_left : In left xs
  pub on_right : In right ys
  pub sum : s ≡ left + right

out_map : (s x : ℕ) (ys : List ℕ) → In s (map (λ y. x + y) ys) → (v : ℕ) × In v ys × (s ≡ x + v)
out_map s x [] h = absurd h
out_map s x (y ∷ ys) (inl e) = (y, inl refl, e)
out_map s x (y ∷ ys) (inr h) = let k = out_map s x ys h in (k.0, inr k.1, k.2)

out_sum : (s : ℕ) (xs ys : List ℕ) → In s (xs ⊗ ys) → IsSum s xs ys
out_sum s [] ys h = absurd h
out_sum s (x ∷ xs) ys h = split (λ k. out_sum s xs ys k) (out_append s (map (λ y. x + y) ys) (xs ⊗ ys) h)
  where
    split : (In s (xs ⊗ ys) → IsSum s xs ys) → In s (map (λ y. x + y) ys) ⊎ In s (xs ⊗ ys) → IsSum s (x ∷ xs) ys
    split more (inl k) = let m = out_map s x ys k in record { left = x; right = m.0; on_left = inl refl; on_right = m.1; sum = m.2 }
    split more (inr k) = let m = more k in record { left = m.left; right = m.right; on_left = inr m.on_left; on_right = m.on_right; sum = m.sum }

greatest_most : (limit : ℕ) (xs : List ℕ) → ((s : ℕ) → In s xs → s ≤ limit) → greatest xs ≤ limit
greatest_most limit [] h = omega arith
greatest_most limit (x ∷ xs) h =
    let here : x ≤ limit = h x (inl refl) in
    let more = greatest_most limit xs (λ s k. h s (inr k)) in
    omega (arith, here, more)

greatest_least : (s : ℕ) (xs : List ℕ) → In s xs → s ≤ greatest xs
greatest_least s [] h = absurd h
greatest_least s (x ∷ xs) (inl e) = omega (arith, e)
greatest_least s (x ∷ xs) (inr h) = let more = greatest_least s xs h in omega (arith, more)

-- ---- each vector has a sum

abbrev pub pick : Bool → Paths → List ℕ
pick true p = p.on_true
pick false p = p.on_false

pick_not : (o : Bool) (s : ℕ) (p : Paths) → In s (pick o p) → In s (pick (not o) (negated p))
pick_not true s p h = h
pick_not false s p h = h

true_and : (o : Bool) (u v : ℕ) (p q : Paths) → In u p.on_true → In v (pick o q) → In (u + v) (pick o (joined logic.And p q))
true_and true u v p q h k = in_sum u v p.on_true q.on_true h k
true_and false u v p q h k = in_right (u + v) p.on_false (p.on_true ⊗ q.on_false) (in_sum u v p.on_true q.on_false h k)

false_or : (o : Bool) (u v : ℕ) (p q : Paths) → In u p.on_false → In v (pick o q) → In (u + v) (pick o (joined logic.Or p q))
false_or true u v p q h k = in_right (u + v) p.on_true (p.on_false ⊗ q.on_true) (in_sum u v p.on_false q.on_true h k)
false_or false u v p q h k = in_sum u v p.on_false q.on_false h k

both_and : (o w : Bool) (u v : ℕ) (p q : Paths) → In u (pick o p) → In v (pick w q) → In (u + v) (pick (o && w) (both full.And p q))
both_and true true u v p q h k = in_sum u v p.on_true q.on_true h k
both_and true false u v p q h k = in_left (u + v) (p.on_true ⊗ q.on_false) _ (in_sum u v p.on_true q.on_false h k)
both_and false true u v p q h k =
    in_right (u + v) (p.on_true ⊗ q.on_false) _ (in_left (u + v) (p.on_false ⊗ q.on_true) _ (in_sum u v p.on_false q.on_true h k))
both_and false false u v p q h k =
    in_right (u + v) (p.on_true ⊗ q.on_false) _ (in_right (u + v) (p.on_false ⊗ q.on_true) _ (in_sum u v p.on_false q.on_false h k))

both_or : (o w : Bool) (u v : ℕ) (p q : Paths) → In u (pick o p) → In v (pick w q) → In (u + v) (pick (o || w) (both full.Or p q))
both_or true true u v p q h k = in_left (u + v) (p.on_true ⊗ q.on_true) _ (in_sum u v p.on_true q.on_true h k)
both_or true false u v p q h k =
    in_right (u + v) (p.on_true ⊗ q.on_true) _ (in_left (u + v) (p.on_true ⊗ q.on_false) _ (in_sum u v p.on_true q.on_false h k))
both_or false true u v p q h k =
    in_right (u + v) (p.on_true ⊗ q.on_true) _ (in_right (u + v) (p.on_true ⊗ q.on_false) _ (in_sum u v p.on_false q.on_true h k))
both_or false false u v p q h k = in_sum u v p.on_false q.on_false h k

both_xor : (o w : Bool) (u v : ℕ) (p q : Paths) → In u (pick o p) → In v (pick w q) → In (u + v) (pick (xor o w) (both full.Xor p q))
both_xor true true u v p q h k = in_left (u + v) (p.on_true ⊗ q.on_true) _ (in_sum u v p.on_true q.on_true h k)
both_xor true false u v p q h k = in_left (u + v) (p.on_true ⊗ q.on_false) _ (in_sum u v p.on_true q.on_false h k)
both_xor false true u v p q h k = in_right (u + v) (p.on_true ⊗ q.on_false) _ (in_sum u v p.on_false q.on_true h k)
both_xor false false u v p q h k = in_right (u + v) (p.on_true ⊗ q.on_true) _ (in_sum u v p.on_false q.on_false h k)

-- this evaluation has the sum of one of these paths
abbrev IsOne : Evaluation → List ℕ → Paths → Type 0
IsOne e es p = In (sum_along e.answers es) (pick e.outcome p)

and_one : (n : Bool) (e g : Evaluation) (b : Tree) (p q : Paths) (es fs : List ℕ) → n ≡ e.outcome → length e.answers ≡ length es → In (sum_along e.answers es) (pick n p) → IsOne g fs q → IsOne (followed_where n e b g) (es ++ fs) (joined logic.And p q)
and_one true e g b p q es fs same long h k =
    subst (λ (s : ℕ). In s (pick g.outcome (joined logic.And p q))) (sym (total true e b g es fs long)) (true_and g.outcome (sum_along e.answers es) (sum_along g.answers fs) p q h k)
and_one false e g b p q es fs same long h k =
    let sum : sum_along (followed_where false e b g).answers (es ++ fs) ≡ sum_along e.answers es = total false e b g es fs long ∙ omega arith in
    subst (λ (o : Bool). In (sum_along (followed_where false e b g).answers (es ++ fs)) (pick o (joined logic.And p q))) same
    (subst (λ (s : ℕ). In s (p.on_false ++ (p.on_true ⊗ q.on_false))) (sym sum) (in_left (sum_along e.answers es) p.on_false (p.on_true ⊗ q.on_false) h))

or_one : (n : Bool) (e g : Evaluation) (b : Tree) (p q : Paths) (es fs : List ℕ) → not n ≡ e.outcome → length e.answers ≡ length es → In (sum_along e.answers es) (pick (not n) p) → IsOne g fs q → IsOne (followed_where n e b g) (es ++ fs) (joined logic.Or p q)
or_one true e g b p q es fs same long h k =
    subst (λ (s : ℕ). In s (pick g.outcome (joined logic.Or p q))) (sym (total true e b g es fs long)) (false_or g.outcome (sum_along e.answers es) (sum_along g.answers fs) p q h k)
or_one false e g b p q es fs same long h k =
    let sum : sum_along (followed_where false e b g).answers (es ++ fs) ≡ sum_along e.answers es = total false e b g es fs long ∙ omega arith in
    subst (λ (o : Bool). In (sum_along (followed_where false e b g).answers (es ++ fs)) (pick o (joined logic.Or p q))) same
    (subst (λ (s : ℕ). In s (p.on_true ++ (p.on_false ⊗ q.on_true))) (sym sum) (in_left (sum_along e.answers es) p.on_true (p.on_false ⊗ q.on_true) h))

not_not : (o : Bool) → not (not o) ≡ o
not_not true = refl
not_not false = refl

pub each_sum : (t : Tree) (c x y : ℕ) (adds : ℕ → ℕ) (row : Row) → IsNumberedFrom c t → Adds adds c (false_edges t x y) → IsOne (evaluated t row) (false_edges t x y) (sums t adds)
each_sum (Leaf k) c x y adds row n h = leaf_sum (row k) (ap adds n ∙ h.0)
  where
    leaf_sum : (o : Bool) → adds k ≡ x → In (sum_along (Some o ∷ []) (x ∷ [])) (pick o (leaf 0 (adds k)))
    leaf_sum true e = inl refl
    leaf_sum false e = inl (omega (arith, e))
each_sum (Not a) c x y adds row n h = pick_not (evaluated a row).outcome (sum_along (evaluated a row).answers (false_edges a y x)) (sums a adds) (each_sum a c y x adds row n h)
each_sum (And a b) c x y adds row n h =
    let r : ℕ = room b x y in
    let long = length_edges a r y in
    and_one (evaluated a row).outcome (evaluated a row) (evaluated b row) b (sums a adds) (sums b adds) (false_edges a r y) (false_edges b x y) refl (same_length a row r y)
    (each_sum a c r y adds row n.0 (adds_left adds c (false_edges a r y) (false_edges b x y) h))
    (each_sum b (c + size a) x y adds row n.1 (adds_right adds c (c + size a) (false_edges a r y) (false_edges b x y) (ap (λ (i : ℕ). c + i) long) h))
each_sum (Or a b) c x y adds row n h =
    let r : ℕ = room b x y in
    let long = length_edges a x r in
    let o : Bool = (evaluated a row).outcome in
    or_one (not o) (evaluated a row) (evaluated b row) b (sums a adds) (sums b adds) (false_edges a x r) (false_edges b x y) (not_not o) (same_length a row x r)
    (subst (λ (w : Bool). In (sum_along (evaluated a row).answers (false_edges a x r)) (pick w (sums a adds))) (sym (not_not o))
    (each_sum a c x r adds row n.0 (adds_left adds c (false_edges a x r) (false_edges b x y) h)))
    (each_sum b (c + size a) x y adds row n.1 (adds_right adds c (c + size a) (false_edges a x r) (false_edges b x y) (ap (λ (i : ℕ). c + i) long) h))
each_sum (FullAnd a b) c x y adds row n h =
    let r : ℕ = room b (max x y) y in
    let es : List ℕ = false_edges a r r in
    let fs : List ℕ = false_edges b (max x y) y in
    let e : Evaluation = evaluated a row in
    let g : Evaluation = evaluated b row in
    subst (λ (s : ℕ). In s (pick (e.outcome && g.outcome) (sums (FullAnd a b) adds))) (sym (sum_append e.answers g.answers es fs (same_length a row r r)))
    (both_and e.outcome g.outcome (sum_along e.answers es) (sum_along g.answers fs) (sums a adds) (sums b adds)
    (each_sum a c r r adds row n.0 (adds_left adds c es fs h))
    (each_sum b (c + size a) (max x y) y adds row n.1 (adds_right adds c (c + size a) es fs (ap (λ (i : ℕ). c + i) (length_edges a r r)) h)))
each_sum (FullOr a b) c x y adds row n h =
    let r : ℕ = room b x (max x y) in
    let es : List ℕ = false_edges a r r in
    let fs : List ℕ = false_edges b x (max x y) in
    let e : Evaluation = evaluated a row in
    let g : Evaluation = evaluated b row in
    subst (λ (s : ℕ). In s (pick (e.outcome || g.outcome) (sums (FullOr a b) adds))) (sym (sum_append e.answers g.answers es fs (same_length a row r r)))
    (both_or e.outcome g.outcome (sum_along e.answers es) (sum_along g.answers fs) (sums a adds) (sums b adds)
    (each_sum a c r r adds row n.0 (adds_left adds c es fs h))
    (each_sum b (c + size a) x (max x y) adds row n.1 (adds_right adds c (c + size a) es fs (ap (λ (i : ℕ). c + i) (length_edges a r r)) h)))
each_sum (FullXor a b) c x y adds row n h =
    let r : ℕ = room b (max x y) (max x y) in
    let es : List ℕ = false_edges a r r in
    let fs : List ℕ = false_edges b (max x y) (max x y) in
    let e : Evaluation = evaluated a row in
    let g : Evaluation = evaluated b row in
    subst (λ (s : ℕ). In s (pick (xor e.outcome g.outcome) (sums (FullXor a b) adds))) (sym (sum_append e.answers g.answers es fs (same_length a row r r)))
    (both_xor e.outcome g.outcome (sum_along e.answers es) (sum_along g.answers fs) (sums a adds) (sums b adds)
    (each_sum a c r r adds row n.0 (adds_left adds c es fs h))
    (each_sum b (c + size a) (max x y) (max x y) adds row n.1 (adds_right adds c (c + size a) es fs (ap (λ (i : ℕ). c + i) (length_edges a r r)) h)))

-- ---- each sum has a vector

-- a row on which the tree has this outcome, whose false answers add this
pub record Reached (t : Tree) (es : List ℕ) (s : ℕ) (o : Bool) : Type 0 where
  pub row : Row
  pub sum : sum_along (evaluated t row).answers es ≡ s
  pub outcome : (evaluated t row).outcome ≡ o

not_reached : (a : Tree) (es : List ℕ) (s : ℕ) (o w : Bool) → not o ≡ w → Reached a es s o → Reached (Not a) es s w
not_reached a es s o w e r = record { row = r.row; sum = r.sum; outcome = ap not r.outcome ∙ e }

stop_and : (a b : Tree) (es fs : List ℕ) (s : ℕ) → ((row : Row) → length (evaluated a row).answers ≡ length es) → Reached a es s false → Reached (And a b) (es ++ fs) s false
stop_and a b es fs s long r =
    let e : Evaluation = evaluated a r.row in
    let g : Evaluation = evaluated b r.row in
    let whole : followed_where e.outcome e b g ≡ followed_where false e b g = ap (λ (o : Bool). followed_where o e b g) r.outcome in
    let none : sum_along e.answers es + 0 ≡ sum_along e.answers es = omega arith in
    record {
      row = r.row;
      sum = ap (λ (z : Evaluation). sum_along z.answers (es ++ fs)) whole ∙ (total false e b g es fs (long r.row) ∙ (none ∙ r.sum));
      outcome = ap (λ (z : Evaluation). z.outcome) whole ∙ r.outcome;
    }

stop_or : (a b : Tree) (es fs : List ℕ) (s : ℕ) → ((row : Row) → length (evaluated a row).answers ≡ length es) → Reached a es s true → Reached (Or a b) (es ++ fs) s true
stop_or a b es fs s long r =
    let e : Evaluation = evaluated a r.row in
    let g : Evaluation = evaluated b r.row in
    let whole : followed_where (not e.outcome) e b g ≡ followed_where false e b g = ap (λ (o : Bool). followed_where (not o) e b g) r.outcome in
    let none : sum_along e.answers es + 0 ≡ sum_along e.answers es = omega arith in
    record {
      row = r.row;
      sum = ap (λ (z : Evaluation). sum_along z.answers (es ++ fs)) whole ∙ (total false e b g es fs (long r.row) ∙ (none ∙ r.sum));
      outcome = ap (λ (z : Evaluation). z.outcome) whole ∙ r.outcome;
    }

-- two rows in one, for operands whose conditions follow each other
module _ (a b : Tree) (c : ℕ) (es fs : List ℕ) (n : IsNumberedFrom c a) (m : IsNumberedFrom (c + size a) b) (long : (row : Row) → length (evaluated a row).answers ≡ length es) where
  one_row : Row → Row → Row
  one_row p q = pasted (c + size a) p q

  on_left : (p q : Row) → evaluated a (one_row p q) ≡ evaluated a p
  unfolding one_row
  on_left p q = same_evaluation a c (pasted (c + size a) p q) p n (pasted_left c (size a) p q)

  on_right : (p q : Row) → evaluated b (one_row p q) ≡ evaluated b q
  unfolding one_row
  on_right p q = same_evaluation b (c + size a) (pasted (c + size a) p q) q m (pasted_right c (size a) (size b) p q)

  paste_and : (u v : ℕ) (o : Bool) → Reached a es u true → Reached b fs v o → Reached (And a b) (es ++ fs) (u + v) o
  paste_and u v o r w =
      let row : Row = one_row r.row w.row in
      let left = on_left r.row w.row in
      let right = on_right r.row w.row in
      let e : Evaluation = evaluated a r.row in
      let g : Evaluation = evaluated b w.row in
      let goes : (evaluated a row).outcome ≡ true = ap (λ (z : Evaluation). z.outcome) left ∙ r.outcome in
      let whole : followed_where (evaluated a row).outcome (evaluated a row) b (evaluated b row) ≡ followed_where true e b g = λ i. followed_where (goes i) (left i) b (right i) in
      record {
        row = row;
        sum = ap (λ (z : Evaluation). sum_along z.answers (es ++ fs)) whole ∙ (total true e b g es fs (long r.row) ∙ (λ i. r.sum i + w.sum i));
        outcome = ap (λ (z : Evaluation). z.outcome) whole ∙ w.outcome;
      }

  paste_or : (u v : ℕ) (o : Bool) → Reached a es u false → Reached b fs v o → Reached (Or a b) (es ++ fs) (u + v) o
  paste_or u v o r w =
      let row : Row = one_row r.row w.row in
      let left = on_left r.row w.row in
      let right = on_right r.row w.row in
      let e : Evaluation = evaluated a r.row in
      let g : Evaluation = evaluated b w.row in
      let goes : not (evaluated a row).outcome ≡ true = ap (λ (z : Evaluation). not z.outcome) left ∙ ap not r.outcome in
      let whole : followed_where (not (evaluated a row).outcome) (evaluated a row) b (evaluated b row) ≡ followed_where true e b g = λ i. followed_where (goes i) (left i) b (right i) in
      record {
        row = row;
        sum = ap (λ (z : Evaluation). sum_along z.answers (es ++ fs)) whole ∙ (total true e b g es fs (long r.row) ∙ (λ i. r.sum i + w.sum i));
        outcome = ap (λ (z : Evaluation). z.outcome) whole ∙ w.outcome;
      }

  both_sum : (op : Bool → Bool → Bool) (u v : ℕ) (o z : Bool) (r : Reached a es u o) (w : Reached b fs v z) → sum_along (evaluated_both op (evaluated a (one_row r.row w.row)) (evaluated b (one_row r.row w.row))).answers (es ++ fs) ≡ u + v
  both_sum op u v o z r w =
      (λ i. sum_along (evaluated_both op (on_left r.row w.row i) (on_right r.row w.row i)).answers (es ++ fs))
      ∙ (sum_append (evaluated a r.row).answers (evaluated b w.row).answers es fs (long r.row) ∙ (λ i. r.sum i + w.sum i))

  both_outcome : (op : Bool → Bool → Bool) (u v : ℕ) (o z : Bool) (r : Reached a es u o) (w : Reached b fs v z) → (evaluated_both op (evaluated a (one_row r.row w.row)) (evaluated b (one_row r.row w.row))).outcome ≡ op o z
  both_outcome op u v o z r w =
      (λ i. op (on_left r.row w.row i).outcome (on_right r.row w.row i).outcome) ∙ (λ i. op (r.outcome i) (w.outcome i))

  paste_full_and : (u v : ℕ) (o z : Bool) → Reached a es u o → Reached b fs v z → Reached (FullAnd a b) (es ++ fs) (u + v) (o && z)
  paste_full_and u v o z r w = record { row = one_row r.row w.row; sum = both_sum (λ x y. x && y) u v o z r w; outcome = both_outcome (λ x y. x && y) u v o z r w }

  paste_full_or : (u v : ℕ) (o z : Bool) → Reached a es u o → Reached b fs v z → Reached (FullOr a b) (es ++ fs) (u + v) (o || z)
  paste_full_or u v o z r w = record { row = one_row r.row w.row; sum = both_sum (λ x y. x || y) u v o z r w; outcome = both_outcome (λ x y. x || y) u v o z r w }

  paste_full_xor : (u v : ℕ) (o z : Bool) → Reached a es u o → Reached b fs v z → Reached (FullXor a b) (es ++ fs) (u + v) (xor o z)
  paste_full_xor u v o z r w = record { row = one_row r.row w.row; sum = both_sum xor u v o z r w; outcome = both_outcome xor u v o z r w }

  -- ---- by the outcomes of the operands

  module _ (p q : Paths) (left : (s : ℕ) (o : Bool) → In s (pick o p) → Reached a es s o) (right : (s : ℕ) (o : Bool) → In s (pick o q) → Reached b fs s o) where
    as_sum : {t : Tree} {o : Bool} (s u v : ℕ) → s ≡ u + v → Reached t (es ++ fs) (u + v) o → Reached t (es ++ fs) s o
    as_sum {t = t} {o = o} s u v e r = subst (λ (z : ℕ). Reached t (es ++ fs) z o) (sym e) r

    and_reached : (s : ℕ) (o : Bool) → In s (pick o (joined logic.And p q)) → Reached (And a b) (es ++ fs) s o
    and_reached s true h =
        let k = out_sum s p.on_true q.on_true h in
        as_sum s k.left k.right k.sum (paste_and k.left k.right true (left k.left true k.on_left) (right k.right true k.on_right))
    and_reached s false h = go (out_append s p.on_false (p.on_true ⊗ q.on_false) h)
      where
        go : In s p.on_false ⊎ In s (p.on_true ⊗ q.on_false) → Reached (And a b) (es ++ fs) s false
        go (inl k) = stop_and a b es fs s long (left s false k)
        go (inr k) =
            let m = out_sum s p.on_true q.on_false k in
            as_sum s m.left m.right m.sum (paste_and m.left m.right false (left m.left true m.on_left) (right m.right false m.on_right))

    or_reached : (s : ℕ) (o : Bool) → In s (pick o (joined logic.Or p q)) → Reached (Or a b) (es ++ fs) s o
    or_reached s false h =
        let k = out_sum s p.on_false q.on_false h in
        as_sum s k.left k.right k.sum (paste_or k.left k.right false (left k.left false k.on_left) (right k.right false k.on_right))
    or_reached s true h = go (out_append s p.on_true (p.on_false ⊗ q.on_true) h)
      where
        go : In s p.on_true ⊎ In s (p.on_false ⊗ q.on_true) → Reached (Or a b) (es ++ fs) s true
        go (inl k) = stop_or a b es fs s long (left s true k)
        go (inr k) =
            let m = out_sum s p.on_false q.on_true k in
            as_sum s m.left m.right m.sum (paste_or m.left m.right true (left m.left false m.on_left) (right m.right true m.on_right))

    full_and : (s : ℕ) (o z : Bool) → IsSum s (pick o p) (pick z q) → Reached (FullAnd a b) (es ++ fs) s (o && z)
    full_and s o z k = as_sum s k.left k.right k.sum (paste_full_and k.left k.right o z (left k.left o k.on_left) (right k.right z k.on_right))

    full_or : (s : ℕ) (o z : Bool) → IsSum s (pick o p) (pick z q) → Reached (FullOr a b) (es ++ fs) s (o || z)
    full_or s o z k = as_sum s k.left k.right k.sum (paste_full_or k.left k.right o z (left k.left o k.on_left) (right k.right z k.on_right))

    full_xor : (s : ℕ) (o z : Bool) → IsSum s (pick o p) (pick z q) → Reached (FullXor a b) (es ++ fs) s (xor o z)
    full_xor s o z k = as_sum s k.left k.right k.sum (paste_full_xor k.left k.right o z (left k.left o k.on_left) (right k.right z k.on_right))

    full_and_reached : (s : ℕ) (o : Bool) → In s (pick o (both full.And p q)) → Reached (FullAnd a b) (es ++ fs) s o
    full_and_reached s true h = full_and s true true (out_sum s p.on_true q.on_true h)
    full_and_reached s false h = go (out_append s (p.on_true ⊗ q.on_false) ((p.on_false ⊗ q.on_true) ++ (p.on_false ⊗ q.on_false)) h)
      where
        last : In s (p.on_false ⊗ q.on_true) ⊎ In s (p.on_false ⊗ q.on_false) → Reached (FullAnd a b) (es ++ fs) s false
        last (inl k) = full_and s false true (out_sum s p.on_false q.on_true k)
        last (inr k) = full_and s false false (out_sum s p.on_false q.on_false k)

        go : In s (p.on_true ⊗ q.on_false) ⊎ In s ((p.on_false ⊗ q.on_true) ++ (p.on_false ⊗ q.on_false)) → Reached (FullAnd a b) (es ++ fs) s false
        go (inl k) = full_and s true false (out_sum s p.on_true q.on_false k)
        go (inr k) = last (out_append s (p.on_false ⊗ q.on_true) (p.on_false ⊗ q.on_false) k)

    full_or_reached : (s : ℕ) (o : Bool) → In s (pick o (both full.Or p q)) → Reached (FullOr a b) (es ++ fs) s o
    full_or_reached s false h = full_or s false false (out_sum s p.on_false q.on_false h)
    full_or_reached s true h = go (out_append s (p.on_true ⊗ q.on_true) ((p.on_true ⊗ q.on_false) ++ (p.on_false ⊗ q.on_true)) h)
      where
        last : In s (p.on_true ⊗ q.on_false) ⊎ In s (p.on_false ⊗ q.on_true) → Reached (FullOr a b) (es ++ fs) s true
        last (inl k) = full_or s true false (out_sum s p.on_true q.on_false k)
        last (inr k) = full_or s false true (out_sum s p.on_false q.on_true k)

        go : In s (p.on_true ⊗ q.on_true) ⊎ In s ((p.on_true ⊗ q.on_false) ++ (p.on_false ⊗ q.on_true)) → Reached (FullOr a b) (es ++ fs) s true
        go (inl k) = full_or s true true (out_sum s p.on_true q.on_true k)
        go (inr k) = last (out_append s (p.on_true ⊗ q.on_false) (p.on_false ⊗ q.on_true) k)

    full_xor_reached : (s : ℕ) (o : Bool) → In s (pick o (both full.Xor p q)) → Reached (FullXor a b) (es ++ fs) s o
    full_xor_reached s true h = go (out_append s (p.on_true ⊗ q.on_false) (p.on_false ⊗ q.on_true) h)
      where
        go : In s (p.on_true ⊗ q.on_false) ⊎ In s (p.on_false ⊗ q.on_true) → Reached (FullXor a b) (es ++ fs) s true
        go (inl k) = full_xor s true false (out_sum s p.on_true q.on_false k)
        go (inr k) = full_xor s false true (out_sum s p.on_false q.on_true k)
    full_xor_reached s false h = go (out_append s (p.on_true ⊗ q.on_true) (p.on_false ⊗ q.on_false) h)
      where
        go : In s (p.on_true ⊗ q.on_true) ⊎ In s (p.on_false ⊗ q.on_false) → Reached (FullXor a b) (es ++ fs) s false
        go (inl k) = full_xor s true true (out_sum s p.on_true q.on_true k)
        go (inr k) = full_xor s false false (out_sum s p.on_false q.on_false k)

pub each_reached : (t : Tree) (c x y : ℕ) (adds : ℕ → ℕ) → IsNumberedFrom c t → Adds adds c (false_edges t x y) → (s : ℕ) (o : Bool) → In s (pick o (sums t adds)) → Reached t (false_edges t x y) s o
each_reached (Leaf k) c x y adds n h s true (inl e) = record { row = λ j. true; sum = sym e; outcome = refl }
each_reached (Leaf k) c x y adds n h s true (inr e) = absurd e
each_reached (Leaf k) c x y adds n h s false (inl e) =
    let same : adds k ≡ x = ap adds n ∙ h.0 in
    record { row = λ j. false; sum = omega (arith, e, same); outcome = refl }
each_reached (Leaf k) c x y adds n h s false (inr e) = absurd e
each_reached (Not a) c x y adds n h s true i = not_reached a (false_edges a y x) s false true refl (each_reached a c y x adds n h s false i)
each_reached (Not a) c x y adds n h s false i = not_reached a (false_edges a y x) s true false refl (each_reached a c y x adds n h s true i)
each_reached (And a b) c x y adds n h s o i =
    let r : ℕ = room b x y in
    let es : List ℕ = false_edges a r y in
    let fs : List ℕ = false_edges b x y in
    and_reached a b c es fs n.0 n.1 (λ row. same_length a row r y) (sums a adds) (sums b adds)
    (each_reached a c r y adds n.0 (adds_left adds c es fs h))
    (each_reached b (c + size a) x y adds n.1 (adds_right adds c (c + size a) es fs (ap (λ (j : ℕ). c + j) (length_edges a r y)) h)) s o i
each_reached (Or a b) c x y adds n h s o i =
    let r : ℕ = room b x y in
    let es : List ℕ = false_edges a x r in
    let fs : List ℕ = false_edges b x y in
    or_reached a b c es fs n.0 n.1 (λ row. same_length a row x r) (sums a adds) (sums b adds)
    (each_reached a c x r adds n.0 (adds_left adds c es fs h))
    (each_reached b (c + size a) x y adds n.1 (adds_right adds c (c + size a) es fs (ap (λ (j : ℕ). c + j) (length_edges a x r)) h)) s o i
each_reached (FullAnd a b) c x y adds n h s o i =
    let r : ℕ = room b (max x y) y in
    let es : List ℕ = false_edges a r r in
    let fs : List ℕ = false_edges b (max x y) y in
    full_and_reached a b c es fs n.0 n.1 (λ row. same_length a row r r) (sums a adds) (sums b adds)
    (each_reached a c r r adds n.0 (adds_left adds c es fs h))
    (each_reached b (c + size a) (max x y) y adds n.1 (adds_right adds c (c + size a) es fs (ap (λ (j : ℕ). c + j) (length_edges a r r)) h)) s o i
each_reached (FullOr a b) c x y adds n h s o i =
    let r : ℕ = room b x (max x y) in
    let es : List ℕ = false_edges a r r in
    let fs : List ℕ = false_edges b x (max x y) in
    full_or_reached a b c es fs n.0 n.1 (λ row. same_length a row r r) (sums a adds) (sums b adds)
    (each_reached a c r r adds n.0 (adds_left adds c es fs h))
    (each_reached b (c + size a) x (max x y) adds n.1 (adds_right adds c (c + size a) es fs (ap (λ (j : ℕ). c + j) (length_edges a r r)) h)) s o i
each_reached (FullXor a b) c x y adds n h s o i =
    let r : ℕ = room b (max x y) (max x y) in
    let es : List ℕ = false_edges a r r in
    let fs : List ℕ = false_edges b (max x y) (max x y) in
    full_xor_reached a b c es fs n.0 n.1 (λ row. same_length a row r r) (sums a adds) (sums b adds)
    (each_reached a c r r adds n.0 (adds_left adds c es fs h))
    (each_reached b (c + size a) (max x y) (max x y) adds n.1 (adds_right adds c (c + size a) es fs (ap (λ (j : ℕ). c + j) (length_edges a r r)) h)) s o i

-- ---- the last bit of a decision

above : (o : Bool) (s : ℕ) (p : Paths) → In s (pick o p) → s ≤ max (greatest p.on_true) (greatest p.on_false)
above true s p h = let k = greatest_least s p.on_true h in omega (arith, k)
above false s p h = let k = greatest_least s p.on_false h in omega (arith, k)

pub end_is : (t : Tree) (adds : ℕ → ℕ) (base : ℕ) → IsNumberedFrom 0 t → Adds adds 0 (increments t) → end_of_paths base (sums t adds) ≡ base + count_of t
end_is t adds base n h =
    let last : ℕ = path_of t (all_false t) in
    let p : Paths = sums t adds in
    let most : (o : Bool) (s : ℕ) → In s (pick o p) → s ≤ last = λ o s i.
    let r = each_reached t 0 1 1 adds n h s o i in
    let below : path_of t (evaluated t r.row) < count_of t = vector_below t (evaluated t r.row) (r.row, refl) in
    let sum : path_of t (evaluated t r.row) ≡ s = r.sum in
    omega (arith, below, sum) in
    let on_true = greatest_most last p.on_true (most true) in
    let on_false = greatest_most last p.on_false (most false) in
    let there = above (all_false t).outcome last p (each_sum t 0 1 1 adds (λ k. false) n h) in
    omega (arith, on_true, on_false, there)
