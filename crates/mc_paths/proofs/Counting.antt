-- Rooms, and sums along evaluations.
use Rattle.std.proofs.Common.{◌≡◌, ℕ, zero, suc, ◌+◌, ◌-◌, ◌*◌, ◌^◌, ◌<◌, ◌≤◌, Bool, true, false, not, ◌&&◌, ◌||◌, Option, Some, None, List, [], ◌∷◌, ◌++◌, length, replicate, refl, sym, ◌∙◌, arith, length-append}
use Rattle.std.specs.Prelude.{if◌then◌else◌, max}
use Rattle.std.proofs.lemmas.Nat.{pow-add}
use Rattle.std.proofs.Math.Nat.{mul_assoc, le-max_left, le-max_right, max-le}
use Rattle.std.proofs.Math.Pow.{pow_mono}
use Rattle.mc_cond.specs.Tree.{Tree, Leaf, Not, And, Or, FullAnd, FullOr, FullXor, size, IsShort}
use Rattle.mc_cond.specs.Vectors.{Row, Evaluation, xor, skipped, followed_where, evaluated}
use Rattle.mc_cond.proofs.Rows.{length_answers}
use Rattle.mc_paths.specs.Paths.{room, false_edges, sum_along, all_false, path_of, count_of}
use Rattle.mc_paths.specs.steps.Bounds.{AreWithin}

-- the room of what comes after an outcome
abbrev pub side : Bool → ℕ → ℕ → ℕ
side o x y = if o then x else y

-- the room of a tree is at least that of what comes after either value
pub room_least : (t : Tree) (x y : ℕ) → (x ≤ room t x y) × (y ≤ room t x y)
room_least (Leaf k) x y = (omega arith, omega arith)
room_least (Not a) x y =
    let p : (y ≤ room a y x) × (x ≤ room a y x) = room_least a y x in
    (p.1, p.0)
room_least (And a b) x y =
    let q : (x ≤ room b x y) × (y ≤ room b x y) = room_least b x y in
    let p : (room b x y ≤ room a (room b x y) y) × (y ≤ room a (room b x y) y) = room_least a (room b x y) y in
    (omega (arith, p.0, q.0), p.1)
room_least (Or a b) x y =
    let q : (x ≤ room b x y) × (y ≤ room b x y) = room_least b x y in
    let p : (x ≤ room a x (room b x y)) × (room b x y ≤ room a x (room b x y)) = room_least a x (room b x y) in
    (p.0, omega (arith, p.1, q.1))
room_least (FullAnd a b) x y =
    let q : ((max x y) ≤ room b (max x y) y) × (y ≤ room b (max x y) y) = room_least b (max x y) y in
    let left : x ≤ room b (max x y) y = omega (arith, q.0, le-max_left x y) in
    let right : y ≤ room b (max x y) y = q.1 in
    let p : (room b (max x y) y ≤ room a (room b (max x y) y) (room b (max x y) y)) × (room b (max x y) y ≤ room a (room b (max x y) y) (room b (max x y) y)) = room_least a (room b (max x y) y) (room b (max x y) y) in
    (omega (arith, p.0, left), omega (arith, p.1, right))
room_least (FullOr a b) x y =
    let q : (x ≤ room b x (max x y)) × ((max x y) ≤ room b x (max x y)) = room_least b x (max x y) in
    let left : x ≤ room b x (max x y) = q.0 in
    let right : y ≤ room b x (max x y) = omega (arith, q.1, le-max_right x y) in
    let p : (room b x (max x y) ≤ room a (room b x (max x y)) (room b x (max x y))) × (room b x (max x y) ≤ room a (room b x (max x y)) (room b x (max x y))) = room_least a (room b x (max x y)) (room b x (max x y)) in
    (omega (arith, p.0, left), omega (arith, p.1, right))
room_least (FullXor a b) x y =
    let q : ((max x y) ≤ room b (max x y) (max x y)) × ((max x y) ≤ room b (max x y) (max x y)) = room_least b (max x y) (max x y) in
    let left : x ≤ room b (max x y) (max x y) = omega (arith, q.0, le-max_left x y) in
    let right : y ≤ room b (max x y) (max x y) = omega (arith, q.1, le-max_right x y) in
    let p : (room b (max x y) (max x y) ≤ room a (room b (max x y) (max x y)) (room b (max x y) (max x y))) × (room b (max x y) (max x y) ≤ room a (room b (max x y) (max x y)) (room b (max x y) (max x y))) = room_least a (room b (max x y) (max x y)) (room b (max x y) (max x y)) in
    (omega (arith, p.0, left), omega (arith, p.1, right))

pub true_least : (t : Tree) (x y : ℕ) → x ≤ room t x y
true_least t x y = (room_least t x y).0

pub false_least : (t : Tree) (x y : ℕ) → y ≤ room t x y
false_least t x y = (room_least t x y).1

-- no condition has more room than the whole tree
pub within_whole : (t : Tree) (x y limit : ℕ) → room t x y ≤ limit → AreWithin limit t x y
within_whole (Leaf k) x y limit h = h
within_whole (Not a) x y limit h = within_whole a y x limit h
within_whole (And a b) x y limit h = (within_whole b x y limit (omega (arith, h, true_least a (room b x y) y)), within_whole a (room b x y) y limit h)
within_whole (Or a b) x y limit h = (within_whole b x y limit (omega (arith, h, false_least a x (room b x y))), within_whole a x (room b x y) limit h)
within_whole (FullAnd a b) x y limit h = (within_whole b (max x y) y limit (omega (arith, h, true_least a (room b (max x y) y) (room b (max x y) y))), within_whole a (room b (max x y) y) (room b (max x y) y) limit h)
within_whole (FullOr a b) x y limit h = (within_whole b x (max x y) limit (omega (arith, h, true_least a (room b x (max x y)) (room b x (max x y)))), within_whole a (room b x (max x y)) (room b x (max x y)) limit h)
within_whole (FullXor a b) x y limit h = (within_whole b (max x y) (max x y) limit (omega (arith, h, true_least a (room b (max x y) (max x y)) (room b (max x y) (max x y)))), within_whole a (room b (max x y) (max x y)) (room b (max x y) (max x y)) limit h)

pub whole_within : (t : Tree) (x y limit : ℕ) → AreWithin limit t x y → room t x y ≤ limit
whole_within (Leaf k) x y limit h = h
whole_within (Not a) x y limit h = whole_within a y x limit h
whole_within (And a b) x y limit h = whole_within a (room b x y) y limit h.1
whole_within (Or a b) x y limit h = whole_within a x (room b x y) limit h.1
whole_within (FullAnd a b) x y limit h = whole_within a (room b (max x y) y) (room b (max x y) y) limit h.1
whole_within (FullOr a b) x y limit h = whole_within a (room b x (max x y)) (room b x (max x y)) limit h.1
whole_within (FullXor a b) x y limit h = whole_within a (room b (max x y) (max x y)) (room b (max x y) (max x y)) limit h.1

-- two bounds in one power
one_power : (n a b m : ℕ) → n ≤ 2 ^ a * (2 ^ b * m) → n ≤ 2 ^ (a + b) * m
one_power n a b m h = rw (pow-add 2 a b, mul_assoc (2 ^ a) (2 ^ b) m) h

-- where the rooms of what comes after are at most m, each condition at most doubles the room
pub room_most : (t : Tree) (x y m : ℕ) → x ≤ m → y ≤ m → room t x y ≤ 2 ^ size t * m
room_most (Leaf k) x y m hx hy = omega (arith, hx, hy)
room_most (Not a) x y m hx hy = room_most a y x m hy hx
room_most (And a b) x y m hx hy =
    let within : room b x y ≤ 2 ^ size b * m = room_most b x y m hx hy in
    let past : y ≤ 2 ^ size b * m = omega (arith, within, false_least b x y) in
    one_power (room a (room b x y) y) (size a) (size b) m (room_most a (room b x y) y (2 ^ size b * m) within past)
room_most (Or a b) x y m hx hy =
    let within : room b x y ≤ 2 ^ size b * m = room_most b x y m hx hy in
    let past : x ≤ 2 ^ size b * m = omega (arith, within, true_least b x y) in
    one_power (room a x (room b x y)) (size a) (size b) m (room_most a x (room b x y) (2 ^ size b * m) past within)
room_most (FullAnd a b) x y m hx hy =
    let within : room b (max x y) y ≤ 2 ^ size b * m = room_most b (max x y) y m (max-le hx hy) hy in
    one_power (room a (room b (max x y) y) (room b (max x y) y)) (size a) (size b) m (room_most a (room b (max x y) y) (room b (max x y) y) (2 ^ size b * m) within within)
room_most (FullOr a b) x y m hx hy =
    let within : room b x (max x y) ≤ 2 ^ size b * m = room_most b x (max x y) m hx (max-le hx hy) in
    one_power (room a (room b x (max x y)) (room b x (max x y))) (size a) (size b) m (room_most a (room b x (max x y)) (room b x (max x y)) (2 ^ size b * m) within within)
room_most (FullXor a b) x y m hx hy =
    let within : room b (max x y) (max x y) ≤ 2 ^ size b * m = room_most b (max x y) (max x y) m (max-le hx hy) (max-le hx hy) in
    one_power (room a (room b (max x y) (max x y)) (room b (max x y) (max x y))) (size a) (size b) m (room_most a (room b (max x y) (max x y)) (room b (max x y) (max x y)) (2 ^ size b * m) within within)

-- the room of a decision fits its type
pub room_fits : (t : Tree) → size t ≤ 64 → AreWithin (2 ^ 128 - 1) t 1 1
room_fits t few =
    let power : 2 ^ size t ≤ 2 ^ 64 = pow_mono few in
    let most : room t 1 1 ≤ 2 ^ 128 - 1 = omega (arith, power, room_most t 1 1 1 (omega arith) (omega arith)) in
    within_whole t 1 1 (2 ^ 128 - 1) most

-- an increment for each condition
pub length_edges : (t : Tree) (x y : ℕ) → length (false_edges t x y) ≡ size t
length_edges (Leaf k) x y = refl
length_edges (Not a) x y = length_edges a y x
length_edges (And a b) x y = length-append (false_edges a (room b x y) y) (false_edges b x y) ∙ omega (arith, length_edges a (room b x y) y, length_edges b x y)
length_edges (Or a b) x y = length-append (false_edges a x (room b x y)) (false_edges b x y) ∙ omega (arith, length_edges a x (room b x y), length_edges b x y)
length_edges (FullAnd a b) x y = length-append (false_edges a (room b (max x y) y) (room b (max x y) y)) (false_edges b (max x y) y) ∙ omega (arith, length_edges a (room b (max x y) y) (room b (max x y) y), length_edges b (max x y) y)
length_edges (FullOr a b) x y = length-append (false_edges a (room b x (max x y)) (room b x (max x y))) (false_edges b x (max x y)) ∙ omega (arith, length_edges a (room b x (max x y)) (room b x (max x y)), length_edges b x (max x y))
length_edges (FullXor a b) x y = length-append (false_edges a (room b (max x y) (max x y)) (room b (max x y) (max x y))) (false_edges b (max x y) (max x y)) ∙ omega (arith, length_edges a (room b (max x y) (max x y)) (room b (max x y) (max x y)), length_edges b (max x y) (max x y))

pub sum_append : (xs ys : List (Option Bool)) (es fs : List ℕ) → length xs ≡ length es → sum_along (xs ++ ys) (es ++ fs) ≡ sum_along xs es + sum_along ys fs
sum_append [] ys [] fs e = omega arith
sum_append [] ys (e ∷ es) fs h = absurd (omega (arith, h))
sum_append (x ∷ xs) ys [] fs h = absurd (omega (arith, h))
sum_append (Some true ∷ xs) ys (e ∷ es) fs h = sum_append xs ys es fs (omega (arith, h))
sum_append (Some false ∷ xs) ys (e ∷ es) fs h =
    let more : sum_along (xs ++ ys) (es ++ fs) ≡ sum_along xs es + sum_along ys fs = sum_append xs ys es fs (omega (arith, h)) in
    omega (arith, more)
sum_append (None ∷ xs) ys (e ∷ es) fs h = sum_append xs ys es fs (omega (arith, h))

pub sum_none : (n : ℕ) (es : List ℕ) → sum_along (replicate n None) es ≡ 0
sum_none zero es = refl
sum_none (suc n) [] = refl
sum_none (suc n) (e ∷ es) = sum_none n es

pub same_length : (t : Tree) (row : Row) (x y : ℕ) → length (evaluated t row).answers ≡ length (false_edges t x y)
same_length t row x y = length_answers t row ∙ sym (length_edges t x y)

-- what the second operand adds
abbrev pub carry : Bool → Evaluation → List ℕ → ℕ
carry true g es = sum_along g.answers es
carry false g es = 0

pub total : (n : Bool) (e : Evaluation) (b : Tree) (g : Evaluation) (es fs : List ℕ) → length e.answers ≡ length es → sum_along (followed_where n e b g).answers (es ++ fs) ≡ sum_along e.answers es + carry n g fs
total true e b g es fs h = sum_append e.answers g.answers es fs h
total false e b g es fs h = omega (arith, sum_append e.answers (skipped b) es fs h, sum_none (size b) fs)

-- how the first operand leads on by x or y: into the second where it is needed, of which `within` is the room, else past it
abbrev pub Leads : Bool → Bool → ℕ → ℕ → ℕ → ℕ → ℕ → Type 0
Leads true o u w within x y = side o u w ≡ within
Leads false o u w within x y = side o u w ≡ side o x y

pub leads_and : (within x y : ℕ) (o : Bool) → Leads o o within y within x y
leads_and within x y true = refl
leads_and within x y false = refl

pub leads_or : (within x y : ℕ) (o : Bool) → Leads (not o) o x within within x y
leads_or within x y true = refl
leads_or within x y false = refl

-- what the second operand adds, with the room after it, is within the room after the first
pub led : (n : Bool) (e : Evaluation) (b : Tree) (g : Evaluation) (fs : List ℕ) (u w within x y : ℕ) → Leads n e.outcome u w within x y
    → sum_along g.answers fs + side g.outcome x y ≤ within → carry n g fs + side (followed_where n e b g).outcome x y ≤ side e.outcome u w
led true e b g fs u w within x y leads second = omega (arith, leads, second)
led false e b g fs u w within x y leads second = omega (arith, leads)

-- the same where both are evaluated: p and q are the rooms after the second operand
pub side_same : (o : Bool) (s : ℕ) → side o s s ≡ s
side_same true s = refl
side_same false s = refl

pub side_and : (x y : ℕ) (o p : Bool) → side (o && p) x y ≤ side p (max x y) y
side_and x y true true = le-max_left x y
side_and x y true false = omega arith
side_and x y false true = le-max_right x y
side_and x y false false = omega arith

pub side_or : (x y : ℕ) (o p : Bool) → side (o || p) x y ≤ side p x (max x y)
side_or x y true true = omega arith
side_or x y true false = le-max_left x y
side_or x y false true = omega arith
side_or x y false false = le-max_right x y

pub side_xor : (x y : ℕ) (o p : Bool) → side (xor o p) x y ≤ side p (max x y) (max x y)
side_xor x y true true = le-max_right x y
side_xor x y true false = le-max_left x y
side_xor x y false true = le-max_left x y
side_xor x y false false = le-max_right x y

pub led_both : (o : Bool) (g : Evaluation) (fs : List ℕ) (s p q n : ℕ) → n ≤ side g.outcome p q
    → sum_along g.answers fs + side g.outcome p q ≤ s → sum_along g.answers fs + n ≤ side o s s
led_both o g fs s p q n less second = omega (arith, side_same o s, less, second)

-- the number of an evaluation, with the room after it, is within the room of the tree
fits_followed : (n : Bool) (e : Evaluation) (b : Tree) (g : Evaluation) (es fs : List ℕ) (u w within x y most : ℕ) → length e.answers ≡ length es → Leads n e.outcome u w within x y
    → sum_along e.answers es + side e.outcome u w ≤ most → sum_along g.answers fs + side g.outcome x y ≤ within
    → sum_along (followed_where n e b g).answers (es ++ fs) + side (followed_where n e b g).outcome x y ≤ most
fits_followed n e b g es fs u w within x y most h leads first second = omega (arith, total n e b g es fs h, first, led n e b g fs u w within x y leads second)

fits_both : (e g : Evaluation) (es fs : List ℕ) (s p q n most : ℕ) → length e.answers ≡ length es → n ≤ side g.outcome p q
    → sum_along e.answers es + side e.outcome s s ≤ most → sum_along g.answers fs + side g.outcome p q ≤ s
    → sum_along (e.answers ++ g.answers) (es ++ fs) + n ≤ most
fits_both e g es fs s p q n most h less first second = omega (arith, sum_append e.answers g.answers es fs h, first, led_both e.outcome g fs s p q n less second)

pub side_not : (o : Bool) (x y : ℕ) → side (not o) x y ≡ side o y x
side_not true x y = refl
side_not false x y = refl

fits_leaf : (o : Bool) (x y : ℕ) → sum_along (Some o ∷ []) (x ∷ []) + side o x y ≤ x + y
fits_leaf true x y = omega arith
fits_leaf false x y = omega arith

pub fits : (t : Tree) (row : Row) (x y : ℕ) → sum_along (evaluated t row).answers (false_edges t x y) + side (evaluated t row).outcome x y ≤ room t x y
fits (Leaf k) row x y = fits_leaf (row k) x y
fits (Not a) row x y = rw (side_not (evaluated a row).outcome x y) (fits a row y x)
fits (And a b) row x y =
    let o : Bool = (evaluated a row).outcome in
    fits_followed o (evaluated a row) b (evaluated b row) (false_edges a (room b x y) y) (false_edges b x y) (room b x y) y (room b x y) x y (room a (room b x y) y)
    (same_length a row (room b x y) y) (leads_and (room b x y) x y o) (fits a row (room b x y) y) (fits b row x y)
fits (Or a b) row x y =
    let o : Bool = (evaluated a row).outcome in
    fits_followed (not o) (evaluated a row) b (evaluated b row) (false_edges a x (room b x y)) (false_edges b x y) x (room b x y) (room b x y) x y (room a x (room b x y))
    (same_length a row x (room b x y)) (leads_or (room b x y) x y o) (fits a row x (room b x y)) (fits b row x y)
fits (FullAnd a b) row x y =
    let o : Bool = (evaluated a row).outcome in
    let p : Bool = (evaluated b row).outcome in
    fits_both (evaluated a row) (evaluated b row) (false_edges a (room b (max x y) y) (room b (max x y) y)) (false_edges b (max x y) y) (room b (max x y) y) (max x y) y (side ((λ (o : Bool) (p : Bool). o && p) o p) x y) (room a (room b (max x y) y) (room b (max x y) y))
    (same_length a row (room b (max x y) y) (room b (max x y) y)) (side_and x y o p) (fits a row (room b (max x y) y) (room b (max x y) y)) (fits b row (max x y) y)
fits (FullOr a b) row x y =
    let o : Bool = (evaluated a row).outcome in
    let p : Bool = (evaluated b row).outcome in
    fits_both (evaluated a row) (evaluated b row) (false_edges a (room b x (max x y)) (room b x (max x y))) (false_edges b x (max x y)) (room b x (max x y)) x (max x y) (side ((λ (o : Bool) (p : Bool). o || p) o p) x y) (room a (room b x (max x y)) (room b x (max x y)))
    (same_length a row (room b x (max x y)) (room b x (max x y))) (side_or x y o p) (fits a row (room b x (max x y)) (room b x (max x y))) (fits b row x (max x y))
fits (FullXor a b) row x y =
    let o : Bool = (evaluated a row).outcome in
    let p : Bool = (evaluated b row).outcome in
    fits_both (evaluated a row) (evaluated b row) (false_edges a (room b (max x y) (max x y)) (room b (max x y) (max x y))) (false_edges b (max x y) (max x y)) (room b (max x y) (max x y)) (max x y) (max x y) (side (xor o p) x y) (room a (room b (max x y) (max x y)) (room b (max x y) (max x y)))
    (same_length a row (room b (max x y) (max x y)) (room b (max x y) (max x y))) (side_xor x y o p) (fits a row (room b (max x y) (max x y)) (room b (max x y) (max x y))) (fits b row (max x y) (max x y))

-- so the count of a decision is at most its room
pub one : (o : Bool) → side o 1 1 ≡ 1
one true = refl
one false = refl

pub count_most : (t : Tree) → count_of t ≤ room t 1 1
count_most t = omega (arith, fits t (λ k. false) 1 1, one (all_false t).outcome)

pub count_fits : (t : Tree) → size t ≤ 64 → count_of t ≤ 2 ^ 128 - 1
count_fits t few = omega (arith, count_most t, whole_within t 1 1 (2 ^ 128 - 1) (room_fits t few))

-- without operators that are evaluated in full it is its room
whole_followed : (n : Bool) (e : Evaluation) (b : Tree) (g : Evaluation) (es fs : List ℕ) (u w within x y most : ℕ) → length e.answers ≡ length es → Leads n e.outcome u w within x y
    → sum_along e.answers es + side e.outcome u w ≡ most → sum_along g.answers fs + side g.outcome x y ≡ within
    → sum_along (followed_where n e b g).answers (es ++ fs) + side (followed_where n e b g).outcome x y ≡ most
whole_followed true e b g es fs u w within x y most h leads first second = omega (arith, total true e b g es fs h, leads, first, second)
whole_followed false e b g es fs u w within x y most h leads first second = omega (arith, total false e b g es fs h, leads, first)

whole_short : (t : Tree) (x y : ℕ) → IsShort t → sum_along (all_false t).answers (false_edges t x y) + side (all_false t).outcome x y ≡ room t x y
whole_short (Leaf k) x y short = omega arith
whole_short (Not a) x y short = rw (side_not (all_false a).outcome x y) (whole_short a y x short)
whole_short (And a b) x y short =
    let o : Bool = (all_false a).outcome in
    whole_followed o (all_false a) b (all_false b) (false_edges a (room b x y) y) (false_edges b x y) (room b x y) y (room b x y) x y (room a (room b x y) y)
    (same_length a (λ k. false) (room b x y) y) (leads_and (room b x y) x y o) (whole_short a (room b x y) y short.0) (whole_short b x y short.1)
whole_short (Or a b) x y short =
    let o : Bool = (all_false a).outcome in
    whole_followed (not o) (all_false a) b (all_false b) (false_edges a x (room b x y)) (false_edges b x y) x (room b x y) (room b x y) x y (room a x (room b x y))
    (same_length a (λ k. false) x (room b x y)) (leads_or (room b x y) x y o) (whole_short a x (room b x y) short.0) (whole_short b x y short.1)
whole_short (FullAnd a b) x y short = absurd short
whole_short (FullOr a b) x y short = absurd short
whole_short (FullXor a b) x y short = absurd short

pub count_short : (t : Tree) → IsShort t → count_of t ≡ room t 1 1
count_short t short = omega (arith, whole_short t 1 1 short, one (all_false t).outcome)
