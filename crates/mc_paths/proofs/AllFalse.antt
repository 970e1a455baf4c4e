-- The evaluation in which each condition is false, operand by operand.
use Rattle.std.proofs.Common.{◌≡◌, ℕ, ◌+◌, ◌≤◌, Bool, true, false, not, List, ◌++◌, length, refl, sym, ap, ◌∙◌, arith}
use Rattle.std.specs.Prelude.{max}
use Rattle.mc_cond.specs.Tree.{Tree, And, Or, FullAnd, FullOr, FullXor}
use Rattle.mc_cond.specs.Vectors.{Row, Evaluation, followed_where, evaluated}
use Rattle.mc_paths.specs.Paths.{room, false_edges, sum_along, all_false}
use Rattle.mc_paths.specs.steps.Bounds.{AreWithin}
use Rattle.mc_paths.proofs.Counting.{carry, total, sum_append, same_length, fits, whole_within}

-- the sum of a part with rooms x and y after it
abbrev pub sum_of : Tree → ℕ → ℕ → ℕ
sum_of t x y = sum_along (all_false t).answers (false_edges t x y)

pub sum_most : (t : Tree) (x y limit : ℕ) → AreWithin limit t x y → sum_of t x y ≤ limit
sum_most t x y limit h = omega (arith, fits t (λ k. false) x y, whole_within t x y limit h)

through : (n : Bool) (e : Evaluation) (b : Tree) (g : Evaluation) (es fs : List ℕ) → length e.answers ≡ length es → n ≡ true
    → (sum_along (followed_where n e b g).answers (es ++ fs) ≡ sum_along e.answers es + sum_along g.answers fs) × ((followed_where n e b g).outcome ≡ g.outcome)
through true e b g es fs h on = (total true e b g es fs h, refl)
through false e b g es fs h on = cc

past : (n : Bool) (e : Evaluation) (b : Tree) (g : Evaluation) (es fs : List ℕ) → length e.answers ≡ length es → n ≡ false
    → (sum_along (followed_where n e b g).answers (es ++ fs) ≡ sum_along e.answers es) × ((followed_where n e b g).outcome ≡ e.outcome)
past true e b g es fs h off = cc
past false e b g es fs h off = (omega (arith, total false e b g es fs h), refl)

pub and_through : (a b : Tree) (x y : ℕ) → (all_false a).outcome ≡ true
    → (sum_of (And a b) x y ≡ sum_of a (room b x y) y + sum_of b x y) × ((all_false (And a b)).outcome ≡ (all_false b).outcome)
and_through a b x y on = through (all_false a).outcome (all_false a) b (all_false b) (false_edges a (room b x y) y) (false_edges b x y) (same_length a (λ k. false) (room b x y) y) on

pub and_past : (a b : Tree) (x y : ℕ) → (all_false a).outcome ≡ false
    → (sum_of (And a b) x y ≡ sum_of a (room b x y) y) × ((all_false (And a b)).outcome ≡ (all_false a).outcome)
and_past a b x y off = past (all_false a).outcome (all_false a) b (all_false b) (false_edges a (room b x y) y) (false_edges b x y) (same_length a (λ k. false) (room b x y) y) off

pub or_through : (a b : Tree) (x y : ℕ) → (all_false a).outcome ≡ false
    → (sum_of (Or a b) x y ≡ sum_of a x (room b x y) + sum_of b x y) × ((all_false (Or a b)).outcome ≡ (all_false b).outcome)
or_through a b x y off = through (not (all_false a).outcome) (all_false a) b (all_false b) (false_edges a x (room b x y)) (false_edges b x y) (same_length a (λ k. false) x (room b x y)) (ap not off)

pub or_past : (a b : Tree) (x y : ℕ) → (all_false a).outcome ≡ true
    → (sum_of (Or a b) x y ≡ sum_of a x (room b x y)) × ((all_false (Or a b)).outcome ≡ (all_false a).outcome)
or_past a b x y on = past (not (all_false a).outcome) (all_false a) b (all_false b) (false_edges a x (room b x y)) (false_edges b x y) (same_length a (λ k. false) x (room b x y)) (ap not on)

pub sum_full_and : (a b : Tree) (x y : ℕ) → sum_of (FullAnd a b) x y ≡ sum_of a (room b (max x y) y) (room b (max x y) y) + sum_of b (max x y) y
sum_full_and a b x y = sum_append (all_false a).answers (all_false b).answers (false_edges a (room b (max x y) y) (room b (max x y) y)) (false_edges b (max x y) y) (same_length a (λ k. false) (room b (max x y) y) (room b (max x y) y))

pub sum_full_or : (a b : Tree) (x y : ℕ) → sum_of (FullOr a b) x y ≡ sum_of a (room b x (max x y)) (room b x (max x y)) + sum_of b x (max x y)
sum_full_or a b x y = sum_append (all_false a).answers (all_false b).answers (false_edges a (room b x (max x y)) (room b x (max x y))) (false_edges b x (max x y)) (same_length a (λ k. false) (room b x (max x y)) (room b x (max x y)))

pub sum_full_xor : (a b : Tree) (x y : ℕ) → sum_of (FullXor a b) x y ≡ sum_of a (room b (max x y) (max x y)) (room b (max x y) (max x y)) + sum_of b (max x y) (max x y)
sum_full_xor a b x y = sum_append (all_false a).answers (all_false b).answers (false_edges a (room b (max x y) (max x y)) (room b (max x y) (max x y))) (false_edges b (max x y) (max x y)) (same_length a (λ k. false) (room b (max x y) (max x y)) (room b (max x y) (max x y)))
