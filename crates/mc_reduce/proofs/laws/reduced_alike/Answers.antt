use Rattle.std.proofs.Common.{ℕ, subst}
use Rattle.mc_oblige.specs.Shown.{HasEvent}
use Rattle.mc_reduce.specs.Kept.{IsReduced}
use Rattle.mc_reduce.proofs.Alike.{same_reduced}
use Rattle.mc_reduce.proofs.laws.reduced_alike.Goals as goal

pub returns : goal.returns
returns c = λ m x y mode kept lost tests same are.
    same_reduced (HasEvent m x) (HasEvent m y) same m mode y.shape.tests kept lost
    (subst (λ (n : ℕ). IsReduced (HasEvent m x) m mode n kept lost) tests are)
