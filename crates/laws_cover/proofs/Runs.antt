-- Any steps keep the rule.
use Rattle.std.proofs.Common.{List, [], ◌∷◌, sym, subst}
use Rattle.mc_core.specs.declared.shape.Shape.{Shape}
use Rattle.mc_cover.specs.Rule.{Shared, IsKept}
use Rattle.mc_cover.specs.Steps.{opened, StepsKeep}
use Rattle.mc_cover.proofs.Opened.{kept_opened}
use Rattle.mc_cover.proofs.Keeping.{keep}
use Rattle.mc_cover.proofs.Words.{ruled}
use Rattle.laws_cover.specs.Runs.{Step, Fork, Claim, Hit, Join, Look, IsStep, AreSteps}
use Rattle.laws_cover.specs.Laws.{StepsKeepRule}

module _ (k : Shape) where
  step_kept : (s t : Shared) (step : Step) → StepsKeep k s → IsStep k s step t → IsKept k t
  step_kept s t (Fork id) all is = subst (IsKept k) (sym is.4) (all.fork id is.0 is.1 is.2 is.3)
  step_kept s t (Claim id) all is = subst (IsKept k) (sym is.4) (all.claim id is.0 is.1 is.2 is.3)
  step_kept s t (Hit id bit test) all is = subst (IsKept k) (sym is.5) (all.hit id is.0 bit test is.1 is.2 is.3 is.4)
  step_kept s t (Join id other) all is = subst (IsKept k) (sym is.6) (all.join id is.0 other is.1 is.2 is.3 is.4 is.5)
  step_kept s t (Look id index) all is = subst (IsKept k) (sym is.3) (all.look id is.0 index is.1 is.2)

  pub one_kept : (s t : Shared) (step : Step) → IsKept k s → IsStep k s step t → IsKept k t
  one_kept s t step kept is = step_kept s t step (keep k s kept) is

  pub all_kept : (s t : Shared) (steps : List Step) → IsKept k s → AreSteps k s steps t → IsKept k t
  all_kept s t [] kept are = subst (IsKept k) (sym are) kept
  all_kept s t (step ∷ steps) kept are = all_kept are.0 t steps (one_kept s are.0 step kept are.1) are.2

pub steps_keep_the_rule : StepsKeepRule
steps_keep_the_rule k steps t are = ruled k t (all_kept k (opened k) t steps (kept_opened k) are)
