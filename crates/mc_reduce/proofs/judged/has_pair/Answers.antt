use Rattle.mc_reduce.proofs.Judging.{not_true}
use Rattle.mc_reduce.proofs.judged.has_pair.Goals as goal

pub returns-in-None : goal.returns-in-None
returns-in-None c = (
  λ e. absurd (not_true e),
  λ h. absurd (c.in-None.ensures.none h),
)
