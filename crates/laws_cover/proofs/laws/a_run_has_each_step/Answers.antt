use Rattle.laws_cover.proofs.Worked.{a_run_has_each_step}
use Rattle.laws_cover.proofs.laws.a_run_has_each_step.Goals as goal

pub returns : goal.returns
returns c = a_run_has_each_step
