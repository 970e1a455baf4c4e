use Rattle.laws_recorded.proofs.Recorded.{verdicts_are_kept}
use Rattle.laws_recorded.proofs.laws.verdicts_are_kept.Goals as goal

pub returns : goal.returns
returns c = verdicts_are_kept
