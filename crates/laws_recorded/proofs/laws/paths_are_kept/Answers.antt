use Rattle.laws_recorded.proofs.Recorded.{paths_are_kept}
use Rattle.laws_recorded.proofs.laws.paths_are_kept.Goals as goal

pub returns : goal.returns
returns c = paths_are_kept
