use Rattle.laws_recorded.proofs.Recorded.{events_are_kept}
use Rattle.laws_recorded.proofs.laws.events_are_kept.Goals as goal

pub returns : goal.returns
returns c = events_are_kept
