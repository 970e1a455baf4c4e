use Rattle.laws_station.proofs.Ends.{ends_are_told}
use Rattle.laws_station.proofs.texts.ends_are_told.Goals as goal

pub returns : goal.returns
returns c = ends_are_told
