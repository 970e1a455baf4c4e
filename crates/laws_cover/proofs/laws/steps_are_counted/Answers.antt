use Rattle.laws_cover.proofs.Counted.{steps_are_counted}
use Rattle.laws_cover.proofs.laws.steps_are_counted.Goals as goal

pub returns : goal.returns
returns c = steps_are_counted
