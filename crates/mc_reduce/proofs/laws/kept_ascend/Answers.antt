use Rattle.mc_oblige.specs.Shown.{HasEvent}
use Rattle.mc_reduce.proofs.Ascending as ascending
use Rattle.mc_reduce.proofs.laws.kept_ascend.Goals as goal

pub returns : goal.returns
returns c = λ m x mode kept are. ascending.kept_ascend (HasEvent m x) m mode x.shape.tests kept are
