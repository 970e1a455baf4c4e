use Rattle.mc_oblige.specs.Shown.{HasEvent}
use Rattle.mc_reduce.proofs.Keeping.{reduced_one}
use Rattle.mc_reduce.proofs.laws.reduced_is_one.Goals as goal

pub returns : goal.returns
returns c = λ m x mode kept lost also too h g. reduced_one (HasEvent m x) m mode x.shape.tests kept lost also too h g
