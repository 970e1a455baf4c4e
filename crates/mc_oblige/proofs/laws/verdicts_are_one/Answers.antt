use Rattle.mc_oblige.specs.Shown.{HasEvent}
use Rattle.mc_oblige.proofs.Single.{one}
use Rattle.mc_oblige.proofs.laws.verdicts_are_one.Goals as goal

pub returns : goal.returns
returns c = λ m x mode named vs ws h g. one (HasEvent m x) m mode named vs ws h g
