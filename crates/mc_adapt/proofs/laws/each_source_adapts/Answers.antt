use Rattle.mc_adapt.proofs.Once.{some_thing}
use Rattle.mc_adapt.proofs.laws.each_source_adapts.Goals as goal

pub returns : goal.returns
returns c = λ source. some_thing source
