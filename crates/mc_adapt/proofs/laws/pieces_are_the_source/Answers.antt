use Rattle.std.proofs.Common.{[]}
use Rattle.mc_adapt.specs.States.{start}
use Rattle.mc_adapt.proofs.Lines.{bytes_are}
use Rattle.mc_adapt.proofs.laws.pieces_are_the_source.Goals as goal

pub returns : goal.returns
returns c = λ source ps h. bytes_are start [] source ps h
