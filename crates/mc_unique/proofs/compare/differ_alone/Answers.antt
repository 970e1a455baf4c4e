use Rattle.std.specs.Prelude.{bit_and, bit_xor}
use Rattle.mc_unique.proofs.Words.{bit_alone}
use Rattle.mc_unique.proofs.compare.differ_alone.Goals as goal

pub returns : goal.returns
returns c = bit_alone (bit_and (bit_xor c.args.one c.args.other) c.args.among) c.args.k c.requires
