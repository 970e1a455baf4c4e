use Rattle.mc_paths.proofs.Setting.{bit_more}
use Rattle.mc_paths.proofs.masks.with_bit.Goals as goal

pub returns-then-set : goal.returns-then-set
returns-then-set c = rw c.if-set.true (bit_more c.args.word c.args.k c.requires)
