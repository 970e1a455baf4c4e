use Rattle.std.proofs.Common.{arith}
use Rattle.interp_words.proofs.Patterns.{xor_words}
use Rattle.interp_words.proofs.bits.xor.Goals as goal

pub returns : goal.returns
returns c =
    xor_words c.args.of c.requires.type_promoted c.args.left c.args.right
    (omega (arith, c.ranges.left.fits)) (omega (arith, c.ranges.right.fits)) c.requires.left c.requires.right
