use Rattle.std.proofs.Common.{arith}
use Rattle.interp_words.proofs.Patterns.{and_words}
use Rattle.interp_words.proofs.bits.and.Goals as goal

pub returns : goal.returns
returns c =
    and_words c.args.of c.requires.type_promoted c.args.left c.args.right
    (omega (arith, c.ranges.left.fits)) (omega (arith, c.ranges.right.fits)) c.requires.left c.requires.right
