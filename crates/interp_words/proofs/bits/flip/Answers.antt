use Rattle.std.proofs.Common.{arith, ◌∙◌, ◌-◌, pos}
use Rattle.mc_value.specs.declared.int_type.IntType.TheVariants as the
use Rattle.mc_value.proofs.Wrapping.{converted_is}
use Rattle.interp_words.proofs.Patterns.{flipped_words, not_bool}
use Rattle.interp_words.proofs.bits.flip.Goals as goal

pub returns : goal.returns
returns c =
    c.convert.ensures.value the.ULLong
    ∙ converted_is c.args.of (pos (18446744073709551615 - c.args.operand)) (not_bool c.args.of c.requires.type_promoted)
    ∙ flipped_words c.args.of c.args.operand (omega (arith, c.ranges.operand.fits))
