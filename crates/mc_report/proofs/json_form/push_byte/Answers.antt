use Rattle.std.proofs.Common.{arith}
use Rattle.mc_report.proofs.Texts.{byte_is_text}
use Rattle.mc_report.proofs.json_form.push_byte.Goals as goal

pub text_of-requires : goal.text_of-requires
text_of-requires c = rw (c.as_slice.ensures, c.byte_digits-digits.ensures) (byte_is_text c.args.byte (omega arith))
