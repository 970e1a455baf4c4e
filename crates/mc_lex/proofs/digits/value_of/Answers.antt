use Rattle.mc_lex.proofs.Turns.{value_read}
use Rattle.mc_lex.proofs.digits.value_of.Goals as goal

pub returns : goal.returns
returns c = value_read c.args.radix c.loop-left.value c.loop-left.left.now _ c.loop-left.invariant.same c.in_default.len_below c.loop-left.invariant.held
