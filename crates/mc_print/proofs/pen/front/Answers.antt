use Rattle.mc_print.proofs.Held.{take_toks}
use Rattle.mc_print.proofs.pen.front.Goals as goal

pub returns : goal.returns
returns c = take_toks c.args.count c.args.tokens.now
