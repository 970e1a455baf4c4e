use Rattle.std.proofs.Common.{refl}
use Rattle.mc_lex.specs.Tokens.{toks_of}
use Rattle.mc_print.proofs.Held.{at_pen, copied, holds_moved}
use Rattle.mc_print.proofs.pen.copy.Goals as goal

pub returns : goal.returns
returns g c = λ start first p h.
    at_pen start first _ _ _ _ _ (copied c.args.count p (toks_of c.front-front.result.now) (toks_of c.args.pen.now.left.now) h.left c.front-front.ensures)
    (c.texts.ensures start first _ (holds_moved start first p _ _ c.args.pen.now _ c.args.count h c.back-pen.ensures refl refl refl))
