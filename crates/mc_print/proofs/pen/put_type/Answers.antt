use Rattle.std.proofs.Common.{List, sym, ap}
use Rattle.mc_lex.specs.Tokens.{Tok}
use Rattle.mc_print.specs.Pens.{put, type_words}
use Rattle.mc_print.proofs.Held.{at_pen}
use Rattle.mc_print.proofs.pen.put_type.Goals as goal

pub returns : goal.returns
returns g c = λ start first p h.
    at_pen start first _ _ _ _ _ (ap (λ (ts : List Tok). put (type_words ts) p) (sym h.specifiers)) (c.type_words.ensures start first p h)
