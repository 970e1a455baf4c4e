use Rattle.std.proofs.Common.{◌∷◌, [], ap, codes}
use Rattle.mc_span.specs.declared.span.Span.{Span}
use Rattle.mc_print.specs.Insertions.{at}
use Rattle.mc_print.proofs.Held.{at_pen, extent_is}
use Rattle.mc_print.proofs.expressions.close.Goals as goal

pub returns : goal.returns
returns g c = λ start first p h.
    at_pen start first _ _ _ _ _ (ap (λ (s : Span). at s.end (codes ")" ∷ []) p) (extent_is c.args.operand.now c.span.result c.span.ensures)) (c.word_at.ensures start first p h)
