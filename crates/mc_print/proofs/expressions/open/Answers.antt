use Rattle.std.proofs.Common.{ap}
use Rattle.mc_span.specs.declared.span.Span.{Span}
use Rattle.mc_print.specs.Insertions.{at, opening}
use Rattle.mc_print.proofs.Held.{at_pen, extent_is}
use Rattle.mc_print.proofs.expressions.open.Goals as goal

pub returns : goal.returns
returns g c = λ start first p h.
    at_pen start first _ _ _ _ _ (ap (λ (s : Span). at s.start (opening c.args.probe) p) (extent_is c.args.operand.now c.span.result c.span.ensures)) (c.open_probe.ensures start first p h)
