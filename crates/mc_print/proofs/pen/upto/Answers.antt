use Rattle.std.proofs.Common.{◌∙◌, sym, ap, ℕ}
use Rattle.mc_print.specs.Pens.{copy, before}
use Rattle.mc_print.proofs.Held.{at_pen}
use Rattle.mc_print.proofs.pen.upto.Goals as goal

pub returns : goal.returns
returns g c = λ start first p h.
    at_pen start first _ _ _ _ _ (ap (λ (k : ℕ). copy k p) (c.before-count.ensures.count ∙ sym (ap (before c.args.at) h.left))) (c.copy.ensures start first p h)
