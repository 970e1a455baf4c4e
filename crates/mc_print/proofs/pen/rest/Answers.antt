use Rattle.std.proofs.Common.{◌∙◌, sym, ap, ℕ, length}
use Rattle.mc_print.specs.Pens.{copy}
use Rattle.mc_print.proofs.Held.{at_pen}
use Rattle.mc_print.proofs.Printed.{length_toks}
use Rattle.mc_print.proofs.pen.rest.Goals as goal

pub returns : goal.returns
returns g c = λ start first p h.
    at_pen start first _ _ _ _ _ (ap (λ (k : ℕ). copy k p) (sym (length_toks c.args.pen.now.left.now) ∙ sym (ap length h.left))) (c.copy.ensures start first p h)
