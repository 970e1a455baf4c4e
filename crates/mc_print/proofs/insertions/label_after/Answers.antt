use Rattle.std.proofs.Common.{ap, Option}
use Rattle.mc_typed.specs.declared.probes.Mark.{Mark}
use Rattle.mc_print.specs.Insertions.{label_after}
use Rattle.mc_print.proofs.Held.{by}
use Rattle.mc_print.proofs.insertions.label_after.Goals as goal

pub returns-in-Some : goal.returns-in-Some
returns-in-Some g c = λ start first p h.
    by _ _ (ap (λ (m : Option Mark). label_after m c.args.span) c.in-Some.is) start first p _ _ _
    (c.label.ensures start first _ (c.upto.ensures start first p h))
