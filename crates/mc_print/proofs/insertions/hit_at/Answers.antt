use Rattle.std.proofs.Common.{ap, ℕ, Option}
use Rattle.mc_print.specs.Insertions.{hit_at}
use Rattle.mc_print.proofs.Held.{by}
use Rattle.mc_print.proofs.insertions.hit_at.Goals as goal

pub returns-in-Some : goal.returns-in-Some
returns-in-Some g c = λ start first p h.
    by _ _ (ap (λ (b : Option ℕ). hit_at b c.args.place) c.in-Some.is) start first p _ _ _
    (c.hit.ensures start first _ (c.upto.ensures start first p h))
