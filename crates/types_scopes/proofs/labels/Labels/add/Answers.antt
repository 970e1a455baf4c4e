use Rattle.std.proofs.Common.{sym, subst}
use Rattle.types_scopes.specs.Seen.{AreSorted}
use Rattle.types_scopes.proofs.Seen.{sorted_more}
use Rattle.types_scopes.proofs.labels.Labels.add.Goals as goal

pub invariant_of-self-in-Ok : goal.invariant_of-self-in-Ok
invariant_of-self-in-Ok c =
    subst (λ vs. AreSorted vs c.keep.new.sorted) (sym c.in_ok-push.ensures.items)
    (sorted_more c.self.inside.values.items _ c.self.inside.sorted c.keep.new.sorted c.self.invariant c.in-Ok.ensures.ok)
