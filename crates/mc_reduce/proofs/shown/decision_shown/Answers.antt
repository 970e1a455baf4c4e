use Rattle.std.proofs.Common.{◌≡◌, ◌↔◌, ℕ, true, List, Contains, subst}
use Rattle.mc_cond.specs.Tree.{tree_of}
use Rattle.mc_reduce.specs.steps.Bits.{ShowAt}
use Rattle.mc_reduce.specs.steps.Loss.{IsCounted, along}
use Rattle.mc_reduce.proofs.Deciding.{known_next, shown_next}
use Rattle.mc_reduce.proofs.shown.decision_shown.Goals as goal

pub loop-at-preserved : goal.loop-at-preserved
loop-at-preserved c =
    let tree = tree_of c.args.mapped.now.decision.tree in
    let on = along (IsCounted c.args.counts.now) c.args.mapped.now.base in
    let own = subst (λ (xs : List ℕ). (c.is_shown.result ≡ true) ↔ ShowAt (Contains xs) c.args.mode tree c.loop-at.at) c.deref.ensures.value c.is_shown.ensures in
    rw c.in_ok-push.ensures.items
    (known_next (ShowAt on c.args.mode tree) c.loop-at.at c.loop-at.shown.items c.is_shown.result c.loop-at.invariant
    (shown_next on c.args.mode tree c.path_count.result c.in_ok-seen.seen.items c.in_ok-seen.ensures c.path_count.ensures c.loop-at.at c.is_shown.result own))
