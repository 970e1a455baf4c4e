use Rattle.std.proofs.Common.{rules}
use Rattle.mc_interp.specs.Frames.{activation_of, scope_in}
use Rattle.mc_interp.proofs.Kept.{if_any}
use Rattle.mc_interp.proofs.Placed as placed
use Rattle.mc_interp.proofs.asked.leaf.Goals as goal

pub overflow_add-frame : goal.overflow_add-frame
overflow_add-frame c =
    let F = c.args.frame.now in
    let s = rw c.in-Local.is at c.requires.sound in
    let p = placed.placed_local (scope_in F) (activation_of F) c.in-Local.slot s.0 in
    let small = placed.place_small F c.args.store.now _ _ _ c.requires.ready p in
    search rules

pub read-requires-clause-there : goal.read-requires-clause-there
read-requires-clause-there c =
    let F = c.args.frame.now in
    let s = rw c.in-Local.is at c.requires.sound in
    let p = placed.placed_local (scope_in F) (activation_of F) c.in-Local.slot s.0 in
    placed.scalar_there F c.args.store.now _ _ _ c.in-Local.of c.requires.ready p s.1

pub read-requires-clause-typed : goal.read-requires-clause-typed
read-requires-clause-typed c =
    let F = c.args.frame.now in
    let s = rw c.in-Local.is at c.requires.sound in
    let p = placed.placed_local (scope_in F) (activation_of F) c.in-Local.slot s.0 in
    placed.scalar_typed F c.args.store.now _ _ _ c.in-Local.of c.requires.ready p s.1

pub returns-in-Local-clause-kept : goal.returns-in-Local-clause-kept
returns-in-Local-clause-kept c = if_any c.read.result (c.read.ensures.kept _ _)
