use Rattle.std.proofs.Common.{refl, arith}
use Rattle.mc_typed.specs.Views as plain
use Rattle.mc_interp.proofs.Kept.{if_kept, ready_kept}
use Rattle.mc_interp.proofs.Initial.{declared_room, declared_set}
use Rattle.mc_interp.proofs.initializers.declarator.Goals as goal

pub overflow_add-at : goal.overflow_add-at
overflow_add-at g c =
    let r = declared_room c.args.frame.now c.args.store.now _ (plain.declarator_of c.args.tree.now) c.requires.ready c.requires.sound in
    let small = c.requires.ready.small in
    omega (arith, r, small)

pub unset-requires : goal.unset-requires
unset-requires g c = declared_room c.args.frame.now c.args.store.now _ (plain.declarator_of c.args.tree.now) c.requires.ready c.requires.sound

pub initial-requires-clause-sound : goal.initial-requires-clause-sound
initial-requires-clause-sound g c = declared_set c.args.frame.now (plain.declarator_of c.args.tree.now) c.requires.sound

pub initial-requires-clause-ready : goal.initial-requires-clause-ready
initial-requires-clause-ready g c = ready_kept c.args.frame.now c.args.store.now c.unset.new.self _ _ c.requires.ready (c.unset.ensures.kept _ _) refl

pub returns-clause-kept : goal.returns-clause-kept
returns-clause-kept g c = if_kept _ _ _ _ _ c.initial.result (c.unset.ensures.kept _ _) c.initial.ensures.kept
