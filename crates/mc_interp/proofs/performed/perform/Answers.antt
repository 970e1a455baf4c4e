use Rattle.std.proofs.Common.{refl, rules, subst}
use Rattle.mc_value.specs.declared.int_type.IntType.TheVariants.{Int}
use Rattle.mc_value.specs.declared.operators.BinOp.TheVariants.{Add}
use Rattle.mc_typed.specs.declared.operators.Operator.TheVariants.{Binary}
use Rattle.mc_typed.specs.Sound.{type_of}
use Rattle.mc_typed.specs.Tree as t
use Rattle.interp_words.specs.Words.{number_of}
use Rattle.mc_probe.specs.Erase.{erase_expression}
use Rattle.mc_probe.proofs.ErasedPrograms.{effect_erases}
use Rattle.mc_interp.specs.Effects.{IsAnyEffect}
use Rattle.mc_interp.specs.Frames.{activation_of, scope_in}
use Rattle.mc_interp.specs.Views as prepared
use Rattle.mc_interp.proofs.Doings.{right_type}
use Rattle.mc_interp.proofs.Kept.{if_kept, kept_then, ready_kept}
use Rattle.mc_interp.proofs.Performing.{did_changed, scalar_placed, slot_placed}
use Rattle.mc_interp.proofs.Placed as placed
use Rattle.mc_interp.proofs.performed.perform.Goals as goal

-- ---- Add

pub overflow_add-frame : goal.overflow_add-frame
overflow_add-frame g c =
    let F = c.args.frame.now in
    let s = rw c.in-Add.is at c.requires.sound in
    let small = placed.place_small F c.args.store.now _ _ _ c.requires.ready (slot_placed F c.in-Add.slot c.in-Add.place s.0) in
    search rules

pub update-requires-clause-there : goal.update-requires-clause-there
update-requires-clause-there g c =
    let F = c.args.frame.now in
    let s = rw c.in-Add.is at c.requires.sound in
    let r = ready_kept F c.args.store.now c.leaf.new.store _ _ c.requires.ready c.in_ok-added-in-Add.ensures.kept refl in
    placed.scalar_there F c.leaf.new.store _ _ _ Int r (slot_placed F c.in-Add.slot c.in-Add.place s.0) s.1

pub update-requires-clause-typed : goal.update-requires-clause-typed
update-requires-clause-typed g c =
    let F = c.args.frame.now in
    let s = rw c.in-Add.is at c.requires.sound in
    let r = ready_kept F c.args.store.now c.leaf.new.store _ _ c.requires.ready c.in_ok-added-in-Add.ensures.kept refl in
    placed.scalar_typed F c.leaf.new.store _ _ _ Int r (slot_placed F c.in-Add.slot c.in-Add.place s.0) s.1

pub returns-in_ok-added-in-Add-clause-did : goal.returns-in_ok-added-in-Add-clause-did
returns-in_ok-added-in-Add-clause-did g c =
    let s = rw c.in-Add.is at c.requires.sound in
    let u = type_of (erase_expression (prepared.leaf_of c.in-Add.right)) in
    rw c.in-Add.is
    (did_changed g.P.Probe.leads g.met.P.Probe.stays g.met.P.Probe.joins (activation_of c.args.frame.now) c.in-Add.slot c.in-Add.place c.in-Add.span (prepared.leaf_of c.in-Add.right)
    c.args.store.now c.leaf.new.store c.update.new.self c.args.probe.now Int Int (Binary Add) (number_of u c.in_ok-added-in-Add.added) c.update.result
    c.in_ok-added-in-Add.ensures.ran (c.update.ensures.ran u (right_type (Binary Add) Int _ u s.3)))

pub returns-in_ok-added-in-Add-clause-kept : goal.returns-in_ok-added-in-Add-clause-kept
returns-in_ok-added-in-Add-clause-kept g c =
    let s = rw c.in-Add.is at c.requires.sound in
    if_kept _ _ _ _ _ c.update.result c.in_ok-added-in-Add.ensures.kept (c.update.ensures.kept _ _ (scalar_placed c.args.frame.now c.in-Add.slot c.in-Add.place Int s.0 s.1))

-- ---- Assign

pub overflow_add-frame-in-Assign : goal.overflow_add-frame-in-Assign
overflow_add-frame-in-Assign g c =
    let F = c.args.frame.now in
    let s = rw c.in-Assign.is at c.requires.sound in
    let small = placed.place_small F c.args.store.now _ _ _ c.requires.ready (slot_placed F c.in-Assign.slot c.in-Assign.place s.0) in
    search rules

pub write-requires-clause-there : goal.write-requires-clause-there
write-requires-clause-there g c =
    let F = c.args.frame.now in
    let s = rw c.in-Assign.is at c.requires.sound in
    let r = ready_kept F c.args.store.now c.leaf-in-Assign.new.store _ _ c.requires.ready c.in_ok-assigned-in-Assign.ensures.kept refl in
    placed.scalar_there F c.leaf-in-Assign.new.store _ _ _ c.in-Assign.of r (slot_placed F c.in-Assign.slot c.in-Assign.place s.0) s.1

pub returns-in_ok-assigned-in-Assign-clause-kept : goal.returns-in_ok-assigned-in-Assign-clause-kept
returns-in_ok-assigned-in-Assign-clause-kept g c =
    let s = rw c.in-Assign.is at c.requires.sound in
    kept_then _ _ _ _ _ c.in_ok-assigned-in-Assign.ensures.kept (c.write.ensures.kept _ _ (scalar_placed c.args.frame.now c.in-Assign.slot c.in-Assign.place c.in-Assign.of s.0 s.1))

-- ---- Update

pub overflow_add-frame-in-Update : goal.overflow_add-frame-in-Update
overflow_add-frame-in-Update g c =
    let F = c.args.frame.now in
    let s = rw c.in-Update.is at c.requires.sound in
    let small = placed.place_small F c.args.store.now _ _ _ c.requires.ready (slot_placed F c.in-Update.slot c.in-Update.place s.0) in
    search rules

pub update-requires-in-Update-clause-there : goal.update-requires-in-Update-clause-there
update-requires-in-Update-clause-there g c =
    let F = c.args.frame.now in
    let s = rw c.in-Update.is at c.requires.sound in
    let r = ready_kept F c.args.store.now c.leaf-in-Update.new.store _ _ c.requires.ready c.in_ok-operand-in-Update.ensures.kept refl in
    placed.scalar_there F c.leaf-in-Update.new.store _ _ _ c.in-Update.of r (slot_placed F c.in-Update.slot c.in-Update.place s.0) s.1

pub update-requires-in-Update-clause-typed : goal.update-requires-in-Update-clause-typed
update-requires-in-Update-clause-typed g c =
    let F = c.args.frame.now in
    let s = rw c.in-Update.is at c.requires.sound in
    let r = ready_kept F c.args.store.now c.leaf-in-Update.new.store _ _ c.requires.ready c.in_ok-operand-in-Update.ensures.kept refl in
    placed.scalar_typed F c.leaf-in-Update.new.store _ _ _ c.in-Update.of r (slot_placed F c.in-Update.slot c.in-Update.place s.0) s.1

pub returns-in_ok-operand-in-Update-clause-did : goal.returns-in_ok-operand-in-Update-clause-did
returns-in_ok-operand-in-Update-clause-did g c =
    let s = rw c.in-Update.is at c.requires.sound in
    let u = type_of (erase_expression (prepared.leaf_of c.in-Update.right)) in
    rw c.in-Update.is
    (did_changed g.P.Probe.leads g.met.P.Probe.stays g.met.P.Probe.joins (activation_of c.args.frame.now) c.in-Update.slot c.in-Update.place c.in-Update.span (prepared.leaf_of c.in-Update.right)
    c.args.store.now c.leaf-in-Update.new.store c.update-in-Update.new.self c.args.probe.now c.in-Update.of c.in-Update.common c.in-Update.operator (number_of u c.in_ok-operand-in-Update.operand) c.update-in-Update.result
    c.in_ok-operand-in-Update.ensures.ran (c.update-in-Update.ensures.ran u (right_type c.in-Update.operator c.in-Update.common _ u s.3)))

pub returns-in_ok-operand-in-Update-clause-kept : goal.returns-in_ok-operand-in-Update-clause-kept
returns-in_ok-operand-in-Update-clause-kept g c =
    let s = rw c.in-Update.is at c.requires.sound in
    if_kept _ _ _ _ _ c.update-in-Update.result c.in_ok-operand-in-Update.ensures.kept (c.update-in-Update.ensures.kept _ _ (scalar_placed c.args.frame.now c.in-Update.slot c.in-Update.place c.in-Update.of s.0 s.1))

-- ---- Walked

pub effect-requires-clause-sound : goal.effect-requires-clause-sound
effect-requires-clause-sound g c =
    subst (λ (e : t.Effect). IsAnyEffect e (scope_in c.args.frame.now)) (effect_erases c.in-Walked.tree.now) (rw c.in-Walked.is at c.requires.sound)
