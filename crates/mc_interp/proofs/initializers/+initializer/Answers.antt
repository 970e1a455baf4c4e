use Rattle.std.proofs.Common.{◌+◌, List, drop, subst, rules}
use Rattle.std.proofs.lemmas.List.{drop_all}
use Rattle.mc_typed.specs.declared.initializers.Initializer.{Initializer}
use Rattle.mc_interp.specs.Frames.{activation_of}
use Rattle.mc_interp.proofs.Kept.{kept_then}
use Rattle.mc_interp.proofs.Sequences.{AreSetting, setting_step, setting_end, setting_done, drop_is}
use Rattle.mc_interp.proofs.initializers.+initializer.Goals as goal

pub initializer-returns-in-Zero-clause-kept : goal.initializer-returns-in-Zero-clause-kept
initializer-returns-in-Zero-clause-kept g t c = c.zero.ensures.kept _ _

pub items-returns-in_err-initializer-clause-did : goal.items-returns-in_err-initializer-clause-did
items-returns-in_err-initializer-clause-did g t c =
    let B = g.P.Probe.bits in let M = g.P.Probe.leads in let N = g.met.P.Probe.stays in let J = g.met.P.Probe.joins in
    let F = c.args.frame.now in let all = c.args.trees.now in let i = c.loop-tree.tree-index in
    let h = subst (λ (later : List Initializer). AreSetting B M F all later c.args.at i c.loop-tree.offset c.args.cells c.args.store.now c.loop-tree.store c.args.probe.now c.loop-tree.probe)
    (drop_is all i c.tree-item.result c.loop-tree-test.true c.tree-item.is) c.loop-tree.invariant in
    rw c.from_residual.ensures
    (setting_end B M N J F all c.args.at c.args.cells (drop (i + 1) all) c.tree-item.result i c.loop-tree.offset c.args.store.now c.loop-tree.store c.initializer.new.store c.args.probe.now c.loop-tree.probe c.initializer.new.probe h c.in_err-initializer.ensures.did)

pub items-loop-tree-preserved : goal.items-loop-tree-preserved
items-loop-tree-preserved g t c =
    let B = g.P.Probe.bits in let M = g.P.Probe.leads in let N = g.met.P.Probe.stays in let J = g.met.P.Probe.joins in
    let F = c.args.frame.now in let all = c.args.trees.now in let i = c.loop-tree.tree-index in
    let h = subst (λ (later : List Initializer). AreSetting B M F all later c.args.at i c.loop-tree.offset c.args.cells c.args.store.now c.loop-tree.store c.args.probe.now c.loop-tree.probe)
    (drop_is all i c.tree-item.result c.loop-tree-test.true c.tree-item.is) c.loop-tree.invariant in
    setting_step B M N J F all c.args.at c.args.cells (drop (i + 1) all) c.tree-item.result i c.loop-tree.offset c.width-offset.result c.args.store.now c.loop-tree.store c.initializer.new.store c.args.probe.now c.loop-tree.probe c.initializer.new.probe h
    c.in_ok-initializer.ensures.did c.in_ok-initializer.ensures.kept c.in_ok-initializer.ensures.bits c.in_ok-initializer.ensures.limits (c.width-offset.ensures.run (activation_of F)) c.width-offset.ensures.typed

pub items-returns-clause-did : goal.items-returns-clause-did
items-returns-clause-did g t c =
    let B = g.P.Probe.bits in let M = g.P.Probe.leads in let N = g.met.P.Probe.stays in let J = g.met.P.Probe.joins in
    let F = c.args.frame.now in let all = c.args.trees.now in let i = c.loop-tree.tree-index in
    let h = subst (λ (later : List Initializer). AreSetting B M F all later c.args.at i c.loop-tree.offset c.args.cells c.args.store.now c.loop-tree.store c.args.probe.now c.loop-tree.probe)
    (drop_all i all (search rules)) c.loop-tree.invariant in
    setting_done B M N J F all c.args.at c.args.cells i c.loop-tree.offset c.args.store.now c.loop-tree.store c.zero.new.self c.args.probe.now c.loop-tree.probe h c.zero.ensures.ran

pub items-returns-clause-kept : goal.items-returns-clause-kept
items-returns-clause-kept g t c = kept_then _ _ _ _ _ c.loop-tree.invariant.on.kept (c.zero.ensures.kept _ _)
