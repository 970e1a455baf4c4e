use Rattle.std.proofs.Common.{◌+◌, List, drop, subst, rules}
use Rattle.std.proofs.lemmas.List.{drop_all}
use Rattle.mc_typed.specs.declared.statements.Declarator.{Declarator}
use Rattle.mc_interp.proofs.Sequences.{AreDeclaring, declaring_step, declaring_end, declaring_done, drop_is}
use Rattle.mc_interp.proofs.initializers.declarators.Goals as goal

pub returns-in_err-declarator-clause-did : goal.returns-in_err-declarator-clause-did
returns-in_err-declarator-clause-did g c =
    let B = g.P.Probe.bits in let M = g.P.Probe.leads in let N = g.met.P.Probe.stays in let J = g.met.P.Probe.joins in
    let F = c.args.frame.now in let all = c.args.trees.now in let i = c.loop-tree.tree-index in
    let h = subst (λ (later : List Declarator). AreDeclaring B M F all later c.args.store.now c.loop-tree.store c.args.probe.now c.loop-tree.probe)
    (drop_is all i c.tree-item.result c.loop-tree-test.true c.tree-item.is) c.loop-tree.invariant in
    rw c.from_residual.ensures
    (declaring_end B M N J F all (drop (i + 1) all) c.tree-item.result c.args.store.now c.loop-tree.store c.declarator.new.store c.args.probe.now c.loop-tree.probe c.declarator.new.probe h c.in_err-declarator.ensures.did)

pub loop-tree-preserved : goal.loop-tree-preserved
loop-tree-preserved g c =
    let B = g.P.Probe.bits in let M = g.P.Probe.leads in let N = g.met.P.Probe.stays in let J = g.met.P.Probe.joins in
    let F = c.args.frame.now in let all = c.args.trees.now in let i = c.loop-tree.tree-index in
    let h = subst (λ (later : List Declarator). AreDeclaring B M F all later c.args.store.now c.loop-tree.store c.args.probe.now c.loop-tree.probe)
    (drop_is all i c.tree-item.result c.loop-tree-test.true c.tree-item.is) c.loop-tree.invariant in
    declaring_step B M N J F all (drop (i + 1) all) c.tree-item.result c.args.store.now c.loop-tree.store c.declarator.new.store c.args.probe.now c.loop-tree.probe c.declarator.new.probe h c.in_ok-declarator.ensures.did c.in_ok-declarator.ensures.kept c.in_ok-declarator.ensures.bits c.in_ok-declarator.ensures.limits

pub returns-clause-did : goal.returns-clause-did
returns-clause-did g c =
    let B = g.P.Probe.bits in let M = g.P.Probe.leads in let N = g.met.P.Probe.stays in let J = g.met.P.Probe.joins in
    let F = c.args.frame.now in let all = c.args.trees.now in let i = c.loop-tree.tree-index in
    let h = subst (λ (later : List Declarator). AreDeclaring B M F all later c.args.store.now c.loop-tree.store c.args.probe.now c.loop-tree.probe)
    (drop_all i all (search rules)) c.loop-tree.invariant in
    declaring_done B M N J F all c.args.store.now c.loop-tree.store c.args.probe.now c.loop-tree.probe h
