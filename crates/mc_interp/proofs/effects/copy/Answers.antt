use Rattle.std.proofs.Common.{sym, ◌∙◌}
use Rattle.mc_probe.specs.Views as view
use Rattle.mc_probe.specs.Expressions as does
use Rattle.mc_interp.specs.Stores.{state_of}
use Rattle.mc_interp.specs.Frames.{activation_of}
use Rattle.mc_interp.proofs.Kept.{kept_then, ready_kept}
use Rattle.mc_interp.proofs.Doings.{did_copy_end, did_copy, placed_room, type_there}
use Rattle.mc_interp.proofs.effects.copy.Goals as goal

pub returns-in_err-from-clause-did : goal.returns-in_err-from-clause-did
returns-in_err-from-clause-did g c =
    let M = g.P.Probe.leads in let N = g.met.P.Probe.stays in let J = g.met.P.Probe.joins in
    let W = activation_of c.args.frame.now in let S = state_of c.args.store.now in
    rw (c.from_residual-in_err-from.ensures)
    (did_copy_end M N J (does.evaluate_place W (view.place_of c.args.target.now)) (does.evaluate_structure W (view.structure_of c.args.right.now)) S c.in_ok-at.at c.args.cells _ _ _ _ _ c.in_ok-at.ensures.did c.in_err-from.ensures.did)

pub copy-requires-clause-source : goal.copy-requires-clause-source
copy-requires-clause-source g c =
    let F = c.args.frame.now in
    let k = kept_then _ _ _ _ _ c.in_ok-at.ensures.kept c.in_ok-from.ensures.kept in
    let r = ready_kept F c.args.store.now c.structure.new.store _ _ c.requires.ready k (c.in_ok-from.ensures.bits ∙ c.in_ok-at.ensures.bits) in
    placed_room F c.structure.new.store _ c.in_ok-from.from c.args.cells _ r c.in_ok-from.ensures.placed c.requires.cells

pub copy-requires-clause-target : goal.copy-requires-clause-target
copy-requires-clause-target g c =
    let F = c.args.frame.now in
    let k = kept_then _ _ _ _ _ c.in_ok-at.ensures.kept c.in_ok-from.ensures.kept in
    let r = ready_kept F c.args.store.now c.structure.new.store _ _ c.requires.ready k (c.in_ok-from.ensures.bits ∙ c.in_ok-at.ensures.bits) in
    placed_room F c.structure.new.store _ c.in_ok-at.at c.args.cells _ r (rw c.requires.types at c.in_ok-at.ensures.placed) c.requires.cells

pub returns-clause-did : goal.returns-clause-did
returns-clause-did g c =
    let M = g.P.Probe.leads in let N = g.met.P.Probe.stays in let J = g.met.P.Probe.joins in
    let W = activation_of c.args.frame.now in let S = state_of c.args.store.now in
    did_copy M N J (does.evaluate_place W (view.place_of c.args.target.now)) (does.evaluate_structure W (view.structure_of c.args.right.now)) S c.in_ok-at.at c.args.cells _ _ _ _ _ c.in_ok-at.ensures.did c.in_ok-from.from _ c.in_ok-from.ensures.did c.copy.ensures.ran

pub returns-clause-kept : goal.returns-clause-kept
returns-clause-kept g c =
    let x = type_there _ c.args.cells c.requires.cells in
    kept_then _ _ _ _ _ (kept_then _ _ _ _ _ c.in_ok-at.ensures.kept c.in_ok-from.ensures.kept)
    (c.copy.ensures.kept _ _ x.0 (sym x.2) (rw x.1 at c.in_ok-from.ensures.placed) (rw x.1 at (rw c.requires.types at c.in_ok-at.ensures.placed)))
