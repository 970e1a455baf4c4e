use Rattle.std.proofs.Common.{◌∙◌, refl, ap, List, map, arith}
use Rattle.mc_typed.specs.declared.statements.Statement.{Statement}
use Rattle.mc_typed.specs.Views as plain
use Rattle.mc_steps.specs.Points.{all_complete}
use Rattle.mc_probe.specs.BitMaps.{map_of}
use Rattle.mc_instrument.specs.steps.Counters.{taken_by_all}
use Rattle.mc_instrument.proofs.Counted.{exit_after}
use Rattle.mc_instrument.proofs.OneFunction.{closing_fits, function_past, function_put}
use Rattle.mc_instrument.proofs.Puts.{same_at}
use Rattle.mc_instrument.proofs.copies.functions.function.Goals as goal

pub statements-requires : goal.statements-requires
statements-requires c =
    let same = ap (λ (xs : List Statement). taken_by_all (plain.statements_from (map plain.statement_of xs))) c.deref-3.ensures.value in
    omega (arith, same, c.requires.room, c.decisions_of-decisions.ensures, c.requires.decisions)

pub returns-clause-copy : goal.returns-clause-copy
returns-clause-copy c = λ q stands.
    let e = c.in_ok-body.ensures in
    let same = c.deref-3.ensures.value in
    function_put (map_of c.args.walk.now.map.now) c.args.walk.now.first c.args.number q (plain.function_of c.args.tree.now) c.args.at.now c.statements.new.at c.decisions_of-decisions.result stands (c.decisions_of-decisions.ensures ∙ c.requires.decisions)
    (same_at (map_of c.args.walk.now.map.now) c.args.walk.now.first _ _ (rw same at e.exit) (rw same at e.statement) (rw same at e.label) (rw same at e.decision) (rw same at e.switch))
    _ _ _ _ _ (c.in_ok-parameters.ensures ∙ ap (map plain.parameter_of) c.deref.ensures.value) c.in_ok-result.ensures (c.in_ok-objects.ensures ∙ ap (map plain.object_of) c.deref-2.ensures.value) (rw same at e.copy) (rw c.deref-4.ensures.value at c.closing_exit-exit.ensures.bit)

pub returns-clause-past : goal.returns-clause-past
returns-clause-past c = λ q stands.
    let e = c.in_ok-body.ensures in
    let same = c.deref-3.ensures.value in
    function_past (map_of c.args.walk.now.map.now) c.args.walk.now.first c.args.number q (plain.function_of c.args.tree.now) c.args.at.now c.statements.new.at c.decisions_of-decisions.result stands (c.decisions_of-decisions.ensures ∙ c.requires.decisions)
    (same_at (map_of c.args.walk.now.map.now) c.args.walk.now.first _ _ (rw same at e.exit) (rw same at e.statement) (rw same at e.label) (rw same at e.decision) (rw same at e.switch))
    _ (exit_after (all_complete (plain.function_of c.args.tree.now).body) _ _ (closing_fits (plain.function_of c.args.tree.now) c.args.at.now c.statements.new.at.exit c.requires.room (rw same at e.exit)) (rw c.deref-4.ensures.value at c.closing_exit-exit.ensures.more)) refl refl

pub returns-clause-decisions : goal.returns-clause-decisions
returns-clause-decisions c =
    let same = c.deref-3.ensures.value in rw same at c.in_ok-body.ensures.decision
