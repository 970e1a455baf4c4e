use Rattle.std.proofs.Common.{◌∙◌, ◌+◌, drop, map, option_map, List, sym, ap, rules}
use Rattle.mc_tree.specs.Views.{expression_of, expressions_from}
use Rattle.mc_typed.specs.Tree.{Effect}
use Rattle.types_rules.specs.Values.{Judged}
use Rattle.types_rules.specs.Declarations.{both_lists}
use Rattle.types_rules.specs.Bodies as b
use Rattle.types_rules.specs.Bodies.{judge_clauses, judge_effect}
use Rattle.types_scopes.specs.Views.{scope_of}
use Rattle.types_scopes.specs.Found.{judged_of}
use Rattle.types_scopes.specs.Statements.{effects_of}
use Rattle.types_scopes.specs.steps.Squeezed.{squeezed_part}
use Rattle.types_statements.proofs.Folds.{both_lists_last}
use Rattle.mc_types.proofs.Turns.{last_turn, next_turn}
use Rattle.mc_types.proofs.Parts.{lists_first, lists_turn}
use Rattle.mc_types.proofs.statements.clauses.Goals as goal

pub loop-tree-init : goal.loop-tree-init
loop-tree-init c =
    let s = scope_of c.args.scope.now in
    let all = judge_clauses (expressions_from (map expression_of c.args.trees.now)) s in
    ap (λ (x : Judged (List Effect)). squeezed_part (both_lists x all)) (c.no_clauses-list.ensures s)
    ∙ lists_first s all

pub loop-tree-preserved : goal.loop-tree-preserved
loop-tree-preserved c =
    let s = scope_of c.loop-tree.scope in
    let u = scope_of c.effect.new.scope in
    let later = expressions_from (map expression_of (drop (c.loop-tree.tree-index + 1) c.args.trees.now)) in
    next_turn c.args.trees.now c.loop-tree.tree-index c.tree-item.result (λ ts. squeezed_part (both_lists (judged_of effects_of c.loop-tree.list (scope_of c.loop-tree.scope)) (judge_clauses (expressions_from (map expression_of ts)) (scope_of c.loop-tree.scope)))) _ _ (search rules) c.tree-item.is
    (lists_turn (judged_of effects_of c.loop-tree.list (scope_of c.loop-tree.scope)) (judged_of effects_of c.in_ok-list.list u) (judged_of effects_of c.in_ok-one.one u) (b.listed (judge_effect (expression_of c.tree-item.result) s)) (λ v. judge_clauses later v)
    (c.in_ok-one.ensures u ∙ ap (λ (x : Judged Effect). b.listed x) c.in_ok-found.ensures) (c.in_ok-list.ensures u)) c.loop-tree.invariant

pub returns : goal.returns
returns c =
    let s = scope_of c.loop-tree.scope in
    sym (both_lists_last c.loop-tree.list.fault (option_map effects_of c.loop-tree.list.value) s s)
    ∙ last_turn c.args.trees.now c.loop-tree.tree-index (λ ts. squeezed_part (both_lists (judged_of effects_of c.loop-tree.list (scope_of c.loop-tree.scope)) (judge_clauses (expressions_from (map expression_of ts)) (scope_of c.loop-tree.scope)))) _ (search rules) c.loop-tree.invariant
