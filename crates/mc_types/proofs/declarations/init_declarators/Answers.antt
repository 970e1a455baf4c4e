use Rattle.std.proofs.Common.{◌∙◌, ◌+◌, drop, map, option_map, List, sym, ap, rules}
use Rattle.mc_tree.specs.Tree as tree
use Rattle.mc_tree.specs.Units as units
use Rattle.mc_typed.specs.Tree.{Declarator}
use Rattle.types_rules.specs.Values.{Judged}
use Rattle.types_rules.specs.Declarations.{both_lists, judge_init_declarator, judge_init_declarators}
use Rattle.types_scopes.specs.Types.{type_of}
use Rattle.types_scopes.specs.Views.{scope_of}
use Rattle.types_scopes.specs.Found.{judged_of}
use Rattle.types_scopes.specs.Statements.{declarators_of}
use Rattle.types_scopes.specs.steps.Squeezed.{squeezed_part}
use Rattle.types_declarations.specs.Declarations.{storage_from}
use Rattle.types_statements.proofs.Folds.{both_lists_last}
use Rattle.mc_types.proofs.Turns.{last_turn, next_turn}
use Rattle.mc_types.proofs.Parts.{lists_first, lists_turn}
use Rattle.mc_types.proofs.declarations.init_declarators.Goals as goal

pub loop-tree-init : goal.loop-tree-init
loop-tree-init c =
    let s = scope_of c.args.scope.now in
    let all = judge_init_declarators (storage_from c.args.storage) (option_map type_of c.args.base.now) (map units.init_declarator_of c.args.trees.now) s in
    ap (λ (x : Judged (List Declarator)). squeezed_part (both_lists x all)) (c.no_declarators-list.ensures s)
    ∙ lists_first s all

pub loop-tree-preserved : goal.loop-tree-preserved
loop-tree-preserved c =
    let s = scope_of c.loop-tree.scope in
    let u = scope_of c.init_declarator.new.scope in
    let later = map units.init_declarator_of (drop (c.loop-tree.tree-index + 1) c.args.trees.now) in
    next_turn c.args.trees.now c.loop-tree.tree-index c.tree-item.result (λ ts. squeezed_part (both_lists (judged_of declarators_of c.loop-tree.list (scope_of c.loop-tree.scope)) (judge_init_declarators (storage_from c.args.storage) (option_map type_of c.args.base.now) (map units.init_declarator_of ts) (scope_of c.loop-tree.scope)))) _ _ (search rules) c.tree-item.is
    (lists_turn (judged_of declarators_of c.loop-tree.list (scope_of c.loop-tree.scope)) (judged_of declarators_of c.in_ok-list.list u) (judged_of declarators_of c.in_ok-one.one u) (judge_init_declarator (storage_from c.args.storage) (option_map type_of c.args.base.now) (units.init_declarator_of c.tree-item.result) s) (λ v. judge_init_declarators (storage_from c.args.storage) (option_map type_of c.args.base.now) later v) c.in_ok-one.ensures (c.in_ok-list.ensures u)) c.loop-tree.invariant

pub returns : goal.returns
returns c =
    let s = scope_of c.loop-tree.scope in
    sym (both_lists_last c.loop-tree.list.fault (option_map declarators_of c.loop-tree.list.value) s s)
    ∙ last_turn c.args.trees.now c.loop-tree.tree-index (λ ts. squeezed_part (both_lists (judged_of declarators_of c.loop-tree.list (scope_of c.loop-tree.scope)) (judge_init_declarators (storage_from c.args.storage) (option_map type_of c.args.base.now) (map units.init_declarator_of ts) (scope_of c.loop-tree.scope)))) _ (search rules) c.loop-tree.invariant
