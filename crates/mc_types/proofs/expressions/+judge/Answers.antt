-- Each exit of a node, and each turn of a loop over parts.
use Rattle.std.proofs.Common.{◌∙◌, ◌+◌, drop, map, option_map, List, ℕ, Option, refl, sym, ap, rules, inl, inr}
use Rattle.std.proofs.lemmas.Result.{IfOk-weaker}
use Rattle.mc_tree.specs.Tree as tree
use Rattle.mc_tree.specs.Views.{name_of, tag_of, array_length_of, declarator_of, declarators_from, enumerator_of, enumerators_from, expression_of, expressions_from, lengths_from, member_of, members_from, parameter_of, parameters_from, specifier_of, specifiers_from}
use Rattle.mc_typed.specs.Tree.{Argument}
use Rattle.types_rules.specs.Values.{Judged}
use Rattle.types_rules.specs.Declarators.{Listed}
use Rattle.types_rules.specs.Types.{CType, ParameterKind}
use Rattle.types_rules.specs.Calls.{Given}
use Rattle.types_rules.specs.Declarators.{after_faults, joined}
use Rattle.types_rules.specs.Declarations.{both_lists}
use Rattle.types_rules.specs.Judgement.{after, judge_arguments, judge_declarator, judge_declarators, judge_enumerator, judge_enumerators, judge_lengths, judge_member, judge_members, judge_parameter, judge_parameter_list, judge_specifier, judge_specifiers, specifiers_judged, typed_by}
use Rattle.types_scopes.specs.Types.{kind_of, type_of}
use Rattle.types_scopes.specs.Listed.{listed_of}
use Rattle.types_scopes.specs.Prototypes.{prototype_of}
use Rattle.types_scopes.specs.Views.{scope_of}
use Rattle.types_scopes.specs.Found.{found_of, judged_of}
use Rattle.types_scopes.specs.Given.{arguments_of, given_of, items_of}
use Rattle.types_declarations.specs.Declarations.{lengths_in, listed_members, listed_parameters, number_judged, squeezed_listed}
use Rattle.types_expressions.specs.steps.Gathered.{gathered, squeezed_given}
use Rattle.types_faults.specs.Kept.{listed}
use Rattle.types_scopes.specs.steps.Squeezed.{squeezed_part}
use Rattle.types_declarations.proofs.DeclarationNodes.{lengths_end, parameters_end, specifiers_end}
use Rattle.mc_types.proofs.Exits.{at_ok, found_as}
use Rattle.mc_types.proofs.Trees.{array_length_of-Absent, array_length_of-Given, declarator_of-EmptyFunction, declarator_of-Function, declarator_of-VoidFunction, declarator_of-Object, enumerator_of-Bare, enumerator_of-Valued, expression_of-Assignment, expression_of-Binary, expression_of-Call, expression_of-Cast, expression_of-Character, expression_of-Constant, expression_of-Comma, expression_of-Conditional, expression_of-Index, expression_of-Member, expression_of-Name, expression_of-Parenthesized, expression_of-PostfixStep, expression_of-PrefixStep, expression_of-Unary, member_of-parts, specifier_of-Enumeration, specifier_of-EnumerationTag, specifier_of-Structure, specifier_of-StructureTag, specifier_of-TypedefName, specifier_of-Word}
use Rattle.mc_types.proofs.Falls.{assignment_target, assignment_value, binary_left, binary_right, conditional_chosen, conditional_other, conditional_test, from_first, from_later, from_operand, index_array, index_index, member_object, parenthesized_inner, postfix_operand, prefix_operand, to_any_expression, to_later, to_operand, unary_operand}
use Rattle.mc_types.proofs.Arms.{copied_few, count_listed, none_before}
use Rattle.mc_types.proofs.Declarators.{in_prototype, prototype_ends, in_enumeration, in_object_member, in_typed}
use Rattle.mc_types.proofs.Turns.{last_turn, next_turn}
use Rattle.mc_types.proofs.Parts.{joined_first, judged_last, judged_turn, listed_turn, lists_first, specifiers_first, squeezed_judged, squeezed_last, squeezed_parameters}
use Rattle.mc_types.proofs.expressions.+judge.Goals as goal

pub expression-returns-in-Name : goal.expression-returns-in-Name
expression-returns-in-Name t c =
    rw (c.in-Name.is, expression_of-Name c.in-Name.name) c.named.ensures

pub expression-returns-in-Constant : goal.expression-returns-in-Constant
expression-returns-in-Constant t c =
    let w = c.in-Constant in
    rw (w.is, expression_of-Constant w.value w.decimal w.unsigned w.longs w.span)
    (c.constant.ensures (scope_of c.args.scope.now))

pub expression-returns-in-Parenthesized : goal.expression-returns-in-Parenthesized
expression-returns-in-Parenthesized t c =
    let w = c.in-Parenthesized in
    rw (w.is, expression_of-Parenthesized w.inner w.span) (rw c.deref.ensures at c.expression.ensures)

pub expression-returns-in-Binary : goal.expression-returns-in-Binary
expression-returns-in-Binary t c =
    let w = c.in-Binary in
    rw (w.is, expression_of-Binary w.operator w.left w.right w.span)
    (rw c.deref-in-Binary-2.ensures at (c.binary.ensures (expression_of w.left.value) (scope_of c.args.scope.now) (rw c.deref-in-Binary.ensures at c.expression-first.ensures)))

pub binary-returns-in-Ok : goal.binary-returns-in-Ok
binary-returns-in-Ok t c =
    λ a start h.
    c.binary.ensures a (expression_of c.args.tree.now) start (scope_of c.args.scope.now) (scope_of c.expression-second.new.scope) (at_ok c.args.first c.in-Ok.first _ c.in-Ok.is h) c.expression-second.ensures

pub any_expression-returns-in-Member : goal.any_expression-returns-in-Member
any_expression-returns-in-Member t c =
    let w = c.in-Member in
    rw (w.is, expression_of-Member w.object w.name w.span)
    (c.member.ensures (expression_of w.object.value) (scope_of c.args.scope.now) (rw c.deref-in-Member.ensures at c.expression-found.ensures))

pub any_expression-returns-in-PostfixStep : goal.any_expression-returns-in-PostfixStep
any_expression-returns-in-PostfixStep t c =
    let w = c.in-PostfixStep in
    rw (w.is, expression_of-PostfixStep w.operator w.operand w.span)
    (c.postfix_step.ensures (expression_of w.operand.value) (scope_of c.args.scope.now) (scope_of c.expression-found-in-PostfixStep.new.scope) (rw c.deref-in-PostfixStep.ensures at c.expression-found-in-PostfixStep.ensures))

pub any_expression-returns-in-PrefixStep : goal.any_expression-returns-in-PrefixStep
any_expression-returns-in-PrefixStep t c =
    let w = c.in-PrefixStep in
    rw (w.is, expression_of-PrefixStep w.operator w.operand w.span)
    (c.prefix_step.ensures (expression_of w.operand.value) (scope_of c.args.scope.now) (scope_of c.expression-found-in-PrefixStep.new.scope) (rw c.deref-in-PrefixStep.ensures at c.expression-found-in-PrefixStep.ensures))

pub any_expression-returns-in-Unary : goal.any_expression-returns-in-Unary
any_expression-returns-in-Unary t c =
    let w = c.in-Unary in
    rw (w.is, expression_of-Unary w.operator w.operand w.span)
    (c.unary.ensures (expression_of w.operand.value) (scope_of c.args.scope.now) (scope_of c.expression-found-in-Unary.new.scope) (rw c.deref-in-Unary.ensures at c.expression-found-in-Unary.ensures))

pub any_expression-returns-in_ok-array-in-Index : goal.any_expression-returns-in_ok-array-in-Index
any_expression-returns-in_ok-array-in-Index t c =
    let w = c.in-Index in
    rw (w.is, expression_of-Index w.array w.index w.span)
    (c.index.ensures (expression_of w.array.value) (expression_of w.index.value) (scope_of c.args.scope.now) (scope_of c.expression-in-Index.new.scope) (rw c.deref-in-Index.ensures at c.in_ok-array-in-Index.ensures) (rw c.deref-in-Index-2.ensures at c.expression-index.ensures))

pub any_expression-returns-in-Binary : goal.any_expression-returns-in-Binary
any_expression-returns-in-Binary t c =
    let w = c.in-Binary in
    rw (w.is, expression_of-Binary w.operator w.left w.right w.span)
    (rw c.deref-in-Binary-2.ensures at (c.binary.ensures (expression_of w.left.value) (scope_of c.args.scope.now) (rw c.deref-in-Binary.ensures at c.expression-first.ensures)))

pub any_expression-returns-in_ok-target-in-Assignment : goal.any_expression-returns-in_ok-target-in-Assignment
any_expression-returns-in_ok-target-in-Assignment t c =
    let w = c.in-Assignment in
    rw (w.is, expression_of-Assignment w.operator w.target w.value w.span)
    (c.assignment.ensures (expression_of w.target.value) (expression_of w.value.value) (scope_of c.args.scope.now) (scope_of c.expression-in-Assignment.new.scope) (rw c.deref-in-Assignment.ensures at c.in_ok-target-in-Assignment.ensures) (rw c.deref-in-Assignment-2.ensures at c.expression-value.ensures))

pub any_expression-returns-in_ok-test-in-Conditional : goal.any_expression-returns-in_ok-test-in-Conditional
any_expression-returns-in_ok-test-in-Conditional t c =
    let w = c.in-Conditional in
    rw (w.is, expression_of-Conditional w.test w.chosen w.other w.span)
    (rw c.deref-in-Conditional-3.ensures at (c.conditional.ensures (expression_of w.test.value) (expression_of w.chosen.value) (scope_of c.args.scope.now) (scope_of c.expression-in-Conditional.new.scope) (rw c.deref-in-Conditional.ensures at c.in_ok-test-in-Conditional.ensures) (rw c.deref-in-Conditional-2.ensures at c.expression-chosen.ensures)))

pub any_expression-returns-in-Cast : goal.any_expression-returns-in-Cast
any_expression-returns-in-Cast t c =
    let w = c.in-Cast in
    rw (w.is, expression_of-Cast w.words w.stars w.type_span w.operand w.span)
    (rw c.deref-in-Cast-2.ensures at (c.cast.ensures (specifiers_from (map specifier_of w.words.items)) w.stars w.type_span (scope_of c.args.scope.now) (rw c.deref-in-Cast.ensures.value at c.typed-of.ensures)))

pub any_expression-returns-in-Comma : goal.any_expression-returns-in-Comma
any_expression-returns-in-Comma t c =
    let w = c.in-Comma in
    rw (w.is, expression_of-Comma w.operands w.span)
    (c.comma.ensures (expressions_from (map expression_of w.operands.items)) (scope_of c.args.scope.now) (scope_of c.arguments-given.new.scope) (rw c.deref-in-Comma.ensures.value at c.arguments-given.ensures))

pub any_expression-returns-in-Constant : goal.any_expression-returns-in-Constant
any_expression-returns-in-Constant t c =
    let w = c.in-Constant in
    rw (w.is, expression_of-Constant w.value w.decimal w.unsigned w.longs w.span)
    (c.constant.ensures (scope_of c.args.scope.now))

pub any_expression-returns-in-Character : goal.any_expression-returns-in-Character
any_expression-returns-in-Character t c =
    let w = c.in-Character in
    rw (w.is, expression_of-Character w.value w.span)
    (c.character.ensures (scope_of c.args.scope.now))

pub any_expression-returns-in-Name : goal.any_expression-returns-in-Name
any_expression-returns-in-Name t c =
    rw (c.in-Name.is, expression_of-Name c.in-Name.name) c.named.ensures

pub any_expression-returns-in-Parenthesized : goal.any_expression-returns-in-Parenthesized
any_expression-returns-in-Parenthesized t c =
    let w = c.in-Parenthesized in
    rw (w.is, expression_of-Parenthesized w.inner w.span) (rw c.deref.ensures at c.expression.ensures)

pub any_expression-returns-in-Call : goal.any_expression-returns-in-Call
any_expression-returns-in-Call t c =
    let w = c.in-Call in
    rw (w.is, expression_of-Call w.name w.given w.span) (rw c.deref-in-Call.ensures.value at c.call.ensures)

pub cast-returns-in-Ok : goal.cast-returns-in-Ok
cast-returns-in-Ok t c =
    λ all stars name p h.
    c.cast.ensures all stars name p (scope_of c.args.scope.now) (scope_of c.expression-found.new.scope) (at_ok c.args.of c.in-Ok.of _ c.in-Ok.is h) c.expression-found.ensures

pub conditional-returns-in-Ok : goal.conditional-returns-in-Ok
conditional-returns-in-Ok t c =
    λ a b p q h k.
    c.conditional.ensures a b (expression_of c.args.tree.now) p q (scope_of c.args.scope.now) (scope_of c.expression-other.new.scope) h (at_ok c.args.chosen c.in-Ok.chosen _ c.in-Ok.is k) c.expression-other.ensures

pub call-returns : goal.call-returns
call-returns t c =
    c.call.ensures (expressions_from (map expression_of c.args.trees.now)) (scope_of c.args.scope.now) (count_listed c.args.trees.now) c.in_ok-callee.ensures.parameters c.in_ok-callee.ensures.found (rw c.parameters.ensures at c.arguments-given.ensures)

pub arguments-loop-tree-init : goal.arguments-loop-tree-init
arguments-loop-tree-init t c =
    let s = scope_of c.args.scope.now in
    let all = judge_arguments (expressions_from (map expression_of c.args.trees.now)) (map kind_of c.args.parameters.now) s in
    ap (λ (x : Given (List Argument)). squeezed_given (gathered x all)) (c.none_given-given.ensures s)
    ∙ none_before s all
    (copied_few (expressions_from (map expression_of c.args.trees.now)) (map kind_of c.args.parameters.now) s)

pub arguments-loop-tree-preserved : goal.arguments-loop-tree-preserved
arguments-loop-tree-preserved t c =
    let s = scope_of c.loop-tree.scope in
    let ps = map kind_of c.loop-tree.left.now in
    let later = expressions_from (map expression_of (drop (c.loop-tree.tree-index + 1) c.args.trees.now)) in
    next_turn c.args.trees.now c.loop-tree.tree-index c.tree-item.result (λ ts. squeezed_given (gathered (given_of items_of c.loop-tree.given (scope_of c.loop-tree.scope)) (judge_arguments (expressions_from (map expression_of ts)) (map kind_of c.loop-tree.left.now) (scope_of c.loop-tree.scope)))) _ _ (search rules) c.tree-item.is
    (rw c.rest_of-left.ensures (c.in_ok-given.ensures s c.expression-found.ensures ps later (sym c.first_of.ensures))) c.loop-tree.invariant

pub arguments-returns : goal.arguments-returns
arguments-returns t c =
    c.given_for.ensures (scope_of c.loop-tree.scope) ∙ last_turn c.args.trees.now c.loop-tree.tree-index (λ ts. squeezed_given (gathered (given_of items_of c.loop-tree.given (scope_of c.loop-tree.scope)) (judge_arguments (expressions_from (map expression_of ts)) (map kind_of c.loop-tree.left.now) (scope_of c.loop-tree.scope)))) _ (search rules) c.loop-tree.invariant

pub typed-returns : goal.typed-returns
typed-returns t c =
    let u = scope_of c.specifiers.new.scope in
    c.typed_by.ensures u ∙ in_typed c.args.at c.args.alone (specifiers_from (map specifier_of c.args.trees.now)) (scope_of c.args.scope.now) (judged_of type_of c.in_ok-found.found u) c.in_ok-found.ensures

pub specifiers-loop-tree-init : goal.specifiers-loop-tree-init
specifiers-loop-tree-init t c =
    let s = scope_of c.args.scope.now in
    let all = judge_specifiers c.args.alone (specifiers_from (map specifier_of c.args.trees.now)) s in
    ap (λ (x : Judged CType). squeezed_part (specifiers_judged x all)) (c.no_specifier-found.ensures s)
    ∙ specifiers_first s all

pub specifiers-loop-tree-preserved : goal.specifiers-loop-tree-preserved
specifiers-loop-tree-preserved t c =
    let s = scope_of c.loop-tree.scope in
    next_turn c.args.trees.now c.loop-tree.tree-index c.tree-item.result (λ ts. squeezed_part (specifiers_judged (judged_of type_of c.loop-tree.found (scope_of c.loop-tree.scope)) (judge_specifiers c.args.alone (specifiers_from (map specifier_of ts)) (scope_of c.loop-tree.scope)))) _ _ (search rules) c.tree-item.is
    (c.in_ok-found.ensures (judge_specifier c.args.alone (specifier_of c.tree-item.result) s) s (scope_of c.specifier-one.new.scope) c.specifier-one.ensures (λ v. judge_specifiers c.args.alone (specifiers_from (map specifier_of (drop (c.loop-tree.tree-index + 1) c.args.trees.now))) v)) c.loop-tree.invariant

pub specifiers-returns : goal.specifiers-returns
specifiers-returns t c =
    sym (squeezed_judged type_of c.loop-tree.found (scope_of c.loop-tree.scope)) ∙ sym (specifiers_end (judged_of type_of c.loop-tree.found (scope_of c.loop-tree.scope))) ∙ last_turn c.args.trees.now c.loop-tree.tree-index (λ ts. squeezed_part (specifiers_judged (judged_of type_of c.loop-tree.found (scope_of c.loop-tree.scope)) (judge_specifiers c.args.alone (specifiers_from (map specifier_of ts)) (scope_of c.loop-tree.scope)))) _ (search rules) c.loop-tree.invariant

pub specifier-returns-in-Word : goal.specifier-returns-in-Word
specifier-returns-in-Word t c =
    rw (c.in-Word.is, specifier_of-Word c.in-Word.word c.in-Word.span) (c.no_specifier.ensures (scope_of c.args.scope.now))

pub specifier-returns-in-TypedefName : goal.specifier-returns-in-TypedefName
specifier-returns-in-TypedefName t c =
    let w = c.in-TypedefName in
    let s = scope_of c.args.scope.now in
    rw (w.is, specifier_of-TypedefName w.name)
    (IfOk-weaker c.typedef_name.result _ _ (λ z h. sym (squeezed_judged type_of z s) ∙ ap squeezed_part h) c.typedef_name.ensures)

pub specifier-returns-in-StructureTag : goal.specifier-returns-in-StructureTag
specifier-returns-in-StructureTag t c =
    let w = c.in-StructureTag in
    let u = scope_of c.structure_tag.new.scope in
    rw (w.is, specifier_of-StructureTag w.tag w.span)
    (IfOk-weaker c.structure_tag.result _ _ (λ z h. sym (squeezed_judged type_of z u) ∙ ap squeezed_part h) c.structure_tag.ensures)

pub specifier-returns-in-EnumerationTag : goal.specifier-returns-in-EnumerationTag
specifier-returns-in-EnumerationTag t c =
    let w = c.in-EnumerationTag in
    rw (w.is, specifier_of-EnumerationTag w.tag w.span)
    (sym (squeezed_judged type_of c.enumeration_tag.result (scope_of c.args.scope.now)) ∙ ap squeezed_part c.enumeration_tag.ensures)

pub specifier-returns-in_ok-opened-in-Structure : goal.specifier-returns-in_ok-opened-in-Structure
specifier-returns-in_ok-opened-in-Structure t c =
    let w = c.in-Structure in
    rw (w.is, specifier_of-Structure w.tag w.list w.span)
    (c.structure.ensures c.args.alone (tag_of w.tag) (members_from (map member_of w.list.items)) w.span (scope_of c.args.scope.now) (scope_of c.open_structure.new.scope) c.in_ok-opened-in-Structure.ensures (rw (c.deref.ensures.value, c.new-parts.ensures) at c.members-fault.ensures))

pub specifier-returns-in_ok-found-in-Enumeration : goal.specifier-returns-in_ok-found-in-Enumeration
specifier-returns-in_ok-found-in-Enumeration t c =
    let w = c.in-Enumeration in
    let r = scope_of c.enter_enumeration.new.scope in
    let u = scope_of c.enumerators.new.scope in
    rw (w.is, specifier_of-Enumeration w.tag w.list w.span)
    (c.enumeration.ensures u ∙ in_enumeration c.args.alone (tag_of w.tag) (enumerators_from (map enumerator_of w.list.items)) w.span (scope_of c.args.scope.now) r (listed c.in_ok-own-in-Enumeration.own) (number_judged c.in_ok-found-in-Enumeration.found u) c.in_ok-own-in-Enumeration.ensures.fault c.in_ok-own-in-Enumeration.ensures.scope (rw c.deref-in-Enumeration.ensures.value at c.in_ok-found-in-Enumeration.ensures))

pub members-loop-tree-init : goal.members-loop-tree-init
members-loop-tree-init t c =
    refl

pub members-loop-tree-preserved : goal.members-loop-tree-preserved
members-loop-tree-preserved t c =
    next_turn c.args.trees.now c.loop-tree.tree-index c.tree-item.result (λ ts. squeezed_listed (after_faults (listed c.loop-tree.fault) (judge_members (members_from (map member_of ts)) (map listed_of c.loop-tree.parts) (scope_of c.loop-tree.scope)))) _ _ (search rules) c.tree-item.is
    (listed_turn c.loop-tree.fault _ (judge_member (member_of c.tree-item.result) (map listed_of c.loop-tree.parts) (scope_of c.loop-tree.scope)) (listed_members c.in_ok-one.one c.member.new.parts (scope_of c.member.new.scope)) (λ ms v. judge_members (members_from (map member_of (drop (c.loop-tree.tree-index + 1) c.args.trees.now))) ms v) c.in_ok-one.ensures c.first_fault-fault.ensures) c.loop-tree.invariant

pub members-returns : goal.members-returns
members-returns t c =
    sym (squeezed_last c.loop-tree.fault (map listed_of c.loop-tree.parts) (scope_of c.loop-tree.scope)) ∙ last_turn c.args.trees.now c.loop-tree.tree-index (λ ts. squeezed_listed (after_faults (listed c.loop-tree.fault) (judge_members (members_from (map member_of ts)) (map listed_of c.loop-tree.parts) (scope_of c.loop-tree.scope)))) _ (search rules) c.loop-tree.invariant

pub member-returns : goal.member-returns
member-returns t c =
    let m = c.args.tree.now in
    rw (member_of-parts m)
    (c.member.ensures (specifiers_from (map specifier_of m.specifiers.items)) (declarators_from (map declarator_of m.declarators.items)) m.span (map listed_of c.args.parts.now) c.declarators-fault.new.parts (scope_of c.args.scope.now) (scope_of c.typed.new.scope) (scope_of c.declarators-fault.new.scope) (rw c.deref.ensures.value at c.in_ok-of.ensures) (rw c.deref-2.ensures.value at c.declarators-fault.ensures))

pub declarators-loop-tree-init : goal.declarators-loop-tree-init
declarators-loop-tree-init t c =
    refl

pub declarators-loop-tree-preserved : goal.declarators-loop-tree-preserved
declarators-loop-tree-preserved t c =
    next_turn c.args.trees.now c.loop-tree.tree-index c.tree-item.result (λ ts. squeezed_listed (after_faults (listed c.loop-tree.fault) (judge_declarators (option_map type_of c.args.base.now) (declarators_from (map declarator_of ts)) (map listed_of c.loop-tree.parts) (scope_of c.loop-tree.scope)))) _ _ (search rules) c.tree-item.is
    (listed_turn c.loop-tree.fault _ (judge_declarator (option_map type_of c.args.base.now) (declarator_of c.tree-item.result) (map listed_of c.loop-tree.parts) (scope_of c.loop-tree.scope)) (listed_members c.in_ok-one.one c.declarator.new.parts (scope_of c.declarator.new.scope)) (λ ms v. judge_declarators (option_map type_of c.args.base.now) (declarators_from (map declarator_of (drop (c.loop-tree.tree-index + 1) c.args.trees.now))) ms v) c.in_ok-one.ensures c.first_fault-fault.ensures) c.loop-tree.invariant

pub declarators-returns : goal.declarators-returns
declarators-returns t c =
    sym (squeezed_last c.loop-tree.fault (map listed_of c.loop-tree.parts) (scope_of c.loop-tree.scope)) ∙ last_turn c.args.trees.now c.loop-tree.tree-index (λ ts. squeezed_listed (after_faults (listed c.loop-tree.fault) (judge_declarators (option_map type_of c.args.base.now) (declarators_from (map declarator_of ts)) (map listed_of c.loop-tree.parts) (scope_of c.loop-tree.scope)))) _ (search rules) c.loop-tree.invariant

pub declarator-returns-in_ok-given-in-Object : goal.declarator-returns-in_ok-given-in-Object
declarator-returns-in_ok-given-in-Object t c =
    let w = c.in-Object in
    let s = scope_of c.args.scope.now in
    let r = scope_of c.lengths.new.scope in
    rw (w.is, declarator_of-Object w.stars w.name w.list w.span)
    (found_as c.member.result (λ z. listed_members z c.member.new.members r) _ _ c.member.ensures
    (rw c.deref-in-Object.ensures.value (in_object_member (option_map type_of c.args.base.now) w.stars (name_of w.name) (lengths_from (map array_length_of w.list.items)) w.span (map listed_of c.args.parts.now) s (judged_of lengths_in c.in_ok-given-in-Object.given r) (rw c.deref.ensures.value at c.in_ok-given-in-Object.ensures))))

pub declarator-returns-in-Function : goal.declarator-returns-in-Function
declarator-returns-in-Function t c =
    let w = c.in-Function in
    let e = c.prototype-found.ensures in
    rw (w.is, declarator_of-Function w.stars w.name w.list w.list_span w.span)
    (c.function_member.ensures (option_map type_of c.args.base.now) w.stars (tree.Listed (parameters_from (map parameter_of w.list.items)) w.list_span) w.span (scope_of c.args.scope.now) (rw c.deref-in-Function.ensures.value at e.found) e.scope)

pub declarator-returns-in-EmptyFunction : goal.declarator-returns-in-EmptyFunction
declarator-returns-in-EmptyFunction t c =
    let w = c.in-EmptyFunction in
    let s = scope_of c.args.scope.now in
    let base = option_map type_of c.args.base.now in
    elim w.is [
      | inl x ↦ rw (x.3, declarator_of-EmptyFunction x.0 w.name x.1 x.2)
          (c.function_member-in-EmptyFunction.ensures base x.0 (tree.Empty x.1) x.2 s c.no_parameters-none.ensures refl)
      | inr x ↦ rw (x.3, declarator_of-VoidFunction x.0 w.name x.1 x.2)
          (c.function_member-in-EmptyFunction.ensures base x.0 (tree.Void x.1) x.2 s c.no_parameters-none.ensures refl)
    ]

pub enumerator-returns-in-Bare : goal.enumerator-returns-in-Bare
enumerator-returns-in-Bare t c =
    rw (c.in-Bare.is, enumerator_of-Bare c.in-Bare.name) c.enumerator.ensures

pub enumerator-returns-in-Valued : goal.enumerator-returns-in-Valued
enumerator-returns-in-Valued t c =
    let w = c.in-Valued in
    rw (w.is, enumerator_of-Valued w.name w.given)
    (rw c.deref-in-Valued.ensures at (c.valued_enumerator.ensures c.args.value (scope_of c.args.scope.now) (rw (c.deref.ensures, ← c.deref-in-Valued.ensures) at c.expression-found.ensures)))

pub enumerators-loop-tree-init : goal.enumerators-loop-tree-init
enumerators-loop-tree-init t c =
    refl

pub enumerators-loop-tree-preserved : goal.enumerators-loop-tree-preserved
enumerators-loop-tree-preserved t c =
    next_turn c.args.trees.now c.loop-tree.tree-index c.tree-item.result (λ ts. squeezed_part (after (listed c.loop-tree.fault) (judge_enumerators (enumerators_from (map enumerator_of ts)) c.loop-tree.value (scope_of c.loop-tree.scope)))) _ _ (search rules) c.tree-item.is
    (judged_turn c.loop-tree.fault _ (judge_enumerator (enumerator_of c.tree-item.result) c.loop-tree.value (scope_of c.loop-tree.scope)) (number_judged c.in_ok-one.one (scope_of c.enumerator.new.scope)) (λ w v. judge_enumerators (enumerators_from (map enumerator_of (drop (c.loop-tree.tree-index + 1) c.args.trees.now))) w v) c.in_ok-one.ensures c.first_fault-fault.ensures) c.loop-tree.invariant

pub enumerators-returns : goal.enumerators-returns
enumerators-returns t c =
    sym (judged_last c.loop-tree.fault c.loop-tree.value (scope_of c.loop-tree.scope)) ∙ last_turn c.args.trees.now c.loop-tree.tree-index (λ ts. squeezed_part (after (listed c.loop-tree.fault) (judge_enumerators (enumerators_from (map enumerator_of ts)) c.loop-tree.value (scope_of c.loop-tree.scope)))) _ (search rules) c.loop-tree.invariant

pub lengths-loop-tree-init : goal.lengths-loop-tree-init
lengths-loop-tree-init t c =
    let s = scope_of c.args.scope.now in
    let all = judge_lengths (lengths_from (map array_length_of c.args.trees.now)) s in
    ap (λ (x : Judged (List ℕ)). squeezed_part (both_lists x all)) (c.no_lengths-list.ensures s)
    ∙ lists_first s all

pub lengths-loop-tree-preserved : goal.lengths-loop-tree-preserved
lengths-loop-tree-preserved t c =
    next_turn c.args.trees.now c.loop-tree.tree-index c.tree-item.result (λ ts. squeezed_part (both_lists (judged_of lengths_in c.loop-tree.list (scope_of c.loop-tree.scope)) (judge_lengths (lengths_from (map array_length_of ts)) (scope_of c.loop-tree.scope)))) _ _ (search rules) c.tree-item.is
    (c.in_ok-list.ensures (lengths_from (map array_length_of (drop (c.loop-tree.tree-index + 1) c.args.trees.now)))) c.loop-tree.invariant

pub lengths-returns : goal.lengths-returns
lengths-returns t c =
    sym (squeezed_judged lengths_in c.loop-tree.list (scope_of c.loop-tree.scope)) ∙ sym (lengths_end (judged_of lengths_in c.loop-tree.list (scope_of c.loop-tree.scope))) ∙ last_turn c.args.trees.now c.loop-tree.tree-index (λ ts. squeezed_part (both_lists (judged_of lengths_in c.loop-tree.list (scope_of c.loop-tree.scope)) (judge_lengths (lengths_from (map array_length_of ts)) (scope_of c.loop-tree.scope)))) _ (search rules) c.loop-tree.invariant

pub more_lengths-returns-in-Absent : goal.more_lengths-returns-in-Absent
more_lengths-returns-in-Absent t c =
    rw (c.in-Absent.is, array_length_of-Absent) (λ rest. refl)

pub more_lengths-returns-in-Given : goal.more_lengths-returns-in-Given
more_lengths-returns-in-Given t c =
    let w = c.in-Given in
    rw (w.is, array_length_of-Given w.value)
    (rw c.deref-in-Given.ensures at (c.more_lengths.ensures (scope_of c.args.scope.now) (scope_of c.expression-found.new.scope) (rw (c.deref.ensures, ← c.deref-in-Given.ensures) at c.expression-found.ensures)))

pub parameters-loop-tree-init : goal.parameters-loop-tree-init
parameters-loop-tree-init t c =
    let s = scope_of c.args.scope.now in
    let all = judge_parameter_list (parameters_from (map parameter_of c.args.trees.now)) s in
    ap (λ (x : Listed (Option ParameterKind)). squeezed_listed (joined x all)) (c.no_parameters-list.ensures s)
    ∙ joined_first s all

pub parameters-loop-tree-preserved : goal.parameters-loop-tree-preserved
parameters-loop-tree-preserved t c =
    let s = scope_of c.loop-tree.scope in
    next_turn c.args.trees.now c.loop-tree.tree-index c.tree-item.result (λ ts. squeezed_listed (joined (listed_parameters c.loop-tree.list (scope_of c.loop-tree.scope)) (judge_parameter_list (parameters_from (map parameter_of ts)) (scope_of c.loop-tree.scope)))) _ _ (search rules) c.tree-item.is
    (c.in_ok-list.ensures (judge_parameter (parameter_of c.tree-item.result) s) s (scope_of c.parameter-one.new.scope) c.parameter-one.ensures (λ v. judge_parameter_list (parameters_from (map parameter_of (drop (c.loop-tree.tree-index + 1) c.args.trees.now))) v)) c.loop-tree.invariant

pub parameters-returns : goal.parameters-returns
parameters-returns t c =
    sym (squeezed_parameters c.loop-tree.list (scope_of c.loop-tree.scope)) ∙ sym (parameters_end (listed_parameters c.loop-tree.list (scope_of c.loop-tree.scope))) ∙ last_turn c.args.trees.now c.loop-tree.tree-index (λ ts. squeezed_listed (joined (listed_parameters c.loop-tree.list (scope_of c.loop-tree.scope)) (judge_parameter_list (parameters_from (map parameter_of ts)) (scope_of c.loop-tree.scope)))) _ (search rules) c.loop-tree.invariant

pub parameter-returns : goal.parameter-returns
parameter-returns t c =
    c.parameter.ensures (scope_of c.args.scope.now) (scope_of c.typed.new.scope) c.objects_so_far-before.ensures (rw c.deref.ensures.value at c.in_ok-of.ensures) (rw c.deref-2.ensures.value at c.lengths-given.ensures)

pub prototype-returns-clause-found : goal.prototype-returns-clause-found
prototype-returns-clause-found t c =
    in_prototype c.parameters-found.result (parameters_from (map parameter_of c.args.trees.now)) (scope_of c.enter_declarator-prototype.new.self) (scope_of c.parameters-found.new.scope) (scope_of c.args.scope.now) c.parameters-found.ensures c.enter_declarator-prototype.ensures.entered

pub prototype-returns-clause-scope : goal.prototype-returns-clause-scope
prototype-returns-clause-scope t c =
    let e = c.enter_declarator-prototype.ensures in
    prototype_ends c.parameters-found.result (parameters_from (map parameter_of c.args.trees.now)) (scope_of c.enter_declarator-prototype.new.self) (scope_of c.parameters-found.new.scope) (scope_of c.args.scope.now) (scope_of c.leave_declarator.new.self) (prototype_of c.enter_declarator-prototype.result) c.parameters-found.ensures e.entered c.leave_declarator.ensures e.around

-- ---- each part is smaller

pub expression-any_expression-requires : goal.expression-any_expression-requires
expression-any_expression-requires t c = (to_any_expression c.args.tree.now t c.decreases, tt)

pub expression-expression-requires : goal.expression-expression-requires
expression-expression-requires t c =
    let w = c.in-Parenthesized in
    (from_operand _ _ _ _ t c.deref.ensures w.is (parenthesized_inner w.inner w.span) c.decreases, tt)

pub expression-expression-first-requires : goal.expression-expression-first-requires
expression-expression-first-requires t c =
    let w = c.in-Binary in
    (from_operand _ _ _ _ t c.deref-in-Binary.ensures w.is (binary_left w.operator w.left w.right w.span) c.decreases, tt)

pub expression-binary-requires : goal.expression-binary-requires
expression-binary-requires t c =
    let w = c.in-Binary in
    (from_first _ _ _ _ t c.deref-in-Binary-2.ensures w.is (binary_right w.operator w.left w.right w.span) c.decreases, tt)

pub binary-expression-second-requires : goal.binary-expression-second-requires
binary-expression-second-requires t c = (from_later c.args.tree.now t c.decreases, tt)

pub any_expression-expression-requires : goal.any_expression-expression-requires
any_expression-expression-requires t c =
    let w = c.in-Parenthesized in
    (to_operand _ _ _ _ t c.deref.ensures w.is (parenthesized_inner w.inner w.span) c.decreases, tt)

pub any_expression-expression-requires-in-Index : goal.any_expression-expression-requires-in-Index
any_expression-expression-requires-in-Index t c =
    let w = c.in-Index in
    (to_operand _ _ _ _ t c.deref-in-Index.ensures w.is (index_array w.array w.index w.span) c.decreases, tt)

pub any_expression-expression-index-requires : goal.any_expression-expression-index-requires
any_expression-expression-index-requires t c =
    let w = c.in-Index in
    (to_operand _ _ _ _ t c.deref-in-Index-2.ensures w.is (index_index w.array w.index w.span) c.decreases, tt)

pub any_expression-expression-found-requires : goal.any_expression-expression-found-requires
any_expression-expression-found-requires t c =
    let w = c.in-Member in
    (to_operand _ _ _ _ t c.deref-in-Member.ensures w.is (member_object w.object w.name w.span) c.decreases, tt)

pub any_expression-expression-found-requires-in-PostfixStep : goal.any_expression-expression-found-requires-in-PostfixStep
any_expression-expression-found-requires-in-PostfixStep t c =
    let w = c.in-PostfixStep in
    (to_operand _ _ _ _ t c.deref-in-PostfixStep.ensures w.is (postfix_operand w.operator w.operand w.span) c.decreases, tt)

pub any_expression-expression-found-requires-in-PrefixStep : goal.any_expression-expression-found-requires-in-PrefixStep
any_expression-expression-found-requires-in-PrefixStep t c =
    let w = c.in-PrefixStep in
    (to_operand _ _ _ _ t c.deref-in-PrefixStep.ensures w.is (prefix_operand w.operator w.operand w.span) c.decreases, tt)

pub any_expression-expression-found-requires-in-Unary : goal.any_expression-expression-found-requires-in-Unary
any_expression-expression-found-requires-in-Unary t c =
    let w = c.in-Unary in
    (to_operand _ _ _ _ t c.deref-in-Unary.ensures w.is (unary_operand w.operator w.operand w.span) c.decreases, tt)

pub any_expression-expression-first-requires : goal.any_expression-expression-first-requires
any_expression-expression-first-requires t c =
    let w = c.in-Binary in
    (to_operand _ _ _ _ t c.deref-in-Binary.ensures w.is (binary_left w.operator w.left w.right w.span) c.decreases, tt)

pub any_expression-binary-requires : goal.any_expression-binary-requires
any_expression-binary-requires t c =
    let w = c.in-Binary in
    (to_later _ _ _ _ t c.deref-in-Binary-2.ensures w.is (binary_right w.operator w.left w.right w.span) c.decreases, tt)

pub any_expression-expression-requires-in-Conditional : goal.any_expression-expression-requires-in-Conditional
any_expression-expression-requires-in-Conditional t c =
    let w = c.in-Conditional in
    (to_operand _ _ _ _ t c.deref-in-Conditional.ensures w.is (conditional_test w.test w.chosen w.other w.span) c.decreases, tt)

pub any_expression-expression-chosen-requires : goal.any_expression-expression-chosen-requires
any_expression-expression-chosen-requires t c =
    let w = c.in-Conditional in
    (to_operand _ _ _ _ t c.deref-in-Conditional-2.ensures w.is (conditional_chosen w.test w.chosen w.other w.span) c.decreases, tt)

pub any_expression-conditional-requires : goal.any_expression-conditional-requires
any_expression-conditional-requires t c =
    let w = c.in-Conditional in
    (to_later _ _ _ _ t c.deref-in-Conditional-3.ensures w.is (conditional_other w.test w.chosen w.other w.span) c.decreases, tt)

pub any_expression-expression-requires-in-Assignment : goal.any_expression-expression-requires-in-Assignment
any_expression-expression-requires-in-Assignment t c =
    let w = c.in-Assignment in
    (to_operand _ _ _ _ t c.deref-in-Assignment.ensures w.is (assignment_target w.operator w.target w.value w.span) c.decreases, tt)

pub any_expression-expression-value-requires : goal.any_expression-expression-value-requires
any_expression-expression-value-requires t c =
    let w = c.in-Assignment in
    (to_operand _ _ _ _ t c.deref-in-Assignment-2.ensures w.is (assignment_value w.operator w.target w.value w.span) c.decreases, tt)

pub cast-expression-found-requires : goal.cast-expression-found-requires
cast-expression-found-requires t c = (from_later c.args.tree.now t c.decreases, tt)

pub conditional-expression-other-requires : goal.conditional-expression-other-requires
conditional-expression-other-requires t c = (from_later c.args.tree.now t c.decreases, tt)
