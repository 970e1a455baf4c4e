-- Which nodes are outside the profile: a definition for each form, and the first node that has one.
use Rattle.std.specs.Prelude.{◌-◌, Bool, true, false, not, ◌||◌, nat_lt, if◌then◌else◌, List, [], ◌∷◌, Option, Some, None, Result, Ok, Err}
use Rattle.mc_span.specs.declared.span.Span.{Span}
use Rattle.mc_tree.specs.declared.expressions.unary_operator.UnaryOperator.{UnaryOperator}
use Rattle.mc_tree.specs.declared.expressions.unary_operator.UnaryOperator.TheVariants as operator
use Rattle.mc_tree.specs.declared.declarations.specifier_word.SpecifierWord.TheVariants as word
use Rattle.mc_tree.specs.Tree.{Statement, Specifier, Specifiers, Parameters, span_of, span_of_specifier, span_of_statement, span_of_parameters}
use Rattle.mc_tree.specs.Tree as tree
use Rattle.subset_forms.specs.declared.context.Role.{Role}
use Rattle.subset_forms.specs.declared.context.Role.TheVariants as role
use Rattle.subset_forms.specs.declared.context.Standing.{Standing}
use Rattle.subset_forms.specs.declared.context.Standing.TheVariants as standing
use Rattle.subset_forms.specs.declared.form.Form.{Form}
use Rattle.subset_forms.specs.declared.form.Form.TheVariants as form
use Rattle.subset_forms.specs.declared.outside.Outside.{Outside}
use Rattle.subset_forms.specs.Order.{or_else}
use Rattle.mc_subset.specs.Nodes.{Node, an_expression, a_type_name, a_specifier, a_member, a_declarator, a_parameter_list, a_parameter, a_declaration, a_statement, is_local}

-- `*` and `&` before an operand (C17 6.5.3.2)
abbrev pub is_of_pointers : UnaryOperator → Bool
is_of_pointers operator.Dereference = true
is_of_pointers operator.Address = true
is_of_pointers _ = false

-- pointer: a declarator, a parameter or a type name with `*` (C17 6.7.6.1), or unary `*` or `&`
abbrev pub is_pointer : Node → Bool
is_pointer (a_declarator (tree.object stars name all span) local external) = nat_lt 0 stars
is_pointer (a_declarator (tree.function stars name all span) local external) = nat_lt 0 stars
is_pointer (a_parameter (tree.parameter s stars name all span)) = nat_lt 0 stars
is_pointer (a_type_name (tree.type_name s stars span)) = nat_lt 0 stars
is_pointer (an_expression (tree.Unary o a span) r) = is_of_pointers o
is_pointer _ = false

abbrev pub is_part : Role → Bool
is_part role.Part = true
is_part _ = false

-- nested assignment: an assignment, `++` or `--` that is neither a whole expression statement nor a
-- clause of the first or third part of a `for` (C17 6.5.2.4, 6.5.3.1, 6.5.16)
abbrev pub is_nested_assignment : Node → Bool
is_nested_assignment (an_expression (tree.Assignment o a b span) r) = is_part r
is_nested_assignment (an_expression (tree.PostfixStep o a span) r) = is_part r
is_nested_assignment (an_expression (tree.PrefixStep o a span) r) = is_part r
is_nested_assignment _ = false

abbrev pub is_for_part : Role → Bool
is_for_part role.ForPart = true
is_for_part _ = false

-- comma: a comma between expressions, except between clauses of the first or third part of a `for`
-- (C17 6.5.17)
abbrev pub is_comma : Node → Bool
is_comma (an_expression (tree.Comma all span) r) = not (is_for_part r)
is_comma _ = false

-- goto: a `goto`, or an ordinary label (C17 6.8.1, 6.8.6.1)
abbrev pub is_goto : Node → Bool
is_goto (a_statement (tree.Goto name span) w) = true
is_goto (a_statement (tree.Label name s span) w) = true
is_goto _ = false

-- empty parameters: a parameter list without a token (C17 6.7.6.3)
abbrev pub is_empty_parameters : Node → Bool
is_empty_parameters (a_parameter_list (tree.Empty span)) = true
is_empty_parameters _ = false

abbrev pub is_compound : Statement → Bool
is_compound (tree.Compound b span) = true
is_compound _ = false

abbrev pub is_before_labels : Standing → Bool
is_before_labels standing.BeforeLabels = true
is_before_labels _ = false

abbrev pub is_among_labels : Standing → Bool
is_among_labels standing.AmongLabels = true
is_among_labels _ = false

-- switch shape (C17 6.8.1, 6.8.4.2): a `switch` whose body is not a compound statement; a
-- declaration directly in the body of a `switch`; a statement directly in that body before its
-- first label; a `case` or `default` label that does not stand directly in the body of a `switch`
abbrev pub is_switch_shape : Node → Bool
is_switch_shape (a_statement (tree.Switch a s span) w) = is_before_labels w || not (is_compound s)
is_switch_shape (a_statement (tree.Case a label s span) w) = not (is_among_labels w)
is_switch_shape (a_statement (tree.Default label s span) w) = not (is_among_labels w)
is_switch_shape (a_statement s w) = is_before_labels w
is_switch_shape (a_declaration d w) = is_before_labels w || is_among_labels w
is_switch_shape _ = false

-- local tag: a structure or enumeration with a list, inside a function definition or a parameter
-- (C17 6.7.2.1, 6.7.2.2)
abbrev pub is_local_tag : Node → Bool
is_local_tag (a_specifier (tree.Structure tag all span) g) = is_local g
is_local_tag (a_specifier (tree.Enumeration tag all span) g) = is_local g
is_local_tag _ = false

-- local function: a function declarator in a local declaration (C17 6.7.6.3)
abbrev pub is_local_function : Node → Bool
is_local_function (a_declarator (tree.function stars name all span) local external) = local
is_local_function _ = false

-- external object: `extern` on a declarator that is not a function's (C17 6.7.1)
abbrev pub is_external_object : Node → Bool
is_external_object (a_declarator (tree.object stars name all span) local external) = external
is_external_object _ = false

abbrev pub is_const : Specifier → Bool
is_const (tree.Word word.Const span) = true
is_const _ = false

abbrev pub has_const : Specifiers → Bool
has_const tree.no_specifiers = false
has_const (tree.specifiers s rest) = is_const s || has_const rest

-- const member: `const` in a member (C17 6.7.2.1, 6.7.3)
abbrev pub is_const_member : Node → Bool
is_const_member (a_member (tree.member s ds span)) = has_const s
is_const_member _ = false

-- at one node the upper row answers
unfoldable pub form_of : Node → Option Form
form_of n =
    if is_pointer n then Some form.Pointer else (
    if is_nested_assignment n then Some form.NestedAssignment else (
    if is_comma n then Some form.Comma else (
    if is_goto n then Some form.Goto else (
    if is_empty_parameters n then Some form.EmptyParameters else (
    if is_switch_shape n then Some form.SwitchShape else (
    if is_local_tag n then Some form.LocalTag else (
    if is_local_function n then Some form.LocalFunction else (
    if is_external_object n then Some form.ExternalObject else (
    if is_const_member n then Some form.ConstMember else None)))))))))

-- the `)` of a parameter list
abbrev pub closing : Span → Span
closing span = record { start = span.end - 1; end = span.end }

-- where a node stands; a parameter list without a token stands at its `)`
abbrev pub place_of : Node → Span
place_of (an_expression e r) = span_of e
place_of (a_type_name (tree.type_name s stars span)) = span
place_of (a_specifier s g) = span_of_specifier s
place_of (a_member (tree.member s ds span)) = span
place_of (a_declarator (tree.object stars name all span) local external) = span
place_of (a_declarator (tree.function stars name all span) local external) = span
place_of (a_parameter_list all) = closing (span_of_parameters all)
place_of (a_parameter (tree.parameter s stars name all span)) = span
place_of (a_declaration (tree.declaration s ds span) w) = span
place_of (a_statement s w) = span_of_statement s

-- what is said of a node
abbrev pub outside_at : Option Form → Span → Option Outside
outside_at None span = None
outside_at (Some form) span = Some (record { form = form; span = span })

-- the first node of a list that is outside, where there is one
abbrev pub first_outside : List Node → Option Outside
first_outside [] = None
first_outside (n ∷ rest) = or_else (outside_at (form_of n) (place_of n)) (first_outside rest)

abbrev pub accepted_unless : Option Outside → Result (Unit {0}) Outside
accepted_unless None = Ok tt
accepted_unless (Some first) = Err first
