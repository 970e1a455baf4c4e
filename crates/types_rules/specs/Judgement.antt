-- What is found of each node of an expression, of specifiers and of a declarator: one equation for
-- each node. The scope that a part leaves is that of the part after it, in the order of the text.
use Rattle.std.specs.Prelude.{ℕ, ℤ, Bool, false, not, List, [], ◌++◌, Option, Some, None, pos}
use Rattle.mc_tree.specs.Tree.{Expression, Expressions, TypeName, Specifier, Specifiers, StructMember, Members, Enumerator, Enumerators, Declarator, Declarators, ArrayLengths, Parameters, Parameter, ParameterList, span_of}
use Rattle.mc_tree.specs.Tree as tree
use Rattle.mc_typed.specs.Tree.{Arguments}
use Rattle.types_faults.specs.declared.fault.Fault.{Fault}
use Rattle.types_faults.specs.declared.fault.FaultKind.TheVariants.{Mismatch}
use Rattle.types_faults.specs.Faults.{fault_if}
use Rattle.types_rules.specs.Types.{CType, Member, ParameterKind, has_type, type_of_specifiers}
use Rattle.types_rules.specs.Scopes.{Scope, meaning_of, tag_of, prototype, with_objects_of}
use Rattle.types_rules.specs.Values.{Judged, judged, judged_two, Found}
use Rattle.types_rules.specs.Expressions.{name_found, constant_literal, character_literal, index_found, member_found, step_found, operator_after, operator_before, unary_found, cast_found, binary_found, conditional_found, assignment_found}
use Rattle.types_rules.specs.Calls.{Given, judged_given, argument_judged, first_of, rest_of, no_more, arguments_judged, parameters_of, argument_count, call_found, comma_found}
use Rattle.types_rules.specs.Declarators.{Listed, after_faults, typedef_type, structure_tag, used_enumeration_tag, opened, structure_judged, enumeration_scope, enumeration_faults, enumeration_judged, enumerator_judged, valued_enumerator_judged, lengths_judged, member_listed, function_member_listed, name_start, parameter_listed, joined, listed_none}

-- the type of specifiers, by what is found of the one that is no word; what is read has a type
abbrev pub typed_by : ℕ → Specifiers → Judged CType → Judged CType
typed_by at all x = record x {
  faults = x.faults ++ fault_if (not (has_type all)) Mismatch at;
  value = type_of_specifiers all x.value;
}

-- at most one of two specifiers is no word
abbrev pub one_of : Option CType → Option CType → Option CType
one_of None other = other
one_of (Some u) other = Some u

abbrev pub specifiers_judged : Judged CType → Judged CType → Judged CType
specifiers_judged x y = judged_two [] (one_of x.value y.value) x y

abbrev pub after : {A : Type 0} → List Fault → Judged A → Judged A
after faults x = record x { faults = faults ++ x.faults }

-- A frame has the objects of a body and of parameters: a call in the type of a parameter adds none.
abbrev pub uncalled : {A : Type 0} → Scope → Judged A → Judged A
uncalled before x = record x { scope = with_objects_of before x.scope }

abbrev mutual
  -- expressions (C17 6.5)
  pub judge : Expression → Scope → Found
  judge (tree.Named name) s = name_found name s
  judge (tree.Constant v decimal unsigned longs span) s =
      constant_literal v decimal unsigned longs span s
  judge (tree.Character v span) s = character_literal v span s
  judge (tree.Parenthesized inner span) s = judge inner s
  judge (tree.Call name given span) s =
      call_found name (argument_count given) span (meaning_of name s)
      (judge_arguments given (parameters_of (meaning_of name s)) s)
  judge (tree.Index a b span) s = let x = judge a s in index_found span x (judge b x.scope)
  judge (tree.Member a name span) s = member_found name span (judge a s)
  judge (tree.PostfixStep operator a span) s =
      step_found operator (operator_after span) span (judge a s)
  judge (tree.PrefixStep operator a span) s =
      step_found operator (operator_before span) span (judge a s)
  judge (tree.Unary operator a span) s = unary_found operator span (judge a s)
  judge (tree.Cast type a span) s =
      let x = judge_type type s in cast_found span x a (judge a x.scope)
  judge (tree.Binary operator a b span) s =
      let x = judge a s in binary_found operator span x (judge b x.scope)
  judge (tree.Conditional a b c span) s =
      let x = judge a s in
      let y = judge b x.scope in
      conditional_found span x y (judge c y.scope)
  judge (tree.Assignment operator a b span) s =
      let x = judge a s in assignment_found operator span x (judge b x.scope)
  judge (tree.Comma operands span) s = comma_found span.start (judge_arguments operands [] s)

  -- arguments, for these parameters
  pub judge_arguments : Expressions → List ParameterKind → Scope → Given Arguments
  judge_arguments tree.no_expressions ps s = judged_given [] (no_more ps) 0 s
  judge_arguments (tree.expressions e rest) ps s =
      let x = argument_judged (span_of e).start (first_of ps) (judge e s) in
      arguments_judged x (judge_arguments rest (rest_of ps) x.scope)

  -- type names (C17 6.7.7)
  pub judge_type : TypeName → Scope → Judged CType
  judge_type (tree.type_name all stars span) s =
      typed_by span.start all (judge_specifiers false all s)

  -- A specifier (C17 6.7.2); `alone` says that it is a whole declaration.
  pub judge_specifier : Bool → Specifier → Scope → Judged CType
  judge_specifier alone (tree.Word word span) s = judged [] None s
  judge_specifier alone (tree.TypedefName name) s = typedef_type name s (meaning_of name s)
  judge_specifier alone (tree.StructureTag tag span) s = structure_tag alone tag span s
  judge_specifier alone (tree.Structure tag all span) s =
      let x = opened tag s in structure_judged x (judge_members all [] x.scope)
  judge_specifier alone (tree.EnumerationTag tag span) s =
      used_enumeration_tag tag span s (tag_of tag s)
  judge_specifier alone (tree.Enumeration tag all span) s =
      enumeration_judged (enumeration_faults tag s)
      (judge_enumerators all (Some (pos 0)) (enumeration_scope tag s))

  -- the one among them that is no word
  pub judge_specifiers : Bool → Specifiers → Scope → Judged CType
  judge_specifiers alone tree.no_specifiers s = judged [] None s
  judge_specifiers alone (tree.specifiers one rest) s =
      let x = judge_specifier alone one s in
      specifiers_judged x (judge_specifiers alone rest x.scope)

  -- members, after these (C17 6.7.2.1)
  pub judge_member : StructMember → List Member → Scope → Listed Member
  judge_member (tree.member all ds span) members s =
      let x = typed_by span.start all (judge_specifiers false all s) in
      after_faults x.faults (judge_declarators x.value ds members x.scope)

  pub judge_members : Members → List Member → Scope → Listed Member
  judge_members tree.no_members members s = record { faults = []; items = members; scope = s }
  judge_members (tree.members m rest) members s =
      let x = judge_member m members s in
      after_faults x.faults (judge_members rest x.items x.scope)

  -- an enumerator, whose value is this one where it has none of its own; the value of the next one
  pub judge_enumerator : Enumerator → Option ℤ → Scope → Judged ℤ
  judge_enumerator (tree.enumerator name) v s = enumerator_judged name v s
  judge_enumerator (tree.valued_enumerator name e) v s =
      valued_enumerator_judged name (span_of e).start (judge e s)

  pub judge_enumerators : Enumerators → Option ℤ → Scope → Judged ℤ
  judge_enumerators tree.no_enumerators v s = judged [] v s
  judge_enumerators (tree.enumerators one rest) v s =
      let x = judge_enumerator one v s in after x.faults (judge_enumerators rest x.value x.scope)

  -- a declarator of a member of this type
  pub judge_declarator : Option CType → Declarator → List Member → Scope → Listed Member
  judge_declarator base (tree.object stars name lengths span) members s =
      member_listed base name lengths members (judge_lengths lengths s)
  judge_declarator base (tree.function stars name all span) members s =
      function_member_listed name members (judge_parameters all (prototype s)) s

  pub judge_declarators : Option CType → Declarators → List Member → Scope → Listed Member
  judge_declarators base tree.no_declarators members s =
      record { faults = []; items = members; scope = s }
  judge_declarators base (tree.declarators d rest) members s =
      let x = judge_declarator base d members s in
      after_faults x.faults (judge_declarators base rest x.items x.scope)

  -- the lengths that are given (C17 6.7.6.2)
  pub judge_lengths : ArrayLengths → Scope → Judged (List ℕ)
  judge_lengths tree.no_lengths s = judged [] (Some []) s
  judge_lengths (tree.absent_length rest) s = judge_lengths rest s
  judge_lengths (tree.given_length e rest) s =
      let x = judge e s in lengths_judged (span_of e).start x (judge_lengths rest x.scope)

  -- parameters, in a scope of their own (C17 6.7.6.3)
  pub judge_parameters : Parameters → Scope → Listed (Option ParameterKind)
  judge_parameters (tree.Empty span) s = listed_none s
  judge_parameters (tree.Void span) s = listed_none s
  judge_parameters (tree.Listed all span) s = judge_parameter_list all s

  pub judge_parameter : Parameter → Scope → Listed (Option ParameterKind)
  judge_parameter (tree.parameter all stars name lengths span) s =
      let x = typed_by span.start all (judge_specifiers false all s) in
      parameter_listed name (name_start name span) lengths x.value x.faults
      (uncalled s (judge_lengths lengths x.scope))

  pub judge_parameter_list : ParameterList → Scope → Listed (Option ParameterKind)
  judge_parameter_list tree.no_parameters s = listed_none s
  judge_parameter_list (tree.parameters p rest) s =
      let x = judge_parameter p s in joined x (judge_parameter_list rest x.scope)
