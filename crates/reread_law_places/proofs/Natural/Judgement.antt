-- What is found of an expression, of specifiers and of a declarator, at other places.
use Rattle.std.proofs.Common.{◌≡◌, ℤ, pos, Bool, false, if◌then◌else◌, List, [], Option, Some, None, refl, sym, ap, subst}
use Rattle.mc_tree.specs.Tree.{Expression, Expressions, TypeName, Specifier, Specifiers, StructMember, Members, Enumerator, Enumerators, Declarator, Declarators, ArrayLengths, Parameters, Parameter, ParameterList, span_of}
use Rattle.mc_tree.specs.Tree as tree
use Rattle.mc_value.specs.IntTypes.{in_range}
use Rattle.mc_value.specs.declared.int_type.IntType.TheVariants as the
use Rattle.types_rules.specs.Types.{CType, Member, ParameterKind}
use Rattle.types_rules.specs.Scopes.{Scope, meaning_of, prototype}
use Rattle.types_rules.specs.Constants.{type_of_constant}
use Rattle.types_rules.specs.Expressions.{operator_after, operator_before}
use Rattle.types_rules.specs.Calls.{first_of, rest_of, parameters_of, argument_count}
use Rattle.types_rules.specs.Declarators.{name_start}
use Rattle.types_rules.specs.Judgement.{judge, judge_arguments, judge_type, judge_specifier, judge_specifiers, judge_member, judge_members, judge_enumerator, judge_enumerators, judge_declarator, judge_declarators, judge_lengths, judge_parameters, judge_parameter, judge_parameter_list}
use Rattle.reread_law_texts.specs.alike.Moves.{Move, moved_span}
use Rattle.reread_law_texts.specs.alike.Trees.{moved, moved_expressions, moved_type_name, moved_specifier, moved_specifiers, moved_member, moved_members, moved_enumerator, moved_enumerators, moved_declarator, moved_declarators, moved_lengths, moved_parameters, moved_parameter, moved_parameter_list}
use Rattle.reread_law_places.specs.natural.Moved.{moved_arguments}
use Rattle.reread_law_places.proofs.Natural.Basics.{none, one, Goes, Same, Lists}
use Rattle.reread_law_places.proofs.Natural.Values.{Follows}
use Rattle.reread_law_places.proofs.Natural.Expressions.{name_goes, literal_goes, index_goes, member_goes, unary_goes, cast_goes, binary_goes, conditional_goes, assignment_goes, step_goes}
use Rattle.reread_law_places.proofs.Natural.Calls.{Passes, argument_from, no_more_moved, arguments_goes, count_kept, call_goes, comma_goes}
use Rattle.reread_law_places.proofs.Natural.Words.{start_kept}
use Rattle.reread_law_places.proofs.Natural.Declarators.{typed_goes, specifiers_goes, after_goes, after_lists, uncalled_goes, typedef_goes, structure_tag_goes, enumeration_tag_goes, opened_goes, structure_goes, enumeration_scope_same, enumeration_faults_go, enumeration_goes, enumerator_goes, valued_enumerator_goes, lengths_goes, member_lists, function_member_lists, name_start_kept, parameter_lists, joined_lists}

mutual
  pub go : (m : Move) (a : Expression) {s u : Scope} → s ≡ u → Follows m (judge (moved m a) s) (judge a u)
  go m (tree.Named name) h = name_goes m name h
  go m (tree.Constant v decimal unsigned longs span) h = literal_goes m (pos v) (type_of_constant v decimal unsigned longs) span h
  go m (tree.Character v span) h = literal_goes m v (if in_range the.Int v then Some the.Int else None) span h
  go m (tree.Parenthesized a span) h = go m a h
  go m (tree.Call name given span) {s = s} {u = u} h =
      subst (λ x. Follows m (judge (moved m (tree.Call name given span)) x) (judge (tree.Call name given span) u)) (sym h)
      (rw (count_kept m given) (call_goes m name (argument_count given) span (meaning_of name u) (arguments_go m given (parameters_of (meaning_of name u)) (refl {a = u}))))
  go m (tree.Index a b span) h = let x = go m a h in index_goes m span x (go m b x.scope)
  go m (tree.Member a name span) h = member_goes m name span (go m a h)
  go m (tree.PostfixStep operator a span) h = step_goes m operator (operator_after (moved_span m span)) (operator_after span) span (go m a h)
  go m (tree.PrefixStep operator a span) h = step_goes m operator (operator_before (moved_span m span)) (operator_before span) span (go m a h)
  go m (tree.Unary operator a span) h = unary_goes m operator span (go m a h)
  go m (tree.Cast type a span) h = let x = type_go m type h in cast_goes m span a x (go m a x.scope)
  go m (tree.Binary operator a b span) h = let x = go m a h in binary_goes m operator span x (go m b x.scope)
  go m (tree.Conditional a b c span) h =
      let x = go m a h in
      let y = go m b x.scope in
      conditional_goes m span x y (go m c y.scope)
  go m (tree.Assignment operator a b span) h = let x = go m a h in assignment_goes m operator span x (go m b x.scope)
  go m (tree.Comma all span) h = comma_goes m span.start (arguments_go m all [] h)

  arguments_go : (m : Move) (all : Expressions) (ps : List ParameterKind) {s u : Scope} → s ≡ u → Passes m (moved_arguments m) (judge_arguments (moved_expressions m all) ps s) (judge_arguments all ps u)
  arguments_go m tree.no_expressions ps h = record { faults = none; value = no_more_moved m ps; copied = refl; scope = h }
  arguments_go m (tree.expressions a rest) ps h =
      let x = argument_from m a (first_of ps) (go m a h) in
      arguments_goes m x (arguments_go m rest (rest_of ps) x.scope)

  type_go : (m : Move) (type : TypeName) {s u : Scope} → s ≡ u → Goes m Same (judge_type (moved_type_name m type) s) (judge_type type u)
  type_go m (tree.type_name all stars span) h = typed_goes m span.start all (specifiers_go m false all h)

  specifier_go : (m : Move) (alone : Bool) (one : Specifier) {s u : Scope} → s ≡ u → Goes m Same (judge_specifier alone (moved_specifier m one) s) (judge_specifier alone one u)
  specifier_go m alone (tree.Word w span) h = record { faults = none; value = refl; scope = h }
  specifier_go m alone (tree.TypedefName name) h = typedef_goes m name h
  specifier_go m alone (tree.StructureTag tag span) h = structure_tag_goes m alone tag span h
  specifier_go m alone (tree.Structure tag all span) h = let x = opened_goes m tag h in structure_goes m x (members_go m all (refl {a = []}) x.scope)
  specifier_go m alone (tree.EnumerationTag tag span) h = enumeration_tag_goes m tag span h
  specifier_go m alone (tree.Enumeration tag all span) h =
      enumeration_goes m (enumeration_faults_go m tag h) (enumerators_go m all (refl {a = Some (pos 0)}) (enumeration_scope_same m tag h))

  pub specifiers_go : (m : Move) (alone : Bool) (all : Specifiers) {s u : Scope} → s ≡ u → Goes m Same (judge_specifiers alone (moved_specifiers m all) s) (judge_specifiers alone all u)
  specifiers_go m alone tree.no_specifiers h = record { faults = none; value = refl; scope = h }
  specifiers_go m alone (tree.specifiers one rest) h = let x = specifier_go m alone one h in specifiers_goes m x (specifiers_go m alone rest x.scope)

  member_go : (m : Move) (one : StructMember) {ms ns : List Member} {s u : Scope} → ms ≡ ns → s ≡ u → Lists m (judge_member (moved_member m one) ms s) (judge_member one ns u)
  member_go m (tree.member all ds span) e h =
      let x = typed_goes m span.start all (specifiers_go m false all h) in
      after_lists m x.faults (declarators_go m ds x.value e x.scope)

  members_go : (m : Move) (all : Members) {ms ns : List Member} {s u : Scope} → ms ≡ ns → s ≡ u → Lists m (judge_members (moved_members m all) ms s) (judge_members all ns u)
  members_go m tree.no_members e h = record { faults = none; items = e; scope = h }
  members_go m (tree.members one rest) e h = let x = member_go m one e h in after_lists m x.faults (members_go m rest x.items x.scope)

  enumerator_go : (m : Move) (one : Enumerator) {v w : Option ℤ} {s u : Scope} → v ≡ w → s ≡ u → Goes m Same (judge_enumerator (moved_enumerator m one) v s) (judge_enumerator one w u)
  enumerator_go m (tree.enumerator name) e h = enumerator_goes m name e h
  enumerator_go m (tree.valued_enumerator name a) e h = rw (start_kept m a) (valued_enumerator_goes m name (span_of a).start (go m a h))

  enumerators_go : (m : Move) (all : Enumerators) {v w : Option ℤ} {s u : Scope} → v ≡ w → s ≡ u → Goes m Same (judge_enumerators (moved_enumerators m all) v s) (judge_enumerators all w u)
  enumerators_go m tree.no_enumerators e h = record { faults = none; value = e; scope = h }
  enumerators_go m (tree.enumerators one rest) e h = let x = enumerator_go m one e h in after_goes m Same x.faults (enumerators_go m rest x.value x.scope)

  declarator_go : (m : Move) (one : Declarator) {b c : Option CType} {ms ns : List Member} {s u : Scope} → b ≡ c → ms ≡ ns → s ≡ u → Lists m (judge_declarator b (moved_declarator m one) ms s) (judge_declarator c one ns u)
  declarator_go m (tree.object stars name lengths span) {c = c} {ns = ns} e f h = rw (e, f) (member_lists m c name lengths ns (lengths_go m lengths h))
  declarator_go m (tree.function stars name all span) {ns = ns} e f h = rw f (function_member_lists m name ns (parameters_go m all (ap prototype h)) h)

  declarators_go : (m : Move) (all : Declarators) {b c : Option CType} {ms ns : List Member} {s u : Scope} → b ≡ c → ms ≡ ns → s ≡ u → Lists m (judge_declarators b (moved_declarators m all) ms s) (judge_declarators c all ns u)
  declarators_go m tree.no_declarators e f h = record { faults = none; items = f; scope = h }
  declarators_go m (tree.declarators one rest) e f h = let x = declarator_go m one e f h in after_lists m x.faults (declarators_go m rest e x.items x.scope)

  pub lengths_go : (m : Move) (all : ArrayLengths) {s u : Scope} → s ≡ u → Goes m Same (judge_lengths (moved_lengths m all) s) (judge_lengths all u)
  lengths_go m tree.no_lengths h = record { faults = none; value = refl; scope = h }
  lengths_go m (tree.absent_length rest) h = lengths_go m rest h
  lengths_go m (tree.given_length a rest) h = let x = go m a h in rw (start_kept m a) (lengths_goes m (span_of a).start x (lengths_go m rest x.scope))

  pub parameters_go : (m : Move) (all : Parameters) {s u : Scope} → s ≡ u → Lists m (judge_parameters (moved_parameters m all) s) (judge_parameters all u)
  parameters_go m (tree.Empty span) h = record { faults = none; items = refl; scope = h }
  parameters_go m (tree.Void span) h = record { faults = none; items = refl; scope = h }
  parameters_go m (tree.Listed all span) h = parameter_list_go m all h

  parameter_go : (m : Move) (one : Parameter) {s u : Scope} → s ≡ u → Lists m (judge_parameter (moved_parameter m one) s) (judge_parameter one u)
  parameter_go m (tree.parameter all stars name lengths span) h =
      let x = typed_goes m span.start all (specifiers_go m false all h) in
      rw (name_start_kept m name span) (parameter_lists m name (name_start name span) lengths x.value x.faults (uncalled_goes m Same h (lengths_go m lengths x.scope)))

  parameter_list_go : (m : Move) (all : ParameterList) {s u : Scope} → s ≡ u → Lists m (judge_parameter_list (moved_parameter_list m all) s) (judge_parameter_list all u)
  parameter_list_go m tree.no_parameters h = record { faults = none; items = refl; scope = h }
  parameter_list_go m (tree.parameters one rest) h = let x = parameter_go m one h in joined_lists m x (parameter_list_go m rest x.scope)
