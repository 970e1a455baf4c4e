-- How many structure types and objects with static storage duration there are: no more than tokens.
use Rattle.std.proofs.Common.{◌≡◌, ℕ, zero, suc, ◌+◌, ◌≤◌, ℤ, pos, Bool, true, false, if◌then◌else◌, List, [], ◌∷◌, ◌++◌, length, slice_get, slice_set, Option, Some, None, option_map, refl, ap, sym, ◌∙◌, subst, arith}
use Rattle.std.proofs.lemmas.List.{length-append}
use Rattle.mc_span.specs.declared.span.Span.{Span}
use Rattle.mc_tree.specs.Tree.{Name, Expression, Expressions, TypeName, Specifier, Specifiers, StructMember, Members, Enumerator, Enumerators, Declarator, Declarators, ArrayLengths, Parameters, Parameter, ParameterList, Initializer, Initializers, InitDeclarator, Declaration, ForStart, Statement, BlockItems, Item, span_of}
use Rattle.mc_tree.specs.Tree as tree
use Rattle.mc_tree.specs.Length.{after_comma, of_expression, of_expressions, of_type, of_specifier, of_specifiers, of_member, of_members, of_enumerator, of_enumerators, of_declarator, of_declarators, of_lengths, of_parameters, of_parameter, of_parameter_list, of_initializer, of_initializers, of_init_declarator, of_init_declarators, of_declaration, of_optional, of_start, of_statement, of_block, of_item, token_count}
use Rattle.mc_typed.specs.Layout.{ObjectType}
use Rattle.mc_typed.specs.Tree.{Statements}
use Rattle.mc_typed.specs.Tree as t
use Rattle.types_faults.specs.declared.fault.Fault.{Fault}
use Rattle.types_faults.specs.Faults.{unless_faulty}
use Rattle.types_rules.specs.Types.{CType, Member, Structure, Incomplete, Complete, Faulty, structures_from, ParameterKind, ByValue, ByArray, Signature}
use Rattle.types_rules.specs.Scopes.{Meaning, Typedef, TagMeaning, StructureTag, EnumerationTag, Scope, Labels, file_scope, entered, block, left, cells_counted, next_slot, next_static, with_counted, with_objects_of, with_name, meaning_here, meaning_of, tag_of, tag_here, prototype, body_scope, left_function}
use Rattle.types_rules.specs.Scopes as scope
use Rattle.types_rules.specs.Values.{Judged, Value, Number, Stored, Borrowed, Returned, Done, Assigned, Designator, lift2}
use Rattle.types_rules.specs.Constants.{constant_found}
use Rattle.types_rules.specs.Calls.{argument_judged, after_call, first_of, rest_of, parameters_of}
use Rattle.types_rules.specs.Declarators.{opened, opened_tag, opened_again, typedef_type, structure_tag, declared_tag, used_structure_tag, used_enumeration_tag, enumeration_scope, declared_type, name_start, parameter_kind, parameter_faults, parameter_meaning, with_parameter_name, with_parameter}
use Rattle.types_rules.specs.Expressions.{operator_after, operator_before}
use Rattle.types_rules.specs.Initializers.{Parts, parts_of, target_of, first_part, later_parts, item_count, only_expression, is_zero, zero_judged, list_judged, braced_judged, judge_initializer, judge_items}
use Rattle.types_rules.specs.Judgement.{typed_by, judge, judge_arguments, judge_type, judge_specifier, judge_specifiers, judge_member, judge_members, judge_enumerator, judge_enumerators, judge_declarator, judge_declarators, judge_lengths, judge_parameters, judge_parameter, judge_parameter_list}
use Rattle.types_rules.specs.Declarations.{Storage, TypedefStorage, StaticStorage, AutomaticStorage, storage_of, count_listed, judge_optional_initializer, object_faults, layout_counted, after_initializer, counted_after, typedef_faults, static_faults_with, static_scope, result_of, function_faults, signature_listed, function_form_faults, again_faults, function_meaning, append, object_judged, judge_init, judge_init_declarator, judge_init_declarators, is_tag_alone, judge_declaration}
use Rattle.types_rules.specs.Statements.{Around, outermost, inside, in_loop, in_switch, compound_scope, switch_scope, with_label, case_judged, default_judged, label_value}
use Rattle.types_rules.specs.Bodies.{judge_clauses, judge_part, judge_optional_part, judge_start, judge_test, judge_statement, judge_block}
use Rattle.types_rules.specs.Typing.{function_from, with_function, function_listed, judge_item, judge_unit, bodies_of, found_of, program_from}
use Rattle.laws_soundness.specs.Laws.{IsFew, UnitsAreFew}
use Rattle.laws_soundness.proofs.Grows.{assigned_scope, stepped_scope}

-- ---- steps

-- the second scope has at most so many more structure types and objects than the first
pub record IsMore (s t : Scope) (n : ℕ) : Type 0 where
  pub few : length t.structures + length t.statics ≤ length s.structures + length s.statics + n

no_more : (s : Scope) (n : ℕ) → IsMore s s n
no_more s n = record { few = omega arith }

more_up : (s t : Scope) (m n : ℕ) → IsMore s t m → m ≤ n → IsMore s t n
more_up s t m n h k = record { few = omega (arith, h.few, k) }

more_two : (s t u : Scope) (m n k : ℕ) → IsMore s t m → IsMore t u n → m + n ≤ k → IsMore s u k
more_two s t u m n k h i j = record { few = omega (arith, h.few, i.few, j) }

-- only other parts of the scope change
more_same : (s t : Scope) (n : ℕ) → t.structures ≡ s.structures → t.statics ≡ s.statics → IsMore s t n
more_same s t n e f =
    let a : length t.structures ≡ length s.structures = ap length e in
    let b : length t.statics ≡ length s.statics = ap length f in
    record { few = omega (arith, a, b) }

-- one structure type more
more_one : (s t : Scope) (x : Structure) (n : ℕ) → t.structures ≡ s.structures ++ (x ∷ []) → t.statics ≡ s.statics
    → 1 ≤ n → IsMore s t n
more_one s t x n e f k =
    let a : length t.structures ≡ length s.structures + 1 = ap length e ∙ length-append s.structures (x ∷ []) in
    let b : length t.statics ≡ length s.statics = ap length f in
    record { few = omega (arith, a, b, k) }

one_small : 1 ≤ 1
one_small = omega arith

one_below : 1 ≤ 2
one_below = omega arith

more_to : (s t u : Scope) (n : ℕ) → u ≡ t → IsMore s t n → IsMore s u n
more_to s t u n e h = subst (λ v. IsMore s v n) (sym e) h

comma_least : (n : ℕ) → n ≤ after_comma n
comma_least zero = omega arith
comma_least (suc n) = omega arith

call_more : (v : Option Value) (n : ℕ) (s : Scope) → IsMore s (after_call v n s) 0
call_more None n s = more_same s _ 0 refl refl
call_more (Some (Number e)) n s = no_more s 0
call_more (Some (Stored place u)) n s = no_more s 0
call_more (Some (Borrowed array u span)) n s = no_more s 0
call_more (Some (Returned c k)) n s = more_same s _ 0 refl refl
call_more (Some (Done effect)) n s = no_more s 0
call_more (Some (Assigned effect)) n s = no_more s 0
call_more (Some Designator) n s = no_more s 0

counted_more : (u : Option ObjectType) (s : Scope) → IsMore s (with_counted u s) 0
counted_more None s = no_more s 0
counted_more (Some u) s = more_same s _ 0 refl refl

set_length : (xs : List Structure) (k : ℕ) (x : Structure) → length (slice_set xs k x) ≡ length xs
set_length [] k x = refl
set_length (y ∷ xs) zero x = refl
set_length (y ∷ xs) (suc k) x = ap suc (set_length xs k x)

set_more : (s : Scope) (k : ℕ) (x : Structure) → IsMore s (scope.with_structure_at k x s) 0
set_more s k x = let e = set_length s.structures k x in record { few = omega (arith, e) }

typedef_more : (name : Name) (s : Scope) (m : Option Meaning) → IsMore s (typedef_type name s m).scope 1
typedef_more name s None = no_more s 1
typedef_more name s (Some (scope.Automatic slot u)) = no_more s 1
typedef_more name s (Some (scope.Stored slot u)) = no_more s 1
typedef_more name s (Some (scope.Borrowed array u)) = no_more s 1
typedef_more name s (Some (scope.Constant v)) = no_more s 1
typedef_more name s (Some (scope.Function f b)) = no_more s 1
typedef_more name s (Some (scope.Typedef u)) = no_more s 1

declared_more : (tag : Name) (s : Scope) (m : Option TagMeaning) → IsMore s (declared_tag tag s m).scope 2
declared_more tag s None = more_one s _ (Incomplete false) 2 refl refl one_below
declared_more tag s (Some (StructureTag k)) = no_more s 2
declared_more tag s (Some EnumerationTag) = no_more s 2

used_more : (tag : Name) (span : Span) (s : Scope) (m : Option TagMeaning)
    → IsMore s (used_structure_tag tag span s m).scope 2
used_more tag span s None = no_more s 2
used_more tag span s (Some (StructureTag k)) = no_more s 2
used_more tag span s (Some EnumerationTag) = no_more s 2

tag_more : (alone : Bool) (tag : Name) (span : Span) (s : Scope) → IsMore s (structure_tag alone tag span s).scope 2
tag_more true tag span s = declared_more tag s (tag_here tag s)
tag_more false tag span s = used_more tag span s (tag_of tag s)

enumeration_tag_more : (tag : Name) (span : Span) (s : Scope) (m : Option TagMeaning)
    → IsMore s (used_enumeration_tag tag span s m).scope 2
enumeration_tag_more tag span s None = no_more s 2
enumeration_tag_more tag span s (Some (StructureTag k)) = no_more s 2
enumeration_tag_more tag span s (Some EnumerationTag) = no_more s 2

enumeration_more : (tag : Option Name) (s : Scope) → IsMore s (enumeration_scope tag s) 0
enumeration_more None s = no_more s 0
enumeration_more (Some tag) s = more_same s _ 0 refl refl

again_more : (tag : Name) (k : ℕ) (s : Scope) (o : Option Structure) → IsMore s (opened_again tag k s o).scope 1
again_more tag k s None = more_one s _ (Incomplete true) 1 refl refl one_small
again_more tag k s (Some (Incomplete true)) = more_one s _ (Incomplete true) 1 refl refl one_small
again_more tag k s (Some (Incomplete false)) =
    more_up s (opened_again tag k s (Some (Incomplete false))).scope 0 1 (set_more s k (Incomplete true)) (omega arith)
again_more tag k s (Some (Complete ms)) = more_one s _ (Incomplete true) 1 refl refl one_small
again_more tag k s (Some Faulty) = more_one s _ (Incomplete true) 1 refl refl one_small

opened_tag_more : (tag : Name) (s : Scope) (m : Option TagMeaning) → IsMore s (opened_tag tag s m).scope 1
opened_tag_more tag s None = more_one s _ (Incomplete true) 1 refl refl one_small
opened_tag_more tag s (Some (StructureTag k)) = again_more tag k s (slice_get s.structures k)
opened_tag_more tag s (Some EnumerationTag) = more_one s _ (Incomplete true) 1 refl refl one_small

opened_more : (tag : Option Name) (s : Scope) → IsMore s (opened tag s).scope 1
opened_more None s = more_one s _ (Incomplete true) 1 refl refl one_small
opened_more (Some tag) s = opened_tag_more tag s (tag_here tag s)

-- ---- expressions, specifiers and declarators

mutual
  pub more : (e : Expression) (s : Scope) → IsMore s (judge e s).scope (of_expression e)
  more (tree.Named name) s = no_more s 1
  more (tree.Constant v decimal unsigned longs span) s = no_more s 1
  more (tree.Character v span) s = no_more s 1
  more (tree.Parenthesized inner span) s = more_up s _ _ _ (more inner s) (omega arith)
  more (tree.Call name given span) s =
      let ps = parameters_of (meaning_of name s) in
      let x = judge_arguments given ps s in
      more_two s x.scope _ _ 0 _ (arguments_more given ps s) (call_more _ _ x.scope) (omega arith)
  more (tree.Index a b span) s =
      more_two s (judge a s).scope _ _ _ _ (more a s) (more b (judge a s).scope) (omega arith)
  more (tree.Member a name span) s = more_up s (judge a s).scope _ _ (more a s) (omega arith)
  more (tree.PostfixStep operator a span) s =
      more_to s (judge a s).scope _ _ (stepped_scope operator (operator_after span) span (judge a s))
      (more_up s (judge a s).scope _ _ (more a s) (omega arith))
  more (tree.PrefixStep operator a span) s =
      more_to s (judge a s).scope _ _ (stepped_scope operator (operator_before span) span (judge a s))
      (more_up s (judge a s).scope _ _ (more a s) (omega arith))
  more (tree.Unary operator a span) s = more_up s (judge a s).scope _ _ (more a s) (omega arith)
  more (tree.Cast type a span) s =
      more_two s (judge_type type s).scope _ _ _ _ (type_more type s) (more a (judge_type type s).scope) (omega arith)
  more (tree.Binary operator a b span) s =
      more_two s (judge a s).scope _ _ _ _ (more a s) (more b (judge a s).scope) (omega arith)
  more (tree.Conditional a b c span) s =
      let x = (judge a s).scope in
      let y = (judge b x).scope in
      more_two s y _ (of_expression a + of_expression b) _ _
      (more_two s x y _ _ _ (more a s) (more b x) (omega arith)) (more c y) (omega arith)
  more (tree.Assignment operator a b span) s =
      let x = judge a s in
      let y = judge b x.scope in
      more_to s y.scope _ _ (assigned_scope operator span x y)
      (more_two s x.scope y.scope _ _ _ (more a s) (more b x.scope) (omega arith))
  more (tree.Comma operands span) s = arguments_more operands [] s

  pub arguments_more : (es : Expressions) (ps : List ParameterKind) (s : Scope)
      → IsMore s (judge_arguments es ps s).scope (of_expressions es)
  arguments_more tree.no_expressions ps s = no_more s 0
  arguments_more (tree.expressions e rest) ps s =
      let x = argument_judged (span_of e).start (first_of ps) (judge e s) in
      let k = comma_least (of_expressions rest) in
      more_two s x.scope _ (of_expression e) _ _
      (more_two s (judge e s).scope x.scope _ 0 _ (more e s) (counted_more _ (judge e s).scope) (omega arith))
      (arguments_more rest (rest_of ps) x.scope) (omega (arith, k))

  pub type_more : (type : TypeName) (s : Scope) → IsMore s (judge_type type s).scope (of_type type)
  type_more (tree.type_name all stars span) s =
      more_up s (judge_specifiers false all s).scope _ _ (specifiers_more false all s) (omega arith)

  pub specifier_more : (alone : Bool) (one : Specifier) (s : Scope)
      → IsMore s (judge_specifier alone one s).scope (of_specifier one)
  specifier_more alone (tree.Word word span) s = no_more s 1
  specifier_more alone (tree.TypedefName name) s = typedef_more name s (meaning_of name s)
  specifier_more alone (tree.StructureTag tag span) s = tag_more alone tag span s
  specifier_more alone (tree.Structure tag all span) s =
      let x = opened tag s in
      let y = judge_members all [] x.scope in
      more_two s y.scope _ (of_members all + 1) 0 _
      (more_two s x.scope y.scope 1 _ _ (opened_more tag s) (members_more all [] x.scope) (omega arith))
      (set_more y.scope x.number _) (omega arith)
  specifier_more alone (tree.EnumerationTag tag span) s = enumeration_tag_more tag span s (tag_of tag s)
  specifier_more alone (tree.Enumeration tag all span) s =
      let x = enumeration_scope tag s in
      more_two s x _ 0 _ _ (enumeration_more tag s) (enumerators_more all (Some (pos 0)) x) (omega arith)

  pub specifiers_more : (alone : Bool) (all : Specifiers) (s : Scope)
      → IsMore s (judge_specifiers alone all s).scope (of_specifiers all)
  specifiers_more alone tree.no_specifiers s = no_more s 0
  specifiers_more alone (tree.specifiers one rest) s =
      let x = judge_specifier alone one s in
      more_two s x.scope _ _ _ _ (specifier_more alone one s) (specifiers_more alone rest x.scope) (omega arith)

  pub member_more : (m : StructMember) (members : List Member) (s : Scope)
      → IsMore s (judge_member m members s).scope (of_member m)
  member_more (tree.member all ds span) members s =
      let x = (judge_specifiers false all s).scope in
      more_two s x _ _ _ _ (specifiers_more false all s) (declarators_more _ ds members x) (omega arith)

  pub members_more : (all : Members) (members : List Member) (s : Scope)
      → IsMore s (judge_members all members s).scope (of_members all)
  members_more tree.no_members members s = no_more s 0
  members_more (tree.members m rest) members s =
      let x = judge_member m members s in
      more_two s x.scope _ _ _ _ (member_more m members s) (members_more rest x.items x.scope) (omega arith)

  pub enumerator_more : (one : Enumerator) (v : Option ℤ) (s : Scope)
      → IsMore s (judge_enumerator one v s).scope (of_enumerator one)
  enumerator_more (tree.enumerator name) v s = more_same s _ 1 refl refl
  enumerator_more (tree.valued_enumerator name e) v s =
      let x = judge e s in
      more_two s x.scope _ (of_expression e) 0 _ (more e s) (more_same x.scope _ 0 refl refl) (omega arith)

  pub enumerators_more : (all : Enumerators) (v : Option ℤ) (s : Scope)
      → IsMore s (judge_enumerators all v s).scope (of_enumerators all)
  enumerators_more tree.no_enumerators v s = no_more s 0
  enumerators_more (tree.enumerators one rest) v s =
      let x = judge_enumerator one v s in
      let k = comma_least (of_enumerators rest) in
      more_two s x.scope _ _ _ _ (enumerator_more one v s) (enumerators_more rest x.value x.scope) (omega (arith, k))

  pub declarator_more : (base : Option CType) (d : Declarator) (members : List Member) (s : Scope)
      → IsMore s (judge_declarator base d members s).scope (of_declarator d)
  declarator_more base (tree.object stars name lengths span) members s =
      more_up s (judge_lengths lengths s).scope _ _ (lengths_more lengths s) (omega arith)
  declarator_more base (tree.function stars name all span) members s = no_more s _

  pub declarators_more : (base : Option CType) (ds : Declarators) (members : List Member) (s : Scope)
      → IsMore s (judge_declarators base ds members s).scope (of_declarators ds)
  declarators_more base tree.no_declarators members s = no_more s 0
  declarators_more base (tree.declarators d rest) members s =
      let x = judge_declarator base d members s in
      let k = comma_least (of_declarators rest) in
      more_two s x.scope _ _ _ _ (declarator_more base d members s) (declarators_more base rest x.items x.scope) (omega (arith, k))

  pub lengths_more : (lengths : ArrayLengths) (s : Scope) → IsMore s (judge_lengths lengths s).scope (of_lengths lengths)
  lengths_more tree.no_lengths s = no_more s 0
  lengths_more (tree.absent_length rest) s =
      more_up s (judge_lengths rest s).scope _ _ (lengths_more rest s) (omega arith)
  lengths_more (tree.given_length e rest) s =
      more_two s (judge e s).scope _ _ _ _ (more e s) (lengths_more rest (judge e s).scope) (omega arith)

-- ---- parameters

named_more : (name : Option Name) (m : Meaning) (s : Scope) → IsMore s (with_parameter_name name m s) 0
named_more None m s = no_more s 0
named_more (Some name) m s = more_same s _ 0 refl refl

with_more : (u : Option CType) (k : Option ParameterKind) (s : Scope) → IsMore s (with_parameter u k s) 0
with_more None None s = no_more s 0
with_more None (Some (ByValue b)) s = no_more s 0
with_more None (Some (ByArray e)) s = more_same s _ 0 refl refl
with_more (Some u) None s = no_more s 0
with_more (Some u) (Some (ByValue b)) s = more_same s _ 0 refl refl
with_more (Some u) (Some (ByArray e)) s = more_same s _ 0 refl refl

parameter_more : (p : Parameter) (s : Scope) → IsMore s (judge_parameter p s).scope (of_parameter p)
parameter_more (tree.parameter all stars name lengths span) s =
    let x = typed_by span.start all (judge_specifiers false all s) in
    let l = judge_lengths lengths x.scope in
    let y = with_objects_of s l.scope in
    let u = declared_type lengths l.value (Some 1) x.value in
    let fs = x.faults ++ (l.faults ++ parameter_faults name (name_start name span) lengths x.value u y) in
    let k = unless_faulty fs (parameter_kind y.structures u) in
    let m = parameter_meaning (unless_faulty fs u) k y in
    let n = with_parameter_name name m y in
    let n_y = of_specifiers all + of_lengths lengths in
    more_two s n _ n_y 0 _
    (more_two s y n n_y 0 n_y
    (more_two s l.scope y n_y 0 n_y
    (more_two s x.scope l.scope (of_specifiers all) (of_lengths lengths) n_y (specifiers_more false all s) (lengths_more lengths x.scope) (omega arith))
    (more_same l.scope y 0 refl refl) (omega arith)) (named_more name m y) (omega arith))
    (with_more (unless_faulty fs u) k n) (omega arith)

list_more : (ps : ParameterList) (s : Scope) → IsMore s (judge_parameter_list ps s).scope (of_parameter_list ps)
list_more tree.no_parameters s = no_more s 0
list_more (tree.parameters p rest) s =
    let x = judge_parameter p s in
    let k = comma_least (of_parameter_list rest) in
    more_two s x.scope _ (of_parameter p) (of_parameter_list rest) _ (parameter_more p s) (list_more rest x.scope) (omega (arith, k))

parameters_more : (all : Parameters) (s : Scope) → IsMore s (judge_parameters all s).scope (of_parameters all)
parameters_more (tree.Empty span) s = no_more s 2
parameters_more (tree.Void span) s = no_more s 3
parameters_more (tree.Listed ps span) s =
    more_up s (judge_parameter_list ps s).scope (of_parameter_list ps) _ (list_more ps s) (omega arith)

-- ---- initializers and declarations

only_count : (items : Initializers) (e : Expression) → only_expression items ≡ Some e
    → of_expression e ≤ of_initializers items
only_count tree.no_initializers e h = absurd (cc)
only_count (tree.initializers (tree.Single x) tree.no_initializers) e h =
    let same : x ≡ e = cc in
    subst (λ y. of_expression y ≤ of_expression x + 0) same (omega arith)
only_count (tree.initializers (tree.Single x) (tree.initializers i rest)) e h = absurd (cc)
only_count (tree.initializers (tree.Braced items span) rest) e h = absurd (cc)

braced_more : (u : Option CType) (at count n : ℕ) (o : Option Expression) (x : Judged t.Initializers) (s : Scope)
    → IsMore s x.scope n → ((e : Expression) → o ≡ Some e → of_expression e ≤ n)
    → IsMore s (braced_judged u at count (option_map (λ e. judge e s) o) x s).scope n
braced_more u at count n None x s h small = h
braced_more u at count n (Some e) x s h small = by_test (is_zero (Some (judge e s)))
  where
    by_test : (b : Bool) → IsMore s (if b then zero_judged u (Some (judge e s)) s else list_judged u at count x).scope n
    by_test true = more_up s (judge e s).scope (of_expression e) n (more e s) (small e refl)
    by_test false = h

mutual
  initializer_more : (static : Bool) (u : Option CType) (i : Initializer) (s : Scope)
      → IsMore s (judge_initializer static u i s).scope (of_initializer i)
  initializer_more static u (tree.Single e) s = more e s
  initializer_more static u (tree.Braced items span) s =
      let parts = parts_of (target_of s.structures u) in
      more_up s (judge_initializer static u (tree.Braced items span) s).scope (of_initializers items) _
      (braced_more u span.start (item_count items) (of_initializers items) (only_expression items)
      (judge_items static parts items s) s (items_more static parts items s) (only_count items)) (omega arith)

  items_more : (static : Bool) (parts : Parts) (items : Initializers) (s : Scope)
      → IsMore s (judge_items static parts items s).scope (of_initializers items)
  items_more static parts tree.no_initializers s = no_more s 0
  items_more static parts (tree.initializers one rest) s =
      let x = judge_initializer static (first_part parts) one s in
      let k = comma_least (of_initializers rest) in
      more_two s x.scope _ (of_initializer one) (of_initializers rest) _ (initializer_more static (first_part parts) one s)
      (items_more static (later_parts parts) rest x.scope) (omega (arith, k))

abbrev of_value : Option Initializer → ℕ
of_value None = 0
of_value (Some i) = of_initializer i

optional_more : (static : Bool) (u : Option CType) (value : Option Initializer) (s : Scope)
    → IsMore s (judge_optional_initializer static u value s).scope (of_value value)
optional_more static u None s = no_more s 0
optional_more static u (Some i) s = initializer_more static u i s

after_more : (fs : List Fault) (name : Name) (m : Meaning) (s : Scope) → IsMore s (after_initializer fs name m s) 0
after_more [] name m s = no_more s 0
after_more (f ∷ fs) name m s = more_same s _ 0 refl refl

counted_after_more : (fs : List Fault) (n : ℕ) (s : Scope) → IsMore s (counted_after fs n s) 0
counted_after_more [] n s = no_more s 0
counted_after_more (f ∷ fs) n s = more_same s _ 0 refl refl

static_more : (layout : Option ObjectType) (value : Option (Option t.Initializer)) (s : Scope)
    → IsMore s (static_scope layout value s) 1
static_more (Some layout) (Some value) s =
    let more = static_scope (Some layout) (Some value) s in
    let e : length more.statics ≡ length s.statics + 1 = length-append s.statics _ in
    record { few = omega (arith, e) }
static_more (Some layout) None s = no_more s 1
static_more None value s = no_more s 1

plus_none : (n : ℕ) → n + 0 ≤ n
plus_none n = omega arith

none_plus : (n : ℕ) → 0 + n ≤ n
none_plus n = omega arith

object_more : (storage : Storage) (faults : List Fault) (name : Name) (lengths : ArrayLengths)
    (base u : Option CType) (value : Option Initializer) (s : Scope)
    → IsMore s (object_judged storage faults name lengths base u value s).scope (of_value value + 1)
object_more TypedefStorage faults name lengths base u value s =
    let m = Typedef (unless_faulty (faults ++ typedef_faults name lengths value s) u) in
    let named = with_name name m s in
    more_two s named _ 0 (of_value value) _ (more_same s named 0 refl refl) (optional_more true None value named) (omega arith)
object_more StaticStorage faults name lengths base u value s =
    let own = object_faults name lengths (count_listed value) base u s in
    let m = scope.Stored (next_static s) (unless_faulty (faults ++ own) u) in
    let named = with_name name m s in
    let v = unless_faulty own u in
    let x = judge_optional_initializer true v value named in
    let layout = layout_counted (own ++ x.faults) u x.scope in
    let sum = static_faults_with name.span.start layout x.value x.scope in
    let last = after_initializer (x.faults ++ sum) name (scope.Stored (next_static s) None) x.scope in
    let n = of_value value in
    more_two s last _ n 1 _
    (more_two s x.scope last n 0 n
    (more_two s named x.scope 0 n n (more_same s named 0 refl refl) (optional_more true v value named) (none_plus n))
    (after_more (x.faults ++ sum) name (scope.Stored (next_static s) None) x.scope) (plus_none n))
    (static_more layout x.value last) (omega arith)
object_more AutomaticStorage faults name lengths base u value s =
    let own = object_faults name lengths (count_listed value) base u s in
    let layout = layout_counted own u s in
    let named = with_name name (scope.Automatic (next_slot s) (unless_faulty (faults ++ own) u)) s in
    let d = with_counted layout named in
    let v = unless_faulty own u in
    let x = judge_optional_initializer false v value d in
    let last = after_initializer x.faults name (scope.Automatic (next_slot s) None) x.scope in
    let n = of_value value in
    more_two s last _ n 0 _
    (more_two s x.scope last n 0 n
    (more_two s d x.scope 0 n n
    (more_two s named d 0 0 0 (more_same s named 0 refl refl) (counted_more layout named) (none_plus 0))
    (optional_more false v value d) (none_plus n))
    (after_more x.faults name (scope.Automatic (next_slot s) None) x.scope) (plus_none n))
    (counted_after_more x.faults (cells_counted layout) last) (omega arith)

init_more : (storage : Storage) (base : Option CType) (d : Declarator) (value : Option Initializer) (s : Scope)
    → IsMore s (judge_init storage base d value s).scope (of_declarator d + of_value value)
init_more storage base (tree.object stars name lengths span) value s =
    let l = judge_lengths lengths s in
    let u = declared_type lengths l.value (count_listed value) base in
    more_two s l.scope _ (of_lengths lengths) (of_value value + 1) _ (lengths_more lengths s)
    (object_more storage l.faults name lengths base u value l.scope) (omega arith)
init_more storage base (tree.function stars name all span) value s =
    let y = judge_parameters all (prototype s) in
    let f = signature_listed base y in
    let own = again_faults storage name f s
    ++ (function_faults name base (length y.items) f ++ function_form_faults storage value name.span.start) in
    let named = with_name name (function_meaning storage (unless_faulty own f) (meaning_here name s)) s in
    more_two s named _ 0 (of_value value) _ (more_same s named 0 refl refl) (optional_more true None value named) (omega arith)

init_declarator_more : (storage : Storage) (base : Option CType) (d : InitDeclarator) (s : Scope)
    → IsMore s (judge_init_declarator storage base d s).scope (of_init_declarator d)
init_declarator_more storage base (tree.bare d) s =
    more_up s (judge_init storage base d None s).scope (of_declarator d + 0) _ (init_more storage base d None s) (plus_none (of_declarator d))
init_declarator_more storage base (tree.initialized d value) s =
    more_up s (judge_init storage base d (Some value) s).scope (of_declarator d + of_initializer value) _
    (init_more storage base d (Some value) s) (omega arith)

init_declarators_more : (storage : Storage) (base : Option CType) (ds : List InitDeclarator) (s : Scope)
    → IsMore s (judge_init_declarators storage base ds s).scope (of_init_declarators ds)
init_declarators_more storage base [] s = no_more s 0
init_declarators_more storage base (d ∷ ds) s =
    let x = judge_init_declarator storage base d s in
    let k = comma_least (of_init_declarators ds) in
    more_two s x.scope _ (of_init_declarator d) (of_init_declarators ds) _ (init_declarator_more storage base d s)
    (init_declarators_more storage base ds x.scope) (omega (arith, k))

declaration_more : (d : Declaration) (s : Scope) → IsMore s (judge_declaration d s).scope (of_declaration d)
declaration_more (tree.declaration all ds span) s =
    let z = judge_specifiers (is_tag_alone all ds) all s in
    let x = typed_by span.start all z in
    more_two s x.scope _ (of_specifiers all) (of_init_declarators ds) _ (specifiers_more (is_tag_alone all ds) all s)
    (init_declarators_more (storage_of all s.is_file) x.value ds x.scope) (omega arith)

-- ---- statements

left_more : (l : Option Labels) (s t : Scope) (n : ℕ) → IsMore (entered l s) t n → IsMore s (left s t) n
left_more l s t n h = record { few = h.few }

clauses_more : (es : Expressions) (s : Scope) → IsMore s (judge_clauses es s).scope (of_expressions es)
clauses_more tree.no_expressions s = no_more s 0
clauses_more (tree.expressions e rest) s =
    let x = (judge e s).scope in
    let k = comma_least (of_expressions rest) in
    more_two s x _ (of_expression e) (of_expressions rest) _ (more e s) (clauses_more rest x) (omega (arith, k))

part_more : (e : Expression) (s : Scope) → IsMore s (judge_part e s).scope (of_expression e)
part_more (tree.Comma operands span) s = clauses_more operands s
part_more (tree.Named name) s = more (tree.Named name) s
part_more (tree.Constant v decimal unsigned longs span) s = more (tree.Constant v decimal unsigned longs span) s
part_more (tree.Character v span) s = more (tree.Character v span) s
part_more (tree.Parenthesized inner span) s = more (tree.Parenthesized inner span) s
part_more (tree.Call name given span) s = more (tree.Call name given span) s
part_more (tree.Index a b span) s = more (tree.Index a b span) s
part_more (tree.Member a name span) s = more (tree.Member a name span) s
part_more (tree.PostfixStep operator a span) s = more (tree.PostfixStep operator a span) s
part_more (tree.PrefixStep operator a span) s = more (tree.PrefixStep operator a span) s
part_more (tree.Unary operator a span) s = more (tree.Unary operator a span) s
part_more (tree.Cast type a span) s = more (tree.Cast type a span) s
part_more (tree.Binary operator a b span) s = more (tree.Binary operator a b span) s
part_more (tree.Conditional a b c span) s = more (tree.Conditional a b c span) s
part_more (tree.Assignment operator a b span) s = more (tree.Assignment operator a b span) s

optional_part_more : (e : Option Expression) (s : Scope) → IsMore s (judge_optional_part e s).scope (of_optional e)
optional_part_more None s = no_more s 0
optional_part_more (Some e) s = part_more e s

test_more : (at : ℕ) (e : Option Expression) (s : Scope) → IsMore s (judge_test at e s).scope (of_optional e)
test_more at None s = no_more s 0
test_more at (Some e) s = more e s

start_more : (start : ForStart) (s : Scope) → IsMore s (judge_start start s).scope (of_start start)
start_more (tree.StartsLocal d) s = declaration_more d s
start_more (tree.StartsExpression e) s =
    more_up s (judge_optional_part e s).scope (of_optional e) _ (optional_part_more e s) (omega arith)

compound_more : (a : Around) (s t : Scope) (n : ℕ) → IsMore (compound_scope a s) t n → IsMore s (left s t) n
compound_more a s t n h = by_test a.is_body h
  where
    by_test : (b : Bool) → IsMore (if b then entered s.labels s else block s) t n → IsMore s (left s t) n
    by_test true h = left_more s.labels s t n h
    by_test false h = left_more None s t n h

label_more : (v : Option ℤ) (s : Scope) → IsMore s (with_label v s) 0
label_more None s = no_more s 0
label_more (Some v) s = more_same s _ 0 refl refl

mutual
  statement_more : (a : Around) (one : Statement) (s : Scope) → IsMore s (judge_statement a one s).scope (of_statement one)
  statement_more a (tree.Compound items span) s =
      let x = (judge_block (inside a) items (compound_scope a s)).scope in
      more_up s (left s x) (of_block items) _ (compound_more a s x _ (block_more (inside a) items (compound_scope a s))) (omega arith)
  statement_more a (tree.Null span) s = no_more s 1
  statement_more a (tree.ExpressionStatement e span) s = more_up s (judge e s).scope (of_expression e) _ (more e s) (omega arith)
  statement_more a (tree.If e one span) s =
      let x = (judge e s).scope in
      let y = (judge_statement (inside a) one (block x)).scope in
      more_two s x (left x y) (of_expression e) (of_statement one) _ (more e s)
      (left_more None x y _ (statement_more (inside a) one (block x))) (omega arith)
  statement_more a (tree.IfElse e one other span) s =
      let x = (judge e s).scope in
      let y = (judge_statement (inside a) one (block x)).scope in
      let m = left x y in
      let z = (judge_statement (inside a) other (block m)).scope in
      let n = of_expression e + of_statement one in
      more_two s m (left m z) n (of_statement other) _
      (more_two s x m (of_expression e) (of_statement one) n (more e s)
      (left_more None x y _ (statement_more (inside a) one (block x))) (omega arith))
      (left_more None m z _ (statement_more (inside a) other (block m))) (omega arith)
  statement_more a (tree.Switch e body span) s =
      let x = judge e s in
      let y = (judge_statement (in_switch a) body (switch_scope x)).scope in
      more_two s x.scope (left x.scope y) (of_expression e) (of_statement body) _ (more e s)
      (left_more _ x.scope y _ (statement_more (in_switch a) body (switch_scope x))) (omega arith)
  statement_more a (tree.While e one span) s =
      let x = (judge e s).scope in
      let y = (judge_statement (in_loop a) one (block x)).scope in
      more_two s x (left x y) (of_expression e) (of_statement one) _ (more e s)
      (left_more None x y _ (statement_more (in_loop a) one (block x))) (omega arith)
  statement_more a (tree.DoWhile one e span) s =
      let x = (judge_statement (in_loop a) one (block s)).scope in
      let m = left s x in
      more_two s m (judge e m).scope (of_statement one) (of_expression e) _
      (left_more None s x _ (statement_more (in_loop a) one (block s))) (more e m) (omega arith)
  statement_more a (tree.For start test step one span) s =
      let b = block s in
      let x = (judge_start start b).scope in
      let y = (judge_test span.start test x).scope in
      let z = (judge_optional_part step y).scope in
      let q = (judge_statement (in_loop a) one (block z)).scope in
      let n = of_start start + of_optional test in
      let m = n + of_optional step in
      left_more None s (left z q) _
      (more_two b z (left z q) m (of_statement one) _
      (more_two b y z n (of_optional step) m
      (more_two b x y (of_start start) (of_optional test) n (start_more start b) (test_more span.start test x) (omega arith))
      (optional_part_more step y) (omega arith))
      (left_more None z q _ (statement_more (in_loop a) one (block z))) (omega arith))
  statement_more a (tree.Case e label one span) s =
      let x = judge e s in
      let c = case_judged label (span_of e).start x in
      let n = of_expression e in
      more_two s c.scope _ n (of_statement one) _
      (more_two s x.scope c.scope n 0 n (more e s) (label_more (label_value x.scope.labels (constant_found x)) x.scope) (plus_none n))
      (statement_more (inside a) one c.scope) (omega arith)
  statement_more a (tree.Default label one span) s =
      let c = default_judged label s in
      more_two s c.scope _ 0 (of_statement one) _ (more_same s c.scope 0 refl refl) (statement_more (inside a) one c.scope) (omega arith)
  statement_more a (tree.Label name one span) s =
      more_up s (judge_statement (inside a) one s).scope (of_statement one) _ (statement_more (inside a) one s) (omega arith)
  statement_more a (tree.Goto name span) s = no_more s 3
  statement_more a (tree.Break span) s = no_more s 2
  statement_more a (tree.Continue span) s = no_more s 2
  statement_more a (tree.Return None span) s = no_more s (0 + 2)
  statement_more a (tree.Return (Some e) span) s = more_up s (judge e s).scope (of_expression e) _ (more e s) (omega arith)

  block_more : (a : Around) (items : BlockItems) (s : Scope) → IsMore s (judge_block a items s).scope (of_block items)
  block_more a tree.no_block_items s = no_more s 0
  block_more a (tree.local d rest) s =
      let x = (judge_declaration d s).scope in
      more_two s x _ (of_declaration d) (of_block rest) _ (declaration_more d s) (block_more a rest x) (omega arith)
  block_more a (tree.statement one rest) s =
      let x = (judge_statement a one s).scope in
      more_two s x _ (of_statement one) (of_block rest) _ (statement_more a one s) (block_more a rest x) (omega arith)

-- ---- units

item_more : (i : Item) (s : Scope) → IsMore s (judge_item i s).scope (of_item i)
item_more (tree.Declared d) s = declaration_more d s
item_more (tree.Defined all (tree.function stars name parameters at) body span) s =
    let x = typed_by span.start all (judge_specifiers false all s) in
    let y = judge_parameters parameters (prototype x.scope) in
    let f = signature_listed x.value y in
    let file = with_function name f x.scope in
    let b = body_scope x.scope file y.scope in
    let z = judge_block (outermost (result_of x.value)) body b in
    let p = parameters_more parameters (prototype x.scope) in
    let n = of_specifiers all + of_parameters parameters in
    let into : IsMore x.scope b (of_parameters parameters) = record { few = p.few } in
    more_two s z.scope _ (n + of_block body) 0 _
    (more_two s b z.scope n (of_block body) _
    (more_two s x.scope b (of_specifiers all) (of_parameters parameters) n (specifiers_more false all s) into (omega arith))
    (block_more (outermost (result_of x.value)) body b) (omega arith))
    (more_same z.scope (left_function file z.scope) 0 refl refl) (omega arith)
item_more (tree.Defined all (tree.object stars name lengths at) body span) s = no_more s _

unit_more : (items : List Item) (s : Scope) → IsMore s (judge_unit items s).scope (token_count items)
unit_more [] s = no_more s 0
unit_more (i ∷ rest) s =
    let x = judge_item i s in
    more_two s x.scope _ (of_item i) (token_count rest) _ (item_more i s) (unit_more rest x.scope) (omega arith)

-- functions

one_listed : (name : Name) (span : Span) (f : Option Signature) (z : Judged Statements) (fs : List t.Function)
    → function_listed name span f z ≡ Some fs → length fs ≤ 1
one_listed name span f z fs h = by_parts f z.value h
  where
    by_parts : (f : Option Signature) (b : Option Statements)
        → lift2 (λ g body. function_from name span z.scope g body ∷ []) f b ≡ Some fs → length fs ≤ 1
    by_parts (Some g) (Some b) h =
        let same : function_from name span z.scope g b ∷ [] ≡ fs = cc in
        subst (λ l. length l ≤ 1) same (omega arith)
    by_parts (Some g) None h = absurd (cc)
    by_parts None b h = absurd (cc)

none_listed : (ds : Option (List t.Declarator)) (fs : List t.Function)
    → option_map (λ x. []) ds ≡ Some fs → length fs ≤ 0
none_listed (Some ds) fs h = let same : [] ≡ fs = cc in subst (λ l. length l ≤ 0) same (omega arith)
none_listed None fs h = absurd (cc)

item_functions : (i : Item) (s : Scope) (fs : List t.Function) → (judge_item i s).value ≡ Some fs → length fs ≤ of_item i
item_functions (tree.Declared d) s fs h =
    let k = none_listed (judge_declaration d s).value fs h in omega (arith, k)
item_functions (tree.Defined all (tree.function stars name parameters at) body span) s fs h =
    let x = typed_by span.start all (judge_specifiers false all s) in
    let y = judge_parameters parameters (prototype x.scope) in
    let f = signature_listed x.value y in
    let b = body_scope x.scope (with_function name f x.scope) y.scope in
    let k = one_listed name span f (judge_block (outermost (result_of x.value)) body b) fs h in
    omega (arith, k)
item_functions (tree.Defined all (tree.object stars name lengths at) body span) s fs h = absurd (cc)

pub unit_functions : (items : List Item) (s : Scope) (fs : List t.Function) → (judge_unit items s).value ≡ Some fs
    → length fs ≤ token_count items
unit_functions [] s fs h = let same : [] ≡ fs = cc in subst (λ l. length l ≤ 0) same (omega arith)
unit_functions (i ∷ rest) s fs h =
    by_values (judge_item i s).value refl (judge_unit rest (judge_item i s).scope).value refl h
    (λ gs q. unit_functions rest (judge_item i s).scope gs q)
  where
    by_values : (a : Option (List t.Function)) → (judge_item i s).value ≡ a
        → (b : Option (List t.Function)) → (judge_unit rest (judge_item i s).scope).value ≡ b
        → lift2 append a b ≡ Some fs
        → ((gs : List t.Function) → (judge_unit rest (judge_item i s).scope).value ≡ Some gs → length gs ≤ token_count rest)
        → length fs ≤ of_item i + token_count rest
    by_values (Some xs) p (Some ys) q h below =
        let same : xs ++ ys ≡ fs = cc in
        let n : length fs ≡ length xs + length ys = ap length (sym same) ∙ length-append xs ys in
        let k = item_functions i s xs p in
        let m = below ys q in
        omega (arith, n, k, m)
    by_values (Some xs) p None q h below = absurd (cc)
    by_values None p b q h below = absurd (cc)

structures_length : (k : ℕ) (xs : List Structure) → length (structures_from k xs) ≡ length xs
structures_length k [] = refl
structures_length k (x ∷ xs) = ap suc (structures_length (k + 1) xs)

pub units_are_few : UnitsAreFew
units_are_few items p h small =
    by_value (found_of items).value refl h.1
  where
    by_value : (o : Option (List t.Function)) → (found_of items).value ≡ o
        → option_map (program_from (found_of items).scope) o ≡ Some p → IsFew p
    by_value None q e = absurd (cc)
    by_value (Some fs) q e =
        let end = (found_of items).scope in
        let same : program_from end fs ≡ p = cc in
        let m = (unit_more items (file_scope (bodies_of items))).few in
        let f = unit_functions items (file_scope (bodies_of items)) fs q in
        let n = structures_length 0 end.structures in
        subst IsFew same (record {
          functions = omega (arith, f, small);
          statics = omega (arith, m, small);
          structures = omega (arith, m, n, small);
        })
