-- Without a fault, a constant, specifiers and lengths make no objects, whatever the program is.
use Rattle.std.proofs.Common.{◌≡◌, ℕ, ℤ, pos, Bool, true, false, not, ◌&&◌, List, [], slice_get, Option, Some, None, refl, sym, ◌∙◌}
use Rattle.mc_span.specs.declared.span.Span.{Span}
use Rattle.mc_tree.specs.declared.expressions.assignment_operator.AssignmentOperator.{AssignmentOperator}
use Rattle.mc_tree.specs.declared.expressions.assignment_operator.AssignmentOperator.TheVariants as assign
use Rattle.mc_tree.specs.declared.expressions.step_operator.StepOperator.{StepOperator}
use Rattle.mc_tree.specs.declared.expressions.step_operator.StepOperator.TheVariants as step
use Rattle.mc_tree.specs.Tree.{Name, Expression, TypeName, Specifier, Specifiers, StructMember, Members, Enumerator, Enumerators, Declarator, Declarators, ArrayLengths, span_of}
use Rattle.mc_tree.specs.Tree as tree
use Rattle.types_faults.specs.declared.fault.FaultKind.TheVariants.{NotConstant}
use Rattle.types_rules.specs.Types.{CType, Member}
use Rattle.types_rules.specs.Scopes.{Meaning, TagMeaning, StructureTag, EnumerationTag, Scope, meaning_of, tag_of, tag_here, prototype}
use Rattle.types_rules.specs.Scopes as scope
use Rattle.types_rules.specs.Values.{Found, number_found}
use Rattle.types_rules.specs.Constants.{constant_found, constant_faults}
use Rattle.types_rules.specs.Expressions.{is_arithmetic, assignment_found, step_found, operator_after, operator_before}
use Rattle.types_rules.specs.Declarators.{opened, opened_tag, opened_again, typedef_type, structure_tag, declared_tag, used_structure_tag, used_enumeration_tag, enumeration_scope, enumeration_faults, enumerator_judged}
use Rattle.types_rules.specs.Types.{Structure, Incomplete, Complete, Faulty}
use Rattle.types_rules.specs.Judgement.{typed_by, judge, judge_type, judge_specifier, judge_specifiers, judge_member, judge_members, judge_enumerator, judge_enumerators, judge_declarator, judge_declarators, judge_lengths}
use Rattle.laws_soundness.proofs.Tests.{nil_left, nil_right, no_fault, or_left, not_false, and_left, and_right, false_true}

never_constant : (operator : AssignmentOperator) (span : Span) (x y : Found)
    → (assignment_found operator span x y).constant ≡ false
never_constant assign.Assign span x y = refl
never_constant assign.Multiply span x y = refl
never_constant assign.Divide span x y = refl
never_constant assign.Remainder span x y = refl
never_constant assign.Add span x y = refl
never_constant assign.Subtract span x y = refl
never_constant assign.ShiftLeft span x y = refl
never_constant assign.ShiftRight span x y = refl
never_constant assign.BitAnd span x y = refl
never_constant assign.BitXor span x y = refl
never_constant assign.BitOr span x y = refl

step_never : (operator : StepOperator) (at span : Span) (x : Found)
    → (step_found operator at span x).constant ≡ false
step_never step.Increment at span x = refl
step_never step.Decrement at span x = refl

pub is_constant : (x : Found) (at : ℕ) → constant_faults at x.constant (number_found x) ≡ [] → x.constant ≡ true
is_constant x at h = not_false x.constant (or_left (not x.constant) _ (no_fault _ NotConstant at h))

typedef_still : (name : Name) (s : Scope) (m : Option Meaning) → (typedef_type name s m).scope.objects ≡ s.objects
typedef_still name s None = refl
typedef_still name s (Some (scope.Automatic slot u)) = refl
typedef_still name s (Some (scope.Stored slot u)) = refl
typedef_still name s (Some (scope.Borrowed array u)) = refl
typedef_still name s (Some (scope.Constant v)) = refl
typedef_still name s (Some (scope.Function f b)) = refl
typedef_still name s (Some (scope.Typedef u)) = refl

declared_still : (tag : Name) (s : Scope) (m : Option TagMeaning) → (declared_tag tag s m).scope.objects ≡ s.objects
declared_still tag s None = refl
declared_still tag s (Some (StructureTag k)) = refl
declared_still tag s (Some EnumerationTag) = refl

used_still : (tag : Name) (span : Span) (s : Scope) (m : Option TagMeaning)
    → (used_structure_tag tag span s m).scope.objects ≡ s.objects
used_still tag span s None = refl
used_still tag span s (Some (StructureTag k)) = refl
used_still tag span s (Some EnumerationTag) = refl

tag_still : (alone : Bool) (tag : Name) (span : Span) (s : Scope)
    → (structure_tag alone tag span s).scope.objects ≡ s.objects
tag_still true tag span s = declared_still tag s (tag_here tag s)
tag_still false tag span s = used_still tag span s (tag_of tag s)

enumeration_tag_still : (tag : Name) (span : Span) (s : Scope) (m : Option TagMeaning)
    → (used_enumeration_tag tag span s m).scope.objects ≡ s.objects
enumeration_tag_still tag span s None = refl
enumeration_tag_still tag span s (Some (StructureTag k)) = refl
enumeration_tag_still tag span s (Some EnumerationTag) = refl

enumeration_still : (tag : Option Name) (s : Scope) → (enumeration_scope tag s).objects ≡ s.objects
enumeration_still None s = refl
enumeration_still (Some tag) s = refl

again_still : (tag : Name) (k : ℕ) (s : Scope) (o : Option Structure)
    → (opened_again tag k s o).scope.objects ≡ s.objects
again_still tag k s None = refl
again_still tag k s (Some (Incomplete true)) = refl
again_still tag k s (Some (Incomplete false)) = refl
again_still tag k s (Some (Complete ms)) = refl
again_still tag k s (Some Faulty) = refl

tag_opened_still : (tag : Name) (s : Scope) (m : Option TagMeaning)
    → (opened_tag tag s m).scope.objects ≡ s.objects
tag_opened_still tag s None = refl
tag_opened_still tag s (Some (StructureTag k)) = again_still tag k s (slice_get s.structures k)
tag_opened_still tag s (Some EnumerationTag) = refl

opened_still : (tag : Option Name) (s : Scope) → (opened tag s).scope.objects ≡ s.objects
opened_still None s = refl
opened_still (Some tag) s = tag_opened_still tag s (tag_here tag s)

mutual
  pub still : (e : Expression) (s : Scope) → (judge e s).faults ≡ [] → (judge e s).constant ≡ true
      → (judge e s).scope.objects ≡ s.objects
  still (tree.Named name) s h k = refl
  still (tree.Constant v decimal unsigned longs span) s h k = refl
  still (tree.Character v span) s h k = refl
  still (tree.Parenthesized inner span) s h k = still inner s h k
  still (tree.Call name given span) s h k = false_true k
  still (tree.Index a b span) s h k = false_true k
  still (tree.Member a name span) s h k = false_true k
  still (tree.PostfixStep operator a span) s h k =
      false_true (sym (step_never operator (operator_after span) span (judge a s)) ∙ k)
  still (tree.PrefixStep operator a span) s h k =
      false_true (sym (step_never operator (operator_before span) span (judge a s)) ∙ k)
  still (tree.Unary operator a span) s h k =
      let x = judge a s in
      still a s (nil_left x.faults _ h) (and_right (is_arithmetic operator) x.constant k)
  still (tree.Cast type a span) s h k =
      let x = judge_type type s in
      let y = judge a x.scope in
      still a x.scope (nil_left y.faults _ (nil_right x.faults _ h)) (and_left y.constant _ k)
      ∙ type_still type s (nil_left x.faults _ h)
  still (tree.Binary operator a b span) s h k =
      let x = judge a s in
      let y = judge b x.scope in
      still b x.scope (nil_left y.faults _ (nil_right x.faults _ h)) (and_right x.constant y.constant k)
      ∙ still a s (nil_left x.faults _ h) (and_left x.constant y.constant k)
  still (tree.Conditional a b c span) s h k =
      let x = judge a s in
      let y = judge b x.scope in
      let z = judge c y.scope in
      let rest = nil_right x.faults _ h in
      let both = and_left (x.constant && y.constant) z.constant k in
      still c y.scope (nil_left z.faults _ (nil_right y.faults _ rest)) (and_right (x.constant && y.constant) z.constant k)
      ∙ still b x.scope (nil_left y.faults _ rest) (and_right x.constant y.constant both)
      ∙ still a s (nil_left x.faults _ h) (and_left x.constant y.constant both)
  still (tree.Assignment operator a b span) s h k =
      let x = judge a s in
      false_true (sym (never_constant operator span x (judge b x.scope)) ∙ k)
  still (tree.Comma operands span) s h k = false_true k

  pub type_still : (type : TypeName) (s : Scope) → (judge_type type s).faults ≡ []
      → (judge_type type s).scope.objects ≡ s.objects
  type_still (tree.type_name all stars span) s h =
      specifiers_still false all s (nil_left (judge_specifiers false all s).faults _ h)

  pub specifier_still : (alone : Bool) (one : Specifier) (s : Scope) → (judge_specifier alone one s).faults ≡ []
      → (judge_specifier alone one s).scope.objects ≡ s.objects
  specifier_still alone (tree.Word word span) s h = refl
  specifier_still alone (tree.TypedefName name) s h = typedef_still name s (meaning_of name s)
  specifier_still alone (tree.StructureTag tag span) s h = tag_still alone tag span s
  specifier_still alone (tree.Structure tag all span) s h =
      let x = opened tag s in
      members_still all [] x.scope (nil_right x.faults (judge_members all [] x.scope).faults h) ∙ opened_still tag s
  specifier_still alone (tree.EnumerationTag tag span) s h = enumeration_tag_still tag span s (tag_of tag s)
  specifier_still alone (tree.Enumeration tag all span) s h =
      let t = enumeration_scope tag s in
      enumerators_still all (Some (pos 0)) t (nil_right (enumeration_faults tag s) (judge_enumerators all (Some (pos 0)) t).faults h)
      ∙ enumeration_still tag s

  pub specifiers_still : (alone : Bool) (all : Specifiers) (s : Scope) → (judge_specifiers alone all s).faults ≡ []
      → (judge_specifiers alone all s).scope.objects ≡ s.objects
  specifiers_still alone tree.no_specifiers s h = refl
  specifiers_still alone (tree.specifiers one rest) s h =
      let x = judge_specifier alone one s in
      let y = judge_specifiers alone rest x.scope in
      specifiers_still alone rest x.scope (nil_left y.faults [] (nil_right x.faults _ h))
      ∙ specifier_still alone one s (nil_left x.faults _ h)

  pub member_still : (m : StructMember) (members : List Member) (s : Scope) → (judge_member m members s).faults ≡ []
      → (judge_member m members s).scope.objects ≡ s.objects
  member_still (tree.member all ds span) members s h =
      let x = judge_specifiers false all s in
      let u = typed_by span.start all x in
      declarators_still u.value ds members x.scope (nil_right u.faults (judge_declarators u.value ds members x.scope).faults h)
      ∙ specifiers_still false all s (nil_left x.faults _ (nil_left u.faults (judge_declarators u.value ds members x.scope).faults h))

  pub members_still : (all : Members) (members : List Member) (s : Scope) → (judge_members all members s).faults ≡ []
      → (judge_members all members s).scope.objects ≡ s.objects
  members_still tree.no_members members s h = refl
  members_still (tree.members m rest) members s h =
      let x = judge_member m members s in
      members_still rest x.items x.scope (nil_right x.faults (judge_members rest x.items x.scope).faults h)
      ∙ member_still m members s (nil_left x.faults (judge_members rest x.items x.scope).faults h)

  pub enumerator_still : (one : Enumerator) (v : Option ℤ) (s : Scope) → (judge_enumerator one v s).faults ≡ []
      → (judge_enumerator one v s).scope.objects ≡ s.objects
  enumerator_still (tree.enumerator name) v s h = refl
  enumerator_still (tree.valued_enumerator name e) v s h =
      let x = judge e s in
      let y = enumerator_judged name (constant_found x) x.scope in
      still e s (nil_left x.faults _ h)
      (is_constant x (span_of e).start (nil_right y.faults _ (nil_right x.faults _ h)))

  pub enumerators_still : (all : Enumerators) (v : Option ℤ) (s : Scope) → (judge_enumerators all v s).faults ≡ []
      → (judge_enumerators all v s).scope.objects ≡ s.objects
  enumerators_still tree.no_enumerators v s h = refl
  enumerators_still (tree.enumerators one rest) v s h =
      let x = judge_enumerator one v s in
      enumerators_still rest x.value x.scope (nil_right x.faults (judge_enumerators rest x.value x.scope).faults h)
      ∙ enumerator_still one v s (nil_left x.faults (judge_enumerators rest x.value x.scope).faults h)

  pub declarator_still : (base : Option CType) (d : Declarator) (members : List Member) (s : Scope)
      → (judge_declarator base d members s).faults ≡ []
      → (judge_declarator base d members s).scope.objects ≡ s.objects
  declarator_still base (tree.object stars name lengths span) members s h =
      lengths_still lengths s (nil_left (judge_lengths lengths s).faults _ h)
  declarator_still base (tree.function stars name all span) members s h = refl

  pub declarators_still : (base : Option CType) (ds : Declarators) (members : List Member) (s : Scope)
      → (judge_declarators base ds members s).faults ≡ []
      → (judge_declarators base ds members s).scope.objects ≡ s.objects
  declarators_still base tree.no_declarators members s h = refl
  declarators_still base (tree.declarators d rest) members s h =
      let x = judge_declarator base d members s in
      declarators_still base rest x.items x.scope (nil_right x.faults (judge_declarators base rest x.items x.scope).faults h)
      ∙ declarator_still base d members s (nil_left x.faults (judge_declarators base rest x.items x.scope).faults h)

  pub lengths_still : (lengths : ArrayLengths) (s : Scope) → (judge_lengths lengths s).faults ≡ []
      → (judge_lengths lengths s).scope.objects ≡ s.objects
  lengths_still tree.no_lengths s h = refl
  lengths_still (tree.absent_length rest) s h = lengths_still rest s h
  lengths_still (tree.given_length e rest) s h =
      let x = judge e s in
      let y = judge_lengths rest x.scope in
      let later = nil_right x.faults _ h in
      lengths_still rest x.scope (nil_left y.faults _ later)
      ∙ still e s (nil_left x.faults _ h)
      (is_constant x (span_of e).start (nil_left (constant_faults (span_of e).start x.constant (number_found x)) _ (nil_right y.faults _ later)))
