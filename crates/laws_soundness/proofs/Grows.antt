-- What is declared stays declared: each node's scope goes on from the one before it.
use Rattle.std.proofs.Common.{◌≡◌, ℕ, ℤ, pos, Bool, true, false, List, [], ◌∷◌, ◌++◌, length, slice_get, slice_set, Option, Some, None, refl, ap, sym, ◌∙◌, inl, inr, subst, append_assoc}
use Rattle.mc_span.specs.declared.span.Span.{Span}
use Rattle.mc_tree.specs.declared.expressions.assignment_operator.AssignmentOperator.{AssignmentOperator}
use Rattle.mc_tree.specs.declared.expressions.assignment_operator.AssignmentOperator.TheVariants as assign
use Rattle.mc_tree.specs.declared.expressions.step_operator.StepOperator.{StepOperator}
use Rattle.mc_tree.specs.declared.expressions.step_operator.StepOperator.TheVariants as step
use Rattle.mc_tree.specs.Tree.{Name, Expression, Expressions, TypeName, Specifier, Specifiers, StructMember, Members, Enumerator, Enumerators, Declarator, Declarators, ArrayLengths, Parameters, span_of}
use Rattle.mc_tree.specs.Tree as tree
use Rattle.mc_typed.specs.Layout.{ObjectType}
use Rattle.mc_typed.specs.Tree.{Object}
use Rattle.types_faults.specs.declared.fault.Fault.{Fault}
use Rattle.types_rules.specs.Types.{CType, Member, Structure, Incomplete, Complete, Faulty, ParameterKind}
use Rattle.types_rules.specs.Scopes.{Entry, Scope, Meaning, TagMeaning, StructureTag, EnumerationTag, with_name, with_tag, with_structure, with_structure_at, with_object, with_counted, uncounted, meaning_of, tag_of, tag_here}
use Rattle.types_rules.specs.Scopes as scope
use Rattle.types_rules.specs.Values.{Value, Found, Number, Stored, Borrowed, Returned, Done, Assigned, Designator}
use Rattle.types_rules.specs.Expressions.{assignment_found, step_found, operator_after, operator_before}
use Rattle.types_rules.specs.Calls.{argument_judged, after_call, first_of, rest_of, parameters_of}
use Rattle.types_rules.specs.Declarators.{Opened, opened, opened_tag, opened_again, typedef_type, structure_tag, declared_tag, used_structure_tag, used_enumeration_tag, enumeration_scope}
use Rattle.types_rules.specs.Judgement.{judge, judge_arguments, judge_type, judge_specifier, judge_specifiers, judge_member, judge_members, judge_enumerator, judge_enumerators, judge_declarator, judge_declarators, judge_lengths}
use Rattle.laws_soundness.specs.Growth.{IsSettled, Kept, IsBelow, AreBelow, MeansNoFunction, NameNoFunction, AddsNoFunction, Grown, ExpressionsGrow}
use Rattle.laws_soundness.proofs.Lists.{right_nil, begins_refl, begins_trans, begins_with, get_past, get_appended, get_set_other, is_or_not}

-- ---- names that mean no function

pub adds_none : (es : List Entry) → AddsNoFunction es es
adds_none es = ([], sym (right_nil es), tt)

no_function_append : (es fs : List Entry) → NameNoFunction es → NameNoFunction fs → NameNoFunction (es ++ fs)
no_function_append [] fs h k = k
no_function_append (e ∷ es) fs h k = (h.0, no_function_append es fs h.1 k)

pub adds_both : (xs ys zs : List Entry) → AddsNoFunction xs ys → AddsNoFunction ys zs → AddsNoFunction xs zs
adds_both xs ys zs p q = (
  p.0 ++ q.0,
  q.1 ∙ ap (λ l. l ++ q.0) p.1 ∙ append_assoc xs p.0 q.0,
  no_function_append p.0 q.0 p.2 q.2,
)

-- ---- steps

pub grown_refl : (s : Scope) → Grown s s
grown_refl s = record {
  names = begins_refl Entry s.names;
  functions = adds_none s.names;
  structures = λ k x h n. h;
  statics = refl;
  static_cells = refl;
  below = λ n h. h;
  objects = begins_refl Object s.objects;
  bodies = refl;
  names_from = refl;
  is_file = refl;
  labels = refl;
  arrays = refl;
}

pub grown_trans : (s t u : Scope) → Grown s t → Grown t u → Grown s u
grown_trans s t u g h = record {
  names = begins_trans Entry s.names t.names u.names g.names h.names;
  functions = adds_both s.names t.names u.names g.functions h.functions;
  structures = λ k x e n. h.structures k x (g.structures k x e n) n;
  statics = h.statics ∙ g.statics;
  static_cells = h.static_cells ∙ g.static_cells;
  below = λ n k. h.below n (g.below n k);
  objects = begins_trans Object s.objects t.objects u.objects g.objects h.objects;
  bodies = h.bodies ∙ g.bodies;
  names_from = h.names_from ∙ g.names_from;
  is_file = h.is_file ∙ g.is_file;
  labels = h.labels ∙ g.labels;
  arrays = h.arrays ∙ g.arrays;
}

pub grown_to : (s t u : Scope) → u ≡ t → Grown s t → Grown s u
grown_to s t u e g = subst (λ v. Grown s v) (sym e) g

pub below_append : (n : ℕ) (es fs : List Entry) → AreBelow n es → AreBelow n fs → AreBelow n (es ++ fs)
below_append n [] fs h k = k
below_append n (e ∷ es) fs h k = (h.0, below_append n es fs h.1 k)

-- a name that is no object with static storage duration, and no function
pub grown_name : (name : Name) (m : Meaning) (s : Scope) → ((n : ℕ) → IsBelow n m) → MeansNoFunction m
    → Grown s (with_name name m s)
grown_name name m s below none = record {
  names = begins_with Entry s.names (record { name = name.text; meaning = m } ∷ []);
  functions = (record { name = name.text; meaning = m } ∷ [], refl, (none, tt));
  structures = λ k x h n. h;
  statics = refl;
  static_cells = refl;
  below = λ n h. below_append n s.names _ h (below n, tt);
  objects = begins_refl Object s.objects;
  bodies = refl;
  names_from = refl;
  is_file = refl;
  labels = refl;
  arrays = refl;
}

pub grown_tag : (name : Name) (m : TagMeaning) (s : Scope) → Grown s (with_tag name m s)
grown_tag name m s = record {
  names = begins_refl Entry s.names;
  functions = adds_none s.names;
  structures = λ k x h n. h;
  statics = refl;
  static_cells = refl;
  below = λ n h. h;
  objects = begins_refl Object s.objects;
  bodies = refl;
  names_from = refl;
  is_file = refl;
  labels = refl;
  arrays = refl;
}

pub grown_structure : (x : Structure) (s : Scope) → Grown s (with_structure x s)
grown_structure x s = record {
  names = begins_refl Entry s.names;
  functions = adds_none s.names;
  structures = λ k y h n. get_appended s.structures (x ∷ []) k y h;
  statics = refl;
  static_cells = refl;
  below = λ n h. h;
  objects = begins_refl Object s.objects;
  bodies = refl;
  names_from = refl;
  is_file = refl;
  labels = refl;
  arrays = refl;
}

pub grown_object : (u : ObjectType) (s : Scope) → Grown s (with_object u s)
grown_object u s = record {
  names = begins_refl Entry s.names;
  functions = adds_none s.names;
  structures = λ k x h n. h;
  statics = refl;
  static_cells = refl;
  below = λ n h. h;
  objects = begins_with Object s.objects _;
  bodies = refl;
  names_from = refl;
  is_file = refl;
  labels = refl;
  arrays = refl;
}

pub grown_counted : (u : Option ObjectType) (s : Scope) → Grown s (with_counted u s)
grown_counted None s = grown_refl s
grown_counted (Some u) s = grown_object u s

pub grown_uncounted : (n : ℕ) (s : Scope) → Grown s (uncounted n s)
grown_uncounted n s = record {
  names = begins_refl Entry s.names;
  functions = adds_none s.names;
  structures = λ k x h m. h;
  statics = refl;
  static_cells = refl;
  below = λ n h. h;
  objects = begins_refl Object s.objects;
  bodies = refl;
  names_from = refl;
  is_file = refl;
  labels = refl;
  arrays = refl;
}

-- ---- structures

-- no structure that is settled has this number
abbrev pub IsFree : List Structure → ℕ → Type 0
IsFree all n = (x : Structure) → slice_get all n ≡ Some x → IsSettled x → ⊥

kept_set : (all more : List Structure) (n : ℕ) (new : Structure) → IsFree all n → Kept all more
    → Kept all (slice_set more n new)
kept_set all more n new free kept k x h settled = elim (is_or_not k n) [
  | inl e ↦ absurd (free x (ap (slice_get all) (sym e) ∙ h) settled)
  | inr d ↦ get_set_other more n k new x d (kept k x h settled)
]

pub grown_set : (s t : Scope) (n : ℕ) (new : Structure) → IsFree s.structures n → Grown s t
    → Grown s (with_structure_at n new t)
grown_set s t n new free g = record {
  names = g.names;
  functions = g.functions;
  structures = kept_set s.structures t.structures n new free g.structures;
  statics = g.statics;
  static_cells = g.static_cells;
  below = g.below;
  objects = g.objects;
  bodies = g.bodies;
  names_from = g.names_from;
  is_file = g.is_file;
  labels = g.labels;
  arrays = g.arrays;
}

free_past : (all : List Structure) → IsFree all (length all)
free_past all x h settled = let past = get_past all in absurd (cc)

free_incomplete : (all : List Structure) (k : ℕ) → slice_get all k ≡ Some (Incomplete false)
    → IsFree all k
free_incomplete all k e x h settled =
    let same : Incomplete false ≡ x = cc in subst (λ y. IsSettled y) (sym same) settled

-- the scope of a list that begins
pub record IsOpened (s : Scope) (x : Opened) : Type 0 where
  pub free : IsFree s.structures x.number
  pub grown : Grown s x.scope

opened_new : (s t : Scope) → s.structures ≡ t.structures → Grown s t
    → (faults : List Fault)
    → IsOpened s (record { faults = faults; number = length t.structures; scope = with_structure (Incomplete true) t })
opened_new s t e g faults = record {
  free = subst (λ n. IsFree s.structures n) (ap length e) (free_past s.structures);
  grown = grown_trans s t _ g (grown_structure (Incomplete true) t);
}

again_opens : (tag : Name) (k : ℕ) (s : Scope) (x : Option Structure) → slice_get s.structures k ≡ x
    → IsOpened s (opened_again tag k s x)
again_opens tag k s (Some (Incomplete false)) e = record {
  free = free_incomplete s.structures k e;
  grown = grown_set s s k (Incomplete true) (free_incomplete s.structures k e) (grown_refl s);
}
again_opens tag k s (Some (Incomplete true)) e =
    opened_new s (with_tag tag (StructureTag (length s.structures)) s) refl (grown_tag tag _ s) _
again_opens tag k s (Some (Complete ms)) e =
    opened_new s (with_tag tag (StructureTag (length s.structures)) s) refl (grown_tag tag _ s) _
again_opens tag k s (Some Faulty) e =
    opened_new s (with_tag tag (StructureTag (length s.structures)) s) refl (grown_tag tag _ s) _
again_opens tag k s None e =
    opened_new s (with_tag tag (StructureTag (length s.structures)) s) refl (grown_tag tag _ s) _

tag_opens : (tag : Name) (s : Scope) (x : Option TagMeaning) → IsOpened s (opened_tag tag s x)
tag_opens tag s None =
    opened_new s (with_tag tag (StructureTag (length s.structures)) s) refl (grown_tag tag _ s) []
tag_opens tag s (Some (StructureTag k)) = again_opens tag k s (slice_get s.structures k) refl
tag_opens tag s (Some EnumerationTag) =
    opened_new s (with_tag tag (StructureTag (length s.structures)) s) refl (grown_tag tag _ s) _

pub opens : (tag : Option Name) (s : Scope) → IsOpened s (opened tag s)
opens None s = opened_new s s refl (grown_refl s) []
opens (Some tag) s = tag_opens tag s (tag_here tag s)

-- ---- scopes of nodes

pub grown_call : (v : Option Value) (n : ℕ) (s : Scope) → Grown s (after_call v n s)
grown_call None n s = grown_uncounted n s
grown_call (Some (Number e)) n s = grown_refl s
grown_call (Some (Stored place u)) n s = grown_refl s
grown_call (Some (Borrowed array u span)) n s = grown_refl s
grown_call (Some (Returned c k)) n s = grown_object _ s
grown_call (Some (Done effect)) n s = grown_refl s
grown_call (Some (Assigned effect)) n s = grown_refl s
grown_call (Some Designator) n s = grown_refl s

pub assigned_scope : (operator : AssignmentOperator) (span : Span) (x y : Found)
    → (assignment_found operator span x y).scope ≡ y.scope
assigned_scope assign.Assign span x y = refl
assigned_scope assign.Multiply span x y = refl
assigned_scope assign.Divide span x y = refl
assigned_scope assign.Remainder span x y = refl
assigned_scope assign.Add span x y = refl
assigned_scope assign.Subtract span x y = refl
assigned_scope assign.ShiftLeft span x y = refl
assigned_scope assign.ShiftRight span x y = refl
assigned_scope assign.BitAnd span x y = refl
assigned_scope assign.BitXor span x y = refl
assigned_scope assign.BitOr span x y = refl

pub stepped_scope : (operator : StepOperator) (at span : Span) (x : Found)
    → (step_found operator at span x).scope ≡ x.scope
stepped_scope step.Increment at span x = refl
stepped_scope step.Decrement at span x = refl

grown_typedef : (name : Name) (s : Scope) (m : Option Meaning) → Grown s (typedef_type name s m).scope
grown_typedef name s None = grown_refl s
grown_typedef name s (Some (scope.Automatic slot u)) = grown_refl s
grown_typedef name s (Some (scope.Stored slot u)) = grown_refl s
grown_typedef name s (Some (scope.Borrowed array u)) = grown_refl s
grown_typedef name s (Some (scope.Constant v)) = grown_refl s
grown_typedef name s (Some (scope.Function f b)) = grown_refl s
grown_typedef name s (Some (scope.Typedef u)) = grown_refl s

grown_tag_use : (alone : Bool) (tag : Name) (span : Span) (s : Scope)
    → Grown s (structure_tag alone tag span s).scope
grown_tag_use true tag span s = by_tag (tag_here tag s)
  where
    by_tag : (m : Option TagMeaning) → Grown s (declared_tag tag s m).scope
    by_tag None = grown_trans s (with_structure (Incomplete false) s) _
        (grown_structure (Incomplete false) s)
        (grown_tag tag (StructureTag (length s.structures)) (with_structure (Incomplete false) s))
    by_tag (Some (StructureTag k)) = grown_refl s
    by_tag (Some EnumerationTag) = grown_refl s
grown_tag_use false tag span s = by_tag (tag_of tag s)
  where
    by_tag : (m : Option TagMeaning) → Grown s (used_structure_tag tag span s m).scope
    by_tag None = grown_refl s
    by_tag (Some (StructureTag k)) = grown_refl s
    by_tag (Some EnumerationTag) = grown_refl s

grown_enumeration_use : (tag : Name) (span : Span) (s : Scope) (m : Option TagMeaning)
    → Grown s (used_enumeration_tag tag span s m).scope
grown_enumeration_use tag span s None = grown_refl s
grown_enumeration_use tag span s (Some (StructureTag k)) = grown_refl s
grown_enumeration_use tag span s (Some EnumerationTag) = grown_refl s

grown_enumeration : (tag : Option Name) (s : Scope) → Grown s (enumeration_scope tag s)
grown_enumeration None s = grown_refl s
grown_enumeration (Some tag) s = grown_tag tag EnumerationTag s

mutual
  pub grows : (e : Expression) (s : Scope) → Grown s (judge e s).scope
  grows (tree.Named name) s = grown_refl s
  grows (tree.Constant v decimal unsigned longs span) s = grown_refl s
  grows (tree.Character v span) s = grown_refl s
  grows (tree.Parenthesized inner span) s = grows inner s
  grows (tree.Call name given span) s =
      let ps = parameters_of (meaning_of name s) in
      grown_trans s (judge_arguments given ps s).scope _ (arguments_grow given ps s)
      (grown_call _ _ (judge_arguments given ps s).scope)
  grows (tree.Index a b span) s =
      grown_trans s (judge a s).scope _ (grows a s) (grows b (judge a s).scope)
  grows (tree.Member a name span) s = grows a s
  grows (tree.PostfixStep operator a span) s =
      grown_to s (judge a s).scope _ (stepped_scope operator (operator_after span) span (judge a s))
      (grows a s)
  grows (tree.PrefixStep operator a span) s =
      grown_to s (judge a s).scope _ (stepped_scope operator (operator_before span) span (judge a s))
      (grows a s)
  grows (tree.Unary operator a span) s = grows a s
  grows (tree.Cast type a span) s =
      grown_trans s (judge_type type s).scope _ (type_grows type s) (grows a (judge_type type s).scope)
  grows (tree.Binary operator a b span) s =
      grown_trans s (judge a s).scope _ (grows a s) (grows b (judge a s).scope)
  grows (tree.Conditional a b c span) s =
      let x = judge a s in
      let y = judge b x.scope in
      grown_trans s x.scope _ (grows a s)
      (grown_trans x.scope y.scope _ (grows b x.scope) (grows c y.scope))
  grows (tree.Assignment operator a b span) s =
      let x = judge a s in
      let y = judge b x.scope in
      grown_to s y.scope _ (assigned_scope operator span x y)
      (grown_trans s x.scope y.scope (grows a s) (grows b x.scope))
  grows (tree.Comma operands span) s = arguments_grow operands [] s

  pub arguments_grow : (es : Expressions) (ps : List ParameterKind) (s : Scope)
      → Grown s (judge_arguments es ps s).scope
  arguments_grow tree.no_expressions ps s = grown_refl s
  arguments_grow (tree.expressions e rest) ps s =
      let x = argument_judged (span_of e).start (first_of ps) (judge e s) in
      grown_trans s x.scope _
      (grown_trans s (judge e s).scope x.scope (grows e s) (grown_counted _ (judge e s).scope))
      (arguments_grow rest (rest_of ps) x.scope)

  pub type_grows : (type : TypeName) (s : Scope) → Grown s (judge_type type s).scope
  type_grows (tree.type_name all stars span) s = specifiers_grow false all s

  pub specifier_grows : (alone : Bool) (one : Specifier) (s : Scope)
      → Grown s (judge_specifier alone one s).scope
  specifier_grows alone (tree.Word word span) s = grown_refl s
  specifier_grows alone (tree.TypedefName name) s = grown_typedef name s (meaning_of name s)
  specifier_grows alone (tree.StructureTag tag span) s = grown_tag_use alone tag span s
  specifier_grows alone (tree.Structure tag all span) s =
      let x = opened tag s in
      let y = judge_members all [] x.scope in
      let o = opens tag s in
      grown_set s y.scope x.number _ o.free
      (grown_trans s x.scope y.scope o.grown (members_grow all [] x.scope))
  specifier_grows alone (tree.EnumerationTag tag span) s =
      grown_enumeration_use tag span s (tag_of tag s)
  specifier_grows alone (tree.Enumeration tag all span) s =
      grown_trans s (enumeration_scope tag s) _ (grown_enumeration tag s)
      (enumerators_grow all (Some (pos 0)) (enumeration_scope tag s))

  pub specifiers_grow : (alone : Bool) (all : Specifiers) (s : Scope)
      → Grown s (judge_specifiers alone all s).scope
  specifiers_grow alone tree.no_specifiers s = grown_refl s
  specifiers_grow alone (tree.specifiers one rest) s =
      let x = judge_specifier alone one s in
      grown_trans s x.scope _ (specifier_grows alone one s) (specifiers_grow alone rest x.scope)

  pub member_grows : (m : StructMember) (members : List Member) (s : Scope)
      → Grown s (judge_member m members s).scope
  member_grows (tree.member all ds span) members s =
      let t = (judge_specifiers false all s).scope in
      grown_trans s t _ (specifiers_grow false all s) (declarators_grow _ ds members t)

  pub members_grow : (all : Members) (members : List Member) (s : Scope)
      → Grown s (judge_members all members s).scope
  members_grow tree.no_members members s = grown_refl s
  members_grow (tree.members m rest) members s =
      let x = judge_member m members s in
      grown_trans s x.scope _ (member_grows m members s) (members_grow rest x.items x.scope)

  pub enumerator_grows : (one : Enumerator) (v : Option ℤ) (s : Scope)
      → Grown s (judge_enumerator one v s).scope
  enumerator_grows (tree.enumerator name) v s = grown_name name _ s (λ n. tt) tt
  enumerator_grows (tree.valued_enumerator name e) v s =
      grown_trans s (judge e s).scope _ (grows e s) (grown_name name _ (judge e s).scope (λ n. tt) tt)

  pub enumerators_grow : (all : Enumerators) (v : Option ℤ) (s : Scope)
      → Grown s (judge_enumerators all v s).scope
  enumerators_grow tree.no_enumerators v s = grown_refl s
  enumerators_grow (tree.enumerators one rest) v s =
      let x = judge_enumerator one v s in
      grown_trans s x.scope _ (enumerator_grows one v s) (enumerators_grow rest x.value x.scope)

  pub declarator_grows : (base : Option CType) (d : Declarator) (members : List Member) (s : Scope)
      → Grown s (judge_declarator base d members s).scope
  declarator_grows base (tree.object stars name lengths span) members s = lengths_grow lengths s
  declarator_grows base (tree.function stars name all span) members s = grown_refl s

  pub declarators_grow : (base : Option CType) (ds : Declarators) (members : List Member) (s : Scope)
      → Grown s (judge_declarators base ds members s).scope
  declarators_grow base tree.no_declarators members s = grown_refl s
  declarators_grow base (tree.declarators d rest) members s =
      let x = judge_declarator base d members s in
      grown_trans s x.scope _ (declarator_grows base d members s)
      (declarators_grow base rest x.items x.scope)

  pub lengths_grow : (lengths : ArrayLengths) (s : Scope) → Grown s (judge_lengths lengths s).scope
  lengths_grow tree.no_lengths s = grown_refl s
  lengths_grow (tree.absent_length rest) s = lengths_grow rest s
  lengths_grow (tree.given_length e rest) s =
      grown_trans s (judge e s).scope _ (grows e s) (lengths_grow rest (judge e s).scope)

pub expressions_grow : ExpressionsGrow
expressions_grow = (grows, specifiers_grow)
