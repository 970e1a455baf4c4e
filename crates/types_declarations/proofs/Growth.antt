-- What is declared before stays as it is: the scope after a node goes on from the one before it. In a
-- block whose tags are those of structures from one number on, the structures before it stay too.
use Rattle.std.proofs.Common.{◌≡◌, ◌∙◌, ℕ, ◌≤◌, zero, suc, ℤ, pos, Bool, true, false, List, [], ◌∷◌, ◌++◌, length, take, drop, slice_get, slice_set, Option, Some, None, refl, ap, sym, subst, arith, append_assoc, append-nil, length-append, bytes_eq, if◌then◌else◌}
use Rattle.std.proofs.Math.Seq.{take-append_seam}
use Rattle.mc_tree.specs.declared.expressions.assignment_operator.AssignmentOperator.{AssignmentOperator}
use Rattle.mc_tree.specs.declared.expressions.assignment_operator.AssignmentOperator.TheVariants as assign
use Rattle.mc_tree.specs.declared.expressions.step_operator.StepOperator.{StepOperator}
use Rattle.mc_tree.specs.declared.expressions.step_operator.StepOperator.TheVariants as step
use Rattle.mc_span.specs.declared.span.Span.{Span}
use Rattle.mc_tree.specs.Tree.{Name, Expression, Expressions, TypeName, Specifier, Specifiers, StructMember, Members, Enumerator, Enumerators, Declarator, Declarators, ArrayLengths, Parameters, Parameter, ParameterList, span_of}
use Rattle.mc_tree.specs.Tree as tree
use Rattle.mc_typed.specs.Layout.{ObjectType}
use Rattle.mc_typed.specs.Tree.{Object}
use Rattle.types_faults.specs.declared.fault.Fault.{Fault}
use Rattle.types_rules.specs.Types.{CType, Member, Structure, Incomplete, Complete, Faulty, ParameterKind, ByValue, ByArray}
use Rattle.types_rules.specs.Scopes.{Entry, Tag, Labels, Scope, Meaning, TagMeaning, StructureTag, EnumerationTag, later_or, tagged, with_name, with_tag, with_structure, with_structure_at, with_object, with_counted, with_array, with_objects_of, uncounted, meaning_of, tag_of, tag_here, prototype}
use Rattle.types_rules.specs.Scopes as scope
use Rattle.types_rules.specs.Values.{Value, Found, Number, Stored, Borrowed, Returned, Done, Assigned, Designator}
use Rattle.types_rules.specs.Expressions.{assignment_found, step_found, operator_after, operator_before}
use Rattle.types_rules.specs.Calls.{argument_judged, after_call, first_of, rest_of, parameters_of}
use Rattle.types_rules.specs.Declarators.{Opened, opened, opened_tag, opened_again, typedef_type, structure_tag, declared_tag, used_structure_tag, used_enumeration_tag, enumeration_scope, parameter_meaning, with_parameter, with_parameter_name, declared_parameter}
use Rattle.types_rules.specs.Judgement.{judge, judge_arguments, judge_type, judge_specifier, judge_specifiers, judge_member, judge_members, judge_enumerator, judge_enumerators, judge_declarator, judge_declarators, judge_lengths, judge_parameters, judge_parameter, judge_parameter_list}
use Rattle.types_scopes.specs.Prototypes.{counted, cut_to, around_prototype, prototype_left_by}

-- ---- lists

-- the second list begins with the first
abbrev pub Begins : (A : Type 0) → List A → List A → Type 0
Begins A xs ys = (more : List A) × (ys ≡ xs ++ more)

begins_refl : (A : Type 0) (xs : List A) → Begins A xs xs
begins_refl A xs = ([], sym (append-nil xs))

begins_trans : (A : Type 0) (xs ys zs : List A) → Begins A xs ys → Begins A ys zs → Begins A xs zs
begins_trans A xs ys zs p q = (p.0 ++ q.0, q.1 ∙ ap (λ l. l ++ q.0) p.1 ∙ append_assoc xs p.0 q.0)

begins_with : (A : Type 0) (xs : List A) (more : List A) → Begins A xs (xs ++ more)
begins_with A xs more = (more, refl)

pub cut_back : (A : Type 0) (xs ys : List A) → Begins A xs ys → take (length xs) ys ≡ xs
cut_back A xs ys p = ap (take (length xs)) p.1 ∙ take-append_seam xs p.0

take_longer : {A : Type 0} (n : ℕ) (xs ys : List A) → n ≤ length xs → take n (xs ++ ys) ≡ take n xs
take_longer zero xs ys h = refl
take_longer (suc n) [] ys h = absurd (omega (arith, h))
take_longer (suc n) (x ∷ xs) ys h = ap (λ l. x ∷ l) (take_longer n xs ys (omega (arith, h)))

abbrev no_tags : List Tag
no_tags = []

drop_none : (k : ℕ) → drop k no_tags ≡ no_tags
drop_none zero = refl
drop_none (suc k) = refl

take_set : {A : Type 0} (n k : ℕ) (xs : List A) (x : A) → n ≤ k → take n (slice_set xs k x) ≡ take n xs
take_set zero k xs x h = refl
take_set (suc n) k [] x h = refl
take_set (suc n) zero (y ∷ xs) x h = absurd (omega (arith, h))
take_set (suc n) (suc k) (y ∷ xs) x h = ap (λ l. y ∷ l) (take_set n k xs x (omega (arith, h)))

set_length : {A : Type 0} (xs : List A) (k : ℕ) (x : A) → length (slice_set xs k x) ≡ length xs
set_length [] k x = refl
set_length (y ∷ xs) zero x = refl
set_length (y ∷ xs) (suc k) x = ap suc (set_length xs k x)

-- ---- scopes

-- a tag of a structure has a number from n on
abbrev IsFrom : ℕ → TagMeaning → Type 0
IsFrom n (StructureTag k) = n ≤ k
IsFrom n EnumerationTag = Unit {0}

abbrev AreFrom : ℕ → List Tag → Type 0
AreFrom n [] = Unit {0}
AreFrom n (e ∷ es) = IsFrom n e.meaning × AreFrom n es

from_append : (n : ℕ) (es fs : List Tag) → AreFrom n es → AreFrom n fs → AreFrom n (es ++ fs)
from_append n [] fs h k = k
from_append n (e ∷ es) fs h k = (h.0, from_append n es fs h.1 k)

from_dropped : (n k : ℕ) (es : List Tag) (one : Tag) → AreFrom n (drop k es) → IsFrom n one.meaning
    → AreFrom n (drop k (es ++ one ∷ []))
from_dropped n zero es one h f = from_append n es (one ∷ []) h (f, tt)
from_dropped n (suc k) [] one h f = subst (λ es. AreFrom n es) (sym (drop_none k)) tt
from_dropped n (suc k) (e ∷ es) one h f = from_dropped n k es one h f

-- the tags of the innermost block are those of structures from n on
pub record IsReady (n : ℕ) (s : Scope) : Type 0 where
  pub many : n ≤ length s.structures
  pub here : AreFrom n (drop s.tags_from s.tags)

pub record Stays (n : ℕ) (s t : Scope) : Type 0 where
  pub names : Begins Entry s.names t.names
  pub tags : Begins Tag s.tags t.tags
  pub objects : Begins Object s.objects t.objects
  pub structures : take n t.structures ≡ take n s.structures
  pub statics : t.statics ≡ s.statics
  pub static_cells : t.static_cells ≡ s.static_cells
  pub bodies : t.bodies ≡ s.bodies
  pub ready : IsReady n t

module _ (n : ℕ) where
  pub stays_refl : (s : Scope) → IsReady n s → Stays n s s
  stays_refl s r = record {
    names = begins_refl Entry s.names;
    tags = begins_refl Tag s.tags;
    objects = begins_refl Object s.objects;
    structures = refl;
    statics = refl;
    static_cells = refl;
    bodies = refl;
    ready = r;
  }

  pub stays_trans : (s t u : Scope) → Stays n s t → Stays n t u → Stays n s u
  stays_trans s t u g h = record {
    names = begins_trans Entry s.names t.names u.names g.names h.names;
    tags = begins_trans Tag s.tags t.tags u.tags g.tags h.tags;
    objects = begins_trans Object s.objects t.objects u.objects g.objects h.objects;
    structures = h.structures ∙ g.structures;
    statics = h.statics ∙ g.statics;
    static_cells = h.static_cells ∙ g.static_cells;
    bodies = h.bodies ∙ g.bodies;
    ready = h.ready;
  }

  stays_to : (s t u : Scope) → u ≡ t → Stays n s t → Stays n s u
  stays_to s t u e g = subst (λ v. Stays n s v) (sym e) g

  ready_name : (name : Name) (m : Meaning) (s : Scope) → IsReady n s → IsReady n (with_name name m s)
  ready_name name m s r = record { many = r.many; here = r.here }

  stays_name : (name : Name) (m : Meaning) (s : Scope) → IsReady n s → Stays n s (with_name name m s)
  stays_name name m s r = record {
    names = begins_with Entry s.names (record { name = name.text; meaning = m } ∷ []);
    tags = begins_refl Tag s.tags;
    objects = begins_refl Object s.objects;
    structures = refl;
    statics = refl;
    static_cells = refl;
    bodies = refl;
    ready = ready_name name m s r;
  }

  ready_tag : (name : Name) (m : TagMeaning) (s : Scope) → IsFrom n m → IsReady n s → IsReady n (with_tag name m s)
  ready_tag name m s f r =
      let one : Tag = record { name = name.text; meaning = m } in
      record { many = r.many; here = from_dropped n s.tags_from s.tags one r.here f }

  stays_tag : (name : Name) (m : TagMeaning) (s : Scope) → IsFrom n m → IsReady n s → Stays n s (with_tag name m s)
  stays_tag name m s f r = record {
    names = begins_refl Entry s.names;
    tags = begins_with Tag s.tags (record { name = name.text; meaning = m } ∷ []);
    objects = begins_refl Object s.objects;
    structures = refl;
    statics = refl;
    static_cells = refl;
    bodies = refl;
    ready = ready_tag name m s f r;
  }

  ready_structure : (x : Structure) (s : Scope) → IsReady n s → IsReady n (with_structure x s)
  ready_structure x s r =
      record { many = omega (arith, r.many, length-append s.structures (x ∷ [])); here = r.here }

  stays_structure : (x : Structure) (s : Scope) → IsReady n s → Stays n s (with_structure x s)
  stays_structure x s r = record {
    names = begins_refl Entry s.names;
    tags = begins_refl Tag s.tags;
    objects = begins_refl Object s.objects;
    structures = take_longer n s.structures (x ∷ []) r.many;
    statics = refl;
    static_cells = refl;
    bodies = refl;
    ready = ready_structure x s r;
  }

  ready_set : (k : ℕ) (x : Structure) (s : Scope) → IsReady n s → IsReady n (with_structure_at k x s)
  ready_set k x s r =
      record { many = omega (arith, r.many, set_length s.structures k x); here = r.here }

  stays_set : (s t : Scope) (k : ℕ) (x : Structure) → n ≤ k → Stays n s t → Stays n s (with_structure_at k x t)
  stays_set s t k x h g = record {
    names = g.names;
    tags = g.tags;
    objects = g.objects;
    structures = take_set n k t.structures x h ∙ g.structures;
    statics = g.statics;
    static_cells = g.static_cells;
    bodies = g.bodies;
    ready = ready_set k x t g.ready;
  }

  ready_object : (u : ObjectType) (s : Scope) → IsReady n s → IsReady n (with_object u s)
  ready_object u s r = record { many = r.many; here = r.here }

  stays_object : (u : ObjectType) (s : Scope) → IsReady n s → Stays n s (with_object u s)
  stays_object u s r = record {
    names = begins_refl Entry s.names;
    tags = begins_refl Tag s.tags;
    objects = begins_with Object s.objects _;
    structures = refl;
    statics = refl;
    static_cells = refl;
    bodies = refl;
    ready = ready_object u s r;
  }

  stays_counted : (u : Option ObjectType) (s : Scope) → IsReady n s → Stays n s (with_counted u s)
  stays_counted None s r = stays_refl s r
  stays_counted (Some u) s r = stays_object u s r

  ready_uncounted : (m : ℕ) (s : Scope) → IsReady n s → IsReady n (uncounted m s)
  ready_uncounted m s r = record { many = r.many; here = r.here }

  stays_uncounted : (m : ℕ) (s : Scope) → IsReady n s → Stays n s (uncounted m s)
  stays_uncounted m s r = record {
    names = begins_refl Entry s.names;
    tags = begins_refl Tag s.tags;
    objects = begins_refl Object s.objects;
    structures = refl;
    statics = refl;
    static_cells = refl;
    bodies = refl;
    ready = ready_uncounted m s r;
  }

  ready_array : (s : Scope) → IsReady n s → IsReady n (with_array s)
  ready_array s r = record { many = r.many; here = r.here }

  stays_array : (s : Scope) → IsReady n s → Stays n s (with_array s)
  stays_array s r = record {
    names = begins_refl Entry s.names;
    tags = begins_refl Tag s.tags;
    objects = begins_refl Object s.objects;
    structures = refl;
    statics = refl;
    static_cells = refl;
    bodies = refl;
    ready = ready_array s r;
  }

  -- ---- structures

  found_from : (q : List ℕ) (es : List Tag) (k : ℕ) → AreFrom n es → tagged q es ≡ Some (StructureTag k) → n ≤ k
  found_from q [] k h e = absurd (cc)
  found_from q (x ∷ es) k h e =
      by_rest (tagged q es) refl (bytes_eq x.name q) e (λ i. found_from q es k h.1 i)
    where
      here : (m : TagMeaning) → IsFrom n m → Some m ≡ Some (StructureTag k) → n ≤ k
      here m f i = let same : m ≡ StructureTag k = cc in subst (λ y. IsFrom n y) same f

      by_rest : (o : Option TagMeaning) → tagged q es ≡ o → (b : Bool)
          → later_or o (if b then Some x.meaning else None) ≡ Some (StructureTag k)
          → (tagged q es ≡ Some (StructureTag k) → n ≤ k) → n ≤ k
      by_rest (Some m) is b i below = below (is ∙ i)
      by_rest None is true i below = here x.meaning h.0 i
      by_rest None is false i below = absurd (cc)

  -- the scope of a list that begins
  pub record IsOpened (s : Scope) (x : Opened) : Type 0 where
    pub from : n ≤ x.number
    pub stays : Stays n s x.scope

  opened_new : (s t : Scope) (faults : List Fault) → Stays n s t
      → IsOpened s (record { faults = faults; number = length t.structures; scope = with_structure (Incomplete true) t })
  opened_new s t faults g = record {
    from = g.ready.many;
    stays = stays_trans s t _ g (stays_structure (Incomplete true) t g.ready);
  }

  with_new_tag : (tag : Name) (s : Scope) → IsReady n s → Stays n s (with_tag tag (StructureTag (length s.structures)) s)
  with_new_tag tag s r = stays_tag tag (StructureTag (length s.structures)) s r.many r

  again_opens : (tag : Name) (k : ℕ) (s : Scope) (x : Option Structure) → n ≤ k → IsReady n s
      → IsOpened s (opened_again tag k s x)
  again_opens tag k s (Some (Incomplete false)) h r =
      record { from = h; stays = stays_set s s k (Incomplete true) h (stays_refl s r) }
  again_opens tag k s (Some (Incomplete true)) h r = opened_new s _ _ (with_new_tag tag s r)
  again_opens tag k s (Some (Complete ms)) h r = opened_new s _ _ (with_new_tag tag s r)
  again_opens tag k s (Some Faulty) h r = opened_new s _ _ (with_new_tag tag s r)
  again_opens tag k s None h r = opened_new s _ _ (with_new_tag tag s r)

  tag_opens : (tag : Name) (s : Scope) (x : Option TagMeaning) → tag_here tag s ≡ x → IsReady n s
      → IsOpened s (opened_tag tag s x)
  tag_opens tag s None e r = opened_new s _ _ (with_new_tag tag s r)
  tag_opens tag s (Some (StructureTag k)) e r =
      again_opens tag k s (slice_get s.structures k)
      (found_from tag.text (drop s.tags_from s.tags) k r.here e) r
  tag_opens tag s (Some EnumerationTag) e r = opened_new s _ _ (with_new_tag tag s r)

  opens : (tag : Option Name) (s : Scope) → IsReady n s → IsOpened s (opened tag s)
  opens None s r = opened_new s s _ (stays_refl s r)
  opens (Some tag) s r = tag_opens tag s (tag_here tag s) refl r

  -- ---- the same, where the block is ready

  pub record Moves (s t : Scope) : Type 0 where
    pub move : IsReady n s → Stays n s t

  moves_refl : (s : Scope) → Moves s s
  moves_refl s = record { move = λ r. stays_refl s r }

  moves_trans : (s t u : Scope) → Moves s t → Moves t u → Moves s u
  moves_trans s t u g h = record { move = λ r. let a = g.move r in stays_trans s t u a (h.move a.ready) }

  moves_to : (s t u : Scope) → u ≡ t → Moves s t → Moves s u
  moves_to s t u e g = subst (λ v. Moves s v) (sym e) g

  moves_name : (name : Name) (m : Meaning) (s : Scope) → Moves s (with_name name m s)
  moves_name name m s = record { move = λ r. stays_name name m s r }

  moves_object : (u : ObjectType) (s : Scope) → Moves s (with_object u s)
  moves_object u s = record { move = λ r. stays_object u s r }

  moves_counted : (u : Option ObjectType) (s : Scope) → Moves s (with_counted u s)
  moves_counted u s = record { move = λ r. stays_counted u s r }

  moves_uncounted : (m : ℕ) (s : Scope) → Moves s (uncounted m s)
  moves_uncounted m s = record { move = λ r. stays_uncounted m s r }

  moves_array : (s : Scope) → Moves s (with_array s)
  moves_array s = record { move = λ r. stays_array s r }

  -- ---- scopes of nodes

  moves_call : (v : Option Value) (count : ℕ) (s : Scope) → Moves s (after_call v count s)
  moves_call None count s = moves_uncounted count s
  moves_call (Some (Number e)) count s = moves_refl s
  moves_call (Some (Stored place u)) count s = moves_refl s
  moves_call (Some (Borrowed array u span)) count s = moves_refl s
  moves_call (Some (Returned c k)) count s = moves_object _ s
  moves_call (Some (Done effect)) count s = moves_refl s
  moves_call (Some (Assigned effect)) count s = moves_refl s
  moves_call (Some Designator) count s = moves_refl s

  assigned_scope : (operator : AssignmentOperator) (span : Span) (x y : Found)
      → (assignment_found operator span x y).scope ≡ y.scope
  assigned_scope assign.Assign span x y = refl
  assigned_scope assign.Multiply span x y = refl
  assigned_scope assign.Divide span x y = refl
  assigned_scope assign.Remainder span x y = refl
  assigned_scope assign.Add span x y = refl
  assigned_scope assign.Subtract span x y = refl
  assigned_scope assign.ShiftLeft span x y = refl
  assigned_scope assign.ShiftRight span x y = refl
  assigned_scope assign.BitAnd span x y = refl
  assigned_scope assign.BitXor span x y = refl
  assigned_scope assign.BitOr span x y = refl

  stepped_scope : (operator : StepOperator) (at span : Span) (x : Found)
      → (step_found operator at span x).scope ≡ x.scope
  stepped_scope step.Increment at span x = refl
  stepped_scope step.Decrement at span x = refl

  moves_typedef : (name : Name) (s : Scope) (m : Option Meaning) → Moves s (typedef_type name s m).scope
  moves_typedef name s None = moves_refl s
  moves_typedef name s (Some (scope.Automatic slot u)) = moves_refl s
  moves_typedef name s (Some (scope.Stored slot u)) = moves_refl s
  moves_typedef name s (Some (scope.Borrowed array u)) = moves_refl s
  moves_typedef name s (Some (scope.Constant v)) = moves_refl s
  moves_typedef name s (Some (scope.Function f b)) = moves_refl s
  moves_typedef name s (Some (scope.Typedef u)) = moves_refl s

  moves_tag_use : (alone : Bool) (tag : Name) (span : Span) (s : Scope)
      → Moves s (structure_tag alone tag span s).scope
  moves_tag_use true tag span s = by_tag (tag_here tag s)
    where
      by_tag : (m : Option TagMeaning) → Moves s (declared_tag tag s m).scope
      by_tag None =
          let t = with_structure (Incomplete false) s in
          record {
            move = λ r. stays_trans s t _ (stays_structure (Incomplete false) s r)
                (stays_tag tag (StructureTag (length s.structures)) t r.many (ready_structure (Incomplete false) s r));
          }
      by_tag (Some (StructureTag k)) = moves_refl s
      by_tag (Some EnumerationTag) = moves_refl s
  moves_tag_use false tag span s = by_tag (tag_of tag s)
    where
      by_tag : (m : Option TagMeaning) → Moves s (used_structure_tag tag span s m).scope
      by_tag None = moves_refl s
      by_tag (Some (StructureTag k)) = moves_refl s
      by_tag (Some EnumerationTag) = moves_refl s

  moves_enumeration_use : (tag : Name) (span : Span) (s : Scope) (m : Option TagMeaning)
      → Moves s (used_enumeration_tag tag span s m).scope
  moves_enumeration_use tag span s None = moves_refl s
  moves_enumeration_use tag span s (Some (StructureTag k)) = moves_refl s
  moves_enumeration_use tag span s (Some EnumerationTag) = moves_refl s

  moves_enumeration : (tag : Option Name) (s : Scope) → Moves s (enumeration_scope tag s)
  moves_enumeration None s = moves_refl s
  moves_enumeration (Some tag) s = record { move = λ r. stays_tag tag EnumerationTag s tt r }

  mutual
    pub grows : (e : Expression) (s : Scope) → Moves s (judge e s).scope
    grows (tree.Named name) s = moves_refl s
    grows (tree.Constant v decimal unsigned longs span) s = moves_refl s
    grows (tree.Character v span) s = moves_refl s
    grows (tree.Parenthesized inner span) s = grows inner s
    grows (tree.Call name given span) s =
        let ps = parameters_of (meaning_of name s) in
        moves_trans s (judge_arguments given ps s).scope _ (arguments_grow given ps s)
        (moves_call _ _ (judge_arguments given ps s).scope)
    grows (tree.Index a b span) s =
        moves_trans s (judge a s).scope _ (grows a s) (grows b (judge a s).scope)
    grows (tree.Member a name span) s = grows a s
    grows (tree.PostfixStep operator a span) s =
        moves_to s (judge a s).scope _ (stepped_scope operator (operator_after span) span (judge a s))
        (grows a s)
    grows (tree.PrefixStep operator a span) s =
        moves_to s (judge a s).scope _ (stepped_scope operator (operator_before span) span (judge a s))
        (grows a s)
    grows (tree.Unary operator a span) s = grows a s
    grows (tree.Cast type a span) s =
        moves_trans s (judge_type type s).scope _ (type_grows type s) (grows a (judge_type type s).scope)
    grows (tree.Binary operator a b span) s =
        moves_trans s (judge a s).scope _ (grows a s) (grows b (judge a s).scope)
    grows (tree.Conditional a b c span) s =
        let x = judge a s in
        let y = judge b x.scope in
        moves_trans s x.scope _ (grows a s)
        (moves_trans x.scope y.scope _ (grows b x.scope) (grows c y.scope))
    grows (tree.Assignment operator a b span) s =
        let x = judge a s in
        let y = judge b x.scope in
        moves_to s y.scope _ (assigned_scope operator span x y)
        (moves_trans s x.scope y.scope (grows a s) (grows b x.scope))
    grows (tree.Comma operands span) s = arguments_grow operands [] s

    pub arguments_grow : (es : Expressions) (ps : List ParameterKind) (s : Scope)
        → Moves s (judge_arguments es ps s).scope
    arguments_grow tree.no_expressions ps s = moves_refl s
    arguments_grow (tree.expressions e rest) ps s =
        let x = argument_judged (span_of e).start (first_of ps) (judge e s) in
        moves_trans s x.scope _
        (moves_trans s (judge e s).scope x.scope (grows e s) (moves_counted _ (judge e s).scope))
        (arguments_grow rest (rest_of ps) x.scope)

    pub type_grows : (type : TypeName) (s : Scope) → Moves s (judge_type type s).scope
    type_grows (tree.type_name all stars span) s = specifiers_grow false all s

    pub specifier_grows : (alone : Bool) (one : Specifier) (s : Scope)
        → Moves s (judge_specifier alone one s).scope
    specifier_grows alone (tree.Word word span) s = moves_refl s
    specifier_grows alone (tree.TypedefName name) s = moves_typedef name s (meaning_of name s)
    specifier_grows alone (tree.StructureTag tag span) s = moves_tag_use alone tag span s
    specifier_grows alone (tree.Structure tag all span) s =
        let x = opened tag s in
        let y = judge_members all [] x.scope in
        record {
          move = λ r.
              let o = opens tag s r in
              let m = members_grow all [] x.scope in
              stays_set s y.scope x.number _ o.from (stays_trans s x.scope y.scope o.stays (m.move o.stays.ready));
        }
    specifier_grows alone (tree.EnumerationTag tag span) s =
        moves_enumeration_use tag span s (tag_of tag s)
    specifier_grows alone (tree.Enumeration tag all span) s =
        moves_trans s (enumeration_scope tag s) _ (moves_enumeration tag s)
        (enumerators_grow all (Some (pos 0)) (enumeration_scope tag s))

    pub specifiers_grow : (alone : Bool) (all : Specifiers) (s : Scope)
        → Moves s (judge_specifiers alone all s).scope
    specifiers_grow alone tree.no_specifiers s = moves_refl s
    specifiers_grow alone (tree.specifiers one rest) s =
        let x = judge_specifier alone one s in
        moves_trans s x.scope _ (specifier_grows alone one s) (specifiers_grow alone rest x.scope)

    pub member_grows : (m : StructMember) (members : List Member) (s : Scope)
        → Moves s (judge_member m members s).scope
    member_grows (tree.member all ds span) members s =
        let t = (judge_specifiers false all s).scope in
        moves_trans s t _ (specifiers_grow false all s) (declarators_grow _ ds members t)

    pub members_grow : (all : Members) (members : List Member) (s : Scope)
        → Moves s (judge_members all members s).scope
    members_grow tree.no_members members s = moves_refl s
    members_grow (tree.members m rest) members s =
        let x = judge_member m members s in
        moves_trans s x.scope _ (member_grows m members s) (members_grow rest x.items x.scope)

    pub enumerator_grows : (one : Enumerator) (v : Option ℤ) (s : Scope)
        → Moves s (judge_enumerator one v s).scope
    enumerator_grows (tree.enumerator name) v s = moves_name name _ s
    enumerator_grows (tree.valued_enumerator name e) v s =
        moves_trans s (judge e s).scope _ (grows e s) (moves_name name _ (judge e s).scope)

    pub enumerators_grow : (all : Enumerators) (v : Option ℤ) (s : Scope)
        → Moves s (judge_enumerators all v s).scope
    enumerators_grow tree.no_enumerators v s = moves_refl s
    enumerators_grow (tree.enumerators one rest) v s =
        let x = judge_enumerator one v s in
        moves_trans s x.scope _ (enumerator_grows one v s) (enumerators_grow rest x.value x.scope)

    pub declarator_grows : (base : Option CType) (d : Declarator) (members : List Member) (s : Scope)
        → Moves s (judge_declarator base d members s).scope
    declarator_grows base (tree.object stars name lengths span) members s = lengths_grow lengths s
    declarator_grows base (tree.function stars name all span) members s = moves_refl s

    pub declarators_grow : (base : Option CType) (ds : Declarators) (members : List Member) (s : Scope)
        → Moves s (judge_declarators base ds members s).scope
    declarators_grow base tree.no_declarators members s = moves_refl s
    declarators_grow base (tree.declarators d rest) members s =
        let x = judge_declarator base d members s in
        moves_trans s x.scope _ (declarator_grows base d members s)
        (declarators_grow base rest x.items x.scope)

    pub lengths_grow : (lengths : ArrayLengths) (s : Scope) → Moves s (judge_lengths lengths s).scope
    lengths_grow tree.no_lengths s = moves_refl s
    lengths_grow (tree.absent_length rest) s = lengths_grow rest s
    lengths_grow (tree.given_length e rest) s =
        moves_trans s (judge e s).scope _ (grows e s) (lengths_grow rest (judge e s).scope)

  -- ---- parameters

  moves_parameter_name : (name : Option Name) (m : Meaning) (s : Scope) → Moves s (with_parameter_name name m s)
  moves_parameter_name None m s = moves_refl s
  moves_parameter_name (Some name) m s = moves_name name m s

  moves_parameter_object : (u : Option CType) (kind : Option ParameterKind) (s : Scope) → Moves s (with_parameter u kind s)
  moves_parameter_object (Some u) (Some (ByValue b)) s = moves_object _ s
  moves_parameter_object None (Some (ByValue b)) s = moves_refl s
  moves_parameter_object (Some u) (Some (ByArray element)) s = moves_array s
  moves_parameter_object None (Some (ByArray element)) s = moves_array s
  moves_parameter_object (Some u) None s = moves_refl s
  moves_parameter_object None None s = moves_refl s

  moves_declared : (name : Option Name) (u : Option CType) (kind : Option ParameterKind) (s : Scope)
      → Moves s (declared_parameter name u kind s)
  moves_declared name u kind s =
      let t = with_parameter_name name (parameter_meaning u kind s) s in
      moves_trans s t _ (moves_parameter_name name (parameter_meaning u kind s) s) (moves_parameter_object u kind t)

  moves_uncalled : (s t : Scope) → Moves s t → Moves s (with_objects_of s t)
  moves_uncalled s t g = record {
    move = λ r.
        let a = g.move r in record {
          names = a.names;
          tags = a.tags;
          objects = begins_refl Object s.objects;
          structures = a.structures;
          statics = a.statics;
          static_cells = a.static_cells;
          bodies = a.bodies;
          ready = record { many = a.ready.many; here = a.ready.here };
        };
  }

  parameter_grows : (p : Parameter) (s : Scope) → Moves s (judge_parameter p s).scope
  parameter_grows (tree.parameter all stars name lengths span) s =
      let t = (judge_specifiers false all s).scope in
      let u = with_objects_of s (judge_lengths lengths t).scope in
      moves_trans s u _
      (moves_uncalled s (judge_lengths lengths t).scope
      (moves_trans s t _ (specifiers_grow false all s) (lengths_grow lengths t)))
      (moves_declared _ _ _ u)

  parameter_list_grows : (ps : ParameterList) (s : Scope) → Moves s (judge_parameter_list ps s).scope
  parameter_list_grows tree.no_parameters s = moves_refl s
  parameter_list_grows (tree.parameters p rest) s =
      let t = (judge_parameter p s).scope in
      moves_trans s t _ (parameter_grows p s) (parameter_list_grows rest t)

  pub parameters_grow : (ps : Parameters) (s : Scope) → Moves s (judge_parameters ps s).scope
  parameters_grow (tree.Empty span) s = moves_refl s
  parameters_grow (tree.Void span) s = moves_refl s
  parameters_grow (tree.Listed all span) s = parameter_list_grows all s

-- ---- scopes after parameters

prototype_ready : (s : Scope) → IsReady (length s.structures) (prototype s)
prototype_ready s = record {
  many = omega arith;
  here = subst (λ es. AreFrom (length s.structures) es) (sym (drop_all s.tags)) tt;
}
  where
    drop_all : (es : List Tag) → drop (length es) es ≡ []
    drop_all [] = refl
    drop_all (e ∷ es) = drop_all es

pub parameters_stay : (ps : Parameters) (s : Scope) → Stays (length s.structures) (prototype s) (judge_parameters ps (prototype s)).scope
parameters_stay ps s = let m = parameters_grow (length s.structures) ps (prototype s) in m.move (prototype_ready s)

-- In any scope the names, the tags and the objects from before stay.
all_from : (es : List Tag) → AreFrom 0 es
all_from [] = tt
all_from (e ∷ es) = (by_meaning e.meaning, all_from es)
  where
    by_meaning : (m : TagMeaning) → IsFrom 0 m
    by_meaning (StructureTag k) = omega arith
    by_meaning EnumerationTag = tt

pub ready_any : (s : Scope) → IsReady 0 s
ready_any s = record { many = omega arith; here = all_from (drop s.tags_from s.tags) }

take_whole : {A : Type 0} (xs : List A) → take (length xs) xs ≡ xs
take_whole [] = refl
take_whole (x ∷ xs) = ap (λ l. x ∷ l) (take_whole xs)

same_scope : (s t : Scope) → take (length s.names) t.names ≡ s.names → take (length s.tags) t.tags ≡ s.tags
    → take (length s.structures) t.structures ≡ s.structures → t.statics ≡ s.statics → t.static_cells ≡ s.static_cells
    → t.bodies ≡ s.bodies → prototype_left_by (around_prototype s) t ≡ s
same_scope s t a b c d e f = rw (a, b, c, d, e, f) refl

-- After the parameters of a declarator that is no definition's, the scope is that of before.
pub prototype_left : (ps : Parameters) (s : Scope)
    → prototype_left_by (around_prototype s) (judge_parameters ps (prototype s)).scope ≡ s
prototype_left ps s =
    let t = (judge_parameters ps (prototype s)).scope in
    let g = parameters_stay ps s in
    same_scope s t (cut_back Entry s.names t.names g.names) (cut_back Tag s.tags t.tags g.tags)
    (g.structures ∙ take_whole s.structures) g.statics g.static_cells g.bodies

-- After the parameters of a definition the names from before are there.
pub names_before : (ps : Parameters) (s : Scope)
    → take (length s.names) (judge_parameters ps (prototype s)).scope.names ≡ s.names
names_before ps s = let g = parameters_stay ps s in cut_back Entry s.names _ g.names

-- The calls in the specifiers and the lengths of a parameter add no objects.
pub uncalled_cut : (all : Specifiers) (lengths : ArrayLengths) (s : Scope)
    → cut_to (counted s) (judge_lengths lengths (judge_specifiers false all s).scope).scope
    ≡ with_objects_of s (judge_lengths lengths (judge_specifiers false all s).scope).scope
uncalled_cut all lengths s =
    let t = (judge_specifiers false all s).scope in
    let u = (judge_lengths lengths t).scope in
    let g = specifiers_grow 0 false all s in
    let a = g.move (ready_any s) in
    let h = lengths_grow 0 lengths t in
    let b = h.move a.ready in
    ap (λ (os : List Object). record u { objects = os; frame = s.frame })
    (cut_back Object s.objects u.objects (begins_trans Object s.objects t.objects u.objects a.objects b.objects))
