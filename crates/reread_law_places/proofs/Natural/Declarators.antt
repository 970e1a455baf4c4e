-- What is found of tags, enumerators, members, declarators and parameters, at other places.
use Rattle.std.proofs.Common.{◌≡◌, ℕ, ◌+◌, ℤ, pos, ◌+ℤ◌, Bool, true, false, not, ◌&&◌, ◌||◌, List, [], ◌∷◌, ◌++◌, slice_get, is_none, is_some, Option, Some, None, option_map, option_and_then, refl, sym, ap, subst, ◌∙◌}
use Rattle.mc_span.specs.declared.span.Span.{Span}
use Rattle.mc_tree.specs.Tree.{Name, ArrayLengths, Specifiers}
use Rattle.types_faults.specs.declared.fault.Fault.{Fault}
use Rattle.types_faults.specs.declared.fault.FaultKind.TheVariants.{Undeclared, Redeclared, Mismatch, Limit}
use Rattle.types_faults.specs.Faults.{unless_faulty}
use Rattle.types_rules.specs.Types.{CType, Tagged, plain, int, Member, Structure, Incomplete, is_complete, ParameterKind, ByValue, ByArray, type_of_specifiers}
use Rattle.types_rules.specs.Scopes.{Meaning, Constant, Typedef, TagMeaning, StructureTag, EnumerationTag, Scope, meaning_of, meaning_here, tag_of, tag_here, is_external, with_name, with_structure_at, with_objects_of}
use Rattle.types_rules.specs.Values.{Judged, judged, Found, lift2}
use Rattle.types_rules.specs.Limits.{object_limit_faults, member_limit_faults, is_too_large}
use Rattle.types_rules.specs.Declarators.{Listed, after_faults, redeclared_faults, misnamed_faults, name_start, typedef_type, declared_tag, used_structure_tag, structure_tag, used_enumeration_tag, Opened, opened_again, opened_tag, opened, completed, structure_judged, enumeration_scope, enumeration_faults, enumeration_judged, fits_int, in_int, enumerator_judged, valued_enumerator_judged, length_of, is_no_length, lengths_judged, declared_type, absent_faults, incomplete_faults, has_member, cells_of_members, declared_member_faults, with_member, member_listed, function_member_listed, parameter_kind, parameter_limit_faults, parameter_name_faults, parameter_faults, declared_parameter, parameter_listed}
use Rattle.types_rules.specs.Declarators as d
use Rattle.types_rules.specs.Judgement.{typed_by, one_of, specifiers_judged, after, uncalled}
use Rattle.reread_law_texts.specs.alike.Moves.{Move, moved_span}
use Rattle.reread_law_texts.specs.alike.Trees.{moved_name, moved_tag, moved_specifiers, moved_lengths}
use Rattle.reread_law_places.specs.natural.Moved.{moved_faults}
use Rattle.reread_law_places.proofs.Natural.Basics.{Shifts, both, none, one, one_if, unless_same, same2, same3, Goes, Same, Lists}
use Rattle.reread_law_places.proofs.Natural.Values.{Follows, constant_same, constant_found_faults}
use Rattle.reread_law_places.proofs.Natural.Words.{has_type_kept, type_of_kept, later_absent_kept, absences_kept, declared_kept}

-- ---- faults

pub redeclared_go : (m : Move) (name : Name) {s u : Scope} → s ≡ u → Shifts m (redeclared_faults (moved_name m name) s) (redeclared_faults name u)
redeclared_go m name h = one_if m Redeclared name.span.start (ap (λ (s : Scope). is_some (meaning_here name s)) h)

pub misnamed_go : (m : Move) (name : Name) {s u : Scope} → s ≡ u → Shifts m (misnamed_faults (moved_name m name) s) (misnamed_faults name u)
misnamed_go m name h = one_if m Mismatch name.span.start (ap (λ (s : Scope). s.is_file && is_external name) h)

pub absent_go : (m : Move) (lengths : ArrayLengths) (count : Option ℕ) (at : ℕ) → Shifts m (absent_faults (moved_lengths m lengths) count (m.start at)) (absent_faults lengths count at)
absent_go m lengths count at = one_if m Mismatch at (absences_kept m lengths (λ a b. a || (b && is_none count)))

pub incomplete_go : (m : Move) (u : Option CType) (at : ℕ) {a b : List Structure} → a ≡ b → Shifts m (incomplete_faults a u (m.start at)) (incomplete_faults b u at)
incomplete_go m None at h = none
incomplete_go m (Some u) at h = one_if m Mismatch at (ap (λ (all : List Structure). not (is_complete all u.base)) h)

pub object_limit_go : (m : Move) (u : Option CType) (at : ℕ) {a b : List Structure} → a ≡ b → Shifts m (object_limit_faults a u (m.start at)) (object_limit_faults b u at)
object_limit_go m None at h = none
object_limit_go m (Some u) at h = one_if m Limit at (ap (λ (all : List Structure). is_complete all u.base && is_too_large all u) h)

member_limit_go : (m : Move) (before : ℕ) (all : List Structure) (u : Option CType) (at : ℕ) → Shifts m (member_limit_faults before all u (m.start at)) (member_limit_faults before all u at)
member_limit_go m before all None at = none
member_limit_go m before all (Some u) at = one_if m Limit at refl

-- ---- specifiers

pub typed_goes : (m : Move) (at : ℕ) (all : Specifiers) {x y : Judged CType} → Goes m Same x y → Goes m Same (typed_by (m.start at) (moved_specifiers m all) x) (typed_by at all y)
typed_goes m at all {x = x} {y = y} h = record {
  faults = both h.faults (one_if m Mismatch at (ap not (has_type_kept m all)));
  value = type_of_kept m all x.value ∙ ap (type_of_specifiers all) h.value;
  scope = h.scope;
}

pub specifiers_goes : (m : Move) {x y v w : Judged CType} → Goes m Same x v → Goes m Same y w → Goes m Same (specifiers_judged x y) (specifiers_judged v w)
specifiers_goes m h k = record {
  faults = both h.faults (both k.faults none);
  value = same2 one_of h.value k.value;
  scope = k.scope;
}

pub after_goes : {A : Type 0} (m : Move) (R : Option A → Option A → Type 0) {fs gs : List Fault} {x y : Judged A} → Shifts m fs gs → Goes m R x y → Goes m R (after fs x) (after gs y)
after_goes m R h k = record { faults = both h k.faults; value = k.value; scope = k.scope }

pub after_lists : {A : Type 0} (m : Move) {fs gs : List Fault} {x y : Listed A} → Shifts m fs gs → Lists m x y → Lists m (after_faults fs x) (after_faults gs y)
after_lists m h k = record { faults = both h k.faults; items = k.items; scope = k.scope }

pub uncalled_goes : {A : Type 0} (m : Move) (R : Option A → Option A → Type 0) {s u : Scope} {x y : Judged A} → s ≡ u → Goes m R x y → Goes m R (uncalled s x) (uncalled u y)
uncalled_goes m R h k = record { faults = k.faults; value = k.value; scope = same2 with_objects_of h k.scope }

-- ---- typedef names and tags

typedef_at : (m : Move) (name : Name) (s : Scope) (o : Option Meaning) → Goes m Same (typedef_type (moved_name m name) s o) (typedef_type name s o)
typedef_at m name s (Some (Typedef u)) = record { faults = none; value = refl; scope = refl }
typedef_at m name s o = record { faults = one m Undeclared name.span.start; value = refl; scope = refl }

pub typedef_goes : (m : Move) (name : Name) {s u : Scope} → s ≡ u → Goes m Same (typedef_type (moved_name m name) s (meaning_of name s)) (typedef_type name u (meaning_of name u))
typedef_goes m name {s = s} {u = u} h =
    subst (λ x. Goes m Same (typedef_type (moved_name m name) x (meaning_of name x)) (typedef_type name u (meaning_of name u))) (sym h) (typedef_at m name u (meaning_of name u))

declared_tag_at : (m : Move) (tag : Name) (s : Scope) (o : Option TagMeaning) → Goes m Same (declared_tag (moved_name m tag) s o) (declared_tag tag s o)
declared_tag_at m tag s None = record { faults = none; value = refl; scope = refl }
declared_tag_at m tag s (Some (StructureTag k)) = record { faults = none; value = refl; scope = refl }
declared_tag_at m tag s (Some EnumerationTag) = record { faults = one m Redeclared tag.span.start; value = refl; scope = refl }

used_tag_at : (m : Move) (tag : Name) (span : Span) (s : Scope) (o : Option TagMeaning) → Goes m Same (used_structure_tag (moved_name m tag) (moved_span m span) s o) (used_structure_tag tag span s o)
used_tag_at m tag span s None = record { faults = one m Undeclared tag.span.start; value = refl; scope = refl }
used_tag_at m tag span s (Some (StructureTag k)) = record { faults = none; value = refl; scope = refl }
used_tag_at m tag span s (Some EnumerationTag) = record { faults = one m Mismatch span.start; value = refl; scope = refl }

structure_tag_at : (m : Move) (alone : Bool) (tag : Name) (span : Span) (s : Scope) → Goes m Same (structure_tag alone (moved_name m tag) (moved_span m span) s) (structure_tag alone tag span s)
structure_tag_at m true tag span s = declared_tag_at m tag s (tag_here tag s)
structure_tag_at m false tag span s = used_tag_at m tag span s (tag_of tag s)

pub structure_tag_goes : (m : Move) (alone : Bool) (tag : Name) (span : Span) {s u : Scope} → s ≡ u → Goes m Same (structure_tag alone (moved_name m tag) (moved_span m span) s) (structure_tag alone tag span u)
structure_tag_goes m alone tag span {s = s} {u = u} h =
    subst (λ x. Goes m Same (structure_tag alone (moved_name m tag) (moved_span m span) x) (structure_tag alone tag span u)) (sym h) (structure_tag_at m alone tag span u)

enumeration_tag_at : (m : Move) (tag : Name) (span : Span) (s : Scope) (o : Option TagMeaning) → Goes m Same (used_enumeration_tag (moved_name m tag) (moved_span m span) s o) (used_enumeration_tag tag span s o)
enumeration_tag_at m tag span s None = record { faults = one m Undeclared tag.span.start; value = refl; scope = refl }
enumeration_tag_at m tag span s (Some EnumerationTag) = record { faults = none; value = refl; scope = refl }
enumeration_tag_at m tag span s (Some (StructureTag k)) = record { faults = one m Mismatch span.start; value = refl; scope = refl }

pub enumeration_tag_goes : (m : Move) (tag : Name) (span : Span) {s u : Scope} → s ≡ u → Goes m Same (used_enumeration_tag (moved_name m tag) (moved_span m span) s (tag_of tag s)) (used_enumeration_tag tag span u (tag_of tag u))
enumeration_tag_goes m tag span {s = s} {u = u} h =
    subst (λ x. Goes m Same (used_enumeration_tag (moved_name m tag) (moved_span m span) x (tag_of tag x)) (used_enumeration_tag tag span u (tag_of tag u))) (sym h) (enumeration_tag_at m tag span u (tag_of tag u))

-- ---- structures with a list

pub record Opens (m : Move) (x y : Opened) : Type 0 where
  pub faults : Shifts m x.faults y.faults
  pub number : x.number ≡ y.number
  pub scope : x.scope ≡ y.scope

opened_again_at : (m : Move) (tag : Name) (k : ℕ) (s : Scope) (o : Option Structure) → Opens m (opened_again (moved_name m tag) k s o) (opened_again tag k s o)
opened_again_at m tag k s (Some (Incomplete false)) = record { faults = none; number = refl; scope = refl }
opened_again_at m tag k s (Some (Incomplete true)) = record { faults = one m Redeclared tag.span.start; number = refl; scope = refl }
opened_again_at m tag k s o = record { faults = one m Redeclared tag.span.start; number = refl; scope = refl }

opened_tag_at : (m : Move) (tag : Name) (s : Scope) (o : Option TagMeaning) → Opens m (opened_tag (moved_name m tag) s o) (opened_tag tag s o)
opened_tag_at m tag s None = record { faults = none; number = refl; scope = refl }
opened_tag_at m tag s (Some (StructureTag k)) = opened_again_at m tag k s (slice_get s.structures k)
opened_tag_at m tag s (Some EnumerationTag) = record { faults = one m Redeclared tag.span.start; number = refl; scope = refl }

opened_at : (m : Move) (tag : Option Name) (s : Scope) → Opens m (opened (moved_tag m tag) s) (opened tag s)
opened_at m None s = record { faults = none; number = refl; scope = refl }
opened_at m (Some tag) s = opened_tag_at m tag s (tag_here tag s)

pub opened_goes : (m : Move) (tag : Option Name) {s u : Scope} → s ≡ u → Opens m (opened (moved_tag m tag) s) (opened tag u)
opened_goes m tag {s = s} {u = u} h = subst (λ x. Opens m (opened (moved_tag m tag) x) (opened tag u)) (sym h) (opened_at m tag u)

completed_moved : (m : Move) (fs : List Fault) (ms : List Member) → completed (moved_faults m fs) ms ≡ completed fs ms
completed_moved m [] ms = refl
completed_moved m (f ∷ fs) ms = refl

completed_same : {m : Move} {fs gs : List Fault} {ms ns : List Member} → Shifts m fs gs → ms ≡ ns → completed fs ms ≡ completed gs ns
completed_same {m = m} {gs = gs} {ns = ns} h k = same2 completed h.is k ∙ completed_moved m gs ns

pub structure_goes : (m : Move) {x v : Opened} {y w : Listed Member} → Opens m x v → Lists m y w → Goes m Same (structure_judged x y) (structure_judged v w)
structure_goes m {x = x} {v = v} {y = y} {w = w} h k =
    let own = both h.faults k.faults in
    record {
      faults = own;
      value = unless_same (Some (plain (Tagged x.number))) own ∙ ap (λ n. unless_faulty (v.faults ++ w.faults) (Some (plain (Tagged n)))) h.number;
      scope = same3 with_structure_at h.number (completed_same own k.items) k.scope;
    }

-- ---- enumerations

enumeration_scope_at : (m : Move) (tag : Option Name) (s : Scope) → enumeration_scope (moved_tag m tag) s ≡ enumeration_scope tag s
enumeration_scope_at m None s = refl
enumeration_scope_at m (Some tag) s = refl

pub enumeration_scope_same : (m : Move) (tag : Option Name) {s u : Scope} → s ≡ u → enumeration_scope (moved_tag m tag) s ≡ enumeration_scope tag u
enumeration_scope_same m tag {s = s} h = enumeration_scope_at m tag s ∙ ap (enumeration_scope tag) h

pub enumeration_faults_go : (m : Move) (tag : Option Name) {s u : Scope} → s ≡ u → Shifts m (enumeration_faults (moved_tag m tag) s) (enumeration_faults tag u)
enumeration_faults_go m None h = none
enumeration_faults_go m (Some tag) h = one_if m Redeclared tag.span.start (ap (λ (s : Scope). is_some (tag_here tag s)) h)

pub enumeration_goes : (m : Move) {fs gs : List Fault} {x y : Judged ℤ} → Shifts m fs gs → Goes m Same x y → Goes m Same (enumeration_judged fs x) (enumeration_judged gs y)
enumeration_goes m h k =
    let own = both h k.faults in
    record { faults = own; value = unless_same (Some int) own; scope = k.scope }

pub enumerator_goes : (m : Move) (name : Name) {v w : Option ℤ} {s u : Scope} → v ≡ w → s ≡ u → Goes m Same (enumerator_judged (moved_name m name) v s) (enumerator_judged name w u)
enumerator_goes m name h k = record {
  faults = both (redeclared_go m name k) (both (misnamed_go m name k) (one_if m Mismatch name.span.start (ap (λ (v : Option ℤ). not (fits_int v)) h)));
  value = ap (λ v. option_map (λ n. n +ℤ pos 1) (in_int v)) h;
  scope = same2 (λ v s. with_name name (Constant (in_int v)) s) h k;
}

pub valued_enumerator_goes : (m : Move) (name : Name) (at : ℕ) {x y : Found} → Follows m x y → Goes m Same (valued_enumerator_judged (moved_name m name) (m.start at) x) (valued_enumerator_judged name at y)
valued_enumerator_goes m name at h =
    let one = enumerator_goes m name (constant_same h) h.scope in
    record { faults = both h.faults (both one.faults (constant_found_faults at h)); value = one.value; scope = one.scope }

-- ---- lengths of arrays

pub lengths_goes : (m : Move) (at : ℕ) {x v : Found} {y w : Judged (List ℕ)} → Follows m x v → Goes m Same y w → Goes m Same (lengths_judged (m.start at) x y) (lengths_judged at v w)
lengths_goes m at h k = record {
  faults = both h.faults (both k.faults (both (constant_found_faults at h) (one_if m Mismatch at (ap is_no_length (constant_same h)))));
  value = same2 (λ n ns. lift2 (λ n ns. n ∷ ns) (option_and_then length_of n) ns) (constant_same h) k.value;
  scope = k.scope;
}

-- ---- members

pub declared_type_same : (m : Move) (lengths : ArrayLengths) (n : Option ℕ) (base : Option CType) {a b : Option (List ℕ)} → a ≡ b → declared_type (moved_lengths m lengths) a n base ≡ declared_type lengths b n base
declared_type_same m lengths n base {a = a} h = declared_kept m lengths a n base ∙ ap (λ given. declared_type lengths given n base) h

member_faults_go : (m : Move) (name : Name) (lengths : ArrayLengths) (base : Option CType) (members : List Member) {u v : Option CType} {a b : List Structure} → u ≡ v → a ≡ b
    → Shifts m (declared_member_faults (moved_name m name) (moved_lengths m lengths) base u members a) (declared_member_faults name lengths base v members b)
member_faults_go m name lengths base members {v = v} {b = b} e h =
    let at = name.span.start in
    rw (e, h) (both (one_if m Redeclared at (refl {a = has_member name.text members})) (both (absent_go m lengths None at) (both (incomplete_go m base at (refl {a = b}))
    (both (member_limit_go m (cells_of_members members) b v at) (one_if m Limit at refl)))))

pub member_lists : (m : Move) (base : Option CType) (name : Name) (lengths : ArrayLengths) (members : List Member) {x y : Judged (List ℕ)} → Goes m Same x y
    → Lists m (member_listed base (moved_name m name) (moved_lengths m lengths) members x) (member_listed base name lengths members y)
member_lists m base name lengths members {x = x} {y = y} h =
    let v = declared_type (moved_lengths m lengths) x.value None base in
    let type = declared_type_same m lengths None base h.value in
    let own = both h.faults (member_faults_go m name lengths base members type (ap (λ (s : Scope). s.structures) h.scope)) in
    let all = y.faults ++ declared_member_faults name lengths base (declared_type lengths y.value None base) members y.scope.structures in
    record {
      faults = own;
      items = same2 (λ u s. with_member name u members s.structures) (unless_same v own ∙ ap (unless_faulty all) type) h.scope;
      scope = h.scope;
    }

pub function_member_lists : {A : Type 0} (m : Move) (name : Name) (members : List Member) {x y : Listed A} {s u : Scope} → Lists m x y → s ≡ u
    → Lists m (function_member_listed (moved_name m name) members x s) (function_member_listed name members y u)
function_member_lists m name members h k = record {
  faults = both h.faults (both (one_if m Redeclared name.span.start (refl {a = has_member name.text members})) (one m Mismatch name.span.start));
  items = ap (λ s. with_member name None members s.structures) k;
  scope = k;
}

-- ---- parameters

pub name_start_kept : (m : Move) (name : Option Name) (span : Span) → name_start (moved_tag m name) (moved_span m span) ≡ m.start (name_start name span)
name_start_kept m None span = refl
name_start_kept m (Some name) span = refl

parameter_limit_go : (m : Move) (kind : Option ParameterKind) (at : ℕ) (all : List Structure) → Shifts m (parameter_limit_faults all kind (m.start at)) (parameter_limit_faults all kind at)
parameter_limit_go m (Some (ByArray u)) at all = object_limit_go m (Some u) at refl
parameter_limit_go m (Some (ByValue b)) at all = none
parameter_limit_go m None at all = none

parameter_name_go : (m : Move) (name : Option Name) (s : Scope) → Shifts m (parameter_name_faults (moved_tag m name) s) (parameter_name_faults name s)
parameter_name_go m None s = none
parameter_name_go m (Some name) s = redeclared_go m name (refl {a = s})

parameter_faults_go : (m : Move) (name : Option Name) (at : ℕ) (lengths : ArrayLengths) (base : Option CType) {v u : Option CType} (s : Scope) → v ≡ u
    → Shifts m (parameter_faults (moved_tag m name) (m.start at) (moved_lengths m lengths) base v s) (parameter_faults name at lengths base u s)
parameter_faults_go m name at lengths base {u = u} s e =
    rw e (both (parameter_name_go m name s) (both (one_if m Mismatch at (later_absent_kept m lengths)) (both (incomplete_go m base at (refl {a = s.structures})) (parameter_limit_go m (parameter_kind s.structures u) at s.structures))))

declared_parameter_kept : (m : Move) (name : Option Name) (u : Option CType) (kind : Option ParameterKind) (s : Scope) → declared_parameter (moved_tag m name) u kind s ≡ declared_parameter name u kind s
declared_parameter_kept m None u kind s = refl
declared_parameter_kept m (Some name) u kind s = refl

parameter_at : (m : Move) (name : Option Name) (at : ℕ) (lengths : ArrayLengths) (base : Option CType) {fs gs : List Fault} (us vs : List Fault) (value : Option (List ℕ)) (s : Scope) → Shifts m fs gs → Shifts m us vs
    → Lists m (parameter_listed (moved_tag m name) (m.start at) (moved_lengths m lengths) base fs (judged us value s)) (parameter_listed name at lengths base gs (judged vs value s))
parameter_at m name at lengths base {fs = fs} {gs = gs} us vs value s h k =
    let v = declared_type (moved_lengths m lengths) value (Some 1) base in
    let u = declared_type lengths value (Some 1) base in
    let type : v ≡ u = declared_kept m lengths value (Some 1) base in
    let own : Shifts m (fs ++ (us ++ parameter_faults (moved_tag m name) (m.start at) (moved_lengths m lengths) base v s)) (gs ++ (vs ++ parameter_faults name at lengths base u s)) =
    both h (both k (parameter_faults_go m name at lengths base s type)) in
    let all = gs ++ (vs ++ parameter_faults name at lengths base u s) in
    let kinds = unless_same (parameter_kind s.structures v) own ∙ ap (λ x. unless_faulty all (parameter_kind s.structures x)) type in
    let types = unless_same v own ∙ ap (unless_faulty all) type in
    record {
      faults = own;
      items = ap (λ k. k ∷ []) kinds;
      scope = same2 (λ x k. declared_parameter (moved_tag m name) x k s) types kinds ∙ declared_parameter_kept m name (unless_faulty all u) (unless_faulty all (parameter_kind s.structures u)) s;
    }

pub parameter_lists : (m : Move) (name : Option Name) (at : ℕ) (lengths : ArrayLengths) {b c : Option CType} {fs gs : List Fault} {x y : Judged (List ℕ)} → b ≡ c → Shifts m fs gs → Goes m Same x y
    → Lists m (parameter_listed (moved_tag m name) (m.start at) (moved_lengths m lengths) b fs x) (parameter_listed name at lengths c gs y)
parameter_lists m name at lengths {c = c} {x = x} {y = y} e h k =
    rw (e, k.value, k.scope) (parameter_at m name at lengths c x.faults y.faults y.value y.scope h k.faults)

pub joined_lists : {A : Type 0} (m : Move) {x y v w : Listed A} → Lists m x v → Lists m y w → Lists m (d.joined x y) (d.joined v w)
joined_lists m h k = record { faults = both h.faults k.faults; items = same2 (λ xs ys. xs ++ ys) h.items k.items; scope = k.scope }
