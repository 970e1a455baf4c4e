-- Tags, enumerators, members, declarators and parameters (C17 6.7.2, 6.7.6): what is found at each
-- node, from what is found of its parts.
use Rattle.std.specs.Prelude.{ℕ, zero, suc, min, ℤ, pos, negsuc, ◌+ℤ◌, Bool, true, false, not, ◌&&◌, ◌||◌, if◌then◌else◌, List, [], ◌∷◌, ◌++◌, take, map, length, slice_get, is_some, bytes_eq, Option, Some, None, option_map, option_and_then, is_none}
use Rattle.mc_span.specs.declared.span.Span.{Span}
use Rattle.mc_tree.specs.Tree.{Name, ArrayLengths}
use Rattle.mc_tree.specs.Tree as tree
use Rattle.mc_value.specs.declared.int_type.IntType.TheVariants as the
use Rattle.mc_value.specs.IntTypes.{in_range}
use Rattle.mc_typed.specs.Tree as typed
use Rattle.mc_typed.specs.Layout.{cells_all, members_from}
use Rattle.types_faults.specs.declared.fault.Fault.{Fault}
use Rattle.types_faults.specs.declared.fault.FaultKind.TheVariants.{Undeclared, Redeclared, Mismatch}
use Rattle.types_faults.specs.Faults.{fault, fault_if, unless_faulty}
use Rattle.types_rules.specs.Profile.{most_kept, most_lengths}
use Rattle.types_rules.specs.Types.{Tagged, CType, plain, int, Member, Structure, Incomplete, Complete, Faulty, is_faulty, is_complete, layout_of, layout_of_member, ParameterKind, ByValue, ByArray}
use Rattle.types_rules.specs.Scopes.{Meaning, Automatic, Borrowed, Constant, Typedef, TagMeaning, StructureTag, EnumerationTag, Scope, meaning_here, tag_of, tag_here, is_external, with_name, with_tag, with_structure, with_structure_at, next_slot, with_object, with_array}
use Rattle.types_rules.specs.Values.{Judged, judged, judged_two, Found, part, number_found, lift2, lift3}
use Rattle.types_rules.specs.Constants.{value_of_constant, constant_found, constant_faults}
use Rattle.types_rules.specs.Limits.{object_limit_faults, member_count_faults, member_limit_faults}

-- what is found of a list whose items are there in any case
pub record Listed (A : Type 0) : Type 0 where
  pub faults : List Fault
  pub items : List A
  pub scope : Scope

-- these faults before
abbrev pub after_faults : {A : Type 0} → List Fault → Listed A → Listed A
after_faults faults x = record x { faults = faults ++ x.faults }

-- ---- names

-- declared again in its scope and name space (C17 6.7p3)
abbrev pub redeclared_faults : Name → Scope → List Fault
redeclared_faults name s = fault_if (is_some (meaning_here name s)) Redeclared name.span.start

-- At file scope the two external functions are nothing else.
abbrev pub misnamed_faults : Name → Scope → List Fault
misnamed_faults name s = fault_if (s.is_file && is_external name) Mismatch name.span.start

abbrev pub name_start : Option Name → Span → ℕ
name_start None span = span.start
name_start (Some name) span = name.span.start

-- ---- typedef names and tags (C17 6.7.8, 6.7.2.3)

-- a type that is used, and none where its structure has a list with a fault
abbrev pub used_type : Scope → CType → Option CType
used_type s u = if is_faulty s.structures u.base then None else Some u

abbrev pub typedef_type : Name → Scope → Option Meaning → Judged CType
typedef_type name s (Some (Typedef u)) = judged [] (option_and_then (used_type s) u) s
typedef_type name s _ = judged (fault Undeclared name.span.start) None s

abbrev pub structure_type : ℕ → Scope → Option CType
structure_type k s = used_type s (plain (Tagged k))

-- `struct S;` alone declares S in its scope (C17 6.7.2.3p7)
abbrev pub declared_tag : Name → Scope → Option TagMeaning → Judged CType
declared_tag tag s None =
    judged [] (Some (plain (Tagged (length s.structures))))
    (with_tag tag (StructureTag (length s.structures)) (with_structure (Incomplete false) s))
declared_tag tag s (Some (StructureTag k)) = judged [] (structure_type k s) s
declared_tag tag s (Some EnumerationTag) = judged (fault Redeclared tag.span.start) None s

-- Any other use of a tag without a list needs a declaration in scope, as the same kind of type
-- (C17 6.7.2.3p2).
abbrev pub used_structure_tag : Name → Span → Scope → Option TagMeaning → Judged CType
used_structure_tag tag span s None = judged (fault Undeclared tag.span.start) None s
used_structure_tag tag span s (Some (StructureTag k)) = judged [] (structure_type k s) s
used_structure_tag tag span s (Some EnumerationTag) = judged (fault Mismatch span.start) None s

abbrev pub structure_tag : Bool → Name → Span → Scope → Judged CType
structure_tag true tag span s = declared_tag tag s (tag_here tag s)
structure_tag false tag span s = used_structure_tag tag span s (tag_of tag s)

-- `enum E;` declares nothing
abbrev pub used_enumeration_tag : Name → Span → Scope → Option TagMeaning → Judged CType
used_enumeration_tag tag span s None = judged (fault Undeclared tag.span.start) None s
used_enumeration_tag tag span s (Some EnumerationTag) = judged [] (Some int) s
used_enumeration_tag tag span s (Some (StructureTag k)) = judged (fault Mismatch span.start) None s

-- ---- structures with a list (C17 6.7.2.1)

-- a structure whose list begins: its number, and the scope of the list
pub record Opened : Type 0 where
  pub faults : List Fault
  pub number : ℕ
  pub scope : Scope

abbrev pub opened_anew : List Fault → Scope → Opened
opened_anew faults s = record {
  faults = faults;
  number = length s.structures;
  scope = with_structure (Incomplete true) s;
}

abbrev pub opened_with_tag : List Fault → Name → Scope → Opened
opened_with_tag faults tag s =
    opened_anew faults (with_tag tag (StructureTag (length s.structures)) s)

abbrev pub opened_again : Name → ℕ → Scope → Option Structure → Opened
opened_again tag k s (Some (Incomplete false)) = record {
  faults = [];
  number = k;
  scope = with_structure_at k (Incomplete true) s;
}
opened_again tag k s _ = opened_with_tag (fault Redeclared tag.span.start) tag s

abbrev pub opened_tag : Name → Scope → Option TagMeaning → Opened
opened_tag tag s None = opened_with_tag [] tag s
opened_tag tag s (Some (StructureTag k)) = opened_again tag k s (slice_get s.structures k)
opened_tag tag s (Some EnumerationTag) =
    opened_with_tag (fault Redeclared tag.span.start) tag s

-- The tag's scope begins with its appearance (C17 6.2.1p7), so its list sees it.
abbrev pub opened : Option Name → Scope → Opened
opened None s = opened_anew [] s
opened (Some tag) s = opened_tag tag s (tag_here tag s)

abbrev pub completed : List Fault → List Member → Structure
completed [] members = Complete members
completed (f ∷ fs) members = Faulty

-- the type is complete after its list (C17 6.7.2.1p8)
abbrev pub structure_judged : Opened → Listed Member → Judged CType
structure_judged x y = record {
  faults = x.faults ++ y.faults;
  value = unless_faulty (x.faults ++ y.faults) (Some (plain (Tagged x.number)));
  scope = with_structure_at x.number (completed (x.faults ++ y.faults) y.items) y.scope;
}

-- ---- enumerations (C17 6.7.2.2)

-- the scope of the list
abbrev pub enumeration_scope : Option Name → Scope → Scope
enumeration_scope None s = s
enumeration_scope (Some tag) s = with_tag tag EnumerationTag s

abbrev pub enumeration_faults : Option Name → Scope → List Fault
enumeration_faults None s = []
enumeration_faults (Some tag) s = fault_if (is_some (tag_here tag s)) Redeclared tag.span.start

abbrev pub enumeration_judged : List Fault → Judged ℤ → Judged CType
enumeration_judged faults x = record {
  faults = faults ++ x.faults;
  value = unless_faulty (faults ++ x.faults) (Some int);
  scope = x.scope;
}

abbrev pub fits_int : Option ℤ → Bool
fits_int None = true
fits_int (Some v) = in_range the.Int v

abbrev pub in_int : Option ℤ → Option ℤ
in_int v = if fits_int v then v else None

-- An enumerator fits int (C17 6.7.2.2p2), also where it counts on.
abbrev pub enumerator_faults : Name → Option ℤ → Scope → List Fault
enumerator_faults name v s =
    redeclared_faults name s
    ++ (misnamed_faults name s ++ fault_if (not (fits_int v)) Mismatch name.span.start)

-- an enumerator of this value; the value of the next one is by one greater (C17 6.7.2.2p3)
abbrev pub enumerator_judged : Name → Option ℤ → Scope → Judged ℤ
enumerator_judged name v s = record {
  faults = enumerator_faults name v s;
  value = option_map (λ w. w +ℤ pos 1) (in_int v);
  scope = with_name name (Constant (in_int v)) s;
}

abbrev pub valued_enumerator_judged : Name → ℕ → Found → Judged ℤ
valued_enumerator_judged name at x =
    let y = enumerator_judged name (constant_found x) x.scope in
    judged_two (constant_faults at x.constant (number_found x)) y.value (part x) y

-- ---- lengths of arrays (C17 6.7.6.2)

abbrev pub is_first_absent : ArrayLengths → Bool
is_first_absent (tree.absent_length rest) = true
is_first_absent _ = false

abbrev pub has_absent : ArrayLengths → Bool
has_absent tree.no_lengths = false
has_absent (tree.absent_length rest) = true
has_absent (tree.given_length e rest) = has_absent rest

abbrev pub is_later_absent : ArrayLengths → Bool
is_later_absent tree.no_lengths = false
is_later_absent (tree.absent_length rest) = has_absent rest
is_later_absent (tree.given_length e rest) = has_absent rest

-- A length is at least 1; the greatest ones are not kept.
abbrev pub length_of : ℤ → Option ℕ
length_of (pos zero) = None
length_of (pos (suc n)) = Some (min (suc n) most_kept)
length_of (negsuc n) = None

abbrev pub is_no_length : Option ℤ → Bool
is_no_length None = false
is_no_length (Some v) = is_none (length_of v)

abbrev pub length_faults : ℕ → Bool → Option typed.Expression → List Fault
length_faults at constant e =
    constant_faults at constant e
    ++ fault_if (is_no_length (value_of_constant constant e)) Mismatch at

abbrev pub lengths_judged : ℕ → Found → Judged (List ℕ) → Judged (List ℕ)
lengths_judged at x y =
    judged_two (length_faults at x.constant (number_found x))
    (lift2 (λ n ns. n ∷ ns) (option_and_then length_of (constant_found x)) y.value) (part x) y

-- ---- types of declarators

-- the length in place of one that is absent
abbrev pub leading : ArrayLengths → Option ℕ → Option (List ℕ)
leading lengths count =
    if is_first_absent lengths then option_map (λ n. n ∷ []) count else Some []

-- Types stay flat: the outermost lengths show that a type nests too deep, whatever its base is.
abbrev pub array_of : List ℕ → List ℕ → CType → CType
array_of front rest u = record u { lengths = take most_lengths (front ++ (rest ++ u.lengths)) }

-- The type of a declarator, from its lengths, those that are given, the length in place of one that
-- is absent, and the type of its specifiers.
abbrev pub declared_type : ArrayLengths → Option (List ℕ) → Option ℕ → Option CType
    → Option CType
declared_type lengths given count base =
    if is_later_absent lengths then None
    else lift3 array_of (leading lengths count) given base

-- only the first length may be absent, and only where a list tells it
abbrev pub absent_faults : ArrayLengths → Option ℕ → ℕ → List Fault
absent_faults lengths count at =
    fault_if (is_later_absent lengths || (is_first_absent lengths && is_none count)) Mismatch at

-- an object, a member, a parameter and the elements of arrays have an integer or a complete
-- structure type, whatever their lengths are
abbrev pub incomplete_faults : List Structure → Option CType → ℕ → List Fault
incomplete_faults all None at = []
incomplete_faults all (Some u) at = fault_if (not (is_complete all u.base)) Mismatch at

-- ---- members

abbrev pub has_member : List ℕ → List Member → Bool
has_member name [] = false
has_member name (m ∷ ms) = bytes_eq m.name name || has_member name ms

abbrev pub cells_of_members : List Member → ℕ
cells_of_members members = cells_all (members_from (map (λ m. m.layout) members))

-- a member's own faults, after the members before it; with a fault it has no type and no cells
abbrev pub declared_member_faults : Name → ArrayLengths → Option CType → Option CType
    → List Member → List Structure → List Fault
declared_member_faults name lengths base u members all =
    fault_if (has_member name.text members) Redeclared name.span.start
    ++ (absent_faults lengths None name.span.start
    ++ (incomplete_faults all base name.span.start
    ++ (member_limit_faults (cells_of_members members) all u name.span.start
    ++ member_count_faults (length members) name.span.start)))

abbrev pub with_member : Name → Option CType → List Member → List Structure → List Member
with_member name u members all =
    members ++ (record {
      name = name.text;
      member_type = u;
      layout = layout_of_member all u;
    } ∷ [])

abbrev pub member_listed : Option CType → Name → ArrayLengths → List Member → Judged (List ℕ)
    → Listed Member
member_listed base name lengths members y =
    let u = declared_type lengths y.value None base in
    let own = declared_member_faults name lengths base u members y.scope.structures in
    record {
      faults = y.faults ++ own;
      items = with_member name (unless_faulty (y.faults ++ own) u) members y.scope.structures;
      scope = y.scope;
    }

-- a function is no member, but declares its name like one
abbrev pub function_member_faults : Name → List Member → List Fault
function_member_faults name members =
    fault_if (has_member name.text members) Redeclared name.span.start
    ++ fault Mismatch name.span.start

abbrev pub function_member_listed : {A : Type 0} → Name → List Member → Listed A → Scope
    → Listed Member
function_member_listed name members x s = record {
  faults = x.faults ++ function_member_faults name members;
  items = with_member name None members s.structures;
  scope = s;
}

-- ---- parameters (C17 6.7.6.3)

-- An array is adjusted: its first length is dropped (C17 6.7.6.3p7).
abbrev pub adjusted : CType → List ℕ → ParameterKind
adjusted u [] = ByValue u.base
adjusted u (n ∷ ns) = ByArray (record u { lengths = ns })

abbrev pub parameter_kind : List Structure → Option CType → Option ParameterKind
parameter_kind all None = None
parameter_kind all (Some u) =
    if is_complete all u.base then Some (adjusted u u.lengths) else None

abbrev pub parameter_limit_faults : List Structure → Option ParameterKind → ℕ → List Fault
parameter_limit_faults all (Some (ByArray element)) at = object_limit_faults all (Some element) at
parameter_limit_faults all _ at = []

abbrev pub parameter_name_faults : Option Name → Scope → List Fault
parameter_name_faults None s = []
parameter_name_faults (Some name) s = redeclared_faults name s

abbrev pub parameter_faults : Option Name → ℕ → ArrayLengths → Option CType → Option CType
    → Scope → List Fault
parameter_faults name at lengths base u s =
    parameter_name_faults name s
    ++ (fault_if (is_later_absent lengths) Mismatch at
    ++ (incomplete_faults s.structures base at
    ++ parameter_limit_faults s.structures (parameter_kind s.structures u) at))

abbrev pub parameter_meaning : Option CType → Option ParameterKind → Scope → Meaning
parameter_meaning u (Some (ByArray element)) s = Borrowed s.arrays element
parameter_meaning u _ s = Automatic (next_slot s) u

abbrev pub with_parameter_name : Option Name → Meaning → Scope → Scope
with_parameter_name None meaning s = s
with_parameter_name (Some name) meaning s = with_name name meaning s

-- it has an object, or is an array
abbrev pub with_parameter : Option CType → Option ParameterKind → Scope → Scope
with_parameter (Some u) (Some (ByValue b)) s = with_object (layout_of s.structures u) s
with_parameter u (Some (ByArray element)) s = with_array s
with_parameter _ _ s = s

-- its name in scope, where it has one, and its object
abbrev pub declared_parameter : Option Name → Option CType → Option ParameterKind → Scope → Scope
declared_parameter name u kind s =
    with_parameter u kind (with_parameter_name name (parameter_meaning u kind s) s)

-- With a fault a parameter has no type, so that the function has none.
abbrev pub parameter_listed : Option Name → ℕ → ArrayLengths → Option CType → List Fault
    → Judged (List ℕ) → Listed (Option ParameterKind)
parameter_listed name at lengths base faults y =
    let u = declared_type lengths y.value (Some 1) base in
    let all = faults ++ (y.faults ++ parameter_faults name at lengths base u y.scope) in
    let kind = unless_faulty all (parameter_kind y.scope.structures u) in
    record {
      faults = all;
      items = kind ∷ [];
      scope = declared_parameter name (unless_faulty all u) kind y.scope;
    }

abbrev pub joined : {A : Type 0} → Listed A → Listed A → Listed A
joined x y = record {
  faults = x.faults ++ y.faults;
  items = x.items ++ y.items;
  scope = y.scope;
}

abbrev pub listed_none : {A : Type 0} → Scope → Listed A
listed_none s = record { faults = []; items = []; scope = s }
