-- Nodes of declarations see of the faults of their parts the least alone, and lists of parts may be
-- gathered from the left.
use Rattle.std.proofs.Common.{◌≡◌, ◌∙◌, ℕ, ℤ, List, [], ◌∷◌, ◌++◌, Option, Some, None, not, refl, sym, ap, option_and_then, append_assoc, append-nil}
use Rattle.mc_tree.specs.Tree.{Name, Specifiers, ArrayLengths}
use Rattle.types_faults.specs.declared.fault.Fault.{Fault}
use Rattle.types_faults.specs.declared.fault.FaultKind.TheVariants.{Mismatch}
use Rattle.types_faults.specs.Faults.{fault_if, unless_faulty}
use Rattle.types_rules.specs.Types.{CType, Member, Structure, ParameterKind, plain, int, Tagged, has_type, type_of_specifiers}
use Rattle.types_rules.specs.Scopes.{Scope, with_structure_at}
use Rattle.types_rules.specs.Values.{Judged, judged, Found, number_found, lift2}
use Rattle.types_rules.specs.Constants.{constant_found, constant_faults}
use Rattle.types_rules.specs.Declarators.{Listed, after_faults, Opened, completed, structure_judged, enumeration_judged, enumerator_judged, valued_enumerator_judged, length_of, length_faults, lengths_judged, declared_type, declared_member_faults, with_member, member_listed, function_member_faults, function_member_listed, parameter_kind, parameter_faults, declared_parameter, parameter_listed, joined, listed_none}
use Rattle.types_rules.specs.Declarations.{append, both_lists}
use Rattle.types_rules.specs.Judgement.{typed_by, one_of, specifiers_judged, after}
use Rattle.types_declarations.specs.Declarations.{with_length, length_then, squeezed_listed}
use Rattle.types_faults.specs.Kept.{listed, least}
use Rattle.types_scopes.specs.steps.Squeezed.{squeezed, squeezed_part}
use Rattle.types_scopes.proofs.Squeezed.{least_front, least_back, least_least, least_two, two_parts}
use Rattle.types_declarations.proofs.DeclarationFaults.{unless_same, completed_same, judged_same, listed_same, least_swapped}

-- records of the same value and scope
abbrev with_faults : {A : Type 0} → Judged A → List Fault → Judged A
with_faults x fs = record x { faults = fs }

abbrev list_with : {A : Type 0} → Listed A → List Fault → Listed A
list_with x fs = record x { faults = fs }

-- ---- specifiers

pub typed_node : (at : ℕ) (all : Specifiers) (x : Judged CType)
    → squeezed_part (typed_by at all (squeezed_part x)) ≡ squeezed_part (typed_by at all x)
typed_node at all x =
    ap (with_faults (record x { value = type_of_specifiers all x.value }))
    (least_front x.faults (fault_if (not (has_type all)) Mismatch at))

pub specifiers_node : (x y : Judged CType) (s : Scope)
    → squeezed_part (specifiers_judged (record (squeezed_part x) { scope = s }) (squeezed_part y))
    ≡ squeezed_part (specifiers_judged x y)
specifiers_node x y s = two_parts [] (one_of x.value y.value) (record x { scope = s }) y

one_of_assoc : (a b c : Option CType) → one_of (one_of a b) c ≡ one_of a (one_of b c)
one_of_assoc None b c = refl
one_of_assoc (Some a) b c = refl

one_of_none : (a : Option CType) → one_of a None ≡ a
one_of_none None = refl
one_of_none (Some a) = refl

three_lists : (a b c : List Fault) → (a ++ (b ++ [])) ++ (c ++ []) ≡ a ++ ((b ++ (c ++ [])) ++ [])
three_lists a b c = rw (append-nil b, append-nil c, append-nil (b ++ c)) (append_assoc a b c)

least_step : (a b c : List Fault)
    → least (least (a ++ (b ++ [])) ++ (c ++ [])) ≡ least (a ++ ((b ++ (c ++ [])) ++ []))
least_step a b c = least_front (a ++ (b ++ [])) (c ++ []) ∙ ap least (three_lists a b c)

pub specifiers_step : (x y z : Judged CType)
    → squeezed_part (specifiers_judged (squeezed_part (specifiers_judged x y)) z)
    ≡ squeezed_part (specifiers_judged x (specifiers_judged y z))
specifiers_step x y z =
    ap (λ (fs : List Fault). judged fs (one_of (one_of x.value y.value) z.value) z.scope) (least_step x.faults y.faults z.faults)
    ∙ ap (λ (v : Option CType). judged (least (x.faults ++ ((y.faults ++ (z.faults ++ [])) ++ []))) v z.scope)
    (one_of_assoc x.value y.value z.value)

pub specifiers_end : (x : Judged CType)
    → squeezed_part (specifiers_judged x (judged [] None x.scope)) ≡ squeezed_part x
specifiers_end x =
    ap (λ (fs : List Fault). judged (least fs) (one_of x.value None) x.scope) (append-nil x.faults)
    ∙ ap (λ (v : Option CType). judged (least x.faults) v x.scope) (one_of_none x.value)

-- ---- structures and enumerations

pub structure_node : (o : Opened) (y : Listed Member) (s : Scope)
    → squeezed_part (structure_judged (record o { scope = s }) (squeezed_listed y)) ≡ squeezed_part (structure_judged o y)
structure_node o y s =
    let u = Some (plain (Tagged o.number)) in
    let fs = o.faults ++ least y.faults in
    let gs = o.faults ++ y.faults in
    let same = least_back o.faults (least y.faults) y.faults (ap listed (least_least y.faults)) in
    judged_same (least fs) (least gs) (unless_faulty fs u) (unless_faulty gs u)
    (with_structure_at o.number (completed fs y.items) y.scope) (with_structure_at o.number (completed gs y.items) y.scope)
    same (unless_same fs gs u same)
    (ap (λ (x : Structure). with_structure_at o.number x y.scope) (completed_same fs gs y.items same))

pub enumeration_node : (fs : List Fault) (x : Judged ℤ)
    → squeezed_part (enumeration_judged fs (squeezed_part x)) ≡ squeezed_part (enumeration_judged fs x)
enumeration_node fs x =
    let same = least_back fs (least x.faults) x.faults (ap listed (least_least x.faults)) in
    judged_same (least (fs ++ least x.faults)) (least (fs ++ x.faults))
    (unless_faulty (fs ++ least x.faults) (Some int)) (unless_faulty (fs ++ x.faults) (Some int)) x.scope x.scope
    same (unless_same (fs ++ least x.faults) (fs ++ x.faults) (Some int) same) refl

pub valued_enumerator_node : (name : Name) (at : ℕ) (x : Found)
    → squeezed_part (valued_enumerator_judged name at (squeezed x)) ≡ squeezed_part (valued_enumerator_judged name at x)
valued_enumerator_node name at x =
    let y = enumerator_judged name (constant_found x) x.scope in
    ap (λ (fs : List Fault). judged fs y.value y.scope)
    (least_front x.faults (y.faults ++ constant_faults at x.constant (number_found x)))

-- ---- lengths

lengths_value : (x : Option (List ℕ)) (n : Option ℕ) (z : Option (List ℕ))
    → lift2 append (lift2 with_length x n) z ≡ lift2 append x (lift2 (λ m ns. m ∷ ns) n z)
lengths_value None n z = refl
lengths_value (Some x) None z = refl
lengths_value (Some x) (Some n) None = refl
lengths_value (Some x) (Some n) (Some z) = ap (λ (ns : List ℕ). Some ns) (append_assoc x (n ∷ []) z)

lengths_faults : (x y own z : List Fault)
    → least (least (x ++ (least y ++ own)) ++ (z ++ [])) ≡ least (x ++ ((y ++ (z ++ own)) ++ []))
lengths_faults x y own z =
    least_front (x ++ (least y ++ own)) (z ++ [])
    ∙ ap (λ (w : List Fault). least ((x ++ (least y ++ own)) ++ w)) (append-nil z)
    ∙ ap least (append_assoc x (least y ++ own) z ∙ ap (λ (w : List Fault). x ++ w) (append_assoc (least y) own z))
    ∙ least_back x (least y ++ (own ++ z)) (y ++ (z ++ own))
    (least_front y (own ++ z) ∙ least_back y (own ++ z) (z ++ own) (least_swapped own z))
    ∙ ap (λ (w : List Fault). least (x ++ w)) (sym (append-nil (y ++ (z ++ own))))

pub lengths_step : (x : Judged (List ℕ)) (at : ℕ) (y : Found) (z : Judged (List ℕ))
    → squeezed_part (both_lists (squeezed_part (length_then x at (squeezed y))) z)
    ≡ squeezed_part (both_lists x (lengths_judged at y z))
lengths_step x at y z =
    let n = option_and_then length_of (constant_found y) in
    let own = length_faults at y.constant (number_found y) in
    judged_same (least (least (x.faults ++ (least y.faults ++ own)) ++ (z.faults ++ [])))
    (least (x.faults ++ ((y.faults ++ (z.faults ++ own)) ++ [])))
    (lift2 append (lift2 with_length x.value n) z.value) (lift2 append x.value (lift2 (λ m ns. m ∷ ns) n z.value))
    z.scope z.scope (lengths_faults x.faults y.faults own z.faults) (lengths_value x.value n z.value) refl

lengths_none : (x : Option (List ℕ)) → lift2 append x (Some []) ≡ x
lengths_none None = refl
lengths_none (Some x) = ap (λ (ns : List ℕ). Some ns) (append-nil x)

pub lengths_end : (x : Judged (List ℕ)) → squeezed_part (both_lists x (judged [] (Some []) x.scope)) ≡ squeezed_part x
lengths_end x =
    judged_same (least (x.faults ++ [])) (least x.faults) (lift2 append x.value (Some [])) x.value x.scope x.scope
    (ap least (append-nil x.faults)) (lengths_none x.value) refl

-- ---- members

pub after_node : {A : Type 0} (fs : List Fault) (x : Listed A)
    → squeezed_listed (after_faults (least fs) (squeezed_listed x)) ≡ squeezed_listed (after_faults fs x)
after_node fs x =
    ap (list_with x) (least_front fs (least x.faults) ∙ least_back fs (least x.faults) x.faults (ap listed (least_least x.faults)))

pub after_step : {A : Type 0} (fs gs : List Fault) (x : Listed A)
    → squeezed_listed (after_faults (least (fs ++ gs)) x) ≡ squeezed_listed (after_faults fs (after_faults gs x))
after_step fs gs x = ap (list_with x) (least_front (fs ++ gs) x.faults ∙ ap least (append_assoc fs gs x.faults))

pub after_judged_step : {A : Type 0} (fs gs : List Fault) (x : Judged A)
    → squeezed_part (after (least (fs ++ gs)) x) ≡ squeezed_part (after fs (after gs x))
after_judged_step fs gs x = ap (with_faults x) (least_front (fs ++ gs) x.faults ∙ ap least (append_assoc fs gs x.faults))

pub after_judged_node : {A : Type 0} (fs : List Fault) (x : Judged A)
    → squeezed_part (after (least fs) (squeezed_part x)) ≡ squeezed_part (after fs x)
after_judged_node fs x =
    ap (with_faults x) (least_front fs (least x.faults) ∙ least_back fs (least x.faults) x.faults (ap listed (least_least x.faults)))

pub member_node : (base : Option CType) (name : Name) (lengths : ArrayLengths) (members : List Member) (y : Judged (List ℕ))
    → squeezed_listed (member_listed base name lengths members (squeezed_part y))
    ≡ squeezed_listed (member_listed base name lengths members y)
member_node base name lengths members y =
    let u = declared_type lengths y.value None base in
    let all = y.scope.structures in
    let own = declared_member_faults name lengths base u members all in
    let same = least_front y.faults own in
    listed_same (least (least y.faults ++ own)) (least (y.faults ++ own))
    (with_member name (unless_faulty (least y.faults ++ own) u) members all)
    (with_member name (unless_faulty (y.faults ++ own) u) members all) y.scope y.scope same
    (ap (λ (v : Option CType). with_member name v members all) (unless_same (least y.faults ++ own) (y.faults ++ own) u same)) refl

pub function_member_node : {A : Type 0} (name : Name) (members : List Member) (x : Listed A) (s : Scope)
    → squeezed_listed (function_member_listed name members (squeezed_listed x) s)
    ≡ squeezed_listed (function_member_listed name members x s)
function_member_node name members x s =
    ap (list_with (function_member_listed name members x s)) (least_front x.faults (function_member_faults name members))

-- ---- parameters

pub parameters_step : {A : Type 0} (x y z : Listed A)
    → squeezed_listed (joined (squeezed_listed (joined x y)) z) ≡ squeezed_listed (joined x (joined y z))
parameters_step {A = A} x y z =
    ap (λ (fs : List Fault). let l : Listed A = record { faults = fs; items = (x.items ++ y.items) ++ z.items; scope = z.scope } in l)
    (least_front (x.faults ++ y.faults) z.faults ∙ ap least (append_assoc x.faults y.faults z.faults))
    ∙ ap (λ (xs : List A). let l : Listed A = record { faults = least (x.faults ++ (y.faults ++ z.faults)); items = xs; scope = z.scope } in l)
    (append_assoc x.items y.items z.items)

pub parameters_end : {A : Type 0} (x : Listed A)
    → squeezed_listed (joined x (listed_none x.scope)) ≡ squeezed_listed x
parameters_end {A = A} x =
    ap (λ (fs : List Fault). let l : Listed A = record { faults = least fs; items = x.items ++ []; scope = x.scope } in l) (append-nil x.faults)
    ∙ ap (λ (xs : List A). let l : Listed A = record { faults = least x.faults; items = xs; scope = x.scope } in l) (append-nil x.items)

pub parameter_node : (name : Option Name) (at : ℕ) (lengths : ArrayLengths) (base : Option CType) (faults : List Fault)
    (y : Judged (List ℕ))
    → squeezed_listed (parameter_listed name at lengths base (least faults) (squeezed_part y))
    ≡ squeezed_listed (parameter_listed name at lengths base faults y)
parameter_node name at lengths base faults y =
    let u = declared_type lengths y.value (Some 1) base in
    let own = parameter_faults name at lengths base u y.scope in
    let fs = least faults ++ (least y.faults ++ own) in
    let gs = faults ++ (y.faults ++ own) in
    let same = least_two faults y.faults own in
    let kind = parameter_kind y.scope.structures u in
    let k = unless_same fs gs kind same in
    listed_same (least fs) (least gs) (unless_faulty fs kind ∷ []) (unless_faulty gs kind ∷ [])
    (declared_parameter name (unless_faulty fs u) (unless_faulty fs kind) y.scope)
    (declared_parameter name (unless_faulty gs u) (unless_faulty gs kind) y.scope)
    same (ap (λ (v : Option ParameterKind). v ∷ []) k)
    (ap (λ (v : Option CType). declared_parameter name v (unless_faulty fs kind) y.scope) (unless_same fs gs u same)
    ∙ ap (λ (v : Option ParameterKind). declared_parameter name (unless_faulty gs u) v y.scope) k)
