-- What is found of specifiers, members, enumerators and parameters, from what is found of their
-- parts: of the faults of each the least alone is kept.
use Rattle.std.proofs.Common.{◌≡◌, ◌∙◌, ℕ, ℤ, pos, Bool, false, List, [], Option, Some, Result, IfOk, ap}
use Rattle.std.proofs.lemmas.Result.{IfOk-weaker}
use Rattle.mc_span.specs.declared.span.Span.{Span}
use Rattle.mc_tree.specs.Tree.{span_of}
use Rattle.mc_tree.specs.Tree as t
use Rattle.types_faults.specs.declared.fault.Fault.{Fault}
use Rattle.types_rules.specs.Types.{CType, Member, ParameterKind}
use Rattle.types_rules.specs.Scopes.{Scope, prototype, with_objects_of}
use Rattle.types_rules.specs.Values.{Judged, Found}
use Rattle.types_rules.specs.Declarators.{Listed, Opened, opened, structure_judged, enumeration_faults, enumeration_scope, enumeration_judged, valued_enumerator_judged, member_listed, function_member_listed, name_start, parameter_listed}
use Rattle.types_rules.specs.Judgement.{judge, judge_specifier, judge_specifiers, judge_members, judge_enumerator, judge_enumerators, judge_declarator, judge_lengths, judge_parameter, judge_parameter_list, judge_parameters, typed_by, uncalled}
use Rattle.types_scopes.specs.Prototypes.{AroundPrototype, around_prototype, counted, cut_to, prototype_left_by}
use Rattle.types_declarations.specs.declared.parameters.Parameters.{Parameters}
use Rattle.types_declarations.specs.Declarations.{listed_parameters, squeezed_listed}
use Rattle.types_scopes.specs.steps.Squeezed.{squeezed, squeezed_part}
use Rattle.types_declarations.proofs.DeclarationNodes.{typed_node, structure_node, enumeration_node, valued_enumerator_node, member_node, function_member_node, parameter_node}
use Rattle.types_declarations.proofs.Growth.{prototype_left, uncalled_cut}
use Rattle.mc_types.proofs.Arms.{one_arm}

pub in_typed : (at : ℕ) (alone : Bool) (all : t.Specifiers) (s : Scope) (x : Judged CType)
    → x ≡ squeezed_part (judge_specifiers alone all s)
    → squeezed_part (typed_by at all x)
    ≡ squeezed_part (typed_by at all (judge_specifiers alone all s))
in_typed at alone all s x e =
    one_arm squeezed_part squeezed_part (typed_by at all) (λ v. typed_node at all v)
    (judge_specifiers alone all s) x e

pub in_structure : (alone : Bool) (tag : Option t.Name) (all : t.Members) (span : Span)
    (s u : Scope) (o : Opened) (y : Listed Member)
    → o ≡ opened tag s → y ≡ squeezed_listed (judge_members all [] o.scope)
    → squeezed_part (structure_judged (record o { scope = u }) y)
    ≡ squeezed_part (judge_specifier alone (t.Structure tag all span) s)
in_structure alone tag all span s u o y e f =
    let p : Opened = opened tag s in
    let same : y ≡ squeezed_listed (judge_members all [] p.scope) =
    f ∙ ap (λ (v : Opened). squeezed_listed (judge_members all [] v.scope)) e in
    ap (λ (v : Opened). squeezed_part (structure_judged (record v { scope = u }) y)) e
    ∙ ap (λ (v : Listed Member). squeezed_part (structure_judged (record p { scope = u }) v)) same
    ∙ structure_node p (judge_members all [] p.scope) u

pub in_enumeration : (alone : Bool) (tag : Option t.Name) (all : t.Enumerators) (span : Span)
    (s u : Scope) (fs : List Fault) (x : Judged ℤ)
    → fs ≡ enumeration_faults tag s → u ≡ enumeration_scope tag s
    → x ≡ squeezed_part (judge_enumerators all (Some (pos 0)) u)
    → squeezed_part (enumeration_judged fs x)
    ≡ squeezed_part (judge_specifier alone (t.Enumeration tag all span) s)
in_enumeration alone tag all span s u fs x e f h =
    ap (λ (v : List Fault). squeezed_part (enumeration_judged v x)) e
    ∙ ap (λ (v : Judged ℤ). squeezed_part (enumeration_judged (enumeration_faults tag s) v)) h
    ∙ enumeration_node (enumeration_faults tag s) (judge_enumerators all (Some (pos 0)) u)
    ∙ ap (λ (v : Scope). squeezed_part (enumeration_judged (enumeration_faults tag s)
    (judge_enumerators all (Some (pos 0)) v))) f

pub in_valued : (name : t.Name) (e : t.Expression) (v : Option ℤ) (s : Scope) (x : Found)
    → x ≡ squeezed (judge e s)
    → squeezed_part (valued_enumerator_judged name (span_of e).start x)
    ≡ squeezed_part (judge_enumerator (t.valued_enumerator name e) v s)
in_valued name e v s x h =
    one_arm squeezed squeezed_part (valued_enumerator_judged name (span_of e).start)
    (λ w. valued_enumerator_node name (span_of e).start w) (judge e s) x h

pub in_object_member : (base : Option CType) (stars : ℕ) (name : t.Name) (all : t.ArrayLengths)
    (span : Span) (members : List Member) (s : Scope) (y : Judged (List ℕ))
    → y ≡ squeezed_part (judge_lengths all s)
    → squeezed_listed (member_listed base name all members y)
    ≡ squeezed_listed (judge_declarator base (t.object stars name all span) members s)
in_object_member base stars name all span members s y e =
    one_arm squeezed_part squeezed_listed (member_listed base name all members)
    (λ v. member_node base name all members v) (judge_lengths all s) y e

pub in_function_member : (base : Option CType) (stars : ℕ) (name : t.Name) (all : t.Parameters)
    (span : Span) (members : List Member) (s u : Scope) (x : Listed (Option ParameterKind))
    → x ≡ squeezed_listed (record (judge_parameters all (prototype s)) { scope = u })
    → squeezed_listed (function_member_listed name members x s)
    ≡ squeezed_listed (judge_declarator base (t.function stars name all span) members s)
in_function_member base stars name all span members s u x e =
    ap (λ (v : Listed (Option ParameterKind)).
    squeezed_listed (function_member_listed name members v s)) e
    ∙ function_member_node name members (judge_parameters all (prototype s)) s

-- ---- parameters

pub in_parameter : (all : t.Specifiers) (stars : ℕ) (name : Option t.Name) (lengths : t.ArrayLengths)
    (span : Span) (s u : Scope) (x : Judged CType) (y : Judged (List ℕ))
    (z : Listed (Option ParameterKind))
    → x ≡ squeezed_part (typed_by span.start all (judge_specifiers false all s))
    → y ≡ squeezed_part (judge_lengths lengths x.scope)
    → u ≡ cut_to (counted s) y.scope
    → z ≡ squeezed_listed (parameter_listed name (name_start name span) lengths x.value x.faults
    (record y { scope = u }))
    → z ≡ squeezed_listed (judge_parameter (t.parameter all stars name lengths span) s)
in_parameter all stars name lengths span s u x y z e f g h =
    let at = name_start name span in
    let p : Judged CType = typed_by span.start all (judge_specifiers false all s) in
    let q : Judged (List ℕ) = judge_lengths lengths p.scope in
    let same : y ≡ squeezed_part q =
    f ∙ ap (λ (v : Judged CType). squeezed_part (judge_lengths lengths v.scope)) e in
    let cut : u ≡ with_objects_of s q.scope =
    g ∙ ap (λ (v : Judged (List ℕ)). cut_to (counted s) v.scope) same
    ∙ uncalled_cut all lengths s in
    h ∙ ap (λ (v : Judged CType). squeezed_listed (parameter_listed name at lengths v.value v.faults
    (record y { scope = u }))) e
    ∙ ap (λ (v : Judged (List ℕ)). squeezed_listed (parameter_listed name at lengths p.value
    (squeezed_part p).faults (record v { scope = u }))) same
    ∙ ap (λ (v : Scope). squeezed_listed (parameter_listed name at lengths p.value
    (squeezed_part p).faults (record (squeezed_part q) { scope = v }))) cut
    ∙ parameter_node name at lengths p.value p.faults (uncalled s q)

-- of a function that is no definition
pub in_prototype : {E : Type 0} (r : Result Parameters E) (all : t.ParameterList) (p q s : Scope)
    → IfOk r (λ z. listed_parameters z q ≡ squeezed_listed (judge_parameter_list all p))
    → p ≡ prototype s
    → IfOk r (λ z. (u : Scope) → listed_parameters z u
    ≡ squeezed_listed (record (judge_parameter_list all (prototype s)) { scope = u }))
in_prototype r all p q s h e =
    IfOk-weaker r (λ z. listed_parameters z q ≡ squeezed_listed (judge_parameter_list all p))
    (λ z. (u : Scope) → listed_parameters z u
    ≡ squeezed_listed (record (judge_parameter_list all (prototype s)) { scope = u }))
    (λ z k u.
    ap (λ (l : Listed (Option ParameterKind)).
    let v : Listed (Option ParameterKind) = record l { scope = u } in v)
    (k ∙ ap (λ (v : Scope). squeezed_listed (judge_parameter_list all v)) e)) h

-- nothing of them stays in scope
pub prototype_ends : {E : Type 0} (r : Result Parameters E) (all : t.ParameterList)
    (p q s u : Scope) (o : AroundPrototype)
    → IfOk r (λ z. listed_parameters z q ≡ squeezed_listed (judge_parameter_list all p))
    → p ≡ prototype s → u ≡ prototype_left_by o q → o ≡ around_prototype s
    → IfOk r (λ z. u ≡ s)
prototype_ends r all p q s u o h e f g =
    IfOk-weaker r (λ z. listed_parameters z q ≡ squeezed_listed (judge_parameter_list all p))
    (λ z. u ≡ s)
    (λ z k.
    f ∙ ap (λ (v : Scope). prototype_left_by o v) (ap (λ (l : Listed (Option ParameterKind)). l.scope)
    (k ∙ ap (λ (v : Scope). squeezed_listed (judge_parameter_list all v)) e))
    ∙ ap (λ (v : AroundPrototype).
    prototype_left_by v (judge_parameter_list all (prototype s)).scope) g
    ∙ prototype_left (t.Listed all (record { start = 0; end = 0 })) s) h
