-- Parts that are gathered from the left: lists of each kind.
use Rattle.std.proofs.Common.{◌≡◌, ◌∙◌, ℕ, List, [], ◌++◌, Option, Some, None, sym, refl, ap, append_assoc, append-nil}
use Rattle.mc_typed.specs.Tree.{Initializer, Initializers, Statements, no_initializers, initializers, no_statements, statements}
use Rattle.types_faults.specs.declared.fault.Fault.{Fault}
use Rattle.types_faults.specs.Faults.{least_of}
use Rattle.types_rules.specs.Scopes.{Scope}
use Rattle.types_rules.specs.Values.{Judged, judged, judged_two, lift2, Found}
use Rattle.types_rules.specs.Declarators.{Listed, after_faults, joined, lengths_judged, listed_none}
use Rattle.types_rules.specs.Judgement.{after, one_of, specifiers_judged}
use Rattle.types_rules.specs.Initializers.{items_judged}
use Rattle.types_rules.specs.Declarations.{append, both_lists}
use Rattle.types_rules.specs.Statements.{followed, followed_judged}
use Rattle.types_statements.specs.Items.{then_item, item_then, joined_items, items_joined}
use Rattle.types_statements.proofs.Folds.{followed_left, both_lists_left, items_left}
use Rattle.types_declarations.proofs.DeclarationNodes.{specifiers_step, parameters_step, lengths_step}
use Rattle.types_faults.specs.Kept.{listed, least}
use Rattle.types_scopes.specs.steps.Squeezed.{squeezed, squeezed_part}
use Rattle.types_declarations.specs.Declarations.{length_then, squeezed_listed}
use Rattle.types_scopes.proofs.Squeezed.{least_alone, least_front, least_back, least_least, least_listed}
use Rattle.types_rules.specs.Types.{CType, ParameterKind}
use Rattle.types_scopes.specs.Found.{judged_of}
use Rattle.types_scopes.specs.declared.found.Judged as found
use Rattle.types_declarations.specs.Declarations.{listed_parameters}
use Rattle.types_declarations.specs.declared.parameters.Parameters.{Parameters}
use Rattle.mc_types.proofs.Turns.{turn}

abbrev left : {A : Type 0} → Judged A → Scope
left x = x.scope

abbrev moved : {A : Type 0} → Judged A → Scope → Judged A
moved x s = record x { scope = s }

abbrev left_listed : {A : Type 0} → Listed A → Scope
left_listed x = x.scope

abbrev moved_listed : {A : Type 0} → Listed A → Scope → Listed A
moved_listed x s = record x { scope = s }

-- ---- faults before those that are left

faults_turn : (fs gs hs : List Fault)
    → least (least (fs ++ least gs) ++ hs) ≡ least (fs ++ (gs ++ hs))
faults_turn fs gs hs =
    least_front (fs ++ least gs) hs ∙ ap least (append_assoc fs (least gs) hs)
    ∙ least_back fs (least gs ++ hs) (gs ++ hs) (least_front gs hs)

pub listed_turn : {A : Type 0} (f g : Option Fault) (x y : Listed A)
    (rest : List A → Scope → Listed A)
    → y ≡ squeezed_listed x → g ≡ least_of (listed f ++ y.faults)
    → squeezed_listed (after_faults (listed g) (rest y.items y.scope))
    ≡ squeezed_listed (after_faults (listed f) (after_faults x.faults (rest x.items x.scope)))
listed_turn {A = A} f g x y rest e h =
    let same : g ≡ least_of (listed f ++ least x.faults) =
    h ∙ ap (λ (v : Listed A). least_of (listed f ++ v.faults)) e in
    ap (λ (v : Listed A). squeezed_listed (after_faults (listed g) (rest v.items v.scope))) e
    ∙ ap (λ (v : Option Fault).
    squeezed_listed (after_faults (listed v) (rest x.items x.scope))) same
    ∙ ap (λ (fs : List Fault).
    let l : Listed A = record (rest x.items x.scope) { faults = fs } in l)
    (faults_turn (listed f) x.faults (rest x.items x.scope).faults)

pub judged_turn : {A : Type 0} (f g : Option Fault) (x y : Judged A)
    (rest : Option A → Scope → Judged A)
    → y ≡ squeezed_part x → g ≡ least_of (listed f ++ y.faults)
    → squeezed_part (after (listed g) (rest y.value y.scope))
    ≡ squeezed_part (after (listed f) (after x.faults (rest x.value x.scope)))
judged_turn {A = A} f g x y rest e h =
    let same : g ≡ least_of (listed f ++ least x.faults) =
    h ∙ ap (λ (v : Judged A). least_of (listed f ++ v.faults)) e in
    ap (λ (v : Judged A). squeezed_part (after (listed g) (rest v.value v.scope))) e
    ∙ ap (λ (v : Option Fault). squeezed_part (after (listed v) (rest x.value x.scope))) same
    ∙ ap (λ (fs : List Fault).
    let j : Judged A = record (rest x.value x.scope) { faults = fs } in j)
    (faults_turn (listed f) x.faults (rest x.value x.scope).faults)

-- a part, and what is listed in the scope after it
pub listed_after : {A B : Type 0} (x y : Judged A) (rest : Option A → Scope → Listed B)
    (z : Listed B) (g : Option Fault)
    → y ≡ squeezed_part x → z ≡ squeezed_listed (rest y.value y.scope)
    → g ≡ least_of (y.faults ++ z.faults)
    → record z { faults = listed g }
    ≡ squeezed_listed (after_faults x.faults (rest x.value x.scope))
listed_after {A = A} {B = B} x y rest z g e f h =
    let whole : z ≡ squeezed_listed (rest x.value x.scope) =
    f ∙ ap (λ (v : Judged A). squeezed_listed (rest v.value v.scope)) e in
    let first : g ≡ least_of (least x.faults ++ least (rest x.value x.scope).faults) =
    h ∙ ap (λ (v : Judged A). least_of (v.faults ++ z.faults)) e
    ∙ ap (λ (v : Listed B). least_of (least x.faults ++ v.faults)) whole in
    ap (λ (v : Listed B). let l : Listed B = record v { faults = listed g } in l) whole
    ∙ ap (λ (v : Option Fault).
    let l : Listed B = record (rest x.value x.scope) { faults = listed v } in l) first
    ∙ ap (λ (fs : List Fault).
    let l : Listed B = record (rest x.value x.scope) { faults = fs } in l)
    (least_front x.faults (least (rest x.value x.scope).faults)
    ∙ least_back x.faults (least (rest x.value x.scope).faults) (rest x.value x.scope).faults
    (least_again (rest x.value x.scope).faults))
  where
    least_again : (fs : List Fault) → least (least fs) ≡ least fs
    least_again fs = ap listed (least_least fs)

-- ---- two parts of which one is squeezed

pub two_front : {A B C : Type 0} (own : List Fault) (v : Option C) (x : Judged A) (y : Judged B)
    → squeezed_part (judged_two own v (squeezed_part x) y) ≡ squeezed_part (judged_two own v x y)
two_front {C = C} own v x y =
    ap (λ (fs : List Fault). let j : Judged C = record { faults = fs; value = v; scope = y.scope } in j)
    (least_front x.faults (y.faults ++ own))

pub two_back : {A B C : Type 0} (own : List Fault) (v : Option C) (x : Judged A) (y : Judged B)
    → squeezed_part (judged_two own v x (squeezed_part y)) ≡ squeezed_part (judged_two own v x y)
two_back {C = C} own v x y =
    ap (λ (fs : List Fault). let j : Judged C = record { faults = fs; value = v; scope = y.scope } in j)
    (least_back x.faults (least y.faults ++ own) (y.faults ++ own) (least_front y.faults own))

-- ---- lists that are joined from the left

pub followed_turn : (x n o p : Judged Statements) (rest : Scope → Judged Statements)
    → o ≡ squeezed_part p → n ≡ squeezed_part (followed_judged (record x { scope = o.scope }) o)
    → squeezed_part (followed_judged n (rest o.scope))
    ≡ squeezed_part (followed_judged x (followed_judged p (rest p.scope)))
followed_turn x n o p rest e f =
    turn squeezed_part squeezed_part squeezed_part left moved followed_judged followed_judged
    followed_judged
    (λ v w u. two_back [] (lift2 followed v.value w.value) (record v { scope = u }) w)
    (λ v w y. two_front [] (lift2 followed (lift2 followed v.value w.value) y.value)
    (followed_judged v w) y
    ∙ ap squeezed_part (followed_left v w y))
    x p rest o n e refl f

pub lists_turn : {A : Type 0} (x n o p : Judged (List A)) (rest : Scope → Judged (List A))
    → o ≡ squeezed_part p → n ≡ squeezed_part (both_lists (record x { scope = o.scope }) o)
    → squeezed_part (both_lists n (rest o.scope))
    ≡ squeezed_part (both_lists x (both_lists p (rest p.scope)))
lists_turn x n o p rest e f =
    turn squeezed_part squeezed_part squeezed_part left moved both_lists both_lists both_lists
    (λ v w u. two_back [] (lift2 append v.value w.value) (record v { scope = u }) w)
    (λ v w y. two_front [] (lift2 append (lift2 append v.value w.value) y.value) (both_lists v w) y
    ∙ ap squeezed_part (both_lists_left v w y))
    x p rest o n e refl f

pub items_turn : (x n : Judged Initializers) (o p : Judged Initializer)
    (rest : Scope → Judged Initializers)
    → o ≡ squeezed_part p → n ≡ squeezed_part (item_then (record x { scope = o.scope }) o)
    → squeezed_part (items_joined n (rest o.scope))
    ≡ squeezed_part (items_joined x (items_judged p (rest p.scope)))
items_turn x n o p rest e f =
    turn squeezed_part squeezed_part squeezed_part left moved item_then items_joined items_judged
    (λ v w u. two_back [] (lift2 then_item v.value w.value) (record v { scope = u }) w)
    (λ v w y. two_front [] (lift2 joined_items (lift2 then_item v.value w.value) y.value)
    (item_then v w) y
    ∙ ap squeezed_part (items_left v w y))
    x p rest o n e refl f

pub specifiers_turn : (x n o p : Judged CType) (rest : Scope → Judged CType)
    → o ≡ squeezed_part p → n ≡ squeezed_part (specifiers_judged (record x { scope = o.scope }) o)
    → squeezed_part (specifiers_judged n (rest o.scope))
    ≡ squeezed_part (specifiers_judged x (specifiers_judged p (rest p.scope)))
specifiers_turn x n o p rest e f =
    turn squeezed_part squeezed_part squeezed_part left moved specifiers_judged specifiers_judged
    specifiers_judged
    (λ v w u. two_back [] (one_of v.value w.value) (record v { scope = u }) w)
    (λ v w y. specifiers_step v w y) x p rest o n e refl f

joined_node : {A : Type 0} (x y : Listed A) (s : Scope)
    → squeezed_listed (joined (record x { scope = s }) (squeezed_listed y))
    ≡ squeezed_listed (joined x y)
joined_node {A = A} x y s =
    ap (λ (fs : List Fault). let l : Listed A = record {
      faults = fs;
      items = x.items ++ y.items;
      scope = y.scope;
    } in l) (least_back x.faults (least y.faults) y.faults (ap listed (least_least y.faults)))

pub parameters_turn : {A : Type 0} (x n o p : Listed A) (rest : Scope → Listed A)
    → o ≡ squeezed_listed p → n ≡ squeezed_listed (joined (record x { scope = o.scope }) o)
    → squeezed_listed (joined n (rest o.scope))
    ≡ squeezed_listed (joined x (joined p (rest p.scope)))
parameters_turn x n o p rest e f =
    turn squeezed_listed squeezed_listed squeezed_listed left_listed moved_listed joined joined
    joined (λ v w u. joined_node v w u) (λ v w y. parameters_step v w y) x p rest o n e refl f

pub lengths_turn : (at : ℕ) (x n : Judged (List ℕ)) (f p : Found) (rest : Scope → Judged (List ℕ))
    → f ≡ squeezed p → n ≡ squeezed_part (length_then x at f)
    → squeezed_part (both_lists n (rest f.scope))
    ≡ squeezed_part (both_lists x (lengths_judged at p (rest p.scope)))
lengths_turn at x n f p rest e h =
    ap (λ (v : Judged (List ℕ)). squeezed_part (both_lists v (rest f.scope))) h
    ∙ ap (λ (v : Found). squeezed_part (both_lists (squeezed_part (length_then x at v)) (rest v.scope))) e
    ∙ lengths_step x at p (rest p.scope)

-- ---- lists before which nothing stands

least_first : (fs : List Fault) → least ([] ++ (fs ++ [])) ≡ least fs
least_first fs = ap least (append-nil fs)

pub specifiers_first : (s : Scope) (y : Judged CType)
    → squeezed_part (specifiers_judged (judged [] None s) y) ≡ squeezed_part y
specifiers_first s y =
    ap (λ (fs : List Fault).
    let j : Judged CType = record { faults = fs; value = y.value; scope = y.scope } in j)
    (least_first y.faults)

append_none : {A : Type 0} (v : Option (List A)) → lift2 append (Some []) v ≡ v
append_none None = refl
append_none (Some xs) = refl

pub lists_first : {A : Type 0} (s : Scope) (y : Judged (List A))
    → squeezed_part (both_lists (judged [] (Some []) s) y) ≡ squeezed_part y
lists_first {A = A} s y =
    ap (λ (fs : List Fault). let j : Judged (List A) = record {
      faults = fs;
      value = lift2 append (Some []) y.value;
      scope = y.scope;
    } in j) (least_first y.faults)
    ∙ ap (λ (v : Option (List A)). let j : Judged (List A) = record {
      faults = least y.faults;
      value = v;
      scope = y.scope;
    } in j) (append_none y.value)

pub joined_first : {A : Type 0} (s : Scope) (y : Listed A)
    → squeezed_listed (joined (listed_none s) y) ≡ squeezed_listed y
joined_first s y = refl

pub followed_first : (s : Scope) (y : Judged Statements)
    → squeezed_part (followed_judged (judged [] (Some no_statements) s) y) ≡ squeezed_part y
followed_first s y =
    ap (λ (fs : List Fault). let j : Judged Statements = record {
      faults = fs;
      value = lift2 followed (Some no_statements) y.value;
      scope = y.scope;
    } in j) (least_first y.faults)
    ∙ ap (λ (v : Option Statements). let j : Judged Statements = record {
      faults = least y.faults;
      value = v;
      scope = y.scope;
    } in j) (none_followed y.value)
  where
    none_followed : (v : Option Statements) → lift2 followed (Some no_statements) v ≡ v
    none_followed None = refl
    none_followed (Some xs) = refl

followed_none : (v : Option Statements) → lift2 followed v (Some no_statements) ≡ v
followed_none None = refl
followed_none (Some xs) = ap Some (to_end xs)
  where
    to_end : (xs : Statements) → followed xs no_statements ≡ xs
    to_end no_statements = refl
    to_end (statements one rest) = ap (statements one) (to_end rest)

pub followed_last : (x : Judged Statements)
    → squeezed_part (followed_judged x (judged [] (Some no_statements) x.scope)) ≡ squeezed_part x
followed_last x =
    ap (λ (fs : List Fault). let j : Judged Statements = record {
      faults = least fs;
      value = lift2 followed x.value (Some no_statements);
      scope = x.scope;
    } in j) (append-nil x.faults)
    ∙ ap (λ (v : Option Statements). let j : Judged Statements = record {
      faults = least x.faults;
      value = v;
      scope = x.scope;
    } in j) (followed_none x.value)

-- An item of a block, found as `o`, before those that are left: `rest` is found of them, and `all`
-- of the item and them.
pub followed_item : (x n o rest all : Judged Statements) (s : Scope)
    → squeezed_part (followed_judged o rest) ≡ squeezed_part all
    → n ≡ squeezed_part (followed_judged (record x { scope = s }) o)
    → squeezed_part (followed_judged n rest) ≡ squeezed_part (followed_judged x all)
followed_item x n o rest all s e f =
    ap (λ (v : Judged Statements). squeezed_part (followed_judged v rest)) f
    ∙ two_front [] (lift2 followed (lift2 followed x.value o.value) rest.value)
    (followed_judged (record x { scope = s }) o) rest
    ∙ ap squeezed_part (followed_left x o rest)
    ∙ sym (two_back [] (lift2 followed x.value (followed_judged o rest).value) x (followed_judged o rest))
    ∙ ap (λ (v : Judged Statements). squeezed_part (followed_judged x v)) e
    ∙ two_back [] (lift2 followed x.value all.value) x all

pub items_first : (s : Scope) (y : Judged Initializers)
    → squeezed_part (items_joined (judged [] (Some no_initializers) s) y) ≡ squeezed_part y
items_first s y =
    ap (λ (fs : List Fault). let j : Judged Initializers = record {
      faults = fs;
      value = lift2 joined_items (Some no_initializers) y.value;
      scope = y.scope;
    } in j) (least_first y.faults)
    ∙ ap (λ (v : Option Initializers). let j : Judged Initializers = record {
      faults = least y.faults;
      value = v;
      scope = y.scope;
    } in j) (none_joined y.value)
  where
    none_joined : (v : Option Initializers) → lift2 joined_items (Some no_initializers) v ≡ v
    none_joined None = refl
    none_joined (Some xs) = refl

joined_none : (v : Option Initializers) → lift2 joined_items v (Some no_initializers) ≡ v
joined_none None = refl
joined_none (Some xs) = ap Some (to_end xs)
  where
    to_end : (xs : Initializers) → joined_items xs no_initializers ≡ xs
    to_end no_initializers = refl
    to_end (initializers one rest) = ap (initializers one) (to_end rest)

pub items_last : (x : Judged Initializers)
    → squeezed_part (items_joined x (judged [] (Some no_initializers) x.scope)) ≡ squeezed_part x
items_last x =
    ap (λ (fs : List Fault). let j : Judged Initializers = record {
      faults = least fs;
      value = lift2 joined_items x.value (Some no_initializers);
      scope = x.scope;
    } in j) (append-nil x.faults)
    ∙ ap (λ (v : Option Initializers). let j : Judged Initializers = record {
      faults = least x.faults;
      value = v;
      scope = x.scope;
    } in j) (joined_none x.value)

-- ---- what the program has found keeps one fault

pub squeezed_judged : {A B : Type 0} (f : A → B) (x : found.Judged A) (s : Scope)
    → squeezed_part (judged_of f x s) ≡ judged_of f x s
squeezed_judged {B = B} f x s =
    ap (λ (o : Option Fault).
    let j : Judged B = record (judged_of f x s) { faults = listed o } in j) (least_listed x.fault)

pub squeezed_parameters : (x : Parameters) (s : Scope)
    → squeezed_listed (listed_parameters x s) ≡ listed_parameters x s
squeezed_parameters x s =
    ap (λ (o : Option Fault). let l : Listed (Option ParameterKind) =
    record (listed_parameters x s) { faults = listed o } in l) (least_listed x.fault)

-- and no other after them
pub squeezed_last : {A : Type 0} (o : Option Fault) (xs : List A) (s : Scope)
    → squeezed_listed (after_faults (listed o) (record { faults = []; items = xs; scope = s }))
    ≡ record { faults = listed o; items = xs; scope = s }
squeezed_last {A = A} o xs s =
    ap (λ (fs : List Fault).
    let l : Listed A = record { faults = fs; items = xs; scope = s } in l) (least_alone o)

pub judged_last : {A : Type 0} (o : Option Fault) (v : Option A) (s : Scope)
    → squeezed_part (after (listed o) (judged [] v s))
    ≡ record { faults = listed o; value = v; scope = s }
judged_last {A = A} o v s =
    ap (λ (fs : List Fault).
    let j : Judged A = record { faults = fs; value = v; scope = s } in j) (least_alone o)
