-- What is found of a definition and of a unit, from what is found of their parts: of the faults of
-- each the least alone is kept.
use Rattle.std.proofs.Common.{◌≡◌, ◌∙◌, ◌<◌, ◌≤◌, ◌^◌, ℕ, false, List, [], ◌∷◌, Option, Some, None, option_map, take, length, map, subst, refl, sym, ap, arith}
use Rattle.std.proofs.lemmas.List.{length-take}
use Rattle.mc_span.specs.declared.span.Span.{Span}
use Rattle.mc_tree.specs.Tree as t
use Rattle.mc_tree.specs.Length.{of_item, token_count}
use Rattle.mc_typed.specs.Tree.{Function, Statements}
use Rattle.types_faults.specs.declared.fault.Fault.{Fault}
use Rattle.types_faults.specs.Faults.{least_of}
use Rattle.types_rules.specs.Types.{CType, ParameterKind}
use Rattle.types_rules.specs.Scopes.{Entry, Scope, prototype}
use Rattle.types_rules.specs.Values.{Judged}
use Rattle.types_rules.specs.Declarators.{Listed}
use Rattle.types_rules.specs.Declarations.{result_of}
use Rattle.types_rules.specs.Judgement.{judge_parameters, judge_specifiers, typed_by}
use Rattle.types_rules.specs.Statements.{outermost}
use Rattle.types_rules.specs.Bodies.{judge_block}
use Rattle.types_rules.specs.Typing.{IsFirstFaultOf, IsTypingOf, faults_of, found_of, judge_definition, program_from, with_function}
use Rattle.types_faults.proofs.Leasts.{least_is_first, no_least}
use Rattle.laws_soundness.specs.Laws.{IsAccepted}
use Rattle.laws_soundness.proofs.Units.{units_typed}
use Rattle.types_scopes.specs.Blocks.{Around, around}
use Rattle.types_faults.specs.Kept.{listed, least}
use Rattle.types_scopes.specs.steps.Squeezed.{squeezed_part}
use Rattle.types_declarations.specs.Bodies.{BodyBegun, definition_begun, definition_ended, squeezed_body}
use Rattle.types_declarations.specs.Declarations.{squeezed_listed}
use Rattle.types_declarations.proofs.BodyHalves.{definition_begun_node, definition_ended_node, definition_halves}
use Rattle.types_declarations.proofs.Growth.{names_before}

-- the names of before stay where the parameters are
pub names_stay : (ps : t.Parameters) (s : Scope) (y : Listed (Option ParameterKind))
    → y ≡ squeezed_listed (judge_parameters ps (prototype s))
    → take (length s.names) y.scope.names ≡ s.names
names_stay ps s y e =
    ap (λ (v : Listed (Option ParameterKind)). take (length s.names) v.scope.names) e
    ∙ names_before ps s

pub in_definition : (all : t.Specifiers) (name : t.Name) (ps : t.Parameters) (body : t.BlockItems)
    (span : Span) (s u : Scope) (x : Judged CType) (y : Listed (Option ParameterKind))
    (b : BodyBegun) (file : Around) (z : Judged Statements)
    → x ≡ squeezed_part (typed_by span.start all (judge_specifiers false all s))
    → y ≡ squeezed_listed (judge_parameters ps (prototype x.scope))
    → b ≡ squeezed_body (definition_begun name ps x y)
    → file ≡ around (with_function name b.signature x.scope)
    → z ≡ squeezed_part (judge_block (outermost (result_of x.value)) body b.scope)
    → squeezed_part (definition_ended name span (record b { scope = u }) file z)
    ≡ squeezed_part (judge_definition all name ps body span s)
in_definition all name ps body span s u x y b file z hx hy hb hf hz =
    let p : Judged CType = typed_by span.start all (judge_specifiers false all s) in
    let q : Listed (Option ParameterKind) = judge_parameters ps (prototype p.scope) in
    let w : BodyBegun = definition_begun name ps p q in
    let a : Around = around (with_function name w.signature p.scope) in
    let v : Judged Statements = judge_block (outermost (result_of p.value)) body w.scope in
    let ey : y ≡ squeezed_listed q =
    hy ∙ ap (λ (k : Judged CType). squeezed_listed (judge_parameters ps (prototype k.scope))) hx in
    let eb : b ≡ squeezed_body w =
    hb ∙ ap (λ (k : Judged CType). squeezed_body (definition_begun name ps k y)) hx
    ∙ ap (λ (k : Listed (Option ParameterKind)).
    squeezed_body (definition_begun name ps (squeezed_part p) k)) ey
    ∙ definition_begun_node name ps p q in
    let ef : file ≡ a =
    hf ∙ ap (λ (k : BodyBegun). around (with_function name k.signature x.scope)) eb
    ∙ ap (λ (k : Judged CType). around (with_function name w.signature k.scope)) hx in
    let ez : z ≡ squeezed_part v =
    hz ∙ ap (λ (k : BodyBegun).
    squeezed_part (judge_block (outermost (result_of x.value)) body k.scope)) eb
    ∙ ap (λ (k : Judged CType).
    squeezed_part (judge_block (outermost (result_of k.value)) body w.scope)) hx in
    ap (λ (k : BodyBegun).
    squeezed_part (definition_ended name span (record k { scope = u }) file z)) eb
    ∙ ap (λ (k : Around).
    squeezed_part (definition_ended name span (record (squeezed_body w) { scope = u }) k z)) ef
    ∙ ap (λ (k : Judged Statements).
    squeezed_part (definition_ended name span (record (squeezed_body w) { scope = u }) a k)) ez
    ∙ definition_ended_node name span w a v
    ∙ ap squeezed_part (sym (definition_halves all name ps body span s p refl))

-- a list without parameters may be empty or `void`
pub in_empty : (all : t.Specifiers) (name : t.Name) (body : t.BlockItems) (span at : Span)
    (s : Scope)
    → squeezed_part (judge_definition all name (t.Listed t.no_parameters at) body span s)
    ≡ squeezed_part (judge_definition all name (t.Empty at) body span s)
in_empty all name body span at s = refl

pub in_void : (all : t.Specifiers) (name : t.Name) (body : t.BlockItems) (span at : Span)
    (s : Scope)
    → squeezed_part (judge_definition all name (t.Listed t.no_parameters at) body span s)
    ≡ squeezed_part (judge_definition all name (t.Void at) body span s)
in_void all name body span at s = refl

-- ---- units

no_fault : (o : Option Fault) → listed o ≡ [] → o ≡ None
no_fault None h = refl
no_fault (Some f) h = cc

-- a unit without a fault has the typed program of what is found
pub typed_program : (items : List t.Item) (x : Judged (List Function)) (functions : List Function)
    → x ≡ squeezed_part (found_of items) → x.faults ≡ [] → x.value ≡ Some functions
    → IsTypingOf items (program_from x.scope functions)
typed_program items x functions e none some = (
  no_least (faults_of items)
      (no_fault (least_of (faults_of items))
      (sym (ap (λ (v : Judged (List Function)). v.faults) e) ∙ none)),
  sym (ap (λ (v : Judged (List Function)). option_map (program_from v.scope) v.value) e)
      ∙ ap (λ (o : Option (List Function)). option_map (program_from x.scope) o) some,
)

first_listed : (o : Option Fault) (f : Fault) → listed o ≡ f ∷ [] → o ≡ Some f
first_listed None f h = cc
first_listed (Some g) f h = cc

-- a fault that is found is the first one of the unit
pub unit_first : (items : List t.Item) (x : Judged (List Function)) (f : Fault)
    → x ≡ squeezed_part (found_of items) → x.faults ≡ f ∷ [] → IsFirstFaultOf items f
unit_first items x f e some =
    least_is_first (faults_of items) f (first_listed (least_of (faults_of items)) f
    (sym (ap (λ (v : Judged (List Function)). v.faults) e) ∙ some))

-- an accepted unit without a fault has functions
pub typed_value : (items : List t.Item) (x : Judged (List Function)) → IsAccepted items
    → x ≡ squeezed_part (found_of items) → x.faults ≡ [] → x.value ≡ None → ⊥
typed_value items x inside e none h =
    let u = units_typed items inside (no_least (faults_of items)
    (no_fault (least_of (faults_of items))
    (sym (ap (λ (v : Judged (List Function)). v.faults) e) ∙ none))) in
    let clash : None ≡ Some u.0 =
    sym (ap (λ (o : Option (List Function)). option_map (program_from (found_of items).scope) o)
    (sym (ap (λ (v : Judged (List Function)). v.value) e) ∙ h)) ∙ u.1 in
    cc

-- ---- numbers of parts

counted : {A B : Type 0} (f : A → B) (xs : List A) → length (map f xs) ≡ length xs
counted f [] = refl
counted f (x ∷ xs) = omega (arith, counted f xs)

-- an item stands for a token at least
item_counted : (i : t.Item) → 1 ≤ of_item i
item_counted (t.Declared (t.declaration s ds span)) = omega arith
item_counted (t.Defined s d b span) = omega arith

items_counted : (items : List t.Item) → length items ≤ token_count items
items_counted [] = omega arith
items_counted (i ∷ rest) = omega (arith, item_counted i, items_counted rest)

pub few_items : {A : Type 0} (f : A → t.Item) (xs : List A) → token_count (map f xs) < 2 ^ 31
    → length xs < 2 ^ 32
few_items f xs short =
    let a = items_counted (map f xs) in
    let b = counted f xs in
    omega (arith, short, a, b)

-- the names of before stand among those that stay
pub within : {A : Type 0} (f : A → Entry) (n : ℕ) (before : List Entry) (names : List A)
    → n ≡ length before → take (length before) (map f names) ≡ before → n ≤ length names
within f n before names is stay =
    let a : length (take (length before) (map f names)) ≡ length before = ap length stay in
    let b = length-take (length before) (map f names) in
    let c = counted f names in
    omega (arith, is, a, b, c)
