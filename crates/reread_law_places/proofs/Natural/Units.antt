-- What is found of a definition and of a unit, and what is said of it, at other places.
use Rattle.std.proofs.Common.{◌≡◌, ℕ, Bool, false, ◌||◌, nat_lt, List, [], ◌∷◌, length, map, unwrap_or, Option, Some, None, option_map, refl, sym, ap, ◌∙◌}
use Rattle.mc_span.specs.declared.span.Span.{Span}
use Rattle.mc_tree.specs.Tree.{Name, Expression, Specifiers, Parameters, ParameterList, Parameter, BlockItems, Item}
use Rattle.mc_tree.specs.Tree as tree
use Rattle.mc_limits.specs.Limits.{most_frame_cells}
use Rattle.mc_typed.specs.Tree.{Statements, Function, Program}
use Rattle.types_faults.specs.declared.fault.Fault.{Fault}
use Rattle.types_faults.specs.declared.fault.FaultKind.TheVariants.{Redeclared, Mismatch, Limit}
use Rattle.types_rules.specs.Profile.{most_numbered}
use Rattle.types_rules.specs.Types.{Base, CType, Signature, structures_from}
use Rattle.types_rules.specs.Scopes.{Meaning, Scope, file_scope, meaning_here, is_external, prototype, body_scope, left_function}
use Rattle.types_rules.specs.Values.{Value, Judged, Found}
use Rattle.types_rules.specs.Limits.{frame_faults}
use Rattle.types_rules.specs.Judgement.{judge}
use Rattle.types_rules.specs.Declarations.{append, all_of, has_body, result_of, signature_of, repeated_faults, function_faults}
use Rattle.types_rules.specs.Statements.{outermost}
use Rattle.types_rules.specs.Bodies.{judge_block}
use Rattle.types_rules.specs.Typing.{parameter_names_faults, list_names_faults, names_faults, is_incomplete, definition_faults, parameter_type, result_type, function_from, with_function, function_listed, judge_definition, judge_item, judge_unit, found_of, faults_of, program_from, typing_of, IsTypingOf}
use Rattle.reread_law_texts.specs.alike.Moves.{Move, moved_span}
use Rattle.reread_law_texts.specs.alike.Trees.{moved, moved_name, moved_specifiers, moved_parameters, moved_parameter, moved_parameter_list, moved_block, moved_item, moved_unit}
use Rattle.reread_law_places.specs.natural.Moved.{moved_faults, moved_objects, moved_function, moved_functions, moved_program}
use Rattle.reread_law_places.specs.natural.Settled.{nowhere, settled_function, settled_functions, settled}
use Rattle.reread_law_places.specs.natural.Found.{moved_value, settled_value, moved_found, settled_found}
use Rattle.reread_law_places.proofs.Natural.Basics.{Shifts, both, none, one, one_if, same2, same3, Goes}
use Rattle.reread_law_places.proofs.Natural.Values.{Follows}
use Rattle.reread_law_places.proofs.Natural.Words.{bodies_kept}
use Rattle.reread_law_places.proofs.Natural.Related.{Both, neither, each, map_both, lift2_both, both_carried, both_equal, settled_both}
use Rattle.reread_law_places.proofs.Natural.Declarators.{typed_goes}
use Rattle.reread_law_places.proofs.Natural.Judgement.{go, specifiers_go, parameters_go}
use Rattle.reread_law_places.proofs.Natural.Declarations.{repeated_go, function_faults_go, declaration_go}
use Rattle.reread_law_places.proofs.Natural.Statements.{Runs}
use Rattle.reread_law_places.proofs.Natural.Bodies.{block_go}

-- ---- expressions

abbrev found_from : List Fault → Option Value → Bool → Bool → Scope → Found
found_from faults value place constant s = record { faults = faults; value = value; place = place; constant = constant; scope = s }

found_same : {m : Move} {x y : Found} → Follows m x y → settled_found x ≡ settled_found (moved_found m y)
found_same {m = m} {x = x} {y = y} h =
    same3 (λ f v p. found_from f v p x.constant x.scope) h.faults.is h.value.is h.place
    ∙ same2 (found_from (moved_faults m y.faults) (option_map settled_value (option_map (moved_value m) y.value)) y.place) h.constant h.scope

pub expressions_move : (m : Move) (a : Expression) (s : Scope) → settled_found (judge (moved m a) s) ≡ settled_found (moved_found m (judge a s))
expressions_move m a s = found_same (go m a (refl {a = s}))

-- ---- definitions

parameter_names_go : (m : Move) (p : Parameter) → Shifts m (parameter_names_faults (moved_parameter m p)) (parameter_names_faults p)
parameter_names_go m (tree.parameter all stars None all_lengths span) = one m Mismatch span.start
parameter_names_go m (tree.parameter all stars (Some name) all_lengths span) = none

list_names_go : (m : Move) (all : ParameterList) → Shifts m (list_names_faults (moved_parameter_list m all)) (list_names_faults all)
list_names_go m tree.no_parameters = none
list_names_go m (tree.parameters p rest) = both (parameter_names_go m p) (list_names_go m rest)

names_go : (m : Move) (all : Parameters) → Shifts m (names_faults (moved_parameters m all)) (names_faults all)
names_go m (tree.Listed all span) = list_names_go m all
names_go m (tree.Empty span) = none
names_go m (tree.Void span) = none

repeated_from : (m : Move) (at : ℕ) {o p : Option Meaning} {f g : Option Signature} → o ≡ p → f ≡ g → Shifts m (repeated_faults o f (m.start at)) (repeated_faults p g at)
repeated_from m at {p = p} {g = g} e h = rw (e, h) (repeated_go m p g at)

function_faults_from : (m : Move) (name : Name) {a b : Option CType} {j k : ℕ} {f g : Option Signature} → a ≡ b → j ≡ k → f ≡ g → Shifts m (function_faults (moved_name m name) a j f) (function_faults name b k g)
function_faults_from m name {b = b} {k = k} {g = g} e h i = rw (e, h, i) (function_faults_go m name b k g)

definition_faults_go : (m : Move) (name : Name) {a b : Option Base} {s u : Scope} → a ≡ b → s ≡ u → Shifts m (definition_faults (moved_name m name) a s) (definition_faults name b u)
definition_faults_go m name e h =
    both (one_if m Mismatch name.span.start (same2 (λ (s : Scope) (b : Option Base). is_incomplete s.structures b) h e))
    (one_if m Redeclared name.span.start (ap (λ (s : Scope). has_body (meaning_here name s) || is_external name) h))

frame_go : (m : Move) (at : ℕ) {s u : Scope} → s ≡ u → Shifts m (frame_faults s.frame (length s.objects) (m.start at)) (frame_faults u.frame (length u.objects) at)
frame_go m at h = one_if m Limit at (ap (λ (s : Scope). nat_lt most_frame_cells s.frame || nat_lt most_numbered (length s.objects)) h)

abbrev Functions : Move → List Function → List Function → Type 0
Functions m x y = settled_functions x ≡ settled_functions (moved_functions m y)

abbrev functions_with : Move → Name → Scope → Signature → Statements → List Function
functions_with m name s f body = record {
  name = name.text;
  name_span = moved_span m name.span;
  parameters = map (parameter_type s.structures) f.parameters;
  result = result_type s.structures f.result;
  objects = s.objects;
  body = body;
  closing = nowhere;
} ∷ []

function_listed_both : (m : Move) (name : Name) (span : Span) {f g : Option Signature} {x y : Judged Statements} → f ≡ g → Goes m (Both (Runs m)) x y
    → Both (Functions m) (function_listed (moved_name m name) (moved_span m span) f x) (function_listed name span g y)
function_listed_both m name span {x = x} {y = y} e h =
    lift2_both (Functions m) (λ f body. function_from (moved_name m name) (moved_span m span) x.scope f body ∷ []) (λ f body. function_from name span y.scope f body ∷ [])
    (λ f g v w p q. same3 (functions_with m name) h.scope p q) (both_equal e) h.value

block_from : (m : Move) (items : BlockItems) {a b : Option CType} {s u : Scope} → a ≡ b → s ≡ u
    → Goes m (Both (Runs m)) (judge_block (outermost (result_of a)) (moved_block m items) s) (judge_block (outermost (result_of b)) items u)
block_from m items {b = b} e h = rw e (block_go m (outermost (result_of b)) items h)

definition_go : (m : Move) (all : Specifiers) (name : Name) (parameters : Parameters) (body : BlockItems) (span : Span) {s u : Scope} → s ≡ u
    → Goes m (Both (Functions m)) (judge_definition (moved_specifiers m all) (moved_name m name) (moved_parameters m parameters) (moved_block m body) (moved_span m span) s) (judge_definition all name parameters body span u)
definition_go m all name parameters body span h =
    let x = typed_goes m span.start all (specifiers_go m false all h) in
    let y = parameters_go m parameters (ap prototype x.scope) in
    let f = same2 (λ r items. signature_of (result_of r) (all_of items)) x.value y.items in
    let file = same2 (with_function name) f x.scope in
    let z = block_from m body x.value (same3 body_scope x.scope file y.scope) in
    let at = name.span.start in
    record {
      faults = both x.faults (both y.faults (both (names_go m parameters) (both (repeated_from m at (ap (meaning_here name) x.scope) f) (both (function_faults_from m name x.value (ap length y.items) f)
          (both (definition_faults_go m name (ap result_of x.value) x.scope) (both z.faults (frame_go m at z.scope)))))));
      value = function_listed_both m name span f z;
      scope = same2 left_function file z.scope;
    }

-- ---- units

appended_settled : (x y : List Function) → settled_functions (append x y) ≡ append (settled_functions x) (settled_functions y)
appended_settled [] y = refl
appended_settled (f ∷ x) y = ap (λ l. settled_function f ∷ l) (appended_settled x y)

appended_moved : (m : Move) (x y : List Function) → moved_functions m (append x y) ≡ append (moved_functions m x) (moved_functions m y)
appended_moved m [] y = refl
appended_moved m (f ∷ x) y = ap (λ l. moved_function m f ∷ l) (appended_moved m x y)

appended : (m : Move) (x y v w : List Function) → Functions m x y → Functions m v w → Functions m (append x v) (append y w)
appended m x y v w e f =
    appended_settled x v ∙ same2 append e f ∙ sym (appended_settled (moved_functions m y) (moved_functions m w)) ∙ ap settled_functions (sym (appended_moved m y w))

item_go : (m : Move) (i : Item) {s u : Scope} → s ≡ u → Goes m (Both (Functions m)) (judge_item (moved_item m i) s) (judge_item i u)
item_go m (tree.Declared d) h =
    let x = declaration_go m d h in
    record { faults = x.faults; value = map_both (Functions m) (λ ds. []) (λ ds. []) (λ x y e. refl) (both_carried (moved_objects m) x.value); scope = x.scope }
item_go m (tree.Defined all (tree.function stars name parameters at) body span) h = definition_go m all name parameters body span h
item_go m (tree.Defined all (tree.object stars name all_lengths at) body span) h = record { faults = one m Mismatch span.start; value = neither; scope = h }

unit_go : (m : Move) (unit : List Item) {s u : Scope} → s ≡ u → Goes m (Both (Functions m)) (judge_unit (moved_unit m unit) s) (judge_unit unit u)
unit_go m [] h = record { faults = none; value = each refl; scope = h }
unit_go m (i ∷ rest) h =
    let x = item_go m i h in
    let y = unit_go m rest x.scope in
    record { faults = both x.faults (both y.faults none); value = lift2_both (Functions m) append append (appended m) x.value y.value; scope = y.scope }

found_goes : (m : Move) (unit : List Item) → Goes m (Both (Functions m)) (found_of (moved_unit m unit)) (found_of unit)
found_goes m unit = unit_go m unit (ap file_scope (bodies_kept m unit))

-- ---- what is said of a unit

abbrev Programs : Move → Program → Program → Type 0
Programs m p q = settled p ≡ settled (moved_program m q)

abbrev program_with : Scope → List Function → Program
program_with s functions = record { functions = functions; statics = s.statics; structures = structures_from 0 s.structures }

pub faults_move : (m : Move) (unit : List Item) → faults_of (moved_unit m unit) ≡ moved_faults m (faults_of unit)
faults_move m unit = (found_goes m unit).faults.is

programs_both : (m : Move) (unit : List Item) → Both (Programs m) (typing_of (moved_unit m unit)) (typing_of unit)
programs_both m unit =
    let h = found_goes m unit in
    map_both (Programs m) (program_from (found_of (moved_unit m unit)).scope) (program_from (found_of unit).scope) (λ x y e. same2 program_with h.scope e) h.value

pub typings_move : (m : Move) (unit : List Item) → option_map settled (typing_of (moved_unit m unit)) ≡ option_map settled (option_map (moved_program m) (typing_of unit))
typings_move m unit = settled_both settled (moved_program m) (programs_both m unit)

there_too : {m : Move} {a b : Option Program} {p : Program} → Both (Programs m) a b → b ≡ Some p → (q : Program) × (a ≡ Some q) × Programs m q p
there_too neither e = absurd (cc)
there_too {m = m} (each {x = x} {y = y} h) e = (x, refl, h ∙ ap (λ o. settled (moved_program m o)) (ap (λ o. unwrap_or o y) e))

there_before : {m : Move} {a b : Option Program} {q : Program} → Both (Programs m) a b → a ≡ Some q → (p : Program) × (b ≡ Some p) × Programs m q p
there_before neither e = absurd (cc)
there_before (each {x = x} {y = y} h) e = (y, refl, sym (ap settled (ap (λ o. unwrap_or o x) e)) ∙ h)

no_faults : (m : Move) (fs : List Fault) → moved_faults m fs ≡ [] → fs ≡ []
no_faults m [] e = refl
no_faults m (f ∷ fs) e = absurd (cc)

pub programs_move : (m : Move) (unit : List Item) (p : Program) → IsTypingOf unit p → (q : Program) × IsTypingOf (moved_unit m unit) q × (settled q ≡ settled (moved_program m p))
programs_move m unit p h =
    let q = there_too (programs_both m unit) h.1 in
    (q.0, (faults_move m unit ∙ ap (moved_faults m) h.0, q.1), q.2)

pub programs_return : (m : Move) (unit : List Item) (q : Program) → IsTypingOf (moved_unit m unit) q → (p : Program) × IsTypingOf unit p × (settled q ≡ settled (moved_program m p))
programs_return m unit q h =
    let p = there_before (programs_both m unit) h.1 in
    (p.0, (no_faults m (faults_of unit) (sym (faults_move m unit) ∙ h.0), p.1), p.2)
