-- What is found of calls and their arguments, at other places.
use Rattle.std.proofs.Common.{◌≡◌, ℕ, ◌+◌, ◌==◌, Bool, true, false, not, ◌&&◌, ◌||◌, if◌then◌else◌, List, [], ◌∷◌, length, is_none, Option, Some, None, option_map, option_and_then, refl, ap, ◌∙◌}
use Rattle.mc_span.specs.declared.span.Span.{Span}
use Rattle.mc_tree.specs.Tree.{Name, Expression, Expressions, span_of}
use Rattle.mc_tree.specs.Tree as tree
use Rattle.mc_typed.specs.Tree.{Place, Argument, Arguments, Effect}
use Rattle.mc_typed.specs.Tree as t
use Rattle.types_faults.specs.declared.fault.FaultKind.TheVariants.{Undeclared, Mismatch, NoBody}
use Rattle.types_rules.specs.Profile.{sum_of}
use Rattle.types_rules.specs.Types.{Base, Void, Integer, Tagged, CType, Structure, is_complete, ParameterKind, ByValue, ByArray, Signature}
use Rattle.types_rules.specs.Scopes.{Meaning, Function, Scope, function_number, is_input, is_output, is_external, next_slot, with_counted, cells_counted}
use Rattle.types_rules.specs.Scopes as scope
use Rattle.types_rules.specs.Values.{Value, Number, Stored, Borrowed, Returned, Assigned, Kind, Found, fails, number_in, structure_in, lift2}
use Rattle.types_rules.specs.Expressions.{convert_to}
use Rattle.types_rules.specs.Calls.{array_fits, argument_fits, argument_faults, stored_array, array_argument, argument_of, copy_of, argument_value, Given, argument_judged, no_more, arguments_judged, argument_count, gives, signature_faults, body_faults, callee_faults, output_of, returned, called, call_value, after_call, call_found, comma_found}
use Rattle.reread_law_texts.specs.alike.Moves.{Move, moved_span}
use Rattle.reread_law_texts.specs.alike.Trees.{moved, moved_name, moved_expressions}
use Rattle.reread_law_places.specs.natural.Moved.{moved_place, moved_number, moved_structure, moved_argument, moved_arguments}
use Rattle.reread_law_places.specs.natural.Found.{moved_value}
use Rattle.reread_law_places.proofs.Natural.Basics.{Shifts, both, none, one, one_if, same2, same3, lift_moved, map_over, then_over}
use Rattle.reread_law_places.proofs.Natural.Numbers.{convert_moved}
use Rattle.reread_law_places.proofs.Natural.Words.{start_kept}
use Rattle.reread_law_places.proofs.Natural.Values.{Like, exact, Follows, carried, kind_same, number_moved, structure_moved}

-- of arguments: also, how many cells are copied
pub record Passes {A : Type 0} (m : Move) (f : A → A) (x y : Given A) : Type 0 where
  pub faults : Shifts m x.faults y.faults
  pub value : x.value ≡ option_map f y.value
  pub copied : x.copied ≡ y.copied
  pub scope : x.scope ≡ y.scope

-- ---- arguments

argument_faults_go : (m : Move) (at : ℕ) (p : Option ParameterKind) {k l : Option Kind} → k ≡ l → Shifts m (argument_faults (m.start at) p k) (argument_faults at p l)
argument_faults_go m at None e = none
argument_faults_go m at (Some p) e = one_if m Mismatch at (ap (fails (argument_fits p)) e)

stored_array_moved : (m : Move) (u : CType) (place : Place) (v : CType) (ns : List ℕ) → stored_array u (moved_place m place) v ns ≡ option_map (moved_argument m) (stored_array u place v ns)
stored_array_moved m u place v [] = refl
stored_array_moved m u place v (n ∷ ns) = by_test (array_fits u (record v { lengths = ns }))
  where
    by_test : (b : Bool) → (if b then Some (t.ArrayArgument (moved_place m place) n) else None) ≡ option_map (moved_argument m) (if b then Some (t.ArrayArgument place n) else None)
    by_test true = refl
    by_test false = refl

array_moved : (m : Move) (u : CType) (v : Value) → array_argument u (moved_value m v) ≡ option_map (moved_argument m) (array_argument u v)
array_moved m u (Stored place v) = stored_array_moved m u place v v.lengths
array_moved m u (Borrowed array v span) = by_test (array_fits u v)
  where
    by_test : (b : Bool) → (if b then Some (t.AgainArgument array (moved_span m span)) else None) ≡ option_map (moved_argument m) (if b then Some (t.AgainArgument array span) else None)
    by_test true = refl
    by_test false = refl
array_moved m u v = refl

argument_moved : (m : Move) (s : Scope) (p : ParameterKind) (v : Value) → argument_of s p (moved_value m v) ≡ option_map (moved_argument m) (argument_of s p v)
argument_moved m s (ByValue (Integer a)) v =
    ap (option_map (λ e. t.NumberArgument (convert_to a e))) (number_moved m v)
    ∙ map_over (λ e. t.NumberArgument (convert_to a e)) (λ e. t.NumberArgument (convert_to a e)) (moved_argument m) (moved_number m) (number_in v) (λ e. ap t.NumberArgument (convert_moved m a e))
argument_moved m s (ByValue (Tagged k)) v =
    ap (option_map (λ w. t.StructureArgument w (next_slot s))) (structure_moved m k v)
    ∙ map_over (λ w. t.StructureArgument w (next_slot s)) (λ w. t.StructureArgument w (next_slot s)) (moved_argument m) (moved_structure m) (structure_in k v) (λ w. refl)
argument_moved m s (ByValue Void) v = refl
argument_moved m s (ByArray u) v = array_moved m u v

argument_blind : (s : Scope) (p : ParameterKind) (effect : Effect) → argument_of s p (Assigned effect) ≡ None
argument_blind s (ByValue (Integer a)) effect = refl
argument_blind s (ByValue (Tagged k)) effect = refl
argument_blind s (ByValue Void) effect = refl
argument_blind s (ByArray u) effect = refl

argument_value_goes : (m : Move) (s : Scope) (p : Option ParameterKind) {a b : Option Value} → Like m a b → argument_value s p a ≡ option_map (moved_argument m) (argument_value s p b)
argument_value_goes m s None h = refl
argument_value_goes m s (Some p) h = carried (argument_of s p) (argument_of s p) (moved_argument m) (argument_blind s p) (argument_moved m s p) h

copy_kept : (m : Move) (s : Scope) (p : Option ParameterKind) (a : Option Argument) → copy_of s p (option_map (moved_argument m) a) ≡ copy_of s p a
copy_kept m s (Some (ByValue (Tagged k))) (Some a) = refl
copy_kept m s (Some (ByValue (Tagged k))) None = refl
copy_kept m s p a = refl

argument_goes : (m : Move) (at : ℕ) (p : Option ParameterKind) {x v : Found} → Follows m x v → Passes m (moved_argument m) (argument_judged (m.start at) p x) (argument_judged at p v)
argument_goes m at p {x = x} {v = v} h =
    let given = ap (λ s. argument_value s p x.value) h.scope ∙ argument_value_goes m v.scope p h.value in
    let copy = same2 (λ s a. copy_of s p a) h.scope given ∙ copy_kept m v.scope p (argument_value v.scope p v.value) in
    record {
      faults = both h.faults (argument_faults_go m at p (kind_same h));
      value = given;
      copied = ap cells_counted copy;
      scope = same2 with_counted copy h.scope;
    }

pub argument_from : (m : Move) (a : Expression) (p : Option ParameterKind) {x v : Found} → Follows m x v → Passes m (moved_argument m) (argument_judged (span_of (moved m a)).start p x) (argument_judged (span_of a).start p v)
argument_from m a p h = rw (start_kept m a) (argument_goes m (span_of a).start p h)

pub no_more_moved : (m : Move) (ps : List ParameterKind) → no_more ps ≡ option_map (moved_arguments m) (no_more ps)
no_more_moved m [] = refl
no_more_moved m (p ∷ ps) = refl

pub arguments_goes : (m : Move) {x v : Given Argument} {y w : Given Arguments} → Passes m (moved_argument m) x v → Passes m (moved_arguments m) y w → Passes m (moved_arguments m) (arguments_judged x y) (arguments_judged v w)
arguments_goes m {v = v} {w = w} h k = record {
  faults = both h.faults k.faults;
  value = same2 (lift2 t.arguments) h.value k.value ∙ lift_moved t.arguments t.arguments (moved_arguments m) (moved_argument m) (moved_arguments m) v.value w.value (λ a b. refl);
  copied = same2 sum_of h.copied k.copied;
  scope = k.scope;
}

pub count_kept : (m : Move) (all : Expressions) → argument_count (moved_expressions m all) ≡ argument_count all
count_kept m tree.no_expressions = refl
count_kept m (tree.expressions e rest) = ap (λ n. n + 1) (count_kept m rest)

-- ---- calls

signature_faults_go : (m : Move) (at count : ℕ) (f : Option Signature) {a b : List Structure} → a ≡ b → Shifts m (signature_faults (m.start at) count a f) (signature_faults at count b f)
signature_faults_go m at count None h = none
signature_faults_go m at count (Some f) h = one_if m Mismatch at (ap (λ (all : List Structure). not (count == length f.parameters) || not (gives all f.result)) h)

body_faults_go : (m : Move) (name : Name) {s u : Scope} → s ≡ u → Shifts m (body_faults (m.start name.span.start) (moved_name m name) s) (body_faults name.span.start name u)
body_faults_go m name h = one_if m NoBody name.span.start (ap (λ (s : Scope). not (is_external name) && is_none (function_number name s)) h)

callee_faults_go : (m : Move) (name : Name) (at count : ℕ) (o : Option Meaning) {s u : Scope} → s ≡ u → Shifts m (callee_faults (moved_name m name) (m.start at) count s o) (callee_faults name at count u o)
callee_faults_go m name at count None h = one m Undeclared name.span.start
callee_faults_go m name at count (Some (Function f b)) h = both (signature_faults_go m at count f (ap (λ (s : Scope). s.structures) h)) (body_faults_go m name h)
callee_faults_go m name at count (Some o) h = one m Mismatch at

output_moved : (m : Move) (span : Span) (given : Arguments) → output_of (moved_span m span) (moved_arguments m given) ≡ option_map (moved_value m) (output_of span given)
output_moved m span (t.arguments (t.NumberArgument e) t.no_arguments) = refl
output_moved m span (t.arguments (t.NumberArgument e) (t.arguments a rest)) = refl
output_moved m span given = refl

returned_moved : (m : Move) (s : Scope) (f : ℕ) (given : Arguments) (span : Span) (b : Base) → returned s f (moved_arguments m given) (moved_span m span) b ≡ option_map (moved_value m) (returned s f given span b)
returned_moved m s f given span Void = refl
returned_moved m s f given span (Integer a) = refl
returned_moved m s f given span (Tagged k) = by_test (is_complete s.structures (Tagged k))
  where
    by_test : (b : Bool) → (if b then Some (Returned (t.call f (moved_arguments m given) (Some (next_slot s)) (moved_span m span)) k) else None)
        ≡ option_map (moved_value m) (if b then Some (Returned (t.call f given (Some (next_slot s)) span) k) else None)
    by_test true = refl
    by_test false = refl

called_moved : (m : Move) (name : Name) (span : Span) (s : Scope) (b : Base) (given : Arguments) → called (moved_name m name) (moved_span m span) s b (moved_arguments m given) ≡ option_map (moved_value m) (called name span s b given)
called_moved m name span s b given = by_tests (is_input name) (is_output name)
  where
    by_number : (o : Option ℕ) → option_and_then (λ f. returned s f (moved_arguments m given) (moved_span m span) b) o ≡ option_map (moved_value m) (option_and_then (λ f. returned s f given span b) o)
    by_number None = refl
    by_number (Some f) = returned_moved m s f given span b

    by_tests : (p q : Bool) → (if p then Some (Number (t.Input (moved_span m span)))
        else if q then output_of (moved_span m span) (moved_arguments m given)
        else option_and_then (λ f. returned s f (moved_arguments m given) (moved_span m span) b) (function_number name s))
        ≡ option_map (moved_value m) (if p then Some (Number (t.Input span)) else if q then output_of span given else option_and_then (λ f. returned s f given span b) (function_number name s))
    by_tests true q = refl
    by_tests false true = output_moved m span given
    by_tests false false = by_number (function_number name s)

call_value_moved : (m : Move) (name : Name) (span : Span) (o : Option Meaning) (s : Scope) (given : Option Arguments)
    → call_value (moved_name m name) (moved_span m span) o s (option_map (moved_arguments m) given) ≡ option_map (moved_value m) (call_value name span o s given)
call_value_moved m name span (Some (Function (Some f) b)) s given =
    then_over (called (moved_name m name) (moved_span m span) s f.result) (called name span s f.result) (moved_value m) (moved_arguments m) given (called_moved m name span s f.result)
call_value_moved m name span (Some (Function None b)) s given = refl
call_value_moved m name span o s given = refl

after_moved : (m : Move) (v : Option Value) (n : ℕ) (s : Scope) → after_call (option_map (moved_value m) v) n s ≡ after_call v n s
after_moved m None n s = refl
after_moved m (Some v) n s = by_value v
  where
    by_value : (v : Value) → after_call (Some (moved_value m v)) n s ≡ after_call (Some v) n s
    by_value (Returned c k) = refl
    by_value v = refl

pub call_goes : (m : Move) (name : Name) (count : ℕ) (span : Span) (o : Option Meaning) {x y : Given Arguments} → Passes m (moved_arguments m) x y
    → Follows m (call_found (moved_name m name) count (moved_span m span) o x) (call_found name count span o y)
call_goes m name count span o {x = x} {y = y} h =
    let v = same2 (call_value (moved_name m name) (moved_span m span) o) h.scope h.value ∙ call_value_moved m name span o y.scope y.value in
    record {
      faults = both h.faults (callee_faults_go m name span.start count o h.scope);
      value = exact v;
      place = refl;
      constant = refl;
      scope = same3 after_call v h.copied h.scope ∙ after_moved m (call_value name span o y.scope y.value) y.copied y.scope;
    }

pub comma_goes : (m : Move) (at : ℕ) {x y : Given Arguments} → Passes m (moved_arguments m) x y → Follows m (comma_found (m.start at) x) (comma_found at y)
comma_goes m at h = record {
  faults = both h.faults (one m Mismatch at);
  value = exact refl;
  place = refl;
  constant = refl;
  scope = h.scope;
}
