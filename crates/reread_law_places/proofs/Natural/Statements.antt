-- What is found at each node of a statement, at other places.
use Rattle.std.proofs.Common.{◌≡◌, ℕ, ℤ, Bool, false, not, ◌||◌, List, [], Option, Some, None, option_map, option_and_then, refl, sym, ap, subst, ◌∙◌}
use Rattle.mc_span.specs.declared.span.Span.{Span}
use Rattle.mc_tree.specs.Tree.{Expression}
use Rattle.mc_tree.specs.Tree as tree
use Rattle.mc_value.specs.Conversions.{promoted}
use Rattle.mc_typed.specs.Sound.{type_of}
use Rattle.mc_typed.specs.Tree.{Declarator, Effect, ForStart, ReturnValue, Statement, Statements}
use Rattle.mc_typed.specs.Tree as t
use Rattle.types_faults.specs.declared.fault.FaultKind.TheVariants.{Mismatch, DuplicateLabel}
use Rattle.types_rules.specs.Types.{Base, Void, Integer, Tagged, plain, Structure, cells_of}
use Rattle.types_rules.specs.Scopes.{Labels, Scope, entered, left}
use Rattle.types_rules.specs.Values.{Judged, Value, Assigned, Kind, Found, is_integer, fails, number_in, structure_in, number_found, effect_in, whole}
use Rattle.types_rules.specs.Expressions.{convert_to, promote}
use Rattle.types_rules.specs.Statements.{Around, closed, alone, only, followed, followed_judged, statement_found, leaf, keyword, compound_judged, declaration_judged, effect_judged, effect_statement_judged, if_judged, if_else_judged, label_type, switch_scope, items_of, switch_judged, label_value, is_repeated, place_faults, with_label, case_judged, default_judged, test_judged, do_judged, loop, loop_judged, effects_start, declaration_start, return_nothing_faults, return_nothing_judged, fits, return_faults, return_value, return_judged, break_judged, continue_judged}
use Rattle.reread_law_texts.specs.alike.Moves.{Move, moved_span}
use Rattle.reread_law_texts.specs.alike.Trees.{moved, moved_statement}
use Rattle.reread_law_places.specs.natural.Moved.{moved_number, moved_structure, moved_effect, moved_effects, moved_objects, moved_for_start, moved_return_value, moved_typed_statement, moved_typed_statements}
use Rattle.reread_law_places.specs.natural.Settled.{nowhere, settled_effect, settled_effects, settled_for_start, settled_statement, settled_statements}
use Rattle.reread_law_places.specs.natural.Found.{moved_value}
use Rattle.reread_law_places.proofs.Natural.Basics.{Shifts, both, none, one, one_if, same2, same3, map_over, Goes, Carried}
use Rattle.reread_law_places.proofs.Natural.Numbers.{type_kept, convert_moved, promote_moved}
use Rattle.reread_law_places.proofs.Natural.Values.{Follows, carried, kind_same, number_moved, number_goes, structure_moved, effects, wholes, integer_faults_go, effect_faults_go, constant_same, constant_found_faults}
use Rattle.reread_law_places.proofs.Natural.Words.{compound_kept}
use Rattle.reread_law_places.proofs.Natural.Related.{Both, each, map_both, then_both, lift2_both, lift3_both, lift4_both, both_same, both_carried, both_settled}

-- ---- what stands in a typed program: the first is the second, moved, once both are settled

abbrev pub Runs : Move → Statements → Statements → Type 0
Runs m x y = settled_statements x ≡ settled_statements (moved_typed_statements m y)

abbrev pub Does : Move → Statement → Statement → Type 0
Does m x y = settled_statement x ≡ settled_statement (moved_typed_statement m y)

abbrev pub Acts_as : Move → Effect → Effect → Type 0
Acts_as m x y = settled_effect x ≡ settled_effect (moved_effect m y)

abbrev pub Clauses : Move → List Effect → List Effect → Type 0
Clauses m x y = settled_effects x ≡ settled_effects (moved_effects m y)

abbrev pub Starts : Move → ForStart → ForStart → Type 0
Starts m x y = settled_for_start x ≡ settled_for_start (moved_for_start m y)

abbrev pub Numbers : Move → t.Expression → t.Expression → Type 0
Numbers m x y = x ≡ moved_number m y

abbrev pub Tests : Move → Option t.Expression → Option t.Expression → Type 0
Tests m x y = x ≡ option_map (moved_number m) y

abbrev pub Returns : Move → ReturnValue → ReturnValue → Type 0
Returns m x y = x ≡ moved_return_value m y

abbrev pub Objects : Move → List Declarator → List Declarator → Type 0
Objects m x y = x ≡ moved_objects m y

pub number_both : {m : Move} {x y : Found} → Follows m x y → Both (Numbers m) (number_found x) (number_found y)
number_both {m = m} h = both_carried (moved_number m) (number_goes h)

-- ---- lists of statements

only_settled : (x : Statements) → only (settled_statements x) ≡ option_map settled_statement (only x)
only_settled t.no_statements = refl
only_settled (t.statements one t.no_statements) = refl
only_settled (t.statements one (t.statements other rest)) = refl

only_moved : (m : Move) (x : Statements) → only (moved_typed_statements m x) ≡ option_map (moved_typed_statement m) (only x)
only_moved m t.no_statements = refl
only_moved m (t.statements one t.no_statements) = refl
only_moved m (t.statements one (t.statements other rest)) = refl

only_both : (m : Move) (x y : Statements) → Runs m x y → Both (Does m) (only x) (only y)
only_both m x y e = both_settled settled_statement (moved_typed_statement m) (only x) (only y)
    (sym (only_settled x) ∙ ap only e ∙ only_settled (moved_typed_statements m y) ∙ ap (option_map settled_statement) (only_moved m y))

pub statement_both : {m : Move} {x y : Judged Statements} → Goes m (Both (Runs m)) x y → Both (Does m) (statement_found x) (statement_found y)
statement_both {m = m} h = then_both (Does m) only only (only_both m) h.value

items_settled : (x : Statement) → items_of (settled_statement x) ≡ option_map settled_statements (items_of x)
items_settled (t.Compound items span) = refl
items_settled x = refl

items_moved : (m : Move) (x : Statement) → items_of (moved_typed_statement m x) ≡ option_map (moved_typed_statements m) (items_of x)
items_moved m (t.Compound items span) = refl
items_moved m x = refl

items_both : (m : Move) (x y : Statement) → Does m x y → Both (Runs m) (items_of x) (items_of y)
items_both m x y e = both_settled settled_statements (moved_typed_statements m) (items_of x) (items_of y)
    (sym (items_settled x) ∙ ap items_of e ∙ items_settled (moved_typed_statement m y) ∙ ap (option_map settled_statements) (items_moved m y))

followed_settled : (x y : Statements) → settled_statements (followed x y) ≡ followed (settled_statements x) (settled_statements y)
followed_settled t.no_statements y = refl
followed_settled (t.statements one rest) y = ap (t.statements (settled_statement one)) (followed_settled rest y)

followed_moved : (m : Move) (x y : Statements) → moved_typed_statements m (followed x y) ≡ followed (moved_typed_statements m x) (moved_typed_statements m y)
followed_moved m t.no_statements y = refl
followed_moved m (t.statements one rest) y = ap (t.statements (moved_typed_statement m one)) (followed_moved m rest y)

followed_runs : (m : Move) (x y v w : Statements) → Runs m x y → Runs m v w → Runs m (followed x v) (followed y w)
followed_runs m x y v w e f =
    followed_settled x v ∙ same2 followed e f ∙ sym (followed_settled (moved_typed_statements m y) (moved_typed_statements m w)) ∙ ap settled_statements (sym (followed_moved m y w))

pub followed_goes : (m : Move) {x y v w : Judged Statements} → Goes m (Both (Runs m)) x v → Goes m (Both (Runs m)) y w → Goes m (Both (Runs m)) (followed_judged x y) (followed_judged v w)
followed_goes m h k = record {
  faults = both h.faults (both k.faults none);
  value = lift2_both (Runs m) followed followed (followed_runs m) h.value k.value;
  scope = k.scope;
}

pub closed_goes : {A : Type 0} (m : Move) (R : Option A → Option A → Type 0) {s u : Scope} {x y : Judged A} → s ≡ u → Goes m R x y → Goes m R (closed s x) (closed u y)
closed_goes m R h k = record { faults = k.faults; value = k.value; scope = same2 left h k.scope }

-- ---- compound and expression statements

pub compound_goes : (m : Move) (span : Span) {x y : Judged Statements} → Goes m (Both (Runs m)) x y → Goes m (Both (Runs m)) (compound_judged (moved_span m span) x) (compound_judged span y)
compound_goes m span h = record {
  faults = both h.faults none;
  value = map_both (Runs m) (λ items. alone (t.Compound items (moved_span m span))) (λ items. alone (t.Compound items span)) (λ x y e. ap (λ items. alone (t.Compound items (moved_span m span))) e) h.value;
  scope = h.scope;
}

pub declaration_goes : (m : Move) (span : Span) {x y : Judged (List Declarator)} → Goes m (Carried (moved_objects m)) x y → Goes m (Both (Runs m)) (declaration_judged (moved_span m span) x) (declaration_judged span y)
declaration_goes m span h = record {
  faults = both h.faults none;
  value = map_both (Runs m) (λ ds. alone (t.Declaration ds (moved_span m span))) (λ ds. alone (t.Declaration ds span)) (λ x y e. ap (λ ds. alone (t.Declaration ds (moved_span m span))) e)
      (both_carried (moved_objects m) h.value);
  scope = h.scope;
}

pub effect_goes : (m : Move) (a : Expression) {x y : Found} → Follows m x y → Goes m (Both (Acts_as m)) (effect_judged (moved m a) x) (effect_judged a y)
effect_goes m a {x = x} {y = y} h = record {
  faults = both h.faults (effect_faults_go m a (kind_same h));
  value = both_settled settled_effect (moved_effect m) (option_map whole (option_and_then effect_in x.value)) (option_map whole (option_and_then effect_in y.value)) (wholes (effects h.value)).is;
  scope = h.scope;
}

pub effect_statement_goes : (m : Move) (span : Span) {x y : Judged Effect} → Goes m (Both (Acts_as m)) x y → Goes m (Both (Runs m)) (effect_statement_judged (moved_span m span) x) (effect_statement_judged span y)
effect_statement_goes m span h = record {
  faults = both h.faults none;
  value = map_both (Runs m) (λ effect. alone (t.EffectStatement effect (moved_span m span))) (λ effect. alone (t.EffectStatement effect span))
      (λ x y e. ap (λ effect. alone (t.EffectStatement effect (moved_span m span))) e) h.value;
  scope = h.scope;
}

-- ---- selection statements

pub if_goes : (m : Move) (span : Span) {x y : Found} {v w : Judged Statements} → Follows m x y → Goes m (Both (Runs m)) v w → Goes m (Both (Runs m)) (if_judged (moved_span m span) x v) (if_judged span y w)
if_goes m span h k =
    let to = moved_span m span in
    record {
      faults = both h.faults (both k.faults (integer_faults_go m span.start (kind_same h)));
      value = lift2_both (Runs m) (λ e one. alone (t.If e one (keyword 2 to) to)) (λ e one. alone (t.If e one (keyword 2 span) span))
          (λ x y v w e f. same2 (λ e one. alone (t.If e one nowhere to)) e f) (number_both h) (statement_both k);
      scope = k.scope;
    }

pub if_else_goes : (m : Move) (span : Span) {x y : Found} {v w i j : Judged Statements} → Follows m x y → Goes m (Both (Runs m)) v w → Goes m (Both (Runs m)) i j
    → Goes m (Both (Runs m)) (if_else_judged (moved_span m span) x v i) (if_else_judged span y w j)
if_else_goes m span h k l =
    let to = moved_span m span in
    record {
      faults = both h.faults (both k.faults (both l.faults (integer_faults_go m span.start (kind_same h))));
      value = lift3_both (Runs m) (λ e one other. alone (t.IfElse e one other (keyword 2 to) to)) (λ e one other. alone (t.IfElse e one other (keyword 2 span) span))
          (λ x y v w i j e f g. same3 (λ e one other. alone (t.IfElse e one other nowhere to)) e f g) (number_both h) (statement_both k) (statement_both l);
      scope = l.scope;
    }

label_types : {m : Move} {x y : Found} → Follows m x y → label_type x ≡ label_type y
label_types {m = m} {x = x} {y = y} h = ap (option_map (λ e. promoted (type_of e))) (number_goes h) ∙ by_part (number_found y)
  where
    by_part : (o : Option t.Expression) → option_map (λ e. promoted (type_of e)) (option_map (moved_number m) o) ≡ option_map (λ e. promoted (type_of e)) o
    by_part None = refl
    by_part (Some e) = ap (λ a. Some (promoted a)) (type_kept m e)

pub switch_scopes : {m : Move} {x y : Found} → Follows m x y → switch_scope x ≡ switch_scope y
switch_scopes h = same2 (λ a s. entered (Some (record { value_type = a; values = []; has_default = false })) s) (label_types h) h.scope

pub switch_goes : (m : Move) (span : Span) (body : tree.Statement) {x y : Found} {v w : Judged Statements} → Follows m x y → Goes m (Both (Runs m)) v w
    → Goes m (Both (Runs m)) (switch_judged (moved_span m span) (moved_statement m body) x v) (switch_judged span body y w)
switch_goes m span body h k =
    let to = moved_span m span in
    record {
      faults = both h.faults (both k.faults (one_if m Mismatch span.start (same2 (λ (a : Option Kind) (b : Bool). fails is_integer a || not b) (kind_same h) (compound_kept m body))));
      value = lift2_both (Runs m) (λ e items. alone (t.Switch (promote e) items (keyword 6 to) to)) (λ e items. alone (t.Switch (promote e) items (keyword 6 span) span))
          (λ x y v w e f. same2 (λ e items. alone (t.Switch e items nowhere to)) (ap promote e ∙ promote_moved m y) f) (number_both h) (then_both (Runs m) items_of items_of (items_both m) (statement_both k));
      scope = k.scope;
    }

-- ---- labels of a `switch`

place_go : (m : Move) (labels : Option Labels) (at : ℕ) → Shifts m (place_faults labels (m.start at)) (place_faults labels at)
place_go m None at = one m Mismatch at
place_go m (Some labels) at = none

place_from : (m : Move) (at : ℕ) {a b : Option Labels} → a ≡ b → Shifts m (place_faults a (m.start at)) (place_faults b at)
place_from m at {b = b} e = rw e (place_go m b at)

pub case_goes : (m : Move) (label : Span) (at : ℕ) {x y : Found} → Follows m x y → Goes m (Both (Runs m)) (case_judged (moved_span m label) (m.start at) x) (case_judged label at y)
case_goes m label at {x = x} {y = y} h =
    let labels = ap (λ (s : Scope). s.labels) h.scope in
    let v = same2 label_value labels (constant_same h) in
    record {
      faults = both h.faults (both (constant_found_faults at h) (both (place_from m label.start labels)
          (one_if m DuplicateLabel label.start (same2 (λ (a : Option Labels) (v : Option ℤ). is_repeated a v) labels v))));
      value = both_same (Runs m) (λ w. alone (t.Label (Some w) (moved_span m label))) (λ w. alone (t.Label (Some w) label)) (λ w. refl) v;
      scope = same2 with_label v h.scope;
    }

default_at : (m : Move) (label : Span) (s : Scope) → Goes m (Both (Runs m)) (default_judged (moved_span m label) s) (default_judged label s)
default_at m label s = record {
  faults = both (place_go m s.labels label.start) (one_if m DuplicateLabel label.start refl);
  value = each refl;
  scope = refl;
}

pub default_goes : (m : Move) (label : Span) {s u : Scope} → s ≡ u → Goes m (Both (Runs m)) (default_judged (moved_span m label) s) (default_judged label u)
default_goes m label {s = s} {u = u} h = subst (λ x. Goes m (Both (Runs m)) (default_judged (moved_span m label) x) (default_judged label u)) (sym h) (default_at m label u)

-- ---- iteration statements

pub test_goes : (m : Move) (at : ℕ) {x y : Found} → Follows m x y → Goes m (Both (Tests m)) (test_judged (m.start at) x) (test_judged at y)
test_goes m at h = record {
  faults = both h.faults (integer_faults_go m at (kind_same h));
  value = map_both (Tests m) Some Some (λ x y e. ap Some e) (number_both h);
  scope = h.scope;
}

pub do_goes : (m : Move) (span : Span) {x y : Found} {v w : Judged Statements} → Goes m (Both (Runs m)) v w → Follows m x y → Goes m (Both (Runs m)) (do_judged (moved_span m span) v x) (do_judged span w y)
do_goes m span k h =
    let to = moved_span m span in
    record {
      faults = both k.faults (both h.faults (integer_faults_go m span.start (kind_same h)));
      value = lift2_both (Runs m) (λ one e. alone (t.DoWhile one e (keyword 2 to) to)) (λ one e. alone (t.DoWhile one e (keyword 2 span) span))
          (λ x y v w e f. same2 (λ one e. alone (t.DoWhile one e nowhere to)) e f) (statement_both k) (number_both h);
      scope = h.scope;
    }

loop_runs : (m : Move) (size : ℕ) (span : Span) (a b : ForStart) (c d : Option t.Expression) (i j : List Effect) (v w : Statement) → Starts m a b → Tests m c d → Clauses m i j → Does m v w
    → Runs m (loop size (moved_span m span) a c i v) (loop size span b d j w)
loop_runs m size span a b c d i j v w p q r s =
    let to = moved_span m span in
    ap (λ x. alone (t.For x c (settled_effects i) (settled_statement v) nowhere to)) p
    ∙ same3 (λ x y z. alone (t.For (settled_for_start (moved_for_start m b)) x y z nowhere to)) q r s

pub loop_goes : (m : Move) (size : ℕ) (span : Span) {x a : Judged ForStart} {y b : Judged (Option t.Expression)} {z c : Judged (List Effect)} {w d : Judged Statements}
    → Goes m (Both (Starts m)) x a → Goes m (Both (Tests m)) y b → Goes m (Both (Clauses m)) z c → Goes m (Both (Runs m)) w d
    → Goes m (Both (Runs m)) (loop_judged size (moved_span m span) x y z w) (loop_judged size span a b c d)
loop_goes m size span h k l o = record {
  faults = both h.faults (both k.faults (both l.faults (both o.faults none)));
  value = lift4_both (Runs m) (loop size (moved_span m span)) (loop size span) (loop_runs m size span) h.value k.value l.value (statement_both o);
  scope = o.scope;
}

pub effects_start_goes : (m : Move) {x y : Judged (List Effect)} → Goes m (Both (Clauses m)) x y → Goes m (Both (Starts m)) (effects_start x) (effects_start y)
effects_start_goes m h = record {
  faults = both h.faults none;
  value = map_both (Starts m) t.StartEffects t.StartEffects (λ x y e. ap t.StartEffects e) h.value;
  scope = h.scope;
}

pub declaration_start_goes : (m : Move) {x y : Judged (List Declarator)} → Goes m (Carried (moved_objects m)) x y → Goes m (Both (Starts m)) (declaration_start x) (declaration_start y)
declaration_start_goes m h = record {
  faults = both h.faults none;
  value = map_both (Starts m) t.StartDeclaration t.StartDeclaration (λ x y e. ap t.StartDeclaration e) (both_carried (moved_objects m) h.value);
  scope = h.scope;
}

-- ---- jump statements

return_nothing_go : (m : Move) (b : Option Base) (at : ℕ) → Shifts m (return_nothing_faults b (m.start at)) (return_nothing_faults b at)
return_nothing_go m None at = none
return_nothing_go m (Some Void) at = none
return_nothing_go m (Some (Integer a)) at = one m Mismatch at
return_nothing_go m (Some (Tagged k)) at = one m Mismatch at

pub return_nothing_goes : (m : Move) (b : Option Base) (span : Span) {s u : Scope} → s ≡ u → Goes m (Both (Runs m)) (return_nothing_judged b (moved_span m span) s) (return_nothing_judged b span u)
return_nothing_goes m b span h = record { faults = return_nothing_go m b span.start; value = each refl; scope = h }

return_go : (m : Move) (b : Option Base) (at : ℕ) {k l : Option Kind} → k ≡ l → Shifts m (return_faults b (m.start at) k) (return_faults b at l)
return_go m None at e = none
return_go m (Some Void) at e = one m Mismatch at
return_go m (Some (Integer a)) at e = one_if m Mismatch at (ap (fails (fits (Integer a))) e)
return_go m (Some (Tagged n)) at e = one_if m Mismatch at (ap (fails (fits (Tagged n))) e)

return_moved : (m : Move) (all : List Structure) (b : Option Base) (v : Value) → return_value all b (moved_value m v) ≡ option_map (moved_return_value m) (return_value all b v)
return_moved m all (Some (Integer a)) v =
    ap (option_map (λ e. t.ReturnNumber (convert_to a e))) (number_moved m v)
    ∙ map_over (λ e. t.ReturnNumber (convert_to a e)) (λ e. t.ReturnNumber (convert_to a e)) (moved_return_value m) (moved_number m) (number_in v) (λ e. ap t.ReturnNumber (convert_moved m a e))
return_moved m all (Some (Tagged k)) v =
    ap (option_map (λ w. t.ReturnStructure w (cells_of all (plain (Tagged k))))) (structure_moved m k v)
    ∙ map_over (λ w. t.ReturnStructure w (cells_of all (plain (Tagged k)))) (λ w. t.ReturnStructure w (cells_of all (plain (Tagged k)))) (moved_return_value m) (moved_structure m) (structure_in k v) (λ w. refl)
return_moved m all (Some Void) v = refl
return_moved m all None v = refl

return_blind : (all : List Structure) (b : Option Base) (effect : Effect) → return_value all b (Assigned effect) ≡ None
return_blind all (Some (Integer a)) effect = refl
return_blind all (Some (Tagged k)) effect = refl
return_blind all (Some Void) effect = refl
return_blind all None effect = refl

return_values : (m : Move) (b : Option Base) {x y : Found} → Follows m x y
    → option_and_then (return_value x.scope.structures b) x.value ≡ option_map (moved_return_value m) (option_and_then (return_value y.scope.structures b) y.value)
return_values m b {x = x} {y = y} h =
    ap (λ (s : Scope). option_and_then (return_value s.structures b) x.value) h.scope
    ∙ carried (return_value y.scope.structures b) (return_value y.scope.structures b) (moved_return_value m) (return_blind y.scope.structures b) (return_moved m y.scope.structures b) h.value

pub return_goes : (m : Move) (b : Option Base) (span : Span) {x y : Found} → Follows m x y → Goes m (Both (Runs m)) (return_judged b (moved_span m span) x) (return_judged b span y)
return_goes m b span h = record {
  faults = both h.faults (return_go m b span.start (kind_same h));
  value = map_both (Runs m) (λ v. alone (t.Return v (moved_span m span))) (λ v. alone (t.Return v span)) (λ x y e. ap (λ v. alone (t.Return v (moved_span m span))) e)
      (both_carried (moved_return_value m) (return_values m b h));
  scope = h.scope;
}

pub break_goes : (m : Move) (w : Around) (span : Span) {s u : Scope} → s ≡ u → Goes m (Both (Runs m)) (break_judged w (moved_span m span) s) (break_judged w span u)
break_goes m w span h = record { faults = one_if m Mismatch span.start refl; value = each refl; scope = h }

pub continue_goes : (m : Move) (w : Around) (span : Span) {s u : Scope} → s ≡ u → Goes m (Both (Runs m)) (continue_judged w (moved_span m span) s) (continue_judged w span u)
continue_goes m w span h = record { faults = one_if m Mismatch span.start refl; value = each refl; scope = h }

pub leaf_goes : (m : Move) (one other : Statement) {s u : Scope} → Does m one other → s ≡ u → Goes m (Both (Runs m)) (leaf [] one s) (leaf [] other u)
leaf_goes m one other e h = record { faults = none; value = each (ap alone e); scope = h }
