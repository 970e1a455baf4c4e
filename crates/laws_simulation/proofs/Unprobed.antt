-- Statements without probes follow those of the program, and hit nothing.
use Rattle.std.proofs.Common.{◌≡◌, ◌∙◌, refl, sym, ap, subst, ℕ, suc, ◌+◌, ◌*◌, ◌<◌, ◌≤◌, ℤ, pos, Bool, true, false, not, ◌||◌, List, [], ◌∷◌, ◌++◌, map, Option, Some, None, option_map, arith}
use Rattle.std.specs.Prelude.{slice_get, is_some}
use Rattle.mc_value.specs.declared.int_type.IntType.{IntType}
use Rattle.mc_typed.specs.Layout.{ObjectType, Scalar, Array, Structure, Members, no_members, members, cells, member}
use Rattle.mc_typed.specs.Tree.{Expression, StructureValue, Effect, Initializer, Initializers, Declarator, ForStart, ReturnValue, Statement, Statements, ResultType, NoResult, NumberResult, StructureResult, Object}
use Rattle.mc_typed.specs.Tree as t
use Rattle.mc_typed.specs.Sound.{Scope, Around, inside, in_loop, IsSlotOf, object_type_at, place_type, structure_type, structure_result, IsStructureType, result_at, IsExpression, IsStructure, IsEffect, AreClauses, IsInitializer, AreElements, AreMembers, IsInitial, IsDeclarator, AreDeclarators, count_of, IsStart, IsTest, IsReturn, IsLabel, IsStatement, AreStatements, labels_of, type_of}
use Rattle.mc_typed.specs.Sound as sound
use Rattle.mc_typed.proofs.Places.{here, begins, joined}
use Rattle.decide_rules.specs.declared.role.Role.TheVariants.{Controlling, Plain}
use Rattle.decide_rules.specs.Nodes as n
use Rattle.mc_steps.specs.Runs.{gives, lists, after}
use Rattle.mc_steps.specs.Events.{Event, Exited, Started}
use Rattle.mc_steps.specs.Expressions.{where_true, both_do, as_does, choice_does, is_true}
use Rattle.mc_steps.specs.Statements.{Number, Flow, Completed, Broke, Continued, Left, Seek, Running, For, is_running, at_label, sought, is_absent, effect_does, loop_does, do_does, label_does, item_runs, switch_does, where_switch_ends}
use Rattle.mc_steps.specs.Statements as give
use Rattle.mc_steps.specs.Calls.{unset_does}
use Rattle.mc_steps.specs.Points.{initializes}
use Rattle.mc_meaning.specs.Stores.{Path, on_places}
use Rattle.mc_meaning.specs.Within as plain
use Rattle.mc_meaning.specs.Within.{Within, local}
use Rattle.mc_meaning.specs.Positions.{past, past_statement, into_statement, past_start, past_test, past_step, in_switch}
use Rattle.mc_meaning.specs.Decisions.{value, choose}
use Rattle.mc_meaning.specs.Expressions.{evaluate_place, evaluate, evaluate_structure, evaluate_call}
use Rattle.mc_meaning.specs.Statements.{effect, effects, initialize, initialize_from, initialize_where, declare, counted, where_initializes, start, loop_test, returned, leave, run, run_from}
use Rattle.mc_typed.specs.Layout as layout
use Rattle.mc_probe.specs.Flat.{Activation, flat}
use Rattle.mc_probe.specs.Flat as f
use Rattle.mc_probe.specs.Erase.{erase_statements, erase_declarator, erase_initializer}
use Rattle.mc_probe.specs.Expressions as expr
use Rattle.mc_probe.specs.Probes.{mark_does}
use Rattle.mc_probe.specs.Statements as act
use Rattle.mc_probe.specs.Bare.{bare_place, bare_expression, bare_structure, bare_call, bare_effect, bare_initializer, bare_initializers, bare_declarator, bare_start, bare_return, bare_statement, bare_statements}
use Rattle.mc_probe.proofs.Backs.{statements_back}
use Rattle.laws_simulation.specs.Related.{whole}
use Rattle.laws_simulation.specs.Follows.{Each, Does}
use Rattle.laws_simulation.specs.Activations.{At, IsGiven}
use Rattle.laws_simulation.specs.Simulation.{nothing}
use Rattle.laws_simulation.proofs.Values.{none_fills, zero_fills}
use Rattle.laws_simulation.proofs.Follow.{Equal, SameTruth, Typed, some_same_value, inside_part, given, next, next_same, next_typed, true_same, choice_follows}
use Rattle.laws_simulation.proofs.Expressions.{none_some}
use Rattle.laws_simulation.proofs.Effects.{start_within, start_next, first_begins, IsFrom, times}
use Rattle.laws_simulation.proofs.Acts.{Done, SameFlow, drop_follows, both_follow, put_follows, assign_follows, update_follows, copied_follows, output_follows, store_follows, store_structure_follows, rest_follows, counted_follows, effect_follows, then_follows, if_follows, loop_follows, do_follows, test_follows}
use Rattle.laws_simulation.proofs.Plain.{Valued, Bound, slot_bare, number_only, truth_only, gives_bare, made_bare, made_structure_bare, place_bare, value_bare, typed_bare, structure_bare, call_bare}

-- ---- what is initialized

same_some : (x : Option Initializer) → is_some (option_map erase_initializer (option_map bare_initializer x)) ≡ is_some x
same_some None = refl
same_some (Some x) = refl

initializes_same : (xs : List Declarator) → initializes (map erase_declarator (map bare_declarator xs)) ≡ initializes xs
initializes_same [] = refl
initializes_same (x ∷ xs) = λ i. same_some x.value i || initializes_same xs i

module _ (ms : Members) (rooms : ℕ) (v : Activation) (c : Scope) where
  abbrev There : Within → Type 0
  There w = Bound ms rooms v c w

  abbrev D : {A B : Type 0} → (A → B → Type 0) → plain.Does A → f.Does B → Type 0
  D w g h = Does ms rooms nothing Each w g h

  abbrev Flows : plain.Does (Flow Path) → f.Does (Flow ℕ) → Type 0
  Flows g h = D (SameFlow ms c.result) g h

  number : (e : Expression) (w : Within) → There w → IsExpression e c → D Equal (value (evaluate e Plain w)) (expr.evaluate v (bare_expression e))
  number e w g k = number_only ms rooms v c (evaluate e Plain w) (expr.evaluate v (bare_expression e)) (value_bare ms rooms v c e Plain w g k)

  typed_number : (e : Expression) (a : IntType) (w : Within) → There w → IsExpression e c → type_of e ≡ a → D (Typed a) (value (evaluate e Plain w)) (expr.evaluate v (bare_expression e))
  typed_number e a w g k same = typed_bare ms rooms v c e a w g k same

  truth_is : (e : Expression) (w : Within) → There w → IsExpression e c → D SameTruth (value (evaluate e Controlling w)) (expr.evaluate v (bare_expression e))
  truth_is e w g k = truth_only ms rooms v c (evaluate e Controlling w) (expr.evaluate v (bare_expression e)) (value_bare ms rooms v c e Controlling w g k)

  -- ---- effects

  some_type : (o : Option ObjectType) → IsStructureType o → (u : ObjectType) × (o ≡ Some u)
  some_type None h = absurd h
  some_type (Some u) h = (u, refl)

  type_there : (x : StructureValue) → IsStructure x c → (u : ObjectType) × (structure_type c x ≡ Some u)
  type_there (t.Stored q) k = some_type (place_type c q) k.1
  type_there (t.Returned (t.call called given' result span)) k = some_type (structure_result (result_at (slice_get c.functions called))) k.2

  pub effect_bare : (x : Effect) (b : Bool) (w : Within) → There w → IsEffect x b c → D Done (effect x w) (act.perform v (bare_effect x))
  effect_bare (t.Assign q a e span) b w g k =
      let u : Within = past Plain (n.place q) w in
      assign_follows ms rooms nothing Each a (evaluate_place q w) (value (evaluate e Plain u)) (expr.evaluate_place v (bare_place q)) (expr.evaluate v (bare_expression e)) (place_bare ms rooms v c q (Scalar a) w g k.1 k.2) (typed_number e a u g k.3 k.4)
  effect_bare (t.Update q a operator common e span) b w g k =
      let u : Within = past Plain (n.place q) w in
      update_follows ms rooms nothing Each a operator common (evaluate_place q w) (value (evaluate e Plain u)) (expr.evaluate_place v (bare_place q)) (expr.evaluate v (bare_expression e)) (place_bare ms rooms v c q (Scalar a) w g k.1 k.2) (number e u g k.5)
  effect_bare (t.Copy q x i span) b w g k = copy_is (structure_type c x) refl
    where
      copy_is : (o : Option ObjectType) → structure_type c x ≡ o → D Done (effect (t.Copy q x i span) w) (act.perform v (bare_effect (t.Copy q x i span)))
      copy_is None e = none_some i (ap (option_map cells) (sym e) ∙ k.4)
      copy_is (Some s) e =
          let u : Within = past Plain (n.place q) w in
          copied_follows ms rooms nothing Each s i (evaluate_place q w) (evaluate_structure x u) (expr.evaluate_place v (bare_place q)) (expr.evaluate_structure v (bare_structure x))
          (some_same_value i (cells s) (sym k.4 ∙ ap (option_map cells) e)) (place_bare ms rooms v c q s w g k.1 (k.3 ∙ e)) (structure_bare ms rooms v c x s u g k.2 e)
  effect_bare (t.NumberEffect (t.Call i a) true) b w g k =
      drop_follows ms rooms nothing Each (IsGiven ms (gives_bare ms rooms v c i)) (evaluate_call i w) (expr.evaluate_call v (bare_call i)) (call_bare ms rooms v c i w g (made_bare ms rooms v c i (NumberResult a) k.1))
  effect_bare (t.NumberEffect e whole') b w g k =
      drop_follows ms rooms nothing Each Valued (evaluate e Plain w) (expr.evaluate v (bare_expression e)) (value_bare ms rooms v c e Plain w g k.1)
  effect_bare (t.StructureEffect (t.Returned i) true) b w g k =
      drop_follows ms rooms nothing Each (IsGiven ms (gives_bare ms rooms v c i)) (evaluate_call i w) (expr.evaluate_call v (bare_call i)) (call_bare ms rooms v c i w g (made_structure_bare ms rooms v c i k.1))
  effect_bare (t.StructureEffect x whole') b w g k =
      let s = type_there x k.1 in
      drop_follows ms rooms nothing Each (At ms s.0) (evaluate_structure x w) (expr.evaluate_structure v (bare_structure x)) (structure_bare ms rooms v c x s.0 w g k.1 s.1)
  effect_bare (t.CallEffect i) b w g k =
      drop_follows ms rooms nothing Each (IsGiven ms (gives_bare ms rooms v c i)) (evaluate_call i w) (expr.evaluate_call v (bare_call i)) (call_bare ms rooms v c i w g (made_bare ms rooms v c i NoResult k))
  effect_bare (t.Output e span) b w g k = output_follows ms rooms nothing Each (value (evaluate e Plain w)) (expr.evaluate v (bare_expression e)) (number e w g k.0)
  effect_bare (t.ChoiceEffect e x y span) b w g k =
      let u : Within = past Controlling (n.expression e) w in
      let q : Within = past Plain (n.effect x) u in
      choice_follows ms rooms nothing Each Done (value (evaluate e Controlling w)) (effect x u) (effect y q) (expr.evaluate v (bare_expression e)) (act.perform v (bare_effect x)) (act.perform v (bare_effect y)) (truth_is e w g k.0) (effect_bare x false u g k.1) (effect_bare y false q g k.2)
  effect_bare (t.Discard x span) b w g k = effect_bare x b w g k.1

  effects_bare : (xs : List Effect) (w : Within) → There w → AreClauses xs c → D Done (effects xs w) (act.perform_all v (map bare_effect xs))
  effects_bare [] w g k = given ms rooms nothing Each Done tt tt tt
  effects_bare (x ∷ rest) w g k =
      let u : Within = past Plain (n.effect x) w in
      both_follow ms rooms nothing Each (effect x w) (effects rest u) (act.perform v (bare_effect x)) (act.perform_all v (map bare_effect rest)) (effect_bare x true w g k.0) (effects_bare rest u g k.1)

  -- ---- initializers

  width_bare : (x : Initializer) (u : ObjectType) → IsInitializer x u c → act.width v (bare_initializer x) ≡ cells u
  width_bare (t.NumberInitializer e) (Scalar a) k = refl
  width_bare (t.NumberInitializer e) (Array i u) k = absurd k
  width_bare (t.NumberInitializer e) (Structure i us) k = absurd k
  width_bare (t.StructureInitializer x i) u k = k.2
  width_bare (t.ListInitializer items i) (Scalar a) k = absurd k
  width_bare (t.ListInitializer items i) (Array j u) k = k.0
  width_bare (t.ListInitializer items i) (Structure j us) k = k.0
  width_bare (t.ZeroInitializer e i) u k = k.0

  mutual
    initialize_bare : (x : Initializer) (u : ObjectType) (q : Path) (l : ℕ) (w : Within) → There w → IsInitializer x u c → At ms u q l → D Done (initialize x q w) (act.initialize v (bare_initializer x) l)
    initialize_bare (t.NumberInitializer e) (Scalar a) q l w g k at = store_follows ms rooms nothing Each a q l (value (evaluate e Plain w)) (expr.evaluate v (bare_expression e)) at (typed_number e a w g k.0 k.1)
    initialize_bare (t.NumberInitializer e) (Array i u) q l w g k at = absurd k
    initialize_bare (t.NumberInitializer e) (Structure i us) q l w g k at = absurd k
    initialize_bare (t.StructureInitializer x i) u q l w g k at = store_structure_follows ms rooms nothing Each u q l i (evaluate_structure x w) (expr.evaluate_structure v (bare_structure x)) k.2 at (structure_bare ms rooms v c x u w g k.0 k.1)
    initialize_bare (t.ListInitializer items i) (Scalar a) q l w g k at = absurd k
    initialize_bare (t.ListInitializer items i) (Array j u) q l w g k at = elements_bare items u j 0 0 0 i q l w g k.2 (omega (arith, k.1)) (omega arith) k.0 at
    initialize_bare (t.ListInitializer items i) (Structure j us) q l w g k at = members_bare items us j us 0 0 0 i q l w g k.1 (λ b. ap (member us) (omega arith)) (first_begins us) k.0 at
    initialize_bare (t.ZeroInitializer e i) u q l w g k at = put_follows ms rooms nothing Each u q l i i (Some (pos 0)) k.0 at (zero_fills u)

    elements_bare : (items : Initializers) (u : ObjectType) (j i o offset size : ℕ) (q : Path) (l : ℕ) (w : Within) → There w → AreElements items u c → i + count_of items ≤ j → offset ≡ i * cells u → size ≡ cells (Array j u) → At ms (Array j u) q l → D Done (initialize_from items q i w) (act.initialize_from v (bare_initializers items) l o offset size)
    elements_bare t.no_initializers u j i o offset size q l w g k few at_offset is at =
        rest_follows ms rooms nothing Each (Array j u) q l i o offset size 0 0 tt (times i j (cells u) (omega (arith, few))) at_offset is at
    elements_bare (t.initializers x rest) u j i o offset size q l w g k few at_offset is at =
        let y : Within = past Plain (n.initializer x) w in
        let lt : i < j = omega (arith, few) in
        let more : suc i + count_of rest ≤ j = omega (arith, few) in
        let wide = width_bare x u k.0 in
        let there : At ms u (q ++ i ∷ []) (l + offset) =
        subst (λ (z : ℕ). At ms u (q ++ i ∷ []) (l + z)) (sym at_offset)
        (inside_part q i at.0, joined (whole ms) q (Array j u) l (i ∷ []) u (i * cells u) at.1 (0, lt, here u, omega arith)) in
        let on : offset + act.width v (bare_initializer x) ≡ suc i * cells u = omega (arith, at_offset, wide) in
        both_follow ms rooms nothing Each (initialize x (q ++ i ∷ []) w) (initialize_from rest q (suc i) y) (act.initialize v (bare_initializer x) (l + offset)) (act.initialize_from v (bare_initializers rest) l (o + 1) (offset + act.width v (bare_initializer x)) size)
        (initialize_bare x u (q ++ i ∷ []) (l + offset) w g k.0 there)
        (elements_bare rest u j (suc i) (o + 1) (offset + act.width v (bare_initializer x)) size q l y g k.1 more on is at)

    members_bare : (items : Initializers) (all : Members) (j : ℕ) (us : Members) (i o offset size : ℕ) (q : Path) (l : ℕ) (w : Within) → There w → AreMembers items us c → IsFrom all i us → offset ≡ layout.start all i → size ≡ cells (Structure j all) → At ms (Structure j all) q l → D Done (initialize_from items q i w) (act.initialize_from v (bare_initializers items) l o offset size)
    members_bare t.no_initializers all j us i o offset size q l w g k from at_offset is at =
        rest_follows ms rooms nothing Each (Structure j all) q l i o offset size 0 0 tt (start_within all i) at_offset is at
    members_bare (t.initializers x rest) all j no_members i o offset size q l w g k from at_offset is at = absurd k
    members_bare (t.initializers x rest) all j (members u us) i o offset size q l w g k from at_offset is at =
        let y : Within = past Plain (n.initializer x) w in
        let wide = width_bare x u k.0 in
        let this : member all i ≡ Some u = ap (member all) (omega arith) ∙ from 0 in
        let there : At ms u (q ++ i ∷ []) (l + offset) =
        subst (λ (z : ℕ). At ms u (q ++ i ∷ []) (l + z)) (sym at_offset)
        (inside_part q i at.0, joined (whole ms) q (Structure j all) l (i ∷ []) u (layout.start all i) at.1 (begins all i u this)) in
        let on : offset + act.width v (bare_initializer x) ≡ layout.start all (suc i) = omega (arith, at_offset, wide, start_next all i u this) in
        both_follow ms rooms nothing Each (initialize x (q ++ i ∷ []) w) (initialize_from rest q (suc i) y) (act.initialize v (bare_initializer x) (l + offset)) (act.initialize_from v (bare_initializers rest) l (o + 1) (offset + act.width v (bare_initializer x)) size)
        (initialize_bare x u (q ++ i ∷ []) (l + offset) w g k.0 there)
        (members_bare rest all j us (suc i) (o + 1) (offset + act.width v (bare_initializer x)) size q l y g k.1 (λ b. ap (member all) (omega arith) ∙ from (suc b)) on is at)

  -- ---- declarations

  initial_bare : (x : Option Initializer) (u : ObjectType) (q : Path) (l : ℕ) (w : Within) → There w → IsInitial x (Some u) c → At ms u q l → D Done (initialize_where x q w) (act.initialize_where v (option_map bare_initializer x) l)
  initial_bare None u q l w g k at = given ms rooms nothing Each Done tt tt tt
  initial_bare (Some x) u q l w g k at = initialize_bare x u q l w g k at

  declare_bare : (xs : List Declarator) (w : Within) → There w → AreDeclarators xs c → D Done (declare xs w) (act.declare v (map bare_declarator xs))
  declare_bare [] w g k = given ms rooms nothing Each Done tt tt tt
  declare_bare (x ∷ rest) w g k =
      one (slice_get c.objects x.slot.object) refl k.0.0 k.0.1 (declare_bare rest (past Plain (n.initial x.value) w) g k.1)
    where
      one : (o : Option Object) → slice_get c.objects x.slot.object ≡ o → option_map (λ o. o.start) o ≡ Some x.slot.start → option_map (λ o. o.cells) o ≡ Some x.cells → D Done (declare rest (past Plain (n.initial x.value) w)) (act.declare v (map bare_declarator rest)) → D Done (declare (x ∷ rest) w) (act.declare v (map bare_declarator (x ∷ rest)))
      one None e a b others = none_some x.cells b
      one (Some o) e a b others =
          let y : Within = past Plain (n.initial x.value) w in
          let l : ℕ = v.base + x.slot.start in
          let q : Path = local w x.slot in
          let u : ObjectType = o.object_type in
          let typed : object_type_at c.objects x.slot.object ≡ Some u = ap (option_map (λ o. o.object_type)) e in
          let at : At ms u q l = slot_bare ms rooms v c x.slot u w g (k.0.0, typed) in
          let size : x.cells ≡ cells u = sym (some_same_value o.cells x.cells b) ∙ g.sizes x.slot.object o e in
          let has : IsInitial x.value (Some u) c = subst (λ (i : Option ObjectType). IsInitial x.value i c) typed k.0.2 in
          both_follow ms rooms nothing Each (unset_does on_places q x.cells) (both_do (initialize_where x.value q w) (declare rest y)) (unset_does flat l x.cells) (both_do (act.initialize_where v (option_map bare_initializer x.value) l) (act.declare v (map bare_declarator rest)))
          (put_follows ms rooms nothing Each u q l x.cells x.cells None size at (none_fills u))
          (both_follow ms rooms nothing Each (initialize_where x.value q w) (declare rest y) (act.initialize_where v (option_map bare_initializer x.value) l) (act.declare v (map bare_declarator rest)) (initial_bare x.value u q l w g has at) others)

  -- ---- marks

  mark_bare : (e : Event) → D Done (lists (e ∷ [])) (f.hits_some v None)
  mark_bare e s t a = record { told = refl; out = (a, ((λ r p. refl), tt)) }

  choose_bare : (k : ℕ) (b : Bool) → D Done (choose k b) (mark_does v None b)
  choose_bare k true s t a = record { told = refl; out = (a, ((λ r p. refl), tt)) }
  choose_bare k false s t a = record { told = refl; out = (a, ((λ r p. refl), tt)) }

  counts_bare : (w : Within) (g : Within → plain.Does (Flow Path)) (h : f.Does (Flow ℕ)) → Flows (g (into_statement w)) h → Flows (counted w g) (act.counts v None h)
  counts_bare w g h k =
      counted_follows ms rooms nothing Each c.result (lists (Started w.points.statements ∷ [])) (f.hits_some v None) (g (into_statement w)) h (mark_bare (Started w.points.statements)) k

  flow_bare : (x : Flow Path) (y : Flow ℕ) → SameFlow ms c.result x y → Flows (gives x) (gives y)
  flow_bare x y e = given ms rooms nothing Each (SameFlow ms c.result) x y e

  -- ---- switch

  label_bare : (k : ℕ) (l : Option ℤ) (seek : Seek) (next' : Seek → plain.Does (Flow Path)) (body : Seek → f.Does (Flow ℕ)) → ((seek : Seek) → Flows (next' seek) (body seek)) → Flows (label_does (choose k) l seek next') (label_does (mark_does v None) l seek body)
  label_bare k l seek next' body h =
      true_same ms rooms nothing Each (SameFlow ms c.result) (is_running (at_label l seek)) _ _ _ _
      (λ e. next ms rooms nothing Each Done (SameFlow ms c.result) (choose k (not (is_running seek))) (mark_does v None (not (is_running seek))) (λ _ s. next' (at_label l seek) s) (λ _ s. body (at_label l seek) s) (choose_bare k (not (is_running seek))) (λ a b q. h (at_label l seek)))
      (λ e. h (at_label l seek))

  item_bare : (seek : Seek) (g : plain.Does (Flow Path)) (h : f.Does (Flow ℕ)) (next' : Seek → plain.Does (Flow Path)) (body : Seek → f.Does (Flow ℕ)) → Flows g h → ((seek : Seek) → Flows (next' seek) (body seek)) → Flows (item_runs g seek next') (item_runs h seek body)
  item_bare Running g h next' body k l = then_follows ms rooms nothing Each c.result g (next' Running) h (body Running) k (l Running)
  item_bare (For o) g h next' body k l = l (For o)

  ends_bare : (x : Flow Path) (y : Flow ℕ) (g : plain.Does (Unit {0})) (h : f.Does (Unit {0})) → SameFlow ms c.result x y → D Done g h → Flows (where_switch_ends x g) (where_switch_ends y h)
  ends_bare Completed Completed g h e k = effect_follows ms rooms nothing Each c.result g h k
  ends_bare Broke Broke g h e k = effect_follows ms rooms nothing Each c.result g h k
  ends_bare Continued Continued g h e k = flow_bare Continued Continued tt
  ends_bare (Left i) (Left j) g h e k = flow_bare (Left i) (Left j) e
  ends_bare Completed Broke g h e k = absurd e
  ends_bare Completed Continued g h e k = absurd e
  ends_bare Completed (Left j) g h e k = absurd e
  ends_bare Broke Completed g h e k = absurd e
  ends_bare Broke Continued g h e k = absurd e
  ends_bare Broke (Left j) g h e k = absurd e
  ends_bare Continued Completed g h e k = absurd e
  ends_bare Continued Broke g h e k = absurd e
  ends_bare Continued (Left j) g h e k = absurd e
  ends_bare (Left i) Completed g h e k = absurd e
  ends_bare (Left i) Broke g h e k = absurd e
  ends_bare (Left i) Continued g h e k = absurd e

  switch_bare : (ls : List (Option ℤ)) (k : ℕ) (e : plain.Does ℤ) (x : f.Does ℤ) (items : Seek → plain.Does (Flow Path)) (body : Seek → f.Does (Flow ℕ)) → D Equal e x → ((seek : Seek) → Flows (items seek) (body seek)) → Flows (switch_does e ls items (choose k)) (switch_does x ls body (mark_does v None))
  switch_bare ls k e x items body h l =
      next_same ms rooms nothing Each (SameFlow ms c.result) e x _ _ h (λ i.
      next ms rooms nothing Each (SameFlow ms c.result) (SameFlow ms c.result) (items (sought i ls)) (body (sought i ls)) _ _ (l (sought i ls)) (λ a b q.
      ends_bare a b (choose k (is_absent i ls)) (mark_does v None (is_absent i ls)) q (choose_bare k (is_absent i ls))))

  -- ---- statements

  start_bare : (x : ForStart) (w : Within) → There w → IsStart x c → D Done (start x w) (act.start_loop v (bare_start x))
  start_bare (t.StartEffects xs) w g k = effects_bare xs w g k
  start_bare (t.StartDeclaration xs) w g k = declare_bare xs w g k

  loop_test_bare : (x : Option Expression) (w : Within) → There w → IsTest x c → D Equal (loop_test x w) (act.loop_test v (option_map bare_expression x))
  loop_test_bare None w g k = given ms rooms nothing Each Equal true true refl
  loop_test_bare (Some e) w g k = test_follows ms rooms nothing Each c.result (value (evaluate e Controlling w)) (expr.evaluate v (bare_expression e)) (truth_is e w g k)

  returned_bare : (x : ReturnValue) (r : ResultType) (w : Within) → There w → IsReturn x r c → D (IsGiven ms r) (returned x w) (act.returned v (bare_return x))
  returned_bare t.ReturnNothing NoResult w g k = given ms rooms nothing Each (IsGiven ms NoResult) give.Nothing give.Nothing tt
  returned_bare t.ReturnNothing (NumberResult a) w g k = absurd k
  returned_bare t.ReturnNothing (StructureResult u) w g k = absurd k
  returned_bare (t.ReturnNumber e) NoResult w g k = absurd k
  returned_bare (t.ReturnNumber e) (NumberResult a) w g k =
      next_typed ms rooms nothing Each a (IsGiven ms (NumberResult a)) (value (evaluate e Plain w)) (expr.evaluate v (bare_expression e)) _ _ (typed_number e a w g k.0 k.1)
      (λ x i. given ms rooms nothing Each (IsGiven ms (NumberResult a)) (Number x) (Number x) (refl, i))
  returned_bare (t.ReturnNumber e) (StructureResult u) w g k = absurd k
  returned_bare (t.ReturnStructure x i) NoResult w g k = absurd k
  returned_bare (t.ReturnStructure x i) (NumberResult a) w g k = absurd k
  returned_bare (t.ReturnStructure x i) (StructureResult u) w g k =
      next ms rooms nothing Each (At ms u) (IsGiven ms (StructureResult u)) (evaluate_structure x w) (expr.evaluate_structure v (bare_structure x)) _ _ (structure_bare ms rooms v c x u w g k.0 k.1)
      (λ q l at. given ms rooms nothing Each (IsGiven ms (StructureResult u)) (give.Structure q i) (give.Structure l i) (u, refl, at, k.2, k.2))

  abbrev declaring : List Declarator → f.Does (Flow ℕ)
  declaring xs = effect_does (act.declare v (map bare_declarator xs))

  mutual
    pub statement_bare : (x : Statement) (around : Around) (w : Within) → There w → IsStatement x c around → Flows (run x w) (act.run v (bare_statement x))
    statement_bare (t.Compound items span) around w g k = items_bare items Running (inside around) w g k
    statement_bare (t.Label x span) around w g k = flow_bare Completed Completed tt
    statement_bare (t.Declaration xs span) around w g k =
        subst (λ (b : Bool). Flows (run (t.Declaration xs span) w) (where_true b (act.counts v None (declaring xs)) (declaring xs))) (sym (initializes_same xs)) (go (initializes xs))
      where
        declared : (u : Within) → There u → Flows (effect_does (declare xs u)) (declaring xs)
        declared u g = effect_follows ms rooms nothing Each c.result (declare xs u) (act.declare v (map bare_declarator xs)) (declare_bare xs u g k)

        go : (b : Bool) → Flows (where_initializes b w (λ w. effect_does (declare xs w))) (where_true b (act.counts v None (declaring xs)) (declaring xs))
        go true = counts_bare w (λ w. effect_does (declare xs w)) (declaring xs) (declared (into_statement w) g)
        go false = declared w g
    statement_bare (t.Null span) around w g k = counts_bare w (λ w. gives Completed) (gives Completed) (flow_bare Completed Completed tt)
    statement_bare (t.EffectStatement x span) around w g k =
        let u : Within = into_statement w in
        counts_bare w (λ w. effect_does (effect x w)) (effect_does (act.perform v (bare_effect x))) (effect_follows ms rooms nothing Each c.result (effect x u) (act.perform v (bare_effect x)) (effect_bare x true u g k))
    statement_bare (t.If e x keyword span) around w g k =
        let u : Within = into_statement w in
        counts_bare w (λ w. choice_does (value (evaluate e Controlling w)) (run x (past Controlling (n.expression e) w)) (gives Completed)) (choice_does (expr.evaluate v (bare_expression e)) (act.run v (bare_statement x)) (gives Completed))
        (if_follows ms rooms nothing Each c.result (value (evaluate e Controlling u)) (expr.evaluate v (bare_expression e)) (run x (past Controlling (n.expression e) u)) (gives Completed) (act.run v (bare_statement x)) (gives Completed) (truth_is e u g k.0) (statement_bare x (inside around) (past Controlling (n.expression e) u) g k.1) (flow_bare Completed Completed tt))
    statement_bare (t.IfElse e x o keyword span) around w g k =
        let u : Within = into_statement w in
        let y : Within = past Controlling (n.expression e) u in
        counts_bare w (λ w. choice_does (value (evaluate e Controlling w)) (run x (past Controlling (n.expression e) w)) (run o (past_statement x (past Controlling (n.expression e) w)))) (choice_does (expr.evaluate v (bare_expression e)) (act.run v (bare_statement x)) (act.run v (bare_statement o)))
        (if_follows ms rooms nothing Each c.result (value (evaluate e Controlling u)) (expr.evaluate v (bare_expression e)) (run x y) (run o (past_statement x y)) (act.run v (bare_statement x)) (act.run v (bare_statement o)) (truth_is e u g k.0) (statement_bare x (inside around) y g k.1) (statement_bare o (inside around) (past_statement x y) g k.2))
    statement_bare (t.Switch e items keyword span) around w g k =
        let u : Within = into_statement w in
        let y : Within = in_switch items (past Plain (n.expression e) u) in
        counts_bare w (λ w. switch_does (value (evaluate e Plain w)) (labels_of items) (λ seek. run_from items seek (in_switch items (past Plain (n.expression e) w))) (choose w.points.labels)) (switch_does (expr.evaluate v (bare_expression e)) (labels_of (erase_statements (bare_statements items))) (act.run_from v (bare_statements items)) (mark_does v None))
        (subst (λ (ls : Statements). Flows (switch_does (value (evaluate e Plain u)) (labels_of items) (λ seek. run_from items seek y) (choose u.points.labels)) (switch_does (expr.evaluate v (bare_expression e)) (labels_of ls) (act.run_from v (bare_statements items)) (mark_does v None))) (sym (statements_back items))
        (switch_bare (labels_of items) u.points.labels (value (evaluate e Plain u)) (expr.evaluate v (bare_expression e)) (λ seek. run_from items seek y) (act.run_from v (bare_statements items)) (number e u g k.0)
        (λ seek. items_bare items seek (sound.in_switch around (type_of e)) y g k.2)))
    statement_bare (t.For begin test step x keyword span) around w g k =
        let u : Within = into_statement w in
        let u1 : Within = past_start begin u in
        let u2 : Within = past_test test u1 in
        let u3 : Within = past_step step u2 in
        counts_bare w
        (λ w s. after (start begin w s) (λ _. loop_does (loop_test test (past_start begin w)) (run x (past_step step (past_test test (past_start begin w)))) (effects step (past_test test (past_start begin w)))))
        (λ s. after (act.start_loop v (bare_start begin) s) (λ _ s. loop_does (act.loop_test v (option_map bare_expression test)) (act.run v (bare_statement x)) (act.perform_all v (map bare_effect step)) s))
        (next ms rooms nothing Each Done (SameFlow ms c.result) (start begin u) (act.start_loop v (bare_start begin)) _ _ (start_bare begin u g k.0)
        (λ a b' o. loop_follows ms rooms nothing Each c.result (loop_test test u1) (act.loop_test v (option_map bare_expression test)) (run x u3) (act.run v (bare_statement x)) (effects step u2) (act.perform_all v (map bare_effect step)) (loop_test_bare test u1 g k.1) (statement_bare x in_loop u3 g k.3) (effects_bare step u2 g k.2)))
    statement_bare (t.DoWhile x e keyword span) around w g k =
        let u : Within = into_statement w in
        let y : Within = past_statement x u in
        counts_bare w (λ w. do_does (run x w) (as_does is_true (value (evaluate e Controlling (past_statement x w))))) (do_does (act.run v (bare_statement x)) (as_does is_true (expr.evaluate v (bare_expression e))))
        (do_follows ms rooms nothing Each c.result (run x u) (act.run v (bare_statement x)) (as_does is_true (value (evaluate e Controlling y))) (as_does is_true (expr.evaluate v (bare_expression e))) (statement_bare x in_loop u g k.0)
        (test_follows ms rooms nothing Each c.result (value (evaluate e Controlling y)) (expr.evaluate v (bare_expression e)) (truth_is e y g k.1)))
    statement_bare (t.Break span) around w g k = counts_bare w (λ w. gives Broke) (gives Broke) (flow_bare Broke Broke tt)
    statement_bare (t.Continue span) around w g k = counts_bare w (λ w. gives Continued) (gives Continued) (flow_bare Continued Continued tt)
    statement_bare (t.Return x span) around w g k =
        let u : Within = into_statement w in
        counts_bare w (leave x) (act.exit_does v None (act.returned v (bare_return x)))
        (next ms rooms nothing Each (IsGiven ms c.result) (SameFlow ms c.result) (returned x u) (act.returned v (bare_return x)) _ _ (returned_bare x c.result u g k)
        (λ a b q. next ms rooms nothing Each Done (SameFlow ms c.result) (lists (Exited u.points.exits ∷ [])) (f.hits_some v None) (λ _ s. gives (Left a) s) (λ _ s. gives (Left b) s) (mark_bare (Exited u.points.exits)) (λ y z o. flow_bare (Left a) (Left b) q)))

    pub items_bare : (items : Statements) (seek : Seek) (around : Around) (w : Within) → There w → AreStatements items c around → Flows (run_from items seek w) (act.run_from v (bare_statements items) seek)
    items_bare t.no_statements seek around w g k = flow_bare Completed Completed tt
    items_bare (t.statements (t.Label x span) rest) seek around w g k =
        label_bare w.points.labels x seek (λ seek. run_from rest seek (past_statement (t.Label x span) w)) (act.run_from v (bare_statements rest)) (λ seek. items_bare rest seek around (past_statement (t.Label x span) w) g k.1)
    items_bare (t.statements x rest) seek around w g k =
        item_bare seek (run x w) (act.run v (bare_statement x)) (λ seek. run_from rest seek (past_statement x w)) (act.run_from v (bare_statements rest)) (statement_bare x around w g k.0) (λ seek. items_bare rest seek around (past_statement x w) g k.1)
