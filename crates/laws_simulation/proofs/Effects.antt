-- The effects and declarations of an instrumented program follow those of the program.
use Rattle.std.proofs.Common.{◌≡◌, ◌∙◌, refl, sym, ap, subst, ℕ, zero, suc, ◌+◌, ◌*◌, ◌<◌, ◌≤◌, ◌⊎◌, inl, inr, pos, Bool, true, false, if◌then◌else◌, List, [], ◌∷◌, ◌++◌, Option, Some, None, arith}
use Rattle.std.specs.Prelude.{slice_get, option_map}
use Rattle.std.proofs.lemmas.Bool.{cases_lt}
use Rattle.mc_value.specs.declared.int_type.IntType.{IntType}
use Rattle.mc_cond.specs.Tree.{Tree}
use Rattle.mc_typed.specs.declared.probes.Probe as code
use Rattle.mc_typed.specs.declared.probes.Probe.TheVariants.{Decision}
use Rattle.mc_typed.specs.Layout.{ObjectType, Scalar, Array, Structure, Members, no_members, members, cells, cells_all, member, start}
use Rattle.mc_typed.specs.Tree.{Place, Expression, StructureValue, FunctionCall, Effect, Initializer, Initializers, Declarator, ResultType, Object}
use Rattle.mc_typed.specs.Tree as t
use Rattle.mc_typed.specs.Sound.{Scope, IsSlotOf, object_type_at, place_type, structure_type, structure_result, IsStructureType, result_at, type_of, Takes, IsPlace, IsExpression, IsStructure, IsEffect, AreClauses, IsInitializer, AreElements, AreMembers, IsInitial, AreDeclarators, count_of}
use Rattle.mc_typed.proofs.Places.{here, begins, joined, block_fits}
use Rattle.decide_rules.specs.declared.role.Role.TheVariants.{Controlling, Plain}
use Rattle.decide_rules.specs.Nodes.{Node}
use Rattle.decide_rules.specs.Nodes as n
use Rattle.decide_rules.specs.Roots.{is_root}
use Rattle.decide_rules.specs.Conditions.{width}
use Rattle.decide_rules.specs.Counts.{roots}
use Rattle.mc_steps.specs.Expressions.{drop_does, both_do}
use Rattle.mc_steps.specs.Calls.{unset_does}
use Rattle.mc_meaning.specs.Stores.{Path, on_places}
use Rattle.mc_meaning.specs.Within as plain
use Rattle.mc_meaning.specs.Within.{Within, local}
use Rattle.mc_meaning.specs.Positions.{past}
use Rattle.mc_meaning.specs.Decisions.{value}
use Rattle.mc_meaning.specs.Expressions.{evaluate_place, evaluate, evaluate_structure, evaluate_call}
use Rattle.mc_meaning.specs.Statements.{effect, effects, initialize, initialize_from, initialize_where, declare}
use Rattle.mc_meaning.proofs.Numbered.{trees, trees_in}
use Rattle.mc_probe.specs.Flat.{Activation, flat}
use Rattle.mc_probe.specs.Flat as f
use Rattle.mc_probe.specs.Tree as p
use Rattle.mc_probe.specs.Expressions as run
use Rattle.mc_probe.specs.Statements as act
use Rattle.mc_probe.specs.Maps.{Map, IsMap}
use Rattle.mc_probe.specs.Table.{Stand, Loose, role_of, operand, under, beside, inner, base_of, mapped, round_condition, put, put_place, put_structure, put_call, put_effect, put_effects, put_initializer, put_initializers, put_initial, put_declarators}
use Rattle.laws_simulation.specs.Related.{whole}
use Rattle.laws_simulation.specs.Activations.{At}
use Rattle.laws_simulation.specs.Activations as given_by
use Rattle.laws_simulation.specs.Expressions.{bit_of, IsValue, Spared}
use Rattle.laws_simulation.proofs.Values.{none_fills, zero_fills}
use Rattle.laws_simulation.proofs.Follow.{Equal, SameTruth, Typed, some_same_value, inside_part, given, keeps_less, choice_follows}
use Rattle.laws_simulation.proofs.Decisions.{Goes, spared_more}
use Rattle.laws_simulation.proofs.Expressions.{Agreed, IsHere, here_left, here_past, none_some, place_follows, number_follows, typed_follows, test_follows, value_tells, structure_follows, call_follows, slot_at}
use Rattle.laws_simulation.proofs.Acts.{Done, drop_follows, both_follow, put_follows, assign_follows, update_follows, copied_follows, output_follows, store_follows, store_structure_follows, rest_follows}

-- ---- parts of objects

pub start_within : (us : Members) (i : ℕ) → start us i ≤ cells_all us
start_within no_members i = omega arith
start_within (members u us) zero = omega arith
start_within (members u us) (suc i) = let h = start_within us i in omega (arith, h)

pub first_begins : (us : Members) → 0 ≡ start us 0
first_begins no_members = refl
first_begins (members u us) = refl

pub start_next : (us : Members) (i : ℕ) (u : ObjectType) → member us i ≡ Some u → start us (suc i) ≡ start us i + cells u
start_next no_members i u e = none_some u e
start_next (members x us) zero u e = let s : cells x ≡ cells u = ap cells (some_same_value x u e) in omega (arith, s, first_begins us)
start_next (members x us) (suc i) u e = let h = start_next us i u e in omega (arith, h)

-- the second are the members of the first from number i on
abbrev pub IsFrom : Members → ℕ → Members → Type 0
IsFrom all i us = (j : ℕ) → member all (i + j) ≡ member us j

pub times : (i j c : ℕ) → i ≤ j → i * c ≤ j * c
times i j c h = go (cases_lt i j)
  where
    go : (i < j) ⊎ (j ≤ i) → i * c ≤ j * c
    go (inl y) = omega (arith, block_fits c i j y)
    go (inr y) = let e : i ≡ j = omega (arith, h, y) in subst (λ x. i * c ≤ x * c) e (omega arith)

module _ (ms : Members) (rooms : ℕ) (m : Map) (first count : ℕ) (v : Activation) (c : Scope) (is : IsMap m) (room : v.first + count ≤ rooms) (bits : v.bits ≡ m.bits) where
  abbrev There : Within → Type 0
  There w = Agreed ms rooms m first count v c is room bits w

  abbrev Here : ℕ → ℕ → List Tree → Type 0
  Here k d ts = IsHere ms rooms m first count v k d ts

  abbrev Acted : ℕ → {A B : Type 0} → (A → B → Type 0) → plain.Does A → f.Does B → Type 0
  Acted d w g h = Goes ms rooms m first count v d w g h

  less : (d u : ℕ) {A B : Type 0} (w : A → B → Type 0) (g : plain.Does A) (h : f.Does B) → d ≤ u → Acted u w g h → Acted d w g h
  less d u w g h le k =
      keeps_less ms rooms (bit_of m) (Spared ms rooms m first count v u) (Spared ms rooms m first count v d) w g h
      (λ r q. spared_more ms rooms m first count v room bits is.few d u r le q) k

  left : (k d : ℕ) (xs ys : List Tree) → Here k d (xs ++ ys) → Here k d xs
  left k d xs ys h = here_left ms rooms m first count v k d xs ys h

  later : (k d : ℕ) (a : Node) (ys : List Tree) → Here k d (trees Plain a ++ ys) → Here (k + roots Plain a) (d + roots Plain a) ys
  later k d a ys h = here_past ms rooms m first count v k d Plain a ys h

  here_zero : (k d : ℕ) (ts : List Tree) → Here k d ts → Here k (d + 0) ts
  here_zero k d ts h = subst (λ (z : ℕ). Here k z ts) (omega arith) h

  place : (q : Place) (u : ObjectType) (w : Within) (d : ℕ) → There w → IsPlace q c → place_type c q ≡ Some u → Here w.decisions d (trees Plain (n.place q)) → Acted d (At ms u) (evaluate_place q w) (run.evaluate_place v (put_place m first d q))
  place q u w d g k e h = place_follows ms rooms m first count v c is room bits q u w d g k e h

  number : (e : Expression) (w : Within) (d : ℕ) → There w → IsExpression e c → Here w.decisions d (trees Plain (n.expression e)) → Acted d Equal (value (evaluate e Plain w)) (run.evaluate v (put m first (Loose Plain) d e))
  number e w d g k h = number_follows ms rooms m first count v c is room bits e w d g k h

  typed_number : (e : Expression) (a : IntType) (w : Within) (d : ℕ) → There w → IsExpression e c → type_of e ≡ a → Here w.decisions d (trees Plain (n.expression e)) → Acted d (Typed a) (value (evaluate e Plain w)) (run.evaluate v (put m first (Loose Plain) d e))
  typed_number e a w d g k same h = typed_follows ms rooms m first count v c is room bits e a w d g k same h

  test : (e : Expression) (w : Within) (d : ℕ) → There w → IsExpression e c → Here w.decisions d (trees Controlling (n.expression e)) → Acted d SameTruth (value (evaluate e Controlling w)) (run.evaluate v (put m first (Loose Controlling) d e))
  test e w d g k h = test_follows ms rooms m first count v c is room bits e w d g k h

  structure : (q : StructureValue) (u : ObjectType) (w : Within) (d : ℕ) → There w → IsStructure q c → structure_type c q ≡ Some u → Here w.decisions d (trees Plain (n.structure q)) → Acted d (At ms u) (evaluate_structure q w) (run.evaluate_structure v (put_structure m first d q))
  structure q u w d g k e h = structure_follows ms rooms m first count v c is room bits q u w d g k e h

  abbrev Sparing : ℕ → ℕ → Type 0
  Sparing d = Spared ms rooms m first count v d

  -- ---- a number that is not used

  abbrev IsOther : Expression → Bool → Type 0
  IsOther (t.Call k a) true = ⊥
  IsOther _ _ = Unit {0}

  abbrev IsDropped : p.Expression → Bool → Type 0
  IsDropped x whole = act.perform v (p.NumberEffect x whole) ≡ drop_does (run.evaluate v x)

  dropped_where : (b : Bool) (q : code.Probe) (y x : p.Expression) (whole : Bool) → IsDropped x whole → IsDropped (if b then p.Probe q y else x) whole
  dropped_where true q y x whole h = refl
  dropped_where false q y x whole h = h

  dropped : (e : Expression) (whole : Bool) (d : ℕ) → IsOther e whole → IsDropped (put m first (Loose Plain) d e) whole
  dropped (t.Constant x a span) whole d o = refl
  dropped (t.Read q a) whole d o = refl
  dropped (t.Unary operator a e span) whole d o = refl
  dropped (t.Convert a written e span) whole d o = refl
  dropped (t.Not e span) whole d o =
      let a : Node = n.expression (t.Not e span) in
      let x : p.Expression = p.Not (put m first (operand (Loose Plain) d a) (inner (Loose Plain) d a) e) span in
      dropped_where (is_root Plain a) (Decision d (base_of (mapped m first d))) (round_condition m first d 0 a x) x whole refl
  dropped (t.Binary operator a e i span) whole d o =
      let b : Node = n.expression (t.Binary operator a e i span) in
      let z : ℕ = inner (Loose Plain) d b in
      let u : Stand = under (n.full_operator operator e i) (operand (Loose Plain) d b) in
      let x : p.Expression = p.Binary operator a (put m first u z e) (put m first (beside u (width (n.expression e))) (z + roots (role_of u) (n.expression e)) i) span in
      dropped_where (is_root Plain b) (Decision d (base_of (mapped m first d))) (round_condition m first d 0 b x) x whole refl
  dropped (t.Logic operator e i span) whole d o =
      let a : Node = n.expression (t.Logic operator e i span) in
      let u : Stand = operand (Loose Plain) d a in
      let z : ℕ = inner (Loose Plain) d a in
      let x : p.Expression = p.Logic operator (put m first u z e) (put m first (beside u (width (n.expression e))) (z + roots (role_of u) (n.expression e)) i) span in
      dropped_where (is_root Plain a) (Decision d (base_of (mapped m first d))) (round_condition m first d 0 a x) x whole refl
  dropped (t.Choice e i j a span) whole d o = refl
  dropped (t.Call k a) true d o = absurd o
  dropped (t.Call k a) false d o = refl
  dropped (t.Input span) whole d o = refl

  dropped_follows : (e : Expression) (whole : Bool) (w : Within) (d : ℕ) → There w → IsExpression e c → IsOther e whole → Here w.decisions d (trees Plain (n.expression e)) → Acted d Done (drop_does (evaluate e Plain w)) (act.perform v (p.NumberEffect (put m first (Loose Plain) d e) whole))
  dropped_follows e whole w d g k o h =
      subst (λ (q : f.Does (Unit {0})). Acted d Done (drop_does (evaluate e Plain w)) q) (sym (dropped e whole d o))
      (drop_follows ms rooms (bit_of m) (Sparing d) (λ j y. IsValue Plain j.value y) (evaluate e Plain w) (run.evaluate v (put m first (Loose Plain) d e))
      (value_tells ms rooms m first count v c is room bits e (Loose Plain) w d g k tt h))

  -- ---- structures

  some_type : (o : Option ObjectType) → IsStructureType o → (u : ObjectType) × (o ≡ Some u)
  some_type None h = absurd h
  some_type (Some u) h = (u, refl)

  type_there : (x : StructureValue) → IsStructure x c → (u : ObjectType) × (structure_type c x ≡ Some u)
  type_there (t.Stored q) k = some_type (place_type c q) k.1
  type_there (t.Returned (t.call called given' result span)) k = some_type (structure_result (result_at (slice_get c.functions called))) k.2

  -- ---- effects

  pub effect_follows : (x : Effect) (b : Bool) (w : Within) (d : ℕ) → There w → IsEffect x b c → Here w.decisions d (trees Plain (n.effect x)) → Acted d Done (effect x w) (act.perform v (put_effect m first d x))
  effect_follows (t.Assign q a e span) b w d g k h =
      let u : Within = past Plain (n.place q) w in
      let y : ℕ = d + roots Plain (n.place q) in
      let le : d ≤ y = omega arith in
      let rest : List Tree = trees Plain (n.expression e) ++ [] in
      assign_follows ms rooms (bit_of m) (Sparing d) a (evaluate_place q w) (value (evaluate e Plain u)) (run.evaluate_place v (put_place m first d q)) (run.evaluate v (put m first (Loose Plain) y e))
      (place q (Scalar a) w d g k.1 k.2 (left w.decisions d (trees Plain (n.place q)) rest h))
      (less d y (Typed a) (value (evaluate e Plain u)) (run.evaluate v (put m first (Loose Plain) y e)) le
      (typed_number e a u y g k.3 k.4 (left u.decisions y (trees Plain (n.expression e)) [] (later w.decisions d (n.place q) rest h))))
  effect_follows (t.Update q a operator common e span) b w d g k h =
      let u : Within = past Plain (n.place q) w in
      let y : ℕ = d + roots Plain (n.place q) in
      let le : d ≤ y = omega arith in
      let rest : List Tree = trees Plain (n.expression e) ++ [] in
      update_follows ms rooms (bit_of m) (Sparing d) a operator common (evaluate_place q w) (value (evaluate e Plain u)) (run.evaluate_place v (put_place m first d q)) (run.evaluate v (put m first (Loose Plain) y e))
      (place q (Scalar a) w d g k.1 k.2 (left w.decisions d (trees Plain (n.place q)) rest h))
      (less d y Equal (value (evaluate e Plain u)) (run.evaluate v (put m first (Loose Plain) y e)) le
      (number e u y g k.5 (left u.decisions y (trees Plain (n.expression e)) [] (later w.decisions d (n.place q) rest h))))
  effect_follows (t.Copy q x i span) b w d g k h = copy_is (structure_type c x) refl
    where
      copy_is : (o : Option ObjectType) → structure_type c x ≡ o → Acted d Done (effect (t.Copy q x i span) w) (act.perform v (put_effect m first d (t.Copy q x i span)))
      copy_is None e = none_some i (ap (option_map cells) (sym e) ∙ k.4)
      copy_is (Some s) e =
          let u : Within = past Plain (n.place q) w in
          let y : ℕ = d + roots Plain (n.place q) in
          let le : d ≤ y = omega arith in
          let rest : List Tree = trees Plain (n.structure x) ++ [] in
          copied_follows ms rooms (bit_of m) (Sparing d) s i (evaluate_place q w) (evaluate_structure x u) (run.evaluate_place v (put_place m first d q)) (run.evaluate_structure v (put_structure m first y x))
          (some_same_value i (cells s) (sym k.4 ∙ ap (option_map cells) e))
          (place q s w d g k.1 (k.3 ∙ e) (left w.decisions d (trees Plain (n.place q)) rest h))
          (less d y (At ms s) (evaluate_structure x u) (run.evaluate_structure v (put_structure m first y x)) le
          (structure x s u y g k.2 e (left u.decisions y (trees Plain (n.structure x)) [] (later w.decisions d (n.place q) rest h))))
  effect_follows (t.NumberEffect (t.Call (t.call called given' result span) a) true) b w d g k h =
      let i : FunctionCall = t.call called given' result span in
      let r : ResultType = result_at (slice_get c.functions called) in
      let z : ℕ = d + 0 in
      let le : d ≤ z = omega arith in
      drop_follows ms rooms (bit_of m) (Sparing d) (given_by.IsGiven ms r) (evaluate_call i w) (run.evaluate_call v (put_call m first z i))
      (less d z (given_by.IsGiven ms r) (evaluate_call i w) (run.evaluate_call v (put_call m first z i)) le
      (call_follows ms rooms m first count v c is room bits i w z g (k.1.0, k.1.1, subst (λ (r : ResultType). Takes result r c) (sym k.1.3) k.1.2) (here_zero w.decisions d (trees_in (n.arguments given')) h)))
  effect_follows (t.NumberEffect e whole) b w d g k h = dropped_follows e whole w d g k.1 tt h
  effect_follows (t.StructureEffect (t.Returned (t.call called given' result span)) true) b w d g k h =
      let i : FunctionCall = t.call called given' result span in
      let r : ResultType = result_at (slice_get c.functions called) in
      drop_follows ms rooms (bit_of m) (Sparing d) (given_by.IsGiven ms r) (evaluate_call i w) (run.evaluate_call v (put_call m first d i))
      (call_follows ms rooms m first count v c is room bits i w d g (k.1.0, k.1.1, k.1.3) h)
  effect_follows (t.StructureEffect x whole) b w d g k h =
      let s = type_there x k.1 in
      drop_follows ms rooms (bit_of m) (Sparing d) (At ms s.0) (evaluate_structure x w) (run.evaluate_structure v (put_structure m first d x)) (structure x s.0 w d g k.1 s.1 h)
  effect_follows (t.CallEffect (t.call called given' result span)) b w d g k h =
      let i : FunctionCall = t.call called given' result span in
      let r : ResultType = result_at (slice_get c.functions called) in
      drop_follows ms rooms (bit_of m) (Sparing d) (given_by.IsGiven ms r) (evaluate_call i w) (run.evaluate_call v (put_call m first d i))
      (call_follows ms rooms m first count v c is room bits i w d g (k.0, k.1, subst (λ (r : ResultType). Takes result r c) (sym k.3) k.2) h)
  effect_follows (t.Output e span) b w d g k h =
      output_follows ms rooms (bit_of m) (Sparing d) (value (evaluate e Plain w)) (run.evaluate v (put m first (Loose Plain) d e))
      (number e w d g k.0 (left w.decisions d (trees Plain (n.expression e)) [] h))
  effect_follows (t.ChoiceEffect e x y span) b w d g k h =
      let u : Within = past Controlling (n.expression e) w in
      let q : Within = past Plain (n.effect x) u in
      let i : ℕ = d + roots Controlling (n.expression e) in
      let j : ℕ = i + roots Plain (n.effect x) in
      let last : List Tree = trees Plain (n.effect y) ++ [] in
      let rest : List Tree = trees Plain (n.effect x) ++ last in
      let one : d ≤ i = omega arith in
      let two : d ≤ j = omega arith in
      let after_test = here_past ms rooms m first count v w.decisions d Controlling (n.expression e) rest h in
      choice_follows ms rooms (bit_of m) (Sparing d) Done (value (evaluate e Controlling w)) (effect x u) (effect y q) (run.evaluate v (put m first (Loose Controlling) d e)) (act.perform v (put_effect m first i x)) (act.perform v (put_effect m first j y))
      (test e w d g k.0 (left w.decisions d (trees Controlling (n.expression e)) rest h))
      (less d i Done (effect x u) (act.perform v (put_effect m first i x)) one (effect_follows x false u i g k.1 (left u.decisions i (trees Plain (n.effect x)) last after_test)))
      (less d j Done (effect y q) (act.perform v (put_effect m first j y)) two (effect_follows y false q j g k.2 (left q.decisions j (trees Plain (n.effect y)) [] (later u.decisions i (n.effect x) last after_test))))
  effect_follows (t.Discard x span) b w d g k h = effect_follows x b w d g k.1 (left w.decisions d (trees Plain (n.effect x)) [] h)

  pub effects_follow : (xs : List Effect) (w : Within) (d : ℕ) → There w → AreClauses xs c → Here w.decisions d (trees_in (n.effects xs)) → Acted d Done (effects xs w) (act.perform_all v (put_effects m first d xs))
  effects_follow [] w d g k h = given ms rooms (bit_of m) (Sparing d) Done tt tt tt
  effects_follow (x ∷ rest) w d g k h =
      let u : Within = past Plain (n.effect x) w in
      let y : ℕ = d + roots Plain (n.effect x) in
      let le : d ≤ y = omega arith in
      both_follow ms rooms (bit_of m) (Sparing d) (effect x w) (effects rest u) (act.perform v (put_effect m first d x)) (act.perform_all v (put_effects m first y rest))
      (effect_follows x true w d g k.0 (left w.decisions d (trees Plain (n.effect x)) (trees_in (n.effects rest)) h))
      (less d y Done (effects rest u) (act.perform_all v (put_effects m first y rest)) le
      (effects_follow rest u y g k.1 (later w.decisions d (n.effect x) (trees_in (n.effects rest)) h)))

  -- ---- initializers

  width_is : (x : Initializer) (u : ObjectType) (d : ℕ) → IsInitializer x u c → act.width v (put_initializer m first d x) ≡ cells u
  width_is (t.NumberInitializer e) (Scalar a) d k = refl
  width_is (t.NumberInitializer e) (Array i u) d k = absurd k
  width_is (t.NumberInitializer e) (Structure i us) d k = absurd k
  width_is (t.StructureInitializer x i) u d k = k.2
  width_is (t.ListInitializer items i) (Scalar a) d k = absurd k
  width_is (t.ListInitializer items i) (Array j u) d k = k.0
  width_is (t.ListInitializer items i) (Structure j us) d k = k.0
  width_is (t.ZeroInitializer e i) u d k = k.0

  mutual
    initialize_follows : (x : Initializer) (u : ObjectType) (q : Path) (l : ℕ) (w : Within) (d : ℕ) → There w → IsInitializer x u c → At ms u q l → Here w.decisions d (trees Plain (n.initializer x)) → Acted d Done (initialize x q w) (act.initialize v (put_initializer m first d x) l)
    initialize_follows (t.NumberInitializer e) (Scalar a) q l w d g k at h =
        store_follows ms rooms (bit_of m) (Sparing d) a q l (value (evaluate e Plain w)) (run.evaluate v (put m first (Loose Plain) d e)) at (typed_number e a w d g k.0 k.1 h)
    initialize_follows (t.NumberInitializer e) (Array i u) q l w d g k at h = absurd k
    initialize_follows (t.NumberInitializer e) (Structure i us) q l w d g k at h = absurd k
    initialize_follows (t.StructureInitializer x i) u q l w d g k at h =
        store_structure_follows ms rooms (bit_of m) (Sparing d) u q l i (evaluate_structure x w) (run.evaluate_structure v (put_structure m first d x)) k.2 at (structure x u w d g k.0 k.1 h)
    initialize_follows (t.ListInitializer items i) (Scalar a) q l w d g k at h = absurd k
    initialize_follows (t.ListInitializer items i) (Array j u) q l w d g k at h =
        elements_follow items u j 0 0 0 i q l w d g k.2 (omega (arith, k.1)) (omega arith) k.0 at h
    initialize_follows (t.ListInitializer items i) (Structure j us) q l w d g k at h =
        members_follow items us j us 0 0 0 i q l w d g k.1 (λ b. ap (member us) (omega arith)) (first_begins us) k.0 at h
    initialize_follows (t.ZeroInitializer e i) u q l w d g k at h =
        put_follows ms rooms (bit_of m) (Sparing d) u q l i i (Some (pos 0)) k.0 at (zero_fills u)

    elements_follow : (items : Initializers) (u : ObjectType) (j i o offset whole' : ℕ) (q : Path) (l : ℕ) (w : Within) (d : ℕ) → There w → AreElements items u c → i + count_of items ≤ j → offset ≡ i * cells u → whole' ≡ cells (Array j u) → At ms (Array j u) q l → Here w.decisions d (trees_in (n.initializers items)) → Acted d Done (initialize_from items q i w) (act.initialize_from v (put_initializers m first d items) l o offset whole')
    elements_follow t.no_initializers u j i o offset size q l w d g k few at_offset is at h =
        rest_follows ms rooms (bit_of m) (Sparing d) (Array j u) q l i o offset size 0 0 tt (times i j (cells u) (omega (arith, few))) at_offset is at
    elements_follow (t.initializers x rest) u j i o offset size q l w d g k few at_offset is at h =
        let y : Within = past Plain (n.initializer x) w in
        let z : ℕ = d + roots Plain (n.initializer x) in
        let le : d ≤ z = omega arith in
        let lt : i < j = omega (arith, few) in
        let more : suc i + count_of rest ≤ j = omega (arith, few) in
        let wide = width_is x u d k.0 in
        let there : At ms u (q ++ i ∷ []) (l + offset) =
        subst (λ (z : ℕ). At ms u (q ++ i ∷ []) (l + z)) (sym at_offset)
        (inside_part q i at.0, joined (whole ms) q (Array j u) l (i ∷ []) u (i * cells u) at.1 (0, lt, here u, omega arith)) in
        let on : offset + act.width v (put_initializer m first d x) ≡ suc i * cells u = omega (arith, at_offset, wide) in
        both_follow ms rooms (bit_of m) (Sparing d) (initialize x (q ++ i ∷ []) w) (initialize_from rest q (suc i) y) (act.initialize v (put_initializer m first d x) (l + offset)) (act.initialize_from v (put_initializers m first z rest) l (o + 1) (offset + act.width v (put_initializer m first d x)) size)
        (initialize_follows x u (q ++ i ∷ []) (l + offset) w d g k.0 there (left w.decisions d (trees Plain (n.initializer x)) (trees_in (n.initializers rest)) h))
        (less d z Done (initialize_from rest q (suc i) y) (act.initialize_from v (put_initializers m first z rest) l (o + 1) (offset + act.width v (put_initializer m first d x)) size) le
        (elements_follow rest u j (suc i) (o + 1) (offset + act.width v (put_initializer m first d x)) size q l y z g k.1 more on is at (later w.decisions d (n.initializer x) (trees_in (n.initializers rest)) h)))

    members_follow : (items : Initializers) (all : Members) (j : ℕ) (us : Members) (i o offset whole' : ℕ) (q : Path) (l : ℕ) (w : Within) (d : ℕ) → There w → AreMembers items us c → IsFrom all i us → offset ≡ start all i → whole' ≡ cells (Structure j all) → At ms (Structure j all) q l → Here w.decisions d (trees_in (n.initializers items)) → Acted d Done (initialize_from items q i w) (act.initialize_from v (put_initializers m first d items) l o offset whole')
    members_follow t.no_initializers all j us i o offset size q l w d g k from at_offset is at h =
        rest_follows ms rooms (bit_of m) (Sparing d) (Structure j all) q l i o offset size 0 0 tt (start_within all i) at_offset is at
    members_follow (t.initializers x rest) all j no_members i o offset size q l w d g k from at_offset is at h = absurd k
    members_follow (t.initializers x rest) all j (members u us) i o offset size q l w d g k from at_offset is at h =
        let y : Within = past Plain (n.initializer x) w in
        let z : ℕ = d + roots Plain (n.initializer x) in
        let le : d ≤ z = omega arith in
        let wide = width_is x u d k.0 in
        let this : member all i ≡ Some u = ap (member all) (omega arith) ∙ from 0 in
        let there : At ms u (q ++ i ∷ []) (l + offset) =
        subst (λ (z : ℕ). At ms u (q ++ i ∷ []) (l + z)) (sym at_offset)
        (inside_part q i at.0, joined (whole ms) q (Structure j all) l (i ∷ []) u (start all i) at.1 (begins all i u this)) in
        let on : offset + act.width v (put_initializer m first d x) ≡ start all (suc i) = omega (arith, at_offset, wide, start_next all i u this) in
        both_follow ms rooms (bit_of m) (Sparing d) (initialize x (q ++ i ∷ []) w) (initialize_from rest q (suc i) y) (act.initialize v (put_initializer m first d x) (l + offset)) (act.initialize_from v (put_initializers m first z rest) l (o + 1) (offset + act.width v (put_initializer m first d x)) size)
        (initialize_follows x u (q ++ i ∷ []) (l + offset) w d g k.0 there (left w.decisions d (trees Plain (n.initializer x)) (trees_in (n.initializers rest)) h))
        (less d z Done (initialize_from rest q (suc i) y) (act.initialize_from v (put_initializers m first z rest) l (o + 1) (offset + act.width v (put_initializer m first d x)) size) le
        (members_follow rest all j us (suc i) (o + 1) (offset + act.width v (put_initializer m first d x)) size q l y z g k.1 (λ b. ap (member all) (omega arith) ∙ from (suc b)) on is at (later w.decisions d (n.initializer x) (trees_in (n.initializers rest)) h)))

  -- ---- declarations

  initial_follows : (x : Option Initializer) (u : ObjectType) (q : Path) (l : ℕ) (w : Within) (d : ℕ) → There w → IsInitial x (Some u) c → At ms u q l → Here w.decisions d (trees Plain (n.initial x)) → Acted d Done (initialize_where x q w) (act.initialize_where v (put_initial m first d x) l)
  initial_follows None u q l w d g k at h = given ms rooms (bit_of m) (Sparing d) Done tt tt tt
  initial_follows (Some x) u q l w d g k at h = initialize_follows x u q l w d g k at h

  pub declare_follows : (xs : List Declarator) (w : Within) (d : ℕ) → There w → AreDeclarators xs c → Here w.decisions d (trees_in (n.declarators xs)) → Acted d Done (declare xs w) (act.declare v (put_declarators m first d xs))
  declare_follows [] w d g k h = given ms rooms (bit_of m) (Sparing d) Done tt tt tt
  declare_follows (x ∷ rest) w d g k h =
      one (slice_get c.objects x.slot.object) refl k.0.0 k.0.1
      (declare_follows rest (past Plain (n.initial x.value) w) (d + roots Plain (n.initial x.value)) g k.1 (later w.decisions d (n.initial x.value) (trees_in (n.declarators rest)) h))
    where
      one : (o : Option Object) → slice_get c.objects x.slot.object ≡ o → option_map (λ o. o.start) o ≡ Some x.slot.start → option_map (λ o. o.cells) o ≡ Some x.cells → Acted (d + roots Plain (n.initial x.value)) Done (declare rest (past Plain (n.initial x.value) w)) (act.declare v (put_declarators m first (d + roots Plain (n.initial x.value)) rest)) → Acted d Done (declare (x ∷ rest) w) (act.declare v (put_declarators m first d (x ∷ rest)))
      one None e a b others = none_some x.cells b
      one (Some o) e a b others =
          let y : Within = past Plain (n.initial x.value) w in
          let z : ℕ = d + roots Plain (n.initial x.value) in
          let le : d ≤ z = omega arith in
          let l : ℕ = v.base + x.slot.start in
          let q : Path = local w x.slot in
          let u : ObjectType = o.object_type in
          let typed : object_type_at c.objects x.slot.object ≡ Some u = ap (option_map (λ o. o.object_type)) e in
          let slotted : IsSlotOf c.objects x.slot u = (k.0.0, typed) in
          let at : At ms u q l = slot_at ms rooms m first count v c is room bits x.slot u w g slotted in
          let size : x.cells ≡ cells u = sym (some_same_value o.cells x.cells b) ∙ g.sizes x.slot.object o e in
          let has : IsInitial x.value (Some u) c = subst (λ (i : Option ObjectType). IsInitial x.value i c) typed k.0.2 in
          both_follow ms rooms (bit_of m) (Sparing d) (unset_does on_places q x.cells) (both_do (initialize_where x.value q w) (declare rest y)) (unset_does flat l x.cells) (both_do (act.initialize_where v (put_initial m first d x.value) l) (act.declare v (put_declarators m first z rest)))
          (put_follows ms rooms (bit_of m) (Sparing d) u q l x.cells x.cells None size at (none_fills u))
          (both_follow ms rooms (bit_of m) (Sparing d) (initialize_where x.value q w) (declare rest y) (act.initialize_where v (put_initial m first d x.value) l) (act.declare v (put_declarators m first z rest))
          (initial_follows x.value u q l w d g has at (left w.decisions d (trees Plain (n.initial x.value)) (trees_in (n.declarators rest)) h))
          (less d z Done (declare rest y) (act.declare v (put_declarators m first z rest)) le others))
