-- Expressions without probes follow those of the program, and hit nothing.
use Rattle.std.proofs.Common.{◌≡◌, ◌∙◌, refl, sym, ap, subst, ℕ, ◌+◌, ◌<◌, ℤ, Bool, true, false, List, [], ◌∷◌, length, flat_map, Option, Some, None}
use Rattle.std.specs.Prelude.{slice_get, unwrap_or, option_map}
use Rattle.mc_value.specs.declared.int_type.IntType.{IntType}
use Rattle.mc_value.specs.declared.int_type.IntType.TheVariants.{Int}
use Rattle.mc_span.specs.declared.span.Span.{Span}
use Rattle.mc_value.specs.Conversions.{is_zero, converted}
use Rattle.mc_value.specs.Arithmetic.{truth}
use Rattle.mc_typed.specs.declared.expressions.Slot.{Slot}
use Rattle.mc_typed.specs.declared.operators.Operator.{Operator}
use Rattle.mc_typed.specs.Layout.{ObjectType, Scalar, Array, Structure, Members, cells}
use Rattle.mc_typed.specs.Tree.{Place, Expression, StructureValue, FunctionCall, Argument, Arguments, ParameterType, NumberParameter, StructureParameter, ArrayParameter, ResultType, NoResult, NumberResult, StructureResult, Object}
use Rattle.mc_typed.specs.Tree as t
use Rattle.mc_typed.specs.Sound.{Scope, IsSlotOf, cells_at, place_type, structure_type, structure_result, element_of, operator_type, result_at, parameters_at, type_of, Takes, IsPlace, IsExpression, IsStructure, IsCall, IsStructureCall, IsArgument, AreArguments}
use Rattle.decide_rules.specs.declared.operators.FullOperator.{FullOperator}
use Rattle.decide_rules.specs.declared.role.Role.{Role}
use Rattle.decide_rules.specs.declared.role.Role.TheVariants.{Controlling, Plain}
use Rattle.decide_rules.specs.Nodes as n
use Rattle.decide_rules.specs.Roots.{is_root, operand_role}
use Rattle.mc_steps.specs.Runs.{State, Out, Gave, Stopped, gives, after, go_on}
use Rattle.mc_steps.specs.Memories.{Lent}
use Rattle.mc_steps.specs.Events.{Event}
use Rattle.mc_steps.specs.Expressions.{is_true, lent_item_does, read_does, unary_does, binary_does, logic_does, choice_does, as_does, input_does}
use Rattle.mc_steps.specs.Calls.{number_given, structure_given, again_argument_does}
use Rattle.mc_meaning.specs.Stores.{Path, Store, on_places}
use Rattle.mc_meaning.specs.Within as plain
use Rattle.mc_meaning.specs.Decisions as decided
use Rattle.mc_meaning.specs.Within.{Within, local, static, target}
use Rattle.mc_meaning.specs.Positions.{past, into}
use Rattle.mc_meaning.specs.Decisions.{Judged, value, as_condition, negated, holds, first_alone, both, full_does, where_full, tells, where_root}
use Rattle.mc_meaning.specs.Expressions.{evaluate_place, evaluate, evaluate_structure, evaluate_call, evaluate_argument, evaluate_arguments}
use Rattle.mc_probe.specs.Flat.{Flat, Activation, flat}
use Rattle.mc_probe.specs.Flat as f
use Rattle.mc_probe.specs.Expressions as run
use Rattle.mc_probe.specs.Bare.{bare_place, bare_expression, bare_structure, bare_call, bare_argument, bare_arguments}
use Rattle.mc_meaning.proofs.Runs.{IsGiven}
use Rattle.laws_simulation.specs.Related.{Suits}
use Rattle.laws_simulation.specs.Follows.{Kept, Each, Alike, Matches, Does}
use Rattle.laws_simulation.specs.Activations.{At, AreLent, IsPassed, ArePassed, IsInto, Agrees}
use Rattle.laws_simulation.specs.Activations as act
use Rattle.laws_simulation.specs.Simulation.{nothing}
use Rattle.laws_simulation.proofs.Values.{ranged_suits, promoted_suits, operator_suits, all_given, condition_given, value_given, converted_given}
use Rattle.laws_simulation.proofs.Follow.{GivesBit, Equal, SameTruth, Typed, Suited, some_same_value, plain_as, other, given, next, typed, read_suits, call_suits, as_follows, logic_follows, item_follows, lent_item_follows, member_follows, read_follows, unary_follows, convert_follows, binary_follows, full_follows, choice_follows, input_follows, number_argument_follows, structure_argument_follows, array_argument_follows, again_argument_follows, arguments_follow, number_given_follows, structure_given_follows}
use Rattle.laws_simulation.proofs.Decisions.{no_root}
use Rattle.laws_simulation.proofs.Operands.{full_parts, flag_given, convert_given, written_given, not_given, logic_given, binary_given}
use Rattle.laws_simulation.proofs.Expressions.{none_some, array_type, member_type, stride_is}

pub nothing_told : (es : List Event) → flat_map nothing es ≡ []
nothing_told [] = refl
nothing_told (e ∷ es) = nothing_told es

abbrev pub Valued : Judged → ℤ → Type 0
Valued j y = y ≡ j.value

module _ (ms : Members) (rooms : ℕ) where
  told_out : (old : Flat) (d : ℕ) (o : Out Store Judged) (x : Out Flat ℤ) → Matches ms rooms (λ j y z. Kept Each old z × Valued j y) o x → Matches ms rooms (λ j y z. Kept Each old z × Valued j y) (go_on o (tells d)).out x
  told_out old d (Gave j s) (Gave y t) h = h
  told_out old d (Stopped e s) (Stopped i t) h = h
  told_out old d (Gave j s) (Stopped i t) h = h
  told_out old d (Stopped e s) (Gave y t) h = h

  root_bare : (b : Bool) (d : ℕ) (g : plain.Does Judged) (h : f.Does ℤ) → Does ms rooms nothing Each Valued g h → Does ms rooms nothing Each Valued (where_root b d g) h
  root_bare true d g h k s t a =
      let r = k s t a in
      record {
        told = r.told ∙ (nothing_told (g s).events ∙ sym (nothing_told (after (g s) (tells d)).events));
        out = told_out t.memory d (g s).out (h t).out r.out;
      }
  root_bare false d g h k s t a = k s t a

module _ (ms : Members) (rooms : ℕ) (v : Activation) (c : Scope) where
  abbrev pub Bound : Within → Type 0
  Bound w = Agrees ms rooms nothing c w.activation w.arrays w.call v

  abbrev pub Goes : {A B : Type 0} → (A → B → Type 0) → plain.Does A → f.Does B → Type 0
  Goes w g h = Does ms rooms nothing Each w g h

  -- ---- objects

  pub slot_bare : (slot : Slot) (u : ObjectType) (w : Within) → Bound w → IsSlotOf c.objects slot u → At ms u (local w slot) (v.base + slot.start)
  slot_bare slot u w g k = go (slice_get c.objects slot.object) refl k.0 k.1
    where
      go : (o : Option Object) → slice_get c.objects slot.object ≡ o → option_map (λ o. o.start) o ≡ Some slot.start → option_map (λ o. o.object_type) o ≡ Some u → At ms u (local w slot) (v.base + slot.start)
      go None e a b = none_some u b
      go (Some x) e a b =
          subst (λ (z : ℕ). At ms u (local w slot) (v.base + z)) (some_same_value x.start slot.start a)
          (subst (λ (z : ObjectType). At ms z (local w slot) (v.base + x.start)) (some_same_value x.object_type u b) (g.local slot.object x e))

  static_bare : (slot : Slot) (u : ObjectType) (w : Within) → Bound w → IsSlotOf c.statics slot u → At ms u (static slot) slot.start
  static_bare slot u w g k = go (slice_get c.statics slot.object) refl k.0 k.1
    where
      go : (o : Option Object) → slice_get c.statics slot.object ≡ o → option_map (λ o. o.start) o ≡ Some slot.start → option_map (λ o. o.object_type) o ≡ Some u → At ms u (static slot) slot.start
      go None e a b = none_some u b
      go (Some x) e a b =
          subst (λ (z : ℕ). At ms u (static slot) z) (some_same_value x.start slot.start a)
          (subst (λ (z : ObjectType). At ms z (static slot) x.start) (some_same_value x.object_type u b) (g.static slot.object x e))

  size_bare : (slot : Slot) (u : ObjectType) (w : Within) → Bound w → IsSlotOf c.objects slot u → unwrap_or (cells_at v.objects slot.object) 0 ≡ cells u
  size_bare slot u w g k =
      ap (λ (os : List Object). unwrap_or (cells_at os slot.object) 0) g.objects ∙ go (slice_get c.objects slot.object) refl k.1
    where
      go : (o : Option Object) → slice_get c.objects slot.object ≡ o → option_map (λ o. o.object_type) o ≡ Some u → unwrap_or (option_map (λ o. o.cells) o) 0 ≡ cells u
      go None e b = none_some u b
      go (Some x) e b = g.sizes slot.object x e ∙ ap cells (some_same_value x.object_type u b)

  into_bare : (o : Option Slot) (r : ResultType) (w : Within) → Bound w → Takes o r c → IsInto ms r (option_map (local w) o) (option_map (λ slot. v.base + slot.start) o)
  into_bare (Some slot) (StructureResult u) w g k = slot_bare slot u w g k
  into_bare (Some slot) NoResult w g k = absurd k
  into_bare (Some slot) (NumberResult a) w g k = absurd k
  into_bare None (StructureResult u) w g k = absurd k
  into_bare None NoResult w g k = tt
  into_bare None (NumberResult a) w g k = tt

  -- ---- operands

  pub number_only : (g : plain.Does Judged) (h : f.Does ℤ) → Goes Valued g h → Goes Equal (value g) h
  number_only g h k s t al =
      plain_as ms rooms nothing (λ j. j.value) (λ j y z. Kept Each t.memory z × Valued j y) (λ x y z. Kept Each t.memory z × Equal x y) (g s) (h t) (λ a b z r. r) (k s t al)

  pub truth_only : (g : plain.Does Judged) (h : f.Does ℤ) → Goes Valued g h → Goes SameTruth (value g) h
  truth_only g h k = other ms rooms nothing Each Equal SameTruth (value g) h (λ x y e. ap is_true e) (number_only g h k)

  condition_bare : (role : Role) (e : Expression) (w : Within) (ops : Within → plain.Does ℤ) (x : f.Does ℤ) → Goes Equal (ops (into role e w)) x → Goes Valued (decided.condition role e w ops) x
  condition_bare role e w ops x h =
      root_bare ms rooms (is_root role (n.expression e)) w.decisions (as_does as_condition (ops (into role e w))) x
      (λ s t al. plain_as ms rooms nothing as_condition (λ y z o. Kept Each t.memory o × Equal y z) (λ j z o. Kept Each t.memory o × Valued j z) (ops (into role e w) s) (x t) (λ a b z r. r) (h s t al))

  abbrev pub IsMadeBare : FunctionCall → Type 0
  IsMadeBare (t.call called given' result span) =
      (called < length c.functions) × AreArguments given' (parameters_at (slice_get c.functions called)) c
      × Takes result (result_at (slice_get c.functions called)) c

  abbrev pub gives_bare : FunctionCall → ResultType
  gives_bare (t.call called given' result span) = result_at (slice_get c.functions called)

  pub made_bare : (k : FunctionCall) (r : ResultType) → IsCall k c r → IsMadeBare k
  made_bare (t.call called given' result span) r h =
      (h.0, h.1, subst (λ (r : ResultType). Takes result r c) (sym h.3) h.2)

  pub made_structure_bare : (k : FunctionCall) → IsStructureCall k c → IsMadeBare k
  made_structure_bare (t.call called given' result span) h = (h.0, h.1, h.3)

  made_gives_bare : (k : FunctionCall) (r : ResultType) → IsCall k c r → gives_bare k ≡ r
  made_gives_bare (t.call called given' result span) r h = h.3

  structure_given_bare : (k : FunctionCall) (u : ObjectType) → structure_type c (t.Returned k) ≡ Some u → structure_result (gives_bare k) ≡ Some u
  structure_given_bare (t.call called given' result span) u e = e

  -- ---- expressions

  -- the value suits its type
  typed_only : (e : Expression) (a : IntType) (w : Within) → type_of e ≡ a → Goes Valued (evaluate e Plain w) (run.evaluate v (bare_expression e)) → ((s : State Store) (z : State Flat) → Alike ms rooms s z → IsGiven (λ j. Suits (type_of e) j.value) (evaluate e Plain w s).out) → Goes (Typed a) (value (evaluate e Plain w)) (run.evaluate v (bare_expression e))
  typed_only e a w same k suits =
      typed ms rooms nothing Each a (value (evaluate e Plain w)) (run.evaluate v (bare_expression e)) (number_only (evaluate e Plain w) (run.evaluate v (bare_expression e)) k)
      (subst (λ (b : IntType). Suited ms rooms nothing b (value (evaluate e Plain w))) same
      (λ s z al. value_given (Suits (type_of e)) (evaluate e Plain w) s (suits s z al)))

  -- an operator that evaluates both of its operands
  where_bare : (which : Option FullOperator) (full : FullOperator → plain.Does Judged) (other : plain.Does Judged) (h : f.Does ℤ) → ((o : FullOperator) → which ≡ Some o → Goes Valued (full o) h) → (which ≡ None → Goes Valued other h) → Goes Valued (where_full which full other) h
  where_bare (Some o) full other h k l = k o refl
  where_bare None full other h k l = l refl

  abbrev ValuedIn : Expression → Type 0
  ValuedIn e = (role : Role) (w : Within) → Bound w → Goes Valued (evaluate e role w) (run.evaluate v (bare_expression e))

  abbrev BitIn : Expression → Type 0
  BitIn e = n.is_operand e ≡ true → (role : Role) (w : Within) → Bound w → GivesBit ms rooms nothing (evaluate e role w)

  both_bare : (operator : Operator) (a : IntType) (e i : Expression) (span : Span) (role : Role) (w : Within) → Bound w → ValuedIn e → ValuedIn i → BitIn e → BitIn i → Goes Valued (evaluate (t.Binary operator a e i span) role w) (run.evaluate v (bare_expression (t.Binary operator a e i span)))
  both_bare operator a e i span role w g one two left right =
      let b : Expression = t.Binary operator a e i span in
      let r : Role = operand_role role (n.expression b) in
      let x : Within = into role b w in
      let u : Within = past Plain (n.expression e) x in
      let l : Within = past r (n.expression e) x in
      where_bare (n.full_operator operator e i)
      (λ o. decided.decides role b w (λ r w. full_does o (evaluate e r w) (evaluate i r (past r (n.expression e) w))))
      (decided.condition role b w (λ w. binary_does operator a (value (evaluate e Plain w)) (value (evaluate i Plain (past Plain (n.expression e) w)))))
      (binary_does operator a (run.evaluate v (bare_expression e)) (run.evaluate v (bare_expression i)))
      (λ o same.
      let parts = full_parts operator e i o same in
      root_bare ms rooms (is_root role (n.expression b)) w.decisions (full_does o (evaluate e r x) (evaluate i r l)) (binary_does operator a (run.evaluate v (bare_expression e)) (run.evaluate v (bare_expression i)))
      (full_follows ms rooms nothing Each operator o a parts.2 (evaluate e r x) (evaluate i r l) (run.evaluate v (bare_expression e)) (run.evaluate v (bare_expression i))
      (left parts.0 r x g) (right parts.1 r l g) (one r x g) (two r l g)))
      (λ none.
      condition_bare role b w (λ w. binary_does operator a (value (evaluate e Plain w)) (value (evaluate i Plain (past Plain (n.expression e) w)))) (binary_does operator a (run.evaluate v (bare_expression e)) (run.evaluate v (bare_expression i)))
      (binary_follows ms rooms nothing Each operator a (value (evaluate e Plain x)) (value (evaluate i Plain u)) (run.evaluate v (bare_expression e)) (run.evaluate v (bare_expression i))
      (number_only (evaluate e Plain x) (run.evaluate v (bare_expression e)) (one Plain x g)) (number_only (evaluate i Plain u) (run.evaluate v (bare_expression i)) (two Plain u g))))

  mutual
    pub place_bare : (q : Place) (u : ObjectType) (w : Within) → Bound w → IsPlace q c → place_type c q ≡ Some u → Goes (At ms u) (evaluate_place q w) (run.evaluate_place v (bare_place q))
    place_bare (t.Local slot span) u w g k e = given ms rooms nothing Each (At ms u) (local w slot) (v.base + slot.start) (slot_bare slot u w g (k, e))
    place_bare (t.Static slot span) u w g k e = given ms rooms nothing Each (At ms u) (static slot) slot.start (static_bare slot u w g (k, e))
    place_bare (t.Parameter array stride index span) u w g k e =
        let l = g.lent array u e in
        subst (λ (x : Option (Lent Path)). Goes (At ms u) (lent_item_does on_places x stride (value (evaluate index Plain w))) (run.evaluate_place v (bare_place (t.Parameter array stride index span)))) (sym l.2)
        (subst (λ (y : Option (Lent ℕ)). Goes (At ms u) (lent_item_does on_places (Some l.0) stride (value (evaluate index Plain w))) (lent_item_does flat y stride (run.evaluate v (bare_expression index)))) (sym l.3)
        (lent_item_follows ms rooms nothing Each u stride l.0 l.1 (value (evaluate index Plain w)) (run.evaluate v (bare_expression index)) (stride_is (slice_get c.arrays array) stride u k.0 e) l.4
        (number_only (evaluate index Plain w) (run.evaluate v (bare_expression index)) (value_bare index Plain w g k.1))))
    place_bare (t.Item array k stride index span) u w g s e =
        let x : Within = past Plain (n.place array) w in
        item_follows ms rooms nothing Each u k stride (evaluate_place array w) (run.evaluate_place v (bare_place array)) (value (evaluate index Plain x)) (run.evaluate v (bare_expression index))
        (stride_is (element_of (place_type c array)) stride u s.2 e)
        (place_bare array (Array k u) w g s.0 (array_type (place_type c array) k u s.1 e))
        (number_only (evaluate index Plain x) (run.evaluate v (bare_expression index)) (value_bare index Plain x g s.3))
    place_bare (t.Member structure i offset span) u w g k e =
        let is = member_type (place_type c structure) i offset u k.1 e in
        member_follows ms rooms nothing Each is.number is.all u i offset (evaluate_place structure w) (run.evaluate_place v (bare_place structure)) is.there is.begins
        (place_bare structure (Structure is.number is.all) w g k.0 is.structure)

    pub value_bare : (e : Expression) (role : Role) (w : Within) → Bound w → IsExpression e c → Goes Valued (evaluate e role w) (run.evaluate v (bare_expression e))
    value_bare (t.Constant x a span) role w g k = condition_bare role (t.Constant x a span) w (λ w. gives x) (gives x) (given ms rooms nothing Each Equal x x refl)
    value_bare (t.Read place a) role w g k =
        let x : Within = into role (t.Read place a) w in
        condition_bare role (t.Read place a) w (λ w. read_does on_places (evaluate_place place w)) (read_does flat (run.evaluate_place v (bare_place place)))
        (read_follows ms rooms nothing Each a (evaluate_place place x) (run.evaluate_place v (bare_place place)) (place_bare place (Scalar a) x g k.0 k.1))
    value_bare (t.Unary operator a e span) role w g k =
        let x : Within = into role (t.Unary operator a e span) w in
        condition_bare role (t.Unary operator a e span) w (λ w. unary_does operator a (value (evaluate e Plain w))) (unary_does operator a (run.evaluate v (bare_expression e)))
        (unary_follows ms rooms nothing Each operator a (value (evaluate e Plain x)) (run.evaluate v (bare_expression e)) (number_only (evaluate e Plain x) (run.evaluate v (bare_expression e)) (value_bare e Plain x g k.2)))
    value_bare (t.Convert a written e span) role w g k =
        let x : Within = into role (t.Convert a written e span) w in
        condition_bare role (t.Convert a written e span) w (λ w. as_does (converted a) (value (evaluate e Plain w))) (as_does (converted a) (run.evaluate v (bare_expression e)))
        (convert_follows ms rooms nothing Each a (value (evaluate e Plain x)) (run.evaluate v (bare_expression e)) (number_only (evaluate e Plain x) (run.evaluate v (bare_expression e)) (value_bare e Plain x g k)))
    value_bare (t.Not e span) role w g k =
        let r : Role = operand_role role (n.expression (t.Not e span)) in
        let x : Within = into role (t.Not e span) w in
        root_bare ms rooms (is_root role (n.expression (t.Not e span))) w.decisions (as_does negated (evaluate e r x)) (as_does (λ z. truth (is_zero z)) (run.evaluate v (bare_expression e)))
        (as_follows ms rooms nothing Each Valued Valued negated (λ z. truth (is_zero z)) (evaluate e r x) (run.evaluate v (bare_expression e)) (λ j y q. ap (λ (z : ℤ). truth (is_zero z)) q) (value_bare e r x g k))
    value_bare (t.Binary operator a e i span) role w g k =
        both_bare operator a e i span role w g (λ r x g. value_bare e r x g k.0) (λ r x g. value_bare i r x g k.1) (λ is r x g. bit_bare e r x g k.0 is) (λ is r x g. bit_bare i r x g k.1 is)
    value_bare (t.Logic operator e i span) role w g k =
        let r : Role = operand_role role (n.expression (t.Logic operator e i span)) in
        let x : Within = into role (t.Logic operator e i span) w in
        let u : Within = past r (n.expression e) x in
        root_bare ms rooms (is_root role (n.expression (t.Logic operator e i span))) w.decisions (logic_does operator holds (first_alone i) both (evaluate e r x) (evaluate i r u)) (logic_does operator is_true (λ z. truth (is_true z)) (λ z y. truth (is_true y)) (run.evaluate v (bare_expression e)) (run.evaluate v (bare_expression i)))
        (logic_follows ms rooms nothing Each Valued operator holds (first_alone i) both is_true (λ z. truth (is_true z)) (λ z y. truth (is_true y)) (evaluate e r x) (evaluate i r u) (run.evaluate v (bare_expression e)) (run.evaluate v (bare_expression i))
        (λ j y q. ap is_true q) (λ j y q. ap (λ (z : ℤ). truth (is_true z)) q) (λ j o y z q s. ap (λ (z : ℤ). truth (is_true z)) s)
        (value_bare e r x g k.0) (value_bare i r u g k.1))
    value_bare (t.Choice e i j a span) role w g k =
        let x : Within = into role (t.Choice e i j a span) w in
        let u : Within = past Controlling (n.expression e) x in
        let q : Within = past Plain (n.expression i) u in
        condition_bare role (t.Choice e i j a span) w
        (λ w. choice_does (value (evaluate e Controlling w)) (value (evaluate i Plain (past Controlling (n.expression e) w))) (value (evaluate j Plain (past Plain (n.expression i) (past Controlling (n.expression e) w)))))
        (choice_does (run.evaluate v (bare_expression e)) (run.evaluate v (bare_expression i)) (run.evaluate v (bare_expression j)))
        (choice_follows ms rooms nothing Each Equal (value (evaluate e Controlling x)) (value (evaluate i Plain u)) (value (evaluate j Plain q)) (run.evaluate v (bare_expression e)) (run.evaluate v (bare_expression i)) (run.evaluate v (bare_expression j))
        (truth_only (evaluate e Controlling x) (run.evaluate v (bare_expression e)) (value_bare e Controlling x g k.0))
        (number_only (evaluate i Plain u) (run.evaluate v (bare_expression i)) (value_bare i Plain u g k.1))
        (number_only (evaluate j Plain q) (run.evaluate v (bare_expression j)) (value_bare j Plain q g k.2)))
    value_bare (t.Call i a) role w g k =
        let x : Within = into role (t.Call i a) w in
        condition_bare role (t.Call i a) w (λ w s. after (evaluate_call i w s) number_given) (λ s. after (run.evaluate_call v (bare_call i) s) number_given)
        (next ms rooms nothing Each (act.IsGiven ms (gives_bare i)) Equal (evaluate_call i x) (run.evaluate_call v (bare_call i)) number_given number_given
        (call_bare i x g (made_bare i (NumberResult a) k))
        (λ y q l. number_given_follows ms rooms nothing Each (gives_bare i) y q l))
    value_bare (t.Input span) role w g k = condition_bare role (t.Input span) w (λ w. input_does) input_does (input_follows ms rooms nothing Each)

    pub suits_bare : (e : Expression) (role : Role) (w : Within) → Bound w → IsExpression e c → (s : State Store) (z : State Flat) → Alike ms rooms s z → IsGiven (λ j. Suits (type_of e) j.value) (evaluate e role w s).out
    suits_bare (t.Constant x a span) role w g k s z al = condition_given (Suits a) role (t.Constant x a span) w (λ w. gives x) s (ranged_suits a x k)
    suits_bare (t.Read place a) role w g k s z al =
        let x : Within = into role (t.Read place a) w in
        condition_given (Suits a) role (t.Read place a) w (λ w. read_does on_places (evaluate_place place w)) s
        (read_suits ms rooms nothing Each a (evaluate_place place x) (run.evaluate_place v (bare_place place)) (place_bare place (Scalar a) x g k.0 k.1) s z al)
    suits_bare (t.Unary operator a e span) role w g k s z al = all_given (λ j. Suits a j.value) (evaluate (t.Unary operator a e span) role w s).out (λ j. promoted_suits a j.value k.1)
    suits_bare (t.Convert a written e span) role w g k s z al =
        let x : Within = into role (t.Convert a written e span) w in
        condition_given (Suits a) role (t.Convert a written e span) w (λ w. as_does (converted a) (value (evaluate e Plain w))) s (converted_given a (value (evaluate e Plain x)) s)
    suits_bare (t.Not e span) role w g k s z al = all_given (λ j. Suits Int j.value) (evaluate (t.Not e span) role w s).out (λ j. tt)
    suits_bare (t.Binary operator a e i span) role w g k s z al =
        all_given (λ j. Suits (operator_type operator a) j.value) (evaluate (t.Binary operator a e i span) role w s).out (λ j. operator_suits operator a (type_of e) (type_of i) j.value k.2)
    suits_bare (t.Logic operator e i span) role w g k s z al = all_given (λ j. Suits Int j.value) (evaluate (t.Logic operator e i span) role w s).out (λ j. tt)
    suits_bare (t.Choice e i j a span) role w g k s z al = all_given (λ j. Suits a j.value) (evaluate (t.Choice e i j a span) role w s).out (λ j. promoted_suits a j.value k.3)
    suits_bare (t.Call i a) role w g k s z al =
        let x : Within = into role (t.Call i a) w in
        condition_given (Suits a) role (t.Call i a) w (λ w s. after (evaluate_call i w s) number_given) s
        (call_suits ms rooms nothing Each a (gives_bare i) (evaluate_call i x) (run.evaluate_call v (bare_call i)) (made_gives_bare i (NumberResult a) k) (call_bare i x g (made_bare i (NumberResult a) k)) s z al)
    suits_bare (t.Input span) role w g k s z al = all_given (λ j. Suits Int j.value) (evaluate (t.Input span) role w s).out (λ j. tt)

    -- an operand of a full operator gives 0 or 1
    bit_bare : (e : Expression) (role : Role) (w : Within) → Bound w → IsExpression e c → n.is_operand e ≡ true → GivesBit ms rooms nothing (evaluate e role w)
    bit_bare (t.Constant x a span) role w g k is s z al =
        flag_given a (t.Constant x a span) role w s is (condition_given (Suits a) role (t.Constant x a span) w (λ w. gives x) s (ranged_suits a x k))
    bit_bare (t.Read place a) role w g k is s z al =
        let x : Within = into role (t.Read place a) w in
        flag_given a (t.Read place a) role w s is
        (condition_given (Suits a) role (t.Read place a) w (λ w. read_does on_places (evaluate_place place w)) s
        (read_suits ms rooms nothing Each a (evaluate_place place x) (run.evaluate_place v (bare_place place)) (place_bare place (Scalar a) x g k.0 k.1) s z al))
    bit_bare (t.Unary operator a e span) role w g k is s z al =
        flag_given a (t.Unary operator a e span) role w s is (all_given (λ j. Suits a j.value) (evaluate (t.Unary operator a e span) role w s).out (λ j. promoted_suits a j.value k.1))
    bit_bare (t.Convert a true e span) role w g k is s z al = flag_given a (t.Convert a true e span) role w s is (written_given a true e span role w s)
    bit_bare (t.Convert a false e span) role w g k is s z al =
        convert_given a false e span role w s (bit_bare e Plain (into role (t.Convert a false e span) w) g k is s z al)
    bit_bare (t.Not e span) role w g k is s z al = not_given e span role w s
    bit_bare (t.Binary operator a e i span) role w g k is s z al = binary_given operator a e i span role w is s
    bit_bare (t.Logic operator e i span) role w g k is s z al = logic_given operator e i span role w s
    bit_bare (t.Choice e i j a span) role w g k is s z al =
        flag_given a (t.Choice e i j a span) role w s is (all_given (λ j. Suits a j.value) (evaluate (t.Choice e i j a span) role w s).out (λ j. promoted_suits a j.value k.3))
    bit_bare (t.Call i a) role w g k is s z al =
        let x : Within = into role (t.Call i a) w in
        flag_given a (t.Call i a) role w s is
        (condition_given (Suits a) role (t.Call i a) w (λ w s. after (evaluate_call i w s) number_given) s
        (call_suits ms rooms nothing Each a (gives_bare i) (evaluate_call i x) (run.evaluate_call v (bare_call i)) (made_gives_bare i (NumberResult a) k) (call_bare i x g (made_bare i (NumberResult a) k)) s z al))
    bit_bare (t.Input span) role w g k is s z al = no_root is

    pub structure_bare : (q : StructureValue) (u : ObjectType) (w : Within) → Bound w → IsStructure q c → structure_type c q ≡ Some u → Goes (At ms u) (evaluate_structure q w) (run.evaluate_structure v (bare_structure q))
    structure_bare (t.Stored place) u w g k e = place_bare place u w g k.0 e
    structure_bare (t.Returned i) u w g k e =
        next ms rooms nothing Each (act.IsGiven ms (gives_bare i)) (At ms u) (evaluate_call i w) (run.evaluate_call v (bare_call i)) structure_given structure_given
        (call_bare i w g (made_structure_bare i k))
        (λ y q l. structure_given_follows ms rooms nothing Each (gives_bare i) u y q (structure_given_bare i u e) l)

    pub call_bare : (k : FunctionCall) (w : Within) → Bound w → IsMadeBare k → Goes (act.IsGiven ms (gives_bare k)) (evaluate_call k w) (run.evaluate_call v (bare_call k))
    call_bare (t.call called given' result span) w g k =
        let ps : List ParameterType = parameters_at (slice_get c.functions called) in
        let r : ResultType = result_at (slice_get c.functions called) in
        let at : Option ℕ = option_map (λ slot. v.base + slot.start) result in
        next ms rooms nothing Each (ArePassed ms ps) (act.IsGiven ms r) (evaluate_arguments given' w) (run.evaluate_arguments v (bare_arguments given'))
        (λ passed s. w.call called (option_map (local w) result) passed s) (λ passed s. v.call called at passed s)
        (arguments_bare given' ps w g k.1)
        (λ xs ys l. g.calls called k.0 (option_map (local w) result) at (into_bare result r w g k.2) xs ys l)

    argument_bare : (q : Argument) (a : ParameterType) (w : Within) → Bound w → IsArgument q a c → Goes (IsPassed ms a) (evaluate_argument q w) (run.evaluate_argument v (bare_argument q))
    argument_bare (t.NumberArgument e) (NumberParameter a) w g k =
        number_argument_follows ms rooms nothing Each a (value (evaluate e Plain w)) (run.evaluate v (bare_expression e)) (typed_only e a w k.1 (value_bare e Plain w g k.0) (suits_bare e Plain w g k.0))
    argument_bare (t.NumberArgument e) (StructureParameter u) w g k = absurd k
    argument_bare (t.NumberArgument e) (ArrayParameter u) w g k = absurd k
    argument_bare (t.StructureArgument q copy) (StructureParameter u) w g k =
        structure_argument_follows ms rooms nothing Each u (target w copy) (run.target v copy) (evaluate_structure q w) (run.evaluate_structure v (bare_structure q)) (size_bare copy u w g k.2) (slot_bare copy u w g k.2) (structure_bare q u w g k.0 k.1)
    argument_bare (t.StructureArgument q copy) (NumberParameter a) w g k = absurd k
    argument_bare (t.StructureArgument q copy) (ArrayParameter u) w g k = absurd k
    argument_bare (t.ArrayArgument place i) (ArrayParameter u) w g k =
        array_argument_follows ms rooms nothing Each u i (evaluate_place place w) (run.evaluate_place v (bare_place place)) (place_bare place (Array i u) w g k.0 k.1)
    argument_bare (t.ArrayArgument place i) (NumberParameter a) w g k = absurd k
    argument_bare (t.ArrayArgument place i) (StructureParameter u) w g k = absurd k
    argument_bare (t.AgainArgument array span) (ArrayParameter u) w g k =
        let l = g.lent array u k in
        subst (λ (x : Option (Lent Path)). Goes (IsPassed ms (ArrayParameter u)) (again_argument_does x) (run.evaluate_argument v (bare_argument (t.AgainArgument array span)))) (sym l.2)
        (subst (λ (y : Option (Lent ℕ)). Goes (IsPassed ms (ArrayParameter u)) (again_argument_does (Some l.0)) (again_argument_does y)) (sym l.3)
        (again_argument_follows ms rooms nothing Each u l.0 l.1 l.4))
    argument_bare (t.AgainArgument array span) (NumberParameter a) w g k = absurd k
    argument_bare (t.AgainArgument array span) (StructureParameter u) w g k = absurd k

    arguments_bare : (xs : Arguments) (ps : List ParameterType) (w : Within) → Bound w → AreArguments xs ps c → Goes (ArePassed ms ps) (evaluate_arguments xs w) (run.evaluate_arguments v (bare_arguments xs))
    arguments_bare t.no_arguments [] w g k = given ms rooms nothing Each (ArePassed ms []) [] [] tt
    arguments_bare t.no_arguments (a ∷ ps) w g k = absurd k
    arguments_bare (t.arguments a rest) [] w g k = absurd k
    arguments_bare (t.arguments a rest) (q ∷ ps) w g k =
        let x : Within = past Plain (n.argument a) w in
        arguments_follow ms rooms nothing Each q ps (evaluate_argument a w) (evaluate_arguments rest x) (run.evaluate_argument v (bare_argument a)) (run.evaluate_arguments v (bare_arguments rest)) (argument_bare a q w g k.0) (arguments_bare rest ps x g k.1)

  pub typed_bare : (e : Expression) (a : IntType) (w : Within) → Bound w → IsExpression e c → type_of e ≡ a → Goes (Typed a) (value (evaluate e Plain w)) (run.evaluate v (bare_expression e))
  typed_bare e a w g k same = typed_only e a w same (value_bare e Plain w g k) (suits_bare e Plain w g k)
