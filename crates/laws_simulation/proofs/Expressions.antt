-- The expressions of an instrumented program follow those of the program.
use Rattle.std.proofs.Common.{◌≡◌, ◌∙◌, refl, sym, ap, subst, ℕ, zero, suc, ◌+◌, ◌<◌, ◌≤◌, ℤ, Bool, true, false, List, [], ◌∷◌, ◌++◌, length, map, Option, Some, None, arith, length-append, append-nil}
use Rattle.std.specs.Prelude.{slice_get, unwrap_or, option_map}
use Rattle.mc_value.specs.declared.int_type.IntType.{IntType}
use Rattle.mc_value.specs.declared.int_type.IntType.TheVariants.{Int}
use Rattle.mc_value.specs.Conversions.{converted}
use Rattle.mc_span.specs.declared.span.Span.{Span}
use Rattle.mc_cond.specs.Tree.{Tree, Leaf}
use Rattle.mc_paths.specs.Paths.{count_of}
use Rattle.mc_typed.specs.declared.expressions.Slot.{Slot}
use Rattle.mc_typed.specs.declared.operators.Operator.{Operator}
use Rattle.mc_typed.specs.Layout.{ObjectType, Scalar, Array, Structure, Members, cells, member, start}
use Rattle.mc_typed.specs.Tree.{Place, Expression, StructureValue, FunctionCall, Argument, Arguments, ParameterType, NumberParameter, StructureParameter, ArrayParameter, ResultType, NoResult, NumberResult, StructureResult, Object}
use Rattle.mc_typed.specs.Tree as t
use Rattle.mc_typed.specs.Sound.{Scope, IsSlotOf, cells_at, place_type, structure_type, structure_result, element_of, length_of, member_of, offset_of, operator_type, result_at, parameters_at, type_of, Takes, IsPlace, IsExpression, IsStructure, IsCall, IsStructureCall, IsArgument, AreArguments}
use Rattle.decide_rules.specs.declared.operators.FullOperator.{FullOperator}
use Rattle.decide_rules.specs.declared.operators.Junction.TheVariants.{Short}
use Rattle.decide_rules.specs.declared.role.Role.{Role}
use Rattle.decide_rules.specs.declared.role.Role.TheVariants.{Controlling, Inner, Plain}
use Rattle.decide_rules.specs.Nodes.{Node, Parts}
use Rattle.decide_rules.specs.Nodes as n
use Rattle.decide_rules.specs.Roots.{is_root, is_boolean, operand_role}
use Rattle.decide_rules.specs.Roots as roots_of
use Rattle.decide_rules.specs.Conditions.{width, tree_from, is_operator}
use Rattle.decide_rules.specs.Counts.{one_where, roots}
use Rattle.mc_steps.specs.Runs.{State, gives, after}
use Rattle.mc_steps.specs.Memories.{Lent}
use Rattle.mc_steps.specs.Expressions.{lent_item_does, read_does, unary_does, binary_does, logic_does, choice_does, as_does, input_does}
use Rattle.mc_steps.specs.Calls.{number_given, structure_given, again_argument_does}
use Rattle.mc_meaning.specs.Stores.{Path, Store, on_places}
use Rattle.mc_meaning.specs.Within as plain
use Rattle.mc_meaning.specs.Decisions as decided
use Rattle.mc_meaning.specs.Within.{Within, local, static, target}
use Rattle.mc_meaning.specs.Positions.{past, into}
use Rattle.mc_meaning.specs.Decisions.{Judged, value, as_condition, negated, holds, first_alone, both, full_does, where_full, where_root}
use Rattle.mc_meaning.specs.Expressions.{evaluate_place, evaluate, evaluate_structure, evaluate_call, evaluate_argument, evaluate_arguments}
use Rattle.mc_meaning.proofs.Runs.{IsGiven, Gives}
use Rattle.mc_meaning.proofs.Constants.{constants_agree}
use Rattle.mc_meaning.proofs.Vectors.{not_gives, logic_gives, full_gives, value_is}
use Rattle.mc_meaning.proofs.Numbered.{own, trees, trees_in, trees_length, own_length, StandsAt, stands_left, stands_right}
use Rattle.mc_probe.specs.Flat.{Flat, Activation, flat}
use Rattle.mc_probe.specs.Flat as f
use Rattle.mc_probe.specs.Tree as p
use Rattle.mc_probe.specs.Expressions as run
use Rattle.mc_probe.specs.Maps.{Mapped, Map, IsMap, AreBased, first_path}
use Rattle.mc_probe.specs.Table.{Stand, Loose, InTree, role_of, operand, under, beside, inner, round, put, put_place, put_structure, put_call, put_argument, put_arguments}
use Rattle.laws_simulation.specs.Related.{Suits}
use Rattle.laws_simulation.specs.Follows.{Kept, Each, Alike}
use Rattle.laws_simulation.specs.Activations.{At, AreLent, IsPassed, ArePassed, IsInto, Agrees}
use Rattle.laws_simulation.specs.Activations as act
use Rattle.laws_simulation.specs.Expressions.{bit_of, IsValue, Stands, Spared}
use Rattle.laws_simulation.proofs.Values.{ranged_suits, promoted_suits, operator_suits, all_given, condition_given, value_given, converted_given}
use Rattle.laws_simulation.proofs.Follow.{Equal, SameTruth, Typed, Suited, some_same_value, plain_as, keeps_less, given, next, typed, read_suits, call_suits, item_follows, lent_item_follows, member_follows, read_follows, unary_follows, convert_follows, binary_follows, choice_follows, input_follows, number_argument_follows, structure_argument_follows, array_argument_follows, again_argument_follows, arguments_follow, number_given_follows, structure_given_follows}
use Rattle.laws_simulation.proofs.Decisions.{IsBit, no_root, and_left, and_right, Shows, Goes, IsRootOf, spared_more, not_tells, logic_tells, full_tells, operand_bits, inner_is, role_same, stands_inside, operator_wraps, condition_wraps, negated_flag, logic_flag, full_flag}
use Rattle.laws_simulation.proofs.Operands.{full_parts, comparison_gives, constant_bit}

-- ---- what soundness says of options

pub none_some : {A X : Type 0} (x : A) → None ≡ Some x → X
none_some x e = cc

pub array_type : (o : Option ObjectType) (k : ℕ) (u : ObjectType) → length_of o ≡ Some k → element_of o ≡ Some u → o ≡ Some (Array k u)
array_type None k u e h = none_some k e
array_type (Some (Scalar a)) k u e h = none_some k e
array_type (Some (Array l x)) k u e h =
    ap (λ (z : ℕ). Some (Array z x)) (some_same_value l k e) ∙ ap (λ (z : ObjectType). Some (Array k z)) (some_same_value x u h)
array_type (Some (Structure number us)) k u e h = none_some k e

pub record IsMember (o : Option ObjectType) (i offset : ℕ) (u : ObjectType) : Type 0 where
  pub number : ℕ
  pub all : Members
  pub structure : o ≡ Some (Structure number all)
  pub there : member all i ≡ Some u
  pub begins : offset ≡ start all i

offset_is : (us : Members) (i offset : ℕ) (o : Option ObjectType) → option_map (λ (u : ObjectType). start us i) o ≡ Some offset → offset ≡ start us i
offset_is us i offset None e = none_some offset e
offset_is us i offset (Some x) e = sym (some_same_value (start us i) offset e)

pub member_type : (o : Option ObjectType) (i offset : ℕ) (u : ObjectType) → offset_of o i ≡ Some offset → member_of o i ≡ Some u → IsMember o i offset u
member_type None i offset u e h = none_some u h
member_type (Some (Scalar a)) i offset u e h = none_some u h
member_type (Some (Array k x)) i offset u e h = none_some u h
member_type (Some (Structure number us)) i offset u e h = record { number = number; all = us; structure = refl; there = h; begins = offset_is us i offset (member us i) e }

pub stride_is : (o : Option ObjectType) (stride : ℕ) (u : ObjectType) → option_map cells o ≡ Some stride → o ≡ Some u → stride ≡ cells u
stride_is o stride u e h = some_same_value stride (cells u) (sym e ∙ ap (option_map cells) h)

-- ---- the decisions of a map

abbrev pub trees_of : Map → List Tree
trees_of m = map (λ d. d.decision.tree) m.decisions

find_mapped : (ds : List Mapped) (k : ℕ) (x : Tree) → slice_get (map (λ d. d.decision.tree) ds) k ≡ Some x → (d : Mapped) × (slice_get ds k ≡ Some d) × (d.decision.tree ≡ x)
find_mapped [] k x e = none_some x e
find_mapped (d ∷ ds) zero x e = (d, refl, some_same_value d.decision.tree x e)
find_mapped (d ∷ ds) (suc k) x e = find_mapped ds k x e

pub based_up : (ds : List Mapped) (from to : ℕ) → AreBased ds from to → from ≤ to
based_up [] from to e = omega (arith, e)
based_up (d ∷ ds) from to h = omega (arith, based_up ds (from + count_of d.decision.tree) to h.1)

pub based_fits : (ds : List Mapped) (from to k : ℕ) (d : Mapped) → AreBased ds from to → slice_get ds k ≡ Some d → d.base + count_of d.decision.tree ≤ to
based_fits [] from to k d h e = none_some d e
based_fits (x ∷ ds) from to zero d h e =
    subst (λ (z : Mapped). z.base + count_of z.decision.tree ≤ to) (some_same_value x d e)
    (omega (arith, h.0, based_up ds (from + count_of x.decision.tree) to h.1))
based_fits (x ∷ ds) from to (suc k) d h e = based_fits ds (from + count_of x.decision.tree) to k d h.1 e

module _ (ms : Members) (rooms : ℕ) (m : Map) (first count : ℕ) (v : Activation) where
  -- the trees of the decisions that begin with number d of the function, which is k of the program
  pub record IsHere (k d : ℕ) (ts : List Tree) : Type 0 where
    pub number : k ≡ first + d
    pub trees : StandsAt (trees_of m) k ts
    pub few : d + length ts ≤ count

  pub here_left : (k d : ℕ) (xs ys : List Tree) → IsHere k d (xs ++ ys) → IsHere k d xs
  here_left k d xs ys h = record {
    number = h.number;
    trees = stands_left (trees_of m) k xs ys h.trees;
    few = let l = length-append xs ys in omega (arith, h.few, l);
  }

  here_right : (k d u : ℕ) (xs ys : List Tree) → length xs ≡ u → IsHere k d (xs ++ ys) → IsHere (k + u) (d + u) ys
  here_right k d u xs ys e h = record {
    number = omega (arith, h.number);
    trees = subst (λ (z : ℕ). StandsAt (trees_of m) (k + z) ys) e (stands_right (trees_of m) k xs ys h.trees);
    few = let l = length-append xs ys in omega (arith, h.few, l, e);
  }

  pub here_past : (k d : ℕ) (role : Role) (a : Node) (ys : List Tree) → IsHere k d (trees role a ++ ys) → IsHere (k + roots role a) (d + roots role a) ys
  here_past k d role a ys h = here_right k d (roots role a) (trees role a) ys (trees_length role a) h

  -- inside an expression
  here_inside : (st : Stand) (k d : ℕ) (a : Node) (ys : List Tree) → IsHere k d (own (is_root (role_of st) a) a ++ ys) → IsHere (k + one_where (is_root (role_of st) a)) (inner st d a) ys
  here_inside st k d a ys h =
      subst (λ (z : ℕ). IsHere (k + one_where (is_root (role_of st) a)) z ys) (sym (inner_is st d a))
      (here_right k d (one_where (is_root (role_of st) a)) (own (is_root (role_of st) a) a) ys (own_length (is_root (role_of st) a) a) h)

  root_where : (b : Bool) (k d : ℕ) (a : Node) (ys : List Tree) → IsMap m → IsHere k d (own b a ++ ys) → b ≡ true → IsRootOf ms rooms m first count v d a
  root_where false k d a ys is h e = no_root e
  root_where true k d a ys is h e =
      let there : slice_get (trees_of m) (first + d) ≡ Some (tree_from 0 a) = subst (λ (z : ℕ). slice_get (trees_of m) z ≡ Some (tree_from 0 a)) h.number h.trees.0 in
      let found = find_mapped m.decisions (first + d) (tree_from 0 a) there in
      record {
        mapped_to = found.0;
        there = found.1;
        tree = found.2;
        fits = based_fits m.decisions (first_path m) m.bits (first + d) found.0 is.based found.1;
        counted = omega (arith, h.few);
      }

  module _ (c : Scope) (is : IsMap m) (room : v.first + count ≤ rooms) (bits : v.bits ≡ m.bits) where
    abbrev pub Agreed : Within → Type 0
    Agreed w = Agrees ms rooms (bit_of m) c w.activation w.arrays w.call v

    abbrev Acted : ℕ → {A B : Type 0} → (A → B → Type 0) → plain.Does A → f.Does B → Type 0
    Acted d w g h = Goes ms rooms m first count v d w g h

    abbrev Seen : Stand → ℕ → ℕ → plain.Does Judged → f.Does ℤ → Type 0
    Seen st d wide g h = Shows ms rooms m first count v st d wide g h

    abbrev less : (d u : ℕ) {A B : Type 0} (w : A → B → Type 0) (g : plain.Does A) (h : f.Does B) → d ≤ u → Acted u w g h → Acted d w g h
    less d u w g h le k =
        keeps_less ms rooms (bit_of m) (Spared ms rooms m first count v u) (Spared ms rooms m first count v d) w g h
        (λ r q. spared_more ms rooms m first count v room bits is.few d u r le q) k

    -- ---- objects

    pub slot_at : (slot : Slot) (u : ObjectType) (w : Within) → Agreed w → IsSlotOf c.objects slot u → At ms u (local w slot) (v.base + slot.start)
    slot_at slot u w g k = go (slice_get c.objects slot.object) refl k.0 k.1
      where
        go : (o : Option Object) → slice_get c.objects slot.object ≡ o → option_map (λ o. o.start) o ≡ Some slot.start → option_map (λ o. o.object_type) o ≡ Some u → At ms u (local w slot) (v.base + slot.start)
        go None e a b = none_some u b
        go (Some x) e a b =
            subst (λ (z : ℕ). At ms u (local w slot) (v.base + z)) (some_same_value x.start slot.start a)
            (subst (λ (z : ObjectType). At ms z (local w slot) (v.base + x.start)) (some_same_value x.object_type u b) (g.local slot.object x e))

    static_at : (slot : Slot) (u : ObjectType) (w : Within) → Agreed w → IsSlotOf c.statics slot u → At ms u (static slot) slot.start
    static_at slot u w g k = go (slice_get c.statics slot.object) refl k.0 k.1
      where
        go : (o : Option Object) → slice_get c.statics slot.object ≡ o → option_map (λ o. o.start) o ≡ Some slot.start → option_map (λ o. o.object_type) o ≡ Some u → At ms u (static slot) slot.start
        go None e a b = none_some u b
        go (Some x) e a b =
            subst (λ (z : ℕ). At ms u (static slot) z) (some_same_value x.start slot.start a)
            (subst (λ (z : ObjectType). At ms z (static slot) x.start) (some_same_value x.object_type u b) (g.static slot.object x e))

    size_of : (slot : Slot) (u : ObjectType) (w : Within) → Agreed w → IsSlotOf c.objects slot u → unwrap_or (cells_at v.objects slot.object) 0 ≡ cells u
    size_of slot u w g k =
        ap (λ (os : List Object). unwrap_or (cells_at os slot.object) 0) g.objects ∙ go (slice_get c.objects slot.object) refl k.1
      where
        go : (o : Option Object) → slice_get c.objects slot.object ≡ o → option_map (λ o. o.object_type) o ≡ Some u → unwrap_or (option_map (λ o. o.cells) o) 0 ≡ cells u
        go None e b = none_some u b
        go (Some x) e b = g.sizes slot.object x e ∙ ap cells (some_same_value x.object_type u b)

    into_is : (o : Option Slot) (r : ResultType) (w : Within) → Agreed w → Takes o r c → IsInto ms r (option_map (local w) o) (option_map (λ slot. v.base + slot.start) o)
    into_is (Some slot) (StructureResult u) w g k = slot_at slot u w g k
    into_is (Some slot) NoResult w g k = absurd k
    into_is (Some slot) (NumberResult a) w g k = absurd k
    into_is None (StructureResult u) w g k = absurd k
    into_is None NoResult w g k = tt
    into_is None (NumberResult a) w g k = tt

    -- ---- operands

    abbrev put_in : Stand → ℕ → Expression → p.Expression
    put_in st d e = put m first st d e

    plain_number : (d wide : ℕ) (g : plain.Does Judged) (h : f.Does ℤ) → Seen (Loose Plain) d wide g h → Acted d Equal (value g) h
    plain_number d wide g h k s t al =
        plain_as ms rooms (bit_of m) (λ j. j.value) (λ j y n. Kept (Spared ms rooms m first count v d) t.memory n × IsValue Plain j.value y)
        (λ x y n. Kept (Spared ms rooms m first count v d) t.memory n × Equal x y) (g s) (h t) (λ a b n r. r) (k s t al)

    test_number : (d wide : ℕ) (g : plain.Does Judged) (h : f.Does ℤ) → Seen (Loose Controlling) d wide g h → Acted d SameTruth (value g) h
    test_number d wide g h k s t al =
        plain_as ms rooms (bit_of m) (λ j. j.value) (λ j y n. Kept (Spared ms rooms m first count v d) t.memory n × IsValue Controlling j.value y)
        (λ x y n. Kept (Spared ms rooms m first count v d) t.memory n × SameTruth x y) (g s) (h t) (λ a b n r. r) (k s t al)

    one_node : (st : Stand) (d k : ℕ) (a : Node) (ops : plain.Does ℤ) (x : p.Expression) (ys : List Tree) → is_operator a ≡ false → ((k : ℕ) → tree_from k a ≡ Leaf k) → Stands st d → IsHere k d (own (is_root (role_of st) a) a ++ ys) → (is_boolean a ≡ true → Gives IsBit ops) → (IsHere (k + one_where (is_root (role_of st) a)) (inner st d a) ys → Acted (inner st d a) Equal ops (run.evaluate v x)) → Seen st d 1 (where_root (is_root (role_of st) a) k (as_does as_condition ops)) (run.evaluate v (round m first st d a x))
    one_node st d k a ops x ys op leaf ok h flag g =
        let inside = here_inside st k d a ys h in
        condition_wraps ms rooms m first count v room bits is.few st d k a ops x op leaf ok h.number
        (root_where (is_root (role_of st) a) k d a ys is h)
        (omega (arith, inside.few)) flag (g inside)

    one_condition : (st : Stand) (d : ℕ) (e : Expression) (w : Within) (ops : Within → plain.Does ℤ) (x : p.Expression) (ys : List Tree) → is_operator (n.expression e) ≡ false → ((k : ℕ) → tree_from k (n.expression e) ≡ Leaf k) → Stands st d → IsHere w.decisions d (own (is_root (role_of st) (n.expression e)) (n.expression e) ++ ys) → (is_boolean (n.expression e) ≡ true → Gives IsBit (ops (into (role_of st) e w))) → (IsHere (into (role_of st) e w).decisions (inner st d (n.expression e)) ys → Acted (inner st d (n.expression e)) Equal (ops (into (role_of st) e w)) (run.evaluate v x)) → Seen st d 1 (decided.condition (role_of st) e w ops) (run.evaluate v (round m first st d (n.expression e) x))
    one_condition st d e w ops x ys op leaf ok h flag g =
        one_node st d w.decisions (n.expression e) (ops (into (role_of st) e w)) x ys op leaf ok h flag g

    stands_beside : (o : Stand) (d u wide : ℕ) → d ≤ u → Stands o d → Stands (beside o wide) u
    stands_beside (Loose Plain) d u wide le ok = tt
    stands_beside (Loose Controlling) d u wide le ok = tt
    stands_beside (Loose Inner) d u wide le ok = absurd ok
    stands_beside (InTree k c) d u wide le ok = omega (arith, le, ok)

    role_beside : (o : Stand) (wide : ℕ) → role_of (beside o wide) ≡ role_of o
    role_beside (Loose role) wide = refl
    role_beside (InTree k c) wide = refl

    -- ---- expressions

    -- a call that has what its function asks for, and what the function gives
    abbrev pub IsMade : FunctionCall → Type 0
    IsMade (t.call called given' result span) =
        (called < length c.functions) × AreArguments given' (parameters_at (slice_get c.functions called)) c
        × Takes result (result_at (slice_get c.functions called)) c

    abbrev pub gives_of : FunctionCall → ResultType
    gives_of (t.call called given' result span) = result_at (slice_get c.functions called)

    made_call : (k : FunctionCall) (r : ResultType) → IsCall k c r → IsMade k
    made_call (t.call called given' result span) r h =
        (h.0, h.1, subst (λ (r : ResultType). Takes result r c) (sym h.3) h.2)

    made_structure : (k : FunctionCall) → IsStructureCall k c → IsMade k
    made_structure (t.call called given' result span) h = (h.0, h.1, h.3)

    made_gives : (k : FunctionCall) (r : ResultType) → IsCall k c r → gives_of k ≡ r
    made_gives (t.call called given' result span) r h = h.3

    structure_given_by : (k : FunctionCall) (u : ObjectType) → structure_type c (t.Returned k) ≡ Some u → structure_result (gives_of k) ≡ Some u
    structure_given_by (t.call called given' result span) u e = e

    -- an operand that is no test, and suits its type
    typed_number : (e : Expression) (a : IntType) (w : Within) (d : ℕ) → type_of e ≡ a → Seen (Loose Plain) d (width (n.expression e)) (evaluate e Plain w) (run.evaluate v (put m first (Loose Plain) d e)) → ((s : State Store) (z : State Flat) → Alike ms rooms s z → IsGiven (λ j. Suits (type_of e) j.value) (evaluate e Plain w s).out) → Acted d (Typed a) (value (evaluate e Plain w)) (run.evaluate v (put m first (Loose Plain) d e))
    typed_number e a w d same k suits =
        typed ms rooms (bit_of m) (Spared ms rooms m first count v d) a (value (evaluate e Plain w)) (run.evaluate v (put m first (Loose Plain) d e))
        (plain_number d (width (n.expression e)) (evaluate e Plain w) (run.evaluate v (put m first (Loose Plain) d e)) k)
        (subst (λ (b : IntType). Suited ms rooms (bit_of m) b (value (evaluate e Plain w))) same
        (λ s z al. value_given (Suits (type_of e)) (evaluate e Plain w) s (suits s z al)))

    -- ---- an operator that evaluates both of its operands

    -- how an expression follows, wherever it stands
    abbrev Told : Expression → Type 0
    Told e = (st : Stand) (x : Within) (d : ℕ) → Agreed x → Stands st d → IsHere x.decisions d (trees (role_of st) (n.expression e)) → Seen st d (width (n.expression e)) (evaluate e (role_of st) x) (run.evaluate v (put m first st d e))

    module _ (operator : Operator) (a : IntType) (e i : Expression) (span : Span) (st : Stand) (w : Within) (d : ℕ) where
      -- its node, by the full operator that it is
      abbrev both_node : Option FullOperator → Node
      both_node which = n.evaluates_both which operator (n.expression e) (n.expression i) span

      abbrev both_root : Option FullOperator → Bool
      both_root which = is_root (role_of st) (both_node which)

      abbrev both_role : Option FullOperator → Role
      both_role which = operand_role (role_of st) (both_node which)

      abbrev both_in : Option FullOperator → Within
      both_in which = record w { decisions = w.decisions + one_where (both_root which) }

      abbrev both_do : Option FullOperator → plain.Does Judged
      both_do which =
          where_full which
          (λ o. where_root (both_root which) w.decisions (full_does o (evaluate e (both_role which) (both_in which)) (evaluate i (both_role which) (past (both_role which) (n.expression e) (both_in which)))))
          (where_root (both_root which) w.decisions (as_does as_condition (binary_does operator a (value (evaluate e Plain (both_in which))) (value (evaluate i Plain (past Plain (n.expression e) (both_in which)))))))

      abbrev both_stand : Option FullOperator → Stand
      both_stand which = under which (operand st d (both_node which))

      abbrev both_put : Option FullOperator → p.Expression
      both_put which =
          p.Binary operator a (put m first (both_stand which) (inner st d (both_node which)) e)
          (put m first (beside (both_stand which) (width (n.expression e))) (inner st d (both_node which) + roots (role_of (both_stand which)) (n.expression e)) i) span

      both_tell : (which : Option FullOperator) → n.full_operator operator e i ≡ which → Agreed w → IsExpression e c → IsExpression i c → Stands st d → Told e → Told i → IsHere w.decisions d (trees (role_of st) (both_node which)) → Seen st d (width (both_node which)) (both_do which) (run.evaluate v (round m first st d (both_node which) (both_put which)))
      both_tell (Some o) same g k l ok one two h =
          let b : Node = both_node (Some o) in
          let q : Stand = operand st d b in
          let z : ℕ = inner st d b in
          let r : Role = both_role (Some o) in
          let x : Within = both_in (Some o) in
          let y : ℕ = z + roots (role_of q) (n.expression e) in
          let wide : ℕ = width (n.expression e) in
          let later : Within = past (role_of q) (n.expression e) x in
          let second : p.Expression = put m first (beside q wide) y i in
          let stands : Stands q z = stands_inside st d b ok in
          let le : z ≤ y = omega arith in
          let parts = full_parts operator e i o same in
          operator_wraps ms rooms m first count v room bits is.few st d w.decisions (width b) b (full_does o (evaluate e r x) (evaluate i r (past r (n.expression e) x))) (p.Binary operator a (put m first q z e) second span) refl h.number
          (root_where (is_root (role_of st) b) w.decisions d b (trees r (n.expression e) ++ trees r (n.expression i)) is h)
          (full_gives o (n.expression e) (n.expression i) span (evaluate e r x) (evaluate i r (past r (n.expression e) x)) (value_is e r x) (value_is i r (past r (n.expression e) x)))
          (full_flag (role_of st) o (evaluate e r x) (evaluate i r (past r (n.expression e) x)))
          (subst (λ (r : Role). IsHere x.decisions z (trees r (n.expression e) ++ trees r (n.expression i)) → Seen q z (width b) (full_does o (evaluate e r x) (evaluate i r (past r (n.expression e) x))) (run.evaluate v (p.Binary operator a (put m first q z e) second span)))
          (sym (role_same st d b ok))
          (λ h. full_tells ms rooms m first count v room bits is.few operator o a parts.2 q z y wide (width (n.expression i)) (evaluate e (role_of q) x) (evaluate i (role_of q) later) (run.evaluate v (put m first q z e)) (run.evaluate v second) le
          (operand_bits ms rooms m first count v room bits is.few st d b (evaluate e (role_of q) x) ok refl
          (λ con. constant_bit e c (role_of q) x k (constants_agree e ∙ and_left (roots_of.is_constant (n.expression e)) (roots_of.is_constant (n.expression i)) con) parts.0))
          (operand_bits ms rooms m first count v room bits is.few st d b (evaluate i (role_of q) later) ok refl
          (λ con. constant_bit i c (role_of q) later l (constants_agree i ∙ and_right (roots_of.is_constant (n.expression e)) (roots_of.is_constant (n.expression i)) con) parts.1))
          (one q x z g stands (here_left x.decisions z (trees (role_of q) (n.expression e)) (trees (role_of q) (n.expression i)) h))
          (subst (λ (r : Role). IsHere later.decisions y (trees r (n.expression i)) → Seen (beside q wide) y (width (n.expression i)) (evaluate i r later) (run.evaluate v second))
          (role_beside q wide)
          (λ h. two (beside q wide) later y g (stands_beside q z y wide le stands) h)
          (here_past x.decisions z (role_of q) (n.expression e) (trees (role_of q) (n.expression i)) h)))
          (here_inside st w.decisions d b (trees r (n.expression e) ++ trees r (n.expression i)) h))
      both_tell None same g k l ok one two h =
          let b : Node = both_node None in
          let z : ℕ = inner st d b in
          let x : Within = both_in None in
          let u : Within = past Plain (n.expression e) x in
          let y : ℕ = z + roots Plain (n.expression e) in
          let rest : List Tree = trees Plain (n.expression i) ++ [] in
          let le : z ≤ y = omega arith in
          one_node st d w.decisions b (binary_does operator a (value (evaluate e Plain x)) (value (evaluate i Plain u))) (p.Binary operator a (put m first (Loose Plain) z e) (put m first (Loose Plain) y i) span) (trees Plain (n.expression e) ++ rest) refl (λ k. refl) ok h
          (λ q. comparison_gives operator a (value (evaluate e Plain x)) (value (evaluate i Plain u)) q)
          (λ h. binary_follows ms rooms (bit_of m) (Spared ms rooms m first count v z) operator a (value (evaluate e Plain x)) (value (evaluate i Plain u)) (run.evaluate v (put m first (Loose Plain) z e)) (run.evaluate v (put m first (Loose Plain) y i))
          (plain_number z (width (n.expression e)) (evaluate e Plain x) (run.evaluate v (put m first (Loose Plain) z e)) (one (Loose Plain) x z g tt (here_left x.decisions z (trees Plain (n.expression e)) rest h)))
          (less z y Equal (value (evaluate i Plain u)) (run.evaluate v (put m first (Loose Plain) y i)) le
          (plain_number y (width (n.expression i)) (evaluate i Plain u) (run.evaluate v (put m first (Loose Plain) y i)) (two (Loose Plain) u y g tt (here_left u.decisions y (trees Plain (n.expression i)) [] (here_past x.decisions z Plain (n.expression e) rest h))))))

    mutual
      pub place_follows : (q : Place) (u : ObjectType) (w : Within) (d : ℕ) → Agreed w → IsPlace q c → place_type c q ≡ Some u → IsHere w.decisions d (trees Plain (n.place q)) → Acted d (At ms u) (evaluate_place q w) (run.evaluate_place v (put_place m first d q))
      place_follows (t.Local slot span) u w d g k e h =
          given ms rooms (bit_of m) (Spared ms rooms m first count v d) (At ms u) (local w slot) (v.base + slot.start) (slot_at slot u w g (k, e))
      place_follows (t.Static slot span) u w d g k e h =
          given ms rooms (bit_of m) (Spared ms rooms m first count v d) (At ms u) (static slot) slot.start (static_at slot u w g (k, e))
      place_follows (t.Parameter array stride index span) u w d g k e h =
          let l = g.lent array u e in
          let number = (plain_number d (width (n.expression index)) (evaluate index Plain w) (run.evaluate v (put m first (Loose Plain) d index)) (value_tells index (Loose Plain) w d g k.1 tt (here_left w.decisions d (trees Plain (n.expression index)) [] h))) in
          subst (λ (x : Option (Lent Path)). Acted d (At ms u) (lent_item_does on_places x stride (value (evaluate index Plain w))) (run.evaluate_place v (put_place m first d (t.Parameter array stride index span)))) (sym l.2)
          (subst (λ (y : Option (Lent ℕ)). Acted d (At ms u) (lent_item_does on_places (Some l.0) stride (value (evaluate index Plain w))) (lent_item_does flat y stride (run.evaluate v (put m first (Loose Plain) d index)))) (sym l.3)
          (lent_item_follows ms rooms (bit_of m) (Spared ms rooms m first count v d) u stride l.0 l.1 (value (evaluate index Plain w)) (run.evaluate v (put m first (Loose Plain) d index)) (stride_is (slice_get c.arrays array) stride u k.0 e) l.4 number))
      place_follows (t.Item array k stride index span) u w d g s e h =
          let rest : List Tree = trees Plain (n.expression index) ++ [] in
          let x : Within = past Plain (n.place array) w in
          let y : ℕ = d + roots Plain (n.place array) in
          let le : d ≤ y = omega arith in
          item_follows ms rooms (bit_of m) (Spared ms rooms m first count v d) u k stride (evaluate_place array w) (run.evaluate_place v (put_place m first d array)) (value (evaluate index Plain x)) (run.evaluate v (put m first (Loose Plain) y index))
          (stride_is (element_of (place_type c array)) stride u s.2 e)
          (place_follows array (Array k u) w d g s.0 (array_type (place_type c array) k u s.1 e) (here_left w.decisions d (trees Plain (n.place array)) rest h))
          (less d y Equal (value (evaluate index Plain x)) (run.evaluate v (put m first (Loose Plain) y index)) le
          (plain_number y (width (n.expression index)) (evaluate index Plain x) (run.evaluate v (put m first (Loose Plain) y index)) (value_tells index (Loose Plain) x y g s.3 tt (here_left x.decisions y (trees Plain (n.expression index)) [] (here_past w.decisions d Plain (n.place array) rest h)))))
      place_follows (t.Member structure i offset span) u w d g k e h =
          let is = member_type (place_type c structure) i offset u k.1 e in
          member_follows ms rooms (bit_of m) (Spared ms rooms m first count v d) is.number is.all u i offset (evaluate_place structure w) (run.evaluate_place v (put_place m first d structure)) is.there is.begins
          (place_follows structure (Structure is.number is.all) w d g k.0 is.structure (here_left w.decisions d (trees Plain (n.place structure)) [] h))

      pub value_tells : (e : Expression) (st : Stand) (w : Within) (d : ℕ) → Agreed w → IsExpression e c → Stands st d → IsHere w.decisions d (trees (role_of st) (n.expression e)) → Seen st d (width (n.expression e)) (evaluate e (role_of st) w) (run.evaluate v (put m first st d e))
      value_tells (t.Constant x a span) st w d g k ok h =
          one_condition st d (t.Constant x a span) w (λ w. gives x) (p.Constant x a span) [] refl (λ k. refl) ok
          (subst (λ (ts : List Tree). IsHere w.decisions d ts) (sym (append-nil (own (is_root (role_of st) (n.Constant span)) (n.Constant span)))) h)
          (λ e. no_root e)
          (λ h. given ms rooms (bit_of m) (Spared ms rooms m first count v (inner st d (n.Constant span))) Equal x x refl)
      value_tells (t.Read place a) st w d g k ok h =
          let z : ℕ = inner st d (n.expression (t.Read place a)) in
          let x : Within = into (role_of st) (t.Read place a) w in
          one_condition st d (t.Read place a) w (λ w. read_does on_places (evaluate_place place w)) (p.Read (put_place m first z place) a) (trees Plain (n.place place) ++ []) refl (λ k. refl) ok h (λ e. no_root e)
          (λ h. read_follows ms rooms (bit_of m) (Spared ms rooms m first count v z) a (evaluate_place place x) (run.evaluate_place v (put_place m first z place))
          (place_follows place (Scalar a) x z g k.0 k.1 (here_left x.decisions z (trees Plain (n.place place)) [] h)))
      value_tells (t.Unary operator a e span) st w d g k ok h =
          let z : ℕ = inner st d (n.expression (t.Unary operator a e span)) in
          let x : Within = into (role_of st) (t.Unary operator a e span) w in
          one_condition st d (t.Unary operator a e span) w (λ w. unary_does operator a (value (evaluate e Plain w))) (p.Unary operator a (put m first (Loose Plain) z e) span) (trees Plain (n.expression e) ++ []) refl (λ k. refl) ok h (λ e. no_root e)
          (λ h. unary_follows ms rooms (bit_of m) (Spared ms rooms m first count v z) operator a (value (evaluate e Plain x)) (run.evaluate v (put m first (Loose Plain) z e))
          (plain_number z (width (n.expression e)) (evaluate e Plain x) (run.evaluate v (put m first (Loose Plain) z e)) (value_tells e (Loose Plain) x z g k.2 tt (here_left x.decisions z (trees Plain (n.expression e)) [] h))))
      value_tells (t.Convert a written e span) st w d g k ok h =
          let z : ℕ = inner st d (n.expression (t.Convert a written e span)) in
          let x : Within = into (role_of st) (t.Convert a written e span) w in
          one_condition st d (t.Convert a written e span) w (λ w. as_does (converted a) (value (evaluate e Plain w))) (p.Convert a written (put m first (Loose Plain) z e) span) (trees Plain (n.expression e) ++ []) refl (λ k. refl) ok h (λ e. no_root e)
          (λ h. convert_follows ms rooms (bit_of m) (Spared ms rooms m first count v z) a (value (evaluate e Plain x)) (run.evaluate v (put m first (Loose Plain) z e))
          (plain_number z (width (n.expression e)) (evaluate e Plain x) (run.evaluate v (put m first (Loose Plain) z e)) (value_tells e (Loose Plain) x z g k tt (here_left x.decisions z (trees Plain (n.expression e)) [] h))))
      value_tells (t.Not e span) st w d g k ok h =
          let a : Node = n.Not (n.expression e) span in
          let o : Stand = operand st d a in
          let z : ℕ = inner st d a in
          let r : Role = operand_role (role_of st) a in
          let x : Within = into (role_of st) (t.Not e span) w in
          operator_wraps ms rooms m first count v room bits is.few st d w.decisions (width (n.expression e)) a (as_does negated (evaluate e r x)) (p.Not (put m first o z e) span) refl h.number
          (root_where (is_root (role_of st) a) w.decisions d a (trees r (n.expression e)) is h)
          (not_gives (n.expression e) span (evaluate e r x) (value_is e r x))
          (negated_flag (role_of st) (evaluate e r x))
          (subst (λ (r : Role). IsHere x.decisions z (trees r (n.expression e)) → Seen o z (width (n.expression e)) (as_does negated (evaluate e r x)) (run.evaluate v (p.Not (put m first o z e) span)))
          (sym (role_same st d a ok))
          (λ h. not_tells ms rooms m first count v room bits is.few o z (width (n.expression e)) (evaluate e (role_of o) x) (run.evaluate v (put m first o z e))
          (stands_inside st d a ok)
          (value_tells e o x z g k (stands_inside st d a ok) h))
          (here_inside st w.decisions d a (trees r (n.expression e)) h))
      value_tells (t.Binary operator a e i span) st w d g k ok h =
          both_tell operator a e i span st w d (n.full_operator operator e i) refl g k.0 k.1 ok
          (λ st x d g ok h. value_tells e st x d g k.0 ok h) (λ st x d g ok h. value_tells i st x d g k.1 ok h) h
      value_tells (t.Logic operator e i span) st w d g k ok h =
          let a : Node = n.Logic (Short operator) (n.expression e) (n.expression i) span in
          let o : Stand = operand st d a in
          let z : ℕ = inner st d a in
          let r : Role = operand_role (role_of st) a in
          let x : Within = into (role_of st) (t.Logic operator e i span) w in
          let y : ℕ = z + roots (role_of o) (n.expression e) in
          let second : p.Expression = put m first (beside o (width (n.expression e))) y i in
          let stands : Stands o z = stands_inside st d a ok in
          let le : z ≤ y = omega arith in
          operator_wraps ms rooms m first count v room bits is.few st d w.decisions (width a) a (logic_does operator holds (first_alone i) both (evaluate e r x) (evaluate i r (past r (n.expression e) x))) (p.Logic operator (put m first o z e) second span) refl h.number
          (root_where (is_root (role_of st) a) w.decisions d a (trees r (n.expression e) ++ trees r (n.expression i)) is h)
          (logic_gives operator e i span (evaluate e r x) (evaluate i r (past r (n.expression e) x)) (value_is e r x) (value_is i r (past r (n.expression e) x)))
          (logic_flag (role_of st) operator i (evaluate e r x) (evaluate i r (past r (n.expression e) x)))
          (subst (λ (r : Role). IsHere x.decisions z (trees r (n.expression e) ++ trees r (n.expression i)) → Seen o z (width a) (logic_does operator holds (first_alone i) both (evaluate e r x) (evaluate i r (past r (n.expression e) x))) (run.evaluate v (p.Logic operator (put m first o z e) second span)))
          (sym (role_same st d a ok))
          (λ h. logic_tells ms rooms m first count v room bits is.few operator i o z y (width (n.expression e)) (evaluate e (role_of o) x) (evaluate i (role_of o) (past (role_of o) (n.expression e) x)) (run.evaluate v (put m first o z e)) (run.evaluate v second) stands le
          (value_tells e o x z g k.0 stands (here_left x.decisions z (trees (role_of o) (n.expression e)) (trees (role_of o) (n.expression i)) h))
          (subst (λ (r : Role). IsHere (past (role_of o) (n.expression e) x).decisions y (trees r (n.expression i)) → Seen (beside o (width (n.expression e))) y (width (n.expression i)) (evaluate i r (past (role_of o) (n.expression e) x)) (run.evaluate v second))
          (role_beside o (width (n.expression e)))
          (λ h. value_tells i (beside o (width (n.expression e))) (past (role_of o) (n.expression e) x) y g k.1 (stands_beside o z y (width (n.expression e)) le stands) h)
          (here_past x.decisions z (role_of o) (n.expression e) (trees (role_of o) (n.expression i)) h)))
          (here_inside st w.decisions d a (trees r (n.expression e) ++ trees r (n.expression i)) h))
      value_tells (t.Choice e i j a span) st w d g k ok h =
          let z : ℕ = inner st d (n.expression (t.Choice e i j a span)) in
          let x : Within = into (role_of st) (t.Choice e i j a span) w in
          let u : Within = past Controlling (n.expression e) x in
          let q : Within = past Plain (n.expression i) u in
          let y : ℕ = z + roots Controlling (n.expression e) in
          let l : ℕ = y + roots Plain (n.expression i) in
          let last : List Tree = trees Plain (n.expression j) ++ [] in
          let rest : List Tree = trees Plain (n.expression i) ++ last in
          let one : z ≤ y = omega arith in
          let two : z ≤ l = omega arith in
          one_condition st d (t.Choice e i j a span) w
          (λ w. choice_does (value (evaluate e Controlling w)) (value (evaluate i Plain (past Controlling (n.expression e) w))) (value (evaluate j Plain (past Plain (n.expression i) (past Controlling (n.expression e) w)))))
          (p.Choice (put m first (Loose Controlling) z e) (put m first (Loose Plain) y i) (put m first (Loose Plain) l j) a span)
          (trees Controlling (n.expression e) ++ rest) refl (λ k. refl) ok h (λ e. no_root e)
          (λ h.
          let later = here_past x.decisions z Controlling (n.expression e) rest h in
          choice_follows ms rooms (bit_of m) (Spared ms rooms m first count v z) Equal (value (evaluate e Controlling x)) (value (evaluate i Plain u)) (value (evaluate j Plain q)) (run.evaluate v (put m first (Loose Controlling) z e)) (run.evaluate v (put m first (Loose Plain) y i)) (run.evaluate v (put m first (Loose Plain) l j))
          (test_number z (width (n.expression e)) (evaluate e Controlling x) (run.evaluate v (put m first (Loose Controlling) z e)) (value_tells e (Loose Controlling) x z g k.0 tt (here_left x.decisions z (trees Controlling (n.expression e)) rest h)))
          (less z y Equal (value (evaluate i Plain u)) (run.evaluate v (put m first (Loose Plain) y i)) one
          (plain_number y (width (n.expression i)) (evaluate i Plain u) (run.evaluate v (put m first (Loose Plain) y i)) (value_tells i (Loose Plain) u y g k.1 tt (here_left u.decisions y (trees Plain (n.expression i)) last later))))
          (less z l Equal (value (evaluate j Plain q)) (run.evaluate v (put m first (Loose Plain) l j)) two
          (plain_number l (width (n.expression j)) (evaluate j Plain q) (run.evaluate v (put m first (Loose Plain) l j)) (value_tells j (Loose Plain) q l g k.2 tt (here_left q.decisions l (trees Plain (n.expression j)) [] (here_past u.decisions y Plain (n.expression i) last later))))))
      value_tells (t.Call i a) st w d g k ok h =
          let z : ℕ = inner st d (n.expression (t.Call i a)) in
          let x : Within = into (role_of st) (t.Call i a) w in
          one_condition st d (t.Call i a) w (λ w s. after (evaluate_call i w s) number_given) (p.Call (put_call m first z i) a) (trees_in (n.call_parts i)) refl (λ k. refl) ok h (λ e. no_root e)
          (λ h. next ms rooms (bit_of m) (Spared ms rooms m first count v z) (act.IsGiven ms (gives_of i)) Equal (evaluate_call i x) (run.evaluate_call v (put_call m first z i)) number_given number_given
          (call_follows i x z g (made_call i (NumberResult a) k) h)
          (λ y q l. number_given_follows ms rooms (bit_of m) (Spared ms rooms m first count v z) (gives_of i) y q l))
      value_tells (t.Input span) st w d g k ok h =
          one_condition st d (t.Input span) w (λ w. input_does) (p.Input span) [] refl (λ k. refl) ok h (λ e. no_root e)
          (λ h. input_follows ms rooms (bit_of m) (Spared ms rooms m first count v (inner st d (n.expression (t.Input span)))))

      -- what an expression gives suits its type
      pub value_suits : (e : Expression) (st : Stand) (w : Within) (d : ℕ) → Agreed w → IsExpression e c → IsHere w.decisions d (trees (role_of st) (n.expression e)) → (s : State Store) (z : State Flat) → Alike ms rooms s z → IsGiven (λ j. Suits (type_of e) j.value) (evaluate e (role_of st) w s).out
      value_suits (t.Constant x a span) st w d g k h s z al =
          condition_given (Suits a) (role_of st) (t.Constant x a span) w (λ w. gives x) s (ranged_suits a x k)
      value_suits (t.Read place a) st w d g k h s z al =
          let b : Node = n.expression (t.Read place a) in
          let y : ℕ = inner st d b in
          let x : Within = into (role_of st) (t.Read place a) w in
          condition_given (Suits a) (role_of st) (t.Read place a) w (λ w. read_does on_places (evaluate_place place w)) s
          (read_suits ms rooms (bit_of m) (Spared ms rooms m first count v y) a (evaluate_place place x) (run.evaluate_place v (put_place m first y place))
          (place_follows place (Scalar a) x y g k.0 k.1 (here_left x.decisions y (trees Plain (n.place place)) [] (here_inside st w.decisions d b (trees Plain (n.place place) ++ []) h))) s z al)
      value_suits (t.Unary operator a e span) st w d g k h s z al =
          all_given (λ j. Suits a j.value) (evaluate (t.Unary operator a e span) (role_of st) w s).out (λ j. promoted_suits a j.value k.1)
      value_suits (t.Convert a written e span) st w d g k h s z al =
          let x : Within = into (role_of st) (t.Convert a written e span) w in
          condition_given (Suits a) (role_of st) (t.Convert a written e span) w (λ w. as_does (converted a) (value (evaluate e Plain w))) s
          (converted_given a (value (evaluate e Plain x)) s)
      value_suits (t.Not e span) st w d g k h s z al =
          all_given (λ j. Suits Int j.value) (evaluate (t.Not e span) (role_of st) w s).out (λ j. tt)
      value_suits (t.Binary operator a e i span) st w d g k h s z al =
          all_given (λ j. Suits (operator_type operator a) j.value) (evaluate (t.Binary operator a e i span) (role_of st) w s).out
          (λ j. operator_suits operator a (type_of e) (type_of i) j.value k.2)
      value_suits (t.Logic operator e i span) st w d g k h s z al =
          all_given (λ j. Suits Int j.value) (evaluate (t.Logic operator e i span) (role_of st) w s).out (λ j. tt)
      value_suits (t.Choice e i j a span) st w d g k h s z al =
          all_given (λ j. Suits a j.value) (evaluate (t.Choice e i j a span) (role_of st) w s).out (λ j. promoted_suits a j.value k.3)
      value_suits (t.Call i a) st w d g k h s z al =
          let b : Node = n.expression (t.Call i a) in
          let y : ℕ = inner st d b in
          let x : Within = into (role_of st) (t.Call i a) w in
          condition_given (Suits a) (role_of st) (t.Call i a) w (λ w s. after (evaluate_call i w s) number_given) s
          (call_suits ms rooms (bit_of m) (Spared ms rooms m first count v y) a (gives_of i) (evaluate_call i x) (run.evaluate_call v (put_call m first y i)) (made_gives i (NumberResult a) k)
          (call_follows i x y g (made_call i (NumberResult a) k) (here_inside st w.decisions d b (trees_in (n.call_parts i)) h)) s z al)
      value_suits (t.Input span) st w d g k h s z al =
          all_given (λ j. Suits Int j.value) (evaluate (t.Input span) (role_of st) w s).out (λ j. tt)

      pub structure_follows : (q : StructureValue) (u : ObjectType) (w : Within) (d : ℕ) → Agreed w → IsStructure q c → structure_type c q ≡ Some u → IsHere w.decisions d (trees Plain (n.structure q)) → Acted d (At ms u) (evaluate_structure q w) (run.evaluate_structure v (put_structure m first d q))
      structure_follows (t.Stored place) u w d g k e h = place_follows place u w d g k.0 e h
      structure_follows (t.Returned i) u w d g k e h =
          next ms rooms (bit_of m) (Spared ms rooms m first count v d) (act.IsGiven ms (gives_of i)) (At ms u) (evaluate_call i w) (run.evaluate_call v (put_call m first d i)) structure_given structure_given
          (call_follows i w d g (made_structure i k) h)
          (λ y q l. structure_given_follows ms rooms (bit_of m) (Spared ms rooms m first count v d) (gives_of i) u y q (structure_given_by i u e) l)

      pub call_follows : (k : FunctionCall) (w : Within) (d : ℕ) → Agreed w → IsMade k → IsHere w.decisions d (trees_in (n.call_parts k)) → Acted d (act.IsGiven ms (gives_of k)) (evaluate_call k w) (run.evaluate_call v (put_call m first d k))
      call_follows (t.call called given' result span) w d g k h =
          let ps : List ParameterType = parameters_at (slice_get c.functions called) in
          let r : ResultType = result_at (slice_get c.functions called) in
          let at : Option ℕ = option_map (λ slot. v.base + slot.start) result in
          next ms rooms (bit_of m) (Spared ms rooms m first count v d) (ArePassed ms ps) (act.IsGiven ms r) (evaluate_arguments given' w) (run.evaluate_arguments v (put_arguments m first d given'))
          (λ passed s. w.call called (option_map (local w) result) passed s) (λ passed s. v.call called at passed s)
          (arguments_tell given' ps w d g k.1 h)
          (λ xs ys l. keeps_less ms rooms (bit_of m) Each (Spared ms rooms m first count v d) (act.IsGiven ms r) (w.call called (option_map (local w) result) xs) (v.call called at ys) (λ r q. tt)
          (g.calls called k.0 (option_map (local w) result) at (into_is result r w g k.2) xs ys l))

      argument_tells : (q : Argument) (a : ParameterType) (w : Within) (d : ℕ) → Agreed w → IsArgument q a c → IsHere w.decisions d (trees Plain (n.argument q)) → Acted d (IsPassed ms a) (evaluate_argument q w) (run.evaluate_argument v (put_argument m first d q))
      argument_tells (t.NumberArgument e) (NumberParameter a) w d g k h =
          number_argument_follows ms rooms (bit_of m) (Spared ms rooms m first count v d) a (value (evaluate e Plain w)) (run.evaluate v (put m first (Loose Plain) d e))
          (typed_number e a w d k.1 (value_tells e (Loose Plain) w d g k.0 tt h) (value_suits e (Loose Plain) w d g k.0 h))
      argument_tells (t.NumberArgument e) (StructureParameter u) w d g k h = absurd k
      argument_tells (t.NumberArgument e) (ArrayParameter u) w d g k h = absurd k
      argument_tells (t.StructureArgument q copy) (StructureParameter u) w d g k h =
          structure_argument_follows ms rooms (bit_of m) (Spared ms rooms m first count v d) u (target w copy) (run.target v copy) (evaluate_structure q w) (run.evaluate_structure v (put_structure m first d q)) (size_of copy u w g k.2) (slot_at copy u w g k.2)
          (structure_follows q u w d g k.0 k.1 h)
      argument_tells (t.StructureArgument q copy) (NumberParameter a) w d g k h = absurd k
      argument_tells (t.StructureArgument q copy) (ArrayParameter u) w d g k h = absurd k
      argument_tells (t.ArrayArgument place i) (ArrayParameter u) w d g k h =
          array_argument_follows ms rooms (bit_of m) (Spared ms rooms m first count v d) u i (evaluate_place place w) (run.evaluate_place v (put_place m first d place)) (place_follows place (Array i u) w d g k.0 k.1 h)
      argument_tells (t.ArrayArgument place i) (NumberParameter a) w d g k h = absurd k
      argument_tells (t.ArrayArgument place i) (StructureParameter u) w d g k h = absurd k
      argument_tells (t.AgainArgument array span) (ArrayParameter u) w d g k h =
          let l = g.lent array u k in
          subst (λ (x : Option (Lent Path)). Acted d (IsPassed ms (ArrayParameter u)) (again_argument_does x) (run.evaluate_argument v (put_argument m first d (t.AgainArgument array span)))) (sym l.2)
          (subst (λ (y : Option (Lent ℕ)). Acted d (IsPassed ms (ArrayParameter u)) (again_argument_does (Some l.0)) (again_argument_does y)) (sym l.3)
          (again_argument_follows ms rooms (bit_of m) (Spared ms rooms m first count v d) u l.0 l.1 l.4))
      argument_tells (t.AgainArgument array span) (NumberParameter a) w d g k h = absurd k
      argument_tells (t.AgainArgument array span) (StructureParameter u) w d g k h = absurd k

      arguments_tell : (xs : Arguments) (ps : List ParameterType) (w : Within) (d : ℕ) → Agreed w → AreArguments xs ps c → IsHere w.decisions d (trees_in (n.arguments xs)) → Acted d (ArePassed ms ps) (evaluate_arguments xs w) (run.evaluate_arguments v (put_arguments m first d xs))
      arguments_tell t.no_arguments [] w d g k h = given ms rooms (bit_of m) (Spared ms rooms m first count v d) (ArePassed ms []) [] [] tt
      arguments_tell t.no_arguments (a ∷ ps) w d g k h = absurd k
      arguments_tell (t.arguments a rest) [] w d g k h = absurd k
      arguments_tell (t.arguments a rest) (q ∷ ps) w d g k h =
          let x : Within = past Plain (n.argument a) w in
          let y : ℕ = d + roots Plain (n.argument a) in
          let le : d ≤ y = omega arith in
          arguments_follow ms rooms (bit_of m) (Spared ms rooms m first count v d) q ps (evaluate_argument a w) (evaluate_arguments rest x) (run.evaluate_argument v (put_argument m first d a)) (run.evaluate_arguments v (put_arguments m first y rest))
          (argument_tells a q w d g k.0 (here_left w.decisions d (trees Plain (n.argument a)) (trees_in (n.arguments rest)) h))
          (less d y (ArePassed ms ps) (evaluate_arguments rest x) (run.evaluate_arguments v (put_arguments m first y rest)) le
          (arguments_tell rest ps x y g k.1 (here_past w.decisions d Plain (n.argument a) (trees_in (n.arguments rest)) h)))

    -- an operand that is no test
    pub number_follows : (e : Expression) (w : Within) (d : ℕ) → Agreed w → IsExpression e c → IsHere w.decisions d (trees Plain (n.expression e)) → Acted d Equal (value (evaluate e Plain w)) (run.evaluate v (put m first (Loose Plain) d e))
    number_follows e w d g k h =
        plain_number d (width (n.expression e)) (evaluate e Plain w) (run.evaluate v (put m first (Loose Plain) d e)) (value_tells e (Loose Plain) w d g k tt h)

    -- the same, as a number of its type
    pub typed_follows : (e : Expression) (a : IntType) (w : Within) (d : ℕ) → Agreed w → IsExpression e c → type_of e ≡ a → IsHere w.decisions d (trees Plain (n.expression e)) → Acted d (Typed a) (value (evaluate e Plain w)) (run.evaluate v (put m first (Loose Plain) d e))
    typed_follows e a w d g k same h =
        typed_number e a w d same (value_tells e (Loose Plain) w d g k tt h) (value_suits e (Loose Plain) w d g k h)

    pub test_follows : (e : Expression) (w : Within) (d : ℕ) → Agreed w → IsExpression e c → IsHere w.decisions d (trees Controlling (n.expression e)) → Acted d SameTruth (value (evaluate e Controlling w)) (run.evaluate v (put m first (Loose Controlling) d e))
    test_follows e w d g k h =
        test_number d (width (n.expression e)) (evaluate e Controlling w) (run.evaluate v (put m first (Loose Controlling) d e)) (value_tells e (Loose Controlling) w d g k tt h)
