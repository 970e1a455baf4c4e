-- Conditions and decisions follow where what stands in them does.
use Rattle.std.proofs.Common.{◌≡◌, ◌∙◌, refl, sym, ap, subst, ℕ, ◌+◌, ◌<◌, ◌≤◌, ◌%◌, ◌^◌, inl, inr, ℤ, Bool, true, false, not, ◌&&◌, ◌||◌, if◌then◌else◌, List, [], ◌∷◌, ◌++◌, length, replicate, Option, Some, None, Result, arith, length-set, length-append}
use Rattle.std.specs.Prelude.{slice_get, nat_lt}
use Rattle.std.proofs.lemmas.Bool.{lt-ltb}
use Rattle.std.proofs.lemmas.List.{length-replicate}
use Rattle.std.proofs.Math.Nat.{mod-add-mod, add-mod-mod, mod-eq_of_lt}
use Rattle.mc_value.specs.declared.trap.Trap.{Trap}
use Rattle.mc_value.specs.declared.int_type.IntType.{IntType}
use Rattle.mc_value.specs.declared.int_type.IntType.TheVariants as the
use Rattle.mc_value.specs.Conversions.{is_zero}
use Rattle.mc_value.specs.Arithmetic.{truth}
use Rattle.mc_cond.specs.Tree.{Tree, Leaf}
use Rattle.mc_cond.specs.Order.{Answer}
use Rattle.mc_cond.specs.Vectors.{IsVector}
use Rattle.mc_paths.specs.Paths.{count_of, increments, path_of}
use Rattle.mc_paths.proofs.Numbers.{vector_below}
use Rattle.mc_typed.specs.declared.probes.Probe.TheVariants as probe
use Rattle.mc_typed.specs.declared.operators.Operator.{Operator}
use Rattle.mc_typed.specs.declared.operators.LogicOperator.{LogicOperator}
use Rattle.mc_typed.specs.Layout.{Members}
use Rattle.mc_typed.specs.Tree.{Expression}
use Rattle.decide_rules.specs.declared.operators.FullOperator.{FullOperator}
use Rattle.decide_rules.specs.declared.role.Role.{Role}
use Rattle.decide_rules.specs.declared.role.Role.TheVariants.{Controlling, Inner, Plain}
use Rattle.decide_rules.specs.Nodes.{Node, bitwise}
use Rattle.decide_rules.specs.Nodes as n
use Rattle.decide_rules.specs.Roots.{is_constant, is_root, is_boolean, operand_role}
use Rattle.decide_rules.specs.Conditions.{width, tree_from, is_operator}
use Rattle.decide_rules.specs.Counts.{one_where}
use Rattle.mc_steps.specs.Runs.{State, Out, Gave, Stopped, Run, Acts, gives, after, with_result}
use Rattle.mc_steps.specs.Events.{Event}
use Rattle.mc_steps.specs.Expressions.{operated, is_true, where_true, goes_on, binary_does, logic_does, as_does}
use Rattle.mc_meaning.specs.Stores.{Store}
use Rattle.mc_meaning.specs.Within as plain
use Rattle.mc_meaning.specs.Decisions.{Judged, as_condition, negated, holds, first_alone, both, truth_table, in_full, full_does, vector_of, tells, where_root}
use Rattle.mc_meaning.proofs.Runs.{IsGiven, Gives, given_then}
use Rattle.mc_meaning.proofs.Vectors.{IsOf, condition_is}
use Rattle.mc_probe.specs.Flat.{Flat, Activation, register, with_register, wrapped_sum}
use Rattle.mc_probe.specs.Flat as flat
use Rattle.mc_probe.specs.Tree as p
use Rattle.mc_probe.specs.Probes.{decision_does, condition_does}
use Rattle.mc_probe.specs.Expressions.{evaluate}
use Rattle.mc_probe.specs.Maps.{Mapped, Map, path_bit}
use Rattle.mc_probe.specs.Table.{Stand, Loose, InTree, role_of, operand, beside, inner, base_of, increment_of, mapped, round_condition, round}
use Rattle.laws_simulation.specs.Related.{Suits}
use Rattle.laws_simulation.specs.Follows.{Kept, Alike, Matches, Follows, Does}
use Rattle.laws_simulation.specs.Expressions.{bit_of, along, IsValue, Stands, Spared, SparedBut, Grows, Tells}
use Rattle.laws_simulation.proofs.Bits.{truth_bit, operated_bits}
use Rattle.laws_simulation.proofs.Follow.{Equal, HasBit, GivesBit, follows_then, plain_as, keeps_less, other, as_follows, logic_follows, full_follows}
use Rattle.laws_simulation.proofs.Sums.{along_append, along_none, along_one, along_edges, set_there, set_beside}

-- ---- truth

pub truth_true : (b : Bool) → is_true (truth b) ≡ b
truth_true true = refl
truth_true false = refl

truth_zero : (x y : ℤ) → y ≡ truth (is_true x) → truth (is_zero y) ≡ truth (is_true (truth (is_zero x)))
truth_zero x y e = ap (λ (z : ℤ). truth (is_zero z)) e ∙ go (is_zero x)
  where
    go : (b : Bool) → truth (is_zero (truth (not b))) ≡ truth (is_true (truth b))
    go true = refl
    go false = refl

-- a number that is 0 or 1 by a truth
pub same_truth : (y : ℤ) (b : Bool) → y ≡ truth b → is_true y ≡ b
same_truth y b e = ap is_true e ∙ truth_true b

grown_bit : (y : ℤ) (b : Bool) → y ≡ truth b → Suits the.Bool y
grown_bit y b e = subst (Suits the.Bool) (sym e) (truth_bit b)

true_not : (x : ℤ) → truth (is_zero x) ≡ truth (not (is_true x))
true_not x = ap truth (go (is_zero x))
  where
    go : (b : Bool) → b ≡ not (not b)
    go true = refl
    go false = refl

-- of a root that is no test the value is 0 or 1
abbrev pub IsBit : ℤ → Type 0
IsBit x = truth (is_true x) ≡ x

abbrev pub IsFlag : Role → Judged → Type 0
IsFlag Plain j = IsBit j.value
IsFlag _ j = Unit {0}

pub no_root : {X : Type 0} → false ≡ true → X
no_root e = cc

pub and_left : (a b : Bool) → a && b ≡ true → a ≡ true
and_left true b h = refl
and_left false b h = h

pub and_right : (a b : Bool) → a && b ≡ true → b ≡ true
and_right true b h = h
and_right false b h = no_root h

pub any_given : {A : Type 0} (o : Out Store A) → IsGiven (λ v. Unit {0}) o
any_given (Gave v s) = tt
any_given (Stopped e s) = tt

-- ---- the values of `!`, `&&`, `||` and the full operators

bit_truth : (b : Bool) → IsBit (truth b)
bit_truth b = ap truth (truth_true b)

pub negated_flag : (role : Role) (f : plain.Does Judged) → Gives (IsFlag role) (as_does negated f)
negated_flag Plain f s =
    given_then (λ j. Unit {0}) (IsFlag Plain) (f s) (λ x s. gives (negated x) s) (any_given (f s).out) (λ j s u. bit_truth (is_zero j.value))
negated_flag Controlling f s = any_given (as_does negated f s).out
negated_flag Inner f s = any_given (as_does negated f s).out

second_flag : (b : Bool) (e : Expression) (j : Judged) (h : plain.Does Judged) → Gives (IsFlag Plain) (where_true b (λ s. after (h s) (λ y s. gives (both j y) s)) (gives (first_alone e j)))
second_flag true e j h s =
    given_then (λ j. Unit {0}) (IsFlag Plain) (h s) (λ y s. gives (both j y) s) (any_given (h s).out) (λ k s u. bit_truth (holds k))
second_flag false e j h s = bit_truth (holds j)

pub logic_flag : (role : Role) (operator : LogicOperator) (e : Expression) (f h : plain.Does Judged) → Gives (IsFlag role) (logic_does operator holds (first_alone e) both f h)
logic_flag Plain operator e f h s =
    given_then (λ j. Unit {0}) (IsFlag Plain) (f s) (λ x s. where_true (goes_on operator (holds x)) (λ s. after (h s) (λ y s. gives (both x y) s)) (gives (first_alone e x)) s) (any_given (f s).out) (λ j s u. second_flag (goes_on operator (holds j)) e j h s)
logic_flag Controlling operator e f h s = any_given (logic_does operator holds (first_alone e) both f h s).out
logic_flag Inner operator e f h s = any_given (logic_does operator holds (first_alone e) both f h s).out

pub full_flag : (role : Role) (o : FullOperator) (f h : plain.Does Judged) → Gives (IsFlag role) (full_does o f h)
full_flag Plain o f h s =
    given_then (λ j. Unit {0}) (IsFlag Plain) (f s) (λ j s. as_does (in_full o j) h s) (any_given (f s).out) (λ j s u.
    given_then (λ k. Unit {0}) (IsFlag Plain) (h s) (λ k s. gives (in_full o j k) s) (any_given (h s).out) (λ k s u. bit_truth (truth_table o (holds j) (holds k))))
full_flag Controlling o f h s = any_given (full_does o f h s).out
full_flag Inner o f h s = any_given (full_does o f h s).out

-- ---- how an expression stands

pub inner_is : (st : Stand) (d : ℕ) (a : Node) → inner st d a ≡ d + one_where (is_root (role_of st) a)
inner_is (Loose role) d a = refl
inner_is (InTree k c) d a = omega arith

role_where : (role : Role) (d : ℕ) (b : Bool) → (if b || false then Inner else Plain) ≡ role_of (if b then InTree d 0 else Loose Plain)
role_where role d true = refl
role_where role d false = refl

pub role_same : (st : Stand) (d : ℕ) (a : Node) → Stands st d → operand_role (role_of st) a ≡ role_of (operand st d a)
role_same (Loose Plain) d a ok = role_where Plain d (is_root Plain a)
role_same (Loose Controlling) d a ok = role_where Controlling d (is_root Controlling a)
role_same (Loose Inner) d a ok = absurd ok
role_same (InTree k c) d a ok = refl

stands_where : (d : ℕ) (b : Bool) → Stands (if b then InTree d 0 else Loose Plain) (d + one_where b)
stands_where d true = omega arith
stands_where d false = tt

pub stands_inside : (st : Stand) (d : ℕ) (a : Node) → Stands st d → Stands (operand st d a) (inner st d a)
stands_inside (Loose role) d a ok = stands_where d (is_root role a)
stands_inside (InTree k c) d a ok = ok

module _ (ms : Members) (rooms : ℕ) (m : Map) (first count : ℕ) (v : Activation) where
  abbrev pub Shows : Stand → ℕ → ℕ → plain.Does Judged → flat.Does ℤ → Type 0
  Shows st d wide f g = Tells ms rooms m first count v st d wide f g

  abbrev pub Goes : ℕ → {A B : Type 0} → (A → B → Type 0) → Acts Store Event A → Acts Flat ℕ B → Type 0
  Goes d w f g = Does ms rooms (bit_of m) (Spared ms rooms m first count v d) w f g

  -- what is known of the decision with this number, whose root is this node
  pub record IsRootOf (d : ℕ) (a : Node) : Type 0 where
    pub mapped_to : Mapped
    pub there : mapped m first d ≡ Some mapped_to
    pub tree : mapped_to.decision.tree ≡ tree_from 0 a
    pub fits : mapped_to.base + count_of mapped_to.decision.tree ≤ m.bits
    pub counted : d < count

  module _ (room : v.first + count ≤ rooms) (bits : v.bits ≡ m.bits) (few : m.bits ≤ 65536) where
    -- ---- one condition

    condition_rest : (k c d : ℕ) → k < d → d ≤ count → (t : State Flat) (x y : ℤ) (s' : State Store) (t' : State Flat) → Alike ms rooms s' t' → Kept (Spared ms rooms m first count v d) t.memory t'.memory × Equal x y → Follows ms rooms (bit_of m) (λ j y n. Kept (SparedBut ms rooms m first count v k d) t.memory n × Grows ms rooms m first count v k c 1 t.memory j y n) (gives (as_condition x) s') (after (flat.adds v k (if is_true y then 0 else increment_of (mapped m first k) c) t') (λ _ s. gives (truth (is_true y)) s))
    condition_rest k c d lt le t x y s' t' a r =
        let adds : ℕ → ℕ = increment_of (mapped m first k) in
        let old : ℕ = register (v.first + k) t'.memory in
        let new : ℕ = wrapped_sum old (if is_true y then 0 else adds c) in
        let within : v.first + k < length t'.memory.registers = omega (arith, lt, le, room, a.memory.room) in
        let same : old ≡ register (v.first + k) t.memory = r.0 (v.first + k) (inl (omega (arith, lt))) in
        let one : along adds c (Some (is_true x) ∷ []) ≡ (if is_true y then 0 else adds c) = along_one adds c (is_true x) ∙ ap (λ (z : ℤ). if is_true z then 0 else adds c) (sym r.1) in
        record {
          told = refl;
          out = (
            record { memory = record { same = a.memory.same; room = length-set t'.memory.registers (v.first + k) new ∙ a.memory.room }; fuel = a.fuel; inputs = a.inputs; output = a.output },
            (
              (λ i q. set_beside t'.memory.registers (v.first + k) i new q.0 ∙ r.0 i q.1),
              record {
                value = ap (λ (z : ℤ). truth (is_true z)) r.1;
                wide = refl;
                sum = set_there t'.memory.registers (v.first + k) new within
                    ∙ (ap (λ (z : ℕ). (z + (if is_true y then 0 else adds c)) % 2 ^ 32) same
                    ∙ ap (λ (z : ℕ). (register (v.first + k) t.memory + z) % 2 ^ 32) (sym one));
              },
            ),
          );
        }

    pub condition_tells : (k c d : ℕ) (f : plain.Does ℤ) (g : flat.Does ℤ) → k < d → d ≤ count → Goes d Equal f g → Shows (InTree k c) d 1 (as_does as_condition f) (condition_does v k 0 (increment_of (mapped m first k) c) g)
    condition_tells k c d f g lt le h s t a =
        follows_then ms rooms (bit_of m) (λ x y n. Kept (Spared ms rooms m first count v d) t.memory n × Equal x y)
        (λ j y n. Kept (SparedBut ms rooms m first count v k d) t.memory n × Grows ms rooms m first count v k c 1 t.memory j y n)
        (f s) (g t) _ _ (h s t a) (condition_rest k c d lt le t)

    -- ---- a decision

    out_and : {A B : Type 0} (Q : A → Type 0) (w : A → B → Flat → Type 0) (o : Out Store A) (p : Out Flat B) → IsGiven Q o → Matches ms rooms w o p → Matches ms rooms (λ a b n. w a b n × Q a) o p
    out_and Q w (Gave a s) (Gave b t) q h = (h.0, (h.1, q))
    out_and Q w (Stopped e s) (Stopped x t) q h = h
    out_and Q w (Gave a s) (Stopped x t) q h = h
    out_and Q w (Stopped e s) (Gave b t) q h = h

    follows_and : {A B : Type 0} (Q : A → Type 0) (w : A → B → Flat → Type 0) (p : Run Store Event A) (q : Run Flat ℕ B) → IsGiven Q p.out → Follows ms rooms (bit_of m) w p q → Follows ms rooms (bit_of m) (λ a b n. w a b n × Q a) p q
    follows_and Q w p q g h = record { told = h.told; out = out_and Q w p.out q.out g h.out }

    bit_below : (d : ℕ) (a : Node) (is : IsRootOf d a) (j : Judged) → IsOf a j → is.mapped_to.base + path_of is.mapped_to.decision.tree (vector_of j) < m.bits
    bit_below d a is j of =
        let lt = vector_below is.mapped_to.decision.tree (vector_of j) (subst (λ (z : Tree). IsVector z (vector_of j)) (sym is.tree) (of 0)) in
        omega (arith, lt, is.fits)

    -- the bit that is hit is that of the path
    path_is : (d : ℕ) (a : Node) (wide : ℕ) (is : IsRootOf d a) (old new : Flat) (j : Judged) (y : ℤ) → IsOf a j → register (v.first + d) old ≡ 0 → Grows ms rooms m first count v d 0 wide old j y new → wrapped_sum (base_of (mapped m first d)) (register (v.first + d) new) ≡ is.mapped_to.base + path_of is.mapped_to.decision.tree (vector_of j)
    path_is d a wide is old new j y of zero_old g =
        let dm : Mapped = is.mapped_to in
        let path : ℕ = path_of dm.decision.tree (vector_of j) in
        let sum : along (increment_of (mapped m first d)) 0 j.answers ≡ path =
        ap (λ (o : Option Mapped). along (increment_of o) 0 j.answers) is.there
        ∙ along_edges (increments dm.decision.tree) j.answers in
        let here : register (v.first + d) new ≡ (0 + path) % 2 ^ 32 =
        g.sum
        ∙ (ap (λ (z : ℕ). (z + along (increment_of (mapped m first d)) 0 j.answers) % 2 ^ 32) zero_old
        ∙ ap (λ (z : ℕ). (0 + z) % 2 ^ 32) sum) in
        let below = bit_below d a is j of in
        let small : dm.base + path < 2 ^ 32 = omega (arith, below, few) in
        let none : 0 + path ≡ path = omega arith in
        ap (λ (o : Option Mapped). (base_of o + register (v.first + d) new) % 2 ^ 32) is.there
        ∙ (ap (λ (z : ℕ). (dm.base + z) % 2 ^ 32) here
        ∙ (add-mod-mod dm.base (0 + path) (2 ^ 32)
        ∙ (ap (λ (z : ℕ). (dm.base + z) % 2 ^ 32) none
        ∙ mod-eq_of_lt small)))

    value_shown : (role : Role) (j : Judged) (y : ℤ) → IsFlag role j → is_true y ≡ is_true j.value → IsValue role j.value (truth (is_true y))
    value_shown Plain j y flag e = ap truth e ∙ flag
    value_shown Controlling j y flag e = truth_true (is_true y) ∙ e
    value_shown Inner j y flag e = truth_true (is_true y) ∙ e

    hit_is : (b : ℕ) → b < m.bits → (if nat_lt b v.bits then b ∷ [] else []) ≡ b ∷ []
    hit_is b lt =
        ap (λ (z : ℕ). if nat_lt b z then b ∷ [] else []) bits
        ∙ ap (λ (c : Bool). if c then b ∷ [] else []) (lt-ltb b m.bits lt)

    -- the register is cleared
    cleared : ℕ → State Flat → State Flat
    cleared d t = record t { memory = with_register (v.first + d) 0 t.memory }

    decision_rest : (role : Role) (d k : ℕ) (a : Node) (wide : ℕ) → k ≡ first + d → (is : IsRootOf d a) → (t : State Flat) → register (v.first + d) (with_register (v.first + d) 0 t.memory) ≡ 0 → (j : Judged) (y : ℤ) (s' : State Store) (t' : State Flat) → Alike ms rooms s' t' → (Kept (SparedBut ms rooms m first count v d (d + 1)) (with_register (v.first + d) 0 t.memory) t'.memory × Grows ms rooms m first count v d 0 wide (with_register (v.first + d) 0 t.memory) j y t'.memory) × (IsOf a j × IsFlag role j) → Follows ms rooms (bit_of m) (λ j y n. Kept (Spared ms rooms m first count v d) t.memory n × IsValue role j.value y) (tells k j s') (after (flat.hits v (wrapped_sum (base_of (mapped m first d)) (register (v.first + d) t'.memory)) t') (λ _ s. gives (truth (is_true y)) s))
    decision_rest role d k a wide e is t none j y s' t' al r =
        let dm : Mapped = is.mapped_to in
        let path : ℕ = path_of dm.decision.tree (vector_of j) in
        let bit : ℕ = wrapped_sum (base_of (mapped m first d)) (register (v.first + d) t'.memory) in
        let bit_is : bit ≡ dm.base + path =
        path_is d a wide is (with_register (v.first + d) 0 t.memory) t'.memory j y r.1.0 none r.0.1 in
        let there : slice_get m.decisions k ≡ Some dm = ap (λ (i : ℕ). slice_get m.decisions i) e ∙ is.there in
        let image_is : path_bit (slice_get m.decisions k) (vector_of j) ≡ dm.base + path =
        ap (λ (o : Option Mapped). path_bit o (vector_of j)) there in
        record {
          told = ap (λ (b : ℕ). (if nat_lt b v.bits then b ∷ [] else []) ++ []) bit_is
              ∙ (ap (λ (xs : List ℕ). xs ++ []) (hit_is (dm.base + path) (bit_below d a is j r.1.0))
              ∙ ap (λ (b : ℕ). b ∷ []) (sym image_is));
          out = (al, (kept, value_shown role j y r.1.1 (same_truth y (holds j) r.0.1.value)));
        }
      where
        kept : Kept (Spared ms rooms m first count v d) t.memory t'.memory
        kept i (inl lt) =
            r.0.0 i (inl lt, inl (omega (arith, lt)))
            ∙ set_beside t.memory.registers (v.first + d) i 0 (inl lt)
        kept i (inr le) =
            r.0.0 i (inr (omega (arith, le, is.counted)), inr le)
            ∙ set_beside t.memory.registers (v.first + d) i 0 (inr (omega (arith, le, is.counted)))

    pub decision_tells : (role : Role) (d k : ℕ) (a : Node) (wide : ℕ) (f : plain.Does Judged) (g : flat.Does ℤ) → k ≡ first + d → IsRootOf d a → Gives (IsOf a) f → Gives (IsFlag role) f → Shows (InTree d 0) (d + 1) wide f g → Shows (Loose role) d wide (λ s. after (f s) (tells k)) (decision_does v d (base_of (mapped m first d)) g)
    decision_tells role d k a wide f g e is of flag h s t al =
        let there : v.first + d < length t.memory.registers = omega (arith, is.counted, room, al.memory.room) in
        let none : register (v.first + d) (with_register (v.first + d) 0 t.memory) ≡ 0 = set_there t.memory.registers (v.first + d) 0 there in
        let now : Alike ms rooms s (record t { memory = with_register (v.first + d) 0 t.memory }) =
        record { memory = record { same = al.memory.same; room = length-set t.memory.registers (v.first + d) 0 ∙ al.memory.room }; fuel = al.fuel; inputs = al.inputs; output = al.output } in
        follows_then ms rooms (bit_of m)
        (λ j y n. (Kept (SparedBut ms rooms m first count v d (d + 1)) (with_register (v.first + d) 0 t.memory) n × Grows ms rooms m first count v d 0 wide (with_register (v.first + d) 0 t.memory) j y n) × (IsOf a j × IsFlag role j))
        (λ j y n. Kept (Spared ms rooms m first count v d) t.memory n × IsValue role j.value y)
        (f s) (g (record t { memory = with_register (v.first + d) 0 t.memory })) _ _
        (follows_and (λ j. IsOf a j × IsFlag role j) _ (f s) (g (record t { memory = with_register (v.first + d) 0 t.memory })) (both_given (f s).out (of s) (flag s)) (h s (record t { memory = with_register (v.first + d) 0 t.memory }) now))
        (decision_rest role d k a wide e is t none)
      where
        both_given : (o : Out Store Judged) → IsGiven (IsOf a) o → IsGiven (IsFlag role) o → IsGiven (λ j. IsOf a j × IsFlag role j) o
        both_given (Gave j s) x y = (x, y)
        both_given (Stopped i s) x y = tt

    -- ---- `!`, `&&` and `||`

    not_follows : (k c d wide : ℕ) (f : plain.Does Judged) (g : flat.Does ℤ) → Shows (InTree k c) d wide f g → Shows (InTree k c) d wide (as_does negated f) (as_does (λ x. truth (is_zero x)) g)
    not_follows k c d wide f g h s t a =
        follows_then ms rooms (bit_of m)
        (λ j y n. Kept (SparedBut ms rooms m first count v k d) t.memory n × Grows ms rooms m first count v k c wide t.memory j y n)
        (λ j y n. Kept (SparedBut ms rooms m first count v k d) t.memory n × Grows ms rooms m first count v k c wide t.memory j y n)
        (f s) (g t) _ _ (h s t a)
        (λ j y s' t' al r. record {
          told = refl;
          out = (
            al,
            (
              r.0,
              record {
                value = truth_zero j.value y r.1.value;
                wide = r.1.wide;
                sum = r.1.sum;
              },
            ),
          );
        })

    zero_same : (x y : ℤ) → is_true y ≡ is_true x → truth (is_zero y) ≡ truth (is_zero x)
    zero_same x y e = true_not y ∙ (ap (λ (b : Bool). truth (not b)) e ∙ sym (true_not x))

    pub not_tells : (st : Stand) (d wide : ℕ) (f : plain.Does Judged) (g : flat.Does ℤ) → Stands st d → Shows st d wide f g → Shows st d wide (as_does negated f) (as_does (λ x. truth (is_zero x)) g)
    not_tells (Loose Plain) d wide f g ok h =
        as_follows ms rooms (bit_of m) (Spared ms rooms m first count v d) (λ j y. IsValue Plain j.value y) (λ j y. IsValue Plain j.value y) negated (λ x. truth (is_zero x)) f g
        (λ j y e. ap (λ (z : ℤ). truth (is_zero z)) e) h
    not_tells (Loose Controlling) d wide f g ok h =
        as_follows ms rooms (bit_of m) (Spared ms rooms m first count v d) (λ j y. IsValue Controlling j.value y) (λ j y. IsValue Controlling j.value y) negated (λ x. truth (is_zero x)) f g
        (λ j y e. ap is_true (zero_same j.value y e)) h
    not_tells (Loose Inner) d wide f g ok h = absurd ok
    not_tells (InTree k c) d wide f g ok h = not_follows k c d wide f g h

    pub spared_more : (d e i : ℕ) → d ≤ e → Spared ms rooms m first count v d i → Spared ms rooms m first count v e i
    spared_more d e i le (inl lt) = inl (omega (arith, lt, le))
    spared_more d e i le (inr lt) = inr lt

    -- what the tree gives from a memory on
    abbrev Given : ℕ → ℕ → ℕ → ℕ → Flat → Judged → ℤ → Flat → Type 0
    Given k c d size old j y now = Kept (SparedBut ms rooms m first count v k d) old now × Grows ms rooms m first count v k c size old j y now

    -- the answers of both operands, with this value
    abbrev joined : Judged → Judged → ℤ → Judged
    joined j i x = record { value = x; answers = j.answers ++ i.answers }

    both_rest : (k c d u wide last : ℕ) → d ≤ u → (t t' : State Flat) (j : Judged) (y : ℤ) → Given k c d wide t.memory j y t'.memory → (i : Judged) (z : ℤ) (s : State Store) (q : State Flat) → Alike ms rooms s q → Given k (c + wide) u last t'.memory i z q.memory → (x l : ℤ) → l ≡ truth (is_true x) → Follows ms rooms (bit_of m) (Given k c d (wide + last) t.memory) (gives (joined j i x) s) (gives l q)
    both_rest k c d u wide last le t t' j y r i z s q al g x l same =
        let adds : ℕ → ℕ = increment_of (mapped m first k) in
        let old : ℕ = register (v.first + k) t.memory in
        let one : ℕ = along adds c j.answers in
        let two : ℕ = along adds (c + wide) i.answers in
        let long = length-append j.answers i.answers in
        let all : one + two ≡ along adds c (j.answers ++ i.answers) =
        ap (λ (x : ℕ). one + along adds (c + x) i.answers) (sym r.1.wide) ∙ sym (along_append adds c j.answers i.answers) in
        record {
          told = refl;
          out = (
            al,
            (
              (λ x p. g.0 x (p.0, spared_more d u x le p.1) ∙ r.0 x p),
              record {
                value = same;
                wide = omega (arith, long, r.1.wide, g.1.wide);
                sum = g.1.sum
                    ∙ (ap (λ (x : ℕ). (x + two) % 2 ^ 32) r.1.sum
                    ∙ (mod-add-mod (old + one) (2 ^ 32) two
                    ∙ ap (λ (x : ℕ). x % 2 ^ 32) (omega (arith, all))));
              },
            ),
          );
        }

    alone_rest : (f : Expression) (k c d wide : ℕ) → (t : State Flat) (j : Judged) (y : ℤ) (s : State Store) (q : State Flat) → Alike ms rooms s q → Kept (SparedBut ms rooms m first count v k d) t.memory q.memory × Grows ms rooms m first count v k c wide t.memory j y q.memory → Follows ms rooms (bit_of m) (λ j y now. Kept (SparedBut ms rooms m first count v k d) t.memory now × Grows ms rooms m first count v k c (wide + width (n.expression f)) t.memory j y now) (gives (first_alone f j) s) (gives (truth (is_true y)) q)
    alone_rest f k c d wide t j y s q al r =
        let adds : ℕ → ℕ = increment_of (mapped m first k) in
        let none : List Answer = replicate (width (n.expression f)) None in
        let long = length-append j.answers none in
        let nones : length none ≡ width (n.expression f) = length-replicate (width (n.expression f)) None in
        let all : along adds c j.answers ≡ along adds c (j.answers ++ none) =
        omega (arith, along_append adds c j.answers none, along_none adds (c + length j.answers) (width (n.expression f))) in
        record {
          told = refl;
          out = (
            al,
            (
              r.0,
              record {
                value = ap (λ (z : ℤ). truth (is_true z)) r.1.value;
                wide = omega (arith, long, nones, r.1.wide);
                sum = r.1.sum ∙ ap (λ (x : ℕ). (register (v.first + k) t.memory + x) % 2 ^ 32) all;
              },
            ),
          );
        }

    logic_in_tree : (operator : LogicOperator) (e : Expression) (k c d u wide : ℕ) (f h : plain.Does Judged) (g i : flat.Does ℤ) → d ≤ u → Shows (InTree k c) d wide f g → Shows (InTree k (c + wide)) u (width (n.expression e)) h i → Shows (InTree k c) d (wide + width (n.expression e)) (logic_does operator holds (first_alone e) both f h) (logic_does operator is_true (λ x. truth (is_true x)) (λ x y. truth (is_true y)) g i)
    logic_in_tree operator e k c d u wide f h g i le one two s t a =
        follows_then ms rooms (bit_of m)
        (λ j y n. Kept (SparedBut ms rooms m first count v k d) t.memory n × Grows ms rooms m first count v k c wide t.memory j y n)
        (Given k c d (wide + width (n.expression e)) t.memory) (f s) (g t) _ _ (one s t a)
        (λ j y s' t' al r.
        subst (λ (b : Bool). Follows ms rooms (bit_of m) (Given k c d (wide + width (n.expression e)) t.memory) (where_true (goes_on operator (holds j)) (λ s. after (h s) (λ y s. gives (both j y) s)) (gives (first_alone e j)) s') (where_true (goes_on operator b) (λ s. after (i s) (λ x s. gives (truth (is_true x)) s)) (gives (truth (is_true y))) t')) (sym (same_truth y (holds j) r.1.value))
        (go (goes_on operator (holds j)) j y s' t' al r))
      where
        go : (b : Bool) (j : Judged) (y : ℤ) (s' : State Store) (t' : State Flat) → Alike ms rooms s' t' → Kept (SparedBut ms rooms m first count v k d) t.memory t'.memory × Grows ms rooms m first count v k c wide t.memory j y t'.memory → Follows ms rooms (bit_of m) (Given k c d (wide + width (n.expression e)) t.memory) (where_true b (λ s. after (h s) (λ y s. gives (both j y) s)) (gives (first_alone e j)) s') (where_true b (λ s. after (i s) (λ x s. gives (truth (is_true x)) s)) (gives (truth (is_true y))) t')
        go true j y s' t' al r =
            follows_then ms rooms (bit_of m)
            (λ i z now. Kept (SparedBut ms rooms m first count v k u) t'.memory now × Grows ms rooms m first count v k (c + wide) (width (n.expression e)) t'.memory i z now)
            (Given k c d (wide + width (n.expression e)) t.memory) (h s') (i t') _ _ (two s' t' al)
            (λ x z s q al g. both_rest k c d u wide (width (n.expression e)) le t t' j y r x z s q al g (truth (holds x)) (truth (is_true z)) (ap (λ (z : ℤ). truth (is_true z)) g.1.value))
        go false j y s' t' al r = alone_rest e k c d wide t j y s' t' al r

    pub logic_tells : (operator : LogicOperator) (e : Expression) (st : Stand) (d u wide : ℕ) (f h : plain.Does Judged) (g i : flat.Does ℤ) → Stands st d → d ≤ u → Shows st d wide f g → Shows (beside st wide) u (width (n.expression e)) h i → Shows st d (wide + width (n.expression e)) (logic_does operator holds (first_alone e) both f h) (logic_does operator is_true (λ x. truth (is_true x)) (λ x y. truth (is_true y)) g i)
    logic_tells operator e (Loose Plain) d u wide f h g i ok le one two =
        logic_follows ms rooms (bit_of m) (Spared ms rooms m first count v d) (λ j y. IsValue Plain j.value y) operator holds (first_alone e) both is_true (λ x. truth (is_true x)) (λ x y. truth (is_true y)) f h g i
        (λ j y q. ap is_true q)
        (λ j y q. ap (λ (z : ℤ). truth (is_true z)) q)
        (λ j k y z q r. ap (λ (z : ℤ). truth (is_true z)) r)
        one
        (keeps_less ms rooms (bit_of m) (Spared ms rooms m first count v u) (Spared ms rooms m first count v d) (λ j y. IsValue Plain j.value y) h i (λ r q. spared_more d u r le q) two)
    logic_tells operator e (Loose Controlling) d u wide f h g i ok le one two =
        logic_follows ms rooms (bit_of m) (Spared ms rooms m first count v d) (λ j y. IsValue Controlling j.value y) operator holds (first_alone e) both is_true (λ x. truth (is_true x)) (λ x y. truth (is_true y)) f h g i
        (λ j y q. q)
        (λ j y q. ap (λ (b : Bool). is_true (truth b)) q)
        (λ j k y z q r. ap (λ (b : Bool). is_true (truth b)) r)
        one
        (keeps_less ms rooms (bit_of m) (Spared ms rooms m first count v u) (Spared ms rooms m first count v d) (λ j y. IsValue Controlling j.value y) h i (λ r q. spared_more d u r le q) two)
    logic_tells operator e (Loose Inner) d u wide f h g i ok le one two = absurd ok
    logic_tells operator e (InTree k c) d u wide f h g i ok le one two =
        logic_in_tree operator e k c d u wide f h g i le one two

    -- ---- operators that are evaluated in full

    full_value : (o : FullOperator) (j i : Judged) (y z : ℤ) → y ≡ truth (holds j) → z ≡ truth (holds i) → truth (truth_table o (is_true y) (is_true z)) ≡ truth (is_true (truth (truth_table o (holds j) (holds i))))
    full_value o j i y z e h =
        ap (λ (b : Bool). truth (truth_table o b (is_true z))) (same_truth y (holds j) e)
        ∙ (ap (λ (b : Bool). truth (truth_table o (holds j) b)) (same_truth z (holds i) h)
        ∙ ap truth (sym (truth_true (truth_table o (holds j) (holds i)))))

    full_in_tree : (operator : Operator) (o : FullOperator) (a : IntType) → bitwise operator ≡ Some o → (k c d u wide last : ℕ) (f h : plain.Does Judged) (g i : flat.Does ℤ) → d ≤ u → Shows (InTree k c) d wide f g → Shows (InTree k (c + wide)) u last h i → Shows (InTree k c) d (wide + last) (full_does o f h) (binary_does operator a g i)
    full_in_tree operator o a is k c d u wide last f h g i le one two s t al =
        follows_then ms rooms (bit_of m) (Given k c d wide t.memory) (Given k c d (wide + last) t.memory) (f s) (g t)
        (λ j s. as_does (in_full o j) h s) (λ y t. after (i t) (λ z t. with_result (operated operator a y z) gives t)) (one s t al)
        (λ j y s' t' al' r.
        follows_then ms rooms (bit_of m) (Given k (c + wide) u last t'.memory) (Given k c d (wide + last) t.memory) (h s') (i t')
        (λ x s. gives (in_full o j x) s) (λ z t. with_result (operated operator a y z) gives t) (two s' t' al')
        (λ x z p q al'' l.
        subst (λ (r : Result ℤ Trap). Follows ms rooms (bit_of m) (Given k c d (wide + last) t.memory) (gives (in_full o j x) p) (with_result r gives q))
        (sym (operated_bits operator o a y z is (grown_bit y (holds j) r.1.value) (grown_bit z (holds x) l.1.value)))
        (both_rest k c d u wide last le t t' j y r x z p q al'' l (truth (truth_table o (holds j) (holds x))) (truth (truth_table o (is_true y) (is_true z)))
        (full_value o j x y z r.1.value l.1.value))))

    -- an operand that stands in no tree gives 0 or 1
    abbrev pub IsBitOperand : Stand → plain.Does Judged → Type 0
    IsBitOperand (Loose Plain) f = GivesBit ms rooms (bit_of m) f
    IsBitOperand (Loose role) f = ⊥
    IsBitOperand (InTree k c) f = Unit {0}

    pub full_tells : (operator : Operator) (o : FullOperator) (a : IntType) → bitwise operator ≡ Some o → (st : Stand) (d u wide last : ℕ) (f h : plain.Does Judged) (g i : flat.Does ℤ) → d ≤ u → IsBitOperand st f → IsBitOperand st h → Shows st d wide f g → Shows (beside st wide) u last h i → Shows st d (wide + last) (full_does o f h) (binary_does operator a g i)
    full_tells operator o a is (Loose Plain) d u wide last f h g i le b c one two =
        full_follows ms rooms (bit_of m) (Spared ms rooms m first count v d) operator o a is f h g i b c one
        (keeps_less ms rooms (bit_of m) (Spared ms rooms m first count v u) (Spared ms rooms m first count v d) (λ j y. IsValue Plain j.value y) h i (λ r q. spared_more d u r le q) two)
    full_tells operator o a is (Loose Controlling) d u wide last f h g i le b c one two = absurd b
    full_tells operator o a is (Loose Inner) d u wide last f h g i le b c one two = absurd b
    full_tells operator o a is (InTree k c) d u wide last f h g i le b l one two =
        full_in_tree operator o a is k c d u wide last f h g i le one two

    bits_where : (d : ℕ) (root : Bool) (f : plain.Does Judged) → (root ≡ false → Gives HasBit f) → IsBitOperand (if root then InTree d 0 else Loose Plain) f
    bits_where d true f k = tt
    bits_where d false f k = λ s t al. k refl s

    constant_where : (a b : Bool) → a ≡ true → (a && not b) ≡ false → b ≡ true
    constant_where true true e h = refl
    constant_where true false e h = sym h
    constant_where false b e h = no_root e

    -- an operator that is no root and stands in no tree has constant operands
    pub operand_bits : (st : Stand) (d : ℕ) (a : Node) (f : plain.Does Judged) → Stands st d → is_boolean a ≡ true → (is_constant a ≡ true → Gives HasBit f) → IsBitOperand (operand st d a) f
    operand_bits (Loose Plain) d a f ok is k = bits_where d (is_root Plain a) f (λ e. k (constant_where (is_boolean a) (is_constant a) is e))
    operand_bits (Loose Controlling) d a f ok is k = bits_where d (is_root Controlling a) f (λ e. k (constant_where true (is_constant a) refl e))
    operand_bits (Loose Inner) d a f ok is k = absurd ok
    operand_bits (InTree k c) d a f ok is l = tt

    -- ---- roots

    loosen : (role : Role) (x y : ℤ) → y ≡ x → IsValue role x y
    loosen Plain x y e = e
    loosen Controlling x y e = ap is_true e
    loosen Inner x y e = ap is_true e

    spared_here : (d i : ℕ) → Spared ms rooms m first count v d i → Spared ms rooms m first count v (d + 0) i
    spared_here d i q = spared_more d (d + 0) i (omega arith) q

    -- where no root stands
    loose_value : (role : Role) (d wide : ℕ) (f : plain.Does Judged) (g : flat.Does ℤ) → Goes (d + 0) (λ j y. y ≡ j.value) f g → Shows (Loose role) d wide f g
    loose_value role d wide f g h =
        keeps_less ms rooms (bit_of m) (Spared ms rooms m first count v (d + 0)) (Spared ms rooms m first count v d) (λ j y. IsValue role j.value y) f g (spared_here d)
        (other ms rooms (bit_of m) (Spared ms rooms m first count v (d + 0)) (λ j y. y ≡ j.value) (λ j y. IsValue role j.value y) f g (λ j y e. loosen role j.value y e) h)

    loose_operator : (role : Role) (d k : ℕ) (a : Node) (wide : ℕ) (b : Bool) (f : plain.Does Judged) (x : p.Expression) → is_operator a ≡ true → k ≡ first + d → (b ≡ true → IsRootOf d a) → Gives (IsOf a) f → Gives (IsFlag role) f → Shows (if b then InTree d 0 else Loose Plain) (d + one_where b) wide f (evaluate v x) → Shows (Loose role) d wide (where_root b k f) (evaluate v (if b then p.Probe (probe.Decision d (base_of (mapped m first d))) (round_condition m first d 0 a x) else x))
    loose_operator role d k a wide true f x is e root of flag h =
        decision_tells role d k a wide f (evaluate v (round_condition m first d 0 a x)) e (root refl) of flag
        (subst (λ (c : Bool). Shows (InTree d 0) (d + 1) wide f (evaluate v (if c then x else p.Probe (probe.Condition d 0 (increment_of (mapped m first d) 0)) x))) (sym is) h)
    loose_operator role d k a wide false f x is e root of flag h =
        loose_value role d wide f (evaluate v x) h

    condition_flag : (role : Role) (a : Node) (f : plain.Does ℤ) → is_root role a ≡ true → (is_boolean a ≡ true → Gives IsBit f) → Gives (IsFlag role) (as_does as_condition f)
    condition_flag Plain a f e g s =
        given_then IsBit (IsFlag Plain) (f s) (λ x s. gives (as_condition x) s) (g (and_left (is_boolean a) _ e) s) (λ x s h. h)
    condition_flag Controlling a f e g s = any_given (as_does as_condition f s).out
    condition_flag Inner a f e g s = any_given (as_does as_condition f s).out

    loose_condition : (role : Role) (d k : ℕ) (a : Node) (b : Bool) (f : plain.Does ℤ) (x : p.Expression) → is_operator a ≡ false → ((k : ℕ) → tree_from k a ≡ Leaf k) → k ≡ first + d → (b ≡ true → IsRootOf d a) → (b ≡ true → Gives (IsFlag role) (as_does as_condition f)) → Goes (d + one_where b) Equal f (evaluate v x) → Shows (Loose role) d 1 (where_root b k (as_does as_condition f)) (evaluate v (if b then p.Probe (probe.Decision d (base_of (mapped m first d))) (round_condition m first d 0 a x) else x))
    loose_condition role d k a true f x is leaf e root flag h =
        let one : d < d + 1 = omega arith in
        decision_tells role d k a 1 (as_does as_condition f) (evaluate v (round_condition m first d 0 a x)) e (root refl) (condition_is a leaf f) (flag refl)
        (subst (λ (c : Bool). Shows (InTree d 0) (d + 1) 1 (as_does as_condition f) (evaluate v (if c then x else p.Probe (probe.Condition d 0 (increment_of (mapped m first d) 0)) x))) (sym is)
        (condition_tells d 0 (d + 1) f (evaluate v x) one (omega (arith, (root refl).counted)) h))
    loose_condition role d k a false f x is leaf e root flag h =
        loose_value role d 1 (as_does as_condition f) (evaluate v x)
        (λ s t al. plain_as ms rooms (bit_of m) as_condition (λ y z n. Kept (Spared ms rooms m first count v (d + 0)) t.memory n × Equal y z) (λ j z n. Kept (Spared ms rooms m first count v (d + 0)) t.memory n × (z ≡ j.value)) (f s) (evaluate v x t) (λ a b n r. r) (h s t al))

    -- ---- an expression, from what stands in it

    pub operator_wraps : (st : Stand) (d k wide : ℕ) (a : Node) (f : plain.Does Judged) (x : p.Expression) → is_operator a ≡ true → k ≡ first + d → (is_root (role_of st) a ≡ true → IsRootOf d a) → Gives (IsOf a) f → Gives (IsFlag (role_of st)) f → Shows (operand st d a) (inner st d a) wide f (evaluate v x) → Shows st d wide (where_root (is_root (role_of st) a) k f) (evaluate v (round m first st d a x))
    operator_wraps (Loose role) d k wide a f x is at root of flag h =
        loose_operator role d k a wide (is_root role a) f x is at root of flag h
    operator_wraps (InTree l c) d k wide a f x is at root of flag h =
        subst (λ (b : Bool). Shows (InTree l c) d wide f (evaluate v (if b then x else p.Probe (probe.Condition l 0 (increment_of (mapped m first l) c)) x))) (sym is) h

    pub condition_wraps : (st : Stand) (d k : ℕ) (a : Node) (f : plain.Does ℤ) (x : p.Expression) → is_operator a ≡ false → ((k : ℕ) → tree_from k a ≡ Leaf k) → Stands st d → k ≡ first + d → (is_root (role_of st) a ≡ true → IsRootOf d a) → inner st d a ≤ count → (is_boolean a ≡ true → Gives IsBit f) → Goes (inner st d a) Equal f (evaluate v x) → Shows st d 1 (where_root (is_root (role_of st) a) k (as_does as_condition f)) (evaluate v (round m first st d a x))
    condition_wraps (Loose role) d k a f x is leaf ok at root le flag h =
        loose_condition role d k a (is_root role a) f x is leaf at root (λ b. condition_flag role a f b flag) h
    condition_wraps (InTree l c) d k a f x is leaf ok at root le flag h =
        subst (λ (b : Bool). Shows (InTree l c) d 1 (as_does as_condition f) (evaluate v (if b then x else p.Probe (probe.Condition l 0 (increment_of (mapped m first l) c)) x))) (sym is)
        (condition_tells l c d f (evaluate v x) ok le h)
