-- What nodes do, from what their parts did.
use Rattle.std.proofs.Common.{◌≡◌, ℕ, ◌+◌, ◌*◌, ℤ, Bool, true, false, not, List, [], ◌++◌, Option, Some, None, option_map, Result, Ok, refl, sym, ap, subst, if◌then◌else◌}
use Rattle.mc_value.specs.declared.int_type.IntType.{IntType}
use Rattle.mc_value.specs.declared.trap.Trap.{Trap}
use Rattle.mc_value.specs.declared.trap.Trap.TheVariants.{Index}
use Rattle.mc_value.specs.Conversions.{is_zero, promoted}
use Rattle.mc_value.specs.declared.operators.BinOp.{BinOp}
use Rattle.mc_value.specs.Arithmetic.{binary_of, truth}
use Rattle.mc_typed.specs.declared.operators.Operator.{Operator}
use Rattle.mc_typed.specs.declared.operators.Operator.TheVariants.{Binary, Shift}
use Rattle.mc_typed.specs.declared.operators.LogicOperator.{LogicOperator}
use Rattle.mc_typed.specs.Sound.{HasOperands, operator_type}
use Rattle.mc_steps.specs.Runs.{State, Run, gives, after, with_some, with_result}
use Rattle.mc_steps.specs.Memories.{Lent}
use Rattle.mc_steps.specs.Expressions.{operated, is_true, where_true, with_index, item_does, lent_item_does, binary_does, goes_on, logic_does, choice_does, as_does}
use Rattle.interp_words.specs.Words.{number_of, result_of, Holds, IsRight, IsRightType}
use Rattle.mc_probe.specs.Flat.{Flat, Does, Activation, flat, sets, adds, hits, register, wrapped_sum}
use Rattle.mc_probe.specs.Probes.{decision_does, condition_does}
use Rattle.mc_interp.specs.declared.store.Store.{Store}
use Rattle.mc_interp.specs.Stores.{state_of, told, Did}
use Rattle.mc_interp.specs.Truths.{path_does}
use Rattle.mc_interp.proofs.Runs.{did_told, did_gives, did_then, did_end, did_no_more, did_by_truth}
use Rattle.mc_interp.proofs.Truths.{true_truth, not_zero}

-- ---- operands

pub left_is : (operator : Operator) (a l r : IntType) → HasOperands operator a l r → l ≡ a
left_is (Binary operator) a l r h = h.1
left_is (Shift operator) a l r h = h.1

pub has_promoted : (operator : Operator) (a l r : IntType) → HasOperands operator a l r → promoted a ≡ a
has_promoted (Binary operator) a l r h = h.0
has_promoted (Shift operator) a l r h = h.0

pub right_type : (operator : Operator) (a l r : IntType) → HasOperands operator a l r → IsRightType operator a r
right_type (Binary operator) a l r h = h.2
right_type (Shift operator) a l r h = tt

pub is_right : (operator : Operator) (a l r : IntType) (y : ℕ) → HasOperands operator a l r → Holds r y →
    IsRight operator a y
is_right (Binary operator) a l r y h k = subst (λ t. Holds t y) h.2 k
is_right (Shift operator) a l r y h k = tt

pub is_left : (operator : Operator) (a l r : IntType) (x : ℕ) → HasOperands operator a l r → Holds l x → Holds a x
is_left operator a l r x h k = subst (λ t. Holds t x) (left_is operator a l r h) k

module _ {P : Type 0} (leads : List ℕ → P → P → Type 0) (stays : (p : P) → leads [] p p)
    (joins : (xs ys : List ℕ) (p q r : P) → leads xs p q → leads ys q r → leads (xs ++ ys) p r) where
  -- ---- operators

  pub did_operated : (operator : Operator) (a l r : IntType) (E F : Does ℤ) (s : State Flat) (x y : ℕ)
      (outcome : Result ℕ Trap) (out : Option ℕ) (m n k : Store) (p q o : P) → HasOperands operator a l r →
      Did leads (E s) (Some (number_of l x)) m p q → Did leads (F (state_of m)) (Some (number_of r y)) n q o →
      ((u : IntType) → IsRightType operator a u →
      result_of (operator_type operator a) outcome ≡ operated operator a (number_of a x) (number_of u y)) →
      ((t : IntType) → with_result (result_of t outcome) gives (state_of n) ≡ told (option_map (number_of t) out) k) →
      Did leads (binary_does operator a E F s) (option_map (number_of (operator_type operator a)) out) k p o
  did_operated operator a l r E F s x y outcome out m n k p q o h d e value ran =
      let T = operator_type operator a in
      let result : Option ℤ = option_map (number_of T) out in
      let X = number_of a x in
      let Y = number_of r y in
      let step : with_result (operated operator a X Y) gives (state_of n) ≡ told result k =
      subst (λ z. with_result z gives (state_of n) ≡ told result k) (value r (right_type operator a l r h)) (ran T) in
      let first : Did leads (E s) (Some X) m p q =
      subst (λ t. Did leads (E s) (Some (number_of t x)) m p q) (left_is operator a l r h) d in
      did_then leads stays joins (E s) (λ x s. after (F s) (λ y s. with_result (operated operator a x y) gives s)) X m k result p q o first
      (did_then leads stays joins (F (state_of m)) (λ y s. with_result (operated operator a X y) gives s) Y n k result q o o e
      (did_told leads stays joins (with_result (operated operator a X Y) gives (state_of n)) result k o step))

  pub did_choice : {A : Type 0} (E : Does ℤ) (C O : Does A) (s : State Flat) (b : Bool) (m n : Store) (result : Option A) (p q r : P) →
      Did leads (as_does is_true E s) (Some b) m p q → Did leads (where_true b C O (state_of m)) result n q r →
      Did leads (choice_does E C O s) result n p r
  did_choice E C O s b m n result p q r h g =
      did_by_truth leads stays joins (E s) (λ x s. where_true (is_true x) C O s) (λ b s. where_true b C O s) (λ x s. refl) result n p r
      (did_then leads stays joins (as_does is_true E s) (λ b s. where_true b C O s) b m n result p q r h g)

  pub did_choice_end : {A : Type 0} (E : Does ℤ) (C O : Does A) (s : State Flat) (m : Store) (p q : P) →
      Did leads (as_does is_true E s) None m p q → Did leads (choice_does E C O s) None m p q
  did_choice_end E C O s m p q h =
      did_by_truth leads stays joins (E s) (λ x s. where_true (is_true x) C O s) (λ b s. where_true b C O s) (λ x s. refl) None m p q
      (did_end leads stays joins (as_does is_true E s) (λ b s. where_true b C O s) m p q h)

  pub did_chosen : (E C O : Does ℤ) (s : State Flat) (b : Bool) (t a : IntType) (out : Option ℕ) (m n : Store) (p q r : P) →
      Did leads (as_does is_true E s) (Some b) m p q → b ≡ true → t ≡ a →
      Did leads (C (state_of m)) (option_map (number_of t) out) n q r →
      Did leads (choice_does E C O s) (option_map (number_of a) out) n p r
  did_chosen E C O s b t a out m n p q r h e u g =
      did_choice E C O s b m n (option_map (number_of a) out) p q r h
      (subst (λ c. Did leads (where_true c C O (state_of m)) (option_map (number_of a) out) n q r) (sym e)
      (subst (λ x. Did leads (C (state_of m)) (option_map (number_of x) out) n q r) u g))

  pub did_other : (E C O : Does ℤ) (s : State Flat) (b : Bool) (t a : IntType) (out : Option ℕ) (m n : Store) (p q r : P) →
      Did leads (as_does is_true E s) (Some b) m p q → b ≡ false → t ≡ a →
      Did leads (O (state_of m)) (option_map (number_of t) out) n q r →
      Did leads (choice_does E C O s) (option_map (number_of a) out) n p r
  did_other E C O s b t a out m n p q r h e u g =
      did_choice E C O s b m n (option_map (number_of a) out) p q r h
      (subst (λ c. Did leads (where_true c C O (state_of m)) (option_map (number_of a) out) n q r) (sym e)
      (subst (λ x. Did leads (O (state_of m)) (option_map (number_of x) out) n q r) u g))

  -- ---- places

  pub did_item : (n stride : ℕ) (A : Does ℕ) (E : Does ℤ) (s : State Flat) (k : ℕ) (x : ℤ) (l m o : Store) (result : Option ℕ)
      (p q r : P) → Did leads (A s) (Some k) l p q → Did leads (E (state_of l)) (Some x) m q r →
      with_index x n (λ i s. gives (k + i * stride) s) (state_of m) ≡ told result o →
      Did leads (item_does flat n stride A E s) result o p r
  did_item n stride A E s k x l m o result p q r h g e =
      did_then leads stays joins (A s) (λ p s. after (E s) (λ x s. with_index x n (λ i s. gives (p + i * stride) s) s)) k l o result p q r h
      (did_then leads stays joins (E (state_of l)) (λ x s. with_index x n (λ i s. gives (k + i * stride) s) s) x m o result q r r g
      (did_told leads stays joins (with_index x n (λ i s. gives (k + i * stride) s) (state_of m)) result o r e))

  pub did_lent : (lent : Option (Lent ℕ)) (stride : ℕ) (E : Does ℤ) (s : State Flat) (x : ℤ) (m o : Store) (result : Option ℕ)
      (p q : P) → Did leads (E s) (Some x) m p q →
      with_some Index lent (λ l s. with_index x l.length (λ i s. gives (l.place + i * stride) s) s) (state_of m) ≡ told result o →
      Did leads (lent_item_does flat lent stride E s) result o p q
  did_lent lent stride E s x m o result p q h e =
      did_then leads stays joins (E s) (λ x s. with_some Index lent (λ l s. with_index x l.length (λ i s. gives (l.place + i * stride) s) s) s) x m o result p q q h
      (did_told leads stays joins _ result o q e)

  -- ---- truth values

  did_test : (r : Run Flat ℕ ℤ) (b : Bool) (m : Store) (p q : P) → Did leads r (Some (truth b)) m p q →
      Did leads (after r (λ x s. gives (is_true x) s)) (Some b) m p q
  did_test r b m p q h =
      did_then leads stays joins r (λ x s. gives (is_true x) s) (truth b) m m (Some b) p q q h
      (did_told leads stays joins (gives (is_true (truth b)) (state_of m)) (Some b) m q (ap (λ b. gives b (state_of m)) (true_truth b)))

  did_test_end : (r : Run Flat ℕ ℤ) (m : Store) (p q : P) → Did leads r None m p q →
      Did leads (after r (λ x s. gives (is_true x) s)) None m p q
  did_test_end r m p q h = did_end leads stays joins r (λ x s. gives (is_true x) s) m p q h

  -- a comparison, whose operands have one type
  module _ (operator : BinOp) (a : IntType) (E F : Does ℤ) (s : State Flat) where
    abbrev compared : Does ℤ
    compared s = binary_does (Binary operator) a E F s

    abbrev with_left : ℤ → Does ℤ
    with_left x s = after (F s) (λ y s. with_result (binary_of operator a x y) gives s)

    pub did_compared : (l r : IntType) (x y : ℕ) (b : Bool) (m n : Store) (p q o : P) → HasOperands (Binary operator) a l r →
        Did leads (E s) (Some (number_of l x)) m p q → Did leads (F (state_of m)) (Some (number_of r y)) n q o →
        binary_of operator a (number_of a x) (number_of a y) ≡ Ok (truth b) →
        Did leads (as_does is_true compared s) (Some b) n p o
    did_compared l r x y b m n p q o h d e value =
        let X = number_of a x in
        let Y = number_of a y in
        let first : Did leads (E s) (Some X) m p q = subst (λ t. Did leads (E s) (Some (number_of t x)) m p q) h.1 d in
        let second : Did leads (F (state_of m)) (Some Y) n q o =
        subst (λ t. Did leads (F (state_of m)) (Some (number_of t y)) n q o) h.2 e in
        did_test (compared s) b n p o
        (did_then leads stays joins (E s) with_left X m n (Some (truth b)) p q o first
        (did_then leads stays joins (F (state_of m)) (λ y s. with_result (binary_of operator a X y) gives s) Y n n (Some (truth b)) q o o second
        (did_told leads stays joins (with_result (binary_of operator a X Y) gives (state_of n)) (Some (truth b)) n o
        (ap (λ z. with_result z gives (state_of n)) value))))

    pub did_compared_right : (x : ℤ) (m n : Store) (p q o : P) → Did leads (E s) (Some x) m p q →
        Did leads (F (state_of m)) None n q o → Did leads (as_does is_true compared s) None n p o
    did_compared_right x m n p q o d e =
        did_test_end (compared s) n p o
        (did_then leads stays joins (E s) with_left x m n None p q o d
        (did_end leads stays joins (F (state_of m)) (λ y s. with_result (binary_of operator a x y) gives s) n q o e))

  pub did_not : (E : Does ℤ) (s : State Flat) (b : Bool) (m : Store) (p q : P) → Did leads (as_does is_true E s) (Some b) m p q →
      Did leads (as_does is_true (as_does (λ x. truth (is_zero x)) E) s) (Some (not b)) m p q
  did_not E s b m p q h =
      did_test (as_does (λ x. truth (is_zero x)) E s) (not b) m p q
      (did_by_truth leads stays joins (E s) (λ x s. gives (truth (is_zero x)) s) (λ b s. gives (truth (not b)) s)
      (λ x s. ap (λ v. gives v s) (not_zero x)) (Some (truth (not b))) m p q
      (did_then leads stays joins (as_does is_true E s) (λ b s. gives (truth (not b)) s) b m m (Some (truth (not b))) p q q h
      (did_gives leads stays joins (truth (not b)) m q)))

  pub did_not_end : (E : Does ℤ) (s : State Flat) (m : Store) (p q : P) → Did leads (as_does is_true E s) None m p q →
      Did leads (as_does is_true (as_does (λ x. truth (is_zero x)) E) s) None m p q
  did_not_end E s m p q h =
      did_test_end (as_does (λ x. truth (is_zero x)) E s) m p q
      (did_by_truth leads stays joins (E s) (λ x s. gives (truth (is_zero x)) s) (λ b s. gives (truth (not b)) s)
      (λ x s. ap (λ v. gives v s) (not_zero x)) None m p q
      (did_end leads stays joins (as_does is_true E s) (λ b s. gives (truth (not b)) s) m p q h))

  -- what a truth value is as a number
  did_number : (E : Does ℤ) (s : State Flat) (result : Option Bool) (m : Store) (p q : P) →
      Did leads (as_does is_true E s) result m p q →
      Did leads (after (E s) (λ y s. gives (truth (is_true y)) s)) (option_map truth result) m p q
  did_number E s (Some b) m p q h =
      did_by_truth leads stays joins (E s) (λ y s. gives (truth (is_true y)) s) (λ b s. gives (truth b) s) (λ x s. refl) (Some (truth b)) m p q
      (did_then leads stays joins (as_does is_true E s) (λ b s. gives (truth b) s) b m m (Some (truth b)) p q q h (did_gives leads stays joins (truth b) m q))
  did_number E s None m p q h =
      did_by_truth leads stays joins (E s) (λ y s. gives (truth (is_true y)) s) (λ b s. gives (truth b) s) (λ x s. refl) None m p q
      (did_end leads stays joins (as_does is_true E s) (λ b s. gives (truth b) s) m p q h)

  did_test_all : (r : Run Flat ℕ ℤ) (result : Option Bool) (m : Store) (p q : P) → Did leads r (option_map truth result) m p q →
      Did leads (after r (λ x s. gives (is_true x) s)) result m p q
  did_test_all r (Some b) m p q h = did_test r b m p q h
  did_test_all r None m p q h = did_test_end r m p q h

  module _ (operator : LogicOperator) (E F : Does ℤ) (s : State Flat) where
    abbrev second : Bool → Does ℤ
    second b s = where_true (goes_on operator b) (λ s. after (F s) (λ y s. gives (truth (is_true y)) s)) (gives (truth b)) s

    abbrev both : Does ℤ
    both s = logic_does operator is_true (λ x. truth (is_true x)) (λ x y. truth (is_true y)) E F s

    pub did_logic : (b : Bool) (result : Option Bool) (m n : Store) (p q r : P) → Did leads (as_does is_true E s) (Some b) m p q →
        goes_on operator b ≡ true → Did leads (as_does is_true F (state_of m)) result n q r →
        Did leads (as_does is_true both s) result n p r
    did_logic b result m n p q r h e g =
        did_test_all (both s) result n p r
        (did_by_truth leads stays joins (E s) (λ x s. second (is_true x) s) second (λ x s. refl) (option_map truth result) n p r
        (did_then leads stays joins (as_does is_true E s) second b m n (option_map truth result) p q r h
        (subst (λ c. Did leads (where_true c (λ s. after (F s) (λ y s. gives (truth (is_true y)) s)) (gives (truth b)) (state_of m)) (option_map truth result) n q r)
        (sym e) (did_number F (state_of m) result n q r g))))

    pub did_logic_short : (b : Bool) (m : Store) (p q : P) → Did leads (as_does is_true E s) (Some b) m p q →
        goes_on operator b ≡ false → Did leads (as_does is_true both s) (Some b) m p q
    did_logic_short b m p q h e =
        did_test (both s) b m p q
        (did_by_truth leads stays joins (E s) (λ x s. second (is_true x) s) second (λ x s. refl) (Some (truth b)) m p q
        (did_then leads stays joins (as_does is_true E s) second b m m (Some (truth b)) p q q h
        (subst (λ c. Did leads (where_true c (λ s. after (F s) (λ y s. gives (truth (is_true y)) s)) (gives (truth b)) (state_of m)) (Some (truth b)) m q q)
        (sym e) (did_gives leads stays joins (truth b) m q))))

    pub did_logic_end : (m : Store) (p q : P) → Did leads (as_does is_true E s) None m p q → Did leads (as_does is_true both s) None m p q
    did_logic_end m p q h =
        did_test_end (both s) m p q
        (did_by_truth leads stays joins (E s) (λ x s. second (is_true x) s) second (λ x s. refl) None m p q
        (did_end leads stays joins (as_does is_true E s) second m p q h))

  -- ---- probes

  module _ (w : Activation) (r base : ℕ) (E : Does ℤ) (s : State Flat) where
    abbrev decided : Bool → Does ℤ
    decided b s = after (hits w (wrapped_sum base (register (w.first + r) s.memory)) s) (λ _ s. gives (truth b) s)

    abbrev decision : Does ℤ
    decision s = decision_does w r base E s

    pub did_decision : (b : Bool) (l m : Store) (p q o : P) → sets w r 0 s ≡ told (Some tt) l →
        Did leads (as_does is_true E (state_of l)) (Some b) m p q →
        Did leads (hits w (wrapped_sum base (register (w.first + r) (state_of m).memory)) (state_of m)) (Some tt) m q o →
        Did leads (as_does is_true decision s) (Some b) m p o
    did_decision b l m p q o e h k =
        did_test (decision s) b m p o
        (did_then leads stays joins (sets w r 0 s) (λ _ s. after (E s) (λ x s. decided (is_true x) s)) tt l m (Some (truth b)) p p o
        (did_told leads stays joins (sets w r 0 s) (Some tt) l p e)
        (did_by_truth leads stays joins (E (state_of l)) (λ x s. decided (is_true x) s) decided (λ x s. refl) (Some (truth b)) m p o
        (did_then leads stays joins (as_does is_true E (state_of l)) decided b m m (Some (truth b)) p q o h
        (did_then leads stays joins (hits w (wrapped_sum base (register (w.first + r) (state_of m).memory)) (state_of m)) (λ _ s. gives (truth b) s) tt m m (Some (truth b)) q o o k
        (did_gives leads stays joins (truth b) m o)))))

    pub did_decision_end : (l m : Store) (p q : P) → sets w r 0 s ≡ told (Some tt) l →
        Did leads (as_does is_true E (state_of l)) None m p q → Did leads (as_does is_true decision s) None m p q
    did_decision_end l m p q e h =
        did_test_end (decision s) m p q
        (did_then leads stays joins (sets w r 0 s) (λ _ s. after (E s) (λ x s. decided (is_true x) s)) tt l m None p p q
        (did_told leads stays joins (sets w r 0 s) (Some tt) l p e)
        (did_by_truth leads stays joins (E (state_of l)) (λ x s. decided (is_true x) s) decided (λ x s. refl) None m p q
        (did_end leads stays joins (as_does is_true E (state_of l)) decided m p q h)))

    -- a decision that came out, or in which the run stopped
    pub did_decided : (outcome : Option Bool) (l m : Store) (p q o : P) → sets w r 0 s ≡ told (Some tt) l →
        Did leads (as_does is_true E (state_of l)) outcome m p q →
        Did leads (path_does w r base outcome (state_of m)) (Some tt) m q o →
        Did leads (as_does is_true decision s) outcome m p o
    did_decided (Some b) l m p q o e h k = did_decision b l m p q o e h k
    did_decided None l m p q o e h k =
        did_decision_end l m p o e (did_no_more leads stays joins (as_does is_true E (state_of l)) None m p q o h k.led)

  module _ (w : Activation) (r on_true on_false : ℕ) (E : Does ℤ) (s : State Flat) where
    abbrev noted : Bool → Does ℤ
    noted b s = after (adds w r (if b then on_true else on_false) s) (λ _ s. gives (truth b) s)

    abbrev condition : Does ℤ
    condition s = condition_does w r on_true on_false E s

    pub did_condition : (b : Bool) (m n : Store) (p q : P) → Did leads (as_does is_true E s) (Some b) m p q →
        adds w r (if b then on_true else on_false) (state_of m) ≡ told (Some tt) n →
        Did leads (as_does is_true condition s) (Some b) n p q
    did_condition b m n p q h e =
        did_test (condition s) b n p q
        (did_by_truth leads stays joins (E s) (λ x s. noted (is_true x) s) noted (λ x s. refl) (Some (truth b)) n p q
        (did_then leads stays joins (as_does is_true E s) noted b m n (Some (truth b)) p q q h
        (did_then leads stays joins (adds w r (if b then on_true else on_false) (state_of m)) (λ _ s. gives (truth b) s) tt n n (Some (truth b)) q q q
        (did_told leads stays joins (adds w r (if b then on_true else on_false) (state_of m)) (Some tt) n q e)
        (did_gives leads stays joins (truth b) n q))))

    pub did_condition_end : (m : Store) (p q : P) → Did leads (as_does is_true E s) None m p q →
        Did leads (as_does is_true condition s) None m p q
    did_condition_end m p q h =
        did_test_end (condition s) m p q
        (did_by_truth leads stays joins (E s) (λ x s. noted (is_true x) s) noted (λ x s. refl) None m p q
        (did_end leads stays joins (as_does is_true E s) noted m p q h))
