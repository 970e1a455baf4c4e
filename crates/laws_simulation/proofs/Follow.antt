-- A run follows another where its parts do.
use Rattle.std.proofs.Common.{◌≡◌, ◌∙◌, refl, sym, ap, subst, ℕ, zero, suc, ◌+◌, ◌*◌, ◌<◌, ℤ, pos, negsuc, Bool, true, false, List, [], ◌∷◌, ◌++◌, flat_map, Option, Some, None, Result, Ok, Err, arith, ltb-true, append-nil}
use Rattle.std.specs.Prelude.{nat_lt}
use Rattle.std.proofs.lemmas.Grind.{flat_map-append}
use Rattle.mc_value.specs.declared.trap.Trap.{Trap}
use Rattle.mc_value.specs.declared.trap.Trap.TheVariants.{Unset, InputEnd}
use Rattle.mc_value.specs.declared.int_type.IntType.{IntType}
use Rattle.mc_value.specs.declared.int_type.IntType.TheVariants as the
use Rattle.mc_value.specs.declared.operators.UnOp.{UnOp}
use Rattle.mc_value.specs.Arithmetic.{unary_of}
use Rattle.mc_value.specs.Conversions.{converted}
use Rattle.mc_typed.specs.declared.operators.Operator.{Operator}
use Rattle.mc_typed.specs.declared.operators.LogicOperator.{LogicOperator}
use Rattle.mc_typed.specs.declared.plans.Ending.{Ending}
use Rattle.mc_typed.specs.declared.plans.Ending.TheVariants as ending
use Rattle.mc_typed.specs.Layout.{ObjectType, Scalar, Array, Structure, Members, cells, start, member, Leads}
use Rattle.mc_typed.proofs.Places.{here, begins, joined}
use Rattle.mc_steps.specs.Runs.{State, Out, Gave, Stopped, Run, Acts, gives, stops, after, go_on, changes, with_some, with_result, with_fuel, spends}
use Rattle.mc_steps.specs.Memories.{Lent}
use Rattle.mc_steps.specs.Events.{Event}
use Rattle.mc_steps.specs.Expressions.{operated, is_true, where_true, with_index, item_does, lent_item_does, read_does, unary_does, binary_does, goes_on, logic_does, choice_does, as_does, with_input, input_does}
use Rattle.mc_steps.specs.Calls.{Passed, PassedNumber, PassedStructure, PassedArray, Target, structure_argument_does, again_argument_does, arguments_do, number_given, structure_given}
use Rattle.mc_typed.specs.Tree.{ParameterType, NumberParameter, StructureParameter, ArrayParameter, ResultType, NumberResult}
use Rattle.decide_rules.specs.declared.operators.FullOperator.{FullOperator}
use Rattle.decide_rules.specs.Nodes.{bitwise}
use Rattle.mc_meaning.specs.Stores.{Path, Store, on_places}
use Rattle.mc_meaning.specs.Decisions.{Judged, in_full, full_does}
use Rattle.mc_meaning.proofs.Runs as outs
use Rattle.mc_probe.specs.Flat.{Flat, flat, value_in}
use Rattle.laws_simulation.specs.Related.{whole, Suits, MayHold}
use Rattle.laws_simulation.specs.Follows.{Kept, AreOne, Alike, Matches, Follows, Does}
use Rattle.mc_typed.specs.Sound.{structure_result}
use Rattle.mc_steps.specs.Statements.{Given, Nothing, Number}
use Rattle.mc_steps.specs.Statements as give
use Rattle.laws_simulation.specs.Activations.{IsInside, At, AreLent, IsPassed, ArePassed, IsGiven}
use Rattle.laws_simulation.proofs.Bits.{operated_bits}
use Rattle.laws_simulation.proofs.Keep.{same_copy}

abbrev pub Equal : {A : Type 0} → A → A → Type 0
Equal x y = y ≡ x

abbrev pub SameTruth : ℤ → ℤ → Type 0
SameTruth x y = is_true y ≡ is_true x

-- the same number, which suits the type
abbrev pub Typed : IntType → ℤ → ℤ → Type 0
Typed a x y = (y ≡ x) × Suits a x

-- a number that is 0 or 1
abbrev pub HasBit : Judged → Type 0
HasBit j = Suits the.Bool j.value

pub some_same_value : {A : Type 0} (x y : A) → Some x ≡ Some y → x ≡ y
some_same_value x y e = cc

pub inside_part : (p : Path) (i : ℕ) → IsInside p → IsInside (p ++ i ∷ [])
inside_part [] i h = absurd h
inside_part (j ∷ p) i h = tt

module _ (ms : Members) (rooms : ℕ) (image : Event → List ℕ) where
  -- ---- any two runs

  on_outs : {A B C D : Type 0} (v : A → B → Flat → Type 0) (w : C → D → Flat → Type 0) (o : Out Store A) (p : Out Flat B) (f : A → Acts Store Event C) (g : B → Acts Flat ℕ D) → Matches ms rooms v o p → ((a : A) (b : B) (s : State Store) (t : State Flat) → Alike ms rooms s t → v a b t.memory → Follows ms rooms image w (f a s) (g b t)) → Follows ms rooms image w (go_on o f) (go_on p g)
  on_outs v w (Gave a s) (Gave b t) f g h k = k a b s t h.0 h.1
  on_outs v w (Stopped e s) (Stopped x t) f g h k = record { told = refl; out = h }
  on_outs v w (Gave a s) (Stopped x t) f g h k = absurd h
  on_outs v w (Stopped e s) (Gave b t) f g h k = absurd h

  pub follows_then : {A B C D : Type 0} (v : A → B → Flat → Type 0) (w : C → D → Flat → Type 0) (p : Run Store Event A) (q : Run Flat ℕ B) (f : A → Acts Store Event C) (g : B → Acts Flat ℕ D) → Follows ms rooms image v p q → ((a : A) (b : B) (s : State Store) (t : State Flat) → Alike ms rooms s t → v a b t.memory → Follows ms rooms image w (f a s) (g b t)) → Follows ms rooms image w (after p f) (after q g)
  follows_then v w p q f g h k =
      let r = on_outs v w p.out q.out f g h.out k in
      record {
        told = ap (λ (l : List ℕ). l ++ (go_on q.out g).events) h.told
            ∙ (ap (λ (l : List ℕ). flat_map image p.events ++ l) r.told
            ∙ sym (flat_map-append image p.events (go_on p.out f).events));
        out = r.out;
      }

  weaker_out : {A B : Type 0} (v w : A → B → Flat → Type 0) (o : Out Store A) (p : Out Flat B) → ((a : A) (b : B) (n : Flat) → v a b n → w a b n) → Matches ms rooms v o p → Matches ms rooms w o p
  weaker_out v w (Gave a s) (Gave b t) k h = (h.0, k a b t.memory h.1)
  weaker_out v w (Stopped e s) (Stopped x t) k h = h
  weaker_out v w (Gave a s) (Stopped x t) k h = h
  weaker_out v w (Stopped e s) (Gave b t) k h = h

  pub weaker : {A B : Type 0} (v w : A → B → Flat → Type 0) (p : Run Store Event A) (q : Run Flat ℕ B) → ((a : A) (b : B) (n : Flat) → v a b n → w a b n) → Follows ms rooms image v p q → Follows ms rooms image w p q
  weaker v w p q k h = record { told = h.told; out = weaker_out v w p.out q.out k h.out }

  -- what is given is changed on one side alone
  plain_out : {A B C : Type 0} (f : A → C) (v : A → B → Flat → Type 0) (w : C → B → Flat → Type 0) (o : Out Store A) (p : Out Flat B) → ((a : A) (b : B) (n : Flat) → v a b n → w (f a) b n) → Matches ms rooms v o p → Matches ms rooms w (go_on {E = Event} o (λ x s. gives (f x) s)).out p
  plain_out f v w (Gave a s) (Gave b t) k h = (h.0, k a b t.memory h.1)
  plain_out f v w (Stopped e s) (Stopped x t) k h = h
  plain_out f v w (Gave a s) (Stopped x t) k h = h
  plain_out f v w (Stopped e s) (Gave b t) k h = h

  none_more : {A C : Type 0} (f : A → C) (o : Out Store A) → (go_on {E = Event} o (λ x s. gives (f x) s)).events ≡ []
  none_more f (Gave x s) = refl
  none_more f (Stopped e s) = refl

  pub plain_as : {A B C : Type 0} (f : A → C) (v : A → B → Flat → Type 0) (w : C → B → Flat → Type 0) (p : Run Store Event A) (q : Run Flat ℕ B) → ((a : A) (b : B) (n : Flat) → v a b n → w (f a) b n) → Follows ms rooms image v p q → Follows ms rooms image w (after p (λ x s. gives (f x) s)) q
  plain_as f v w p q k h = record {
    told = h.told ∙ ap (flat_map image) (sym (append-nil p.events) ∙ ap (λ (xs : List Event). p.events ++ xs) (sym (none_more f p.out)));
    out = plain_out f v w p.out q.out k h.out;
  }

  pub keeps_less : {A B : Type 0} (P Q : ℕ → Type 0) (v : A → B → Type 0) (f : Acts Store Event A) (g : Acts Flat ℕ B) → ((r : ℕ) → Q r → P r) → Does ms rooms image P v f g → Does ms rooms image Q v f g
  keeps_less P Q v f g k h s t a =
      weaker (λ a b n. Kept P t.memory n × v a b) (λ a b n. Kept Q t.memory n × v a b) (f s) (g t)
      (λ a b n l. ((λ r q. l.0 r (k r q)), l.1)) (h s t a)

  -- what is given suits the type, from each two states that are alike
  abbrev pub Suited : IntType → Acts Store Event ℤ → Type 0
  Suited a f = (s : State Store) (t : State Flat) → Alike ms rooms s t → outs.IsGiven (Suits a) (f s).out

  abbrev pub GivesBit : Acts Store Event Judged → Type 0
  GivesBit f = (s : State Store) (t : State Flat) → Alike ms rooms s t → outs.IsGiven HasBit (f s).out

  module _ (P : ℕ → Type 0) where
    abbrev Goes : {A B : Type 0} → (A → B → Type 0) → Acts Store Event A → Acts Flat ℕ B → Type 0
    Goes v f g = Does ms rooms image P v f g

    pub given : {A B : Type 0} (v : A → B → Type 0) (a : A) (b : B) → v a b → Goes v (gives a) (gives b)
    given v a b k s t h = record { told = refl; out = (h, ((λ r p. refl), k)) }

    pub stopped : {A B : Type 0} (v : A → B → Type 0) (e : Ending) → Goes v (stops e) (stops e)
    stopped v e s t h = record { told = refl; out = (refl, record { fuel = h.fuel; output = h.output }) }

    pub other : {A B : Type 0} (v w : A → B → Type 0) (f : Acts Store Event A) (g : Acts Flat ℕ B) → ((a : A) (b : B) → v a b → w a b) → Goes v f g → Goes w f g
    other v w f g k h s t a =
        weaker (λ a b n. Kept P t.memory n × v a b) (λ a b n. Kept P t.memory n × w a b) (f s) (g t)
        (λ a b n l. (l.0, k a b l.1)) (h s t a)

    pub next : {A B C D : Type 0} (v : A → B → Type 0) (w : C → D → Type 0) (f : Acts Store Event A) (g : Acts Flat ℕ B) (x : A → Acts Store Event C) (y : B → Acts Flat ℕ D) → Goes v f g → ((a : A) (b : B) → v a b → Goes w (x a) (y b)) → Goes w (λ s. after (f s) x) (λ t. after (g t) y)
    next v w f g x y h k s t a =
        follows_then (λ a b n. Kept P t.memory n × v a b) (λ a b n. Kept P t.memory n × w a b) (f s) (g t) x y (h s t a)
        (λ i j s' t' l r. weaker (λ a b n. Kept P t'.memory n × w a b) (λ a b n. Kept P t.memory n × w a b) (x i s') (y j t')
        (λ a b n z. ((λ k p. z.0 k p ∙ r.0 k p), z.1)) (k i j r.1 s' t' l))

    pub next_same : {A C D : Type 0} (w : C → D → Type 0) (f : Acts Store Event A) (g : Acts Flat ℕ A) (x : A → Acts Store Event C) (y : A → Acts Flat ℕ D) → Goes Equal f g → ((a : A) → Goes w (x a) (y a)) → Goes w (λ s. after (f s) x) (λ t. after (g t) y)
    next_same w f g x y h k =
        next Equal w f g x y h (λ a b e. subst (λ z. Goes w (x a) (y z)) (sym e) (k a))

    -- ---- what is known of the plain run alone

    and_out : {A B : Type 0} (Q : A → Type 0) (w : A → B → Type 0) (old : Flat) (o : Out Store A) (q : Out Flat B) → outs.IsGiven Q o → Matches ms rooms (λ x y n. Kept P old n × w x y) o q → Matches ms rooms (λ x y n. Kept P old n × (w x y × Q x)) o q
    and_out Q w old (Gave x s) (Gave y t) g h = (h.0, (h.1.0, (h.1.1, g)))
    and_out Q w old (Stopped e s) (Stopped x t) g h = h
    and_out Q w old (Gave x s) (Stopped e t) g h = h
    and_out Q w old (Stopped e s) (Gave y t) g h = h

    and_given : {A B : Type 0} (Q : A → Type 0) (w : A → B → Type 0) (f : Acts Store Event A) (g : Acts Flat ℕ B) → Goes w f g → ((s : State Store) (t : State Flat) → Alike ms rooms s t → outs.IsGiven Q (f s).out) → Goes (λ x y. w x y × Q x) f g
    and_given Q w f g h k s t al =
        let r = h s t al in
        record { told = r.told; out = and_out Q w t.memory (f s).out (g t).out (k s t al) r.out }

    -- ---- numbers that suit a type

    pub typed : (a : IntType) (f : Acts Store Event ℤ) (g : Acts Flat ℕ ℤ) → Goes Equal f g → Suited a f → Goes (Typed a) f g
    typed a f g h k = and_given (Suits a) Equal f g h k

    pub next_typed : {C D : Type 0} (a : IntType) (w : C → D → Type 0) (f : Acts Store Event ℤ) (g : Acts Flat ℕ ℤ) (x : ℤ → Acts Store Event C) (y : ℤ → Acts Flat ℕ D) → Goes (Typed a) f g → ((v : ℤ) → Suits a v → Goes w (x v) (y v)) → Goes w (λ s. after (f s) x) (λ t. after (g t) y)
    next_typed a w f g x y h k =
        next (Typed a) w f g x y h (λ v u e. subst (λ z. Goes w (x v) (y z)) (sym e.0) (k v e.1))

    held_suits : (a : IntType) (o : Option ℤ) (s : State Store) → MayHold a o → outs.IsGiven (Suits a) (with_some {E = Event} Unset o gives s).out
    held_suits a None s h = tt
    held_suits a (Some v) s h = h

    read_out : (a : IntType) (old : Flat) (o : Out Store Path) (q : Out Flat ℕ) → Matches ms rooms (λ p n z. Kept P old z × At ms (Scalar a) p n) o q → outs.IsGiven (Suits a) (go_on {E = Event} o (λ p s. with_some Unset (s.memory p) gives s)).out
    read_out a old (Gave p s) (Gave n t) h = held_suits a (s.memory p) s (h.0.memory.same.held p a n h.1.1.1)
    read_out a old (Gave p s) (Stopped e t) h = absurd h
    read_out a old (Stopped e s) q h = tt

    -- a scalar that is read
    pub read_suits : (a : IntType) (place : Acts Store Event Path) (cell : Acts Flat ℕ ℕ) → Goes (At ms (Scalar a)) place cell → Suited a (read_does on_places place)
    read_suits a place cell h s t al = read_out a t.memory (place s).out (cell t).out (h s t al).out

    call_out : (a : IntType) (old : Flat) (o : Out Store (Given Path)) (q : Out Flat (Given ℕ)) → Matches ms rooms (λ x y z. Kept P old z × IsGiven ms (NumberResult a) x y) o q → outs.IsGiven (Suits a) (go_on {E = Event} o number_given).out
    call_out a old (Gave Nothing s) q h = tt
    call_out a old (Gave (give.Structure p k) s) q h = tt
    call_out a old (Gave (Number x) s) (Gave (Number y) t) h = h.1.1.1
    call_out a old (Gave (Number x) s) (Gave Nothing t) h = absurd h.1.1
    call_out a old (Gave (Number x) s) (Gave (give.Structure n l) t) h = absurd h.1.1
    call_out a old (Gave (Number x) s) (Stopped e t) h = absurd h
    call_out a old (Stopped e s) q h = tt

    -- what a function gives
    pub call_suits : (a : IntType) (r : ResultType) (call : Acts Store Event (Given Path)) (cell : Acts Flat ℕ (Given ℕ)) → r ≡ NumberResult a → Goes (IsGiven ms r) call cell → Suited a (λ s. after (call s) number_given)
    call_suits a r call cell e h s t al =
        call_out a t.memory (call s).out (cell t).out
        (subst (λ (r : ResultType). Goes (IsGiven ms r) call cell) e h s t al).out

    pub changed : (f : Store → Store) (g : Flat → Flat) → ((m : Store) (n : Flat) → AreOne ms rooms m n → AreOne ms rooms (f m) (g n) × Kept P n (g n)) → Goes (λ a b. Unit {0}) (changes f) (changes g)
    changed f g k s t h =
        let r = k s.memory t.memory h.memory in
        record {
          told = refl;
          out = (record { memory = r.0; fuel = h.fuel; inputs = h.inputs; output = h.output }, (r.1, tt));
        }

    -- ---- choices

    pub some_same : {X A B : Type 0} (w : A → B → Type 0) (t : Trap) (o : Option X) (f : X → Acts Store Event A) (g : X → Acts Flat ℕ B) → ((x : X) → Goes w (f x) (g x)) → Goes w (with_some t o f) (with_some t o g)
    some_same w t None f g k = stopped w _
    some_same w t (Some x) f g k = k x

    pub result_same : {X A B : Type 0} (w : A → B → Type 0) (r : Result X Trap) (f : X → Acts Store Event A) (g : X → Acts Flat ℕ B) → ((x : X) → Goes w (f x) (g x)) → Goes w (with_result r f) (with_result r g)
    result_same w (Err t) f g k = stopped w _
    result_same w (Ok x) f g k = k x

    pub true_same : {A B : Type 0} (w : A → B → Type 0) (b : Bool) (f h : Acts Store Event A) (g i : Acts Flat ℕ B) → (b ≡ true → Goes w f g) → (b ≡ false → Goes w h i) → Goes w (where_true b f h) (where_true b g i)
    true_same w true f h g i k l = k refl
    true_same w false f h g i k l = l refl

    pub index_same : {A B : Type 0} (w : A → B → Type 0) (x : ℤ) (k : ℕ) (f : ℕ → Acts Store Event A) (g : ℕ → Acts Flat ℕ B) → ((i : ℕ) → i < k → Goes w (f i) (g i)) → Goes w (with_index x k f) (with_index x k g)
    index_same w (pos i) k f g h =
        true_same w (nat_lt i k) (f i) _ (g i) _ (λ e. h i (ltb-true i k e)) (λ e. stopped w _)
    index_same w (negsuc i) k f g h = stopped w _

    fuel_same : {A B : Type 0} (w : A → B → Type 0) (k : ℕ) (f : Acts Store Event A) (g : Acts Flat ℕ B) → Goes w f g → Goes w (with_fuel k f) (with_fuel k g)
    fuel_same w zero f g h s t a = stopped w ending.Fuel s t a
    fuel_same w (suc n) f g h s t a =
        h (record s { fuel = n }) (record t { fuel = n }) (record { memory = a.memory; fuel = refl; inputs = a.inputs; output = a.output })

    pub spends_same : {A B : Type 0} (w : A → B → Type 0) (f : Acts Store Event A) (g : Acts Flat ℕ B) → Goes w f g → Goes w (spends f) (spends g)
    spends_same w f g h s t a =
        subst (λ (k : ℕ). Follows ms rooms image (λ a b n. Kept P t.memory n × w a b) (with_fuel s.fuel f s) (with_fuel k g t)) (sym a.fuel)
        (fuel_same w s.fuel f g h s t a)

    input_same : (vs : List ℤ) → Goes Equal (with_input vs gives) (with_input vs gives)
    input_same [] s t a = stopped Equal (ending.Trap InputEnd) s t a
    input_same (v ∷ vs) s t a =
        record { told = refl; out = (record { memory = a.memory; fuel = a.fuel; inputs = refl; output = a.output }, ((λ r p. refl), refl)) }

    pub input_follows : Goes Equal input_does input_does
    input_follows =
        spends_same Equal (λ s. with_input s.inputs gives s) (λ s. with_input s.inputs gives s)
        (λ s t a. subst (λ (vs : List ℤ). Follows ms rooms image (λ a b n. Kept P t.memory n × Equal a b) (with_input s.inputs gives s) (with_input vs gives t)) (sym a.inputs)
        (input_same s.inputs s t a))

    -- ---- places

    element : (u : ObjectType) (k stride i : ℕ) (p : Path) (n : ℕ) → stride ≡ cells u → i < k → At ms (Array k u) p n → At ms u (p ++ i ∷ []) (n + i * stride)
    element u k stride i p n e lt h = (
      inside_part p i h.0,
      joined (whole ms) p (Array k u) n (i ∷ []) u (i * stride) h.1
          (0, lt, here u, ap (λ (x : ℕ). i * x) e ∙ omega arith),
    )

    pub item_follows : (u : ObjectType) (k stride : ℕ) (array : Acts Store Event Path) (cell : Acts Flat ℕ ℕ) (index : Acts Store Event ℤ) (number : Acts Flat ℕ ℤ) → stride ≡ cells u → Goes (At ms (Array k u)) array cell → Goes Equal index number → Goes (At ms u) (item_does on_places k stride array index) (item_does flat k stride cell number)
    item_follows u k stride array cell index number e h j =
        next (At ms (Array k u)) (At ms u) array cell _ _ h (λ p n l.
        next_same (At ms u) index number _ _ j (λ x.
        index_same (At ms u) x k _ _ (λ i lt. given (At ms u) _ _ (element u k stride i p n e lt l))))

    pub lent_item_follows : (u : ObjectType) (stride : ℕ) (x : Lent Path) (y : Lent ℕ) (index : Acts Store Event ℤ) (number : Acts Flat ℕ ℤ) → stride ≡ cells u → AreLent ms u x y → Goes Equal index number → Goes (At ms u) (lent_item_does on_places (Some x) stride index) (lent_item_does flat (Some y) stride number)
    lent_item_follows u stride x y index number e l j =
        next_same (At ms u) index number _ _ j (λ v.
        subst (λ (k : ℕ). Goes (At ms u) (with_index v x.length (λ i. gives (x.place ++ i ∷ []))) (with_index v k (λ i. gives (y.place + i * stride)))) (sym l.length)
        (index_same (At ms u) v x.length _ _ (λ i lt. given (At ms u) _ _ (element u x.length stride i x.place y.place e lt l.place))))

    pub member_follows : (k : ℕ) (us : Members) (u : ObjectType) (i offset : ℕ) (structure : Acts Store Event Path) (cell : Acts Flat ℕ ℕ) → member us i ≡ Some u → offset ≡ start us i → Goes (At ms (Structure k us)) structure cell → Goes (At ms u) (as_does (on_places.part i offset) structure) (as_does (flat.part i offset) cell)
    member_follows k us u i offset structure cell is e h =
        next (At ms (Structure k us)) (At ms u) structure cell _ _ h (λ p n l.
        given (At ms u) _ _ (
          inside_part p i l.0,
          joined (whole ms) p (Structure k us) n (i ∷ []) u offset l.1
              (subst (λ (x : ℕ). Leads (Structure k us) (i ∷ []) u x) (sym e) (begins us i u is)),
        ))

    pub read_follows : (a : IntType) (place : Acts Store Event Path) (cell : Acts Flat ℕ ℕ) → Goes (At ms (Scalar a)) place cell → Goes Equal (read_does on_places place) (read_does flat cell)
    read_follows a place cell h =
        next (At ms (Scalar a)) Equal place cell _ _ h (λ p n l s t k.
        subst (λ (x : Option ℤ). Follows ms rooms image (λ a b n. Kept P t.memory n × Equal a b) (with_some Unset (s.memory p) gives s) (with_some Unset x gives t)) (sym (ap value_in (k.memory.same.same p a n l.1)))
        (some_same Equal Unset (s.memory p) gives gives (λ x. given Equal x x refl) s t k))

    -- ---- operators

    pub unary_follows : (operator : UnOp) (a : IntType) (e : Acts Store Event ℤ) (f : Acts Flat ℕ ℤ) → Goes Equal e f → Goes Equal (unary_does operator a e) (unary_does operator a f)
    unary_follows operator a e f h =
        next_same Equal e f _ _ h (λ x. result_same Equal (unary_of operator a x) gives gives (λ y. given Equal y y refl))

    pub convert_follows : (a : IntType) (e : Acts Store Event ℤ) (f : Acts Flat ℕ ℤ) → Goes Equal e f → Goes Equal (as_does (converted a) e) (as_does (converted a) f)
    convert_follows a e f h =
        next_same Equal e f _ _ h (λ x. given Equal (converted a x) (converted a x) refl)

    pub binary_follows : (operator : Operator) (a : IntType) (e f : Acts Store Event ℤ) (g i : Acts Flat ℕ ℤ) → Goes Equal e g → Goes Equal f i → Goes Equal (binary_does operator a e f) (binary_does operator a g i)
    binary_follows operator a e f g i h k =
        next_same Equal e g _ _ h (λ x. next_same Equal f i _ _ k (λ y.
        result_same Equal (operated operator a x y) gives gives (λ z. given Equal z z refl)))

    pub choice_follows : {A B : Type 0} (w : A → B → Type 0) (e : Acts Store Event ℤ) (x y : Acts Store Event A) (f : Acts Flat ℕ ℤ) (u v : Acts Flat ℕ B) → Goes SameTruth e f → Goes w x u → Goes w y v → Goes w (choice_does e x y) (choice_does f u v)
    choice_follows w e x y f u v h k l =
        next SameTruth w e f _ _ h (λ a b is.
        subst (λ (c : Bool). Goes w (where_true (is_true a) x y) (where_true c u v)) (sym is)
        (true_same w (is_true a) x y u v (λ _. k) (λ _. l)))

    pub as_follows : {A B C D : Type 0} (v : A → B → Type 0) (w : C → D → Type 0) (f : A → C) (g : B → D) (e : Acts Store Event A) (i : Acts Flat ℕ B) → ((a : A) (b : B) → v a b → w (f a) (g b)) → Goes v e i → Goes w (as_does f e) (as_does g i)
    as_follows v w f g e i k h = next v w e i _ _ h (λ a b r. given w (f a) (g b) (k a b r))

    pub logic_follows : {A B : Type 0} (v : A → B → Type 0) (operator : LogicOperator) (holds : A → Bool) (first : A → A) (both : A → A → A) (is : B → Bool) (alone : B → B) (two : B → B → B) (e f : Acts Store Event A) (g i : Acts Flat ℕ B) → ((a : A) (b : B) → v a b → is b ≡ holds a) → ((a : A) (b : B) → v a b → v (first a) (alone b)) → ((a c : A) (b d : B) → v a b → v c d → v (both a c) (two b d)) → Goes v e g → Goes v f i → Goes v (logic_does operator holds first both e f) (logic_does operator is alone two g i)
    logic_follows v operator holds first both is alone two e f g i same one many h k =
        next v v e g _ _ h (λ a b r.
        subst (λ (c : Bool). Goes v (where_true (goes_on operator (holds a)) (λ s. after (f s) (λ y s. gives (both a y) s)) (gives (first a))) (where_true (goes_on operator c) (λ s. after (i s) (λ y s. gives (two b y) s)) (gives (alone b)))) (sym (same a b r))
        (true_same v (goes_on operator (holds a)) _ _ _ _
        (λ _. next v v f i _ _ k (λ c d q. given v (both a c) (two b d) (many a c b d r q)))
        (λ _. given v (first a) (alone b) (one a b r))))

    -- ---- operators that are evaluated in full

    abbrev SameValue : Judged → ℤ → Type 0
    SameValue j y = y ≡ j.value

    full_value : (operator : Operator) (o : FullOperator) (a : IntType) → bitwise operator ≡ Some o → (j k : Judged) (y z : ℤ) → SameValue j y × HasBit j → SameValue k z × HasBit k → Goes SameValue (gives (in_full o j k)) (with_result (operated operator a y z) gives)
    full_value operator o a e j k y z p q =
        subst (λ (x : ℤ). Goes SameValue (gives (in_full o j k)) (with_result (operated operator a x z) gives)) (sym p.0)
        (subst (λ (x : ℤ). Goes SameValue (gives (in_full o j k)) (with_result (operated operator a j.value x) gives)) (sym q.0)
        (subst (λ (r : Result ℤ Trap). Goes SameValue (gives (in_full o j k)) (with_result r gives)) (sym (operated_bits operator o a j.value k.value e p.1 q.1))
        (given SameValue (in_full o j k) (in_full o j k).value refl)))

    -- C's operator on operands that are 0 or 1
    pub full_follows : (operator : Operator) (o : FullOperator) (a : IntType) → bitwise operator ≡ Some o → (e f : Acts Store Event Judged) (g i : Acts Flat ℕ ℤ) → GivesBit e → GivesBit f → Goes SameValue e g → Goes SameValue f i → Goes SameValue (full_does o e f) (binary_does operator a g i)
    full_follows operator o a is e f g i b c h k =
        next (λ j y. SameValue j y × HasBit j) SameValue e g (λ j s. as_does (in_full o j) f s) (λ y t. after (i t) (λ z t. with_result (operated operator a y z) gives t))
        (and_given HasBit SameValue e g h b)
        (λ j y p. next (λ l z. SameValue l z × HasBit l) SameValue f i (λ l s. gives (in_full o j l) s) (λ z t. with_result (operated operator a y z) gives t)
        (and_given HasBit SameValue f i k c)
        (λ l z q. full_value operator o a is j l y z p q))

    -- ---- arguments

    pub number_argument_follows : (a : IntType) (e : Acts Store Event ℤ) (f : Acts Flat ℕ ℤ) → Goes (Typed a) e f → Goes (IsPassed ms (NumberParameter a)) (as_does PassedNumber e) (as_does PassedNumber f)
    number_argument_follows a e f h =
        next_typed a (IsPassed ms (NumberParameter a)) e f _ _ h (λ x k. given (IsPassed ms (NumberParameter a)) (PassedNumber x) (PassedNumber x) (refl, k))

    copied_is_one : (u : ObjectType) (o p : Path) (from to k : ℕ) → k ≡ cells u → At ms u o from → At ms u p to → (m : Store) (n : Flat) → AreOne ms rooms m n → AreOne ms rooms (on_places.copy o p 0 m) (flat.copy from to k n)
    copied_is_one u o p from to k e g h m n r =
        subst (λ (x : ℕ). AreOne ms rooms (on_places.copy o p 0 m) (flat.copy from to x n)) (sym e)
        (record { same = same_copy ms m n.cells o p u from to r.same g.1 h.1; room = r.room })

    pub copy_follows : (u : ObjectType) (o p : Path) (from to j k : ℕ) → k ≡ cells u → At ms u o from → At ms u p to → Goes (λ a b. Unit {0}) (changes (on_places.copy o p j)) (changes (flat.copy from to k))
    copy_follows u o p from to j k e g h =
        changed (on_places.copy o p j) (flat.copy from to k) (λ m n r. (copied_is_one u o p from to k e g h m n r, λ i q. refl))

    pub structure_argument_follows : (u : ObjectType) (x : Target Path) (y : Target ℕ) (e : Acts Store Event Path) (f : Acts Flat ℕ ℕ) → y.cells ≡ cells u → At ms u x.place y.place → Goes (At ms u) e f → Goes (IsPassed ms (StructureParameter u)) (structure_argument_does on_places x e) (structure_argument_does flat y f)
    structure_argument_follows u x y e f is l h =
        next (At ms u) (IsPassed ms (StructureParameter u)) e f _ _ h (λ p n g.
        next (λ a b. Unit {0}) (IsPassed ms (StructureParameter u)) (changes (on_places.copy p x.place x.cells)) (changes (flat.copy n y.place y.cells)) (λ _ s. gives (PassedStructure x.place) s) (λ _ s. gives (PassedStructure y.place) s)
        (copy_follows u p x.place n y.place x.cells y.cells is g l) (λ a b q.
        given (IsPassed ms (StructureParameter u)) (PassedStructure x.place) (PassedStructure y.place) l))

    pub array_argument_follows : (u : ObjectType) (k : ℕ) (e : Acts Store Event Path) (f : Acts Flat ℕ ℕ) → Goes (At ms (Array k u)) e f → Goes (IsPassed ms (ArrayParameter u)) (as_does (λ p. PassedArray (record { place = p; length = k })) e) (as_does (λ p. PassedArray (record { place = p; length = k })) f)
    array_argument_follows u k e f h =
        next (At ms (Array k u)) (IsPassed ms (ArrayParameter u)) e f _ _ h (λ p n l.
        given (IsPassed ms (ArrayParameter u)) _ _ (record { length = refl; place = l }))

    pub again_argument_follows : (u : ObjectType) (x : Lent Path) (y : Lent ℕ) → AreLent ms u x y → Goes (IsPassed ms (ArrayParameter u)) (again_argument_does (Some x)) (again_argument_does (Some y))
    again_argument_follows u x y l = given (IsPassed ms (ArrayParameter u)) (PassedArray x) (PassedArray y) l

    pub arguments_follow : (a : ParameterType) (later : List ParameterType) (e : Acts Store Event (Passed Path)) (es : Acts Store Event (List (Passed Path))) (f : Acts Flat ℕ (Passed ℕ)) (fs : Acts Flat ℕ (List (Passed ℕ))) → Goes (IsPassed ms a) e f → Goes (ArePassed ms later) es fs → Goes (ArePassed ms (a ∷ later)) (arguments_do e es) (arguments_do f fs)
    arguments_follow a later e es f fs h k =
        next (IsPassed ms a) (ArePassed ms (a ∷ later)) e f _ _ h (λ x y p.
        next (ArePassed ms later) (ArePassed ms (a ∷ later)) es fs _ _ k (λ xs ys q.
        given (ArePassed ms (a ∷ later)) (x ∷ xs) (y ∷ ys) (p, q)))

    -- ---- what calls give

    pub number_given_follows : (r : ResultType) (a : Given Path) (b : Given ℕ) → IsGiven ms r a b → Goes Equal (number_given a) (number_given b)
    number_given_follows r Nothing Nothing h = stopped Equal _
    number_given_follows r (Number x) (Number y) h = given Equal x y (sym h.0)
    number_given_follows r (give.Structure p k) (give.Structure n l) h = stopped Equal _
    number_given_follows r Nothing (Number y) h = absurd h
    number_given_follows r Nothing (give.Structure n l) h = absurd h
    number_given_follows r (Number x) Nothing h = absurd h
    number_given_follows r (Number x) (give.Structure n l) h = absurd h
    number_given_follows r (give.Structure p k) Nothing h = absurd h
    number_given_follows r (give.Structure p k) (Number y) h = absurd h

    pub structure_given_follows : (r : ResultType) (u : ObjectType) (a : Given Path) (b : Given ℕ) → structure_result r ≡ Some u → IsGiven ms r a b → Goes (At ms u) (structure_given a) (structure_given b)
    structure_given_follows r u Nothing Nothing e h = stopped (At ms u) _
    structure_given_follows r u (Number x) (Number y) e h = stopped (At ms u) _
    structure_given_follows r u (give.Structure p k) (give.Structure n l) e h =
        given (At ms u) p n (subst (λ (x : ObjectType). At ms x p n) (some_same_value h.0 u (sym h.1 ∙ e)) h.2)
    structure_given_follows r u Nothing (Number y) e h = absurd h
    structure_given_follows r u Nothing (give.Structure n l) e h = absurd h
    structure_given_follows r u (Number x) Nothing e h = absurd h
    structure_given_follows r u (Number x) (give.Structure n l) e h = absurd h
    structure_given_follows r u (give.Structure p k) Nothing e h = absurd h
    structure_given_follows r u (give.Structure p k) (Number y) e h = absurd h
