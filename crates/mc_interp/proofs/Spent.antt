-- Units of fuel that were spent, and what follows them.
use Rattle.std.proofs.Common.{◌≡◌, ℕ, zero, suc, ◌+◌, ◌≤◌, arith, List, [], ◌++◌, sym, ap, subst, ◌∙◌, Option, Some, None}
use Rattle.std.specs.Prelude.{IfSome}
use Rattle.mc_typed.specs.declared.plans.Ending.{Ending}
use Rattle.mc_typed.specs.declared.plans.Ending.TheVariants as ending
use Rattle.mc_value.specs.declared.int_type.IntType.{IntType}
use Rattle.mc_typed.specs.Sound.{Scope, structure_type, type_of, IsExpression, IsReturn, IsStructure}
use Rattle.mc_typed.specs.Tree as t
use Rattle.interp_words.specs.Words.{Holds}
use Rattle.mc_steps.specs.Runs.{State, Run, Out, Gave, Stopped, Acts, gives, stops, after, spends, with_fuel}
use Rattle.mc_steps.specs.Expressions.{as_does}
use Rattle.mc_steps.specs.Statements.{Completed, Left, Given, effect_does}
use Rattle.mc_probe.specs.Flat.{Flat, Does, Activation, hits_some}
use Rattle.mc_probe.specs.Statements.{exit_does}
use Rattle.mc_interp.specs.declared.store.Store.{Store}
use Rattle.mc_interp.specs.declared.values.Given.TheVariants as given
use Rattle.mc_interp.specs.Bodies.{IsGivenFor}
use Rattle.mc_interp.specs.Frames.{IsKept}
use Rattle.mc_interp.specs.Stores.{state_of, told, Did}
use Rattle.mc_interp.specs.Typed.{IsPlaced}
use Rattle.mc_interp.proofs.Inputs.{state_or, IsGave}
use Rattle.mc_interp.proofs.Runs.{did_told, did_gives, did_then, did_end}

-- ---- stops

abbrev pub value_or : {A : Type 0} → A → Out Flat A → A
value_or d (Gave a s) = a
value_or d (Stopped e s) = d

abbrev pub as_stop : {A X : Type 0} → Out Flat A → Out Flat X → Out Flat A
as_stop d (Gave x s) = d
as_stop d (Stopped e s) = Stopped e s

pub same_stop : {A X : Type 0} (e : Ending) (s : State Flat) (m : Store) → stops {E = ℕ} {A = X} e s ≡ told None m → stops {E = ℕ} {A = A} e s ≡ told None m
same_stop {A} {X} e s m h =
    let d : Out Flat A = Stopped m.ending (state_of m) in
    ap (λ (o : Out Flat X). record { out = as_stop d o; events = [] }) (ap (λ (r : Run Flat ℕ X). r.out) h)

pub no_stop : {A Y : Type 0} (e : Ending) (s : State Flat) (x : A) (m : Store) → stops {E = ℕ} {A = A} e s ≡ told (Some x) m → Y
no_stop {A} e s x m h = absurd (subst IsGave (sym (ap (λ (r : Run Flat ℕ A). r.out) h)) tt)

pub no_give : {A Y : Type 0} (x : A) (s : State Flat) (m : Store) → gives {E = ℕ} x s ≡ told None m → Y
no_give {A} x s m h = absurd (subst IsGave (ap (λ (r : Run Flat ℕ A). r.out) h) tt)

-- ---- a unit, and what follows it

module _ {A : Type 0} (next : Acts Flat ℕ A) (s : State Flat) (m : Store) where
  fuel_then : (n : ℕ) → with_fuel {E = ℕ} n (gives {A = Unit {0}} tt) s ≡ told (Some tt) m → with_fuel n next s ≡ next (state_of m)
  fuel_then zero h = no_stop ending.Fuel s tt m h
  fuel_then (suc n) h = ap next (ap (λ (r : Run Flat ℕ (Unit {0})). state_or s r.out) h)

  fuel_end : (n : ℕ) → with_fuel {E = ℕ} n (gives {A = Unit {0}} tt) s ≡ told None m → with_fuel n next s ≡ told None m
  fuel_end zero h = same_stop ending.Fuel s m h
  fuel_end (suc n) h = no_give tt (record s { fuel = n }) m h

  pub spent_then : spends {E = ℕ} (gives {A = Unit {0}} tt) s ≡ told (Some tt) m → spends next s ≡ next (state_of m)
  spent_then h = fuel_then s.fuel h

  pub spent_end : spends {E = ℕ} (gives {A = Unit {0}} tt) s ≡ told None m → spends next s ≡ told None m
  spent_end h = fuel_end s.fuel h

module _ {P : Type 0} (leads : List ℕ → P → P → Type 0) (stays : (p : P) → leads [] p p)
    (joins : (xs ys : List ℕ) (p q r : P) → leads xs p q → leads ys q r → leads (xs ++ ys) p r) where
  pub did_spent : {A : Type 0} (next : Acts Flat ℕ A) (s : State Flat) (m n : Store) (result : Option A) (p q : P) →
      spends {E = ℕ} (gives {A = Unit {0}} tt) s ≡ told (Some tt) m → Did leads (next (state_of m)) result n p q → Did leads (spends next s) result n p q
  did_spent {A} next s m n result p q h d =
      subst (λ (r : Run Flat ℕ A). Did leads r result n p q) (sym (fuel_then next s m s.fuel h)) d

  pub did_unspent : {A : Type 0} (next : Acts Flat ℕ A) (s : State Flat) (m : Store) (p : P) →
      spends {E = ℕ} (gives {A = Unit {0}} tt) s ≡ told None m → Did leads (spends next s) None m p p
  did_unspent next s m p h = did_told leads stays joins (spends next s) None m p (fuel_end next s m s.fuel h)

  -- what has an effect alone
  pub did_effect : (act : Does (Unit {0})) (s : State Flat) (m : Store) (p q : P) → Did leads (act s) (Some tt) m p q →
      Did leads (effect_does {P = ℕ} act s) (Some Completed) m p q
  did_effect act s m p q h =
      did_then leads stays joins (act s) (λ _ s. gives Completed s) tt m m (Some Completed) p q q h (did_gives leads stays joins Completed m q)

  pub did_effect_end : (act : Does (Unit {0})) (s : State Flat) (m : Store) (p q : P) → Did leads (act s) None m p q →
      Did leads (effect_does {P = ℕ} act s) None m p q
  did_effect_end act s m p q h = did_end leads stays joins (act s) (λ _ s. gives Completed s) m p q h

  -- what is given is changed, and may be kept
  pub did_as : {A B : Type 0} (f : A → B) (act : Does A) (s : State Flat) (x : A) (y : B) (m n : Store) (p q : P) → Did leads (act s) (Some x) m p q →
      y ≡ f x → state_of n ≡ state_of m → Did leads (as_does f act s) (Some y) n p q
  did_as f act s x y m n p q h e k =
      did_then leads stays joins (act s) (λ x s. gives (f x) s) x m n (Some y) p q q h
      (record { ran = λ i. Gave (sym e i) (sym k i); led = stays q })

  pub did_as_end : {A B : Type 0} (f : A → B) (act : Does A) (s : State Flat) (m : Store) (p q : P) → Did leads (act s) None m p q →
      Did leads (as_does f act s) None m p q
  did_as_end f act s m p q h = did_end leads stays joins (act s) (λ x s. gives (f x) s) m p q h

  module _ (w : Activation) where
    pub did_exit : (bit : Option ℕ) (act : Does (Given ℕ)) (s : State Flat) (v : Given ℕ) (m : Store) (p q r : P) → Did leads (act s) (Some v) m p q →
        Did leads (hits_some w bit (state_of m)) (Some tt) m q r → Did leads (exit_does w bit act s) (Some (Left v)) m p r
    did_exit bit act s v m p q r h g =
        did_then leads stays joins (act s) (λ v s. after (hits_some w bit s) (λ _ s. gives (Left v) s)) v m m (Some (Left v)) p q r h
        (did_then leads stays joins (hits_some w bit (state_of m)) (λ _ s. gives (Left v) s) tt m m (Some (Left v)) q r r g (did_gives leads stays joins (Left v) m r))

    pub did_exit_end : (bit : Option ℕ) (act : Does (Given ℕ)) (s : State Flat) (m : Store) (p q : P) → Did leads (act s) None m p q →
        Did leads (exit_does w bit act s) None m p q
    did_exit_end bit act s m p q h = did_end leads stays joins (act s) (λ v s. after (hits_some w bit s) (λ _ s. gives (Left v) s)) m p q h

-- fuel that was spent before a part
pub if_less : {A : Type 0} (c : Scope) (w : Activation) (o m n : Store) (r : Option A) → m.fuel + 1 ≡ o.fuel → IfSome r (λ _. IsKept c w m n) →
    IfSome r (λ _. n.fuel + 1 ≤ o.fuel)
if_less c w o m n None e k = tt
if_less c w o m n (Some a) e k = omega (arith, e, k.fuel)

-- ---- what a `return` gives

pub return_typed : (c : Scope) (w : Activation) (e : t.Expression) (word : ℕ) (of : IntType) → IsReturn (t.ReturnNumber e) c.result c → of ≡ type_of e →
    Holds (type_of e) word → IsGivenFor c w c.result (given.Number of word)
return_typed c w e word of h k hold = go c.result h
  where
    go : (r : t.ResultType) → IsReturn (t.ReturnNumber e) r c → IsGivenFor c w r (given.Number of word)
    go (t.NumberResult a) h = (k ∙ h.1, subst (λ a. Holds a word) h.1 hold)
    go t.NoResult h = absurd h
    go (t.StructureResult u) h = absurd h

pub return_structure_typed : (c : Scope) (w : Activation) (v : t.StructureValue) (n at : ℕ) → IsReturn (t.ReturnStructure v n) c.result c →
    IsPlaced c w at (structure_type c v) → IsGivenFor c w c.result (given.Structure at n)
return_structure_typed c w v n at h p = go c.result h
  where
    go : (r : t.ResultType) → IsReturn (t.ReturnStructure v n) r c → IsGivenFor c w r (given.Structure at n)
    go (t.StructureResult u) h = (h.2, subst (IsPlaced c w at) h.1 p)
    go t.NoResult h = absurd h
    go (t.NumberResult a) h = absurd h

pub return_number_sound : (c : Scope) (e : t.Expression) → IsReturn (t.ReturnNumber e) c.result c → IsExpression e c
return_number_sound c e h = go c.result h
  where
    go : (r : t.ResultType) → IsReturn (t.ReturnNumber e) r c → IsExpression e c
    go (t.NumberResult a) h = h.0
    go t.NoResult h = absurd h
    go (t.StructureResult u) h = absurd h

pub return_structure_sound : (c : Scope) (v : t.StructureValue) (n : ℕ) → IsReturn (t.ReturnStructure v n) c.result c → IsStructure v c
return_structure_sound c v n h = go c.result h
  where
    go : (r : t.ResultType) → IsReturn (t.ReturnStructure v n) r c → IsStructure v c
    go (t.StructureResult u) h = h.0
    go t.NoResult h = absurd h
    go (t.NumberResult a) h = absurd h
