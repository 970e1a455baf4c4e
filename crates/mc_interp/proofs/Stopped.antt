-- Steps that may stop the run, and what follows them.
use Rattle.std.proofs.Common.{◌≡◌, ℕ, ℤ, [], Option, Some, None, Result, Ok, Err, sym, ap, subst, ◌∙◌}
use Rattle.mc_value.specs.declared.int_type.IntType.{IntType}
use Rattle.mc_value.specs.declared.trap.Trap.{Trap}
use Rattle.mc_value.specs.declared.trap.Trap.TheVariants.{Unset}
use Rattle.mc_value.specs.Conversions.{converted}
use Rattle.mc_typed.specs.declared.operators.Operator.{Operator}
use Rattle.mc_steps.specs.Runs.{State, Out, Gave, Stopped, Run, Acts, gives, traps, changes, with_some, with_result}
use Rattle.mc_steps.specs.Expressions.{operated}
use Rattle.interp_words.specs.Words.{number_of, result_of}
use Rattle.mc_typed.specs.Sound.{operator_type}
use Rattle.mc_probe.specs.Flat.{Flat, flat}
use Rattle.mc_interp.specs.declared.store.Store.{Store}
use Rattle.mc_interp.specs.Stores.{state_of, told}
use Rattle.mc_interp.proofs.Inputs.{state_or, IsGave}

abbrev value_or : {A : Type 0} → A → Out Flat A → A
value_or d (Gave a s) = a
value_or d (Stopped e s) = d

abbrev stopped_as : {A X : Type 0} → Out Flat A → Out Flat X → Out Flat A
stopped_as d (Gave x s) = d
stopped_as d (Stopped e s) = Stopped e s

abbrev silent : {A : Type 0} → Out Flat A → Run Flat ℕ A
silent o = record { out = o; events = [] }

module _ {X A : Type 0} (next : X → Acts Flat ℕ A) (s : State Flat) (m : Store) where
  gave_then : (x y : X) → gives {E = ℕ} y s ≡ told (Some x) m → next y s ≡ next x (state_of m)
  gave_then x y e =
      let o : Gave y s ≡ Gave x (state_of m) = ap (λ (r : Run Flat ℕ X). r.out) e in
      ap (λ (z : X). next z s) (ap (value_or x) o) ∙ ap (next x) (ap (state_or s) o)

  stopped_then : (t : Trap) → traps {E = ℕ} {A = X} t s ≡ told None m → traps {E = ℕ} {A = A} t s ≡ told None m
  stopped_then t e =
      let d : Out Flat A = Stopped m.ending (state_of m) in
      ap (λ (o : Out Flat X). silent (stopped_as d o)) (ap (λ (r : Run Flat ℕ X). r.out) e)

  not_stopped : {B : Type 0} (t : Trap) (x : X) → traps {E = ℕ} {A = X} t s ≡ told (Some x) m → B
  not_stopped t x e = absurd (subst IsGave (sym (ap (λ (r : Run Flat ℕ X). r.out) e)) tt)

  not_gave : {B : Type 0} (x : X) → gives {E = ℕ} x s ≡ told None m → B
  not_gave x e = absurd (subst IsGave (ap (λ (r : Run Flat ℕ X). r.out) e) tt)

  pub some_then : (t : Trap) (o : Option X) (x : X) → with_some {E = ℕ} t o gives s ≡ told (Some x) m →
      with_some t o next s ≡ next x (state_of m)
  some_then t None x e = not_stopped t x e
  some_then t (Some y) x e = gave_then x y e

  pub some_ended : (t : Trap) (o : Option X) → with_some {E = ℕ} t o gives s ≡ told None m →
      with_some t o next s ≡ told None m
  some_ended t None e = stopped_then t e
  some_ended t (Some y) e = not_gave y e

  pub result_then : (o : Result X Trap) (x : X) → with_result {E = ℕ} o gives s ≡ told (Some x) m →
      with_result o next s ≡ next x (state_of m)
  result_then (Err t) x e = not_stopped t x e
  result_then (Ok y) x e = gave_then x y e

  pub result_ended : (o : Result X Trap) → with_result {E = ℕ} o gives s ≡ told None m →
      with_result o next s ≡ told None m
  result_ended (Err t) e = stopped_then t e
  result_ended (Ok y) e = not_gave y e

-- ---- a compound assignment

module _ (at : ℕ) (of common : IntType) (operator : Operator) where
  abbrev stores : ℤ → Acts Flat ℕ (Unit {0})
  stores v s = changes (flat.put at 1 (Some (converted of v))) s

  abbrev pub updates : ℤ → ℤ → Acts Flat ℕ (Unit {0})
  updates y x s = with_result (operated operator common (converted common x) y) stores s

  pub update_unread : (s : State Flat) (y : ℤ) (m : Store) →
      with_some Unset (flat.read at s.memory) gives s ≡ told {A = ℤ} None m →
      with_some Unset (flat.read at s.memory) (updates y) s ≡ told None m
  update_unread s y m e = some_ended (updates y) s m Unset (flat.read at s.memory) e

  -- the old value was read, and the operator was applied to it
  pub update_trapped : (s : State Flat) (x : ℤ) (u : IntType) (right old : ℕ) (outcome : Result ℕ Trap) (l m : Store) →
      with_some Unset (flat.read at s.memory) gives s ≡ told (Some x) l → number_of common old ≡ converted common x →
      result_of (operator_type operator common) outcome ≡ operated operator common (number_of common old) (number_of u right) →
      with_result (result_of (operator_type operator common) outcome) gives (state_of l) ≡ told {A = ℤ} None m →
      with_some Unset (flat.read at s.memory) (updates (number_of u right)) s ≡ told None m
  update_trapped s x u right old outcome l m read same value ran =
      let y = number_of u right in
      let a : result_of (operator_type operator common) outcome ≡ operated operator common (converted common x) y =
      subst (λ z. result_of (operator_type operator common) outcome ≡ operated operator common z y) same value in
      some_then (updates y) s l Unset (flat.read at s.memory) x read
      ∙ result_ended stores (state_of l) m (operated operator common (converted common x) y)
      (subst (λ r. with_result r gives (state_of l) ≡ told {A = ℤ} None m) a ran)

  pub update_stored : (s : State Flat) (x v : ℤ) (u : IntType) (right old : ℕ) (outcome : Result ℕ Trap) (l m n : Store) (w : ℤ) →
      with_some Unset (flat.read at s.memory) gives s ≡ told (Some x) l → number_of common old ≡ converted common x →
      result_of (operator_type operator common) outcome ≡ operated operator common (number_of common old) (number_of u right) →
      with_result (result_of (operator_type operator common) outcome) gives (state_of l) ≡ told (Some v) m →
      w ≡ converted of v → changes (flat.put at 1 (Some w)) (state_of m) ≡ told (Some tt) n →
      with_some Unset (flat.read at s.memory) (updates (number_of u right)) s ≡ told (Some tt) n
  update_stored s x v u right old outcome l m n w read same value ran e put =
      let y = number_of u right in
      let a : result_of (operator_type operator common) outcome ≡ operated operator common (converted common x) y =
      subst (λ z. result_of (operator_type operator common) outcome ≡ operated operator common z y) same value in
      some_then (updates y) s l Unset (flat.read at s.memory) x read
      ∙ result_then stores (state_of l) m (operated operator common (converted common x) y) v
      (subst (λ r. with_result r gives (state_of l) ≡ told (Some v) m) a ran)
      ∙ subst (λ z. changes (flat.put at 1 (Some z)) (state_of m) ≡ told (Some tt) n) e put
