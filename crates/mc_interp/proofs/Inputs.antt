-- Units of fuel and inputs.
use Rattle.std.proofs.Common.{◌≡◌, ℕ, zero, suc, ◌+◌, List, [], ◌∷◌, drop, refl, sym, ap, subst, arith, Some}
use Rattle.std.specs.Prelude.{slice_get}
use Rattle.mc_typed.specs.Sound.{Scope}
use Rattle.mc_steps.specs.Runs.{State, Out, Gave, Stopped, Run, Acts, gives, with_fuel, spends}
use Rattle.mc_probe.specs.Flat.{Activation, Flat}
use Rattle.mc_interp.specs.declared.store.Store.{Store}
use Rattle.mc_interp.specs.Frames.{IsKept}
use Rattle.mc_interp.proofs.Placed.{none_some, some_eq}

abbrev pub state_or : {A : Type 0} → State Flat → Out Flat A → State Flat
state_or d (Gave u s) = s
state_or d (Stopped e s) = d

abbrev pub IsGave : {A : Type 0} → Out Flat A → Type 0
IsGave (Gave u s) = Unit {0}
IsGave (Stopped e s) = ⊥

abbrev gave : State Flat → Run Flat ℕ (Unit {0})
gave s = record { out = Gave tt s; events = [] }

fuel_then : {A : Type 0} (n : ℕ) (s t : State Flat) (next : Acts Flat ℕ A) →
    with_fuel n (gives tt) s ≡ gave t → with_fuel n next s ≡ next t
fuel_then zero s t next e = absurd (subst IsGave (sym (ap (λ (r : Run Flat ℕ (Unit {0})). r.out) e)) tt)
fuel_then (suc n) s t next e = ap next (ap (λ (r : Run Flat ℕ (Unit {0})). state_or t r.out) e)

-- where a unit was spent, what follows goes on from there
pub spends_then : {A : Type 0} (s t : State Flat) (next : Acts Flat ℕ A) → spends (gives tt) s ≡ gave t →
    spends next s ≡ next t
spends_then s t next e = fuel_then s.fuel s t next e

pub drop_next : {A : Type 0} (xs : List A) (n : ℕ) (x : A) → slice_get xs n ≡ Some x →
    drop n xs ≡ x ∷ drop (n + 1) xs
drop_next [] n x e = none_some x e
drop_next (y ∷ xs) zero x e = ap (λ y. y ∷ xs) (some_eq y x e)
drop_next (y ∷ xs) (suc n) x e = let z : suc n + 1 ≡ suc (n + 1) = omega arith in rw z (drop_next xs n x e)

-- another number of inputs that were read
pub kept_next : (c : Scope) (w : Activation) (m : Store) (k : ℕ) → IsKept c w m (record m { next = k })
kept_next c w m k = record {
  cells = refl;
  limit = refl;
  registers = refl;
  registers_limit = refl;
  output = refl;
  fuel = omega arith;
  typed = λ types ok has. has;
}
