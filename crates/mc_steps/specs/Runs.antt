-- Runs: how a part of a program comes out, and what happened in it, in order. `M` is the memory,
-- `E` what is listed, `A` what a part gives.
use Rattle.std.specs.Prelude.{ℕ, zero, suc, ℤ, List, [], ◌++◌, Option, Some, None, Result, Ok, Err}
use Rattle.mc_value.specs.declared.trap.Trap.{Trap}
use Rattle.mc_typed.specs.declared.plans.Ending.{Ending}
use Rattle.mc_typed.specs.declared.plans.Ending.TheVariants as ending

pub record State (M : Type 0) : Type 0 where
  pub memory : M
  -- the units of fuel that are left
  pub fuel : ℕ
  -- the inputs that are not read yet
  pub inputs : List ℤ
  pub output : List ℤ

-- it gave a value, or the run of the test stopped in it
pub data Out (M A : Type 0) : Type 0 where
  Gave : A → State M → Out M A
  Stopped : Ending → State M → Out M A

pub record Run (M E A : Type 0) : Type 0 where
  pub out : Out M A
  pub events : List E

-- what a part of a program does from a state on
abbrev pub Acts : Type 0 → Type 0 → Type 0 → Type 0
Acts M E A = State M → Run M E A

abbrev pub gives : {M E A : Type 0} → A → Acts M E A
gives a s = record { out = Gave a s; events = [] }

-- this happens, and nothing else
abbrev pub lists : {M E : Type 0} → List E → Acts M E (Unit {0})
lists events s = record { out = Gave tt s; events = events }

abbrev pub stops : {M E A : Type 0} → Ending → Acts M E A
stops e s = record { out = Stopped e s; events = [] }

abbrev pub traps : {M E A : Type 0} → Trap → Acts M E A
traps t s = stops (ending.Trap t) s

-- ---- one after the other

abbrev pub go_on : {M E A B : Type 0} → Out M A → (A → Acts M E B) → Run M E B
go_on (Gave a s) next = next a s
go_on (Stopped e s) next = stops e s

abbrev pub preceded : {M E A : Type 0} → List E → Run M E A → Run M E A
preceded events r = record { out = r.out; events = events ++ r.events }

-- `next` goes on with what the run gave; after a stop nothing goes on
abbrev pub after : {M E A B : Type 0} → Run M E A → (A → Acts M E B) → Run M E B
after r next = preceded r.events (go_on r.out next)

-- First one part of a program, then another with what the first one gave: `do` has such lines one
-- under the other, `x ← e` where x is what e gave.
infixl 10 ◌>>=◌
abbrev pub ◌>>=◌ : {M E A B : Type 0} → Acts M E A → (A → Acts M E B) → Acts M E B
(first >>= next) s = after (first s) next

-- the memory is changed
abbrev pub changes : {M E : Type 0} → (M → M) → Acts M E (Unit {0})
changes f s = gives tt (record s { memory = f s.memory })

-- a value that is there, else a trap
abbrev pub with_some : {X M E A : Type 0} → Trap → Option X → (X → Acts M E A) → Acts M E A
with_some t None next s = traps t s
with_some t (Some x) next s = next x s

abbrev pub with_result : {X M E A : Type 0} → Result X Trap → (X → Acts M E A) → Acts M E A
with_result (Err t) next s = traps t s
with_result (Ok x) next s = next x s

-- ---- fuel

-- what follows, where a unit is left
abbrev pub with_fuel : {M E A : Type 0} → ℕ → Acts M E A → Acts M E A
with_fuel zero next s = stops ending.Fuel s
with_fuel (suc n) next s = next (record s { fuel = n })

-- a unit is spent, and then this follows
abbrev pub spends : {M E A : Type 0} → Acts M E A → Acts M E A
spends next s = with_fuel s.fuel next s
