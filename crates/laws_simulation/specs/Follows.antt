-- When a part of an instrumented program follows the same part of the program: it comes out alike,
-- and it hits the bits of what the other lists, in order.
use Rattle.std.specs.Prelude.{◌≡◌, ℕ, List, length, flat_map}
use Rattle.mc_typed.specs.Layout.{Members}
use Rattle.mc_steps.specs.Runs.{State, Out, Gave, Stopped, Run, Acts}
use Rattle.mc_steps.specs.Events.{Event}
use Rattle.mc_meaning.specs.Stores.{Store}
use Rattle.mc_probe.specs.Flat.{Flat, register}
use Rattle.laws_simulation.specs.Related.{Same}

-- ---- registers

-- each register of these has the value that it had
abbrev pub Kept : (ℕ → Type 0) → Flat → Flat → Type 0
Kept P old new = (r : ℕ) → P r → register r new ≡ register r old

abbrev pub Each : ℕ → Type 0
Each r = Unit {0}

module _ (ms : Members) (rooms : ℕ) where
  -- ---- states

  -- places and cells have the same values, and there are so many registers
  pub record AreOne (m : Store) (n : Flat) : Type 0 where
    pub same : Same ms m n.cells
    pub room : length n.registers ≡ rooms

  pub record Alike (s : State Store) (t : State Flat) : Type 0 where
    pub memory : AreOne s.memory t.memory
    pub fuel : t.fuel ≡ s.fuel
    pub inputs : t.inputs ≡ s.inputs
    pub output : t.output ≡ s.output

  -- what is told of a state in which a run stops
  pub record EndAlike (s : State Store) (t : State Flat) : Type 0 where
    pub fuel : t.fuel ≡ s.fuel
    pub output : t.output ≡ s.output

  -- ---- runs

  -- Both give values with this relation to one another and to the memory, or both stop in one way.
  abbrev pub Matches : {A B : Type 0} → (A → B → Flat → Type 0) → Out Store A → Out Flat B → Type 0
  Matches v (Gave a s) (Gave b t) = Alike s t × v a b t.memory
  Matches v (Stopped e s) (Stopped f t) = (f ≡ e) × EndAlike s t
  Matches v (Gave a s) (Stopped f t) = ⊥
  Matches v (Stopped e s) (Gave b t) = ⊥

  -- `image` has the bits of an event.
  pub record Follows {A B : Type 0} (image : Event → List ℕ) (v : A → B → Flat → Type 0)
      (plain : Run Store Event A) (run : Run Flat ℕ B) : Type 0 where
    pub told : run.events ≡ flat_map image plain.events
    pub out : Matches v plain.out run.out

  -- from each two states that are alike, with values in this relation, and these registers are kept
  abbrev pub Does : {A B : Type 0} → (Event → List ℕ) → (ℕ → Type 0) → (A → B → Type 0) →
      Acts Store Event A → Acts Flat ℕ B → Type 0
  Does image P v plain run =
      (s : State Store) (t : State Flat) → Alike s t →
      Follows image (λ a b n. Kept P t.memory n × v a b) (plain s) (run t)
