-- How the expressions of an instrumented program follow those of the program.
use Rattle.std.specs.Prelude.{◌≡◌, ℕ, suc, ◌+◌, ◌<◌, ◌≤◌, ◌%◌, ◌^◌, ◌⊎◌, ℤ, true, false, List, [], ◌∷◌, length, Some, None}
use Rattle.mc_value.specs.Arithmetic.{truth}
use Rattle.mc_cond.specs.Order.{Answer}
use Rattle.mc_typed.specs.Layout.{Members}
use Rattle.decide_rules.specs.declared.role.Role.{Role}
use Rattle.decide_rules.specs.declared.role.Role.TheVariants.{Inner, Plain}
use Rattle.mc_steps.specs.Runs.{State}
use Rattle.mc_steps.specs.Events.{Event}
use Rattle.mc_steps.specs.Expressions.{is_true}
use Rattle.mc_meaning.specs.Stores.{Store}
use Rattle.mc_meaning.specs.Within as plain
use Rattle.mc_meaning.specs.Within.{Within}
use Rattle.mc_meaning.specs.Decisions.{Judged}
use Rattle.mc_probe.specs.Flat.{Flat, Activation, register}
use Rattle.mc_probe.specs.Flat as flat
use Rattle.mc_probe.specs.Maps.{Map, image}
use Rattle.mc_probe.specs.Table.{Stand, Loose, InTree, increment_of, mapped}
use Rattle.laws_simulation.specs.Follows.{Kept, Alike, Follows}

-- the bit of an event
abbrev pub bit_of : Map → Event → List ℕ
bit_of m e = image m e ∷ []

-- what false answers add, from condition c on
abbrev pub along : (ℕ → ℕ) → ℕ → List Answer → ℕ
along adds c [] = 0
along adds c (None ∷ answers) = along adds (suc c) answers
along adds c (Some true ∷ answers) = along adds (suc c) answers
along adds c (Some false ∷ answers) = adds c + along adds (suc c) answers

-- the values of an expression that stands loose: of a test only whether it is 0 counts
abbrev pub IsValue : Role → ℤ → ℤ → Type 0
IsValue Plain x y = y ≡ x
IsValue _ x y = is_true y ≡ is_true x

-- the tree of a decision begins with a decision before the next
abbrev pub Stands : Stand → ℕ → Type 0
Stands (Loose Inner) d = ⊥
Stands (Loose role) d = Unit {0}
Stands (InTree k c) d = k < d

-- The decisions of the map from `first` on are those of the function, which has so many, and `v`
-- is its activation.
module _ (ms : Members) (rooms : ℕ) (m : Map) (first count : ℕ) (v : Activation) where
  -- A part of the function in which the next decision has the number d keeps the registers before
  -- that decision's, and those after the last decision's.
  abbrev pub Spared : ℕ → ℕ → Type 0
  Spared d r = (r < v.first + d) ⊎ (v.first + count ≤ r)

  -- with the one of decision k left out
  abbrev pub SparedBut : ℕ → ℕ → ℕ → Type 0
  SparedBut k d r = ((r < v.first + k) ⊎ (v.first + k < r)) × Spared d r

  -- In the tree of decision k so many answers, from condition c on, add to the decision's register
  -- what their edges add, and the value is 0 or 1.
  pub record Grows (k c size : ℕ) (old : Flat) (j : Judged) (y : ℤ) (new : Flat) : Type 0 where
    pub value : y ≡ truth (is_true j.value)
    pub wide : length j.answers ≡ size
    pub sum : register (v.first + k) new
        ≡ (register (v.first + k) old + along (increment_of (mapped m first k)) c j.answers)
        % 2 ^ 32

  -- how an expression follows, by how it stands
  abbrev pub Tells : Stand → ℕ → ℕ → plain.Does Judged → flat.Does ℤ → Type 0
  Tells (Loose role) d wide f g =
      (s : State Store) (t : State Flat) → Alike ms rooms s t →
      Follows ms rooms (bit_of m) (λ j y n. Kept (Spared d) t.memory n × IsValue role j.value y)
      (f s) (g t)
  Tells (InTree k c) d wide f g =
      (s : State Store) (t : State Flat) → Alike ms rooms s t →
      Follows ms rooms (bit_of m)
      (λ j y n. Kept (SparedBut k d) t.memory n × Grows k c wide t.memory j y n) (f s) (g t)
