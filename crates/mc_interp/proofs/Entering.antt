-- The steps of the entry of a call and of its end.
use Rattle.std.proofs.Common.{◌≡◌, ℕ, zero, suc, ◌+◌, ◌-◌, ◌<◌, ◌≤◌, ◌^◌, ◌⊎◌, min, Bool, List, [], ◌∷◌, length, refl, sym, ap, subst, ◌∙◌, arith, inl, inr, Option, Some, None}
use Rattle.std.specs.Prelude.{nat_le, slice_get}
use Rattle.std.proofs.lemmas.Bool.{cases_lt, le-leb, lt-leb}
use Rattle.mc_limits.specs.Limits.{most_levels, most_run_cells}
use Rattle.mc_value.specs.declared.int_type.IntType.{IntType}
use Rattle.mc_typed.specs.declared.plans.Ending.TheVariants as ending
use Rattle.mc_typed.specs.Layout.{ObjectType, cells}
use Rattle.mc_typed.specs.Levels.{limited}
use Rattle.mc_typed.specs.Sound.{Scope}
use Rattle.mc_typed.specs.Tree as t
use Rattle.mc_steps.specs.Runs.{State, Run, changes, gives, spends, stops, after}
use Rattle.mc_steps.specs.Expressions.{where_true}
use Rattle.mc_steps.specs.Statements as steps
use Rattle.mc_steps.specs.Calls.{leaves, with_room}
use Rattle.mc_probe.specs.Flat.{Flat, Does, Activation, flat}
use Rattle.mc_interp.specs.declared.store.Store.{Store}
use Rattle.mc_interp.specs.Stores.{state_of, told}
use Rattle.mc_interp.specs.Typed.{AreTyped, HasTypes, IsPlaced, Stands}
use Rattle.mc_interp.specs.Frames.{IsKept}
use Rattle.mc_interp.specs.Entries.{enters, grown, handed}
use Rattle.mc_interp.proofs.Placed.{none_some, some_eq}
use Rattle.mc_interp.proofs.Fills.{length_moved}
use Rattle.mc_interp.proofs.Inputs.{state_or}
use Rattle.mc_interp.proofs.Spent.{spent_end, spent_then}

-- ---- levels

pub levels_test : (held n more r : ℕ) → limited n ≡ more → r ≡ min (held + more) (2 ^ 32 - 1) → nat_le r most_levels ≡ nat_le (held + n) most_levels
unfolding limited
levels_test held n more r e f = go (cases_lt most_levels (held + n))
  where
    go : (most_levels < held + n) ⊎ (held + n ≤ most_levels) → nat_le r most_levels ≡ nat_le (held + n) most_levels
    go (inl l) =
        let k : most_levels < r = omega (arith, e, f, l) in
        lt-leb r most_levels k ∙ sym (lt-leb (held + n) most_levels l)
    go (inr l) =
        let k : r ≤ most_levels = omega (arith, e, f, l) in
        le-leb r most_levels k ∙ sym (le-leb (held + n) most_levels l)

pub levels_exact : (held n more r : ℕ) → limited n ≡ more → r ≡ min (held + more) (2 ^ 32 - 1) → r ≤ most_levels → r ≡ held + n
unfolding limited
levels_exact held n more r e f l = omega (arith, e, f, l)

-- ---- the entry

module _ (levels n : ℕ) (s : State Flat) (m : Store) (spent : spends {E = ℕ} (gives {A = Unit {0}} tt) s ≡ told (Some tt) m) where
  abbrev after_unit : Does ℕ
  after_unit s =
      with_room levels most_levels ending.Levels (λ s. with_room (length s.memory.cells + n) most_run_cells ending.Cells (λ s. gives (length s.memory.cells) (grown n s)) s) s

  unit_then : enters levels n s ≡ after_unit (state_of m)
  unit_then = spent_then after_unit s m spent

  pub enters_levels : most_levels < levels → enters levels n s ≡ told None (record m { ending = ending.Levels })
  enters_levels l =
      unit_then
      ∙ ap (λ b. where_true {E = ℕ} b (λ s. with_room (length s.memory.cells + n) most_run_cells ending.Cells (λ s. gives (length s.memory.cells) (grown n s)) s) (λ s. stops ending.Levels s) (state_of m))
      (lt-leb levels most_levels l)

-- ---- objects that stand somewhere, for a step that asks for an activation

abbrev pub nothing : Activation
nothing = record {
  call = λ f into passed s. gives steps.Nothing s;
  objects = [];
  base = 0;
  first = 0;
  arrays = [];
  bits = 0;
}

-- a scope whose static objects stand at two places
abbrev pub two : ObjectType → ℕ → ℕ → Scope
two u from to = record {
  functions = [];
  statics = record { object_type = u; cells = cells u; start = from } ∷ record { object_type = u; cells = cells u; start = to } ∷ [];
  objects = [];
  arrays = [];
  result = t.NoResult;
}

pub from_placed : (u : ObjectType) (from to : ℕ) → IsPlaced (two u from to) nothing from (Some u)
from_placed u from to types ok = ok.statics 0 (record { object_type = u; cells = cells u; start = from }) refl

pub to_placed : (u : ObjectType) (from to : ℕ) → IsPlaced (two u from to) nothing to (Some u)
to_placed u from to types ok = ok.statics 1 (record { object_type = u; cells = cells u; start = to }) refl

two_typed : (u : ObjectType) (from to : ℕ) (types : List IntType) → Stands types from u → Stands types to u → AreTyped (two u from to) nothing types
two_typed u from to types h k = record {
  statics = go;
  objects = λ i o e. none_some o e;
  arrays = λ i v e. none_some v e;
}
  where
    go : (i : ℕ) (o : t.Object) → slice_get (two u from to).statics i ≡ Some o → Stands types o.start o.object_type
    go zero o e = subst (λ (o : t.Object). Stands types o.start o.object_type) (some_eq (record { object_type = u; cells = cells u; start = from }) o e) h
    go (suc zero) o e = subst (λ (o : t.Object). Stands types o.start o.object_type) (some_eq (record { object_type = u; cells = cells u; start = to }) o e) k
    go (suc (suc i)) o e = none_some o e

-- what a step keeps of each activation that has its places, it keeps where the places stand
pub kept_there : (u : ObjectType) (from to : ℕ) (old new : Store) → IsKept (two u from to) nothing old new → (types : List IntType) →
    Stands types from u → Stands types to u → HasTypes types old.cells.cells → HasTypes types new.cells.cells
kept_there u from to old new k types h g has = k.typed types (two_typed u from to types h g) has

-- ---- the end

pub left_is : (into : Option ℕ) (leave : Flat → Flat) (v : steps.Given ℕ) (s : State Flat) →
    leaves flat into leave v s ≡ after (handed into v s) (λ w s. after (changes leave s) (λ _ s. gives w s))
left_is (Some q) leave steps.Nothing s = refl
left_is (Some q) leave (steps.Number v) s = refl
left_is (Some q) leave (steps.Structure p n) s = refl
left_is None leave steps.Nothing s = refl
left_is None leave (steps.Number v) s = refl
left_is None leave (steps.Structure p n) s = refl

pub enters_unspent : (levels n : ℕ) (s : State Flat) (m : Store) → spends {E = ℕ} (gives {A = Unit {0}} tt) s ≡ told None m → enters levels n s ≡ told None m
enters_unspent levels n s m h =
    spent_end (λ s. with_room levels most_levels ending.Levels (λ s. with_room (length s.memory.cells + n) most_run_cells ending.Cells (λ s. gives (length s.memory.cells) (grown n s)) s) s) s m h

-- only the test of the levels counts
pub enters_same : (a b n : ℕ) (s : State Flat) → nat_le a most_levels ≡ nat_le b most_levels → enters a n s ≡ enters b n s
enters_same a b n s e =
    ap (λ (x : Bool). spends {E = ℕ} (λ s. where_true x (λ s. with_room (length s.memory.cells + n) most_run_cells ending.Cells (λ s. gives (length s.memory.cells) (grown n s)) s) (λ s. stops ending.Levels s) s) s) e

-- ---- what a copy and a value that is put did to the rows

module _ (m n : Store) where
  cells_by : (change : Flat → Flat) → changes {E = ℕ} change (state_of m) ≡ told (Some tt) n → n.cells.cells ≡ (change (state_of m).memory).cells
  cells_by change e = sym (ap (λ (r : Run Flat ℕ (Unit {0})). (state_or (state_of m) r.out).memory.cells) e)

  pub registers_by : (change : Flat → Flat) → changes {E = ℕ} change (state_of m) ≡ told (Some tt) n → n.registers.items ≡ (change (state_of m).memory).registers
  registers_by change e = sym (ap (λ (r : Run Flat ℕ (Unit {0})). (state_or (state_of m) r.out).memory.registers) e)

  pub fuel_by : (change : Flat → Flat) → changes {E = ℕ} change (state_of m) ≡ told (Some tt) n → n.fuel ≡ m.fuel
  fuel_by change e = sym (ap (λ (r : Run Flat ℕ (Unit {0})). (state_or (state_of m) r.out).fuel) e)

  pub copied_length : (from to k : ℕ) → from + k ≤ length m.cells.cells → to + k ≤ length m.cells.cells →
      changes {E = ℕ} (flat.copy from to k) (state_of m) ≡ told (Some tt) n → length n.cells.cells ≡ length m.cells.cells
  copied_length from to k a b e = ap length (cells_by (flat.copy from to k) e) ∙ length_moved from to k m.cells.cells a b
