-- What objects that are declared, arguments and calls do (C17 6.5.2.2, 6.7.9, 6.9.1).
use Rattle.std.specs.Prelude.{ℕ, ℤ, nat_le, List, [], ◌∷◌, Option, Some, None}
use Rattle.mc_limits.specs.Limits.{most_levels, most_run_cells}
use Rattle.mc_value.specs.declared.trap.Trap.TheVariants.{Index, NoReturn}
use Rattle.mc_typed.specs.declared.plans.Ending.{Ending}
use Rattle.mc_typed.specs.declared.plans.Ending.TheVariants as ending
use Rattle.mc_steps.specs.Runs.{Acts, gives, stops, traps, ◌>>=◌, changes, with_some, spends}
use Rattle.mc_steps.specs.Memories.{Lent, Memory}
use Rattle.mc_steps.specs.Expressions.{where_true}
use Rattle.mc_steps.specs.Statements.{Given, Nothing, Number, Structure, Flow, Left, Body}

-- an argument: its value, the temporary object that has the copy of a structure, or an array
pub data Passed (P : Type 0) : Type 0 where
  PassedNumber : ℤ → Passed P
  PassedStructure : P → Passed P
  PassedArray : Lent P → Passed P

-- an object, and its cells
pub record Target (P : Type 0) : Type 0 where
  pub place : P
  pub cells : ℕ

-- the arrays that the array parameters name, in their order (C17 6.7.6.3p7)
abbrev pub lent_of : {P : Type 0} → List (Passed P) → List (Lent P)
lent_of [] = []
lent_of (PassedArray l ∷ passed) = l ∷ lent_of passed
lent_of (_ ∷ passed) = lent_of passed

module _ {M P : Type 0} (m : Memory M P) where
  -- ---- objects that are declared

  -- An object is unset when its declaration is reached (C17 6.2.4p6), and then initialized.
  abbrev pub unset_does : {E : Type 0} → P → ℕ → Acts M E (Unit {0})
  unset_does p n s = changes (m.put p n None) s

  abbrev pub store_does : {E : Type 0} → P → Acts M E ℤ → Acts M E (Unit {0})
  store_does p value = do
    v ← value
    changes (m.put p 1 (Some v))

  abbrev pub store_structure_does : {E : Type 0} → P → ℕ → Acts M E P → Acts M E (Unit {0})
  store_structure_does p n value = do
    q ← value
    changes (m.copy q p n)

  -- ---- arguments

  -- A structure is copied when its argument is evaluated.
  abbrev pub structure_argument_does : {E : Type 0} → Target P → Acts M E P → Acts M E (Passed P)
  structure_argument_does copy value = do
    q ← value
    _ ← changes (m.copy q copy.place copy.cells)
    gives (PassedStructure copy.place)

  -- the parameters that are objects have the arguments' values (C17 6.5.2.2p4)
  abbrev pub passed_to : List (Target P) → List (Passed P) → M → M
  passed_to targets [] memory = memory
  passed_to [] (PassedNumber v ∷ passed) memory = memory
  passed_to [] (PassedStructure p ∷ passed) memory = memory
  passed_to targets (PassedArray l ∷ passed) memory = passed_to targets passed memory
  passed_to (q ∷ targets) (PassedNumber v ∷ passed) memory =
      passed_to targets passed (m.put q.place 1 (Some v) memory)
  passed_to (q ∷ targets) (PassedStructure p ∷ passed) memory =
      passed_to targets passed (m.copy p q.place q.cells memory)

  -- ---- the end of a call

  -- A structure that is returned is copied to the temporary object of the call (C17 6.2.4p8) while
  -- the objects of the function are still there.
  abbrev pub leaves : {E : Type 0} → Option P → (M → M) → Given P → Acts M E (Given P)
  leaves (Some q) leave (Structure p n) = do
    _ ← changes (m.copy p q n)
    _ ← changes leave
    gives (Structure q n)
  leaves None leave (Structure p n) = do
    _ ← changes leave
    gives Nothing
  leaves into leave Nothing = do
    _ ← changes leave
    gives Nothing
  leaves into leave (Number v) = do
    _ ← changes leave
    gives (Number v)

-- The run stops where a number would pass its limit.
abbrev pub with_room : {M E A : Type 0} → ℕ → ℕ → Ending → Acts M E A → Acts M E A
with_room n limit e next s = where_true (nat_le n limit) next (λ s. stops e s) s

module _ {M E P : Type 0} where
  abbrev pub again_argument_does : Option (Lent P) → Acts M E (Passed P)
  again_argument_does lent s = with_some Index lent (λ l s. gives (PassedArray l) s) s

  -- the first argument, and then the others
  abbrev pub arguments_do :
      Acts M E (Passed P) → Acts M E (List (Passed P)) → Acts M E (List (Passed P))
  arguments_do first others = do
    x ← first
    xs ← others
    gives (x ∷ xs)

  -- ---- calls

  -- a body that completes gives nothing, and its closing brace is an exit
  abbrev pub where_left : Flow P → Acts M E (Unit {0}) → Acts M E (Given P)
  where_left (Left v) closing s = gives v s
  where_left _ closing s = (closing >>= λ _. gives Nothing) s

  -- the parameters and the other objects, then the entry, then the body
  abbrev pub body_does :
      (M → M) → Acts M E (Unit {0}) → Body M E P → Acts M E (Unit {0}) →
      (Given P → Acts M E (Given P)) → Acts M E (Given P)
  body_does enter entry body closing leave = do
    _ ← changes enter
    _ ← entry
    flow ← body
    v ← where_left flow closing
    leave v

  -- After the arguments: a unit, then the levels and then the cells of all open activations with
  -- this one, then what is done in it.
  abbrev pub call_does : ℕ → ℕ → Acts M E (Given P) → Acts M E (Given P)
  call_does levels cells inside s =
      spends (with_room levels most_levels ending.Levels
      (with_room cells most_run_cells ending.Cells inside)) s

  -- the value is used (C17 6.9.1p12)
  abbrev pub number_given : Given P → Acts M E ℤ
  number_given (Number v) s = gives v s
  number_given _ s = traps NoReturn s

  abbrev pub structure_given : Given P → Acts M E P
  structure_given (Structure p n) s = gives p s
  structure_given _ s = traps NoReturn s
