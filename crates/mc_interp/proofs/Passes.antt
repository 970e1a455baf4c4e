-- Arguments that are passed to the objects of an activation.
use Rattle.std.proofs.Common.{◌≡◌, ℕ, ◌+◌, ◌<◌, ◌≤◌, List, [], ◌∷◌, ◌++◌, length, get_or, drop, map, refl, sym, ap, subst, ◌∙◌, arith, Some}
use Rattle.std.proofs.lemmas.List.{at_drop_more, at_drop_all}
use Rattle.mc_value.specs.declared.int_type.IntType.{IntType}
use Rattle.mc_typed.specs.declared.objects.Object as code_object
use Rattle.mc_typed.specs.Layout.{ObjectType, Scalar, cells}
use Rattle.mc_typed.specs.Tree.{Object, ParameterType}
use Rattle.mc_typed.specs.Tree as t
use Rattle.mc_typed.specs.Sound.{Scope, values_of}
use Rattle.mc_typed.specs.Views as plain
use Rattle.mc_steps.specs.Runs.{State, Run, changes, gives}
use Rattle.mc_steps.specs.Calls.{Passed, Target, passed_to}
use Rattle.mc_steps.specs.Calls as steps
use Rattle.mc_probe.specs.Calls.{targets}
use Rattle.mc_probe.specs.Flat.{Activation, Flat, flat}
use Rattle.interp_words.specs.Words.{Holds}
use Rattle.mc_interp.specs.declared.store.Store.{Store}
use Rattle.mc_interp.specs.declared.values.Passed as code
use Rattle.mc_interp.specs.declared.values.Passed.TheVariants as passed
use Rattle.mc_interp.specs.Calls.{ArePassed, IsPassed}
use Rattle.mc_interp.specs.Entries.{left_after, passed_one, IsPassing, StandAll}
use Rattle.mc_interp.specs.Stores.{limits_of, passed_of, state_of, told}
use Rattle.mc_interp.specs.Typed.{HasTypes, IsPlaced, Stands}
use Rattle.mc_interp.specs.declared.values.Lent as code_lent
use Rattle.mc_interp.specs.Frames.{IsKept}
use Rattle.mc_interp.specs.Stores.{lent_of}
use Rattle.mc_interp.proofs.Inputs.{state_or}
use Rattle.mc_interp.proofs.Entering.{from_placed, kept_there, nothing, to_placed, two}

-- nothing is still to come at the end of a list
pub drop_end : {A : Type 0} (xs : List A) (i : ℕ) → length xs ≤ i → drop i xs ≡ []
drop_end {A} xs i more = at_drop_all (λ (l : List A). l) xs i more

abbrev pub places : ℕ → List code_object.Object → List (Target ℕ)
places base os = targets base (map plain.object_of os)

-- the first argument, and then the others
pub first_then : (x : code.Passed) (others : List (Passed ℕ)) (base : ℕ) (os : List code_object.Object) (memory : Flat) →
    passed_to flat (places base os) (passed_of x ∷ others) memory
    ≡ passed_to flat (places base (left_after x os)) others (passed_one (places base os) (passed_of x) memory)
first_then (passed.Number of word) [] base [] memory = refl
first_then (passed.Number of word) (y ∷ others) base [] memory = none (y ∷ others) memory
  where
    none : (ys : List (Passed ℕ)) (memory : Flat) → memory ≡ passed_to flat [] ys memory
    none [] memory = refl
    none (steps.PassedNumber v ∷ ys) memory = refl
    none (steps.PassedStructure p ∷ ys) memory = refl
    none (steps.PassedArray l ∷ ys) memory = none ys memory
first_then (passed.Number of word) others base (o ∷ os) memory = refl
first_then (passed.Structure at) [] base [] memory = refl
first_then (passed.Structure at) (y ∷ others) base [] memory = none (y ∷ others) memory
  where
    none : (ys : List (Passed ℕ)) (memory : Flat) → memory ≡ passed_to flat [] ys memory
    none [] memory = refl
    none (steps.PassedNumber v ∷ ys) memory = refl
    none (steps.PassedStructure p ∷ ys) memory = refl
    none (steps.PassedArray l ∷ ys) memory = none ys memory
first_then (passed.Structure at) others base (o ∷ os) memory = refl
first_then (passed.Array l) others base [] memory = refl
first_then (passed.Array l) others base (o ∷ os) memory = refl

-- the objects of the parameters that are left
pub stand_first : (types : List IntType) (x : code.Passed) (q : ParameterType) (qs : List ParameterType) (base : ℕ) (os : List code_object.Object) →
    IsPassed types x q → StandAll types base (values_of (q ∷ qs)) (map plain.object_of os) →
    StandAll types base (values_of (q ∷ [])) (map plain.object_of os) × StandAll types base (values_of qs) (map plain.object_of (left_after x os))
stand_first types (passed.Number of word) (t.NumberParameter a) qs base [] h s = absurd s
stand_first types (passed.Number of word) (t.NumberParameter a) qs base (o ∷ os) h s = ((s.0, s.1, tt), s.2)
stand_first types (passed.Number of word) (t.StructureParameter u) qs base os h s = absurd h
stand_first types (passed.Number of word) (t.ArrayParameter u) qs base os h s = absurd h
stand_first types (passed.Structure at) (t.NumberParameter a) qs base os h s = absurd h
stand_first types (passed.Structure at) (t.StructureParameter u) qs base [] h s = absurd s
stand_first types (passed.Structure at) (t.StructureParameter u) qs base (o ∷ os) h s = ((s.0, s.1, tt), s.2)
stand_first types (passed.Structure at) (t.ArrayParameter u) qs base os h s = absurd h
stand_first types (passed.Array l) (t.NumberParameter a) qs base os h s = absurd h
stand_first types (passed.Array l) (t.StructureParameter u) qs base os h s = absurd h
stand_first types (passed.Array l) (t.ArrayParameter u) qs base os h s = (tt, s)

-- ---- the loop of the code

-- Some arguments were passed, and the others are still to come.
pub record StillPassing (all later : List code.Passed) (objects remaining : List code_object.Object) (base : ℕ) (old m : Store) : Type 0 where
  pub passing : IsPassing later remaining base m
  pub ran : passed_to flat (places base remaining) (map passed_of later) (state_of m).memory ≡ passed_to flat (places base objects) (map passed_of all) (state_of old).memory
  pub others : record (state_of old) { memory = (state_of m).memory } ≡ state_of m
  pub typed : (types : List IntType) (qs : List ParameterType) → ArePassed types all qs → StandAll types base (values_of qs) (map plain.object_of objects) →
      (ps : List ParameterType) × ArePassed types later ps × StandAll types base (values_of ps) (map plain.object_of remaining)
      × (HasTypes types old.cells.cells → HasTypes types m.cells.cells)
  pub cells : length m.cells.cells ≡ length old.cells.cells
  pub registers : m.registers.items ≡ old.registers.items
  pub fuel : m.fuel ≡ old.fuel
  pub limits : limits_of m ≡ limits_of old

pub passing_start : (all : List code.Passed) (objects : List code_object.Object) (base : ℕ) (m : Store) → IsPassing all objects base m →
    StillPassing all all objects objects base m m
passing_start all objects base m p = record {
  passing = p;
  ran = refl;
  others = refl;
  typed = λ types qs h s. (qs, h, s, λ has. has);
  cells = refl;
  registers = refl;
  fuel = refl;
  limits = refl;
}

-- the parameter of the first argument, and those of the others
split : (types : List IntType) (x : code.Passed) (later : List code.Passed) (qs : List ParameterType) → ArePassed types (x ∷ later) qs →
    (q : ParameterType) × (ps : List ParameterType) × (qs ≡ q ∷ ps) × IsPassed types x q × ArePassed types later ps
split types x later [] h = absurd h
split types x later (q ∷ ps) h = (q, ps, refl, h.0, h.1)

pub first_passing : (x : code.Passed) (later : List code.Passed) (os : List code_object.Object) (base : ℕ) (m : Store) → IsPassing (x ∷ later) os base m →
    IsPassing (x ∷ []) os base m
first_passing x later os base m p =
    let a = split p.types x later p.parameters p.typed in
    let s = subst (λ (qs : List ParameterType). StandAll p.types base (values_of qs) (map plain.object_of os)) a.2 p.stand in
    let f = stand_first p.types x a.0 a.1 base os a.3 s in
    record { types = p.types; parameters = a.0 ∷ []; typed = (a.3, tt); stand = f.0; room = p.room; small = p.small }

pub passing_step : (all later : List code.Passed) (x : code.Passed) (objects remaining : List code_object.Object) (base : ℕ) (old m n : Store) →
    StillPassing all (x ∷ later) objects remaining base old m →
    changes {E = ℕ} (passed_one (places base remaining) (passed_of x)) (state_of m) ≡ told (Some tt) n →
    ((types : List IntType) (q : ParameterType) → IsPassed types x q → StandAll types base (values_of (q ∷ [])) (map plain.object_of remaining) →
    HasTypes types m.cells.cells → HasTypes types n.cells.cells) → length n.cells.cells ≡ length m.cells.cells → n.registers.items ≡ m.registers.items →
    n.fuel ≡ m.fuel → limits_of n ≡ limits_of m → StillPassing all later objects (left_after x remaining) base old n
passing_step all later x objects remaining base old m n h e keep c r f l =
    let p = h.passing in
    let a = split p.types x later p.parameters p.typed in
    let s = subst (λ (qs : List ParameterType). StandAll p.types base (values_of qs) (map plain.object_of remaining)) a.2 p.stand in
    let b = stand_first p.types x a.0 a.1 base remaining a.3 s in
    let state : record (state_of m) { memory = passed_one (places base remaining) (passed_of x) (state_of m).memory } ≡ state_of n =
    ap (λ (r : Run Flat ℕ (Unit {0})). state_or (state_of m) r.out) e in
    record {
      passing = record { types = p.types; parameters = a.1; typed = a.4; stand = b.1; room = c ∙ p.room; small = omega (arith, c, p.small) };
      ran =
          ap (λ (y : State Flat). passed_to flat (places base (left_after x remaining)) (map passed_of later) y.memory) (sym state)
          ∙ sym (first_then x (map passed_of later) base remaining (state_of m).memory) ∙ h.ran;
      others = ap (λ (y : State Flat). record y { memory = (state_of n).memory }) h.others ∙ ap (λ (y : State Flat). record (state_of m) { memory = y.memory }) (sym state) ∙ state;
      typed = λ types qs g z.
          let w = h.typed types qs g z in
          let a = split types x later w.0 w.1 in
          let s = subst (λ (qs : List ParameterType). StandAll types base (values_of qs) (map plain.object_of remaining)) a.2 w.2 in
          let b = stand_first types x a.0 a.1 base remaining a.3 s in
          (a.1, a.4, b.1, λ has. keep types a.0 a.3 b.0 (w.3 has));
      cells = c ∙ h.cells;
      registers = r ∙ h.registers;
      fuel = f ∙ h.fuel;
      limits = l ∙ h.limits;
    }

-- the argument of this turn
pub passing_here : (all : List code.Passed) (i : ℕ) (d : code.Passed) (objects remaining : List code_object.Object) (base : ℕ) (old m : Store) →
    i < length all → StillPassing all (drop i all) objects remaining base old m →
    StillPassing all (get_or all i d ∷ drop (i + 1) all) objects remaining base old m
passing_here all i d objects remaining base old m less h =
    subst (λ (l : List code.Passed). StillPassing all l objects remaining base old m) (at_drop_more (λ (l : List code.Passed). l) all i d less) h

pub passing_ran : (all : List code.Passed) (objects remaining : List code_object.Object) (base : ℕ) (old m : Store) →
    StillPassing all [] objects remaining base old m →
    changes {E = ℕ} (passed_to flat (places base objects) (map passed_of all)) (state_of old) ≡ told (Some tt) m
passing_ran all objects remaining base old m h =
    ap (λ (y : Flat). gives {E = ℕ} tt (record (state_of old) { memory = y })) (sym h.ran) ∙ ap (λ (y : State Flat). gives {E = ℕ} tt y) h.others

-- ---- the object of one parameter

-- an object of the type is the first of these
pub record FirstStands (types : List IntType) (u : ObjectType) (base : ℕ) (os : List code_object.Object) : Type 0 where
  pub stands : (d : code_object.Object) → Stands types (base + (get_or os 0 d).start) u
  pub cells : (d : code_object.Object) → (get_or os 0 d).cells ≡ cells u

first_stands : (types : List IntType) (u : ObjectType) (us : List ObjectType) (base : ℕ) (os : List code_object.Object) →
    StandAll types base (u ∷ us) (map plain.object_of os) → FirstStands types u base os
first_stands types u us base [] s = absurd s
first_stands types u us base (o ∷ os) s = record { stands = λ d. s.1; cells = λ d. s.0 }

number_first : (types : List IntType) (of : IntType) (word : ℕ) (q : ParameterType) (base : ℕ) (os : List code_object.Object) →
    IsPassed types (passed.Number of word) q → StandAll types base (values_of (q ∷ [])) (map plain.object_of os) →
    FirstStands types (Scalar of) base os × Holds of word
number_first types of word (t.NumberParameter a) base os h s =
    (subst (λ a. FirstStands types (Scalar a) base os) (sym h.0) (first_stands types (Scalar a) [] base os s), subst (λ a. Holds a word) (sym h.0) h.1)
number_first types of word (t.StructureParameter u) base os h s = absurd h
number_first types of word (t.ArrayParameter u) base os h s = absurd h

structure_first : (types : List IntType) (at : ℕ) (q : ParameterType) (base : ℕ) (os : List code_object.Object) →
    IsPassed types (passed.Structure at) q → StandAll types base (values_of (q ∷ [])) (map plain.object_of os) →
    (u : ObjectType) × Stands types at u × FirstStands types u base os
structure_first types at (t.NumberParameter a) base os h s = absurd h
structure_first types at (t.StructureParameter u) base os h s = (u, h, first_stands types u [] base os s)
structure_first types at (t.ArrayParameter u) base os h s = absurd h

module _ (os : List code_object.Object) (x : code_object.Object) (base : ℕ) (m n : Store) where
  pub number_typed : (of : IntType) (word : ℕ) →
      ((c : Scope) (w : Activation) → IsPlaced c w (base + (get_or os 0 x).start) (Some (Scalar of)) → IsKept c w m n) →
      (types : List IntType) (q : ParameterType) → IsPassed types (passed.Number of word) q →
      StandAll types base (values_of (q ∷ [])) (map plain.object_of os) → HasTypes types m.cells.cells → HasTypes types n.cells.cells
  number_typed of word keep types q h s has =
      let f = number_first types of word q base os h s in
      let at = base + (get_or os 0 x).start in
      let there = f.0.stands x in
      kept_there (Scalar of) at at m n (keep (two (Scalar of) at at) nothing (from_placed (Scalar of) at at)) types there there has

  pub structure_typed : (at : ℕ) (y : code_object.Object) →
      ((c : Scope) (w : Activation) (u : ObjectType) → (get_or os 0 y).cells ≡ cells u → IsPlaced c w at (Some u) →
      IsPlaced c w (base + (get_or os 0 x).start) (Some u) → IsKept c w m n) →
      (types : List IntType) (q : ParameterType) → IsPassed types (passed.Structure at) q →
      StandAll types base (values_of (q ∷ [])) (map plain.object_of os) → HasTypes types m.cells.cells → HasTypes types n.cells.cells
  structure_typed at y keep types q h s has =
      let f = structure_first types at q base os h s in
      let to = base + (get_or os 0 x).start in
      kept_there f.0 at to m n (keep (two f.0 at to) nothing f.0 (f.2.cells y) (from_placed f.0 at to) (to_placed f.0 at to)) types f.1 (f.2.stands x) has

-- ---- the arrays that are passed

abbrev pub still_lent : List code.Passed → ℕ → List code_lent.Lent → Type 0
still_lent all i arrays = map lent_of arrays ++ steps.lent_of (map passed_of (drop i all)) ≡ steps.lent_of (map passed_of all)
