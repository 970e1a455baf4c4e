-- What the parts of a statement make it do (C17 6.8).
use Rattle.std.specs.Prelude.{ℕ, zero, suc, ℤ, Bool, true, false, not, ◌||◌, if◌then◌else◌, List, [], ◌∷◌, Option, Some, None}
use Rattle.mc_value.specs.Arithmetic.{are_equal}
use Rattle.mc_typed.specs.declared.plans.Ending.TheVariants.{Fuel}
use Rattle.mc_steps.specs.Runs.{Acts, gives, stops, ◌>>=◌, spends}
use Rattle.mc_steps.specs.Expressions.{where_true}

-- what a call gives: nothing, a number, or a structure of so many cells at a place
pub data Given (P : Type 0) : Type 0 where
  Nothing : Given P
  Number : ℤ → Given P
  Structure : P → ℕ → Given P

-- how a statement ends
pub data Flow (P : Type 0) : Type 0 where
  Completed : Flow P
  Broke : Flow P
  Continued : Flow P
  Left : Given P → Flow P

-- what a statement does
abbrev pub Body : Type 0 → Type 0 → Type 0 → Type 0
Body M E P = Acts M E (Flow P)

module _ {M E P : Type 0} where
  -- ---- counted statements

  -- A unit is spent before a counted statement, and `mark` comes after its unit.
  abbrev pub counted_does : Acts M E (Unit {0}) → Body M E P → Body M E P
  counted_does mark act = spends (do
    _ ← mark
    act)

  -- what has an effect alone
  abbrev pub effect_does : Acts M E (Unit {0}) → Body M E P
  effect_does act = do
    _ ← act
    gives Completed

  -- ---- one after the other (C17 6.8p3, 6.8.2)

  -- a jump passes over what follows
  abbrev pub where_completed : Flow P → Body M E P → Body M E P
  where_completed Completed next s = next s
  where_completed flow next s = gives flow s

  abbrev pub then_does : Body M E P → Body M E P → Body M E P
  then_does act next = do
    flow ← act
    where_completed flow next

  -- ---- loops (C17 6.8.5, 6.8.6.2, 6.8.6.3)

  -- `continue` ends the body alone, `break` the loop
  abbrev pub where_loop_goes_on : Flow P → Body M E P → Body M E P
  where_loop_goes_on Completed next s = next s
  where_loop_goes_on Broke next s = gives Completed s
  where_loop_goes_on Continued next s = next s
  where_loop_goes_on (Left v) next s = gives (Left v) s

  -- a unit and the test, then the body, then the step, and so on
  abbrev pub turn : Acts M E Bool → Body M E P → Acts M E (Unit {0}) → Body M E P → Body M E P
  turn test body step again = spends (do
    goes_on ← test
    where_true goes_on (do
      flow ← body
      where_loop_goes_on flow (do
        _ ← step
        again))
        (gives Completed))

  -- so many turns at most
  abbrev pub turns : ℕ → Acts M E Bool → Body M E P → Acts M E (Unit {0}) → Body M E P
  turns zero test body step s = stops Fuel s
  turns (suc n) test body step s = turn test body step (λ s. turns n test body step s) s

  -- Each turn takes a unit, so there are no more turns than units and one.
  abbrev pub loop_does : Acts M E Bool → Body M E P → Acts M E (Unit {0}) → Body M E P
  loop_does test body step s = turns (suc s.fuel) test body step s

  -- the body once, and then as `while`
  abbrev pub do_does : Body M E P → Acts M E Bool → Body M E P
  do_does body test = do
    flow ← body
    where_loop_goes_on flow (loop_does test body (gives tt))

-- ---- switch (C17 6.8.4.2)

-- a label: `case` with its value, or `default`
abbrev pub same_label : Option ℤ → Option ℤ → Bool
same_label None None = true
same_label (Some v) (Some w) = are_equal v w
same_label l m = false

abbrev pub has_label : Option ℤ → List (Option ℤ) → Bool
has_label l [] = false
has_label l (m ∷ ms) = same_label l m || has_label l ms

-- whether the items of a body run, or are passed over up to this label
pub data Seek : Type 0 where
  Running : Seek
  For : Option ℤ → Seek

-- the label that a value leads to: its own, else `default` (C17 6.8.4.2p5)
abbrev pub sought : ℤ → List (Option ℤ) → Seek
sought v labels = if has_label (Some v) labels then For (Some v) else For None

-- neither is there
abbrev pub is_absent : ℤ → List (Option ℤ) → Bool
is_absent v labels = not (has_label (Some v) labels || has_label None labels)

-- what comes of the search at a label
abbrev pub at_label : Option ℤ → Seek → Seek
at_label l Running = Running
at_label l (For m) = if same_label l m then Running else For m

abbrev pub is_running : Seek → Bool
is_running Running = true
is_running (For l) = false

module _ {M E P : Type 0} where
  -- Where the items run from a label on, or ran before it, `mark` is told which: whether the label
  -- was chosen.
  abbrev pub label_does :
      (Bool → Acts M E (Unit {0})) → Option ℤ → Seek → (Seek → Body M E P) → Body M E P
  label_does mark l seek next s =
      where_true (is_running (at_label l seek))
      (do
        _ ← mark (not (is_running seek))
        next (at_label l seek))
      (next (at_label l seek)) s

  -- an item that is no label
  abbrev pub item_runs : Body M E P → Seek → (Seek → Body M E P) → Body M E P
  item_runs act Running next s = then_does act (λ s. next Running s) s
  item_runs act (For l) next s = next (For l) s

  -- `break` ends the switch
  abbrev pub where_switch_ends : Flow P → Acts M E (Unit {0}) → Body M E P
  where_switch_ends Completed mark s = effect_does mark s
  where_switch_ends Broke mark s = effect_does mark s
  where_switch_ends Continued mark s = gives Continued s
  where_switch_ends (Left v) mark s = gives (Left v) s

  -- After the items `mark` is told whether no label was there. Where none was, nothing ran, so this
  -- is also when the absent `default` is chosen.
  abbrev pub switch_does :
      Acts M E ℤ → List (Option ℤ) → (Seek → Body M E P) → (Bool → Acts M E (Unit {0})) →
      Body M E P
  switch_does value labels items mark = do
    v ← value
    flow ← items (sought v labels)
    where_switch_ends flow (mark (is_absent v labels))
