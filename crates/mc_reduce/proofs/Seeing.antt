-- More bits show more, and what the bits of a decision show is what its paths show.
use Rattle.std.proofs.Common.{◌≡◌, ◌+◌, ◌<◌, ℕ, zero, suc, Bool, true, false, Option, Some, None, sym, subst, arith}
use Rattle.std.specs.Prelude.{slice_get}
use Rattle.mc_cond.specs.Tree.{Tree}
use Rattle.mc_paths.specs.Paths.{count_of}
use Rattle.mc_paths.proofs.Numbers.{vector_below}
use Rattle.mc_probe.specs.Maps.{Mapped, Map}
use Rattle.report_options.specs.declared.mode.Mode.{Mode}
use Rattle.mc_oblige.specs.declared.obligation.ObligationId.{ObligationId}
use Rattle.mc_oblige.specs.declared.obligation.ObligationId.TheVariants.{Entry, Exit, Statement, Label, Outcome, Condition}
use Rattle.mc_oblige.specs.steps.Table.{HasOutcome}
use Rattle.mc_reduce.specs.steps.Bits.{SeesOutcome, SeesPair, OfDecision, See, HasOutcomeOn, HasPairOn, ShowAt}
use Rattle.mc_reduce.proofs.Positions.{id_of}

module _ (on also : ℕ → Type 0) (more : (b : ℕ) → on b → also b) where
  outcome_too : (outcome : Bool) (d : Option Mapped) → OfDecision on (SeesOutcome on outcome) d → OfDecision also (SeesOutcome also outcome) d
  outcome_too outcome None h = absurd h
  outcome_too outcome (Some m) h = record { path = h.path; has = h.has; is_seen = more (m.base + h.path) h.is_seen }

  pair_too : (mode : Mode) (k : ℕ) (d : Option Mapped) → OfDecision on (SeesPair on mode k) d → OfDecision also (SeesPair also mode k) d
  pair_too mode k None h = absurd h
  pair_too mode k (Some m) h = record {
    first = h.first;
    second = h.second;
    first_seen = more (m.base + h.first) h.first_seen;
    second_seen = more (m.base + h.second) h.second_seen;
    paired = h.paired;
  }

  pub see_too : (m : Map) (mode : Mode) (id : ObligationId) → See on m mode id → See also m mode id
  see_too m mode (Entry f) h = more _ h
  see_too m mode (Exit k) h = more _ h
  see_too m mode (Statement k) h = more _ h
  see_too m mode (Label k) h = more _ h
  see_too m mode (Outcome d outcome) h = outcome_too outcome (slice_get m.decisions d) h
  see_too m mode (Condition d k) h = pair_too mode k (slice_get m.decisions d) h

-- the same of paths, of which only those of the decision count
module _ (on also : ℕ → Type 0) (mode : Mode) (tree : Tree) (more : (p : ℕ) → p < count_of tree → on p → also p) where
  has_below : (outcome : Bool) (path : ℕ) → HasOutcome tree outcome path → path < count_of tree
  has_below outcome path h =
      let below = vector_below tree h.vector h.is_path.vector in
      let number = h.is_path.number in
      omega (arith, below, number)

  outcome_on : (outcome : Bool) → HasOutcomeOn on tree outcome → HasOutcomeOn also tree outcome
  outcome_on outcome h = record { path = h.path; is_on = more h.path (has_below outcome h.path h.has) h.is_on; has = h.has }

  pair_on : (k : ℕ) → HasPairOn on mode tree k → HasPairOn also mode tree k
  pair_on k h =
      let below = vector_below tree h.paired.v h.paired.first_path.vector in
      let number = h.paired.first_path.number in
      let low = vector_below tree h.paired.w h.paired.second_path.vector in
      let count = h.paired.second_path.number in
      record {
        first = h.first;
        second = h.second;
        first_on = more h.first (omega (arith, below, number)) h.first_on;
        second_on = more h.second (omega (arith, low, count)) h.second_on;
        paired = h.paired;
      }

  pub show_too : (at : ℕ) → ShowAt on mode tree at → ShowAt also mode tree at
  show_too zero h = outcome_on true h
  show_too (suc zero) h = outcome_on false h
  show_too (suc (suc k)) h = pair_on k h

-- ---- the bits of a decision

module _ (on : ℕ → Type 0) (m : Map) (mode : Mode) (d : ℕ) (mapped : Mapped) (known : slice_get m.decisions d ≡ Some mapped) where
  abbrev along : ℕ → Type 0
  along p = on (mapped.base + p)

  abbrev Sees : Bool → Option Mapped → Type 0
  Sees outcome o = OfDecision on (SeesOutcome on outcome) o

  abbrev Pairs : ℕ → Option Mapped → Type 0
  Pairs k o = OfDecision on (SeesPair on mode k) o

  outcome_there : (outcome : Bool) → Sees outcome (slice_get m.decisions d) → HasOutcomeOn along mapped.decision.tree outcome
  outcome_there outcome h =
      let own : SeesOutcome on outcome mapped = subst (Sees outcome) known h in
      record { path = own.path; is_on = own.is_seen; has = own.has }

  outcome_back : (outcome : Bool) → HasOutcomeOn along mapped.decision.tree outcome → Sees outcome (slice_get m.decisions d)
  outcome_back outcome h =
      let own : SeesOutcome on outcome mapped = record { path = h.path; has = h.has; is_seen = h.is_on } in
      subst (Sees outcome) (sym known) own

  pair_there : (k : ℕ) → Pairs k (slice_get m.decisions d) → HasPairOn along mode mapped.decision.tree k
  pair_there k h =
      let own : SeesPair on mode k mapped = subst (Pairs k) known h in
      record { first = own.first; second = own.second; first_on = own.first_seen; second_on = own.second_seen; paired = own.paired }

  pair_back : (k : ℕ) → HasPairOn along mode mapped.decision.tree k → Pairs k (slice_get m.decisions d)
  pair_back k h =
      let own : SeesPair on mode k mapped = record { first = h.first; second = h.second; first_seen = h.first_on; second_seen = h.second_on; paired = h.paired } in
      subst (Pairs k) (sym known) own

  pub shows_there : (at : ℕ) → See on m mode (id_of d at) → ShowAt along mode mapped.decision.tree at
  shows_there zero h = outcome_there true h
  shows_there (suc zero) h = outcome_there false h
  shows_there (suc (suc k)) h = pair_there k h

  pub shows_back : (at : ℕ) → ShowAt along mode mapped.decision.tree at → See on m mode (id_of d at)
  shows_back zero h = outcome_back true h
  shows_back (suc zero) h = outcome_back false h
  shows_back (suc (suc k)) h = pair_back k h
