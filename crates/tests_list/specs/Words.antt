-- Listings written shortly.
use Rattle.std.specs.Prelude.{◌≡◌, ℕ, List, map, None}
use Rattle.mc_oblige.specs.declared.obligation.Obligation.{Obligation}
use Rattle.mc_oblige.specs.declared.obligation.ObligationId.TheVariants.{Entry}
use Rattle.mc_oblige.specs.declared.verdict.Evidence.TheVariants.{Absent}
use Rattle.mc_oblige.specs.declared.verdict.Verdict.{Verdict}
use Rattle.mc_oblige.specs.declared.verdict.VerdictState.{VerdictState}
use Rattle.mc_list.specs.Listing.{listing}

-- an obligation that starts at this byte; no more of it plays a part
abbrev pub at : ℕ → Obligation
at start = record { id = Entry 0; span = record { start = start; end = start } }

abbrev pub judged : VerdictState → Verdict
judged state = record { state = state; evidence = Absent; reason = None }

-- the listing of a source, with verdicts on what starts at these bytes
abbrev pub IsListed : List ℕ → List (ℕ × VerdictState) → List ℕ → Type 0
IsListed source found text =
    listing source (map (λ f. at f.0) found) (map (λ f. judged f.1) found) ≡ text
