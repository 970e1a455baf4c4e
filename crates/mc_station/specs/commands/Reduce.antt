-- The command `reduce`: tests that show what all of them show, and what each of them is kept for.
use Rattle.std.specs.Prelude.{◌≡◌, ℕ, Option, Some, None, List, [], ◌∷◌, ◌++◌, length, codes, slice_get, slice_index_or}
use Rattle.std.specs.Fmt.{decimal}
use Rattle.std.specs.List.{concat}
use Rattle.report_options.specs.declared.mode.Mode.{Mode}
use Rattle.mc_typed.specs.Plans.{Plan}
use Rattle.mc_typed.specs.declared.plans.TestState.{TestState}
use Rattle.mc_steps.specs.Events.{Event}
use Rattle.mc_oblige.specs.Ids.{id_text}
use Rattle.mc_oblige.specs.Obligations.{obligations_of}
use Rattle.mc_oblige.specs.declared.obligation.Obligation.{Obligation}
use Rattle.mc_reduce.specs.Kept.{IsReduced}
use Rattle.station_replies.specs.Reply.{Reply, written}
use Rattle.station_replies.specs.Texts.{newline}
use Rattle.mc_station.specs.Source.{Accepted}
use Rattle.mc_station.specs.Tests.{names, stands, states, status_where}

-- a test that is kept, and the first obligation that is lost without it
abbrev pub keep_line : (name id : List ℕ) → List ℕ
keep_line name id = concat (codes "keep " ∷ name ∷ codes " for " ∷ id ∷ newline ∷ [])

abbrev pub text_in : Option Obligation → List ℕ
text_in None = []
text_in (Some o) = id_text o.id

-- a line for each kept test, by its number, and the obligation at the position beside it
abbrev pub keep_lines : (names : List (List ℕ)) → List Obligation → (kept lost : List ℕ)
    → List (List ℕ)
keep_lines names os (test ∷ kept) (position ∷ lost) =
    keep_line (slice_index_or names test []) (text_in (slice_get os position))
    ∷ keep_lines names os kept lost
keep_lines names os _ _ = []

-- how many of how many tests are kept
abbrev pub kept_line : (kept tests : ℕ) → List ℕ
kept_line kept tests =
    concat (codes "kept " ∷ decimal kept ∷ codes " of " ∷ decimal tests ∷ newline ∷ [])

abbrev pub reduced_lines : (names : List (List ℕ)) → List Obligation → (kept lost : List ℕ)
    → List (List ℕ)
reduced_lines names os kept lost =
    keep_lines names os kept lost ++ kept_line (length kept) (length names) ∷ []

-- of the events that are shown, each under its test
abbrev pub ReducesOn : (shown : Event → ℕ → Type 0) → Mode → Accepted
    → (names : List (List ℕ)) → (states : List TestState) → Reply → Type 0
ReducesOn shown mode accepted names states reply =
    (kept : List ℕ) × (lost : List ℕ)
    × IsReduced shown accepted.map mode (length names) kept lost
    × (reply ≡ written (status_where states)
    (reduced_lines names (obligations_of accepted.map) kept lost))

-- of tests that were run
abbrev pub Reduces : (skipped : List ℕ) → Mode → Accepted → List Plan → Reply → Type 0
Reduces skipped mode accepted plans = ReducesOn (stands skipped accepted plans) mode accepted
    (names plans) (states accepted.program plans)
