-- The lines of calls in which runs stopped.
use Rattle.std.specs.Prelude.{ℕ, ℤ, ◌+◌, List, [], ◌∷◌, codes, slice_get, Option}
use Rattle.std.specs.Fmt.{decimal}
use Rattle.std.specs.List.{concat}
use Rattle.interp_trail.specs.declared.stop.Stop.{Stop}
use Rattle.interp_trail.specs.declared.stop.Stop.TheVariants.{NotEntered, AfterEntry, AfterStatement, AfterExit}
use Rattle.mc_span.specs.declared.span.Span.{Span}
use Rattle.mc_typed.specs.declared.plans.Ending.{Ending}
use Rattle.mc_typed.specs.Plans.{Call}
use Rattle.report_words.specs.Words.{ending_word}
use Rattle.results_lines.specs.Calls.{call_text, given_text}
use Rattle.results_lines.specs.Sources.{Source, place_at}
use Rattle.results_lines.specs.Statements.{statement_text}
use Rattle.results_lines.specs.Words.{newline}

-- after an obligation, by its letter, its number from 1 and its place, and what became of it
abbrev pub after_text : Source → (kind : List ℕ) → List Span → ℕ → (did : List ℕ) → List ℕ
after_text s kind spans k did =
    concat (codes " after " ∷ kind ∷ decimal (k + 1) ∷ codes " " ∷ place_at s (slice_get spans k)
    ∷ did ∷ [])

abbrev pub stop_text : Source → Stop → List ℕ
stop_text s NotEntered = codes " not entered"
stop_text s (AfterEntry k) = after_text s (codes "E") s.map.entries k (codes " was entered")
stop_text s (AfterStatement k) = after_text s (codes "S") s.map.statements k (codes " began")
stop_text s (AfterExit k) = after_text s (codes "X") s.map.exits k (codes " was reached")

-- the call, how the run ended in it, what it put out before that, and where
abbrev pub stopped_line : Source → (number : ℕ) → Call → List ℤ → Ending → Stop → List ℕ
stopped_line s number call output ending stop =
    concat (call_text s number call ∷ codes " " ∷ ending_word ending ∷ given_text output
    ∷ stop_text s stop ∷ newline ∷ [])

abbrev pub statement_line : Source → Option Span → List ℕ
statement_line s span = concat (codes "    " ∷ statement_text s.text span ∷ newline ∷ [])

-- the statement after whose beginning it stopped
abbrev pub statement_lines : Source → Stop → List (List ℕ)
statement_lines s (AfterStatement k) = statement_line s (slice_get s.map.statements k) ∷ []
statement_lines s _ = []

abbrev pub stopped_lines : Source → (number : ℕ) → Call → List ℤ → Ending → Stop → List (List ℕ)
stopped_lines s number call output ending stop =
    stopped_line s number call output ending stop ∷ statement_lines s stop
