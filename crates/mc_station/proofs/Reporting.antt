-- A command that judges the obligations has one reply, which is an answer.
use Rattle.std.proofs.Common.{◌≡◌, ◌↔◌, ◌∙◌, ◌∷◌, ℕ, List, None, length, sym, ap, subst}
use Rattle.std.specs.List.{concat}
use Rattle.mc_command.specs.Command as command
use Rattle.mc_command.specs.Command.{Telling}
use Rattle.report_options.specs.declared.mode.Mode.{Mode}
use Rattle.mc_lex.specs.declared.token.Dialect.TheVariants.{Plain}
use Rattle.mc_lex.proofs.Scanning.{one_scan}
use Rattle.mc_steps.specs.Events.{Event}
use Rattle.mc_probe.specs.Maps.{Map}
use Rattle.mc_functions.specs.Status.{status_of as functions_status}
use Rattle.needed_paths.specs.Needs.{Needs}
use Rattle.mc_needs.proofs.One.{one_answer}
use Rattle.mc_needs.proofs.Alike.{alike}
use Rattle.mc_functions.specs.Asked.{asked_in, needs_sums}
use Rattle.needs_lines.specs.Text.{needs_lines}
use Rattle.mc_oblige.specs.declared.justification.Justification.{Justification}
use Rattle.mc_oblige.specs.declared.verdict.Verdict.{Verdict}
use Rattle.mc_oblige.proofs.Alike.{same_verdicts}
use Rattle.mc_oblige.proofs.Single.{one}
use Rattle.mc_report.specs.Report as text
use Rattle.mc_report.specs.Report.{IsReport}
use Rattle.mc_report.proofs.Turns.{judged_length}
use Rattle.station_replies.specs.Reply.{Reply, written}
use Rattle.mc_station.specs.Laws.{IsLater}
use Rattle.mc_station.specs.Source.{Accepted}
use Rattle.mc_station.specs.Tests.{Tested}
use Rattle.mc_station.specs.commands.Report.{IsReportOn, JudgesOn, TellsOf, measured, needs_told, report}
use Rattle.mc_station.proofs.Written.{written_later}

-- there is one report on the events that are shown
pub one_made : (shown : Event → ℕ → Type 0) (mode : Mode) (accepted : Accepted) (tests : Tested) (js : List Justification) (r q : text.Report)
    → IsReportOn shown mode accepted tests js r → IsReportOn shown mode accepted tests js q → r ≡ q
one_made shown mode accepted tests js r q (verdicts, are, is) (others, also, other) =
    let same : verdicts ≡ others = one shown accepted.map mode js verdicts others are also in
    is ∙ ap (λ (vs : List Verdict). report mode accepted tests vs) same ∙ sym other

-- the events of another relation are the same
pub also_made : (shown stand : Event → ℕ → Type 0) (mode : Mode) (accepted : Accepted) (tests : Tested) (js : List Justification) (r : text.Report) → ((e : Event) (t : ℕ) → shown e t ↔ stand e t)
    → IsReportOn shown mode accepted tests js r → IsReportOn stand mode accepted tests js r
also_made shown stand mode accepted tests js r same (verdicts, are, is) = (verdicts, same_verdicts shown stand same accepted.map mode js verdicts are, is)

-- a report has a verdict for each obligation
pub as_many_verdicts : (r : text.Report) → IsReport r → length r.obligations ≡ length r.verdicts
as_many_verdicts r whole = sym (judged_length (length r.names) r.decisions r.obligations r.verdicts whole.judged)

-- a text that is written whole
pub record IsWritten (r : Reply) : Type 0 where
  pub number : ℕ
  pub lines : List (List ℕ)
  pub is : r ≡ written number lines

pub told_whole : (shown : Event → ℕ → Type 0) (telling : Telling) (m : Map) (made : text.Report) (r : Reply) → TellsOf shown telling m made r → IsWritten r
told_whole shown (command.report form) m made r is = record { number = _; lines = _; is = is }
told_whole shown command.listing m made r is = record { number = _; lines = _; is = is }
told_whole shown (command.functions of) m made r is = record { number = _; lines = _; is = is }
told_whole shown (command.needs of) m made r (tokens, needs, lexes, are, is) = record { number = _; lines = _; is = is }

-- one reply tells of a report
one_told : (shown : Event → ℕ → Type 0) (telling : Telling) (m : Map) (made : text.Report) (r q : Reply) → TellsOf shown telling m made r → TellsOf shown telling m made q → r ≡ q
one_told shown (command.report form) m made r q is also = is ∙ sym also
one_told shown command.listing m made r q is also = is ∙ sym also
one_told shown (command.functions of) m made r q is also = is ∙ sym also
one_told shown (command.needs of) m made r q (tokens, needs, lexes, are, is) (others, also, scans, these, other) =
    let parts = measured of made in
    let same_tokens : tokens ≡ others = (one_scan Plain made.source tokens others None None lexes scans).0 in
    let same_needs : needs ≡ also = one_answer shown m made.mode (asked_in parts) needs also are these in
    is ∙ (λ i. written (functions_status parts) (concat (needs_lines (needs_told (same_tokens i) m parts made.names (same_needs i))) ∷ needs_sums parts (length (same_needs i).wanted))) ∙ sym other

also_told : (shown stand : Event → ℕ → Type 0) (telling : Telling) (m : Map) (made : text.Report) (r : Reply) → ((e : Event) (t : ℕ) → shown e t ↔ stand e t)
    → TellsOf shown telling m made r → TellsOf stand telling m made r
also_told shown stand (command.report form) m made r same is = is
also_told shown stand command.listing m made r same is = is
also_told shown stand (command.functions of) m made r same is = is
also_told shown stand (command.needs of) m made r same (tokens, needs, lexes, are, is) = (tokens, needs, lexes, alike shown stand same m made.mode (asked_in (measured of made)) needs are, is)

module _ (shown : Event → ℕ → Type 0) (asked : command.Judging) (accepted : Accepted) (tests : Tested) (js : List Justification) where
  pub one_judged : (r q : Reply) → JudgesOn shown asked accepted tests js r → JudgesOn shown asked accepted tests js q → r ≡ q
  one_judged r q (made, on, tells) (other, also, others) =
      let same : other ≡ made = one_made shown asked.mode accepted tests js other made also on in
      one_told shown asked.telling accepted.map made r q tells (subst (λ (t : text.Report). TellsOf shown asked.telling accepted.map t q) same others)

  pub judged_whole : (r : Reply) → JudgesOn shown asked accepted tests js r → IsWritten r
  judged_whole r (made, on, tells) = told_whole shown asked.telling accepted.map made r tells

  pub judged_keeps : (r : Reply) → JudgesOn shown asked accepted tests js r → IsLater r
  judged_keeps r judges = let whole : IsWritten r = judged_whole r judges in subst IsLater (sym whole.is) (written_later whole.number whole.lines)

  pub also_judges : (stand : Event → ℕ → Type 0) (r : Reply) → ((e : Event) (t : ℕ) → shown e t ↔ stand e t)
      → JudgesOn shown asked accepted tests js r → JudgesOn stand asked accepted tests js r
  also_judges stand r same (made, on, tells) = (made, also_made shown stand asked.mode accepted tests js made same on, also_told shown stand asked.telling accepted.map made r same tells)
