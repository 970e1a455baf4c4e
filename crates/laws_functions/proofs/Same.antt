-- Counts and status, obligation after obligation.
use Rattle.std.proofs.Common.{◌≡◌, ◌∙◌, ◌+◌, ℕ, Bool, true, false, List, [], ◌∷◌, length, refl, ap, arith}
use Rattle.std.specs.Prelude.{◌&&◌, ◌==◌, if◌then◌else◌}
use Rattle.std.specs.List.{list_all}
use Rattle.std.proofs.lemmas.Bool.Decides.{nat_tests}
use Rattle.mc_typed.specs.declared.plans.TestState.{TestState}
use Rattle.mc_typed.specs.declared.plans.TestState.TheVariants.{Pass, Fail, Ended}
use Rattle.mc_oblige.specs.declared.obligation.ObligationId.{ObligationId}
use Rattle.mc_oblige.specs.declared.obligation.Obligation.{Obligation}
use Rattle.mc_oblige.specs.declared.verdict.Verdict.{Verdict}
use Rattle.mc_oblige.specs.declared.verdict.VerdictState.{VerdictState}
use Rattle.mc_oblige.specs.declared.verdict.VerdictState.TheVariants.{Met, Justified, Stale, Missing}
use Rattle.mc_report.specs.Counts as report
use Rattle.mc_report.specs.Report.{Report}
use Rattle.mc_report.specs.Status as report_status
use Rattle.mc_functions.specs.Kinds.{kind_of, same_kind}
use Rattle.mc_functions.specs.Counts.{counted, is_verdict}
use Rattle.mc_functions.specs.Status as status
use Rattle.laws_functions.specs.Reports.{measured}

abbrev one_if : Bool → ℕ
one_if t = if t then 1 else 0

same_verdicts : (a b : VerdictState) → is_verdict a b ≡ report.is_verdict a b
same_verdicts Met Met = refl
same_verdicts Met Justified = refl
same_verdicts Met Stale = refl
same_verdicts Met Missing = refl
same_verdicts Justified Met = refl
same_verdicts Justified Justified = refl
same_verdicts Justified Stale = refl
same_verdicts Justified Missing = refl
same_verdicts Stale Met = refl
same_verdicts Stale Justified = refl
same_verdicts Stale Stale = refl
same_verdicts Stale Missing = refl
same_verdicts Missing Met = refl
same_verdicts Missing Justified = refl
same_verdicts Missing Stale = refl
same_verdicts Missing Missing = refl

pub same_count : (kind : _) (reported : _) (asked : VerdictState) → ((id : ObligationId) → same_kind kind (kind_of id) ≡ report.is_kind reported id)
    → (os : List Obligation) (vs : List Verdict) → counted (λ o. true && same_kind kind (kind_of o.id)) asked os vs ≡ report.counted reported asked os vs
same_count kind reported asked same [] vs = refl
same_count kind reported asked same (o ∷ os) [] = refl
same_count kind reported asked same (o ∷ os) (v ∷ vs) =
    let own : one_if (same_kind kind (kind_of o.id) && is_verdict asked v.state) ≡ one_if (report.is_kind reported o.id && report.is_verdict asked v.state) =
    ap (λ (t : Bool). one_if (t && is_verdict asked v.state)) (same o.id) ∙ ap (λ (t : Bool). one_if (report.is_kind reported o.id && t)) (same_verdicts asked v.state) in
    omega (arith, own, same_count kind reported asked same os vs)

-- ---- the status

passed_too : (states : List TestState) → list_all status.passed states ≡ list_all report_status.passed states
passed_too [] = refl
passed_too (Pass ∷ states) = passed_too states
passed_too (Fail ∷ states) = refl
passed_too (Ended why ∷ states) = refl

abbrev all_of : Obligation → Bool
all_of o = true

abbrev open_in : List Obligation → List Verdict → Bool
open_in os vs = counted all_of Stale os vs == 0 && counted all_of Missing os vs == 0

more_is_not_none : (n : ℕ) → (1 + n == 0) ≡ false
more_is_not_none n = grind (arith, nat_tests)

and_false : (t : Bool) → (t && false) ≡ false
and_false true = refl
and_false false = refl

none_more : (n : ℕ) → 0 + n ≡ n
none_more n = omega arith

kept : (stale missing : ℕ) → (0 + stale == 0 && 0 + missing == 0) ≡ (stale == 0 && missing == 0)
kept stale missing = ap (λ (k : ℕ). k == 0 && 0 + missing == 0) (none_more stale) ∙ ap (λ (k : ℕ). stale == 0 && k == 0) (none_more missing)

by_state : (stale missing : ℕ) (later : Bool) → (stale == 0 && missing == 0) ≡ later → (state : VerdictState)
    → (one_if (true && is_verdict Stale state) + stale == 0 && one_if (true && is_verdict Missing state) + missing == 0) ≡ (report_status.is_settled state && later)
by_state stale missing later rest Met = kept stale missing ∙ rest
by_state stale missing later rest Justified = kept stale missing ∙ rest
by_state stale missing later rest Stale = ap (λ (t : Bool). t && 0 + missing == 0) (more_is_not_none stale)
by_state stale missing later rest Missing = ap (λ (t : Bool). 0 + stale == 0 && t) (more_is_not_none missing) ∙ and_false (0 + stale == 0)

settled_too : (os : List Obligation) (vs : List Verdict) → length vs ≡ length os → open_in os vs ≡ list_all (λ v. report_status.is_settled v.state) vs
settled_too [] [] same = refl
settled_too [] (v ∷ vs) same = absurd (omega (arith, same))
settled_too (o ∷ os) [] same = absurd (omega (arith, same))
settled_too (o ∷ os) (v ∷ vs) same =
    by_state (counted all_of Stale os vs) (counted all_of Missing os vs) (list_all (λ w. report_status.is_settled w.state) vs) (settled_too os vs (omega (arith, same))) v.state

pub same_status : (r : Report) → length r.verdicts ≡ length r.obligations → status.status_of (measured r) ≡ report_status.status_of r
same_status r same =
    ap (λ (t : Bool). if t && open_in r.obligations r.verdicts then 0 else 1) (passed_too r.states)
    ∙ ap (λ (t : Bool). if list_all report_status.passed r.states && t then 0 else 1) (settled_too r.obligations r.verdicts same)
