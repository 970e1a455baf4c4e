-- Each obligation is counted once.
use Rattle.std.proofs.Common.{◌≡◌, ℕ, ◌+◌, Bool, true, false, cond, ◌&&◌, List, [], ◌∷◌, length, count_by, refl, sym, ap, ◌∙◌, arith}
use Rattle.std.proofs.lemmas.List.Sums.{sum_by-cons}
use Rattle.mc_probe.specs.Maps.{Mapped}
use Rattle.mc_oblige.specs.declared.obligation.Obligation.{Obligation}
use Rattle.mc_oblige.specs.declared.obligation.ObligationId.{ObligationId}
use Rattle.mc_oblige.specs.declared.obligation.ObligationId.TheVariants.{Entry, Exit, Statement, Label, Outcome, Condition}
use Rattle.mc_oblige.specs.declared.verdict.Verdict.{Verdict}
use Rattle.mc_oblige.specs.declared.verdict.VerdictState.{VerdictState}
use Rattle.mc_oblige.specs.declared.verdict.VerdictState.TheVariants.{Met, Justified, Stale, Missing}
use Rattle.mc_report.specs.declared.kind.Kind.{Kind}
use Rattle.mc_report.specs.declared.kind.Kind.TheVariants.{Entries, Exits, Statements, Labels, Outcomes, Conditions}
use Rattle.mc_report.specs.Counts.{counted, is_kind, is_verdict, total}
use Rattle.mc_report.specs.Report.{AreJudged}
use Rattle.laws_verdicts.specs.Counts.{CountsAddUp, KindsAddUp}

-- one where it is so
abbrev one : Bool → ℕ
one b = cond b 1 0

total_more : (kind : Kind) (o : Obligation) (os : List Obligation) → total kind (o ∷ os) ≡ one (is_kind kind o.id) + total kind os
total_more kind o os = sum_by-cons (λ x. cond (is_kind kind x.id) 1 0) o os

-- a verdict is one of four
one_of_four : (b : Bool) (s : VerdictState) → one (b && is_verdict Met s) + one (b && is_verdict Justified s) + one (b && is_verdict Stale s) + one (b && is_verdict Missing s) ≡ one b
one_of_four true Met = refl
one_of_four true Justified = refl
one_of_four true Stale = refl
one_of_four true Missing = refl
one_of_four false Met = refl
one_of_four false Justified = refl
one_of_four false Stale = refl
one_of_four false Missing = refl

abbrev four : Kind → List Obligation → List Verdict → ℕ
four kind os vs = counted kind Met os vs + counted kind Justified os vs + counted kind Stale os vs + counted kind Missing os vs

add_up : (kind : Kind) (os : List Obligation) (vs : List Verdict) → length os ≡ length vs → four kind os vs ≡ total kind os
add_up kind [] [] same = refl
add_up kind [] (v ∷ vs) same = absurd (omega (arith, same))
add_up kind (o ∷ os) [] same = absurd (omega (arith, same))
add_up kind (o ∷ os) (v ∷ vs) same =
    omega (arith, total_more kind o os, one_of_four (is_kind kind o.id) v.state, add_up kind os vs (omega (arith, same)))

pub as_many : (tests : ℕ) (decisions : List Mapped) (os : List Obligation) (vs : List Verdict) → AreJudged tests decisions os vs → length os ≡ length vs
as_many tests decisions [] [] are = refl
as_many tests decisions [] (v ∷ vs) are = absurd are
as_many tests decisions (o ∷ os) [] are = absurd are
as_many tests decisions (o ∷ os) (v ∷ vs) are = omega (arith, as_many tests decisions os vs are.1)

pub counts_add_up : CountsAddUp
counts_add_up r kind judged = add_up kind r.obligations r.verdicts (as_many (length r.names) r.decisions r.obligations r.verdicts judged)

-- an obligation is of one of six kinds
one_of_six : (id : ObligationId) → one (is_kind Entries id) + one (is_kind Exits id) + one (is_kind Statements id) + one (is_kind Labels id) + one (is_kind Outcomes id) + one (is_kind Conditions id) ≡ 1
one_of_six (Entry k) = refl
one_of_six (Exit k) = refl
one_of_six (Statement k) = refl
one_of_six (Label k) = refl
one_of_six (Outcome d outcome) = refl
one_of_six (Condition d k) = refl

pub kinds_add_up : KindsAddUp
kinds_add_up [] = refl
kinds_add_up (o ∷ os) =
    omega (
      arith,
      one_of_six o.id,
      total_more Entries o os,
      total_more Exits o os,
      total_more Statements o os,
      total_more Labels o os,
      total_more Outcomes o os,
      total_more Conditions o os,
      kinds_add_up os,
    )
