-- The status of a report is what its counts say.
use Rattle.std.proofs.Common.{◌≡◌, ℕ, ◌+◌, ◌≤◌, ◌↔◌, Bool, true, false, cond, ◌&&◌, List, [], ◌∷◌, length, refl, sym, ap, ◌∙◌, arith, true≢false}
use Rattle.std.specs.List.{list_all}
use Rattle.std.proofs.lemmas.Bool.{and_parts}
use Rattle.mc_probe.specs.Maps.{Mapped}
use Rattle.mc_oblige.specs.declared.obligation.Obligation.{Obligation}
use Rattle.mc_oblige.specs.declared.obligation.ObligationId.{ObligationId}
use Rattle.mc_oblige.specs.declared.obligation.ObligationId.TheVariants.{Entry, Exit, Statement, Label, Outcome, Condition}
use Rattle.mc_oblige.specs.declared.verdict.Verdict.{Verdict}
use Rattle.mc_oblige.specs.declared.verdict.VerdictState.{VerdictState}
use Rattle.mc_oblige.specs.declared.verdict.VerdictState.TheVariants.{Met, Justified, Stale, Missing}
use Rattle.mc_report.specs.declared.kind.Kind.{Kind}
use Rattle.mc_report.specs.declared.kind.Kind.TheVariants.{Entries, Exits, Statements, Labels, Outcomes, Conditions}
use Rattle.mc_report.specs.Counts.{counted, is_kind, is_verdict}
use Rattle.mc_report.specs.Report.{AreJudged, Report}
use Rattle.mc_report.specs.Status.{is_settled, passed, status_of}
use Rattle.laws_verdicts.proofs.Counting.{as_many}
use Rattle.laws_verdicts.specs.Counts.{IsDone, IsSettled, StatusIsCounted}

-- the kind of an obligation
abbrev kind_of : ObligationId → Kind
kind_of (Entry k) = Entries
kind_of (Exit k) = Exits
kind_of (Statement k) = Statements
kind_of (Label k) = Labels
kind_of (Outcome d outcome) = Outcomes
kind_of (Condition d k) = Conditions

is_own : (id : ObligationId) → is_kind (kind_of id) id ≡ true
is_own (Entry k) = refl
is_own (Exit k) = refl
is_own (Statement k) = refl
is_own (Label k) = refl
is_own (Outcome d outcome) = refl
is_own (Condition d k) = refl

abbrev one : Bool → ℕ
one b = cond b 1 0

-- stale or missing, of this kind
abbrev unsettled_of : Kind → ObligationId → VerdictState → ℕ
unsettled_of kind id s = one (is_kind kind id && is_verdict Stale s) + one (is_kind kind id && is_verdict Missing s)

none_unsettled : (kind : Kind) (id : ObligationId) (s : VerdictState) → is_settled s ≡ true → unsettled_of kind id s ≡ 0
none_unsettled kind id s settled = by_kind (is_kind kind id) s settled
  where
    by_kind : (b : Bool) (s : VerdictState) → is_settled s ≡ true → one (b && is_verdict Stale s) + one (b && is_verdict Missing s) ≡ 0
    by_kind true Met settled = refl
    by_kind true Justified settled = refl
    by_kind true Stale settled = absurd (true≢false (sym settled))
    by_kind true Missing settled = absurd (true≢false (sym settled))
    by_kind false s settled = refl

settled_own : (id : ObligationId) (s : VerdictState) → unsettled_of (kind_of id) id s ≡ 0 → is_settled s ≡ true
settled_own id s none = by_state s (sym (ap (λ (b : Bool). one (b && is_verdict Stale s) + one (b && is_verdict Missing s)) (is_own id)) ∙ none)
  where
    by_state : (s : VerdictState) → one (is_verdict Stale s) + one (is_verdict Missing s) ≡ 0 → is_settled s ≡ true
    by_state Met none = refl
    by_state Justified none = refl
    by_state Stale none = absurd (omega (arith, none))
    by_state Missing none = absurd (omega (arith, none))

abbrev unsettled : Kind → List Obligation → List Verdict → ℕ
unsettled kind os vs = counted kind Stale os vs + counted kind Missing os vs

settled_none : (kind : Kind) (os : List Obligation) (vs : List Verdict) → list_all (λ v. is_settled v.state) vs ≡ true → unsettled kind os vs ≡ 0
settled_none kind [] vs all = refl
settled_none kind (o ∷ os) [] all = refl
settled_none kind (o ∷ os) (v ∷ vs) all =
    let both = and_parts (is_settled v.state) (list_all (λ w. is_settled w.state) vs) all in
    omega (arith, none_unsettled kind o.id v.state both.0, settled_none kind os vs both.1)

all_settled : (os : List Obligation) (vs : List Verdict) → length os ≡ length vs → ((kind : Kind) → unsettled kind os vs ≡ 0) → list_all (λ v. is_settled v.state) vs ≡ true
all_settled os [] same none = refl
all_settled [] (v ∷ vs) same none = absurd (omega (arith, same))
all_settled (o ∷ os) (v ∷ vs) same none =
    let own : is_settled v.state ≡ true = settled_own o.id v.state (omega (arith, none (kind_of o.id))) in
    rw own (all_settled os vs (omega (arith, same)) (λ kind. omega (arith, none kind)))

-- 0 where both hold, else 1
abbrev where_both : Bool → Bool → ℕ
where_both a b = cond (a && b) 0 1

by_both : (a b : Bool) → ((where_both a b ≡ 0) ↔ ((a ≡ true) × (b ≡ true))) × (where_both a b ≤ 1)
by_both true true = (((λ e. (refl, refl)), (λ both. refl)), omega arith)
by_both true false = (((λ e. absurd (omega (arith, e))), (λ both. absurd (true≢false (sym both.1)))), omega arith)
by_both false b = (((λ e. absurd (omega (arith, e))), (λ both. absurd (true≢false (sym both.0)))), omega arith)

pub status_is_counted : StatusIsCounted
status_is_counted r judged =
    let os = r.obligations in
    let vs = r.verdicts in
    let same = as_many (length r.names) r.decisions os vs judged in
    let by = by_both (list_all passed r.states) (list_all (λ v. is_settled v.state) vs) in
    let settled : list_all (λ v. is_settled v.state) vs ≡ true → (kind : Kind) → IsSettled r kind = λ all kind.
    record { stale = omega (arith, settled_none kind os vs all); missing = omega (arith, settled_none kind os vs all) } in (
      (
        (λ zero. let both = by.0.0 zero in record { passed = both.0; settled = settled both.1 }),
        (λ done. by.0.1 (done.passed, all_settled os vs same (λ kind. let s = done.settled kind in omega (arith, s.stale, s.missing)))),
      ),
      by.1,
    )
