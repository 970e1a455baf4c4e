-- How each command ends.
use Rattle.std.proofs.Common.{◌≡◌, ◌∙◌, ◌+◌, ℕ, suc, All, Bool, true, false, ◌&&◌, if◌then◌else◌, IsTrue, List, [], ◌∷◌, length, Option, Some, None, refl, sym, ap, subst, inl, inr, arith, true≢false}
use Rattle.std.specs.Prelude.{◌==◌, is_some}
use Rattle.std.specs.List.{AllZip, list_all}
use Rattle.std.proofs.lemmas.Bool.{and_from, and_parts, eq-eqb, eqb-true}
use Rattle.std.proofs.lemmas.List.Elements.{All-cons, All-head, All-nil, All-tail}
use Rattle.mc_command.specs.Command as command
use Rattle.mc_command.specs.Command.{Action, Command, Judging, MatrixTask, SourceText, Task, Telling, command_of, file_told}
use Rattle.mc_functions.specs.Counts.{counted, is_verdict}
use Rattle.mc_functions.specs.Measured.{in_file}
use Rattle.mc_record.specs.Lines.{record_lines}
use Rattle.mc_functions.specs.Status as functions
use Rattle.mc_oblige.specs.Obligations.{obligations_of}
use Rattle.mc_oblige.specs.Shown.{HasEvent}
use Rattle.mc_oblige.specs.Verdicts.{AreVerdicts, AreVerdictsFrom}
use Rattle.report_options.specs.declared.mode.Mode.{Mode}
use Rattle.mc_probe.specs.Maps.{Map}
use Rattle.mc_steps.specs.Events.{Event}
use Rattle.mc_oblige.specs.declared.justification.Justification.{Justification}
use Rattle.mc_oblige.specs.declared.obligation.Obligation.{Obligation}
use Rattle.mc_oblige.specs.declared.verdict.Verdict.{Verdict}
use Rattle.mc_oblige.specs.declared.verdict.VerdictState.{VerdictState}
use Rattle.mc_oblige.specs.declared.verdict.VerdictState.TheVariants as verdict
use Rattle.mc_port.specs.Store.{Files}
use Rattle.mc_report.specs.Report as text
use Rattle.mc_report.specs.Status.{is_settled, passed}
use Rattle.mc_typed.specs.Plans.{Plan}
use Rattle.mc_typed.specs.declared.plans.TestState.{TestState}
use Rattle.mc_typed.specs.declared.plans.TestState.TheVariants as state
use Rattle.mutate_lines.specs.Lines.{survived_of}
use Rattle.station_replies.specs.Reply.{Reply, written}
use Rattle.station_replies.specs.declared.status.Status.TheVariants as status
use Rattle.mc_station.specs.Source.{Accepted}
use Rattle.mc_station.specs.Stages.{Tells, TellsOnMatrix, Writes}
use Rattle.mc_station.specs.Tests.{Tested, stands, states, status_where, tested_of}
use Rattle.mc_station.specs.commands.Analyse.{tested_in}
use Rattle.mc_station.specs.commands.Report.{JudgesOn, TellsOf, report}
use Rattle.laws_station.specs.Ends.{ActionEnds, AreSettled, CommandEnds, EndsAreTold, HavePassed, IsDoneWhere, IsSettled, JudgedEnds, MatrixEnds, TaskEnds}
use Rattle.laws_station.specs.Texts.{IsOfFiles, IsOfOthers}
use Rattle.laws_station.proofs.TextsOfFiles.{texts_are_of_files}

-- ---- 0 where a test holds, else 1

by_test : (b : Bool) (lines : List (List ℕ)) (r : Reply) (P : Type 0) → r ≡ written (if b then 0 else 1) lines → (b ≡ true → P) → (P → b ≡ true) → IsDoneWhere r P
by_test true lines r P is to from = inl (ap (λ (x : Reply). x.status) is, to refl)
by_test false lines r P is to from = inr (ap (λ (x : Reply). x.status) is, λ p. true≢false (sym (from p)))

-- ---- tests

abbrev IsPass : TestState → Type 0
IsPass s = s ≡ state.Pass

pass : (s : TestState) → passed s ≡ true → s ≡ state.Pass
pass state.Pass is = refl
pass state.Fail is = absurd (true≢false (sym is))
pass (state.Ended why) is = absurd (true≢false (sym is))

passes : (s : TestState) → s ≡ state.Pass → passed s ≡ true
passes s is = ap passed is

have_passed : (ss : List TestState) → list_all passed ss ≡ true → HavePassed ss
have_passed [] all = All-nil IsPass
have_passed (s ∷ ss) all =
    let both = and_parts (passed s) (list_all passed ss) all in
    All-cons IsPass s ss (pass s both.0) (have_passed ss both.1)

all_pass : (ss : List TestState) → HavePassed ss → list_all passed ss ≡ true
all_pass [] all = refl
all_pass (s ∷ ss) all = and_from (passed s) (list_all passed ss) (passes s (All-head IsPass s ss all)) (all_pass ss (All-tail IsPass s ss all))

-- both crates name the same test
same_passed : (s : TestState) → functions.passed s ≡ passed s
same_passed state.Pass = refl
same_passed state.Fail = refl
same_passed (state.Ended why) = refl

same_all : (ss : List TestState) → list_all functions.passed ss ≡ list_all passed ss
same_all [] = refl
same_all (s ∷ ss) = λ i. same_passed s i && same_all ss i

-- a status that the tests alone decide
by_tests : (ss : List TestState) (lines : List (List ℕ)) (r : Reply) → r ≡ written (status_where ss) lines → IsDoneWhere r (HavePassed ss)
by_tests ss lines r is = by_test (list_all passed ss) lines r (HavePassed ss) is (have_passed ss) (all_pass ss)

-- ---- obligations

settled : (v : Verdict) (s : VerdictState) → v.state ≡ s → is_settled s ≡ true → IsSettled v
settled v verdict.Met same is = record { shown = λ e. cc (same, e); fresh = λ e. cc (same, e) }
settled v verdict.Justified same is = record { shown = λ e. cc (same, e); fresh = λ e. cc (same, e) }
settled v verdict.Stale same is = absurd (true≢false (sym is))
settled v verdict.Missing same is = absurd (true≢false (sym is))

settles : (v : Verdict) (s : VerdictState) → v.state ≡ s → IsSettled v → is_settled s ≡ true
settles v verdict.Met same is = refl
settles v verdict.Justified same is = refl
settles v verdict.Stale same is = absurd (is.fresh same)
settles v verdict.Missing same is = absurd (is.shown same)

-- as many verdicts as obligations
abbrev AreMany : List Obligation → List Verdict → Type 0
AreMany os vs = length os ≡ length vs

as_many : (shown : Event → ℕ → Type 0) (m : Map) (mode : Mode) (js : List Justification) (at : ℕ) (os : List Obligation) (vs : List Verdict) → AreVerdictsFrom shown m mode js at os vs → AreMany os vs
as_many shown m mode js at [] vs are = ap length (sym are)
as_many shown m mode js at (o ∷ os) [] are = absurd are
as_many shown m mode js at (o ∷ os) (v ∷ vs) are = let rest : length os ≡ length vs = as_many shown m mode js (suc at) os vs are.1 in omega (arith, rest)

-- of all obligations
all_settled : (source : List ℕ) (os : List Obligation) (vs : List Verdict) → AreMany os vs → list_all (λ (v : Verdict). is_settled v.state) vs ≡ true → AreSettled source None os vs
all_settled source [] [] same all = tt
all_settled source [] (v ∷ vs) same all = absurd (omega (arith, same))
all_settled source (o ∷ os) [] same all = absurd (omega (arith, same))
all_settled source (o ∷ os) (v ∷ vs) same all =
    let both = and_parts (is_settled v.state) (list_all (λ (w : Verdict). is_settled w.state) vs) all in
    ((λ here. settled v v.state refl both.0), all_settled source os vs (omega (arith, same)) both.1)

settle_all : (source : List ℕ) (os : List Obligation) (vs : List Verdict) → AreSettled source None os vs → list_all (λ (v : Verdict). is_settled v.state) vs ≡ true
settle_all source [] [] each = refl
settle_all source [] (v ∷ vs) each = absurd each
settle_all source (o ∷ os) [] each = absurd each
settle_all source (o ∷ os) (v ∷ vs) each =
    and_from (is_settled v.state) (list_all (λ (w : Verdict). is_settled w.state) vs) (settles v v.state refl (each.0 refl)) (settle_all source os vs each.1)

-- of those that are counted
module _ (chosen : Obligation → Bool) where
  abbrev unsettled : List Obligation → List Verdict → ℕ
  unsettled os vs = counted chosen verdict.Stale os vs + counted chosen verdict.Missing os vs

  abbrev one : Bool → ℕ
  one b = if b then 1 else 0

  abbrev own : Bool → VerdictState → ℕ
  own b s = one (b && is_verdict verdict.Stale s) + one (b && is_verdict verdict.Missing s)

  own_settled : (b : Bool) (v : Verdict) (s : VerdictState) → v.state ≡ s → own b s ≡ 0 → b ≡ true → IsSettled v
  own_settled true v verdict.Met same none is = settled v verdict.Met same refl
  own_settled true v verdict.Justified same none is = settled v verdict.Justified same refl
  own_settled true v verdict.Stale same none is = absurd (omega (arith, none))
  own_settled true v verdict.Missing same none is = absurd (omega (arith, none))
  own_settled false v s same none is = absurd (true≢false (sym is))

  settled_own : (b : Bool) (v : Verdict) (s : VerdictState) → v.state ≡ s → (b ≡ true → IsSettled v) → own b s ≡ 0
  settled_own true v verdict.Met same is = refl
  settled_own true v verdict.Justified same is = refl
  settled_own true v verdict.Stale same is = absurd ((is refl).fresh same)
  settled_own true v verdict.Missing same is = absurd ((is refl).shown same)
  settled_own false v s same is = refl

  abbrev Each : List Obligation → List Verdict → Type 0
  Each os vs = AllZip (λ o v. IsTrue (chosen o) → IsSettled v) os vs

  none_unsettled : (os : List Obligation) (vs : List Verdict) → AreMany os vs → unsettled os vs ≡ 0 → Each os vs
  none_unsettled [] [] same none = tt
  none_unsettled [] (v ∷ vs) same none = absurd (omega (arith, same))
  none_unsettled (o ∷ os) [] same none = absurd (omega (arith, same))
  none_unsettled (o ∷ os) (v ∷ vs) same none =
      ((λ here. own_settled (chosen o) v v.state refl (omega (arith, none)) here), none_unsettled os vs (omega (arith, same)) (omega (arith, none)))

  unsettled_none : (os : List Obligation) (vs : List Verdict) → Each os vs → unsettled os vs ≡ 0
  unsettled_none [] [] each = refl
  unsettled_none [] (v ∷ vs) each = absurd each
  unsettled_none (o ∷ os) [] each = absurd each
  unsettled_none (o ∷ os) (v ∷ vs) each = omega (arith, settled_own (chosen o) v v.state refl each.0, unsettled_none os vs each.1)

-- two counts are 0
both_none : (stale missing : ℕ) → (stale == 0 && missing == 0) ≡ true → stale + missing ≡ 0
both_none stale missing is =
    let parts = and_parts (stale == 0) (missing == 0) is in omega (arith, eqb-true stale 0 parts.0, eqb-true missing 0 parts.1)

none_both : (stale missing : ℕ) → stale + missing ≡ 0 → (stale == 0 && missing == 0) ≡ true
none_both stale missing is = and_from (stale == 0) (missing == 0) (eq-eqb stale 0 (omega (arith, is))) (eq-eqb missing 0 (omega (arith, is)))

-- ---- commands that judge

module _ (shown : Event → ℕ → Type 0) (mode : Mode) (js : List Justification) (accepted : Accepted) (ss : List TestState) (vs : List Verdict) (are : AreVerdicts shown accepted.map mode js vs) (r : Reply) where
  abbrev os : List Obligation
  os = obligations_of accepted.map

  many : AreMany os vs
  many = as_many shown accepted.map mode js 0 os vs are

  abbrev So : Option (List ℕ) → Type 0
  So file = HavePassed ss × AreSettled accepted.source file os vs

  -- by the status of a report
  of_report : (lines : List (List ℕ)) → r ≡ written (if list_all passed ss && list_all (λ (v : Verdict). is_settled v.state) vs then 0 else 1) lines → IsDoneWhere r (So None)
  of_report lines is =
      by_test (list_all passed ss && list_all (λ (v : Verdict). is_settled v.state) vs) lines r (So None) is
      (λ both. let parts = and_parts (list_all passed ss) (list_all (λ (v : Verdict). is_settled v.state) vs) both in (have_passed ss parts.0, all_settled accepted.source os vs many parts.1))
      (λ so. and_from (list_all passed ss) (list_all (λ (v : Verdict). is_settled v.state) vs) (all_pass ss so.0) (settle_all accepted.source os vs so.1))

  -- by that of counts
  of_counts : (file : Option (List ℕ)) (lines : List (List ℕ))
      → r ≡ written (if list_all functions.passed ss && (counted (λ o. in_file accepted.source file o.span.start) verdict.Stale os vs == 0 && counted (λ o. in_file accepted.source file o.span.start) verdict.Missing os vs == 0) then 0 else 1) lines
      → IsDoneWhere r (So file)
  of_counts file lines is =
      let chosen : Obligation → Bool = λ o. in_file accepted.source file o.span.start in
      let stale : ℕ = counted chosen verdict.Stale os vs in
      let missing : ℕ = counted chosen verdict.Missing os vs in
      by_test (list_all functions.passed ss && (stale == 0 && missing == 0)) lines r (So file) is
      (λ both. let parts = and_parts (list_all functions.passed ss) (stale == 0 && missing == 0) both in
      (have_passed ss (sym (same_all ss) ∙ parts.0), none_unsettled chosen os vs many (both_none stale missing parts.1)))
      (λ so. and_from (list_all functions.passed ss) (stale == 0 && missing == 0) (same_all ss ∙ all_pass ss so.0) (none_both stale missing (unsettled_none chosen os vs so.1)))

judged : (shown : Event → ℕ → Type 0) (judging : Judging) (accepted : Accepted) (tests : Tested) (js : List Justification) (r : Reply) → JudgesOn shown judging accepted tests js r → JudgedEnds shown judging accepted tests.states js r
judged shown judging accepted tests js r (made, (vs, are, is), tells) =
    (vs, are, told judging.telling (subst (λ (x : text.Report). TellsOf shown judging.telling accepted.map x r) is tells))
  where
    told : (telling : Telling) → TellsOf shown telling accepted.map (report judging.mode accepted tests vs) r
        → IsDoneWhere r (HavePassed tests.states × AreSettled accepted.source (file_told telling) (obligations_of accepted.map) vs)
    told (command.report form) e = of_report shown judging.mode js accepted tests.states vs are r _ e
    told command.listing e = of_report shown judging.mode js accepted tests.states vs are r _ e
    told (command.functions of) e = of_counts shown judging.mode js accepted tests.states vs are r of _ e
    told (command.needs of) (tokens, needs, lexes, answer, e) = of_counts shown judging.mode js accepted tests.states vs are r of _ e

-- ---- mutants

abbrev IsNoticed : Option ℕ → Type 0
IsNoticed killer = IsTrue (is_some killer)

abbrev AreNoticed : List (Option ℕ) → Type 0
AreNoticed killers = All IsNoticed killers

none_survives : (killers : List (Option ℕ)) → survived_of killers ≡ 0 → AreNoticed killers
none_survives [] none = All-nil IsNoticed
none_survives (None ∷ killers) none = absurd (omega (arith, none))
none_survives (Some test ∷ killers) none = All-cons IsNoticed (Some test) killers refl (none_survives killers none)

survive_none : (killers : List (Option ℕ)) → AreNoticed killers → survived_of killers ≡ 0
survive_none [] all = refl
survive_none (None ∷ killers) all = absurd (true≢false (sym (All-head IsNoticed None killers all)))
survive_none (Some test ∷ killers) all = survive_none killers (All-tail IsNoticed (Some test) killers all)

by_two : (b c : Bool) (lines : List (List ℕ)) (r : Reply) (P Q : Type 0) → r ≡ written (if b then (if c then 0 else 1) else 1) lines → (b ≡ true → Q) → (Q → b ≡ true) → (c ≡ true → P) → (P → c ≡ true)
    → IsDoneWhere r (P × Q)
by_two true c lines r P Q is to_q from_q to_p from_p =
    by_test c lines r (P × Q) is (λ e. (to_p e, to_q refl)) (λ both. from_p both.0)
by_two false c lines r P Q is to_q from_q to_p from_p = inr (ap (λ (x : Reply). x.status) is, λ both. true≢false (sym (from_q both.1)))

-- ---- tasks

on_matrix : (skipped : List ℕ) (task : MatrixTask) (accepted : Accepted) (plans : List Plan) (js : List Justification) (r : Reply) → TellsOnMatrix skipped task accepted plans js r → MatrixEnds skipped task accepted plans js r
on_matrix skipped (command.judged judging) accepted plans js r tells = judged (stands skipped accepted plans) judging accepted (tested_of accepted.program plans) js r tells
on_matrix skipped command.vectors accepted plans js r (paths, are, is) = by_tests (states accepted.program plans) _ r is
on_matrix skipped command.recorded accepted plans js r (kept, of, is) =
    by_tests (states accepted.program plans) _ r (subst (λ (ss : List TestState). r ≡ written (status_where ss) (record_lines kept)) of.states is)
on_matrix skipped (command.reduced mode) accepted plans js r (kept, lost, reduced, is) = by_tests (states accepted.program plans) _ r is

on_task : (skipped : List ℕ) (task : Task) (accepted : Accepted) (plans : List Plan) (js : List Justification) (r : Reply) → Tells skipped task accepted plans js r → TaskEnds skipped task accepted plans js r
on_task skipped (command.on_matrix task) accepted plans js r tells = on_matrix skipped task accepted plans js r tells
on_task skipped (command.watched looks) accepted plans js r (counts, recorded, counted_are, so_many, is) = by_tests (states accepted.program plans) _ r is
on_task skipped command.mutated accepted plans js r (killers, are, is) =
    let ss = states accepted.program plans in (
      killers,
      are,
      by_two (survived_of killers == 0) (list_all passed ss) _ r (HavePassed ss) (AreNoticed killers) is
          (λ e. none_survives killers (eqb-true (survived_of killers) 0 e)) (λ all. eq-eqb (survived_of killers) 0 (survive_none killers all)) (have_passed ss) (all_pass ss),
    )
on_task skipped command.traced accepted plans js r is = by_tests (states accepted.program plans) _ r is

-- ---- commands

of_text : (words : SourceText) (accepted : Accepted) (r : Reply) → Writes words accepted r → r.status ≡ status.Done
of_text command.instrumented accepted r (tokens, lexes, is) = ap (λ (x : Reply). x.status) is
of_text command.adapted accepted r is = ap (λ (x : Reply). x.status) is

of_others : (skipped : List ℕ) (files : Option Files) (action : Action) (accepted : Accepted) (r : Reply) → IsOfOthers skipped files action accepted r → ActionEnds skipped files action accepted r
of_others skipped files (command.run run) accepted r (plans, js, are, tells) = (plans, js, are, on_task skipped run.task accepted plans js r tells)
of_others skipped files (command.write words) accepted r writes = of_text words accepted r writes
of_others skipped files (command.merge left right) accepted r (first, second, both, are, joined, is) = ap (λ (x : Reply). x.status) is
of_others skipped files (command.analyse kept judging) accepted r (found, js, is, are, judges) =
    (found, js, is, are, judged (HasEvent accepted.map found.matrix) judging accepted (tested_in found) js r judges)

of_files : (skipped : List ℕ) (files : Option Files) (given : Option Command) (r : Reply) → IsOfFiles skipped files given r → CommandEnds skipped files given r
of_files skipped files None r of = of
of_files skipped files (Some (command.on_source name action)) r (accepted, source, of) = (accepted, source, of_others skipped files action accepted r of)
of_files skipped files (Some (command.selfload count workers)) r (accepted, judges, (plans, read, fits, (made, on, is))) = ap (λ (x : Reply). x.status) is

pub ends_are_told : EndsAreTold
ends_are_told call asked after r leads text =
    of_files call.skipped call.files (command_of call.words) r (texts_are_of_files call asked after r leads text)
