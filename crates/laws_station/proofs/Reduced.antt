-- What the kept tests show is what all show.
use Rattle.std.proofs.Common.{◌≡◌, ◌∙◌, ◌<◌, ◌↔◌, ◌⊎◌, ℕ, zero, suc, Bool, true, false, List, [], ◌∷◌, length, map, Option, Some, None, Ok, refl, sym, ap, subst, arith, inl, inr, true≢false}
use Rattle.std.specs.Prelude.{Contains, is_some, slice_get}
use Rattle.std.proofs.lemmas.Bool.{false_from_ne_true}
use Rattle.std.proofs.lemmas.List.{length-map}
use Rattle.std.proofs.lemmas.Option.{slice_get_within}
use Rattle.mc_command.specs.Command as command
use Rattle.mc_command.specs.Command.{Judging, Telling}
use Rattle.mc_cond.specs.Tree.{Tree}
use Rattle.mc_meaning.specs.Tests.{Stands}
use Rattle.mc_oblige.specs.Evidence.{IsEvaluated, IsShown}
use Rattle.mc_oblige.specs.Obligations.{obligations_of}
use Rattle.mc_oblige.specs.Verdicts.{AreVerdictsFrom, is_shown, state_of}
use Rattle.mc_oblige.specs.declared.justification.Justification.{Justification}
use Rattle.mc_oblige.specs.declared.obligation.Obligation.{Obligation}
use Rattle.mc_oblige.specs.declared.obligation.ObligationId.{ObligationId}
use Rattle.mc_oblige.specs.declared.obligation.ObligationId.TheVariants.{Entry, Exit, Statement, Label, Outcome, Condition}
use Rattle.mc_oblige.specs.declared.verdict.Verdict.{Verdict}
use Rattle.mc_port.specs.Store.{Files}
use Rattle.mc_probe.specs.Maps.{Map, Mapped}
use Rattle.mc_reduce.specs.Kept.{AreKept}
use Rattle.mc_reduce.specs.Shown.{AreShowing, IsConditionShown, IsShownByAll, StandsKept}
use Rattle.mc_reduce.proofs.Judging.{evidence_shown}
use Rattle.mc_reduce.proofs.Keeping.{kept_show}
use Rattle.mc_report.specs.Report.{Report}
use Rattle.mc_steps.specs.Events.{Event}
use Rattle.mc_typed.specs.Plans.{Plan}
use Rattle.mc_typed.specs.Tree.{Program}
use Rattle.report_options.specs.declared.form.Form.{Form}
use Rattle.report_options.specs.declared.mode.Mode.{Mode}
use Rattle.station_replies.specs.Reply.{Reply}
use Rattle.mc_justify.specs.Justifications.{justifications_of}
use Rattle.mc_station.specs.Source.{Accepted}
use Rattle.mc_station.specs.Stages.{reasons_named}
use Rattle.mc_station.proofs.Contents.{same_bytes}
use Rattle.mc_station.specs.Tests.{names, stands, tested_of}
use Rattle.mc_station.specs.commands.Report.{IsReportOn, TellsOf}
use Rattle.laws_station.specs.Texts.{AreReasons, IsOfFiles}
use Rattle.laws_station.specs.Analysed.{text_of}
use Rattle.mc_station.specs.commands.Reduce.{reduced_lines}
use Rattle.laws_station.specs.Asking.{runs}
use Rattle.laws_station.specs.Reduced.{HasChosen, KeptShowAll, SayTheSame, chosen, states_of, with_first}
use Rattle.laws_station.proofs.Alike.{AreTestsOf, of_files, same_accepted, same_plans, tests_in}

-- ---- the events of one relation are those of another one, under other tests

module _ (here there : Event → ℕ → Type 0) (moved : (e : Event) (t : ℕ) → here e t → (u : ℕ) × there e u) where
  evaluated : (d : ℕ) (tree : Tree) (path t : ℕ) → IsEvaluated here d tree path t → (u : ℕ) × IsEvaluated there d tree path u
  evaluated d tree path t is =
      let (u, under) = moved _ t is.under in (u, record { vector = is.vector; is_path = is.is_path; under = under })

  one_event : (id : ObligationId) → (t : ℕ) × IsShown here id t → (u : ℕ) × IsShown there id u
  one_event id (t, is) = let (u, under) = moved is.event t is.under in (u, record { event = is.event; shows = is.shows; under = under })

  pair : (mode : Mode) (d k : ℕ) (m : Option Mapped) → IsConditionShown here mode d k m → IsConditionShown there mode d k m
  pair mode d k None shown = shown
  pair mode d k (Some m) shown =
      let (s, first) = evaluated d m.decision.tree shown.first shown.first_test shown.first_under in
      let (t, second) = evaluated d m.decision.tree shown.second shown.second_test shown.second_under in
      record { first = shown.first; first_test = s; second = shown.second; second_test = t; first_under = first; second_under = second; paired = shown.paired }

  showing : (m : Map) (mode : Mode) (id : ObligationId) → AreShowing here m mode id → AreShowing there m mode id
  showing m mode (Entry f) shown = one_event (Entry f) shown
  showing m mode (Exit k) shown = one_event (Exit k) shown
  showing m mode (Statement k) shown = one_event (Statement k) shown
  showing m mode (Label k) shown = one_event (Label k) shown
  showing m mode (Outcome d outcome) shown = one_event (Outcome d outcome) shown
  showing m mode (Condition d k) shown = pair mode d k (slice_get m.decisions d) shown

-- ---- chosen tests

none_in : (t : ℕ) → ¬ Contains [] t
none_in t c = absurd (let less = c.1 in omega arith)

head_in : (n : ℕ) (ns : List ℕ) → Contains (n ∷ ns) n
head_in n ns = (0, omega arith, refl)

tail_in : (n : ℕ) (ns : List ℕ) (t : ℕ) → Contains ns t → Contains (n ∷ ns) t
tail_in n ns t c = (suc c.0, (let less = c.1 in omega (arith, less)), c.2)

-- it is the first one, or one of the others
either : (n : ℕ) (ns : List ℕ) (t : ℕ) → Contains (n ∷ ns) t → (n ≡ t) ⊎ Contains ns t
either n ns t (zero, less, is) = inl is
either n ns t (suc k, less, is) = inr (k, omega (arith, less), is)

module _ (xs : List Plan) where
  -- it has one of these numbers
  abbrev IsNumbered : List ℕ → Plan → Type 0
  IsNumbered ns x = (n : ℕ) × Contains ns n × (slice_get xs n ≡ Some x)

  among : (n : ℕ) (ns : List ℕ) (x : Plan) → IsNumbered ns x → IsNumbered (n ∷ ns) x
  among n ns x (k, in_rest, there) = (k, tail_in n ns k in_rest, there)

  from_first : (n : ℕ) (ns : List ℕ) (x : Plan) (o : Option Plan) → slice_get xs n ≡ o → ((j : ℕ) → slice_get (chosen xs ns) j ≡ Some x → IsNumbered ns x)
      → (j : ℕ) → slice_get (with_first o (chosen xs ns)) j ≡ Some x → IsNumbered (n ∷ ns) x
  from_first n ns x None at rest j found = among n ns x (rest j found)
  from_first n ns x (Some y) at rest zero found = (n, head_in n ns, at ∙ found)
  from_first n ns x (Some y) at rest (suc j) found = among n ns x (rest j found)

  -- each chosen one has one of the numbers
  from_chosen : (ns : List ℕ) (i : ℕ) (x : Plan) → slice_get (chosen xs ns) i ≡ Some x → IsNumbered ns x
  from_chosen [] i x is = absurd (cc is)
  from_chosen (n ∷ ns) i x is = from_first n ns x (slice_get xs n) refl (λ j found. from_chosen ns j x found) i is

  -- and what has one of them is chosen
  to_chosen : (ns : List ℕ) (n : ℕ) (x : Plan) → Contains ns n → slice_get xs n ≡ Some x → (i : ℕ) × (slice_get (chosen xs ns) i ≡ Some x)
  to_chosen [] n x c at = absurd (none_in n c)
  to_chosen (m ∷ ns) n x c at = elim (either m ns n c) [
    | inl same ↦ first (slice_get xs m) (ap (slice_get xs) same ∙ at)
    | inr rest ↦ later (slice_get xs m) (to_chosen ns n x rest at)
  ]
    where
      first : (o : Option Plan) → o ≡ Some x → (i : ℕ) × (slice_get (with_first o (chosen xs ns)) i ≡ Some x)
      first None is = absurd (cc is)
      first (Some y) is = (0, is)

      later : (o : Option Plan) → (i : ℕ) × (slice_get (chosen xs ns) i ≡ Some x) → (i : ℕ) × (slice_get (with_first o (chosen xs ns)) i ≡ Some x)
      later None (i, is) = (i, is)
      later (Some y) (i, is) = (suc i, is)

-- ---- what they show

module _ (p : Program) (plans : List Plan) (kept : List ℕ) where
  abbrev OnAll : Event → ℕ → Type 0
  OnAll = Stands [] p plans

  abbrev OnFew : Event → ℕ → Type 0
  OnFew = Stands [] p (chosen plans kept)

  abbrev OfKept : Event → ℕ → Type 0
  OfKept = StandsKept OnAll (Contains kept)

  to_kept : (e : Event) (t : ℕ) → OnFew e t → (u : ℕ) × OfKept e u
  to_kept e t is =
      let (n, among, planned) = from_chosen plans kept t is.plan is.planned in
      (n, record { is_kept = among; under = record { plan = is.plan; planned = planned; happened = is.happened; kept = none_in n } })

  of_kept : (e : Event) (t : ℕ) → OfKept e t → (u : ℕ) × OnFew e u
  of_kept e t is =
      let s = is.under in
      let (i, planned) = to_chosen plans kept t s.plan is.is_kept s.planned in
      (i, record { plan = s.plan; planned = planned; happened = s.happened; kept = none_in i })

  -- an obligation is shown by the chosen tests exactly where all show it
  module _ (m : Map) (mode : Mode) (are : AreKept OnAll m mode (length plans) kept) where
    within : (e : Event) (t : ℕ) → OnAll e t → t < length plans
    within e t is = slice_get_within plans t is.plan is.planned

    same_shown : (o : Obligation) → Contains (obligations_of m) o → IsShownByAll OnFew m mode o.id ↔ IsShownByAll OnAll m mode o.id
    same_shown o among =
        let keeps = kept_show OnAll m mode (length plans) kept within are o among in (
          (λ few. keeps.1 (showing OnFew OfKept to_kept m mode o.id few)),
          (λ all. showing OfKept OnFew of_kept m mode o.id (keeps.0 all)),
        )

    same_test : (a b : Bool) → ((a ≡ true) ↔ (b ≡ true)) → a ≡ b
    same_test true b same = sym (same.0 refl)
    same_test false b same = sym (false_from_ne_true b (λ e. true≢false (sym (same.1 e))))

    -- so each verdict is the same
    same_states : (js : List Justification) (at : ℕ) (os : List Obligation) (vs ws : List Verdict) → ((o : Obligation) → Contains os o → Contains (obligations_of m) o)
        → AreVerdictsFrom OnAll m mode js at os vs → AreVerdictsFrom OnFew m mode js at os ws → map (λ (v : Verdict). v.state) vs ≡ map (λ (v : Verdict). v.state) ws
    same_states js at [] vs ws among are_vs are_ws = ap (map (λ (v : Verdict). v.state)) (are_vs ∙ sym are_ws)
    same_states js at (o ∷ os) [] ws among are_vs are_ws = absurd are_vs
    same_states js at (o ∷ os) (v ∷ vs) [] among are_vs are_ws = absurd are_ws
    same_states js at (o ∷ os) (v ∷ vs) (w ∷ ws) among are_vs are_ws =
        let first = are_vs.0 in
        let second = are_ws.0 in
        let on_all = evidence_shown OnAll m mode o.id v.evidence first.evidence in
        let on_few = evidence_shown OnFew m mode o.id w.evidence second.evidence in
        let both = same_shown o (among o (0, omega arith, refl)) in
        let shown : is_shown v.evidence ≡ is_shown w.evidence = same_test (is_shown v.evidence) (is_shown w.evidence)
        ((λ e. on_few.0 (both.1 (on_all.1 e))), (λ e. on_all.0 (both.0 (on_few.1 e)))) in
        let reason : is_some v.reason ≡ is_some w.reason = ap is_some (first.reason ∙ sym second.reason) in
        let state : v.state ≡ w.state = first.state ∙ (λ i. state_of (shown i) (reason i)) ∙ sym second.state in
        let rest = same_states js (suc at) os vs ws (λ x c. among x (suc c.0, (let less = c.1 in omega (arith, less)), c.2)) are_vs.1 are_ws.1 in
        λ i. state i ∷ rest i

-- ---- two reports

same_reasons : (files : Files) (name : Option (List ℕ)) (a : Accepted) (js ks : List Justification) → AreReasons (Some files) name a js → AreReasons (Some files) name a ks → js ≡ ks
same_reasons files None a js ks one other = one ∙ sym other
same_reasons files (Some name) a js ks (bytes, holds, judges) (text, also, others) =
    let same : bytes ≡ text = same_bytes files (reasons_named name) bytes text holds also in
    cc (subst (λ (s : List ℕ). justifications_of s (obligations_of a.map) a.source ≡ Ok js) same judges, others)

module _ (a : Accepted) (judging : Judging) (form : Form) (js : List Justification) (ps : List Plan) (kept : List ℕ) where
  say_the_same : (r q : Report) → AreKept (stands [] a ps) a.map judging.mode (length ps) kept → IsReportOn (stands [] a ps) judging.mode a (tested_of a.program ps) js r
      → IsReportOn (stands [] a (chosen ps kept)) judging.mode a (tested_of a.program (chosen ps kept)) js q → SayTheSame r q
  say_the_same r q are (vs, are_vs, r_is) (ws, are_ws, q_is) = record {
    obligations = ap (λ (x : Report). x.obligations) r_is ∙ sym (ap (λ (x : Report). x.obligations) q_is);
    states =
        ap states_of r_is ∙ same_states a.program ps kept a.map judging.mode are js 0 (obligations_of a.map) vs ws (λ o c. c) are_vs are_ws
        ∙ sym (ap states_of q_is);
  }

module _ (files : Files) (source tests few : List ℕ) (fuel workers others more : ℕ) (judging : Judging) (form : Form) (s t u : Reply) (tells : judging.telling ≡ command.report form) where
  abbrev run_for : (tests : List ℕ) (n : ℕ) → command.MatrixTask → command.Action
  run_for name n task = command.run (record { tests = name; workers = n; fuel = fuel; task = command.on_matrix task })

  abbrev OfFiles : command.Command → Reply → Type 0
  OfFiles given r = IsOfFiles [] (Some files) (Some given) r

  abbrev ShowAll : Type 0
  ShowAll =
      (names : List (List ℕ)) × (os : List Obligation) × (kept : List ℕ) × (lost : List ℕ)
      × (s.out ≡ reduced_lines names os kept lost)
      × (HasChosen files tests few kept → (r : Report) × (q : Report) × (t ≡ text_of form r) × (u ≡ text_of form q) × SayTheSame r q)

  from_all : OfFiles (runs source tests workers fuel (command.reduced judging.mode)) s → OfFiles (runs source tests others fuel (command.judged judging)) t → OfFiles (runs source few more fuel (command.judged judging)) u → ShowAll
  from_all (a, source_a, (ps, none, are_reduce, (kept, lost, reduced, s_is))) (b, source_b, (qs, js, are_report, (r, made_b, text_b))) (c, source_c, (ws, ks, are_again, (q, made_c, text_c))) =
      let first : command.Action = run_for tests workers (command.reduced judging.mode) in
      let b_is : b ≡ a = same_accepted files source (run_for tests others (command.judged judging)) first b a refl refl source_b source_a in
      let c_is : c ≡ a = same_accepted files source (run_for few more (command.judged judging)) first c a refl refl source_c source_a in
      let tests_b : AreTestsOf files tests fuel a qs = subst (λ (x : Accepted). AreTestsOf files tests fuel x qs) b_is are_report.tests in
      let qs_is : qs ≡ ps = same_plans files tests fuel a qs ps tests_b are_reduce.tests in
      let made_r : IsReportOn (stands [] a qs) judging.mode a (tested_of a.program qs) js r = subst (λ (x : Accepted). IsReportOn (stands [] x qs) judging.mode x (tested_of x.program qs) js r) b_is made_b in
      let made : IsReportOn (stands [] a ps) judging.mode a (tested_of a.program ps) js r = subst (λ (x : List Plan). IsReportOn (stands [] a x) judging.mode a (tested_of a.program x) js r) qs_is made_r in
      let reasons_b : AreReasons (Some files) judging.justify a js = subst (λ (x : Accepted). AreReasons (Some files) judging.justify x js) b_is are_report.reasons in
      let reasons_c : AreReasons (Some files) judging.justify a ks = subst (λ (x : Accepted). AreReasons (Some files) judging.justify x ks) c_is are_again.reasons in
      let ks_is : ks ≡ js = same_reasons files judging.justify a ks js reasons_c reasons_b in
      let made_q : IsReportOn (stands [] a ws) judging.mode a (tested_of a.program ws) ks q = subst (λ (x : Accepted). IsReportOn (stands [] x ws) judging.mode x (tested_of x.program ws) ks q) c_is made_c in
      let tests_c : AreTestsOf files few fuel a ws = subst (λ (x : Accepted). AreTestsOf files few fuel x ws) c_is are_again.tests in
      let said_t : t ≡ text_of form r = subst (λ (x : Telling). TellsOf (stands [] b qs) x b.map r t) tells text_b in
      let said_u : u ≡ text_of form q = subst (λ (x : Telling). TellsOf (stands [] c ws) x c.map q u) tells text_c in
      let count : length (names ps) ≡ length ps = length-map ps (λ plan. plan.name) in
      let are : AreKept (stands [] a ps) a.map judging.mode (length ps) kept = subst (λ (n : ℕ). AreKept (stands [] a ps) a.map judging.mode n kept) count reduced.are_kept in
      let same : HasChosen files tests few kept → (x : Report) × (y : Report) × (t ≡ text_of form x) × (u ≡ text_of form y) × SayTheSame x y = λ has.
      (let whole = tests_in files tests fuel a ps has.whole has.whole_is are_reduce.tests in
      let ws_is : ws ≡ chosen ps kept = same_plans files few fuel a ws (chosen ps kept) tests_c (has.part, has.part_is, has.each a.program fuel ps whole) in
      let over_plans : IsReportOn (stands [] a (chosen ps kept)) judging.mode a (tested_of a.program (chosen ps kept)) ks q =
      subst (λ (x : List Plan). IsReportOn (stands [] a x) judging.mode a (tested_of a.program x) ks q) ws_is made_q in
      let over : IsReportOn (stands [] a (chosen ps kept)) judging.mode a (tested_of a.program (chosen ps kept)) js q =
      subst (λ (x : List Justification). IsReportOn (stands [] a (chosen ps kept)) judging.mode a (tested_of a.program (chosen ps kept)) x q) ks_is over_plans in
      (r, q, said_t, said_u, say_the_same a judging form js ps kept r q are made over)) in
      (names ps, obligations_of a.map, kept, lost, ap (λ (x : Reply). x.out) s_is, same)

pub kept_show_all : KeptShowAll
kept_show_all files source tests few fuel workers others more judging form reducing reporting again s t u tells asks_reduce asks_report asks_again writes_reduce writes_report writes_again =
    from_all files source tests few fuel workers others more judging form s t u tells
    (of_files files [] (runs source tests workers fuel (command.reduced judging.mode)) reducing s asks_reduce writes_reduce)
    (of_files files [] (runs source tests others fuel (command.judged judging)) reporting t asks_report writes_report)
    (of_files files [] (runs source few more fuel (command.judged judging)) again u asks_again writes_again)
