-- Each obligation has one evidence, and so a program one list of verdicts.
use Rattle.std.proofs.Common.{◌≡◌, ℕ, Option, Some, None, List, [], ◌∷◌, sym, ap, subst, ◌∙◌, refl, arith, inl, inr}
use Rattle.std.specs.Prelude.{suc, slice_get, Contains, is_some}
use Rattle.std.proofs.lemmas.Bool.{cases_lt}
use Rattle.mc_cond.specs.Tree.{Tree}
use Rattle.mc_steps.specs.Events.{Event}
use Rattle.mc_probe.specs.Maps.{Mapped, Map}
use Rattle.report_options.specs.declared.mode.Mode.{Mode}
use Rattle.mc_oblige.specs.declared.obligation.ObligationId.{ObligationId}
use Rattle.mc_oblige.specs.declared.obligation.ObligationId.TheVariants.{Entry, Exit, Statement, Label, Outcome, Condition}
use Rattle.mc_oblige.specs.declared.obligation.Obligation.{Obligation}
use Rattle.mc_oblige.specs.declared.justification.Justification.{Justification}
use Rattle.mc_oblige.specs.declared.verdict.Evidence.{Evidence}
use Rattle.mc_oblige.specs.declared.verdict.Evidence.TheVariants.{Absent, One, Pair}
use Rattle.mc_oblige.specs.declared.verdict.Verdict.{Verdict}
use Rattle.mc_oblige.specs.Obligations.{obligations_of}
use Rattle.mc_oblige.specs.Evidence.{IsLeast, IsShown, IsEvaluated, AreSeen, IsPair, NoPair, IsTestEvidence, IsConditionEvidence, IsEvidence}
use Rattle.mc_oblige.specs.Verdicts.{is_shown, state_of, IsVerdict, AreVerdictsFrom, AreVerdicts}

one_least : (is : ℕ → Type 0) (t u : ℕ) → IsLeast is t → IsLeast is u → t ≡ u
one_least is t u h g = elim (cases_lt t u) [
  | inl less ↦ absurd (g.none_before t less h.so)
  | inr more ↦ elim (cases_lt u t) [ inl less ↦ absurd (h.none_before u less g.so) | inr also ↦ omega arith ]
]

module _ (stands : Event → ℕ → Type 0) where
  by_test : (id : ObligationId) (e f : Evidence) → IsTestEvidence stands id e → IsTestEvidence stands id f → e ≡ f
  by_test id Absent Absent h g = refl
  by_test id Absent (One t) h g = absurd (h t g.so)
  by_test id Absent (Pair first first_test second second_test) h g = absurd g
  by_test id (One t) Absent h g = absurd (g t h.so)
  by_test id (One t) (One u) h g = ap One (one_least (IsShown stands id) t u h g)
  by_test id (One t) (Pair first first_test second second_test) h g = absurd g
  by_test id (Pair first first_test second second_test) f h g = absurd h

  module _ (mode : Mode) (d k : ℕ) (m : Mapped) where
    abbrev tree : Tree
    tree = m.decision.tree

    abbrev Is : ℕ → ℕ → ℕ → ℕ → Type 0
    Is = IsPair stands mode d k tree

    is_pair : (p s q t : ℕ) → Is p s q t → ¬ NoPair stands mode d k tree
    is_pair p s q t h none =
        let c = h.chosen.paired in
        none p q s t h.first_least.so h.second_least.so record { v = c.v; w = c.w; first_path = c.first_path; second_path = c.second_path; shown = c.shown.2 }

    moved : (ps qs : List ℕ) (p : ℕ) → AreSeen stands d tree ps → AreSeen stands d tree qs → Contains ps p → Contains qs p
    moved ps qs p h g c = (g.each p).1 ((h.each p).0 c)

    same_pair : (p s q t a b c e : ℕ) → Is p s q t → Is a b c e → Pair p s q t ≡ Pair a b c e
    same_pair p s q t a b c e h g =
        let less = h.chosen.least a c (moved g.seen h.seen a g.are_seen h.are_seen g.chosen.first_seen) (moved g.seen h.seen c g.are_seen h.are_seen g.chosen.second_seen) g.chosen.paired in
        let more = g.chosen.least p q (moved h.seen g.seen p h.are_seen g.are_seen h.chosen.first_seen) (moved h.seen g.seen q h.are_seen g.are_seen h.chosen.second_seen) h.chosen.paired in
        let first : p ≡ a = elim less [ inl l ↦ elim more [ inl n ↦ omega arith | inr n ↦ sym n.0 ] | inr l ↦ l.0 ] in
        let second : q ≡ c = elim less [
          | inl l ↦ elim more [ inl n ↦ omega arith | inr n ↦ (let same = n.0 in omega arith) ]
          | inr l ↦ elim more [ inl n ↦ (let same = l.0 in omega arith) | inr n ↦ (let x = l.1 in let y = n.1 in omega arith) ]
        ] in
        let P : ℕ → ℕ → Type 0 = λ n t. IsLeast (IsEvaluated stands d tree n) t in
        let one : s ≡ b = one_least (IsEvaluated stands d tree p) s b h.first_least (subst (λ n. P n b) (sym first) g.first_least) in
        let two : t ≡ e = one_least (IsEvaluated stands d tree q) t e h.second_least (subst (λ n. P n e) (sym second) g.second_least) in
        λ i. Pair (first i) (one i) (second i) (two i)

    by_pair : (e f : Evidence) → IsConditionEvidence stands mode d k (Some m) e → IsConditionEvidence stands mode d k (Some m) f → e ≡ f
    by_pair Absent Absent h g = refl
    by_pair Absent (One t) h g = absurd g
    by_pair Absent (Pair p s q t) h g = absurd (is_pair p s q t g h)
    by_pair (One t) f h g = absurd h
    by_pair (Pair p s q t) Absent h g = absurd (is_pair p s q t h g)
    by_pair (Pair p s q t) (One u) h g = absurd g
    by_pair (Pair p s q t) (Pair a b c e) h g = same_pair p s q t a b c e h g

  by_decision : (mode : Mode) (d k : ℕ) (o : Option Mapped) (e f : Evidence) → IsConditionEvidence stands mode d k o e → IsConditionEvidence stands mode d k o f → e ≡ f
  by_decision mode d k None e f h g = h ∙ sym g
  by_decision mode d k (Some m) e f h g = by_pair mode d k m e f h g

  one_evidence : (m : Map) (mode : Mode) (id : ObligationId) (e f : Evidence) → IsEvidence stands m mode id e → IsEvidence stands m mode id f → e ≡ f
  one_evidence m mode (Entry n) e f h g = by_test (Entry n) e f h g
  one_evidence m mode (Exit n) e f h g = by_test (Exit n) e f h g
  one_evidence m mode (Statement n) e f h g = by_test (Statement n) e f h g
  one_evidence m mode (Label n) e f h g = by_test (Label n) e f h g
  one_evidence m mode (Outcome d o) e f h g = by_test (Outcome d o) e f h g
  one_evidence m mode (Condition d k) e f h g = by_decision mode d k (slice_get m.decisions d) e f h g

  same_verdict : (v w : Verdict) → v.evidence ≡ w.evidence → v.reason ≡ w.reason → v.state ≡ w.state → v ≡ w
  same_verdict v w e r s = λ i. record { state = s i; evidence = e i; reason = r i }

  one_verdict : (m : Map) (mode : Mode) (named : List Justification) (at : ℕ) (o : Obligation) (v w : Verdict)
      → IsVerdict stands m mode named at o v → IsVerdict stands m mode named at o w → v ≡ w
  one_verdict m mode named at o v w h g =
      let e : v.evidence ≡ w.evidence = one_evidence m mode o.id v.evidence w.evidence h.evidence g.evidence in
      let r : v.reason ≡ w.reason = h.reason ∙ sym g.reason in
      let s : v.state ≡ w.state = h.state ∙ (λ i. state_of (is_shown (e i)) (is_some (r i))) ∙ sym g.state in
      same_verdict v w e r s

  one_list : (m : Map) (mode : Mode) (named : List Justification) (at : ℕ) (os : List Obligation) (vs ws : List Verdict)
      → AreVerdictsFrom stands m mode named at os vs → AreVerdictsFrom stands m mode named at os ws → vs ≡ ws
  one_list m mode named at [] vs ws h g = h ∙ sym g
  one_list m mode named at (o ∷ os) [] ws h g = absurd h
  one_list m mode named at (o ∷ os) (v ∷ vs) [] h g = absurd g
  one_list m mode named at (o ∷ os) (v ∷ vs) (w ∷ ws) h g =
      λ i. one_verdict m mode named at o v w h.0 g.0 i ∷ one_list m mode named (suc at) os vs ws h.1 g.1 i

  pub one : (m : Map) (mode : Mode) (named : List Justification) (vs ws : List Verdict) → AreVerdicts stands m mode named vs → AreVerdicts stands m mode named ws → vs ≡ ws
  one m mode named vs ws h g = one_list m mode named 0 (obligations_of m) vs ws h g
