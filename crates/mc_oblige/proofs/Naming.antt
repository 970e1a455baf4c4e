-- Verdicts after obligations are named.
use Rattle.std.proofs.Common.{◌≡◌, ◌≢◌, ℕ, ◌+◌, ◌<◌, ◌==◌, true, false, cond, List, [], ◌∷◌, ◌++◌, Some, None, length, get_or, set, drop, sym, ap, subst, ◌∙◌, refl, arith, append_assoc}
use Rattle.std.specs.Prelude.{zero, suc, map}
use Rattle.std.proofs.lemmas.List.{append-nil, drop_more}
use Rattle.mc_steps.specs.Events.{Event}
use Rattle.mc_probe.specs.Maps.{Map}
use Rattle.report_options.specs.declared.mode.Mode.{Mode}
use Rattle.mc_oblige.specs.declared.obligation.Obligation.{Obligation}
use Rattle.mc_oblige.specs.declared.justification.Justification.{Justification}
use Rattle.mc_oblige.specs.declared.verdict.Evidence.{Evidence}
use Rattle.mc_oblige.specs.declared.verdict.Verdict.{Verdict}
use Rattle.mc_oblige.specs.Verdicts.{NameEachOnce, reason_for, IsVerdict, AreVerdictsFrom}
use Rattle.mc_oblige.specs.steps.Found.{AreEvidence}
use Rattle.mc_oblige.specs.steps.Named.{unnamed, named_by, named_at, all_named}

-- ---- one more justification

pub reason_other : (at : ℕ) (xs : List Justification) (j : Justification) → j.obligation ≢ at → reason_for at (xs ++ j ∷ []) ≡ reason_for at xs
reason_other at [] j h = grind arith
reason_other at (x ∷ xs) j h = ap (λ o. cond (x.obligation == at) (Some x.reason) o) (reason_other at xs j h)

pub reason_here : (at : ℕ) (xs : List Justification) (j : Justification) → j.obligation ≡ at → reason_for at xs ≡ None → reason_for at (xs ++ j ∷ []) ≡ Some j.reason
reason_here at [] j e h = grind arith
reason_here at (x ∷ xs) j e h =
    elim (x.obligation == at) as (λ b. cond b (Some x.reason) (reason_for at xs) ≡ None → cond b (Some x.reason) (reason_for at (xs ++ j ∷ [])) ≡ Some j.reason)
    [ true ↦ (λ f. let g : Some x.reason ≡ None = f in cc) | false ↦ (λ f. reason_here at xs j e f) ] h

-- ---- verdicts

module _ (stands : Event → ℕ → Type 0) (m : Map) (mode : Mode) where
  abbrev Are : List Justification → ℕ → List Obligation → List Verdict → Type 0
  Are = AreVerdictsFrom stands m mode

  pub unnamed_verdicts : (at : ℕ) (os : List Obligation) (es : List Evidence) → AreEvidence stands m mode os es → Are [] at os (map unnamed es)
  unnamed_verdicts at [] [] h = refl
  unnamed_verdicts at [] (e ∷ es) h = absurd h
  unnamed_verdicts at (o ∷ os) [] h = absurd h
  unnamed_verdicts at (o ∷ os) (e ∷ es) h = (record { evidence = h.0; reason = refl; state = refl }, unnamed_verdicts (suc at) os es h.1)

  pub evidence_count : (os : List Obligation) (es : List Evidence) → AreEvidence stands m mode os es → length es ≡ length os
  evidence_count [] [] h = refl
  evidence_count [] (e ∷ es) h = absurd h
  evidence_count (o ∷ os) [] h = absurd h
  evidence_count (o ∷ os) (e ∷ es) h = ap suc (evidence_count os es h.1)

  module _ (named : List Justification) (j : Justification) where
    abbrev more : List Justification
    more = named ++ j ∷ []

    kept : (at : ℕ) (o : Obligation) (v : Verdict) → j.obligation ≢ at → IsVerdict stands m mode named at o v → IsVerdict stands m mode more at o v
    kept at o v other h = record { evidence = h.evidence; reason = h.reason ∙ sym (reason_other at named j other); state = h.state }

    all_kept : (at : ℕ) (os : List Obligation) (vs : List Verdict) → j.obligation < at → Are named at os vs → Are more at os vs
    all_kept at [] vs before h = h
    all_kept at (o ∷ os) [] before h = absurd h
    all_kept at (o ∷ os) (v ∷ vs) before h =
        let other : j.obligation ≢ at = omega arith in
        (kept at o v other h.0, all_kept (suc at) os vs (omega arith) h.1)

    changed : (at : ℕ) (o : Obligation) (v : Verdict) → j.obligation ≡ at → reason_for at named ≡ None → IsVerdict stands m mode named at o v → IsVerdict stands m mode more at o (named_by j.reason v)
    changed at o v e none h = record { evidence = h.evidence; reason = sym (reason_here at named j e none); state = refl }

    pub named_once : (at k : ℕ) (os : List Obligation) (vs : List Verdict) → j.obligation ≡ at + k → reason_for (at + k) named ≡ None → Are named at os vs → Are more at os (named_at k j.reason vs)
    named_once at k [] vs e none h = let P : List Verdict → Type 0 = λ ws. named_at k j.reason ws ≡ [] in subst P (sym h) refl
    named_once at k (o ∷ os) [] e none h = absurd h
    named_once at zero (o ∷ os) (v ∷ vs) e none h =
        let here : j.obligation ≡ at = omega arith in
        let P : ℕ → Type 0 = λ i. reason_for i named ≡ None in
        let same : at + 0 ≡ at = omega arith in
        (changed at o v here (subst P same none) h.0, all_kept (suc at) os vs (omega arith) h.1)
    named_once at (suc k) (o ∷ os) (v ∷ vs) e none h =
        let other : j.obligation ≢ at = omega arith in
        let P : ℕ → Type 0 = λ i. reason_for i named ≡ None in
        let same : at + suc k ≡ suc at + k = omega arith in
        (kept at o v other h.0, named_once (suc at) k os vs (e ∙ same) (subst P same none) h.1)

  -- ---- all of them

  abbrev Apart : List Justification → List Justification → Type 0
  Apart named js = (i : ℕ) (d : Justification) → i < length js → reason_for (get_or js i d).obligation named ≡ None

  apart_more : (named : List Justification) (j : Justification) (js : List Justification) → NameEachOnce (j ∷ js) → Apart named (j ∷ js) → Apart (named ++ j ∷ []) js
  apart_more named j js once apart i d lt =
      let other : j.obligation ≢ (get_or js i d).obligation = once 0 (suc i) d (omega arith) (omega arith) in
      reason_other (get_or js i d).obligation named j other ∙ apart (suc i) d (omega arith)

  pub all_verdicts : (named js : List Justification) (os : List Obligation) (vs : List Verdict) → NameEachOnce js → Apart named js → Are named 0 os vs → Are (named ++ js) 0 os (all_named vs js)
  all_verdicts named [] os vs once apart h = let P : List Justification → Type 0 = λ js. Are js 0 os vs in subst P (sym (append-nil named)) h
  all_verdicts named (j ∷ js) os vs once apart h =
      let P : List Justification → Type 0 = λ ks. Are ks 0 os (all_named vs (j ∷ js)) in
      let Q : ℕ → Type 0 = λ i. reason_for i named ≡ None in
      let zero_at : j.obligation ≡ 0 + j.obligation = omega arith in
      let none : reason_for (0 + j.obligation) named ≡ None = subst Q zero_at (apart 0 j (omega arith)) in
      let one = named_once named j 0 j.obligation os vs zero_at none h in
      let rest = all_verdicts (named ++ j ∷ []) js os (named_at j.obligation j.reason vs) (λ a b d lt le. once (suc a) (suc b) d (omega arith) (omega arith)) (apart_more named j js once apart) one in
      subst P (append_assoc named (j ∷ []) js) rest

  pub verdicts : (js : List Justification) (os : List Obligation) (es : List Evidence) → NameEachOnce js → AreEvidence stands m mode os es → Are js 0 os (all_named (map unnamed es) js)
  verdicts js os es once h = all_verdicts [] js os (map unnamed es) once (λ i d lt. refl) (unnamed_verdicts 0 os es h)

-- ---- the code's own steps

pub named_set : (k : ℕ) (reason : List ℕ) (vs : List Verdict) (d : Verdict) → k < length vs → set vs k (named_by reason (get_or vs k d)) ≡ named_at k reason vs
named_set k reason [] d h = absurd (omega arith)
named_set zero reason (v ∷ vs) d h = refl
named_set (suc k) reason (v ∷ vs) d h = ap (λ ws. v ∷ ws) (named_set k reason vs d (omega arith))

pub naming_step : (js : List Justification) (i : ℕ) (j : Justification) → i < length js → j ≡ get_or js i j → (first before after : List Verdict)
    → all_named before (drop i js) ≡ all_named first js → after ≡ named_at j.obligation j.reason before → all_named after (drop (i + 1) js) ≡ all_named first js
naming_step js i j lt is first before after rest e =
    let split : drop i js ≡ j ∷ drop (i + 1) js = drop_more js i j lt ∙ ap (λ k. k ∷ drop (i + 1) js) (sym is) in
    ap (λ vs. all_named vs (drop (i + 1) js)) e ∙ sym (ap (λ ks. all_named before ks) split) ∙ rest
