-- Lists of obligations, one more at their end.
use Rattle.std.proofs.Common.{◌≡◌, ℕ, ◌+◌, ◌<◌, List, [], ◌∷◌, ◌++◌, length, get_or, take, map, sym, ap, subst, ◌∙◌, arith, append_assoc, add-zero}
use Rattle.std.specs.Prelude.{slice_get, Some}
use Rattle.std.proofs.lemmas.List.{take_more, length-take-le, length-map, get_or-map, append-nil}
use Rattle.std.proofs.lemmas.Option.{slice_get_read}
use Rattle.mc_span.specs.declared.span.Span.{Span}
use Rattle.decide_rules.specs.Seen.{decision_of}
use Rattle.mc_probe.specs.declared.mapped.MappedDecision.{MappedDecision}
use Rattle.mc_probe.specs.Mapped.{mapped_of}
use Rattle.mc_probe.specs.Maps.{Mapped}
use Rattle.mc_oblige.specs.declared.obligation.ObligationId.{ObligationId}
use Rattle.mc_oblige.specs.declared.obligation.Obligation.{Obligation}
use Rattle.mc_oblige.specs.Obligations.{numbered, of_decision, of_decisions}

abbrev at : (ℕ → ObligationId) → ℕ → Span → Obligation
at id k span = record { id = id k; span = span }

pub numbered_push : (id : ℕ → ObligationId) (k : ℕ) (xs : List Span) (x : Span) → numbered id k (xs ++ x ∷ []) ≡ numbered id k xs ++ at id (k + length xs) x ∷ []
numbered_push id k [] x = ap (λ j. at id j x ∷ []) (sym (add-zero k))
numbered_push id k (y ∷ ys) x =
    let e : (k + 1) + length ys ≡ k + length (y ∷ ys) = omega arith in
    ap (λ os. at id k y ∷ os) (numbered_push id (k + 1) ys x ∙ ap (λ j. numbered id (k + 1) ys ++ at id j x ∷ []) e)

pub numbered_more : (id : ℕ → ObligationId) (xs : List Span) (i : ℕ) (d : Span) → i < length xs →
    numbered id 0 (take (i + 1) xs) ≡ numbered id 0 (take i xs) ++ at id i (get_or xs i d) ∷ []
numbered_more id xs i d h =
    let e : 0 + length (take i xs) ≡ i = omega (arith, length-take-le i xs (omega arith)) in
    ap (λ ys. numbered id 0 ys) (take_more xs i d h)
    ∙ numbered_push id 0 (take i xs) (get_or xs i d)
    ∙ ap (λ j. numbered id 0 (take i xs) ++ at id j (get_or xs i d) ∷ []) e

pub decisions_push : (k : ℕ) (xs : List Mapped) (x : Mapped) → of_decisions k (xs ++ x ∷ []) ≡ of_decisions k xs ++ of_decision (k + length xs) x.decision
decisions_push k [] x = append-nil (of_decision k x.decision) ∙ ap (λ j. of_decision j x.decision) (sym (add-zero k))
decisions_push k (y ∷ ys) x =
    let e : (k + 1) + length ys ≡ k + length (y ∷ ys) = omega arith in
    ap (λ os. of_decision k y.decision ++ os) (decisions_push (k + 1) ys x ∙ ap (λ j. of_decisions (k + 1) ys ++ of_decision j x.decision) e)
    ∙ sym (append_assoc (of_decision k y.decision) (of_decisions (k + 1) ys) (of_decision (k + length (y ∷ ys)) x.decision))

pub decisions_more : (xs : List Mapped) (i : ℕ) (d : Mapped) → i < length xs →
    of_decisions 0 (take (i + 1) xs) ≡ of_decisions 0 (take i xs) ++ of_decision i (get_or xs i d).decision
decisions_more xs i d h =
    let e : 0 + length (take i xs) ≡ i = omega (arith, length-take-le i xs (omega arith)) in
    ap (λ ys. of_decisions 0 ys) (take_more xs i d h)
    ∙ decisions_push 0 (take i xs) (get_or xs i d)
    ∙ ap (λ j. of_decisions 0 (take i xs) ++ of_decision j (get_or xs i d).decision) e

-- ---- the code's own steps

pub places_step : (id : ℕ → ObligationId) (spans : List Span) (i : ℕ) (d : Span) → i < length spans → (old before after : List Obligation)
    → before ≡ old ++ numbered id 0 (take i spans) → after ≡ before ++ at id i (get_or spans i d) ∷ [] → after ≡ old ++ numbered id 0 (take (i + 1) spans)
places_step id spans i d lt old before after e f =
    f
    ∙ ap (λ os. os ++ at id i (get_or spans i d) ∷ []) e
    ∙ append_assoc old (numbered id 0 (take i spans)) (at id i (get_or spans i d) ∷ [])
    ∙ ap (λ os. old ++ os) (sym (numbered_more id spans i d lt))

pub decisions_step : (ds : List MappedDecision) (i : ℕ) (r : MappedDecision) → i < length ds → r ≡ get_or ds i r → (old before after : List Obligation)
    → before ≡ old ++ of_decisions 0 (take i (map mapped_of ds)) → after ≡ before ++ of_decision i (decision_of r.decision)
    → after ≡ old ++ of_decisions 0 (take (i + 1) (map mapped_of ds))
decisions_step ds i r lt is old before after e f =
    let xs : List Mapped = map mapped_of ds in
    let here : get_or xs i (mapped_of r) ≡ mapped_of r = get_or-map mapped_of ds i r (mapped_of r) lt ∙ ap mapped_of (sym is) in
    let more = decisions_more xs i (mapped_of r) (omega (arith, length-map ds mapped_of)) in
    f
    ∙ ap (λ os. os ++ of_decision i (decision_of r.decision)) e
    ∙ append_assoc old (of_decisions 0 (take i xs)) (of_decision i (decision_of r.decision))
    ∙ ap (λ os. old ++ os) (ap (λ x. of_decisions 0 (take i xs) ++ of_decision i x.decision) (sym here) ∙ sym more)

pub known_at : (ds all : List MappedDecision) (i : ℕ) (r : MappedDecision) → ds ≡ all → i < length ds → r ≡ get_or ds i r → slice_get (map mapped_of all) i ≡ Some (mapped_of r)
known_at ds all i r same lt is =
    let P : List MappedDecision → Type 0 = λ xs. slice_get (map mapped_of xs) i ≡ Some (mapped_of r) in
    let here : get_or (map mapped_of ds) i (mapped_of r) ≡ mapped_of r = get_or-map mapped_of ds i r (mapped_of r) lt ∙ ap mapped_of (sym is) in
    subst P same (slice_get_read (map mapped_of ds) (length ds) i (mapped_of r) (sym (length-map ds mapped_of)) lt (sym here))
