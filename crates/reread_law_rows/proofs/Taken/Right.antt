-- Where all places are different, as many parentheses stand at each as are claimed.
use Rattle.std.proofs.Common.{◌≡◌, ℕ, ◌+◌, Bool, true, false, ◌&&◌, nat_eq, List, [], ◌∷◌, refl, sym, ap, ap₂, ◌∙◌, arith}
use Rattle.std.proofs.lemmas.Bool.{eq-eqb, eqb-true}
use Rattle.mc_span.specs.declared.span.Span.{Span}
use Rattle.reread_law_texts.specs.weave.Brackets.{Brackets}
use Rattle.reread_law_rows.specs.inserted.Signs.{is_same}
use Rattle.reread_law_texts.specs.apart.Distinct.{Each, IsDistinct}
use Rattle.reread_law_rows.proofs.Taken.Claims.{Claim, stands, starts, AreRight, more, total, places, AreStarts}

pub same_self : (at : Span) → is_same at at ≡ true
same_self at = ap₂ (λ a b. a && b) (eq-eqb at.start at.start refl) (eq-eqb at.end at.end refl)

both_true : (a b : Bool) → (a && b) ≡ true → (a ≡ true) × (b ≡ true)
both_true true b e = (refl, e)
both_true false b e = absurd (cc)

abbrev span_of_ends : ℕ → ℕ → Span
span_of_ends start end = record { start = start; end = end }

same_span : (a b : Span) → is_same a b ≡ true → a ≡ b
same_span a b e =
    let (s, t) = both_true (nat_eq a.start b.start) (nat_eq a.end b.end) e in
    ap₂ span_of_ends (eqb-true a.start b.start s) (eqb-true a.end b.end t)

never : (b : Bool) → (b ≡ true → ⊥) → b ≡ false
never true h = absurd (h refl)
never false h = refl

other_span : (a b : Span) → (a ≡ b → ⊥) → is_same a b ≡ false
other_span a b h = never (is_same a b) (λ e. h (same_span a b e))

plus_none : (n : ℕ) → n + 0 ≡ n
plus_none n = omega arith

absent : (at : Span) (cs : List Claim) → Each (λ s. at ≡ s → ⊥) (places cs) → total at cs ≡ 0
absent at [] h = refl
absent at (stands s n ∷ cs) h =
    ap (λ b. more b n (total at cs)) (other_span s at (λ e. h.0 (sym e))) ∙ absent at cs h.1
absent at (starts byte rows ∷ cs) h = absent at cs h

later : (w : Brackets) (at : Span) (n : ℕ) (cs : List Claim) (all : List Span) → Each (λ s. at ≡ s → ⊥) all
    → Each (λ s. w.parentheses s ≡ total s (stands at n ∷ cs)) all → Each (λ s. w.parentheses s ≡ total s cs) all
later w at n cs [] d h = tt
later w at n cs (s ∷ all) d h =
    (h.0 ∙ ap (λ b. more b n (total s cs)) (other_span at s d.0), later w at n cs all d.1 h.1)

right : (w : Brackets) (cs : List Claim) → IsDistinct (places cs)
    → Each (λ s. w.parentheses s ≡ total s cs) (places cs) → AreStarts cs → AreRight w cs
right w [] d h k = tt
right w (stands at n ∷ cs) d h k = (
  h.0 ∙ ap₂ (λ b t. more b n t) (same_self at) (absent at cs d.0) ∙ plus_none n,
  right w cs d.1 (later w at n cs (places cs) d.0 h.1) k,
)
right w (starts at rows ∷ cs) d h k = (k.0, right w cs d h k.1)

each : {P : Span → Type 0} → ((s : Span) → P s) → (all : List Span) → Each P all
each h [] = tt
each h (s ∷ all) = (h s, each h all)

pub claims_right : (w : Brackets) (cs : List Claim) → IsDistinct (places cs)
    → ((s : Span) → w.parentheses s ≡ total s cs) → AreStarts cs → AreRight w cs
claims_right w cs d h k = right w cs d (each h (places cs)) k
