-- One more justification.
use Rattle.std.proofs.Common.{◌≡◌, ◌≢◌, ◌∙◌, ◌<◌, ◌++◌, ◌==◌, ◌||◌, ℕ, zero, suc, Bool, true, false, List, [], ◌∷◌, length, set, get_or, All, sym, ap, refl, inl, inr, arith, eq-eqb}
use Rattle.std.specs.Str.{IsUtf8}
use Rattle.std.proofs.lemmas.Bool.{cases_Bool}
use Rattle.std.proofs.lemmas.Bool.Decides.{nat_tests}
use Rattle.std.proofs.lemmas.List.{get_or-set_other, get_or-set_same, length-set}
use Rattle.std.proofs.lemmas.List.Elements.{All-append, All-nil, All-cons}
use Rattle.std.proofs.lemmas.List.Folds.{list_any-append}
use Rattle.std.proofs.lemmas.List.Quantifiers.{all_pairs_push}
use Rattle.mc_oblige.specs.declared.justification.Justification.{Justification}
use Rattle.mc_justify.specs.Justifications.{is_named}
use Rattle.mc_justify.specs.Returned.{AreFit}
use Rattle.mc_justify.specs.Seen.{added}

-- which positions are named then
named_more : (i k : ℕ) (reason : List ℕ) (named : List Justification) → is_named i (named ++ added k reason ∷ []) ≡ (is_named i named || ((k == i) || false))
named_more i k reason named = list_any-append (λ j. j.obligation == i) named (added k reason ∷ [])

or_false : (a : Bool) → (a || (false || false)) ≡ a
or_false true = refl
or_false false = refl

or_true : (a : Bool) → (a || (true || false)) ≡ true
or_true true = refl
or_true false = refl

pub marks_more : (marks : List Bool) (named : List Justification) (k : ℕ) (reason : List ℕ) → k < length marks
    → ((i : ℕ) (b : Bool) → i < length marks → get_or marks i b ≡ is_named i named)
    → (i : ℕ) (b : Bool) → i < length (set marks k true) → get_or (set marks k true) i b ≡ is_named i (named ++ added k reason ∷ [])
marks_more marks named k reason inside old i b below = elim (cases_Bool (k == i)) [
  | inl same ↦
      let is : i ≡ k = grind (arith, nat_tests) in
      rw is (get_or-set_same marks k true b inside ∙ sym (named_more k k reason named ∙ ap (λ t. is_named k named || (t || false)) (eq-eqb k k refl) ∙ or_true (is_named k named)))
  | inr differ ↦
      let other : i ≢ k = grind (arith, nat_tests) in
      let there : i < length marks = rw (length-set marks k true) at below in
      get_or-set_other marks k i true b other ∙ old i b there ∙ sym (named_more i k reason named ∙ ap (λ t. is_named i named || (t || false)) differ ∙ or_false (is_named i named))
]

-- where none names a position, none of the list does
pub unnamed : (k : ℕ) (named : List Justification) → is_named k named ≡ false → (i : ℕ) (d : Justification) → i < length named → (get_or named i d).obligation ≢ k
unnamed k [] free i d below = absurd (omega arith)
unnamed k (j ∷ js) free zero d below = by_first (j.obligation == k) refl free
  where
    by_first : (same : Bool) → (j.obligation == k) ≡ same → (same || is_named k js) ≡ false → j.obligation ≢ k
    by_first true same e = absurd (cc e)
    by_first false same e = grind (arith, nat_tests)
unnamed k (j ∷ js) free (suc i) d below = by_first (j.obligation == k) free (λ none. unnamed k js none i d (omega arith))
  where
    by_first : (same : Bool) → (same || is_named k js) ≡ false → (is_named k js ≡ false → (get_or js i d).obligation ≢ k) → (get_or js i d).obligation ≢ k
    by_first true e later = absurd (cc e)
    by_first false e later = later e

one : {X : Type 0} (P : X → Type 0) (x : X) → P x → All P (x ∷ [])
one P x p = All-cons P x [] p (All-nil P)

pub fit_more : (count k : ℕ) (reason : List ℕ) (named : List Justification) → AreFit count named → k < count → is_named k named ≡ false → IsUtf8 reason → reason ≢ []
    → AreFit count (named ++ added k reason ∷ [])
fit_more count k reason named fit inside free text some = record {
  inside = All-append (λ j. j.obligation < count) named (added k reason ∷ []) fit.inside (one (λ j. j.obligation < count) (added k reason) inside);
  once = all_pairs_push (λ a b. a.obligation ≢ b.obligation) named (added k reason) fit.once (unnamed k named free);
  text = All-append (λ j. IsUtf8 j.reason) named (added k reason ∷ []) fit.text (one (λ j. IsUtf8 j.reason) (added k reason) text);
  some = All-append (λ j. j.reason ≢ []) named (added k reason ∷ []) fit.some (one (λ j. j.reason ≢ []) (added k reason) some);
}
