-- The first of each prefix, along an ascending list.
use Rattle.std.proofs.Common.{◌≡◌, ℕ, ◌+◌, ◌<◌, ◌≤◌, Option, Some, None, List, length, get_or, refl, sym, ◌∙◌, subst, arith, inl, inr, ◌⊎◌}
use Rattle.std.specs.Prelude.{Contains}
use Rattle.std.specs.List.Sorted.{IsStrictlyIncreasing}
use Rattle.std.proofs.lemmas.Bool.{cases_lt}
use Rattle.mc_pairs.proofs.Least.{later_greater, place_of}
use Rattle.mc_unique.specs.steps.Prefixes.{IsNext, passed, same, new, Passed, IsKept}

some_is : (a b : ℕ) → Some a ≡ Some b → a ≡ b
some_is a b e = cc

pub same_some : (first : Option ℕ) (a b : ℕ) → first ≡ Some a → first ≡ Some b → a ≡ b
same_some first a b e f = let g : Some a ≡ Some b = sym e ∙ f in some_is a b g

-- an element stands before the next, or is it, or stands after it
compare : (p f : ℕ) → (p < f) ⊎ ((p ≡ f) ⊎ (f < p))
compare p f = elim (cases_lt p f) [ inl less ↦ inl less | inr more ↦ elim (cases_lt f p) [ inl less ↦ inr (inr less) | inr also ↦ inr (inl (omega (arith, more, also))) ] ]

module _ (on off : ℕ → Type 0) (alike : ℕ → ℕ → Type 0)
    (between : (p q r : ℕ) → on q → p ≤ q → q ≤ r → alike p r → alike p q)
    (follow : (p q r : ℕ) → alike p q → alike q r → alike p r)
    (ahead : (p q : ℕ) → on p → off q → alike p q → p < q)
    (seen : List ℕ) (up : IsStrictlyIncreasing seen) where
  module _ (n : ℕ) (within : n < length seen) where
    next : ℕ
    next = get_or seen n 0

    passed_less : (p : ℕ) → Passed seen n p → p < get_or seen n 0
    passed_less p h = let P : ℕ → Type 0 = λ x. x < get_or seen n 0 in subst P h.2 (later_greater seen h.0 n up h.1 within)

    passed_on : (p : ℕ) → Passed seen n p → Passed seen (n + 1) p
    passed_on p h = (h.0, (let l = h.1 in omega arith), h.2)

    passed_next : Passed seen (n + 1) (get_or seen n 0)
    passed_next = (n, omega arith, refl)

    passed_more : (p : ℕ) → Passed seen (n + 1) p → Passed seen n p ⊎ (p ≡ get_or seen n 0)
    passed_more p h =
        elim (cases_lt h.0 n) [
          | inl less ↦ inl (h.0, less, h.2)
          | inr more ↦ (let l = h.1 in
              let same : h.0 ≡ n = omega arith in
              let P : ℕ → Type 0 = λ i. p ≡ get_or seen i 0 in
              inr (subst P same (sym h.2)))
        ]

    passed_or : (p : ℕ) → Contains seen p → Passed seen n p ⊎ (get_or seen n 0 ≤ p)
    passed_or p h =
        let place : (j : ℕ) × (j < length seen) × (get_or seen j 0 ≡ p) = place_of seen p h in
        elim (compare place.0 n) [
          | inl less ↦ inl (place.0, less, place.2)
          | inr rest ↦ elim rest [
            | inl equal ↦ (let P : ℕ → Type 0 = λ i. get_or seen i 0 ≡ p in let e : get_or seen n 0 ≡ p = subst P equal place.2 in inr (omega (arith, e)))
            | inr more ↦ (let l = later_greater seen n place.0 up more place.1 in let e = place.2 in inr (omega arith))
          ]
        ]

    -- a path that is on and alike to the next one is alike to the kept one
    with_next : (first : Option ℕ) → IsKept on off alike seen n first → ((f : ℕ) → first ≡ Some f → ¬ alike f (get_or seen n 0))
        → (p : ℕ) → Passed seen n p → on p → ¬ alike p (get_or seen n 0)
    with_next None k away p h is_on with = k.none refl p h is_on
    with_next (Some f) k away p h is_on with =
        let less : f < get_or seen n 0 = passed_less f (k.inside f refl) in
        elim (compare p f) [
          | inl before ↦ k.earlier f p refl h is_on before (between p f (get_or seen n 0) (k.is_on f refl) (omega (arith, before)) (omega (arith, less)) with)
          | inr rest ↦ elim rest [
            | inl equal ↦ (let P : ℕ → Type 0 = λ x. alike x (get_or seen n 0) in away f refl (subst P equal with))
            | inr behind ↦ away f refl (follow f p (get_or seen n 0) (k.later f p refl h is_on behind) with)
          ]
        ]

    module _ (first : Option ℕ) (k : IsKept on off alike seen n first) where
      alone_more : ((f : ℕ) → first ≡ Some f → off (get_or seen n 0) → ¬ alike f (get_or seen n 0))
          → (p q : ℕ) → Passed seen (n + 1) p → Passed seen (n + 1) q → on p → off q → ¬ alike p q
      alone_more none p q hp hq is_on is_off with =
          let less : p < q = ahead p q is_on is_off with in
          elim (passed_more p hp) [
            | inl old ↦ elim (passed_more q hq) [
              | inl also ↦ k.alone p q old also is_on is_off with
              | inr now ↦
                  (let P : ℕ → Type 0 = λ x. alike p x in
                  let Q : ℕ → Type 0 = λ x. off x in
                  with_next first k (λ f e. none f e (subst Q now is_off)) p old is_on (subst P now with))
            ]
            | inr now ↦ elim (passed_more q hq) [
              | inl also ↦ (let l = passed_less q also in let f : ⊥ = omega arith in f)
              | inr too ↦ (let f : ⊥ = omega arith in f)
            ]
          ]

    pub step : (first later : Option ℕ) → IsKept on off alike seen n first
        → ((f : ℕ) → first ≡ Some f → off (get_or seen n 0) → ¬ alike f (get_or seen n 0))
        → IsNext (on (get_or seen n 0)) (λ p. alike p (get_or seen n 0)) (get_or seen n 0) first later
        → IsKept on off alike seen (n + 1) later
    step first _ k none (passed not_on) =
        let old : (p : ℕ) → Passed seen (n + 1) p → on p → Passed seen n p = λ p h is_on.
        elim (passed_more p h) [ inl was ↦ was | inr now ↦ (let P : ℕ → Type 0 = λ x. on x in absurd (not_on (subst P now is_on))) ] in
        record {
          alone = alone_more first k none;
          none = λ e p h is_on. k.none e p (old p h is_on) is_on;
          inside = λ f e. passed_on f (k.inside f e);
          is_on = k.is_on;
          earlier = λ f p e h is_on less. k.earlier f p e (old p h is_on) is_on less;
          later = λ f p e h is_on less. k.later f p e (old p h is_on) is_on less;
        }
    step (Some g) _ k none (same now with) =
        record {
          alone = alone_more (Some g) k none;
          none = λ e p h is_on. (let f : Some g ≡ None = e in cc);
          inside = λ f e. passed_on f (k.inside f e);
          is_on = k.is_on;
          earlier = λ f p e h is_on less.
              elim (passed_more p h) [ inl was ↦ k.earlier f p e was is_on less | inr next ↦ (let l = passed_less f (k.inside f e) in absurd (omega arith)) ];
          later = λ f p e h is_on less.
              elim (passed_more p h) [
                | inl was ↦ k.later f p e was is_on less
                | inr next ↦
                    (let P : ℕ → Type 0 = λ x. alike x (get_or seen n 0) in
                    let Q : ℕ → Type 0 = λ x. alike f x in
                    subst Q (sym next) (subst P (some_is g f e) with))
              ];
        }
    step first _ k none (new now away) =
        record {
          alone = alone_more first k none;
          none = λ e p h is_on. (let f : Some (get_or seen n 0) ≡ None = e in cc);
          inside = λ f e. (let P : ℕ → Type 0 = λ x. Passed seen (n + 1) x in subst P (some_is (get_or seen n 0) f e) passed_next);
          is_on = λ f e. (let P : ℕ → Type 0 = λ x. on x in subst P (some_is (get_or seen n 0) f e) now);
          earlier = λ f p e h is_on less with.
              (let at : get_or seen n 0 ≡ f = some_is (get_or seen n 0) f e in
              let P : ℕ → Type 0 = λ x. alike p x in
              elim (passed_more p h) [ inl was ↦ with_next first k away p was is_on (subst P (sym at) with) | inr next ↦ (let z : ⊥ = omega arith in z) ]);
          later = λ f p e h is_on less.
              (let at : get_or seen n 0 ≡ f = some_is (get_or seen n 0) f e in
              elim (passed_more p h) [ inl was ↦ (let l = passed_less p was in absurd (omega arith)) | inr next ↦ absurd (omega arith) ]);
        }

    -- the first pair that is come to is the chosen one
    pub found : (first : Option ℕ) → IsKept on off alike seen n first → (f : ℕ) → first ≡ Some f
        → (p q : ℕ) → Contains seen p → Contains seen q → on p → off q → alike p q → (f < p) ⊎ ((f ≡ p) × (get_or seen n 0 ≤ q))
    found first k f e p q hp hq is_on is_off with =
        let less : f < get_or seen n 0 = passed_less f (k.inside f e) in
        elim (compare p f) [
          | inl before ↦ elim (passed_or p hp) [
            | inl old ↦ elim (passed_or q hq) [
              | inl also ↦ absurd (k.alone p q old also is_on is_off with)
              | inr behind ↦ absurd (k.earlier f p e old is_on before (between p f q (k.is_on f e) (omega (arith, before)) (omega (arith, less, behind)) with))
            ]
            | inr later ↦ absurd (omega (arith, before, less, later))
          ]
          | inr rest ↦ elim rest [
            | inl equal ↦ elim (passed_or q hq) [
              | inl also ↦ absurd (k.alone p q (let P : ℕ → Type 0 = λ x. Passed seen n x in subst P (sym equal) (k.inside f e)) also is_on is_off with)
              | inr behind ↦ inr (sym equal, behind)
            ]
            | inr behind ↦ inl behind
          ]
        ]

  pub none_passed : IsKept on off alike seen 0 None
  none_passed =
      let never : (p : ℕ) → Passed seen 0 p → ⊥ = λ p h. (let l = h.1 in omega arith) in
      record {
        alone = λ p q hp hq is_on is_off with. never p hp;
        none = λ e p h is_on. never p h;
        inside = λ f e. (let g : None ≡ Some f = e in cc);
        is_on = λ f e. (let g : None ≡ Some f = e in cc);
        earlier = λ f p e h is_on less with. never p h;
        later = λ f p e h is_on less. absurd (never p h);
      }

  pub all_passed : (first : Option ℕ) (n : ℕ) → IsKept on off alike seen n first → length seen ≤ n → (p q : ℕ) → Contains seen p → Contains seen q → on p → off q → ¬ alike p q
  all_passed first n k all p q hp hq is_on is_off with =
      let passes : (x : ℕ) → Contains seen x → Passed seen n x = λ x h.
      (let place : (j : ℕ) × (j < length seen) × (get_or seen j 0 ≡ x) = place_of seen x h in (place.0, (let l = place.1 in omega arith), place.2)) in
      k.alone p q (passes p hp) (passes q hq) is_on is_off with
