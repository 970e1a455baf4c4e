-- Lists of hits one after the other lead where the joined list leads.
use Rattle.std.specs.Prelude.{ℕ, List, [], ◌++◌, refl}
use Rattle.std.proofs.Common.{◌∙◌, sym, ap, inl, inr, arith}
use Rattle.std.proofs.lemmas.List.Elements.{Contains-append_left, Contains-append_right, Contains-append_cases}
use Rattle.mc_cover.specs.declared.view.View.{View}
use Rattle.cover_recorder.specs.Recorder.{RecorderView, Leads}

pub stays : (p : RecorderView) → Leads [] p p
stays p = record {
  cover = refl;
  test = refl;
  kept = refl;
  pairs = λ bit test. (
    λ h. inl h,
    λ h. elim h [ inl old ↦ old | inr hit ↦ absurd (let lt = hit.0.1 in omega arith) ],
  );
}

pub joins : (xs ys : List ℕ) (p q r : RecorderView) →
    Leads xs p q → Leads ys q r → Leads (xs ++ ys) p r
joins xs ys p q r h k = record {
  cover = k.cover ∙ h.cover;
  test = k.test ∙ h.test;
  kept = k.kept ∙ ap (λ (v : View). record v { hits = r.view.hits }) h.kept;
  pairs = λ bit test. (
    λ held. elim ((k.pairs bit test).0 held) [
      | inl old ↦ elim ((h.pairs bit test).0 old) [
        | inl older ↦ inl older
        | inr hit ↦ inr (Contains-append_left xs ys bit hit.0, hit.1)
      ]
      | inr hit ↦ inr (Contains-append_right xs ys bit hit.0, hit.1 ∙ h.test)
    ],
    λ held. elim held [
      | inl old ↦ (k.pairs bit test).1 (inl ((h.pairs bit test).1 (inl old)))
      | inr hit ↦ elim (Contains-append_cases xs ys bit hit.0) [
        | inl first ↦ (k.pairs bit test).1 (inl ((h.pairs bit test).1 (inr (first, hit.1))))
        | inr last ↦ (k.pairs bit test).1 (inr (last, hit.1 ∙ sym h.test))
      ]
    ],
  );
}
