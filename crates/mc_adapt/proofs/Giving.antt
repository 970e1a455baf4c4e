-- What `adapt` gives.
use Rattle.std.proofs.Common.{◌≡◌, ℕ, ◌<◌, List, [], ◌∷◌, length, Ok, Err, refl, ap, sym, ◌∙◌, arith}
use Rattle.adapt_tokens.specs.Cuts.{Part, Cuts}
use Rattle.mc_adapt.specs.declared.fault.Fault.{Fault}
use Rattle.mc_adapt.specs.States.{start}
use Rattle.mc_adapt.specs.Marks.{Marking, markings}
use Rattle.mc_adapt.specs.Texts.{text_of}
use Rattle.mc_adapt.specs.Outside.{refusals_of, all_refusals}
use Rattle.mc_adapt.specs.Adapted.{Adapts}

no_faults : (faults : List Fault) → length faults ≡ 0 → refusals_of faults ≡ []
no_faults [] h = refl
no_faults (f ∷ fs) h = absurd (omega arith)

some_faults : (faults : List Fault) → 0 < length faults → refusals_of faults ≡ [] → ⊥
some_faults [] h e = omega arith
some_faults (f ∷ fs) h e = cc

module _ (source : List ℕ) (ps : List Part) (ms : List Marking) (faults : List Fault) (cuts : Cuts [] source ps) (marked : ms ≡ markings start ps) (found : refusals_of faults ≡ all_refusals (length source) ms) where
  same_faults : refusals_of faults ≡ all_refusals (length source) (markings start ps)
  same_faults = found ∙ ap (all_refusals (length source)) marked

  pub gives_text : (text : List ℕ) → text ≡ text_of ms → length faults ≡ 0 → Adapts source (Ok text)
  gives_text text e h = (ps, cuts, sym same_faults ∙ no_faults faults h, e ∙ ap text_of marked)

  pub gives_faults : 0 < length faults → Adapts source (Err (refusals_of faults))
  gives_faults h = (ps, cuts, some_faults faults h, same_faults)
