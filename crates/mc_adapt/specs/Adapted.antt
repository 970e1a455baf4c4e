-- What `adapt` gives for a text.
use Rattle.std.specs.Prelude.{◌≡◌, ◌≢◌, ℕ, List, [], length, Result, Ok, Err}
use Rattle.adapt_tokens.specs.Cuts.{Part, Cuts}
use Rattle.mc_adapt.specs.States.{start}
use Rattle.mc_adapt.specs.Marks.{markings}
use Rattle.mc_adapt.specs.Texts.{text_of}
use Rattle.mc_adapt.specs.Outside.{Refusal, all_refusals}

-- by its pieces: the text without what has no meaning here, where nothing is outside the language;
-- else all that is
abbrev pub Adapts : (source : List ℕ) → Result (List ℕ) (List Refusal) → Type 0
Adapts source (Ok text) =
    (ps : List Part) × Cuts [] source ps
    × (all_refusals (length source) (markings start ps) ≡ [])
    × (text ≡ text_of (markings start ps))
Adapts source (Err refusals) =
    (ps : List Part) × Cuts [] source ps × (refusals ≢ [])
    × (refusals ≡ all_refusals (length source) (markings start ps))
