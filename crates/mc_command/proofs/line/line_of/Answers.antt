use Rattle.std.proofs.Common.{◌≡◌, ◌<◌, ◌+◌, ◌∙◌, ℕ, List, [], ◌∷◌, ◌++◌, length, take, Some, ap, sym, get_or, add-one, Bor}
use Rattle.std.proofs.Math.Seq.{take-suc}
use Rattle.std.proofs.lemmas.List.{map_push}
use Rattle.std.proofs.lemmas.Option.{slice_get_within, get_or_from_slice_get}
use Rattle.std.specs.Prelude.{slice_get}
use Rattle.clap.specs.Walk.{Text}
use Rattle.mc_command.specs.Line.{line_of}
use Rattle.mc_command.proofs.line.line_of.Goals as goal

-- the words up to one more
more_words : (words : List Text) (at : ℕ) (word : Text) → slice_get words at ≡ Some word → take (at + 1) words ≡ take at words ++ word ∷ []
more_words words at word h =
    let lt : at < length words = slice_get_within words at word h in
    let same : get_or words at word ≡ word = get_or_from_slice_get words at word word h in
    rw add-one (take-suc words at word lt ∙ ap (λ w. take at words ++ w ∷ []) same)

longer_line : (line later : List (Bor Text)) (word : Bor Text) (name : Text) (words : List Text) (at : ℕ)
    → later ≡ line ++ word ∷ [] → line_of line ≡ name ∷ take at words → slice_get words at ≡ Some word.now → line_of later ≡ name ∷ take (at + 1) words
longer_line line later word name words at e so_far h =
    ap line_of e ∙ map_push (λ (w : Bor Text). w.now) line word ∙ ap (λ ws. ws ++ word.now ∷ []) so_far ∙ ap (λ ws. name ∷ ws) (sym (more_words words at word.now h))

pub loop-at-preserved : goal.loop-at-preserved
loop-at-preserved c =
    longer_line c.loop-at.line.items c.push-in-loop-at.new.self.items c.get.result _ c.args.words.now c.loop-at.at
    c.in_ok-push-2.ensures.items c.loop-at.invariant c.get.ensures
