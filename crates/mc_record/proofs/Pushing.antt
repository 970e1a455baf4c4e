-- Words that are added to a line, one after the other.
use Rattle.std.proofs.Common.{◌≡◌, ◌∙◌, ◌≤◌, ◌-◌, ℕ, List, [], ◌∷◌, ◌++◌, length, take, drop, slice_index, refl, sym, ap, arith, append_assoc}
use Rattle.std.specs.Prelude.{flat_map, codes}
use Rattle.std.specs.Int.{to_be_bytes}
use mir.Syntax.{w64}
use Rattle.std.proofs.lemmas.List.{take_all}
use Rattle.report_words.specs.Hexadecimal.{hexadecimal}
use Rattle.mc_record.specs.Lines.{word_text}

-- the first of some words, and the others
pub first_word : (left : List ℕ) → 1 ≤ length left → flat_map word_text left ≡ word_text (slice_index left 0) ++ flat_map word_text (take (length left - 1) (drop 1 left))
first_word [] some = absurd (omega arith)
first_word (word ∷ left) some =
    let rest : take (length (word ∷ left) - 1) left ≡ left = take_all (length (word ∷ left) - 1) left (omega arith) in
    rw rest refl

-- a line with a space and the digits of the first word, and the other words
pub word_more : (line spaced pushed digits left all : List ℕ) → 1 ≤ length left → spaced ≡ line ++ codes " " → pushed ≡ spaced ++ hexadecimal digits → digits ≡ to_be_bytes w64 (slice_index left 0)
    → line ++ flat_map word_text left ≡ all → pushed ++ flat_map word_text (take (length left - 1) (drop 1 left)) ≡ all
word_more line spaced pushed digits left all some space more are whole =
    let rest : List ℕ = flat_map word_text (take (length left - 1) (drop 1 left)) in
    let text : List ℕ = hexadecimal (to_be_bytes w64 (slice_index left 0)) in
    let first : pushed ≡ (line ++ codes " ") ++ text = rw (more, space, are) refl in
    ap (λ (l : List ℕ). l ++ rest) first
    ∙ append_assoc (line ++ codes " ") text rest
    ∙ append_assoc line (codes " ") (text ++ rest)
    ∙ ap (λ (l : List ℕ). line ++ l) (sym (first_word left some))
    ∙ whole
