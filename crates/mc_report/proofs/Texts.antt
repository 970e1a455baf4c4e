-- What a report writes as JSON strings is text.
use Rattle.std.proofs.Common.{◌<◌, ◌/◌, ◌%◌, ℕ, zero, suc, Bool, true, false, List, [], ◌∷◌, ◌++◌, Option, Some, None, map, arith}
use Rattle.std.specs.Prelude.{All, IsUtf8}
use Rattle.std.specs.Str.{IsAscii}
use Rattle.std.proofs.lemmas.Bool.Decides.{nat_tests}
use Rattle.std.proofs.lemmas.Str.{IsAscii-append, IsUtf8-from_ascii}
use Rattle.std.proofs.lemmas.Str.Ascii.{IsAscii-nil}
use Rattle.mc_cond.specs.Vectors.{Evaluation}
use Rattle.mc_probe.specs.Maps.{Mapped}
use Rattle.report_words.specs.Hexadecimal.{byte_text, hexadecimal_digit}
use Rattle.mc_report.specs.Lines.{path_vector}
use Rattle.evidence_texts.specs.Vectors.{vector_at}
use Rattle.mc_report.specs.steps.Texts.{AreTexts}
use Rattle.mc_report.specs.Words.{answer_byte, truth_byte, vector_text}

ascii_cons : (b : ℕ) (bs : List ℕ) → b < 128 → IsAscii bs → IsAscii (b ∷ bs)
ascii_cons b bs low rest zero = low
ascii_cons b bs low rest (suc i) = rest i

-- ---- vectors

truth_low : (truth : Bool) → truth_byte truth < 128
truth_low true = omega arith
truth_low false = omega arith

answer_low : (answer : Option Bool) → answer_byte answer < 128
answer_low None = omega arith
answer_low (Some truth) = truth_low truth

ascii_answers : (answers : List (Option Bool)) → IsAscii (map answer_byte answers)
ascii_answers [] = IsAscii-nil
ascii_answers (a ∷ answers) = ascii_cons (answer_byte a) (map answer_byte answers) (answer_low a) (ascii_answers answers)

ascii_vector : (v : Evaluation) → IsAscii (vector_text v)
ascii_vector v =
    let sign = ascii_cons 61 [] (omega arith) IsAscii-nil in
    IsAscii-append (map answer_byte v.answers ++ 61 ∷ []) (truth_byte v.outcome ∷ [])
    (IsAscii-append (map answer_byte v.answers) (61 ∷ []) (ascii_answers v.answers) sign)
    (ascii_cons (truth_byte v.outcome) [] (truth_low v.outcome) IsAscii-nil)

pub path_is_text : (decision : Option Mapped) (path : ℕ) → IsUtf8 (path_vector decision path)
path_is_text None path = IsUtf8-from_ascii [] IsAscii-nil
path_is_text (Some m) path = IsUtf8-from_ascii (vector_text (vector_at m.decision.tree path)) (ascii_vector (vector_at m.decision.tree path))

-- ---- digits

digit_low : (n : ℕ) → n < 16 → hexadecimal_digit n < 128
digit_low n small = grind (arith, nat_tests)

pub byte_is_text : (b : ℕ) → b < 256 → IsUtf8 (byte_text b)
byte_is_text b small =
    IsUtf8-from_ascii (byte_text b) (ascii_cons (hexadecimal_digit (b / 16)) (hexadecimal_digit (b % 16) ∷ []) (digit_low (b / 16) (omega arith))
    (ascii_cons (hexadecimal_digit (b % 16)) [] (digit_low (b % 16) (omega arith)) IsAscii-nil))

-- ---- names

pub are_texts : (names : List (List ℕ)) → All IsUtf8 names → AreTexts names
are_texts [] each = tt
are_texts (n ∷ names) each = (each 0 n (omega arith), are_texts names (λ k d inside. each (suc k) d (omega (arith, inside))))
