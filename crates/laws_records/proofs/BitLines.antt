-- The lines of bits that were read stand in the text.
use Rattle.std.proofs.Common.{◌≡◌, ◌∙◌, ◌+◌, ◌*◌, ◌<◌, ◌^◌, ℕ, zero, suc, List, [], ◌++◌, length, take, drop, Option, Some, None, refl, sym, ap, subst, arith, inl, inr, append_assoc, length-append}
use Rattle.std.specs.Prelude.{All, flat_map, map, Ok}
use Rattle.std.specs.List.{concat, range_with_len}
use Rattle.std.proofs.Math.Nat.{add-mul}
use Rattle.std.proofs.lemmas.Bool.{cases_Bool}
use Rattle.std.proofs.lemmas.List.{append-nil, drop_at, take_at}
use Rattle.std.proofs.lemmas.List.Elements.{All-append}
use Rattle.mc_core.specs.Matrix.{MatrixView}
use Rattle.mc_core.specs.Shape.{rows}
use Rattle.mc_core.specs.declared.shape.Shape.{Shape}
use Rattle.mc_record.specs.Bits.{bits_in, has_no_spare, row_in, with_row}
use Rattle.mc_record.specs.Digits.{word_in, words_in}
use Rattle.mc_record.specs.Lines.{bit_front, bit_line, bit_lines, newline, row_of, word_text}
use Rattle.mc_record.specs.Parts.{read_on, strip, with_part}
use Rattle.mc_record.proofs.BitLines.{row_long}
use Rattle.mc_record.proofs.Fronts.{many_are, same_pair}
use Rattle.laws_records.proofs.Figures.{word_only}
use Rattle.laws_records.proofs.Fronts.{many_only, part_some, strip_only}

-- ---- a line

line_shape : (first second last rest : List ℕ) → first ++ (second ++ (last ++ rest)) ≡ (first ++ (second ++ last)) ++ rest
line_shape first second last rest = simp append_assoc

pub row_only : (b count : ℕ) (text row rest : List ℕ) → row_in b count text ≡ Some (row, rest) → (text ≡ bit_line b row ++ rest) × All (λ w. w < 2 ^ 64) row
row_only b count text row rest is =
    let Line : Type 0 = List ℕ × List ℕ in
    let give : List ℕ → List ℕ → Option Line = λ ws after. Some (ws, after) in
    let from_words : Line → Option Line = λ found. with_part {B = Line} (strip newline found.1) (give found.0) in
    let front = part_some (strip (bit_front b) text) (λ words. with_part {B = Line} (words_in count words) from_words) (row, rest) is in
    let words = part_some (words_in count front.0) from_words (row, rest) front.2 in
    let end = part_some (strip newline words.0.1) (give words.0.0) (row, rest) words.2 in
    let same = same_pair words.0.0 row end.0 rest end.2 in
    let written : front.0 ≡ flat_map word_text words.0.0 ++ words.0.1 = many_only word_in word_text (λ t r n found. (word_only t r n found).0) count front.0 words.0.0 words.0.1 words.1 in
    let last : words.0.1 ≡ newline ++ end.0 = strip_only newline words.0.1 end.0 end.1 in
    let small = (many_are word_in (λ w. w < 2 ^ 64) (λ t r n found. (word_only t r n found).1) count front.0 words.0.0 words.0.1 words.1).1 in (
      strip_only (bit_front b) text front.0 front.1
          ∙ ap (λ (l : List ℕ). bit_front b ++ l) (written ∙ (λ i. flat_map word_text (same.0 i) ++ (last ∙ ap (λ (l : List ℕ). newline ++ l) same.1) i))
          ∙ line_shape (bit_front b) (flat_map word_text row) newline rest,
      subst (λ (l : List ℕ). All (λ w. w < 2 ^ 64) l) same.0 small,
    )

-- ---- all lines

module _ (shape : Shape) where
  abbrev matrix_of : List ℕ → MatrixView
  matrix_of words = record { shape = shape; words = words }

  abbrev lines_from : List ℕ → ℕ → ℕ → List ℕ
  lines_from words b n = concat (map (λ i. bit_line i (row_of (matrix_of words) i)) (range_with_len b n))

  -- the words after those before, with their lines
  record AreMore (b n : ℕ) (words text found rest : List ℕ) : Type 0 where
    pub after : List ℕ
    pub words_are : found ≡ words ++ after
    pub small : All (λ w. w < 2 ^ 64) after
    pub lines : text ≡ lines_from found b n ++ rest

  -- a row that was read stands at its place
  row_there : (b : ℕ) (words row more found : List ℕ) → length words ≡ b * rows shape → length row ≡ rows shape → found ≡ (words ++ row) ++ more → row_of (matrix_of found) b ≡ row
  row_there b words row more found many long is =
      let whole : found ≡ words ++ (row ++ more) = is ∙ append_assoc words row more in
      let place : drop (b * rows shape) found ≡ row ++ more = ap (drop (b * rows shape)) whole ∙ drop_at words (row ++ more) (b * rows shape) many in
      ap (take (rows shape)) place ∙ take_at row more (rows shape) long

  one_more : (b n : ℕ) (words text row end found rest : List ℕ) → length words ≡ b * rows shape → length row ≡ rows shape → text ≡ bit_line b row ++ end → All (λ w. w < 2 ^ 64) row
      → AreMore (b + 1) n (words ++ row) end found rest → AreMore b (suc n) words text found rest
  one_more b n words text row end found rest many long line small more =
      let there : row_of (matrix_of found) b ≡ row = row_there b words row more.after found many long more.words_are in
      record {
        after = row ++ more.after;
        words_are = more.words_are ∙ append_assoc words row more.after;
        small = All-append (λ w. w < 2 ^ 64) row more.after small more.small;
        lines = line ∙ (λ i. bit_line b (sym there i) ++ more.lines i) ∙ sym (append_assoc (bit_line b (row_of (matrix_of found) b)) (lines_from found (b + 1) n) rest);
      }

  bits_more : (n b : ℕ) (words text found rest : List ℕ) → length words ≡ b * rows shape → bits_in shape b words n text ≡ Ok (found, rest) → AreMore b n words text found rest
  bits_more zero b words text found rest many is =
      let e : ◌≡◌ {A = List ℕ × List ℕ} (words, text) (found, rest) = cc in
      record {
        after = [];
        words_are = sym (ap (λ (p : List ℕ × List ℕ). p.0) e) ∙ sym (append-nil words);
        small = λ k d inside. absurd (omega (arith, inside));
        lines = ap (λ (p : List ℕ × List ℕ). p.1) e;
      }
  bits_more (suc n) b words text found rest many is = by_row (row_in b (rows shape) text) refl is (bits_more n (b + 1))
    where
      by_row : (o : Option (List ℕ × List ℕ)) → row_in b (rows shape) text ≡ o → read_on (with_row (5 + shape.tests + b) shape.tests words o) (λ w. bits_in shape (b + 1) w.0 n w.1) ≡ Ok (found, rest) → ((words text found rest : List ℕ) → length words ≡ (b + 1) * rows shape → bits_in shape (b + 1) words n text ≡ Ok (found, rest) → AreMore (b + 1) n words text found rest) → AreMore b (suc n) words text found rest
      by_row None row read later = absurd (cc read)
      by_row (Some (line, after)) row read later = elim (cases_Bool (has_no_spare shape.tests line)) [
        | inl none ↦
            let only = row_only b (rows shape) text line after row in
            let long = row_long b (rows shape) text line after row in
            let count : length (words ++ line) ≡ (b + 1) * rows shape = omega (arith, length-append words line, many, long, add-mul b 1 (rows shape)) in
            one_more b n words text line after found rest many long only.0 only.1 (later (words ++ line) after found rest count (rw none at read))
        | inr some ↦ absurd (cc (rw some at read))
      ]

  pub bits_only : (text found rest : List ℕ) → bits_in shape 0 [] shape.bits text ≡ Ok (found, rest) → (text ≡ concat (bit_lines (matrix_of found)) ++ rest) × All (λ w. w < 2 ^ 64) found
  bits_only text found rest is =
      let more = bits_more shape.bits 0 [] text found rest (omega arith) is in
      (more.lines, subst (λ (l : List ℕ). All (λ w. w < 2 ^ 64) l) (sym more.words_are) more.small)
