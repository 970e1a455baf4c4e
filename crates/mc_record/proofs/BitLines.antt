-- Bits that were written are read as the same bits, and what is read has no spare bit.
use Rattle.std.proofs.Common.{◌≡◌, ◌∙◌, ◌+◌, ◌-◌, ◌*◌, ◌/◌, ◌%◌, ◌<◌, ◌≤◌, ◌^◌, ℕ, zero, suc, Bool, true, false, nat_lt, List, [], ◌∷◌, ◌++◌, length, take, drop, get_or, Option, Some, None, refl, sym, ap, subst, arith, inl, inr, append_assoc, length-append}
use Rattle.std.specs.Prelude.{◌==◌, All, flat_map, map, Result, Ok, Err}
use Rattle.std.specs.Int.{bit_at}
use Rattle.std.specs.List.{concat, range_with_len}
use Rattle.std.proofs.Math.ListN.{get_or-append}
use Rattle.std.proofs.Math.Nat.{add-mul, div-add-mod, div-eq_of_lt, mod-lt, mul-le-mul_right, mul_comm, one-le-pow, pow-le-pow_right}
use Rattle.std.proofs.Math.Seq.{take-add}
use Rattle.std.proofs.lemmas.Bool.{cases_Bool, cases_lt}
use Rattle.std.proofs.lemmas.Bool.Decides.{Decides-eqb, Decides-ltb}
use Rattle.std.proofs.lemmas.List.{append-nil, drop_at, drop-drop, get_or-append-add, get_or-drop, get_or-take, length-drop, length-take-le, take_all}
use Rattle.std.proofs.lemmas.List.Elements.{All-drop, All-take}
use Rattle.std.proofs.lemmas.Nat.Bits.{bit_at_above, bit_at_cat_low, same_from_bits_below}
use Rattle.mc_core.specs.Laws.{AreWords}
use Rattle.mc_core.specs.Matrix.{MatrixView, bit_of}
use Rattle.mc_core.specs.Shape.{rows}
use Rattle.mc_core.specs.declared.shape.Shape.{Shape}
use Rattle.mc_record.specs.Bits.{bits_in, has_no_spare, row_in, with_row}
use Rattle.mc_record.specs.Digits.{word_in, words_in}
use Rattle.mc_record.specs.Lines.{bit_front, bit_line, bit_lines, newline, row_of, word_text}
use Rattle.mc_record.specs.Parts.{read_on, strip, with_part}
use Rattle.mc_record.specs.declared.fault.RecordFault.{RecordFault}
use Rattle.mc_record.specs.declared.fault.RecordFault.TheVariants as fault
use Rattle.mc_record.specs.Seen.{onto}
use Rattle.mc_record.proofs.Fronts.{many_are, many_next, many_none, same_pair, strip_front}
use Rattle.mc_record.proofs.Hexadecimal.{words_read}
use Rattle.mc_record.proofs.Numbers.{and_parts}

-- ---- a line

abbrev row_after : List ℕ → ℕ → List ℕ → Option (List ℕ × List ℕ)
row_after front count text =
    with_part (strip front text) (λ words.
    with_part (words_in count words) (λ row.
    with_part (strip newline row.1) (λ rest. Some (row.0, rest))))

row_from : (front words rest : List ℕ) → All (λ w. w < 2 ^ 64) words → row_after front (length words) (front ++ (flat_map word_text words ++ (newline ++ rest))) ≡ Some (words, rest)
row_from front words rest small = rw (strip_front front (flat_map word_text words ++ (newline ++ rest)), words_read words (newline ++ rest) small) refl

line_shape : (first second last rest : List ℕ) → (first ++ (second ++ last)) ++ rest ≡ first ++ (second ++ (last ++ rest))
line_shape first second last rest = simp append_assoc

pub row_read : (b : ℕ) (words rest : List ℕ) → All (λ w. w < 2 ^ 64) words → row_in b (length words) (bit_line b words ++ rest) ≡ Some (words, rest)
row_read b words rest small =
    ap (row_in b (length words)) (line_shape (bit_front b) (flat_map word_text words) newline rest)
    ∙ row_from (bit_front b) words rest small

-- a row that is read has so many words
pub row_long : (b count : ℕ) (text row rest : List ℕ) → row_in b count text ≡ Some (row, rest) → length row ≡ count
row_long b count text row rest is = by_front (strip (bit_front b) text) is
  where
    by_line : (ws : List ℕ) (o : Option (List ℕ)) → length ws ≡ count → with_part {B = List ℕ × List ℕ} o (λ r. Some (ws, r)) ≡ Some (row, rest) → length row ≡ count
    by_line ws None long found = absurd (cc found)
    by_line ws (Some r) long found = sym (ap length (same_pair ws row r rest found).0) ∙ long

    by_words : (words : List ℕ) (o : Option (List ℕ × List ℕ)) → words_in count words ≡ o → with_part {B = List ℕ × List ℕ} o (λ found. with_part {B = List ℕ × List ℕ} (strip newline found.1) (λ r. Some (found.0, r))) ≡ Some (row, rest) → length row ≡ count
    by_words words None are found = absurd (cc found)
    by_words words (Some (ws, end)) are found =
        let any : ℕ → Type 0 = λ _. ◌≡◌ {A = ℕ} 0 0 in
        by_line ws (strip newline end) (many_are word_in any (λ text rest n is. refl) count words ws end are).0 found

    by_front : (o : Option (List ℕ)) → with_part {B = List ℕ × List ℕ} o (λ words. with_part {B = List ℕ × List ℕ} (words_in count words) (λ found. with_part {B = List ℕ × List ℕ} (strip newline found.1) (λ r. Some (found.0, r)))) ≡ Some (row, rest) → length row ≡ count
    by_front None found = absurd (cc found)
    by_front (Some words) found = by_words words (words_in count words) refl found

-- ---- spare bits

pub low_only : (w k : ℕ) → w < 2 ^ 64 → ((j : ℕ) → k ≤ j → j < 64 → bit_at w j ≡ 0) → w < 2 ^ k
low_only w k less clear = elim (cases_lt k 64) [
  | inl under ↦
      let pos : 0 < 2 ^ k = one-le-pow k 2 (omega arith) in
      let part : w % 2 ^ k < 2 ^ k = mod-lt w pos in
      let most : k ≤ 64 = omega (arith, under) in
      let fits : 2 ^ k ≤ 2 ^ 64 = pow-le-pow_right (omega arith) most in
      let whole : (w / 2 ^ k) * 2 ^ k + w % 2 ^ k ≡ w = omega (arith, div-add-mod w (2 ^ k), mul_comm (2 ^ k) (w / 2 ^ k)) in
      let same : w ≡ w % 2 ^ k = same_from_bits_below 64 w (w % 2 ^ k) less (omega arith) (λ i below. by_place i below pos part whole) in
      subst (λ n. n < 2 ^ k) (sym same) part
  | inr over ↦ let least : 64 ≤ k = omega (arith, over) in let fits : 2 ^ 64 ≤ 2 ^ k = pow-le-pow_right (omega arith) least in omega arith
]
  where
    by_place : (i : ℕ) → i < 64 → 0 < 2 ^ k → w % 2 ^ k < 2 ^ k → (w / 2 ^ k) * 2 ^ k + w % 2 ^ k ≡ w → bit_at w i ≡ bit_at (w % 2 ^ k) i
    by_place i below pos part whole = elim (cases_lt i k) [
      | inl low ↦ sym (ap (λ n. bit_at n i) whole) ∙ bit_at_cat_low (w / 2 ^ k) k (w % 2 ^ k) i low
      | inr high ↦ clear i high below ∙ sym (bit_at_above (w % 2 ^ k) k i part high)
    ]

pub no_spare_from : (words : List ℕ) (tests : ℕ) → All (λ w. w < 2 ^ 64) words → ((i j : ℕ) → i < length words → j < 64 → tests ≤ 64 * i + j → bit_at (get_or words i 0) j ≡ 0) → has_no_spare tests words ≡ true
no_spare_from [] tests small clear = refl
no_spare_from (w ∷ words) tests small clear =
    let here : w < 2 ^ tests = low_only w tests (small 0 w (omega arith)) (λ j le less. clear 0 j (omega arith) less (omega (arith, le))) in
    let test : nat_lt w (2 ^ tests) ≡ true = (Decides-ltb w (2 ^ tests)).1 here in
    rw test (no_spare_from words (tests - 64) (λ k d inside. small (suc k) d (omega (arith, inside))) (λ i j inside less le. clear (suc i) j (omega (arith, inside)) less (omega (arith, le))))

pub spare_clear : (words : List ℕ) (tests i j : ℕ) → has_no_spare tests words ≡ true → tests ≤ 64 * i + j → i < length words → bit_at (get_or words i 0) j ≡ 0
spare_clear [] tests i j none le inside = absurd (omega (arith, inside))
spare_clear (w ∷ words) tests zero j none le inside =
    let here = (Decides-ltb w (2 ^ tests)).0 (and_parts (nat_lt w (2 ^ tests)) (has_no_spare (tests - 64) words) none).0 in
    bit_at_above w tests j here (omega (arith, le))
spare_clear (w ∷ words) tests (suc i) j none le inside =
    spare_clear words (tests - 64) i j (and_parts (nat_lt w (2 ^ tests)) (has_no_spare (tests - 64) words) none).1 (omega (arith, le)) (omega (arith, inside))

-- ---- the rows of a matrix

module _ (m : MatrixView) (are : AreWords m.shape m.words) where
  abbrev long : ℕ
  long = rows m.shape

  row_end : (b : ℕ) → b < m.shape.bits → b * long + long ≤ length m.words
  row_end b less =
      let most : (b + 1) * long ≤ m.shape.bits * long = mul-le-mul_right long (omega (arith, less)) in
      omega (arith, most, add-mul b 1 long, are.sound.whole)

  row_length : (b : ℕ) → b < m.shape.bits → length (row_of m b) ≡ long
  row_length b less = length-take-le long (drop (b * long) m.words) (omega (arith, length-drop (b * long) m.words, row_end b less))

  row_small : (b : ℕ) → All (λ w. w < 2 ^ 64) (row_of m b)
  row_small b = All-take (λ w. w < 2 ^ 64) long (drop (b * long) m.words) (All-drop (λ w. w < 2 ^ 64) (b * long) m.words are.fit)

  row_clear : (b : ℕ) → b < m.shape.bits → has_no_spare m.shape.tests (row_of m b) ≡ true
  row_clear b less = no_spare_from (row_of m b) m.shape.tests (row_small b) clear
    where
      clear : (i j : ℕ) → i < length (row_of m b) → j < 64 → m.shape.tests ≤ 64 * i + j → bit_at (get_or (row_of m b) i 0) j ≡ 0
      clear i j inside below le =
          let short : i < long = omega (arith, inside, row_length b less) in
          let place : (64 * i + j) / 64 ≡ i = omega (arith, below) in
          let digit : (64 * i + j) % 64 ≡ j = omega (arith, below) in
          let spare = are.sound.spare b (64 * i + j) less le (omega (arith, short, below)) in
          let here : get_or (row_of m b) i 0 ≡ get_or m.words (b * long + i) 0 = get_or-take long (drop (b * long) m.words) i 0 short ∙ get_or-drop (b * long) m.words i 0 in
          ap (λ w. bit_at w j) here ∙ (rw (place, digit) at spare)

  abbrev rest_of : ℕ → ℕ → List ℕ
  rest_of b n = take (n * long) (drop (b * long) m.words)

  next_rest : (b n : ℕ) (words : List ℕ) → (words ++ row_of m b) ++ rest_of (b + 1) n ≡ words ++ rest_of b (suc n)
  next_rest b n words =
      let from : drop ((b + 1) * long) m.words ≡ drop long (drop (b * long) m.words) = ap (λ k. drop k m.words) (omega (arith, add-mul b 1 long)) ∙ sym (drop-drop long (b * long) m.words) in
      let count : suc n * long ≡ long + n * long = omega (arith, add-mul 1 n long) in
      append_assoc words (row_of m b) (rest_of (b + 1) n)
      ∙ ap (λ (l : List ℕ). words ++ (row_of m b ++ take (n * long) l)) from
      ∙ ap (λ (l : List ℕ). words ++ l) (sym (take-add long (n * long) (drop (b * long) m.words)) ∙ ap (λ k. take k (drop (b * long) m.words)) (sym count))

  abbrev lines_from : ℕ → ℕ → List ℕ
  lines_from b n = concat (map (λ i. bit_line i (row_of m i)) (range_with_len b n))

  pub bits_read : (n b : ℕ) (words rest : List ℕ) → b + n ≤ m.shape.bits → bits_in m.shape b words n (lines_from b n ++ rest) ≡ Ok (words ++ rest_of b n, rest)
  bits_read zero b words rest le =
      let none : 0 * long ≡ 0 = omega arith in
      ap (λ (l : List ℕ). Ok (l, rest)) (sym (ap (λ k. words ++ take k (drop (b * long) m.words)) none ∙ append-nil words))
  bits_read (suc n) b words rest le =
      let less : b < m.shape.bits = omega arith in
      let line : row_in b long ((bit_line b (row_of m b) ++ lines_from (b + 1) n) ++ rest) ≡ Some (row_of m b, lines_from (b + 1) n ++ rest) =
      ap (row_in b long) (append_assoc (bit_line b (row_of m b)) (lines_from (b + 1) n) rest)
      ∙ subst (λ k. row_in b k (bit_line b (row_of m b) ++ (lines_from (b + 1) n ++ rest)) ≡ Some (row_of m b, lines_from (b + 1) n ++ rest)) (row_length b less) (row_read b (row_of m b) (lines_from (b + 1) n ++ rest) (row_small b)) in
      let later = bits_read n (b + 1) (words ++ row_of m b) rest (omega arith) in
      ap (λ (o : Option (List ℕ × List ℕ)). read_on (with_row (5 + m.shape.tests + b) m.shape.tests words o) (λ w. bits_in m.shape (b + 1) w.0 n w.1)) line
      ∙ rw (row_clear b less) (later ∙ ap (λ (l : List ℕ). Ok (l, rest)) (next_rest b n words))

  pub all_bits_read : (rest : List ℕ) → bits_in m.shape 0 [] m.shape.bits (concat (bit_lines m) ++ rest) ≡ Ok (m.words, rest)
  all_bits_read rest =
      let none : 0 * long ≡ 0 = omega arith in
      let all : take (m.shape.bits * long) (drop (0 * long) m.words) ≡ m.words = ap (λ k. take (m.shape.bits * long) (drop k m.words)) none ∙ take_all (m.shape.bits * long) m.words (omega (arith, are.sound.whole)) in
      bits_read m.shape.bits 0 [] rest (omega arith) ∙ ap (λ (l : List ℕ). Ok (l, rest)) all

-- ---- what is read

module _ (shape : Shape) where
  -- the words of the first bits, which have no spare bit
  pub record AreRows (b : ℕ) (words : List ℕ) : Type 0 where
    pub many : length words ≡ b * rows shape
    pub clear : (a t : ℕ) → a < b → shape.tests ≤ t → t < 64 * rows shape → bit_of shape words a t ≡ 0

  next_rows : (b : ℕ) (words row : List ℕ) → AreRows b words → length row ≡ rows shape → has_no_spare shape.tests row ≡ true → AreRows (b + 1) (words ++ row)
  next_rows b words row are long none = record {
    many = omega (arith, length-append words row, are.many, long, add-mul b 1 (rows shape));
    clear = λ a t less le within. elim (cases_lt a b) [
      | inl before ↦
          let most : (a + 1) * rows shape ≤ b * rows shape = mul-le-mul_right (rows shape) (omega (arith, before)) in
          let inside : a * rows shape + t / 64 < length words = omega (arith, most, add-mul a 1 (rows shape), are.many, within) in
          ap (λ w. bit_at w (t % 64)) (get_or-append words row 0 (a * rows shape + t / 64) inside) ∙ are.clear a t before le within
      | inr last ↦
          let same : a ≡ b = omega (arith, less, last) in
          let place : a * rows shape + t / 64 ≡ length words + t / 64 = omega (arith, are.many, ap (λ n. n * rows shape) same) in
          let whole : 64 * (t / 64) + t % 64 ≡ t = omega arith in
          ap (λ n. bit_at (get_or (words ++ row) n 0) (t % 64)) place
          ∙ ap (λ w. bit_at w (t % 64)) (get_or-append-add words row (t / 64) 0)
          ∙ spare_clear row shape.tests (t / 64) (t % 64) none (omega (arith, le, whole)) (omega (arith, long, within))
    ];
  }

  pub bits_are : (n b : ℕ) (words text found rest : List ℕ) → AreRows b words → bits_in shape b words n text ≡ Ok (found, rest) → AreRows (b + n) found
  bits_are zero b words text found rest are is =
      let e : ◌≡◌ {A = List ℕ × List ℕ} (words, text) (found, rest) = cc in
      let same : b + 0 ≡ b = omega arith in
      subst (λ k. AreRows k found) (sym same) (subst (λ (l : List ℕ). AreRows b l) (ap (λ (p : List ℕ × List ℕ). p.0) e) are)
  bits_are (suc n) b words text found rest are is = by_row (row_in b (rows shape) text) refl is (bits_are n (b + 1))
    where
      by_row : (o : Option (List ℕ × List ℕ)) → row_in b (rows shape) text ≡ o → read_on (with_row (5 + shape.tests + b) shape.tests words o) (λ w. bits_in shape (b + 1) w.0 n w.1) ≡ Ok (found, rest)
          → ((words text found rest : List ℕ) → AreRows (b + 1) words → bits_in shape (b + 1) words n text ≡ Ok (found, rest) → AreRows (b + 1 + n) found) → AreRows (b + suc n) found
      by_row None row read later = absurd (cc read)
      by_row (Some (line, after)) row read later = elim (cases_Bool (has_no_spare shape.tests line)) [
        | inl none ↦
            let count : b + 1 + n ≡ b + suc n = omega arith in
            subst (λ k. AreRows k found) count (later (words ++ line) after found rest (next_rows b words line are (row_long b (rows shape) text line after row) none) (rw none at read))
        | inr some ↦ absurd (cc (rw some at read))
      ]

-- ---- what the code asks

pub fits_less : (w tests : ℕ) → w < 2 ^ 64 → tests < 64 → (w / 2 ^ tests == 0) ≡ nat_lt w (2 ^ tests)
fits_less w tests small less =
    let pos : 0 < 2 ^ tests = one-le-pow tests 2 (omega arith) in
    elim (cases_lt w (2 ^ tests)) [
      | inl under ↦
          let none : w / 2 ^ tests ≡ 0 = div-eq_of_lt under in
          let holds : nat_lt w (2 ^ tests) ≡ true = (Decides-ltb w (2 ^ tests)).1 under in
          rw (none, holds) refl
      | inr over ↦ elim (cases_Bool (w / 2 ^ tests == 0)) [
        | inl none ↦
            let zeros : w / 2 ^ tests ≡ 0 = (Decides-eqb (w / 2 ^ tests) 0).0 none in
            let part : w % 2 ^ tests < 2 ^ tests = mod-lt w pos in
            absurd (omega (arith, div-add-mod w (2 ^ tests), ap (λ n. 2 ^ tests * n) zeros))
        | inr some ↦ elim (cases_Bool (nat_lt w (2 ^ tests))) [
          | inl under ↦ absurd (omega (arith, (Decides-ltb w (2 ^ tests)).0 under, over))
          | inr beyond ↦ some ∙ sym beyond
        ]
      ]
    ]

pub fits_all : (w tests : ℕ) → w < 2 ^ 64 → 64 ≤ tests → true ≡ nat_lt w (2 ^ tests)
fits_all w tests small least =
    let more : 2 ^ 64 ≤ 2 ^ tests = pow-le-pow_right (omega arith) least in
    sym ((Decides-ltb w (2 ^ tests)).1 (omega arith))

pub words_step : (front words next text left rest : List ℕ) (count i w : ℕ) → i < count → word_in left ≡ Some (w, rest) → next ≡ words ++ w ∷ [] → onto front (words_in count text) ≡ onto words (words_in (count - i) left)
    → onto front (words_in count text) ≡ onto next (words_in (count - (i + 1)) rest)
words_step front words next text left rest count i w less first pushed so_far =
    let more : count - i ≡ suc (count - (i + 1)) = omega arith in
    so_far ∙ ap (λ n. onto words (words_in n left)) more ∙ many_next word_in words (count - (i + 1)) w left rest first ∙ ap (λ (l : List ℕ). onto l (words_in (count - (i + 1)) rest)) (sym pushed)

onto_none : (front : List ℕ) (o : Option (List ℕ × List ℕ)) → onto front o ≡ None → o ≡ None
onto_none front None is = refl
onto_none front (Some p) is = absurd (cc is)

pub words_stop : (front words text left : List ℕ) (count i : ℕ) → i < count → word_in left ≡ None → onto front (words_in count text) ≡ onto words (words_in (count - i) left) → words_in count text ≡ None
words_stop front words text left count i less none so_far =
    let more : count - i ≡ suc (count - (i + 1)) = omega arith in
    onto_none front (words_in count text) (so_far ∙ ap (λ n. onto words (words_in n left)) more ∙ ap (onto words) (many_none word_in (count - (i + 1)) left none))

pub words_end : (front words text left : List ℕ) (count i : ℕ) → count ≤ i → onto front (words_in count text) ≡ onto words (words_in (count - i) left) → onto front (words_in count text) ≡ Some (words, left)
words_end front words text left count i over so_far =
    let none : count - i ≡ 0 = omega arith in
    so_far ∙ ap (λ n. onto words (words_in n left)) none ∙ ap (λ (l : List ℕ). Some (l, left)) (append-nil words)

-- ---- a line, step by step

module _ (b count line tests : ℕ) (text words : List ℕ) where
  abbrev outcome : Result (List ℕ × List ℕ) RecordFault
  outcome = with_row line tests words (row_in b count text)

  pub row_no_front : strip (bit_front b) text ≡ None → outcome ≡ Err (fault.Word line)
  row_no_front none = rw none refl

  module _ (digits : List ℕ) (front : strip (bit_front b) text ≡ Some digits) where
    pub row_no_words : words_in count digits ≡ None → outcome ≡ Err (fault.Word line)
    row_no_words none = rw (front, none) refl

    module _ (new end : List ℕ) (found : onto words (words_in count digits) ≡ Some (new, end)) where
      pub row_no_end : strip newline end ≡ None → outcome ≡ Err (fault.Word line)
      row_no_end none = by_words (words_in count digits) refl found
        where
          by_words : (o : Option (List ℕ × List ℕ)) → words_in count digits ≡ o → onto words o ≡ Some (new, end) → outcome ≡ Err (fault.Word line)
          by_words None is e = absurd (cc e)
          by_words (Some (row, after)) is e =
              let last : after ≡ end = (same_pair (words ++ row) new after end e).1 in
              let stop : strip newline after ≡ None = ap (strip newline) last ∙ none in
              rw (front, is, stop) refl

      module _ (rest : List ℕ) (ended : strip newline end ≡ Some rest) where
        abbrev judged : Bool
        judged = has_no_spare tests (take (length new - length words) (drop (length words) new))

        row_whole : (row after : List ℕ) → words_in count digits ≡ Some (row, after) → onto words (Some (row, after)) ≡ Some (new, end) → (row_in b count text ≡ Some (row, rest)) × (words ++ row ≡ new) × (judged ≡ has_no_spare tests row)
        row_whole row after is e =
            let same = same_pair (words ++ row) new after end e in
            let stop : strip newline after ≡ Some rest = ap (strip newline) same.1 ∙ ended in
            let row_is : drop (length words) new ≡ row = ap (drop (length words)) (sym same.0) ∙ drop_at words row (length words) refl in
            let count_is : length row ≤ length new - length words = omega (arith, ap length same.0, length-append words row) in
            let taken : take (length new - length words) (drop (length words) new) ≡ row = ap (take (length new - length words)) row_is ∙ take_all (length new - length words) row count_is in
            (rw (front, is, stop) refl, same.0, ap (has_no_spare tests) taken)

        pub row_ok : judged ≡ true → outcome ≡ Ok (new, rest)
        row_ok none = by_words (words_in count digits) refl found
          where
            by_words : (o : Option (List ℕ × List ℕ)) → words_in count digits ≡ o → onto words o ≡ Some (new, end) → outcome ≡ Ok (new, rest)
            by_words None is e = absurd (cc e)
            by_words (Some (row, after)) is e =
                let whole = row_whole row after is e in
                let clear : has_no_spare tests row ≡ true = sym whole.2 ∙ none in
                ap (with_row line tests words) whole.0 ∙ rw clear (ap (λ (l : List ℕ). Ok (l, rest)) whole.1)

        pub row_spare : judged ≡ false → outcome ≡ Err (fault.SpareBit line)
        row_spare some = by_words (words_in count digits) refl found
          where
            by_words : (o : Option (List ℕ × List ℕ)) → words_in count digits ≡ o → onto words o ≡ Some (new, end) → outcome ≡ Err (fault.SpareBit line)
            by_words None is e = absurd (cc e)
            by_words (Some (row, after)) is e =
                let whole = row_whole row after is e in
                let spare : has_no_spare tests row ≡ false = sym whole.2 ∙ some in
                ap (with_row line tests words) whole.0 ∙ rw spare refl

-- one bit more, of those that are left
pub bits_step : (shape : Shape) (b : ℕ) (words new text rest : List ℕ) → b < shape.bits → with_row (5 + shape.tests + b) shape.tests words (row_in b (rows shape) text) ≡ Ok (new, rest)
    → bits_in shape b words (shape.bits - b) text ≡ bits_in shape (b + 1) new (shape.bits - (b + 1)) rest
bits_step shape b words new text rest less is =
    let more : shape.bits - b ≡ suc (shape.bits - (b + 1)) = omega arith in
    rw more (ap (λ (r : Result (List ℕ × List ℕ) RecordFault). read_on r (λ w. bits_in shape (b + 1) w.0 (shape.bits - (b + 1)) w.1)) is)

pub bits_stop : (shape : Shape) (b : ℕ) (words text : List ℕ) (e : RecordFault) → b < shape.bits → with_row (5 + shape.tests + b) shape.tests words (row_in b (rows shape) text) ≡ Err e
    → bits_in shape b words (shape.bits - b) text ≡ Err e
bits_stop shape b words text e less is =
    let more : shape.bits - b ≡ suc (shape.bits - (b + 1)) = omega arith in
    rw more (ap (λ (r : Result (List ℕ × List ℕ) RecordFault). read_on r (λ w. bits_in shape (b + 1) w.0 (shape.bits - (b + 1)) w.1)) is)
