-- Tokens that are written with white space after each are read again.
use Rattle.std.proofs.Common.{◌≡◌, ℕ, ◌+◌, ◌<◌, ◌≤◌, Bool, true, false, not, ◌&&◌, ◌||◌, cond, nat_eq, List, [], ◌∷◌, ◌++◌, length, None, Result, Ok, All, codes, refl, ap, subst, sym, ◌∙◌, arith, length-append}
use Rattle.std.specs.List.{AllByRecursion as Each}
use Rattle.std.proofs.lemmas.Bool.Decides.{nat_tests}
use Rattle.std.proofs.lemmas.List.Elements.{recursion_from_All}
use Rattle.std.specs.List.{list_all}
use Rattle.mc_lex.specs.declared.token.Dialect.{Dialect}
use Rattle.mc_lex.specs.declared.token.TokenKind.{TokenKind}
use Rattle.mc_lex.specs.declared.fault_kind.FaultKind.{FaultKind}
use Rattle.mc_lex.specs.declared.candidate.Class.{Class}
use Rattle.mc_lex.specs.declared.candidate.Class.TheVariants as class
use Rattle.mc_lex.specs.Bytes.{is_digit, is_letter, is_word_byte, is_white_space}
use Rattle.mc_lex.specs.Words.{one_of, is_word}
use Rattle.mc_lex.specs.Numbers.{is_exponent, is_sign, continues, each_continues, starts_number, is_number}
use Rattle.mc_lex.specs.Characters.{IsCharacter}
use Rattle.mc_lex.specs.Gaps.{begins_comment}
use Rattle.mc_lex.specs.Gaps as gap
use Rattle.mc_lex.specs.Tokens.{Tok}
use Rattle.mc_lex.specs.Scans.{Means, IsLongest, Scans}
use Rattle.mc_lex.specs.Scans as r
use Rattle.mc_lex.specs.steps.Scanner.{punctuators_and_openings, character_at, length_of, starts_with_byte}
use Rattle.mc_lex.proofs.Texts.{both, is_false, not_both, same_byte, passes, all_weaker}
use Rattle.mc_lex.proofs.Characters.{character_found}
use Rattle.mc_lex.proofs.Candidates.{Stands, stands_full, stands_apart, stood}
use Rattle.mc_print.specs.Pens.{spaced, texts_of}
use Rattle.reread_law_printed.specs.spelled.Words.{IsToken, laid}

-- ---- no white space in a word, a number or a punctuator

abbrev is_dark : ℕ → Bool
is_dark b = not (is_white_space b)

abbrev is_dense : List ℕ → Bool
is_dense text = list_all is_dark text

word_dark : (b : ℕ) → is_word_byte b ≡ true → is_dark b ≡ true
word_dark b h = let white : is_white_space b ≡ false = grind (arith, nat_tests) in rw white refl

-- a byte that may stand in a number
abbrev is_inside : ℕ → Bool
is_inside b = is_word_byte b || nat_eq b 46 || is_sign b

inside_dark : (b : ℕ) → is_inside b ≡ true → is_dark b ≡ true
inside_dark b h = let white : is_white_space b ≡ false = grind (arith, nat_tests) in rw white refl

continues_inside : (a b : ℕ) → continues a b ≡ true → is_inside b ≡ true
continues_inside a b h = part (is_word_byte b) (nat_eq b 46) (is_exponent a) (is_sign b) h
  where
    part : (s t u v : Bool) → (s || t || (u && v)) ≡ true → (s || t || v) ≡ true
    part true t u v e = refl
    part false true u v e = refl
    part false false u v e = (both u v e).1

each_dense : (a : ℕ) (bs : List ℕ) → each_continues a bs ≡ true → is_dense bs ≡ true
each_dense a [] h = refl
each_dense a (b ∷ bs) h =
    let two = both (continues a b) (each_continues b bs) h in
    rw (inside_dark b (continues_inside a b two.0)) (each_dense b bs two.1)

after_first : (b : ℕ) (bs : List ℕ) → (is_dark b && not (nat_eq b 35)) ≡ true → is_dense bs ≡ true → is_dense (b ∷ bs) ≡ true
after_first b bs h rest = rw (both (is_dark b) (not (nat_eq b 35)) h).0 rest

word_dense : (text : List ℕ) → is_word text ≡ true → is_dense text ≡ true
word_dense [] s = refl
word_dense (b ∷ bs) s = after_first b bs (stands_apart class.Word (b ∷ bs) s) (all_weaker is_word_byte is_dark word_dark bs (both (is_letter b) (list_all is_word_byte bs) s).1)

number_dense : (text : List ℕ) → is_number text ≡ true → is_dense text ≡ true
number_dense [] s = refl
number_dense (b ∷ bs) s = after_first b bs (stands_apart class.Number (b ∷ bs) s) (each_dense b bs (both (starts_number b bs) (each_continues b bs) s).1)

punctuator_dense : (text : List ℕ) → one_of punctuators_and_openings text ≡ true → is_dense text ≡ true
unfolding punctuators_and_openings
punctuator_dense text s = passes is_dense punctuators_and_openings text refl s

-- white space ends it
dense_most : (other rest text after : List ℕ) (b : ℕ) → is_dense other ≡ true → is_white_space b ≡ true → text ++ (b ∷ after) ≡ other ++ rest → length other ≤ length text
dense_most [] rest text after b h white e = omega arith
dense_most (x ∷ xs) rest [] after b h white e =
    let same : b ≡ x = cc in
    absurd (not_both (is_white_space x) (ap is_white_space (sym same) ∙ white) (is_false _ (both (is_dark x) (is_dense xs) h).0))
dense_most (x ∷ xs) rest (y ∷ ys) after b h white e =
    let tail : ys ++ (b ∷ after) ≡ xs ++ rest = cc in
    omega (arith, dense_most xs rest ys after b (both (is_dark x) (is_dense xs) h).1 white tail)

-- ---- a character constant

starts_quoted : (text rest : List ℕ) → 0 < length text → starts_with_byte 39 (text ++ rest) ≡ true → starts_with_byte 39 text ≡ true
starts_quoted [] rest some e = absurd (omega (arith, some))
starts_quoted (x ∷ xs) rest some e = e

quoted_no_word : (text : List ℕ) → starts_with_byte 39 text ≡ true → is_word text ≡ true → ⊥
quoted_no_word [] e s = cc
quoted_no_word (b ∷ bs) e s = let first : is_letter b ≡ false = ap is_letter (same_byte b 39 e) in not_both (is_letter b) (both (is_letter b) (list_all is_word_byte bs) s).0 first

quoted_no_start : (bs : List ℕ) → starts_number 39 bs ≡ false
quoted_no_start [] = refl
quoted_no_start (b ∷ bs) = refl

quoted_no_number : (text : List ℕ) → starts_with_byte 39 text ≡ true → is_number text ≡ true → ⊥
quoted_no_number [] e s = cc
quoted_no_number (b ∷ bs) e s =
    not_both (starts_number b bs) (both (starts_number b bs) (each_continues b bs) s).0 (ap (λ x. starts_number x bs) (same_byte b 39 e) ∙ quoted_no_start bs)

quoted_no_punctuator : (text : List ℕ) → starts_with_byte 39 text ≡ true → one_of punctuators_and_openings text ≡ true → ⊥
unfolding punctuators_and_openings
quoted_no_punctuator text e s = not_both (starts_with_byte 39 text) e (is_false _ (passes (λ t. not (starts_with_byte 39 t)) punctuators_and_openings text refl s))

-- what begins with a quote is a character constant
is_quoted : (k : Class) (text : List ℕ) → Stands k text → starts_with_byte 39 text ≡ true → (byte : ℕ) × IsCharacter text byte
is_quoted class.Word text s e = absurd (quoted_no_word text e s)
is_quoted class.Number text s e = absurd (quoted_no_number text e s)
is_quoted class.Character text s e = s
is_quoted class.Punctuator text s e = absurd (quoted_no_punctuator text e s)

character_first : (text rest : List ℕ) (byte : ℕ) → IsCharacter text byte → starts_with_byte 39 (text ++ rest) ≡ true
character_first text rest byte c = ap (λ t. starts_with_byte 39 (t ++ rest)) c.whole

-- its end is found from its start
characters_as_long : (text after other rest : List ℕ) (byte value : ℕ) → IsCharacter text byte → IsCharacter other value → text ++ after ≡ other ++ rest → length other ≤ length text
characters_as_long text after other rest byte value c d e =
    let same : length text ≡ length other =
    ap length_of (sym (character_found text byte c after)) ∙ ap (λ l. length_of (character_at l)) e ∙ ap length_of (character_found other value d rest) in
    omega (arith, same)

-- ---- the longest text

module _ (d : Dialect) (text : List ℕ) (what : Result TokenKind FaultKind) (m : Means d text what) (b : ℕ) (white : is_white_space b ≡ true) where
  full : 0 < length text
  full = let s = stood d text what m in stands_full s.class text s.stands

  most : (k : Class) (other rest after : List ℕ) → Stands k other → text ++ (b ∷ after) ≡ other ++ rest → length other ≤ length text
  most class.Word other rest after s e = dense_most other rest text after b (word_dense other s) white e
  most class.Number other rest after s e = dense_most other rest text after b (number_dense other s) white e
  most class.Punctuator other rest after s e = dense_most other rest text after b (punctuator_dense other s) white e
  most class.Character other rest after s e =
      let t = stood d text what m in
      let first : starts_with_byte 39 text ≡ true = starts_quoted text (b ∷ after) full (ap (starts_with_byte 39) e ∙ character_first other rest s.0 s.1) in
      let c = is_quoted t.class text t.stands first in
      characters_as_long text (b ∷ after) other rest c.0 s.0 c.1 s.1 e

  longest : (after : List ℕ) → IsLongest d text (b ∷ after) (text ++ (b ∷ after)) what
  longest after = record {
    whole = refl;
    means = m;
    longest = λ other rest something w n. let s = stood d other something n in most s.class other rest after s.stands w;
  }

-- ---- no comment begins

letter_no_slash : (b : ℕ) → is_letter b ≡ true → nat_eq b 47 ≡ false
letter_no_slash b h = grind (arith, nat_tests)

digit_no_slash : (b : ℕ) → is_digit b ≡ true → nat_eq b 47 ≡ false
digit_no_slash b h = grind (arith, nat_tests)

white_no_comment : (b : ℕ) → is_white_space b ≡ true → (nat_eq b 42 || nat_eq b 47) ≡ false
white_no_comment b h =
    let star : nat_eq b 42 ≡ false = grind (arith, nat_tests) in
    let slash : nat_eq b 47 ≡ false = grind (arith, nat_tests) in
    rw (star, slash) refl

no_slash : (b c : ℕ) (bs : List ℕ) → nat_eq b 47 ≡ false → begins_comment (b ∷ c ∷ bs) ≡ false
no_slash b c bs e = rw e refl

number_no_slash : (b : ℕ) (bs : List ℕ) → starts_number b bs ≡ true → nat_eq b 47 ≡ false
number_no_slash b [] h = digit_no_slash b h
number_no_slash b (c ∷ cs) h = by_digit (is_digit b) refl h
  where
    by_digit : (t : Bool) → is_digit b ≡ t → (t || (nat_eq b 46 && is_digit c)) ≡ true → nat_eq b 47 ≡ false
    by_digit true e h = digit_no_slash b e
    by_digit false e h = ap (λ x. nat_eq x 47) (same_byte b 46 (both (nat_eq b 46) (is_digit c) h).0)

quote_no_comment : (inside : List ℕ) → begins_comment ((39 ∷ inside) ++ (39 ∷ [])) ≡ false
quote_no_comment [] = refl
quote_no_comment (b ∷ bs) = refl

stands_no_comment : (k : Class) (text : List ℕ) → Stands k text → begins_comment text ≡ false
unfolding punctuators_and_openings
stands_no_comment class.Word [] s = refl
stands_no_comment class.Word (b ∷ []) s = refl
stands_no_comment class.Word (b ∷ c ∷ bs) s = no_slash b c bs (letter_no_slash b (both (is_letter b) (list_all is_word_byte (c ∷ bs)) s).0)
stands_no_comment class.Number [] s = refl
stands_no_comment class.Number (b ∷ []) s = refl
stands_no_comment class.Number (b ∷ c ∷ bs) s = no_slash b c bs (number_no_slash b (c ∷ bs) (both (starts_number b (c ∷ bs)) (each_continues b (c ∷ bs)) s).0)
stands_no_comment class.Character text s = ap begins_comment (s.1).whole ∙ quote_no_comment (s.1).inside
stands_no_comment class.Punctuator text s = is_false _ (passes (λ t. not (begins_comment t)) punctuators_and_openings text refl s)

no_comment : (text after : List ℕ) (b : ℕ) → 0 < length text → begins_comment text ≡ false → is_white_space b ≡ true → begins_comment (text ++ (b ∷ after)) ≡ false
no_comment [] after b some h white = absurd (omega (arith, some))
no_comment (x ∷ []) after b some h white = rw (white_no_comment b white) (and_false (nat_eq x 47))
  where
    and_false : (t : Bool) → (t && false) ≡ false
    and_false true = refl
    and_false false = refl
no_comment (x ∷ y ∷ more) after b some h white = h

-- ---- the tokens

module _ (d : Dialect) where
  abbrev Reads : List ℕ → List ℕ → ℕ → List Tok → Type 0
  Reads before bytes at ts = Scans d before bytes (laid at ts) None

  -- a token, a byte of white space, and the others
  one_more : (before after : List ℕ) (t : Tok) (ts : List Tok) (b : ℕ) → IsToken d t → is_white_space b ≡ true → ((more : List ℕ) → Reads more after (length more) ts) → Reads before (t.text ++ (b ∷ after)) (length before) (t ∷ ts)
  one_more before after t ts b m white later =
      let s = stood d t.text (Ok t.kind) m in
      let more : List ℕ = (before ++ t.text) ++ (b ∷ []) in
      let place : length more ≡ length before + length t.text + 1 = omega (arith, length-append (before ++ t.text) (b ∷ []), length-append before t.text) in
      r.token before t.text (b ∷ after) (t.text ++ (b ∷ after)) t.kind _ None
      (no_comment t.text after b (stands_full s.class t.text s.stands) (stands_no_comment s.class t.text s.stands) white)
      (longest d t.text (Ok t.kind) m b white after)
      (r.gap (before ++ t.text) (b ∷ []) after (b ∷ after) _ None refl (gap.white_space b after white)
      (subst (λ n. Reads more after n ts) place (later more)))

  after_gap : (before after : List ℕ) (t : Tok) (ts : List Tok) (line : Bool) → IsToken d t → ((more : List ℕ) → Reads more after (length more) ts)
      → Reads before (t.text ++ (cond line (10 ∷ []) (32 ∷ []) ++ after)) (length before) (t ∷ ts)
  after_gap before after t ts true m later = one_more before after t ts 10 m refl later
  after_gap before after t ts false m later = one_more before after t ts 32 m refl later

  each_read : (before : List ℕ) (ts : List Tok) → Each (IsToken d) ts → Reads before (spaced (texts_of ts)) (length before) ts
  each_read before [] h = r.ends before
  each_read before (t ∷ []) h = one_more before [] t [] 10 h.0 refl (λ more. r.ends more)
  each_read before (t ∷ u ∷ ts) h = after_gap before (spaced (texts_of (u ∷ ts))) t (u ∷ ts) (one_of (codes ";" ∷ codes "{" ∷ codes "}" ∷ []) t.text) h.0 (λ more. each_read more (u ∷ ts) h.1)

  pub spaced_scan : (ts : List Tok) → All (IsToken d) ts → Scans d [] (spaced (texts_of ts)) (laid 0 ts) None
  spaced_scan ts h = each_read [] ts (recursion_from_All (IsToken d) ts h)
