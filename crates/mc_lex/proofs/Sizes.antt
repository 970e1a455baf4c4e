-- The longest word, number and punctuator at the start.
use Rattle.std.proofs.Common.{◌≡◌, ℕ, suc, ◌+◌, ◌≤◌, Bool, true, false, ◌&&◌, ◌||◌, cond, nat_eq, List, [], ◌∷◌, ◌++◌, length, take, refl, ap, ◌∙◌, arith}
use Rattle.std.specs.List.{prefix_len, list_all}
use Rattle.mc_lex.specs.Bytes.{is_digit, is_letter, is_word_byte}
use Rattle.mc_lex.specs.Words.{one_of, is_word}
use Rattle.mc_lex.specs.Numbers.{continues, each_continues, starts_number, is_number}
use Rattle.mc_lex.specs.steps.Scanner.{word_len, continued, number_len, punctuators_and_openings, punctuator_len}
use Rattle.mc_lex.proofs.Texts.{both, not_both, run_all, run_most, run_within, table_most, table_has, table_within}

one_plus : (n : ℕ) → 1 + n ≡ suc n
one_plus n = omega arith

-- a number with something in it is 1 and the rest
counted : (n m : ℕ) → 1 + n ≡ suc m → m ≡ n
counted n m e = omega arith

-- ---- words

pub word_has : (bs : List ℕ) (n : ℕ) → word_len bs ≡ suc n → is_word (take (suc n) bs) ≡ true
word_has [] n e = absurd (cc)
word_has (b ∷ bs) n e = by_letter (is_letter b) refl e
  where
    by_letter : (t : Bool) → is_letter b ≡ t → cond t (1 + prefix_len is_word_byte bs) 0 ≡ suc n → (is_letter b && list_all is_word_byte (take n bs)) ≡ true
    by_letter true h f = rw (h, counted _ n f) (run_all is_word_byte bs)
    by_letter false h f = absurd (cc)

pub word_most : (other rest bs : List ℕ) → is_word other ≡ true → bs ≡ other ++ rest → length other ≤ word_len bs
word_most [] rest bs h e = absurd (cc)
word_most (x ∷ xs) rest [] h e = absurd (cc)
word_most (x ∷ xs) rest (b ∷ bs) h e =
    let head : b ≡ x = cc in
    let tail : bs ≡ xs ++ rest = cc in
    let two = both (is_letter x) (list_all is_word_byte xs) h in
    let first : is_letter b ≡ true = ap is_letter head ∙ two.0 in
    rw first (omega (arith, run_most is_word_byte xs rest bs two.1 tail))

pub word_within : (bs : List ℕ) → word_len bs ≤ length bs
word_within [] = omega arith
word_within (b ∷ bs) = by_letter (is_letter b)
  where
    by_letter : (t : Bool) → cond t (1 + prefix_len is_word_byte bs) 0 ≤ suc (length bs)
    by_letter true = omega (arith, run_within is_word_byte bs)
    by_letter false = omega arith

-- ---- numbers

continued_all : (a : ℕ) (bs : List ℕ) → each_continues a (take (continued a bs) bs) ≡ true
continued_all a [] = refl
continued_all a (b ∷ bs) = by_first (continues a b) refl (continued_all b bs)
  where
    by_first : (t : Bool) → continues a b ≡ t → each_continues b (take (continued b bs) bs) ≡ true → each_continues a (take (cond t (1 + continued b bs) 0) (b ∷ bs)) ≡ true
    by_first true h rest = rw (one_plus (continued b bs), h) rest
    by_first false h rest = refl

continued_most : (a : ℕ) (other rest bs : List ℕ) → each_continues a other ≡ true → bs ≡ other ++ rest → length other ≤ continued a bs
continued_most a [] rest bs h e = omega arith
continued_most a (x ∷ xs) rest [] h e = absurd (cc)
continued_most a (x ∷ xs) rest (b ∷ bs) h e =
    let head : b ≡ x = cc in
    let tail : bs ≡ xs ++ rest = cc in
    let two = both (continues a x) (each_continues x xs) h in
    let first : continues a b ≡ true = ap (continues a) head ∙ two.0 in
    let later : each_continues b xs ≡ true = ap (λ y. each_continues y xs) head ∙ two.1 in
    rw first (omega (arith, continued_most b xs rest bs later tail))

continued_within : (a : ℕ) (bs : List ℕ) → continued a bs ≤ length bs
continued_within a [] = omega arith
continued_within a (b ∷ bs) = by_first (continues a b) (continued_within b bs)
  where
    by_first : (t : Bool) → continued b bs ≤ length bs → cond t (1 + continued b bs) 0 ≤ suc (length bs)
    by_first true le = omega arith
    by_first false le = omega arith

digit_continues : (a b : ℕ) → is_digit b ≡ true → continues a b ≡ true
digit_continues a b h = first_of_three (is_word_byte b) _ _ (second_of_two (is_letter b) (is_digit b) h)
  where
    second_of_two : (s t : Bool) → t ≡ true → (s || t) ≡ true
    second_of_two true t e = refl
    second_of_two false t e = e

    first_of_three : (s t u : Bool) → s ≡ true → (s || t || u) ≡ true
    first_of_three true t u e = refl
    first_of_three false t u e = absurd (cc)

-- a number starts likewise in front of what goes on with it
starts_next : (a : ℕ) (bs : List ℕ) → starts_number a bs ≡ true → starts_number a (take (continued a bs) bs) ≡ true
starts_next a [] h = h
starts_next a (b ∷ bs) h = by_first (continues a b) refl
  where
    one_or : (t : Bool) → (t || (nat_eq a 46 && is_digit b)) ≡ true → is_digit b ≡ false → t ≡ true
    one_or true e f = refl
    one_or false e f = absurd (not_both (is_digit b) (both (nat_eq a 46) (is_digit b) e).1 f)

    no_digit : (t : Bool) → is_digit b ≡ t → continues a b ≡ false → is_digit b ≡ false
    no_digit true d f = absurd (not_both (continues a b) (digit_continues a b d) f)
    no_digit false d f = d

    by_first : (t : Bool) → continues a b ≡ t → starts_number a (take (cond t (1 + continued b bs) 0) (b ∷ bs)) ≡ true
    by_first true c = rw (one_plus (continued b bs)) h
    by_first false c = one_or (is_digit a) h (no_digit (is_digit b) refl c)

pub number_has : (bs : List ℕ) (n : ℕ) → number_len bs ≡ suc n → is_number (take (suc n) bs) ≡ true
number_has [] n e = absurd (cc)
number_has (a ∷ bs) n e = by_start (starts_number a bs) refl e
  where
    by_start : (t : Bool) → starts_number a bs ≡ t → cond t (1 + continued a bs) 0 ≡ suc n → (starts_number a (take n bs) && each_continues a (take n bs)) ≡ true
    by_start true h f = rw (counted _ n f, starts_next a bs h) (continued_all a bs)
    by_start false h f = absurd (cc)

-- the bytes after a number do not change how it starts
starts_longer : (a : ℕ) (xs rest : List ℕ) → starts_number a xs ≡ true → starts_number a (xs ++ rest) ≡ true
starts_longer a [] [] h = h
starts_longer a [] (r ∷ rs) h = rw h refl
starts_longer a (x ∷ xs) rest h = h

pub number_most : (other rest bs : List ℕ) → is_number other ≡ true → bs ≡ other ++ rest → length other ≤ number_len bs
number_most [] rest bs h e = absurd (cc)
number_most (x ∷ xs) rest [] h e = absurd (cc)
number_most (x ∷ xs) rest (b ∷ bs) h e =
    let head : b ≡ x = cc in
    let tail : bs ≡ xs ++ rest = cc in
    let two = both (starts_number x xs) (each_continues x xs) h in
    let first : starts_number b bs ≡ true = ap (λ y. starts_number y bs) head ∙ ap (starts_number x) tail ∙ starts_longer x xs rest two.0 in
    let later : each_continues b xs ≡ true = ap (λ y. each_continues y xs) head ∙ two.1 in
    rw first (omega (arith, continued_most b xs rest bs later tail))

pub number_within : (bs : List ℕ) → number_len bs ≤ length bs
number_within [] = omega arith
number_within (a ∷ bs) = by_start (starts_number a bs)
  where
    by_start : (t : Bool) → cond t (1 + continued a bs) 0 ≤ suc (length bs)
    by_start true = omega (arith, continued_within a bs)
    by_start false = omega arith

-- ---- punctuators_and_openings

pub punctuator_has : (bs : List ℕ) (n : ℕ) → punctuator_len bs ≡ suc n → one_of punctuators_and_openings (take (suc n) bs) ≡ true
unfolding punctuator_len
punctuator_has bs n e = table_has punctuators_and_openings bs n e

pub punctuator_most : (other rest bs : List ℕ) → one_of punctuators_and_openings other ≡ true → bs ≡ other ++ rest → length other ≤ punctuator_len bs
unfolding punctuator_len punctuators_and_openings
punctuator_most other rest bs h e = table_most punctuators_and_openings other rest bs refl h e

pub punctuator_within : (bs : List ℕ) → punctuator_len bs ≤ length bs
unfolding punctuator_len
punctuator_within bs = table_within punctuators_and_openings bs
