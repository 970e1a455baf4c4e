-- What the table inserts are tokens.
use Rattle.std.proofs.Common.{◌≡◌, ℕ, zero, suc, ◌+◌, ◌-◌, ◌<◌, ◌≤◌, ◌%◌, ◌^◌, Bool, true, false, not, ◌||◌, cond, nat_eq, nat_le, List, [], ◌∷◌, length, get_or, Result, Ok, decimal, refl, ap, subst, sym, ◌∙◌, arith, append-nil}
use Rattle.std.proofs.lemmas.Bool.Decides.{nat_tests}
use Rattle.std.proofs.lemmas.Fmt.{decimal_by_steps, decimal_digit, decimal_is_IsNumeral, decimal_nonempty, first_decimal}
use Rattle.std.specs.List.{list_all}
use Rattle.std.specs.Str.Parse.{digits_value}
use Rattle.mc_lex.specs.declared.token.Dialect.{Dialect}
use Rattle.mc_lex.specs.declared.token.Dialect.TheVariants.{Instrumented}
use Rattle.mc_lex.specs.declared.token.TokenKind.{TokenKind}
use Rattle.mc_lex.specs.declared.token.TokenKind.TheVariants.{Keyword, Punctuator, Constant}
use Rattle.mc_lex.specs.declared.fault_kind.FaultKind.{FaultKind}
use Rattle.mc_lex.specs.declared.base.Base.TheVariants.{Decimal, Octal}
use Rattle.mc_lex.specs.declared.suffix.Suffix.TheVariants as suffix
use Rattle.mc_lex.specs.Bytes.{is_digit, is_word_byte}
use Rattle.mc_lex.specs.Words.{one_of, is_word, keywords, outside_keywords, probe_names, word_kind}
use Rattle.mc_lex.specs.Numbers.{continues, each_continues, starts_number, is_number, is_digits, IsInteger, has_type, constant, NumberMeans, integer}
use Rattle.mc_lex.specs.Punctuators.{punctuators}
use Rattle.mc_lex.specs.Scans.{Means}
use Rattle.mc_lex.specs.Scans as r
use Rattle.mc_lex.proofs.Texts.{both, not_both, passes, all_append}
use Rattle.reread_law_printed.specs.spelled.Words.{IsInserted, word, punctuator, numeral, inserted_words, inserted_punctuators, inserted_kind, number}
use Rattle.reread_law_printed.proofs.Spelled.Meanings.{one_meaning}

-- ---- words and punctuators

abbrev is_keyword : Result TokenKind FaultKind → Bool
is_keyword (Ok Keyword) = true
is_keyword _ = false

keyword_is : (w : Result TokenKind FaultKind) → is_keyword w ≡ true → w ≡ Ok Keyword
keyword_is (Ok Keyword) e = refl
keyword_is _ e = absurd (cc)

pub word_means : (text : List ℕ) → one_of inserted_words text ≡ true → Means Instrumented text (Ok Keyword)
unfolding inserted_words keywords outside_keywords probe_names
word_means text o =
    let kind : is_keyword (word_kind Instrumented text) ≡ true = passes (λ t. is_keyword (word_kind Instrumented t)) inserted_words text refl o in
    subst (λ w. Means Instrumented text w) (keyword_is _ kind) (r.word text (passes is_word inserted_words text refl o))

pub punctuator_means : (text : List ℕ) → one_of inserted_punctuators text ≡ true → Means Instrumented text (Ok Punctuator)
unfolding inserted_punctuators punctuators
punctuator_means text o = r.punctuator text (passes (λ t. one_of punctuators t) inserted_punctuators text refl o)

-- ---- numbers

digit_is : (n : ℕ) → n < 10 → is_digit (48 + n) ≡ true
digit_is n small = grind (arith, nat_tests)

one_digit : (n : ℕ) → n < 10 → list_all is_digit ((48 + n) ∷ []) ≡ true
one_digit n small = rw (digit_is n small) refl

digits_are : (n : ℕ) → n < 2 ^ 64 → list_all is_digit (decimal n) ≡ true
digits_are n small =
    decimal_by_steps (λ m ds. list_all is_digit ds ≡ true) one_digit (λ m ds le h. all_append is_digit ds ((48 + m % 10) ∷ []) h (one_digit (m % 10) (omega arith))) n small

digit_continues : (a b : ℕ) → is_digit b ≡ true → continues a b ≡ true
digit_continues a b h = let word : is_word_byte b ≡ true = grind (arith, nat_tests) in rw word refl

digits_continue : (a : ℕ) (ds : List ℕ) → list_all is_digit ds ≡ true → each_continues a ds ≡ true
digits_continue a [] h = refl
digits_continue a (d ∷ ds) h =
    let two = both (is_digit d) (list_all is_digit ds) h in
    rw (digit_continues a d two.0) (digits_continue d ds two.1)

digit_starts : (d : ℕ) (ds : List ℕ) → is_digit d ≡ true → starts_number d ds ≡ true
digit_starts d [] h = h
digit_starts d (x ∷ ds) h = rw h refl

digits_number : (ds : List ℕ) → 0 < length ds → list_all is_digit ds ≡ true → is_number ds ≡ true
digits_number [] some h = absurd (omega (arith, some))
digits_number (d ∷ ds) some h =
    let two = both (is_digit d) (list_all is_digit ds) h in
    rw (digit_starts d ds two.0) (digits_continue d ds two.1)

digits_decimal : (ds : List ℕ) → 48 < get_or ds 0 0 → list_all is_digit ds ≡ true → is_digits Decimal ds ≡ true
digits_decimal [] first h = absurd (omega (arith, first))
digits_decimal (d ∷ ds) first h =
    let two = both (is_digit d) (list_all is_digit ds) h in
    let greater : 48 < d = first in
    let other : nat_eq d 48 ≡ false = grind (arith, nat_tests) in
    rw (two.0, other) two.1

-- a value that `int` or `long` holds
one_of_three : (a b c : Bool) → b ≡ true → (a || (b || c)) ≡ true
one_of_three true b c e = refl
one_of_three false b c e = rw e refl

chosen : (t : Bool) (x y : Result TokenKind FaultKind) → t ≡ true → cond t x y ≡ x
chosen true x y e = refl
chosen false x y e = absurd (cc)

fits : (n : ℕ) → 0 < n → n ≤ 4294967295 → constant Decimal n suffix.None ≡ Ok (number n)
fits n some small =
    let wide : nat_le n (2 ^ 63 - 1) ≡ true = grind (arith, nat_tests) in
    let positive : true ≡ not (nat_eq n 0) = grind (arith, nat_tests) in
    chosen (has_type suffix.None true n) _ _ (one_of_three _ _ _ wide) ∙ ap (λ t. Ok (Constant n t false 0)) positive

pub number_means : (d : Dialect) (n : ℕ) → n ≤ 4294967295 → Means d (decimal n) (Ok (number n))
number_means d zero small = subst (λ t. Means d t (Ok (number 0))) (sym (decimal_digit 0 (omega arith))) zero_means
  where
    zero_integer : IsInteger (48 ∷ []) Octal 0 suffix.None
    zero_integer = record { digits = 48 ∷ []; rest = []; whole = refl; of_base = refl; writes = refl; of_form = refl }

    zero_means : Means d (48 ∷ []) (Ok (number 0))
    zero_means = r.number (48 ∷ []) (Ok (number 0)) refl (integer Octal 0 suffix.None zero_integer)
number_means d (suc m) small =
    let n : ℕ = suc m in
    let short : n < 2 ^ 64 = omega (arith, small) in
    let digits = digits_are n short in
    let whole : IsInteger (decimal n) Decimal n suffix.None = record {
      digits = decimal n;
      rest = [];
      whole = sym (append-nil (decimal n));
      of_base = digits_decimal (decimal n) (first_decimal n (omega arith) short) digits;
      writes = sym (decimal_is_IsNumeral n short).1;
      of_form = refl;
    } in
    r.number (decimal n) (Ok (number n)) (digits_number (decimal n) (decimal_nonempty n short) digits)
    (subst (λ w. NumberMeans (decimal n) w) (fits n (omega arith) small) (integer Decimal n suffix.None whole))

-- ---- insertions

pub insertion_means : (text : List ℕ) (kind : TokenKind) → IsInserted text kind → Means Instrumented text (Ok kind)
insertion_means text kind (word text' o) = word_means text' o
insertion_means text kind (punctuator text' o) = punctuator_means text' o
insertion_means text kind (numeral n small) = number_means Instrumented n small

pub same_kind : (text : List ℕ) (k l : TokenKind) → Means Instrumented text (Ok k) → Means Instrumented text (Ok l) → k ≡ l
same_kind text k l m n = let same : Ok k ≡ Ok l = one_meaning Instrumented text (Ok k) (Ok l) m n in cc same

pub inserted_is : (text : List ℕ) (kind : TokenKind) → IsInserted text kind → inserted_kind text ≡ kind
inserted_is text kind i = by_tests (one_of inserted_words text) refl (one_of inserted_punctuators text) refl
  where
    neither : (text : List ℕ) (kind : TokenKind) → IsInserted text kind → one_of inserted_words text ≡ false → one_of inserted_punctuators text ≡ false → number (digits_value 10 text) ≡ kind
    neither text kind (word text' o) e f = absurd (not_both _ o e)
    neither text kind (punctuator text' o) e f = absurd (not_both _ o f)
    neither text kind (numeral n small) e f = ap number (decimal_is_IsNumeral n (omega (arith, small))).1

    by_tests : (a : Bool) → one_of inserted_words text ≡ a → (b : Bool) → one_of inserted_punctuators text ≡ b → cond a Keyword (cond b Punctuator (number (digits_value 10 text))) ≡ kind
    by_tests true e b f = same_kind text Keyword kind (word_means text e) (insertion_means text kind i)
    by_tests false e true f = same_kind text Punctuator kind (punctuator_means text f) (insertion_means text kind i)
    by_tests false e false f = neither text kind i e f
