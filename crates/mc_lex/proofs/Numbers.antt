-- What a number is.
use Rattle.std.proofs.Common.{◌≡◌, ℕ, Bool, true, false, not, ◌&&◌, ◌||◌, cond, nat_eq, List, [], ◌∷◌, ◌++◌, take, drop, Option, Some, None, Result, Err, refl, ap, subst, sym, ◌∙◌, arith, take-append-drop}
use Rattle.std.proofs.lemmas.Bool.Decides.{nat_tests}
use Rattle.std.specs.List.{prefix_len, list_all}
use Rattle.std.specs.Str.Parse.{digits_value}
use Rattle.mc_lex.specs.declared.base.Base.{Base}
use Rattle.mc_lex.specs.declared.base.Base.TheVariants.{Decimal, Octal, Hexadecimal}
use Rattle.mc_lex.specs.declared.suffix.Suffix.{Suffix}
use Rattle.mc_lex.specs.declared.suffix.Suffix.TheVariants as suffix
use Rattle.mc_lex.specs.declared.token.TokenKind.{TokenKind}
use Rattle.mc_lex.specs.declared.fault_kind.FaultKind.{FaultKind}
use Rattle.mc_lex.specs.Bytes.{is_digit, is_octal, is_hexadecimal}
use Rattle.mc_lex.specs.Words.{one_of}
use Rattle.mc_lex.specs.Numbers.{is_digits, value_of, suffix_texts, IsInteger, has_hexadecimal_prefix, fault_of_number, constant, NumberMeans, integer, not_an_integer}
use Rattle.mc_lex.specs.steps.Scanner.{starts_with_byte, base_of, suffix_of, digits_len, radix, body_of, integer_kind, number_of_base, number_kind}
use Rattle.mc_lex.proofs.Texts.{both, same_byte, first_part, rest_of, run_all, run_exact, ends_run, passes}

-- ---- suffixes

-- the suffix was found
abbrev is_found : Suffix → Option Suffix → Bool
is_found suffix.None (Some suffix.None) = true
is_found suffix.U (Some suffix.U) = true
is_found suffix.L (Some suffix.L) = true
is_found suffix.Ul (Some suffix.Ul) = true
is_found suffix.Ll (Some suffix.Ll) = true
is_found suffix.Ull (Some suffix.Ull) = true
is_found _ _ = false

found_is : (form : Suffix) (o : Option Suffix) → is_found form o ≡ true → o ≡ Some form
found_is suffix.None (Some suffix.None) e = refl
found_is suffix.U (Some suffix.U) e = refl
found_is suffix.L (Some suffix.L) e = refl
found_is suffix.Ul (Some suffix.Ul) e = refl
found_is suffix.Ll (Some suffix.Ll) e = refl
found_is suffix.Ull (Some suffix.Ull) e = refl
found_is _ _ e = absurd (cc)

each_found : (form : Suffix) → list_all (λ t. is_found form (suffix_of t)) (suffix_texts form) ≡ true
each_found suffix.None = refl
each_found suffix.U = refl
each_found suffix.L = refl
each_found suffix.Ul = refl
each_found suffix.Ll = refl
each_found suffix.Ull = refl

suffix_found : (form : Suffix) (text : List ℕ) → one_of (suffix_texts form) text ≡ true → suffix_of text ≡ Some form
suffix_found form text o = found_is form (suffix_of text) (passes (λ t. is_found form (suffix_of t)) (suffix_texts form) text (each_found form) o)

-- a suffix begins with no digit of any base, and with no `x`
abbrev is_apart : List ℕ → Bool
is_apart [] = true
is_apart (b ∷ bs) = not (is_hexadecimal b) && not (is_octal b) && not (is_digit b) && not (nat_eq b 120 || nat_eq b 88)

each_apart : (form : Suffix) → list_all is_apart (suffix_texts form) ≡ true
each_apart suffix.None = refl
each_apart suffix.U = refl
each_apart suffix.L = refl
each_apart suffix.Ul = refl
each_apart suffix.Ll = refl
each_apart suffix.Ull = refl

suffix_apart : (form : Suffix) (text : List ℕ) → one_of (suffix_texts form) text ≡ true → is_apart text ≡ true
suffix_apart form text o = passes is_apart (suffix_texts form) text (each_apart form) o

apart_ends : (text : List ℕ) → is_apart text ≡ true → (ends_run is_hexadecimal text ≡ true) × (ends_run is_octal text ≡ true) × (ends_run is_digit text ≡ true)
apart_ends [] e = (refl, refl, refl)
apart_ends (b ∷ bs) e =
    let x = both (not (is_hexadecimal b) && not (is_octal b) && not (is_digit b)) (not (nat_eq b 120 || nat_eq b 88)) e in
    let y = both (not (is_hexadecimal b) && not (is_octal b)) (not (is_digit b)) x.0 in
    let z = both (not (is_hexadecimal b)) (not (is_octal b)) y.0 in
    (z.0, z.1, y.1)

suffix_texts_found : (text : List ℕ) (form : Suffix) → suffix_of text ≡ Some form → one_of (suffix_texts form) text ≡ true
suffix_texts_found text form e =
    by_none (one_of (suffix_texts suffix.None) text) refl (one_of (suffix_texts suffix.U) text) refl (one_of (suffix_texts suffix.L) text) refl (one_of (suffix_texts suffix.Ul) text) refl
    (one_of (suffix_texts suffix.Ll) text) refl (one_of (suffix_texts suffix.Ull) text) refl e
  where
    Has : Suffix → Type 0
    Has form = one_of (suffix_texts form) text ≡ true

    put : (f : Suffix) → one_of (suffix_texts f) text ≡ true → Some f ≡ Some form → one_of (suffix_texts form) text ≡ true
    put f h q = let same : f ≡ form = cc in subst (λ g. one_of (suffix_texts g) text ≡ true) same h

    by_none : (a : Bool) → one_of (suffix_texts suffix.None) text ≡ a → (b : Bool) → one_of (suffix_texts suffix.U) text ≡ b → (c : Bool) → one_of (suffix_texts suffix.L) text ≡ c
        → (d : Bool) → one_of (suffix_texts suffix.Ul) text ≡ d → (f : Bool) → one_of (suffix_texts suffix.Ll) text ≡ f → (g : Bool) → one_of (suffix_texts suffix.Ull) text ≡ g
        → cond a (Some suffix.None) (cond b (Some suffix.U) (cond c (Some suffix.L) (cond d (Some suffix.Ul) (cond f (Some suffix.Ll) (cond g (Some suffix.Ull) None))))) ≡ Some form
        → one_of (suffix_texts form) text ≡ true
    by_none true h _ _ _ _ _ _ _ _ _ _ q = put suffix.None h q
    by_none false _ true h _ _ _ _ _ _ _ _ q = put suffix.U h q
    by_none false _ false _ true h _ _ _ _ _ _ q = put suffix.L h q
    by_none false _ false _ false _ true h _ _ _ _ q = put suffix.Ul h q
    by_none false _ false _ false _ false _ true h _ _ q = put suffix.Ll h q
    by_none false _ false _ false _ false _ false _ true h q = put suffix.Ull h q
    by_none false _ false _ false _ false _ false _ false h q = absurd (cc)

-- ---- an integer constant is read

-- the digits and the suffix that are read in a base
abbrev read_digits : List ℕ → Base → List ℕ
read_digits text of = take (digits_len of (body_of of text)) (body_of of text)

abbrev read_suffix : List ℕ → Base → Option Suffix
read_suffix text of = suffix_of (drop (digits_len of (body_of of text)) (body_of of text))

pub record Reads (text : List ℕ) (of : Base) (value : ℕ) (form : Suffix) : Type 0 where
  pub first : ℕ
  pub more : List ℕ
  pub base : base_of text ≡ of
  pub digits : read_digits text of ≡ first ∷ more
  pub ends : read_suffix text of ≡ Some form
  pub writes : value ≡ digits_value (radix of) (first ∷ more)

nonzero : (b : Bool) → not b ≡ true → b ≡ false
nonzero true e = absurd (cc)
nonzero false e = refl

-- a text that begins with a digit other than `0`
decimal_base : (d : ℕ) (ds : List ℕ) → nat_eq d 48 ≡ false → base_of (d ∷ ds) ≡ Decimal
decimal_base d [] e = rw e refl
decimal_base d (x ∷ ds) e = rw e refl

-- a text that begins with `0`, and not with `0x`
abbrev no_x : List ℕ → Bool
no_x [] = true
no_x (b ∷ bs) = not (nat_eq b 120 || nat_eq b 88)

octal_base : (ds : List ℕ) → no_x ds ≡ true → base_of (48 ∷ ds) ≡ Octal
octal_base [] e = refl
octal_base (x ∷ ds) e = rw (nonzero (nat_eq x 120 || nat_eq x 88) e) refl

octal_no_x : (b : ℕ) → is_octal b ≡ true → not (nat_eq b 120 || nat_eq b 88) ≡ true
octal_no_x b h =
    let x : nat_eq b 120 ≡ false = grind (arith, nat_tests) in
    let y : nat_eq b 88 ≡ false = grind (arith, nat_tests) in
    rw (x, y) refl

apart_no_x : (rest : List ℕ) → is_apart rest ≡ true → no_x rest ≡ true
apart_no_x [] e = refl
apart_no_x (b ∷ bs) e = (both (not (is_hexadecimal b) && not (is_octal b) && not (is_digit b)) (not (nat_eq b 120 || nat_eq b 88)) e).1

joined_no_x : (ds rest : List ℕ) → list_all is_octal ds ≡ true → is_apart rest ≡ true → no_x (ds ++ rest) ≡ true
joined_no_x [] rest h e = apart_no_x rest e
joined_no_x (d ∷ ds) rest h e = octal_no_x d (both (is_octal d) (list_all is_octal ds) h).0

hexadecimal_base : (x : ℕ) (ds : List ℕ) → (nat_eq x 120 || nat_eq x 88) ≡ true → base_of (48 ∷ x ∷ ds) ≡ Hexadecimal
hexadecimal_base x ds e = rw e refl

integer_read : (text : List ℕ) (of : Base) (value : ℕ) (form : Suffix) → IsInteger text of value form → Reads text of value form
integer_read text of value form i = subst (λ t. Reads t of value form) (sym i.whole) (by_base of i.digits i.of_base i.writes)
  where
    rest : List ℕ
    rest = i.rest

    apart : is_apart rest ≡ true
    apart = suffix_apart form rest i.of_form

    ends : (ends_run is_hexadecimal rest ≡ true) × (ends_run is_octal rest ≡ true) × (ends_run is_digit rest ≡ true)
    ends = apart_ends rest apart

    found : suffix_of rest ≡ Some form
    found = suffix_found form rest i.of_form

    by_base : (of : Base) (digits : List ℕ) → is_digits of digits ≡ true → value ≡ value_of of digits → Reads (digits ++ rest) of value form
    by_base Decimal [] h w = absurd (cc)
    by_base Decimal (d ∷ ds) h w =
        let one = both (is_digit d && not (nat_eq d 48)) (list_all is_digit ds) h in
        let two = both (is_digit d) (not (nat_eq d 48)) one.0 in
        let all : list_all is_digit (d ∷ ds) ≡ true = rw two.0 one.1 in
        let n = run_exact is_digit (d ∷ ds) rest all ends.2 in
        record {
          first = d;
          more = ds;
          base = decimal_base d (ds ++ rest) (nonzero (nat_eq d 48) two.1);
          digits = ap (λ k. take k ((d ∷ ds) ++ rest)) n ∙ first_part (d ∷ ds) rest;
          ends = ap (λ k. suffix_of (drop k ((d ∷ ds) ++ rest))) n ∙ ap suffix_of (rest_of (d ∷ ds) rest) ∙ found;
          writes = w;
        }
    by_base Octal [] h w = absurd (cc)
    by_base Octal (z ∷ ds) h w =
        let two = both (nat_eq z 48) (list_all is_octal ds) h in
        let is_zero : z ≡ 48 = same_byte z 48 two.0 in
        let n = run_exact is_octal (48 ∷ ds) rest two.1 ends.1 in
        subst (λ y. Reads ((y ∷ ds) ++ rest) Octal value form) (sym is_zero)
        (record {
          first = 48;
          more = ds;
          base = octal_base (ds ++ rest) (joined_no_x ds rest two.1 apart);
          digits = ap (λ k. take k ((48 ∷ ds) ++ rest)) n ∙ first_part (48 ∷ ds) rest;
          ends = ap (λ k. suffix_of (drop k ((48 ∷ ds) ++ rest))) n ∙ ap suffix_of (rest_of (48 ∷ ds) rest) ∙ found;
          writes = w ∙ ap (λ y. digits_value 8 (y ∷ ds)) is_zero;
        })
    by_base Hexadecimal [] h w = absurd (cc)
    by_base Hexadecimal (z ∷ []) h w = absurd (cc)
    by_base Hexadecimal (z ∷ x ∷ []) h w = absurd (cc)
    by_base Hexadecimal (z ∷ x ∷ d ∷ ds) h w =
        let one = both (nat_eq z 48 && (nat_eq x 120 || nat_eq x 88)) (list_all is_hexadecimal (d ∷ ds)) h in
        let two = both (nat_eq z 48) (nat_eq x 120 || nat_eq x 88) one.0 in
        let is_zero : z ≡ 48 = same_byte z 48 two.0 in
        let n = run_exact is_hexadecimal (d ∷ ds) rest one.1 ends.0 in
        subst (λ y. Reads ((y ∷ x ∷ d ∷ ds) ++ rest) Hexadecimal value form) (sym is_zero)
        (record {
          first = d;
          more = ds;
          base = hexadecimal_base x ((d ∷ ds) ++ rest) two.1;
          digits = ap (λ k. take k ((d ∷ ds) ++ rest)) n ∙ first_part (d ∷ ds) rest;
          ends = ap (λ k. suffix_of (drop k ((d ∷ ds) ++ rest))) n ∙ ap suffix_of (rest_of (d ∷ ds) rest) ∙ found;
          writes = w;
        })

-- ---- what is read is an integer constant

prefix_facts : (text : List ℕ) → has_hexadecimal_prefix text ≡ true → (x : ℕ) × (ds : List ℕ) × (text ≡ 48 ∷ x ∷ ds) × ((nat_eq x 120 || nat_eq x 88) ≡ true)
prefix_facts [] e = absurd (cc)
prefix_facts (z ∷ []) e = absurd (cc)
prefix_facts (z ∷ x ∷ ds) e =
    let two = both (nat_eq z 48) (nat_eq x 120 || nat_eq x 88) e in
    (x, ds, ap (λ y. y ∷ x ∷ ds) (same_byte z 48 two.0), two.1)

zero_facts : (text : List ℕ) → starts_with_byte 48 text ≡ true → (ds : List ℕ) × (text ≡ 48 ∷ ds)
zero_facts [] e = absurd (cc)
zero_facts (z ∷ ds) e = (ds, ap (λ y. y ∷ ds) (same_byte z 48 e))

read_integer : (text : List ℕ) (d : ℕ) (ds : List ℕ) (form : Suffix) → read_digits text (base_of text) ≡ d ∷ ds → read_suffix text (base_of text) ≡ Some form
    → IsInteger text (base_of text) (digits_value (radix (base_of text)) (d ∷ ds)) form
read_integer text d ds form e s = by_prefix (has_hexadecimal_prefix text) refl (starts_with_byte 48 text) refl e s
  where
    by_prefix : (t : Bool) → has_hexadecimal_prefix text ≡ t → (u : Bool) → starts_with_byte 48 text ≡ u → read_digits text (cond t Hexadecimal (cond u Octal Decimal)) ≡ d ∷ ds
        → read_suffix text (cond t Hexadecimal (cond u Octal Decimal)) ≡ Some form
        → IsInteger text (cond t Hexadecimal (cond u Octal Decimal)) (digits_value (radix (cond t Hexadecimal (cond u Octal Decimal))) (d ∷ ds)) form
    by_prefix true h u g e s =
        let p = prefix_facts text h in
        let body = p.1 in
        let n = prefix_len is_hexadecimal body in
        let e' : take n body ≡ d ∷ ds = subst (λ t. read_digits t Hexadecimal ≡ d ∷ ds) p.2 e in
        let s' : suffix_of (drop n body) ≡ Some form = subst (λ t. read_suffix t Hexadecimal ≡ Some form) p.2 s in
        let all : list_all is_hexadecimal (d ∷ ds) ≡ true = subst (λ l. list_all is_hexadecimal l ≡ true) e' (run_all is_hexadecimal body) in
        record {
          digits = 48 ∷ p.0 ∷ d ∷ ds;
          rest = drop n body;
          whole = p.2 ∙ ap (λ l. 48 ∷ p.0 ∷ l) (sym (take-append-drop n body) ∙ ap (λ l. l ++ drop n body) e');
          of_base = rw p.3 all;
          writes = refl;
          of_form = suffix_texts_found (drop n body) form s';
        }
    by_prefix false h true g e s =
        let z = zero_facts text g in
        let n = prefix_len is_octal text in
        let all : list_all is_octal (d ∷ ds) ≡ true = subst (λ l. list_all is_octal l ≡ true) e (run_all is_octal text) in
        let whole : text ≡ (d ∷ ds) ++ drop n text = sym (take-append-drop n text) ∙ ap (λ l. l ++ drop n text) e in
        let z2 = z.1 in
        let is_zero : d ≡ 48 = cc in
        record {
          digits = d ∷ ds;
          rest = drop n text;
          whole = whole;
          of_base = rw is_zero (both (is_octal d) (list_all is_octal ds) all).1;
          writes = refl;
          of_form = suffix_texts_found (drop n text) form s;
        }
    by_prefix false h false g e s =
        let n = prefix_len is_digit text in
        let all : list_all is_digit (d ∷ ds) ≡ true = subst (λ l. list_all is_digit l ≡ true) e (run_all is_digit text) in
        let whole : text ≡ (d ∷ ds) ++ drop n text = sym (take-append-drop n text) ∙ ap (λ l. l ++ drop n text) e in
        let starts : nat_eq d 48 ≡ false = ap (starts_with_byte 48) (sym whole) ∙ g in
        let two = both (is_digit d) (list_all is_digit ds) all in
        record {
          digits = d ∷ ds;
          rest = drop n text;
          whole = whole;
          of_base = rw (two.0, starts) two.1;
          writes = refl;
          of_form = suffix_texts_found (drop n text) form s;
        }

-- ---- both ways

by_parts : (text : List ℕ) (of : Base) (digits : List ℕ) (o : Option Suffix) (P : Result TokenKind FaultKind → Type 0)
    → ((d : ℕ) (ds : List ℕ) (form : Suffix) → digits ≡ d ∷ ds → o ≡ Some form → P (constant of (digits_value (radix of) (d ∷ ds)) form))
    → (((d : ℕ) (ds : List ℕ) (form : Suffix) → digits ≡ d ∷ ds → o ≡ Some form → ⊥) → P (Err (fault_of_number text)))
    → P (integer_kind text of digits o)
by_parts text of [] o P one none = none (λ d ds form e f. let clash : [] ≡ d ∷ ds = e in cc)
by_parts text of (d ∷ ds) None P one none = none (λ d' ds' form e f. let clash : None ≡ Some form = f in cc)
by_parts text of (d ∷ ds) (Some form) P one none = one d ds form refl refl

pub number_is : (text : List ℕ) → NumberMeans text (number_kind text)
unfolding number_kind
number_is text =
    by_parts text (base_of text) (read_digits text (base_of text)) (read_suffix text (base_of text)) (λ r. NumberMeans text r)
    (λ d ds form e s. integer (base_of text) (digits_value (radix (base_of text)) (d ∷ ds)) form (read_integer text d ds form e s))
    (λ never. not_an_integer (λ of value form i.
    let r = integer_read text of value form i in
    never r.first r.more form (ap (read_digits text) r.base ∙ r.digits) (ap (read_suffix text) r.base ∙ r.ends)))

pub number_means : (text : List ℕ) (what : Result TokenKind FaultKind) → NumberMeans text what → number_kind text ≡ what
unfolding number_kind
number_means text what (integer of value form i) =
    let r = integer_read text of value form i in
    ap (number_of_base text) r.base ∙ ap (λ l. integer_kind text of l (read_suffix text of)) r.digits ∙ ap (integer_kind text of (r.first ∷ r.more)) r.ends ∙ ap (λ v. constant of v form) (sym r.writes)
number_means text what (not_an_integer never) =
    by_parts text (base_of text) (read_digits text (base_of text)) (read_suffix text (base_of text)) (λ r. r ≡ Err (fault_of_number text))
    (λ d ds form e s. absurd (never (base_of text) (digits_value (radix (base_of text)) (d ∷ ds)) form (read_integer text d ds form e s)))
    (λ no. refl)
