-- A line is a line marker where the scan says so.
use Rattle.std.proofs.Common.{◌≡◌, ℕ, Bool, true, false, not, ◌||◌, nat_eq, List, [], ◌∷◌, ◌++◌, take, refl, ap, subst, sym, ◌∙◌, arith, append_assoc}
use Rattle.std.proofs.lemmas.Bool.Decides.{nat_tests}
use Rattle.std.specs.List.{prefix_len, list_all}
use Rattle.mc_lex.specs.Bytes.{is_digit, is_white_space, is_white_space_in_line, goes_on}
use Rattle.mc_lex.specs.Gaps.{is_digit_or_white_space, is_quoted, QuotedName, absent, quoted, IsMarker}
use Rattle.mc_lex.specs.steps.Scanner.{skip, is_marker_end, is_marker_name, is_marker_rest, is_marker_number, is_marker}
use Rattle.mc_lex.proofs.Texts.{both, same_byte, run_all, skip_exact, ends_run, all_drop, skip_past, skip_split, all_weaker, all_append}

either : (a b : Bool) → b ≡ true → (a || b) ≡ true
either true b e = refl
either false b e = e

first : (a b : Bool) → a ≡ true → (a || b) ≡ true
first true b e = refl
first false b e = absurd (cc)

digit_no_white_space : (b : ℕ) → is_digit b ≡ true → not (is_white_space_in_line b) ≡ true
digit_no_white_space b h = let space : is_white_space b ≡ false = grind (arith, nat_tests) in rw space refl

white_space_no_digit : (b : ℕ) → is_white_space_in_line b ≡ true → not (is_digit b) ≡ true
white_space_no_digit b h =
    let two = both (is_white_space b) (not (nat_eq b 10)) h in
    let no_digit : is_digit b ≡ false = grind (arith, nat_tests, two.0) in
    rw no_digit refl

abbrev named : List ℕ → List ℕ → List ℕ → List ℕ
named bl nm rest = bl ++ (34 ∷ (nm ++ (34 ∷ rest)))

named_no_digit : (bl nm rest : List ℕ) → list_all is_white_space_in_line bl ≡ true → ends_run is_digit (named bl nm rest) ≡ true
named_no_digit [] nm rest h = refl
named_no_digit (b ∷ bl) nm rest h = white_space_no_digit b (both (is_white_space_in_line b) (list_all is_white_space_in_line bl) h).0

named_found : (bl nm rest : List ℕ) → list_all is_white_space_in_line bl ≡ true → list_all is_quoted nm ≡ true → list_all is_digit_or_white_space rest ≡ true → is_marker_rest (named bl nm rest) ≡ true
named_found bl nm rest b n r =
    let spaces : skip is_white_space_in_line (named bl nm rest) ≡ 34 ∷ (nm ++ (34 ∷ rest)) = skip_exact is_white_space_in_line bl (34 ∷ (nm ++ (34 ∷ rest))) b refl in
    let name : skip is_quoted (nm ++ (34 ∷ rest)) ≡ 34 ∷ rest = skip_exact is_quoted nm (34 ∷ rest) n refl in
    either _ _ (ap is_marker_name spaces ∙ ap is_marker_end name ∙ r)

pub marker_found : (text : List ℕ) → IsMarker text → is_marker text ≡ true
unfolding is_marker
marker_found text m = ap is_marker m.whole ∙ ap is_marker_number spaces ∙ rw one.0 (ap is_marker_rest (skip_past is_digit m.digits tail one.1) ∙ rest_found m.name m.of_name)
  where
    tail : List ℕ
    tail = m.name ++ m.rest

    one : (is_digit m.digit ≡ true) × (list_all is_digit m.digits ≡ true)
    one = both (is_digit m.digit) (list_all is_digit m.digits) m.of_digits

    spaces : skip is_white_space_in_line (m.white_space ++ ((m.digit ∷ m.digits) ++ tail)) ≡ (m.digit ∷ m.digits) ++ tail
    spaces = skip_exact is_white_space_in_line m.white_space ((m.digit ∷ m.digits) ++ tail) m.of_white_space (digit_no_white_space m.digit one.0)

    rest_found : (name : List ℕ) → QuotedName name → is_marker_rest (skip is_digit (name ++ m.rest)) ≡ true
    rest_found name absent = first _ _ (all_drop is_digit_or_white_space _ m.rest m.of_rest)
    rest_found name (quoted bl nm b n) =
        let e : (bl ++ ((34 ∷ nm) ++ (34 ∷ []))) ++ m.rest ≡ named bl nm m.rest = append_assoc bl ((34 ∷ nm) ++ (34 ∷ [])) m.rest ∙ ap (λ l. bl ++ (34 ∷ l)) (append_assoc nm (34 ∷ []) m.rest) in
        ap (λ l. is_marker_rest (skip is_digit l)) e ∙ ap is_marker_rest (skip_exact is_digit [] (named bl nm m.rest) refl (named_no_digit bl nm m.rest b)) ∙ named_found bl nm m.rest b n m.of_rest

-- ---- what is found is a marker

abbrev Rest : List ℕ → Type 0
Rest bs = (name : List ℕ) × (rest : List ℕ) × (bs ≡ name ++ rest) × QuotedName name × (list_all is_digit_or_white_space rest ≡ true)

name_is : (bl bs : List ℕ) → list_all is_white_space_in_line bl ≡ true → is_marker_name bs ≡ true → Rest (bl ++ bs)
name_is bl [] b e = absurd (cc)
name_is bl (q ∷ bs) b e = by_close (skip is_quoted bs) (skip_split is_quoted bs) two.1
  where
    two : (nat_eq q 34 ≡ true) × (is_marker_end (skip is_quoted bs) ≡ true)
    two = both (nat_eq q 34) (is_marker_end (skip is_quoted bs)) e

    nm : List ℕ
    nm = take (prefix_len is_quoted bs) bs

    by_close : (z : List ℕ) → bs ≡ nm ++ z → is_marker_end z ≡ true → Rest (bl ++ (q ∷ bs))
    by_close [] w c = absurd (cc)
    by_close (x ∷ z) w c =
        let close = both (nat_eq x 34) (list_all is_digit_or_white_space z) c in
        let whole : q ∷ bs ≡ (34 ∷ nm) ++ (34 ∷ z) = ap (λ y. y ∷ bs) (same_byte q 34 two.0) ∙ ap (λ l. 34 ∷ l) (w ∙ ap (λ y. nm ++ (y ∷ z)) (same_byte x 34 close.0)) in (
          bl ++ ((34 ∷ nm) ++ (34 ∷ [])),
          z,
          ap (λ l. bl ++ l) whole ∙ ap (λ l. bl ++ (34 ∷ l)) (sym (append_assoc nm (34 ∷ []) z)) ∙ sym (append_assoc bl ((34 ∷ nm) ++ (34 ∷ [])) z),
          quoted bl nm b (run_all is_quoted bs),
          close.1,
        )

rest_is : (bs : List ℕ) → is_marker_rest bs ≡ true → Rest bs
rest_is bs e = by_all (list_all is_digit_or_white_space bs) refl e
  where
    by_all : (t : Bool) → list_all is_digit_or_white_space bs ≡ t → (t || is_marker_name (skip is_white_space_in_line bs)) ≡ true → Rest bs
    by_all true h f = ([], bs, refl, absent, h)
    by_all false h f = subst Rest (sym (skip_split is_white_space_in_line bs)) (name_is (take (prefix_len is_white_space_in_line bs) bs) (skip is_white_space_in_line bs) (run_all is_white_space_in_line bs) f)

pub marker_is : (text : List ℕ) → is_marker text ≡ true → IsMarker text
unfolding is_marker
marker_is [] e = absurd (cc)
marker_is (h ∷ bs) e = by_number (skip is_white_space_in_line bs) (skip_split is_white_space_in_line bs) two.1
  where
    two : (nat_eq h 35 ≡ true) × (is_marker_number (skip is_white_space_in_line bs) ≡ true)
    two = both (nat_eq h 35) (is_marker_number (skip is_white_space_in_line bs)) e

    bl : List ℕ
    bl = take (prefix_len is_white_space_in_line bs) bs

    by_number : (z : List ℕ) → bs ≡ bl ++ z → is_marker_number z ≡ true → IsMarker (h ∷ bs)
    by_number [] w f = absurd (cc)
    by_number (d ∷ z) w f =
        let one = both (is_digit d) (is_marker_rest (skip is_digit z)) f in
        let r = rest_is (skip is_digit z) one.1 in
        let ds = take (prefix_len is_digit z) z in
        let number : d ∷ z ≡ (d ∷ ds) ++ (r.0 ++ r.1) = ap (λ l. d ∷ l) (skip_split is_digit z ∙ ap (λ l. ds ++ l) r.2) in
        record {
          white_space = bl;
          digit = d;
          digits = ds;
          name = r.0;
          rest = r.1;
          whole = ap (λ y. y ∷ bs) (same_byte h 35 two.0) ∙ ap (λ l. 35 ∷ l) (w ∙ ap (λ l. bl ++ l) number);
          of_white_space = run_all is_white_space_in_line bs;
          of_digits = rw one.0 (run_all is_digit z);
          of_name = r.3;
          of_rest = r.4;
        }

-- ---- a marker has no line end

digit_goes_on : (b : ℕ) → is_digit b ≡ true → goes_on b ≡ true
digit_goes_on b h = let no_end : nat_eq b 10 ≡ false = grind (arith, nat_tests) in rw no_end refl

white_space_goes_on : (b : ℕ) → is_white_space_in_line b ≡ true → goes_on b ≡ true
white_space_goes_on b h = (both (is_white_space b) (goes_on b) h).1

rest_goes_on : (b : ℕ) → is_digit_or_white_space b ≡ true → goes_on b ≡ true
rest_goes_on b h = by_digit (is_digit b) refl h
  where
    by_digit : (t : Bool) → is_digit b ≡ t → (t || is_white_space_in_line b) ≡ true → goes_on b ≡ true
    by_digit true d f = digit_goes_on b d
    by_digit false d f = white_space_goes_on b f

name_goes_on : (name : List ℕ) → QuotedName name → list_all goes_on name ≡ true
name_goes_on name absent = refl
name_goes_on name (quoted bl nm b n) =
    all_append goes_on bl ((34 ∷ nm) ++ (34 ∷ [])) (all_weaker is_white_space_in_line goes_on white_space_goes_on bl b)
    (all_append goes_on nm (34 ∷ []) (all_weaker is_quoted goes_on (λ c h. (both (goes_on c) (not (nat_eq c 34)) h).0) nm n) refl)

pub marker_goes_on : (text : List ℕ) → IsMarker text → list_all goes_on text ≡ true
marker_goes_on text m =
    ap (list_all goes_on) m.whole
    ∙ all_append goes_on m.white_space ((m.digit ∷ m.digits) ++ (m.name ++ m.rest)) (all_weaker is_white_space_in_line goes_on white_space_goes_on m.white_space m.of_white_space)
    (all_append goes_on (m.digit ∷ m.digits) (m.name ++ m.rest) (all_weaker is_digit goes_on digit_goes_on (m.digit ∷ m.digits) m.of_digits)
    (all_append goes_on m.name m.rest (name_goes_on m.name m.of_name) (all_weaker is_digit_or_white_space goes_on rest_goes_on m.rest m.of_rest)))

-- a marker begins with `#`
pub marker_hash : (text : List ℕ) → IsMarker text → (rest : List ℕ) × (text ≡ 35 ∷ rest)
marker_hash text m = (m.white_space ++ ((m.digit ∷ m.digits) ++ (m.name ++ m.rest)), m.whole)
