-- Runs of bytes at the start of a list, and tables of texts.
use Rattle.std.proofs.Common.{◌≡◌, ℕ, zero, suc, ◌+◌, ◌≤◌, Bool, true, false, not, ◌&&◌, ◌||◌, cond, nat_le, nat_eq, List, [], ◌∷◌, ◌++◌, length, take, drop, refl, ap, sym, ◌∙◌, arith, take-append-drop, length-take, length-append}
use Rattle.std.proofs.lemmas.Bool.{leb-true}
use Rattle.std.proofs.lemmas.Bool.Decides.{nat_tests, Decides-eqb}
use Rattle.std.proofs.lemmas.List.Folds.{length-prefix_len}
use Rattle.std.proofs.lemmas.Slice.Eq.{bytes_eq-Decides, starts_is}
use Rattle.std.specs.List.{prefix_len, list_all, starts_with}
use Rattle.std.specs.Str.{bytes_eq}
use Rattle.mc_lex.specs.Words.{one_of}
use Rattle.mc_lex.specs.steps.Scanner.{first_of, skip}

-- ---- truth values

pub both : (a b : Bool) → (a && b) ≡ true → (a ≡ true) × (b ≡ true)
both true b e = (refl, e)
both false b e = absurd (cc)

pub is_false : (a : Bool) → not a ≡ true → a ≡ false
is_false true e = absurd (cc)
is_false false e = refl

pub not_both : (a : Bool) → a ≡ true → a ≡ false → ⊥
not_both a h g = cc

pub same_byte : (a b : ℕ) → nat_eq a b ≡ true → a ≡ b
same_byte a b h = grind (arith, nat_tests)

-- ---- cutting a list in two

pub first_part : (t a : List ℕ) → take (length t) (t ++ a) ≡ t
first_part [] a = refl
first_part (x ∷ xs) a = ap (λ (l : List ℕ). x ∷ l) (first_part xs a)

pub rest_of : (t a : List ℕ) → drop (length t) (t ++ a) ≡ a
rest_of [] a = refl
rest_of (x ∷ xs) a = rest_of xs a

pub cut : (text after bs : List ℕ) → bs ≡ text ++ after → (take (length text) bs ≡ text) × (drop (length text) bs ≡ after)
cut text after bs e = (rw e (first_part text after), rw e (rest_of text after))

-- two first parts of one length are one
pub same_first_part : (text after other rest bs : List ℕ) → bs ≡ text ++ after → bs ≡ other ++ rest → length text ≡ length other → text ≡ other
same_first_part text after other rest bs e f n = sym (cut text after bs e).0 ∙ ap (λ k. take k bs) n ∙ (cut other rest bs f).0

-- ---- runs

pub run_all : (p : ℕ → Bool) (bs : List ℕ) → list_all p (take (prefix_len p bs) bs) ≡ true
run_all p [] = refl
run_all p (b ∷ bs) = by_first (p b) refl (run_all p bs)
  where
    one_plus : (n : ℕ) → 1 + n ≡ suc n
    one_plus n = omega arith

    by_first : (t : Bool) → p b ≡ t → list_all p (take (prefix_len p bs) bs) ≡ true → list_all p (take (cond t (1 + prefix_len p bs) 0) (b ∷ bs)) ≡ true
    by_first true h rest = rw (one_plus (prefix_len p bs), h) rest
    by_first false h rest = refl

pub run_most : (p : ℕ → Bool) (other rest bs : List ℕ) → list_all p other ≡ true → bs ≡ other ++ rest → length other ≤ prefix_len p bs
run_most p [] rest bs h e = omega arith
run_most p (x ∷ xs) rest [] h e = absurd (cc)
run_most p (x ∷ xs) rest (b ∷ bs) h e =
    let head : b ≡ x = cc in
    let tail : bs ≡ xs ++ rest = cc in
    let two = both (p x) (list_all p xs) h in
    let first : p b ≡ true = ap p head ∙ two.0 in
    rw first (omega (arith, run_most p xs rest bs two.1 tail))

pub run_within : (p : ℕ → Bool) (bs : List ℕ) → prefix_len p bs ≤ length bs
run_within p bs = omega (arith, length-prefix_len p bs, length-take (prefix_len p bs) bs)

-- the byte after it is not one of the run
abbrev pub ends_run : (ℕ → Bool) → List ℕ → Bool
ends_run p [] = true
ends_run p (b ∷ bs) = not (p b)

pub run_exact : (p : ℕ → Bool) (xs ys : List ℕ) → list_all p xs ≡ true → ends_run p ys ≡ true → prefix_len p (xs ++ ys) ≡ length xs
run_exact p [] [] h e = refl
run_exact p [] (y ∷ ys) h e = rw (is_false (p y) e) refl
run_exact p (x ∷ xs) ys h e =
    let two = both (p x) (list_all p xs) h in
    rw two.0 (omega (arith, run_exact p xs ys two.1 e))

pub run_ends : (p : ℕ → Bool) (bs : List ℕ) → ends_run p (drop (prefix_len p bs) bs) ≡ true
run_ends p [] = refl
run_ends p (b ∷ bs) = by_first (p b) refl (run_ends p bs)
  where
    one_plus : (n : ℕ) → 1 + n ≡ suc n
    one_plus n = omega arith

    by_first : (t : Bool) → p b ≡ t → ends_run p (drop (prefix_len p bs) bs) ≡ true → ends_run p (drop (cond t (1 + prefix_len p bs) 0) (b ∷ bs)) ≡ true
    by_first true h rest = rw (one_plus (prefix_len p bs)) rest
    by_first false h rest = rw h refl

pub skip_exact : (p : ℕ → Bool) (xs ys : List ℕ) → list_all p xs ≡ true → ends_run p ys ≡ true → skip p (xs ++ ys) ≡ ys
skip_exact p xs ys h e = rw (run_exact p xs ys h e) (rest_of xs ys)

pub skip_past : (p : ℕ → Bool) (xs ys : List ℕ) → list_all p xs ≡ true → skip p (xs ++ ys) ≡ skip p ys
skip_past p [] ys h = refl
skip_past p (x ∷ xs) ys h =
    let two = both (p x) (list_all p xs) h in
    let one_plus : 1 + prefix_len p (xs ++ ys) ≡ suc (prefix_len p (xs ++ ys)) = omega arith in
    rw two.0 (rw one_plus (skip_past p xs ys two.1))

pub skip_split : (p : ℕ → Bool) (bs : List ℕ) → bs ≡ take (prefix_len p bs) bs ++ skip p bs
skip_split p bs = sym (take-append-drop (prefix_len p bs) bs)

pub all_weaker : (p q : ℕ → Bool) → ((b : ℕ) → p b ≡ true → q b ≡ true) → (xs : List ℕ) → list_all p xs ≡ true → list_all q xs ≡ true
all_weaker p q f [] h = refl
all_weaker p q f (x ∷ xs) h =
    let two = both (p x) (list_all p xs) h in
    rw (f x two.0) (all_weaker p q f xs two.1)

pub all_append : (p : ℕ → Bool) (xs ys : List ℕ) → list_all p xs ≡ true → list_all p ys ≡ true → list_all p (xs ++ ys) ≡ true
all_append p [] ys h g = g
all_append p (x ∷ xs) ys h g =
    let two = both (p x) (list_all p xs) h in
    rw two.0 (all_append p xs ys two.1 g)

pub all_drop : (p : ℕ → Bool) (n : ℕ) (xs : List ℕ) → list_all p xs ≡ true → list_all p (drop n xs) ≡ true
all_drop p zero xs h = h
all_drop p (suc n) [] h = refl
all_drop p (suc n) (x ∷ xs) h = all_drop p n xs (both (p x) (list_all p xs) h).1

-- ---- tables

pub same_text : (x y : List ℕ) → bytes_eq x y ≡ true → x ≡ y
same_text x y h = (bytes_eq-Decides x y).0 h

pub text_itself : (x y : List ℕ) → x ≡ y → bytes_eq x y ≡ true
text_itself x y e = (bytes_eq-Decides x y).1 e

-- what each entry passes
pub passes : (p : List ℕ → Bool) (table : List (List ℕ)) (text : List ℕ) → list_all p table ≡ true → one_of table text ≡ true → p text ≡ true
passes p [] text h o = absurd (cc)
passes p (t ∷ ts) text h o =
    let two = both (p t) (list_all p ts) h in
    by_test (bytes_eq text t) refl two.0 (passes p ts text two.1) o
  where
    by_test : (b : Bool) → bytes_eq text t ≡ b → p t ≡ true → (one_of ts text ≡ true → p text ≡ true) → (b || one_of ts text) ≡ true → p text ≡ true
    by_test true e pt later o = ap p (same_text text t e) ∙ pt
    by_test false e pt later o = later o

-- the longest come first
abbrev pub all_at_most : ℕ → List (List ℕ) → Bool
all_at_most n [] = true
all_at_most n (t ∷ ts) = nat_le (length t) n && all_at_most n ts

abbrev pub descends : List (List ℕ) → Bool
descends [] = true
descends (t ∷ ts) = all_at_most (length t) ts && descends ts

one_at_most : (n : ℕ) (table : List (List ℕ)) (other : List ℕ) → all_at_most n table ≡ true → one_of table other ≡ true → length other ≤ n
one_at_most n [] other h o = absurd (cc)
one_at_most n (t ∷ ts) other h o =
    let two = both (nat_le (length t) n) (all_at_most n ts) h in
    by_test (bytes_eq other t) refl (leb-true (length t) n two.0) (one_at_most n ts other two.1) o
  where
    by_test : (b : Bool) → bytes_eq other t ≡ b → length t ≤ n → (one_of ts other ≡ true → length other ≤ n) → (b || one_of ts other) ≡ true → length other ≤ n
    by_test true e le later o = omega (arith, ap length (same_text other t e))
    by_test false e le later o = later o

begins : (t bs : List ℕ) → starts_with nat_eq bs t ≡ true → bs ≡ t ++ drop (length t) bs
begins t bs h = (starts_is Decides-eqb bs t (starts_with nat_eq bs t) refl).0 h

begun : (t rest bs : List ℕ) → bs ≡ t ++ rest → starts_with nat_eq bs t ≡ true
begun t rest bs e = (starts_is Decides-eqb bs t (starts_with nat_eq bs t) refl).1 rest e

-- no text of the table with which the bytes begin is longer than the first
pub table_most : (table : List (List ℕ)) (other rest bs : List ℕ) → descends table ≡ true → one_of table other ≡ true → bs ≡ other ++ rest → length other ≤ first_of table bs
table_most [] other rest bs d o e = absurd (cc)
table_most (t ∷ ts) other rest bs d o e =
    let two = both (all_at_most (length t) ts) (descends ts) d in
    by_test (starts_with nat_eq bs t) refl (bytes_eq other t) refl two.0 (table_most ts other rest bs two.1) o
  where
    by_test : (b : Bool) → starts_with nat_eq bs t ≡ b → (s : Bool) → bytes_eq other t ≡ s → all_at_most (length t) ts ≡ true → (one_of ts other ≡ true → bs ≡ other ++ rest → length other ≤ first_of ts bs)
        → (s || one_of ts other) ≡ true → length other ≤ cond b (length t) (first_of ts bs)
    by_test true h true is most later o = omega (arith, ap length (same_text other t is))
    by_test true h false is most later o = one_at_most (length t) ts other most o
    by_test false h true is most later o =
        let yes : starts_with nat_eq bs t ≡ true = begun t rest bs (e ∙ ap (λ (o : List ℕ). o ++ rest) (same_text other t is)) in absurd (not_both _ yes h)
    by_test false h false is most later o = later o e

pub table_has : (table : List (List ℕ)) (bs : List ℕ) (n : ℕ) → first_of table bs ≡ suc n → one_of table (take (suc n) bs) ≡ true
table_has [] bs n h = absurd (cc)
table_has (t ∷ ts) bs n h = by_test (starts_with nat_eq bs t) refl (table_has ts bs n) h
  where
    or_true : (a : Bool) → (a || true) ≡ true
    or_true true = refl
    or_true false = refl

    by_test : (b : Bool) → starts_with nat_eq bs t ≡ b → (first_of ts bs ≡ suc n → one_of ts (take (suc n) bs) ≡ true) → cond b (length t) (first_of ts bs) ≡ suc n → (bytes_eq (take (suc n) bs) t || one_of ts (take (suc n) bs)) ≡ true
    by_test true fits later h = let e : take (suc n) bs ≡ t = ap (λ k. take k bs) (sym h) ∙ (cut t _ bs (begins t bs fits)).0 in rw (text_itself _ t e) refl
    by_test false fails later h = rw (later h) (or_true _)

pub table_within : (table : List (List ℕ)) (bs : List ℕ) → first_of table bs ≤ length bs
table_within [] bs = omega arith
table_within (t ∷ ts) bs = by_test (starts_with nat_eq bs t) refl (table_within ts bs)
  where
    by_test : (b : Bool) → starts_with nat_eq bs t ≡ b → first_of ts bs ≤ length bs → cond b (length t) (first_of ts bs) ≤ length bs
    by_test true h later = omega (arith, ap length (begins t bs h), length-append t (drop (length t) bs))
    by_test false h later = later
