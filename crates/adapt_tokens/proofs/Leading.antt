-- What stands first is the longest piece.
use Rattle.std.proofs.Common.{◌≡◌, ℕ, suc, ◌+◌, ◌<◌, ◌≤◌, Bool, true, false, ◌&&◌, ◌||◌, cond, nat_eq, List, [], ◌∷◌, ◌++◌, length, take, drop, Option, Some, None, refl, ap, subst, sym, ◌∙◌, ◌⊎◌, inl, inr, arith, take-append-drop, length-take, length-append}
use Rattle.std.specs.List.{list_all, prefix_len}
use Rattle.mc_lex.specs.Bytes.{is_digit, is_letter, is_word_byte, is_white_space, goes_on}
use Rattle.mc_lex.specs.Numbers.{starts_number, each_continues, is_number}
use Rattle.mc_lex.specs.steps.Scanner.{continued, number_len, close_len}
use Rattle.mc_lex.proofs.Texts.{both, same_byte, run_all, run_most, run_within}
use Rattle.mc_lex.proofs.Sizes.{number_has, number_most, number_within}
use Rattle.adapt_tokens.specs.declared.kind.Kind.{Kind}
use Rattle.adapt_tokens.specs.declared.kind.Kind.TheVariants as kind
use Rattle.adapt_tokens.specs.declared.next.Next.{Next}
use Rattle.adapt_tokens.specs.Literals.{is_quote, literal_len}
use Rattle.adapt_tokens.specs.Directives.{directive_kind}
use Rattle.adapt_tokens.specs.Kinds.{is_empty, when, literal_kind, comment_kind, is_pair, is_triple, long_kind, symbol_kind, kind_of}
use Rattle.adapt_tokens.specs.Cuts.{Leads}
use Rattle.adapt_tokens.specs.steps.Next.{line_len, comment_next, lone_next, pair_next, long_next, symbol_next, literal_next, directive_next, word_next, number_next, head_next, next_at}
use Rattle.adapt_tokens.proofs.Runs.{one_plus, two_plus, when_true, empty_len, literal_within, literal_alone, literal_most, Closed, closed, never_closed}

-- the piece that is found is one, and no longer piece stands there
pub record Led (first : Bool) (n : Next) (bs : List ℕ) : Type 0 where
  pub some : 0 < n.length
  pub within : n.length ≤ length bs
  pub is_kind : kind_of first (take n.length bs) ≡ Some n.kind
  pub most : (other rest : List ℕ) (k : Kind) → bs ≡ other ++ rest → kind_of first other ≡ Some k → length other ≤ n.length

choose : (P : Next → Type 0) (t : Bool) (x y : Next) → (t ≡ true → P x) → (t ≡ false → P y) → P (cond t x y)
choose P true x y g h = g refl
choose P false x y g h = h refl

-- all other pieces begin with the same byte
others : (first : Bool) (b : ℕ) (bs : List ℕ) (n : ℕ) → ((os rest : List ℕ) (k : Kind) → bs ≡ os ++ rest → kind_of first (b ∷ os) ≡ Some k → suc (length os) ≤ n)
    → (other rest : List ℕ) (k : Kind) → (b ∷ bs) ≡ other ++ rest → kind_of first other ≡ Some k → length other ≤ n
others first b bs n h [] rest k e f = omega arith
others first b bs n h (o ∷ os) rest k e f =
    let head : b ≡ o = cc in
    let tail : bs ≡ os ++ rest = cc in
    h os rest k tail (ap (λ x. kind_of first (x ∷ os)) head ∙ f)

white : (first : Bool) (b : ℕ) (bs : List ℕ) → is_white_space b ≡ true → Led first (record { kind = kind.White; length = 1 }) (b ∷ bs)
white first b bs h = record {
  some = omega arith;
  within = omega arith;
  is_kind = rw h refl;
  most = others first b bs 1 (λ os rest k e f. omega (arith, empty_len os (when_true (is_empty os) kind.White k (rw h at f))));
}

word : (first : Bool) (b : ℕ) (bs : List ℕ) → is_white_space b ≡ false → is_letter b ≡ true → Led first (word_next bs) (b ∷ bs)
word first b bs h1 h2 = record {
  some = omega arith;
  within = omega (arith, run_within is_word_byte bs);
  is_kind = rw (one_plus (prefix_len is_word_byte bs), h1, h2, run_all is_word_byte bs) refl;
  most = others first b bs (1 + prefix_len is_word_byte bs) (λ os rest k e f. omega (arith, run_most is_word_byte os rest bs (when_true (list_all is_word_byte os) kind.Word k (rw (h1, h2) at f)) e));
}

number_size : (b : ℕ) (bs : List ℕ) → starts_number b bs ≡ true → number_len (b ∷ bs) ≡ suc (continued b bs)
number_size b bs h = rw h (one_plus (continued b bs))

number : (first : Bool) (b : ℕ) (bs : List ℕ) → is_white_space b ≡ false → is_letter b ≡ false → starts_number b bs ≡ true → Led first (number_next b bs) (b ∷ bs)
number first b bs h1 h2 h3 =
    let has = both (starts_number b (take (continued b bs) bs)) (each_continues b (take (continued b bs) bs)) (number_has (b ∷ bs) (continued b bs) (number_size b bs h3)) in
    let inside : number_len (b ∷ bs) ≤ length (b ∷ bs) = number_within (b ∷ bs) in
    record {
      some = omega arith;
      within = omega (arith, inside, number_size b bs h3);
      is_kind = rw (one_plus (continued b bs), h1, h2, has.0, has.1) refl;
      most = others first b bs (1 + continued b bs) most;
    }
  where
    most : (os rest : List ℕ) (k : Kind) → bs ≡ os ++ rest → kind_of first (b ∷ os) ≡ Some k → suc (length os) ≤ 1 + continued b bs
    most [] rest k e f = omega arith
    most (o ∷ os) rest k e f =
        let starts : starts_number b (o ∷ os) ≡ true = ap (starts_number b) (sym e) ∙ h3 in
        let goes = when_true (each_continues b (o ∷ os)) kind.Number k (rw (h1, h2, starts) at f) in
        let is : is_number (b ∷ o ∷ os) ≡ true = rw (starts, goes) refl in
        let le : suc (suc (length os)) ≤ number_len (b ∷ bs) = number_most (b ∷ o ∷ os) rest (b ∷ bs) is (ap (λ (l : List ℕ). b ∷ l) e) in
        omega (arith, le, number_size b bs h3)

-- ---- literals

literal : (first : Bool) (q : ℕ) (bs : List ℕ) → ((xs : List ℕ) → kind_of first (q ∷ xs) ≡ literal_kind q xs) → Led first (literal_next q bs) (q ∷ bs)
literal first q bs plain =
    let n = literal_len q false bs in
    let le : n ≤ length bs = literal_within q false bs in
    let size : length (take n bs) ≡ n = omega (arith, length-take n bs) in
    let alone = literal_alone q false bs in
    let whole : nat_eq (literal_len q false (take n bs)) (length (take n bs)) ≡ true = rw (alone.0, size) (same n) in
    record {
      some = omega arith;
      within = omega (arith, le);
      is_kind = rw (one_plus n) (plain (take n bs) ∙ rw (whole, alone.1) refl);
      most = others first q bs (1 + n) (λ os rest k e f.
          let t = when_true _ _ k (sym (plain os) ∙ f) in
          let le : length os ≤ literal_len q false (os ++ rest) = literal_most q false os rest (same_byte _ _ t) in
          omega (arith, le, ap (literal_len q false) e));
    }
  where
    same : (n : ℕ) → nat_eq n n ≡ true
    same n = grind arith

quote_is : (b : ℕ) → is_quote b ≡ true → (b ≡ 39) ⊎ (b ≡ 34)
quote_is b h = by_test (nat_eq b 39) refl h
  where
    by_test : (t : Bool) → nat_eq b 39 ≡ t → (t || nat_eq b 34) ≡ true → (b ≡ 39) ⊎ (b ≡ 34)
    by_test true g e = inl (same_byte b 39 g)
    by_test false g e = inr (same_byte b 34 e)

single : (first : Bool) (xs : List ℕ) → kind_of first (39 ∷ xs) ≡ literal_kind 39 xs
single first [] = refl
single first (x ∷ xs) = refl

double : (first : Bool) (xs : List ℕ) → kind_of first (34 ∷ xs) ≡ literal_kind 34 xs
double first [] = refl
double first (x ∷ xs) = refl

quoted : (first : Bool) (b : ℕ) (bs : List ℕ) → is_quote b ≡ true → Led first (literal_next b bs) (b ∷ bs)
quoted first b bs h = elim (quote_is b h) [
  | inl e ↦ subst (λ x. Led first (literal_next x bs) (x ∷ bs)) (sym e) (literal first 39 bs (single first))
  | inr e ↦ subst (λ x. Led first (literal_next x bs) (x ∷ bs)) (sym e) (literal first 34 bs (double first))
]

-- ---- lines that begin with `#`

hash : (xs : List ℕ) → kind_of true (35 ∷ xs) ≡ when (list_all goes_on xs) (directive_kind xs)
hash [] = refl
hash (x ∷ xs) = refl

line : (bs : List ℕ) → Led true (directive_next bs) (35 ∷ bs)
line bs = record {
  some = omega arith;
  within = omega (arith, run_within goes_on bs);
  is_kind = rw (one_plus (line_len bs)) (hash (take (line_len bs) bs) ∙ rw (run_all goes_on bs) refl);
  most = others true 35 bs (1 + line_len bs) (λ os rest k e f. omega (arith, run_most goes_on os rest bs (when_true (list_all goes_on os) (directive_kind os) k (sym (hash os) ∙ f)) e));
}

directive : (first : Bool) (b : ℕ) (bs : List ℕ) → (nat_eq b 35 && first) ≡ true → Led first (directive_next bs) (b ∷ bs)
directive first b bs h =
    let two = both (nat_eq b 35) first h in
    subst (λ x. Led first (directive_next bs) (x ∷ bs)) (sym (same_byte b 35 two.0)) (subst (λ f. Led f (directive_next bs) (35 ∷ bs)) (sym two.1) (line bs))

-- ---- comments

block : (first : Bool) (bs : List ℕ) → Led first (comment_next bs (close_len bs)) (47 ∷ 42 ∷ bs)
block first bs = by_len (close_len bs) refl
  where
    by_len : (o : Option ℕ) → close_len bs ≡ o → Led first (comment_next bs o) (47 ∷ 42 ∷ bs)
    by_len None e = record {
      some = omega arith;
      within = omega arith;
      is_kind = rw (two_plus (length bs), all_of bs) (never_closed 0 bs e);
      most = λ other rest k w f. inside other rest w;
    }
      where
        all_of : (xs : List ℕ) → take (length xs) xs ≡ xs
        all_of [] = refl
        all_of (x ∷ xs) = ap (λ (l : List ℕ). x ∷ l) (all_of xs)

        inside : (other rest : List ℕ) → (47 ∷ 42 ∷ bs) ≡ other ++ rest → length other ≤ 2 + length bs
        inside other rest w = omega (arith, ap length w, length-append other rest)
    by_len (Some m) e =
        let c = closed 0 bs m e in
        let same : m ≡ c.size = omega (arith, c.count) in
        record {
          some = omega arith;
          within = omega (arith, c.count, c.within);
          is_kind = rw (two_plus m, same) (c.is_comment);
          most = others first 47 (42 ∷ bs) (2 + m) (most c);
        }
      where
        most : (c : Closed 0 bs m) → (os rest : List ℕ) (k : Kind) → (42 ∷ bs) ≡ os ++ rest → kind_of first (47 ∷ os) ≡ Some k → suc (length os) ≤ 2 + m
        most c [] rest k w f = omega arith
        most c (o ∷ os) rest k w f =
            let head : 42 ≡ o = cc in
            let tail : bs ≡ os ++ rest = cc in
            let is : comment_kind os ≡ Some k = ap (λ x. kind_of first (47 ∷ x ∷ os)) head ∙ f in
            omega (arith, c.count, c.most os rest k tail is)

slashes : (first : Bool) (bs : List ℕ) → Led first (record { kind = kind.Comment; length = 2 + line_len bs }) (47 ∷ 47 ∷ bs)
slashes first bs = record {
  some = omega arith;
  within = omega (arith, run_within goes_on bs);
  is_kind = rw (two_plus (line_len bs), run_all goes_on bs) refl;
  most = others first 47 (47 ∷ bs) (2 + line_len bs) most;
}
  where
    most : (os rest : List ℕ) (k : Kind) → (47 ∷ bs) ≡ os ++ rest → kind_of first (47 ∷ os) ≡ Some k → suc (length os) ≤ 2 + line_len bs
    most [] rest k w f = omega arith
    most (o ∷ os) rest k w f =
        let head : 47 ≡ o = cc in
        let tail : bs ≡ os ++ rest = cc in
        let is : when (list_all goes_on os) kind.Comment ≡ Some k = ap (λ x. kind_of first (47 ∷ x ∷ os)) head ∙ f in
        omega (arith, run_most goes_on os rest bs (when_true (list_all goes_on os) kind.Comment k is) tail)

-- ---- symbols

module _ (first : Bool) (a : ℕ) (h1 : is_white_space a ≡ false) (h2 : is_letter a ≡ false) (h4 : is_quote a ≡ false) (h5 : (nat_eq a 35 && first) ≡ false) where
  symbol_is : (os : List ℕ) → starts_number a os ≡ false → kind_of first (a ∷ os) ≡ symbol_kind a os
  symbol_is os h3 = rw (h1, h2, h3, h4, h5) refl

  lone : (bs : List ℕ) → ((os rest : List ℕ) (k : Kind) → bs ≡ os ++ rest → kind_of first (a ∷ os) ≡ Some k → suc (length os) ≤ 1) → starts_number a [] ≡ false → Led first (lone_next a) (a ∷ bs)
  lone bs most h3 = record {
    some = omega arith;
    within = omega arith;
    is_kind = symbol_is [] h3;
    most = others first a bs 1 most;
  }

  no_digit : (bs : List ℕ) → starts_number a bs ≡ false → starts_number a [] ≡ false
  no_digit [] h = h
  no_digit (b ∷ bs) h = by_digit (is_digit a) h
    where
      by_digit : (t : Bool) → (t || (nat_eq a 46 && is_digit b)) ≡ false → t ≡ false
      by_digit true e = absurd (cc)
      by_digit false e = refl

  module _ (b : ℕ) (bs : List ℕ) (h3 : starts_number a (b ∷ bs) ≡ false) (h6 : (nat_eq a 47 && nat_eq b 42) ≡ false) (h7 : (nat_eq a 47 && nat_eq b 47) ≡ false) where
    long_is : (os : List ℕ) → kind_of first (a ∷ b ∷ os) ≡ long_kind a b os
    long_is os = symbol_is (b ∷ os) h3 ∙ rw (h6, h7) refl

    -- another piece of two bytes, or of three
    long_most : (n : ℕ) → 1 ≤ n → (is_pair a b ≡ true → 2 ≤ n) → ((c : ℕ) (cs : List ℕ) → bs ≡ c ∷ cs → is_triple a b c ≡ true → 3 ≤ n)
        → (os rest : List ℕ) (k : Kind) → (b ∷ bs) ≡ os ++ rest → kind_of first (a ∷ os) ≡ Some k → suc (length os) ≤ n
    long_most n one two three [] rest k w f = one
    long_most n one two three (o ∷ []) rest k w f =
        let head : b ≡ o = cc in
        let is : long_kind a b [] ≡ Some k = sym (long_is []) ∙ ap (λ x. kind_of first (a ∷ x ∷ [])) head ∙ f in
        two (when_true (is_pair a b) kind.Punctuator k is)
    long_most n one two three (o ∷ c ∷ os) rest k w f =
        let head : b ≡ o = cc in
        let tail : bs ≡ c ∷ (os ++ rest) = cc in
        let is : long_kind a b (c ∷ os) ≡ Some k = sym (long_is (c ∷ os)) ∙ ap (λ x. kind_of first (a ∷ x ∷ c ∷ os)) head ∙ f in
        let t = both (is_triple a b c) (is_empty os) (when_true (is_triple a b c && is_empty os) kind.Punctuator k is) in
        omega (arith, three c (os ++ rest) tail t.0, empty_len os t.1)

    pair : ((c : ℕ) (cs : List ℕ) → bs ≡ c ∷ cs → is_triple a b c ≡ true → ⊥) → Led first (pair_next a b) (a ∷ b ∷ bs)
    pair none = choose (λ n. Led first n (a ∷ b ∷ bs)) (is_pair a b) _ _
        (λ h. record {
          some = omega arith;
          within = omega arith;
          is_kind = long_is [] ∙ rw h refl;
          most = others first a (b ∷ bs) 2 (long_most 2 (omega arith) (λ _. omega arith) (λ c cs e t. absurd (none c cs e t)));
        })
        (λ h. lone (b ∷ bs) (long_most 1 (omega arith) (λ t. absurd (no_both h t)) (λ c cs e t. absurd (none c cs e t))) (no_digit (b ∷ bs) h3))
      where
        no_both : {t : Bool} → t ≡ false → t ≡ true → ⊥
        no_both h g = cc

  long : (b : ℕ) (bs : List ℕ) → starts_number a (b ∷ bs) ≡ false → (nat_eq a 47 && nat_eq b 42) ≡ false → (nat_eq a 47 && nat_eq b 47) ≡ false → Led first (long_next a b bs) (a ∷ b ∷ bs)
  long b [] h3 h6 h7 = pair b [] h3 h6 h7 (λ c cs e t. absurd (cc))
  long b (c ∷ bs) h3 h6 h7 = choose (λ n. Led first n (a ∷ b ∷ c ∷ bs)) (is_triple a b c) _ _
      (λ h. record {
        some = omega arith;
        within = omega arith;
        is_kind = long_is b (c ∷ bs) h3 h6 h7 (c ∷ []) ∙ rw h refl;
        most = others first a (b ∷ c ∷ bs) 3 (long_most b (c ∷ bs) h3 h6 h7 3 (omega arith) (λ _. omega arith) (λ d cs e t. omega arith));
      })
      (λ h. pair b (c ∷ bs) h3 h6 h7 (other h))
    where
      other : is_triple a b c ≡ false → (d : ℕ) (cs : List ℕ) → (c ∷ bs) ≡ d ∷ cs → is_triple a b d ≡ true → ⊥
      other h d cs e t = let head : c ≡ d = cc in let g : is_triple a b c ≡ true = ap (is_triple a b) head ∙ t in cc

  symbol : (bs : List ℕ) → starts_number a bs ≡ false → Led first (symbol_next a bs) (a ∷ bs)
  symbol [] h3 = lone [] none h3
    where
      none : (os rest : List ℕ) (k : Kind) → [] ≡ os ++ rest → kind_of first (a ∷ os) ≡ Some k → suc (length os) ≤ 1
      none [] rest k w f = omega arith
      none (o ∷ os) rest k w f = absurd (cc)
  symbol (b ∷ bs) h3 = choose (λ n. Led first n (a ∷ b ∷ bs)) (nat_eq a 47 && nat_eq b 42) _ _
      (λ h. let two = both (nat_eq a 47) (nat_eq b 42) h in
      subst (λ x. Led first (comment_next bs (close_len bs)) (x ∷ b ∷ bs)) (sym (same_byte a 47 two.0)) (subst (λ x. Led first (comment_next bs (close_len bs)) (47 ∷ x ∷ bs)) (sym (same_byte b 42 two.1)) (block first bs)))
      (λ h6. choose (λ n. Led first n (a ∷ b ∷ bs)) (nat_eq a 47 && nat_eq b 47) _ _
      (λ h. let two = both (nat_eq a 47) (nat_eq b 47) h in
      subst (λ x. Led first (record { kind = kind.Comment; length = 2 + line_len bs }) (x ∷ b ∷ bs)) (sym (same_byte a 47 two.0)) (subst (λ x. Led first (record { kind = kind.Comment; length = 2 + line_len bs }) (47 ∷ x ∷ bs)) (sym (same_byte b 47 two.1)) (slashes first bs)))
      (λ h7. long b bs h3 h6 h7))

head : (first : Bool) (b : ℕ) (bs : List ℕ) → Led first (head_next first b bs) (b ∷ bs)
head first b bs =
    choose (λ n. Led first n (b ∷ bs)) (is_white_space b) _ _ (λ h. white first b bs h) (λ h1.
    choose (λ n. Led first n (b ∷ bs)) (is_letter b) _ _ (λ h. word first b bs h1 h) (λ h2.
    choose (λ n. Led first n (b ∷ bs)) (starts_number b bs) _ _ (λ h. number first b bs h1 h2 h) (λ h3.
    choose (λ n. Led first n (b ∷ bs)) (is_quote b) _ _ (λ h. quoted first b bs h) (λ h4.
    choose (λ n. Led first n (b ∷ bs)) (nat_eq b 35 && first) _ _ (λ h. directive first b bs h) (λ h5. symbol first b h1 h2 h4 h5 bs h3)))))

pub led : (first : Bool) (bs : List ℕ) → 0 < length bs → Led first (next_at first bs) bs
unfolding next_at
led first [] h = absurd (omega arith)
led first (b ∷ bs) h = head first b bs

pub leads : (first : Bool) (bs : List ℕ) → 0 < length bs → Leads first (next_at first bs).kind (take (next_at first bs).length bs) (drop (next_at first bs).length bs) bs
leads first bs h =
    let l = led first bs h in
    let size : length (take (next_at first bs).length bs) ≡ (next_at first bs).length = omega (arith, length-take (next_at first bs).length bs, l.within) in
    record {
      whole = sym (take-append-drop (next_at first bs).length bs);
      is_kind = l.is_kind;
      longest = λ other rest k e f. omega (arith, size, l.most other rest k e f);
    }
