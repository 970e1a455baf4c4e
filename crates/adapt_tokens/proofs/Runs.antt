-- Runs of bytes: literals and comments.
use Rattle.std.proofs.Common.{◌≡◌, ℕ, zero, suc, ◌+◌, ◌≤◌, Bool, true, false, not, ◌&&◌, cond, nat_eq, List, [], ◌∷◌, ◌++◌, length, take, Some, None, refl, subst, sym, arith}
use Rattle.mc_lex.specs.Bytes.{is_line_end}
use Rattle.mc_lex.specs.steps.Scanner.{close_from}
use Rattle.adapt_tokens.specs.declared.kind.Kind.{Kind}
use Rattle.adapt_tokens.specs.declared.kind.Kind.TheVariants as kind
use Rattle.adapt_tokens.specs.Literals.{literal_len, literal_closes}
use Rattle.adapt_tokens.specs.Kinds.{is_empty, when, comment_kind}

pub one_plus : (n : ℕ) → 1 + n ≡ suc n
one_plus n = omega arith

pub two_plus : (n : ℕ) → 2 + n ≡ suc (suc n)
two_plus n = omega arith

pub when_true : (t : Bool) (k j : Kind) → when t k ≡ Some j → t ≡ true
when_true true k j e = refl
when_true false k j e = absurd (cc)

pub empty_len : (bs : List ℕ) → is_empty bs ≡ true → length bs ≡ 0
empty_len [] h = refl
empty_len (b ∷ bs) h = absurd (cc)

-- ---- literals

module _ (quote : ℕ) where
  pub literal_within : (e : Bool) (bs : List ℕ) → literal_len quote e bs ≤ length bs
  literal_within e [] = omega arith
  literal_within e (b ∷ bs) = by_end (is_line_end b) (not e && nat_eq b quote) (literal_within (not e && nat_eq b 92) bs)
    where
      by_end : (t u : Bool) → literal_len quote (not e && nat_eq b 92) bs ≤ length bs → cond t 0 (cond u 1 (1 + literal_len quote (not e && nat_eq b 92) bs)) ≤ suc (length bs)
      by_end true u h = omega arith
      by_end false true h = omega arith
      by_end false false h = omega arith

  -- the literal alone is as long, and as closed
  pub literal_alone : (e : Bool) (bs : List ℕ) → (literal_len quote e (take (literal_len quote e bs) bs) ≡ literal_len quote e bs) × (literal_closes quote e (take (literal_len quote e bs) bs) ≡ literal_closes quote e bs)
  literal_alone e [] = (refl, refl)
  literal_alone e (b ∷ bs) = by_end (is_line_end b) (not e && nat_eq b quote) refl refl (literal_alone (not e && nat_eq b 92) bs)
    where
      by_end : (t u : Bool) → is_line_end b ≡ t → (not e && nat_eq b quote) ≡ u
          → (literal_len quote (not e && nat_eq b 92) (take (literal_len quote (not e && nat_eq b 92) bs) bs) ≡ literal_len quote (not e && nat_eq b 92) bs) × (literal_closes quote (not e && nat_eq b 92) (take (literal_len quote (not e && nat_eq b 92) bs) bs) ≡ literal_closes quote (not e && nat_eq b 92) bs)
          → (literal_len quote e (take (cond t 0 (cond u 1 (1 + literal_len quote (not e && nat_eq b 92) bs))) (b ∷ bs)) ≡ cond t 0 (cond u 1 (1 + literal_len quote (not e && nat_eq b 92) bs)))
          × (literal_closes quote e (take (cond t 0 (cond u 1 (1 + literal_len quote (not e && nat_eq b 92) bs))) (b ∷ bs)) ≡ cond t false (cond u true (literal_closes quote (not e && nat_eq b 92) bs)))
      by_end true u h g later = (refl, refl)
      by_end false true h g later = (rw (h, g) refl, rw (h, g) refl)
      by_end false false h g later = (
        rw (one_plus (literal_len quote (not e && nat_eq b 92) bs), h, g, later.0) (one_plus (literal_len quote (not e && nat_eq b 92) bs)),
        rw (one_plus (literal_len quote (not e && nat_eq b 92) bs), h, g, later.1) refl,
      )

  -- a literal that is a whole text is no longer than that of the text with more after it
  pub literal_most : (e : Bool) (os rest : List ℕ) → literal_len quote e os ≡ length os → length os ≤ literal_len quote e (os ++ rest)
  literal_most e [] rest h = omega arith
  literal_most e (b ∷ os) rest h = by_end (is_line_end b) (not e && nat_eq b quote) h (literal_most (not e && nat_eq b 92) os rest)
    where
      by_end : (t u : Bool) → cond t 0 (cond u 1 (1 + literal_len quote (not e && nat_eq b 92) os)) ≡ suc (length os)
          → (literal_len quote (not e && nat_eq b 92) os ≡ length os → length os ≤ literal_len quote (not e && nat_eq b 92) (os ++ rest))
          → suc (length os) ≤ cond t 0 (cond u 1 (1 + literal_len quote (not e && nat_eq b 92) (os ++ rest)))
      by_end true u g later = absurd (omega arith)
      by_end false true g later = omega arith
      by_end false false g later = let same : literal_len quote (not e && nat_eq b 92) os ≡ length os = omega arith in omega (arith, later same)

-- ---- comments

-- the text up to the first `*/`, counted from n
pub record Closed (n : ℕ) (bs : List ℕ) (m : ℕ) : Type 0 where
  pub size : ℕ
  pub count : m ≡ n + size
  pub some : 2 ≤ size
  pub within : size ≤ length bs
  pub is_comment : comment_kind (take size bs) ≡ Some kind.Comment
  pub most : (os rest : List ℕ) (k : Kind) → bs ≡ os ++ rest → comment_kind os ≡ Some k → length os ≤ size

pub closed : (n : ℕ) (bs : List ℕ) (m : ℕ) → close_from n bs ≡ Some m → Closed n bs m
closed n [] m e = absurd (cc)
closed n (a ∷ []) m e = absurd (cc)
closed n (a ∷ b ∷ bs) m e = by_test (nat_eq a 42 && nat_eq b 47) refl (closed (n + 1) (b ∷ bs) m) e
  where
    at_end : (nat_eq a 42 && nat_eq b 47) ≡ true → (os rest : List ℕ) (k : Kind) → (a ∷ b ∷ bs) ≡ os ++ rest → comment_kind os ≡ Some k → length os ≤ 2
    at_end h [] rest k w f = omega arith
    at_end h (x ∷ []) rest k w f = omega arith
    at_end h (x ∷ y ∷ os) rest k w f =
        let is_x : a ≡ x = cc in
        let is_y : b ≡ y = cc in
        let t : (nat_eq x 42 && nat_eq y 47) ≡ true = subst (λ z. (nat_eq z 42 && nat_eq y 47) ≡ true) is_x (subst (λ z. (nat_eq a 42 && nat_eq z 47) ≡ true) is_y h) in
        omega (arith, empty_len os (when_true (is_empty os) kind.Comment k (rw t at f)))

    further : (nat_eq a 42 && nat_eq b 47) ≡ false → (c : Closed (n + 1) (b ∷ bs) m) → (os rest : List ℕ) (k : Kind) → (a ∷ b ∷ bs) ≡ os ++ rest → comment_kind os ≡ Some k → length os ≤ suc c.size
    further h c [] rest k w f = omega arith
    further h c (x ∷ []) rest k w f = omega arith
    further h c (x ∷ y ∷ os) rest k w f =
        let is_x : a ≡ x = cc in
        let is_y : b ≡ y = cc in
        let tail : (b ∷ bs) ≡ (y ∷ os) ++ rest = cc in
        let t : (nat_eq x 42 && nat_eq y 47) ≡ false = subst (λ z. (nat_eq z 42 && nat_eq y 47) ≡ false) is_x (subst (λ z. (nat_eq a 42 && nat_eq z 47) ≡ false) is_y h) in
        omega (arith, c.most (y ∷ os) rest k tail (rw t at f))

    one_more : (nat_eq a 42 && nat_eq b 47) ≡ false → (size : ℕ) → 2 ≤ size → comment_kind (take size (b ∷ bs)) ≡ Some kind.Comment → comment_kind (a ∷ take size (b ∷ bs)) ≡ Some kind.Comment
    one_more h zero le f = absurd (omega arith)
    one_more h (suc size) le f = rw h f

    by_test : (t : Bool) → (nat_eq a 42 && nat_eq b 47) ≡ t → (close_from (n + 1) (b ∷ bs) ≡ Some m → Closed (n + 1) (b ∷ bs) m) → cond t (Some (n + 2)) (close_from (n + 1) (b ∷ bs)) ≡ Some m → Closed n (a ∷ b ∷ bs) m
    by_test true h later f =
        let same : n + 2 ≡ m = cc in
        record {
          size = 2;
          count = sym same;
          some = omega arith;
          within = omega arith;
          is_comment = rw h refl;
          most = at_end h;
        }
    by_test false h later f =
        let c = later f in
        record {
          size = suc c.size;
          count = omega (arith, c.count);
          some = omega (arith, c.some);
          within = omega (arith, c.within);
          is_comment = one_more h c.size c.some c.is_comment;
          most = further h c;
        }

pub never_closed : (n : ℕ) (bs : List ℕ) → close_from n bs ≡ None → comment_kind bs ≡ Some kind.OpenComment
never_closed n [] e = refl
never_closed n (a ∷ []) e = refl
never_closed n (a ∷ b ∷ bs) e = by_test (nat_eq a 42 && nat_eq b 47) e (never_closed (n + 1) (b ∷ bs))
  where
    by_test : (t : Bool) → cond t (Some (n + 2)) (close_from (n + 1) (b ∷ bs)) ≡ None → (close_from (n + 1) (b ∷ bs) ≡ None → comment_kind (b ∷ bs) ≡ Some kind.OpenComment) → cond t (when (is_empty bs) kind.Comment) (comment_kind (b ∷ bs)) ≡ Some kind.OpenComment
    by_test true f later = absurd (cc)
    by_test false f later = later f
