-- Where a comment closes, as the scan finds it.
use Rattle.std.proofs.Common.{◌≡◌, ℕ, suc, ◌+◌, ◌≤◌, Bool, true, false, ◌&&◌, cond, nat_eq, List, [], ◌∷◌, ◌++◌, length, Option, Some, None, refl, ap, subst, sym, ◌∙◌, arith}
use Rattle.mc_lex.specs.Gaps.{ClosesComment}
use Rattle.mc_lex.specs.steps.Scanner.{close_from, close_len}
use Rattle.mc_lex.proofs.Texts.{both, not_both, same_byte}

-- what closes is found
ends_here : (n : ℕ) (after : List ℕ) → close_from n (42 ∷ 47 ∷ after) ≡ Some (n + 2)
ends_here n after = refl

abbrev IsSome' : Option ℕ → Type 0
IsSome' None = ⊥
IsSome' (Some m) = Unit {0}

some_end : (inside after : List ℕ) (n : ℕ) → IsSome' (close_from n (inside ++ (42 ∷ 47 ∷ after)))
some_end [] after n = tt
some_end (a ∷ []) after n = by_test (nat_eq a 42 && false)
  where
    by_test : (t : Bool) → IsSome' (cond t (Some (n + 2)) (Some (n + 1 + 2)))
    by_test true = tt
    by_test false = tt
some_end (a ∷ b ∷ bs) after n = by_test (nat_eq a 42 && nat_eq b 47) (some_end (b ∷ bs) after (n + 1))
  where
    by_test : (t : Bool) → IsSome' (close_from (n + 1) ((b ∷ bs) ++ (42 ∷ 47 ∷ after))) → IsSome' (cond t (Some (n + 2)) (close_from (n + 1) ((b ∷ bs) ++ (42 ∷ 47 ∷ after))))
    by_test true later = tt
    by_test false later = later

-- what is found closes
pub record Closing (n : ℕ) (bs : List ℕ) (m : ℕ) : Type 0 where
  pub inside : List ℕ
  pub after : List ℕ
  pub closes : ClosesComment inside after bs
  pub count : m ≡ n + (length inside + 2)

no_less : (n : ℕ) → 0 ≤ n
no_less n = omega arith

pub closing : (n : ℕ) (bs : List ℕ) (m : ℕ) → close_from n bs ≡ Some m → Closing n bs m
closing n [] m e = absurd (cc)
closing n (a ∷ []) m e = absurd (cc)
closing n (a ∷ b ∷ bs) m e = by_test (nat_eq a 42 && nat_eq b 47) refl (closing (n + 1) (b ∷ bs) m) e
  where
    by_test : (t : Bool) → (nat_eq a 42 && nat_eq b 47) ≡ t → (close_from (n + 1) (b ∷ bs) ≡ Some m → Closing (n + 1) (b ∷ bs) m) → cond t (Some (n + 2)) (close_from (n + 1) (b ∷ bs)) ≡ Some m → Closing n (a ∷ b ∷ bs) m
    by_test true h later f =
        let two = both (nat_eq a 42) (nat_eq b 47) h in
        let is_a = same_byte a 42 two.0 in
        let is_b = same_byte b 47 two.1 in
        let same : n + 2 ≡ m = cc in
        record {
          inside = [];
          after = bs;
          closes = record { whole = rw (is_a, is_b) refl; next = λ other rest g. no_less (length other) };
          count = omega (arith, same);
        }
    by_test false h later f =
        let c = later f in
        record {
          inside = a ∷ c.inside;
          after = c.after;
          closes = record { whole = ap (λ (l : List ℕ). a ∷ l) c.closes.whole; next = next c };
          count = omega (arith, c.count);
        }
      where
        next : (c : Closing (n + 1) (b ∷ bs) m) → (other rest : List ℕ) → (a ∷ b ∷ bs) ≡ other ++ (42 ∷ 47 ∷ rest) → suc (length c.inside) ≤ length other
        next c [] rest g =
            let is_a : a ≡ 42 = cc in
            let is_b : b ≡ 47 = cc in
            let yes' : (nat_eq a 42 && nat_eq b 47) ≡ true = rw (is_a, is_b) refl in
            absurd (not_both _ yes' h)
        next c (o ∷ os) rest g =
            let tail : (b ∷ bs) ≡ os ++ (42 ∷ 47 ∷ rest) = cc in
            omega (arith, c.closes.next os rest tail)

-- the number of bytes of a comment that is closed
pub closed_len : (inside after bs : List ℕ) → ClosesComment inside after bs → close_len bs ≡ Some (length inside + 2)
closed_len inside after bs c = by_len (close_len bs) refl
  where
    by_len : (o : Option ℕ) → close_len bs ≡ o → o ≡ Some (length inside + 2)
    by_len None e = absurd (subst IsSome' (ap (close_from 0) (sym c.whole) ∙ e) (some_end inside after 0))
    by_len (Some m) e =
        let found = closing 0 bs m e in
        let less = c.next found.inside found.after found.closes.whole in
        let most = found.closes.next inside after c.whole in
        ap Some (omega (arith, found.count, less, most))

-- a comment that is not closed
pub open_len : (bs : List ℕ) → ((inside after : List ℕ) → bs ≡ inside ++ (42 ∷ 47 ∷ after) → ⊥) → close_len bs ≡ None
open_len bs never = by_len (close_len bs) refl
  where
    by_len : (o : Option ℕ) → close_len bs ≡ o → o ≡ None
    by_len None e = refl
    by_len (Some m) e = let found = closing 0 bs m e in absurd (never found.inside found.after found.closes.whole)

pub len_open : (bs : List ℕ) → close_len bs ≡ None → (inside after : List ℕ) → bs ≡ inside ++ (42 ∷ 47 ∷ after) → ⊥
len_open bs e inside after w = subst IsSome' (ap (close_from 0) (sym w) ∙ e) (some_end inside after 0)
