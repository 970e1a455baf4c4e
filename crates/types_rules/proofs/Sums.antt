-- Cells in all, as far as they are counted.
use Rattle.std.proofs.Common.{◌≡◌, ℕ, ◌+◌, ◌<◌, ◌≤◌, ◌⊎◌, nat_le, true, false, if◌then◌else◌, sym, ◌∙◌, subst, arith, ap, inl, inr}
use Rattle.std.proofs.lemmas.Bool.{cases_lt}
use Rattle.std.proofs.lemmas.Bool.Decides.{leb_tells}
use Rattle.types_rules.specs.Profile.{start_at, most_summed, sum_of, SumsAreExact}

pub start_small : (most n : ℕ) → n ≤ most → start_at most n ≡ n
start_small most n h = go (leb_tells n most)
  where
    go : ((nat_le n most ≡ true) × (n ≤ most)) ⊎ ((nat_le n most ≡ false) × (most < n)) → start_at most n ≡ n
    go (inl p) = ap (λ b. if b then n else most) p.0
    go (inr p) = absurd (omega (arith, h, p.1))

pub start_large : (most n : ℕ) → most < n → start_at most n ≡ most
start_large most n h = go (leb_tells n most)
  where
    go : ((nat_le n most ≡ true) × (n ≤ most)) ⊎ ((nat_le n most ≡ false) × (most < n)) → start_at most n ≡ most
    go (inl p) = absurd (omega (arith, h, p.1))
    go (inr p) = ap (λ b. if b then n else most) p.0

pub start_least : (most n : ℕ) → start_at most n ≤ n
start_least most n = go (cases_lt most n)
  where
    go : ((most < n) ⊎ (n ≤ most)) → start_at most n ≤ n
    go (inl more) = let e = start_large most n more in omega (arith, e, more)
    go (inr few) = let e = start_small most n few in omega (arith, e)

-- to count as far as the greatest sum changes nothing below it
pub start_summed : (most n : ℕ) → most ≤ most_summed → start_at most (start_at most_summed n) ≡ start_at most n
start_summed most n below = go (cases_lt most_summed n)
  where
    at_end : ((most < most_summed) ⊎ (most_summed ≤ most)) → start_at most most_summed ≡ most
    at_end (inl less) = start_large most most_summed less
    at_end (inr k) =
        let e : most_summed ≡ most = omega (arith, k, below) in
        start_small most most_summed k ∙ e

    go : ((most_summed < n) ⊎ (n ≤ most_summed)) → start_at most (start_at most_summed n) ≡ start_at most n
    go (inr few) = ap (start_at most) (start_small most_summed n few)
    go (inl more) =
        ap (start_at most) (start_large most_summed n more)
        ∙ at_end (cases_lt most most_summed)
        ∙ sym (start_large most n (omega (arith, more, below)))

pub sum_within : (before more : ℕ) → before + more ≤ most_summed → sum_of before more ≡ before + more
sum_within before more h = start_small most_summed (before + more) h

pub sum_more : (n more : ℕ) → sum_of (start_at most_summed n) more ≡ start_at most_summed (n + more)
sum_more n more = go (cases_lt most_summed n)
  where
    at_end : ((most_summed < most_summed + more) ⊎ (most_summed + more ≤ most_summed))
        → start_at most_summed (most_summed + more) ≡ most_summed
    at_end (inl less) = start_large most_summed (most_summed + more) less
    at_end (inr k) =
        let e : most_summed + more ≡ most_summed = omega (arith, k) in
        start_small most_summed (most_summed + more) k ∙ e

    go : ((most_summed < n) ⊎ (n ≤ most_summed))
        → sum_of (start_at most_summed n) more ≡ start_at most_summed (n + more)
    go (inr few) = ap (λ m. sum_of m more) (start_small most_summed n few)
    go (inl many) =
        ap (λ m. sum_of m more) (start_large most_summed n many)
        ∙ at_end (cases_lt most_summed (most_summed + more))
        ∙ sym (start_large most_summed (n + more) (omega (arith, many)))

pub start_most : (most n : ℕ) → start_at most n ≤ most
start_most most n = go (cases_lt most n)
  where
    go : ((most < n) ⊎ (n ≤ most)) → start_at most n ≤ most
    go (inl more) = let e = start_large most n more in omega (arith, e)
    go (inr few) = let e = start_small most n few in omega (arith, e, few)

pub sum_first : (n : ℕ) → n ≤ most_summed → sum_of 0 n ≡ n
sum_first n h =
    let e : 0 + n ≡ n = omega arith in ap (start_at most_summed) e ∙ start_small most_summed n h

pub sum_last : (n : ℕ) → n ≤ most_summed → sum_of n 0 ≡ n
sum_last n h =
    let e : n + 0 ≡ n = omega arith in ap (start_at most_summed) e ∙ start_small most_summed n h

pub sums : (a b c : ℕ) → sum_of (sum_of a b) c ≡ sum_of a (sum_of b c)
sums a b c =
    sum_more (a + b) c ∙ ap (start_at most_summed) (turned a b c) ∙ sym (sum_more (b + c) a)
    ∙ ap (start_at most_summed) (swapped (sum_of b c) a)
  where
    turned : (a b c : ℕ) → a + b + c ≡ b + c + a
    turned a b c = omega arith

    swapped : (n a : ℕ) → n + a ≡ a + n
    swapped n a = omega arith

pub sums_exact : SumsAreExact
sums_exact before more h = go (cases_lt most_summed (before + more))
  where
    go : ((most_summed < before + more) ⊎ (before + more ≤ most_summed)) → sum_of before more ≡ before + more
    go (inl many) = let e = start_large most_summed (before + more) many in absurd (omega (arith, e, h))
    go (inr few) = start_small most_summed (before + more) few

-- a sum that is counted within a limit is within it
pub summed_within : (most n : ℕ) → most < most_summed → start_at most_summed n ≤ most → n ≤ most
summed_within most n below h = go (cases_lt most_summed n)
  where
    go : ((most_summed < n) ⊎ (n ≤ most_summed)) → n ≤ most
    go (inl more) =
        let e = start_large most_summed n more in
        let k : most_summed ≤ most = subst (λ m. m ≤ most) e h in
        absurd (omega (arith, k, below))
    go (inr few) = subst (λ m. m ≤ most) (start_small most_summed n few) h
