-- How many bits of a number are set.
use Rattle.std.proofs.Common.{◌≡◌, ℕ, zero, suc, ◌+◌, ◌/◌, ◌%◌, ◌^◌, ◌<◌, ◌≤◌, count_ones, sym, ap, ◌∙◌, subst, arith, mod-lt}
use Rattle.std.specs.Int.{bit_at}
use Rattle.std.specs.Int.Count.{ones-le, ones_cat, ones_step}
use Rattle.std.proofs.lemmas.Nat.{mod-pow-add, ones_le_self, zero_from_ones, pow_pos}
use Rattle.std.proofs.lemmas.Nat.Bits.{bit_at_lowest, bit_at-suc}
use native.Mathlib.Decide.{ℕ_discrete}
use mathlib.Core.Logic.{dite}

pub none_set : (n : ℕ) → n < 1 → count_ones n ≡ 0
none_set n less = let h = ones-le 0 n less in omega arith

ones_of_bit : (n : ℕ) → n < 2 → count_ones n ≡ n
ones_of_bit n less = let few = ones_le_self n in dite (ℕ_discrete (count_ones n) 0)
    (λ none. none ∙ sym (zero_from_ones n none))
    (λ some. omega arith)

-- one bit more
pub ones_more : (x i : ℕ) → count_ones (x % 2 ^ suc i) ≡ count_ones (x % 2 ^ i) + bit_at x i
ones_more x i =
    let one : 1 + i ≡ suc i = omega arith in
    let split = mod-pow-add x 1 i in
    let cat = ones_cat i (x / 2 ^ i % 2) (x % 2 ^ i) (mod-lt x (pow_pos i)) in
    let bit = ones_of_bit (x / 2 ^ i % 2) (mod-lt (x / 2 ^ i) (omega arith)) in
    let whole : count_ones (x % 2 ^ (1 + i)) ≡ count_ones (x % 2 ^ i) + bit_at x i = ap count_ones split ∙ cat ∙ (omega arith) in
    subst (λ (n : ℕ). count_ones (x % 2 ^ n) ≡ count_ones (x % 2 ^ i) + bit_at x i) one whole

-- a number that has each bit of another has as many at least
pub ones_grow : (d a b : ℕ) → a ≤ d → ((n : ℕ) → bit_at a n ≤ bit_at b n) → count_ones a ≤ count_ones b
ones_grow zero a b small each = let none = none_set a (omega arith) in omega arith
ones_grow (suc d) a b small each =
    let x = ones_step a in let y = ones_step b in
    let low : a % 2 ≤ b % 2 = (let h = each 0 in let p = bit_at_lowest a in let q = bit_at_lowest b in omega arith) in
    let rest = ones_grow d (a / 2) (b / 2) (omega arith) (λ n. let h = each (suc n) in let p = bit_at-suc a n in let q = bit_at-suc b n in omega arith) in
    omega arith
