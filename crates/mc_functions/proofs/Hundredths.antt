-- When all are met.
use Rattle.std.proofs.Common.{◌≡◌, ◌∙◌, ◌*◌, ◌/◌, ◌≤◌, ℕ, ap, arith}
use Rattle.std.proofs.Math.Nat.{mul-div-le, div-eq_of_lt-le}
use Rattle.mc_functions.specs.declared.counts.Counts.{Counts}
use Rattle.mc_functions.specs.Counts.{percentage, total}

whole : (met all : ℕ) → 1 ≤ all → met ≤ all → (met * 100) / all ≡ 100 → met ≡ all
whole met all some le is =
    let times : all * ((met * 100) / all) ≤ met * 100 = mul-div-le (met * 100) all in
    let same : all * ((met * 100) / all) ≡ all * 100 = ap (λ (q : ℕ). all * q) is in
    omega (arith, times, same, le)

hundred : (all : ℕ) → 1 ≤ all → (all * 100) / all ≡ 100
hundred all some = div-eq_of_lt-le {k = 100} all {m = all * 100} (omega arith) (omega arith)

pub full : (c : Counts) → 1 ≤ total c → percentage c ≡ 100 → c.met ≡ total c
full c some is = whole c.met (total c) some (omega arith) is

pub all_met : (c : Counts) → 1 ≤ total c → c.met ≡ total c → percentage c ≡ 100
all_met c some is = ap (λ (n : ℕ). (n * 100) / total c) is ∙ hundred (total c) some
