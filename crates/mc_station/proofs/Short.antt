-- The source that the program makes itself is short.
use Rattle.std.proofs.Common.{◌≡◌, ◌≤◌, ◌+◌, ◌*◌, ◌%◌, ◌++◌, ℕ, zero, suc, List, [], length, codes, refl, arith, length-append}
use Rattle.std.specs.Prelude.{slice_index_or}
use Rattle.std.specs.Fmt.{decimal}
use Rattle.std.specs.List.{flat_map, range_with_len}
use Rattle.std.proofs.lemmas.Fmt.{length-decimal-le_succ}
use Rattle.mc_limits.specs.Limits.{most_functions, most_source_bytes}
use Rattle.mc_gen.specs.Source.{condition_of, conditions, function_line, source_text}

condition_short : (m : ℕ) → length (slice_index_or conditions m []) ≤ 16
condition_short zero = omega (arith, (let e : length (codes "!(a<b&&b<c)||c<d") ≡ 16 = refl in e))
condition_short (suc zero) = omega (arith, (let e : length (codes "a<b&&c<d") ≡ 8 = refl in e))
condition_short (suc (suc zero)) = omega (arith, (let e : length (codes "a<b||c<d") ≡ 8 = refl in e))
condition_short (suc (suc (suc zero))) = omega (arith, (let e : length (codes "(a<b||b<c)&&c<d") ≡ 15 = refl in e))
condition_short (suc (suc (suc (suc m)))) = omega arith

line_short : (k : ℕ) → k ≤ most_functions → length (function_line k) ≤ 512
line_short k few =
    let tail : List ℕ = codes ")s++;}return s;}\n" in
    let middle : List ℕ = codes "(int a,int b,int c,int d){int s=0;int i;for(i=0;i<8;i++){if(" in
    let front : List ℕ = codes "int g" in
    let f : length front ≡ 5 = refl in
    let m : length middle ≡ 60 = refl in
    let t : length tail ≡ 17 = refl in
    let asked = condition_short (k % 4) in
    let number = length-decimal-le_succ k (omega (arith, few)) in
    let four = length-append (condition_of k) tail in
    let three = length-append middle (condition_of k ++ tail) in
    let two = length-append (decimal k) (middle ++ (condition_of k ++ tail)) in
    let one = length-append front (decimal k ++ (middle ++ (condition_of k ++ tail))) in
    omega (arith, few, f, m, t, asked, number, four, three, two, one)

lines_short : (a n : ℕ) → a + n ≤ most_functions + 1 → length (flat_map function_line (range_with_len a n)) ≤ 512 * n
lines_short a zero fits = omega arith
lines_short a (suc n) fits =
    let line = line_short a (omega (arith, fits)) in
    let more = lines_short (a + 1) n (omega (arith, fits)) in
    let all = length-append (function_line a) (flat_map function_line (range_with_len (a + 1) n)) in
    omega (arith, line, more, all)

pub source_short : (n : ℕ) → n ≤ most_functions → length (source_text n) ≤ most_source_bytes
source_short n few =
    let lines = lines_short 1 n (omega (arith, few)) in
    omega (arith, few, lines)
