-- A test is taken out of the words of a matrix, bit by bit.
use Rattle.std.proofs.Common.{◌≡◌, ℕ, ◌+◌, ◌*◌, ◌%◌, ◌^◌, ◌<◌, List, length, get_or, set, sym, ap, ◌∙◌, subst, arith, get_or-set_same}
use Rattle.std.specs.Prelude.{bit_and, cond, nat_lt, ◌==◌, ◌&&◌}
use Rattle.std.specs.Int.{bit_at, bit_not, w64}
use Rattle.std.proofs.lemmas.Nat.Bits.{bit_at_clear_same, bit_at_clear_other}
use Rattle.std.proofs.lemmas.Bool.Decides.{nat_tests}
use Rattle.std.proofs.lemmas.List.{get_or-set_other}
use mathlib.Core.Logic.{dite}
use native.Mathlib.Decide.{ℕ_discrete}
use Rattle.mc_core.specs.declared.shape.Shape.{Shape}
use Rattle.mc_core.specs.Shape.{rows, word_count, place}
use Rattle.mc_core.specs.Matrix.{bit_of}
use Rattle.mc_cover.proofs.Bits.{same_pair, place_within}

-- a bit, once the test is taken out of the first bits
abbrev pub cleared_of : ℕ → ℕ → ℕ → ℕ → ℕ → ℕ
cleared_of bit test b t x = cond (nat_lt b bit && (t == test)) 0 x

cleared_here : (bit test x : ℕ) → cleared_of (bit + 1) test bit test x ≡ 0
cleared_here bit test x = grind (arith, nat_tests)

cleared_else : (bit test b t x : ℕ) → ¬ ((b ≡ bit) × (t ≡ test)) → cleared_of (bit + 1) test b t x ≡ cleared_of bit test b t x
cleared_else bit test b t x apart = dite (ℕ_discrete b bit) (λ e. dite (ℕ_discrete t test) (λ f. absurd (apart (e, f))) (λ ne. grind (arith, nat_tests))) (λ ne. grind (arith, nat_tests))

abbrev pub cleared : List ℕ → ℕ → ℕ → List ℕ
cleared words i n = set words i (bit_and (get_or words i 0) (bit_not w64 (1 * 2 ^ n % 2 ^ 64)))

clear_here : (words : List ℕ) (i n : ℕ) → i < length words → n < 64 → bit_at (get_or (cleared words i n) i 0) n ≡ 0
clear_here words i n h small = ap (λ (x : ℕ). bit_at x n) (get_or-set_same words i _ 0 h) ∙ bit_at_clear_same w64 (get_or words i 0) n small

clear_other : (words : List ℕ) (i n j m : ℕ) → i < length words → n < 64 → m < 64 → ¬ ((j ≡ i) × (m ≡ n)) → bit_at (get_or (cleared words i n) j 0) m ≡ bit_at (get_or words j 0) m
clear_other words i n j m h small small' apart = dite (ℕ_discrete j i)
    (λ same. subst (λ (k : ℕ). bit_at (get_or (cleared words i n) k 0) m ≡ bit_at (get_or words k 0) m) (sym same)
    (ap (λ (x : ℕ). bit_at x m) (get_or-set_same words i _ 0 h) ∙ bit_at_clear_other w64 (get_or words i 0) n small m small' (λ e. apart (same, e))))
    (λ ne. ap (λ (x : ℕ). bit_at x m) (get_or-set_other words i j _ 0 ne))

pub clear_more : (k : Shape) (words : List ℕ) (old : ℕ → ℕ → ℕ) (bit test : ℕ) → length words ≡ word_count k → bit < k.bits → test < k.tests
    → ((b t : ℕ) → b < k.bits → t < 64 * rows k → bit_of k words b t ≡ cleared_of bit test b t (old b t))
    → (b t : ℕ) → b < k.bits → t < 64 * rows k → bit_of k (cleared words (place k bit test) (test % 64)) b t ≡ cleared_of (bit + 1) test b t (old b t)
clear_more k words old bit test long hbit htest before b t hb wide' =
    let wide : test < 64 * rows k = omega arith in
    let within = place_within k bit test hbit wide in
    let inside : place k bit test < length words = omega arith in
    let step = λ (apart : ¬ ((b ≡ bit) × (t ≡ test))).
    clear_other words (place k bit test) (test % 64) (place k b t) (t % 64) inside (omega arith) (omega arith) (λ p. apart (same_pair k b t bit test wide' wide p.0 p.1))
    ∙ before b t hb wide' ∙ sym (cleared_else bit test b t (old b t) apart) in
    dite (ℕ_discrete b bit)
    (λ e. dite (ℕ_discrete t test)
    (λ f. subst (λ (p : ℕ × ℕ). bit_of k (cleared words (place k bit test) (test % 64)) p.0 p.1 ≡ cleared_of (bit + 1) test p.0 p.1 (old p.0 p.1)) (λ i. (sym e i, sym f i))
    (clear_here words (place k bit test) (test % 64) inside (omega arith) ∙ sym (cleared_here bit test (old bit test))))
    (λ ne. step (λ p. ne p.1)))
    (λ ne. step (λ p. ne p.0))
