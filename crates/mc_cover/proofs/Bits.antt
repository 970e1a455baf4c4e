-- One bit of one word, and the words after the first.
use Rattle.std.proofs.Common.{◌≡◌, ◌≢◌, ℕ, zero, suc, ◌+◌, ◌*◌, ◌/◌, ◌%◌, ◌^◌, ◌<◌, ◌≤◌, List, [], ◌∷◌, length, get_or, set, sym, refl, ap, subst, arith, get_or-set_same}
use Rattle.std.specs.Prelude.{bit_or}
use Rattle.std.specs.Int.{bit_at}
use Rattle.std.proofs.lemmas.Nat.{pow_below, same_from_place, mul-add-lt}
use Rattle.std.proofs.lemmas.Nat.Bits.{bit_at_or, bit_at-pow_same, bit_at-pow_other, bit_at-lt}
use Rattle.std.proofs.lemmas.List.{get_or-set_other}
use native.Mathlib.Decide.{dec_le, ℕ_discrete}
use mathlib.Core.Logic.{dite}
use Rattle.mc_core.specs.declared.shape.Shape.{Shape}
use Rattle.mc_core.specs.Shape.{rows, word_count, place}
use Rattle.mc_cover.specs.Rule.{coverage}

pub pow_same : (m n : ℕ) → 2 ^ m ≡ 2 ^ n → m ≡ n
pow_same m n e = dite (dec_le m n) (λ le. dite (dec_le n m) (λ ge. omega arith) (λ lt. let h = pow_below m n (omega arith) in absurd (omega arith))) (λ lt. let h = pow_below n m (omega arith) in absurd (omega arith))

bit_or_same : (x n : ℕ) → bit_at (bit_or x (2 ^ n)) n ≡ 1
bit_or_same x n = let a = bit_at_or x (2 ^ n) n in let b = bit_at-pow_same n in let c = bit_at-lt x n in omega arith

bit_or_other : (x n m : ℕ) → m ≢ n → bit_at (bit_or x (2 ^ n)) m ≡ bit_at x m
bit_or_other x n m ne = let a = bit_at_or x (2 ^ n) m in let b = bit_at-pow_other n m ne in omega arith

-- the words after one bit is set
abbrev pub marked : List ℕ → ℕ → ℕ → List ℕ
marked words i n = set words i (bit_or (get_or words i 0) (2 ^ n))

pub mark_here : (words : List ℕ) (i n : ℕ) → i < length words → bit_at (get_or (marked words i n) i 0) n ≡ 1
mark_here words i n h = subst (λ (x : ℕ). bit_at x n ≡ 1) (sym (get_or-set_same words i (bit_or (get_or words i 0) (2 ^ n)) 0 h)) (bit_or_same (get_or words i 0) n)

pub mark_other : (words : List ℕ) (i n j m : ℕ) → i < length words → ¬ ((j ≡ i) × (m ≡ n)) → bit_at (get_or (marked words i n) j 0) m ≡ bit_at (get_or words j 0) m
mark_other words i n j m h apart = dite (ℕ_discrete j i)
    (λ same. subst (λ (k : ℕ). bit_at (get_or (marked words i n) k 0) m ≡ bit_at (get_or words k 0) m) (sym same)
    (subst (λ (x : ℕ). bit_at x m ≡ bit_at (get_or words i 0) m) (sym (get_or-set_same words i (bit_or (get_or words i 0) (2 ^ n)) 0 h)) (bit_or_other (get_or words i 0) n m (λ e. apart (same, e)))))
    (λ ne. ap (λ (x : ℕ). bit_at x m) (get_or-set_other words i j (bit_or (get_or words i 0) (2 ^ n)) 0 ne))

-- no bit is cleared
pub mark_grows : (words : List ℕ) (i n j m : ℕ) → i < length words → bit_at (get_or words j 0) m ≤ bit_at (get_or (marked words i n) j 0) m
mark_grows words i n j m h = dite (ℕ_discrete j i)
    (λ same. dite (ℕ_discrete m n)
    (λ e. let a : bit_at (get_or (marked words i n) j 0) m ≡ 1 = subst (λ (p : ℕ × ℕ). bit_at (get_or (marked words i n) p.0 0) p.1 ≡ 1) (λ k. (sym same k, sym e k)) (mark_here words i n h) in let b = bit_at-lt (get_or words j 0) m in omega arith)
    (λ ne. let a = mark_other words i n j m h (λ p. ne p.1) in omega arith))
    (λ ne. let a = mark_other words i n j m h (λ p. ne p.0) in omega arith)

-- two pairs whose bit is one bit are one pair
pub same_pair : (k : Shape) (b t c u : ℕ) → t < 64 * rows k → u < 64 * rows k → place k b t ≡ place k c u → t % 64 ≡ u % 64 → (b ≡ c) × (t ≡ u)
same_pair k b t c u ht hu e m =
    let p = same_from_place b (t / 64) c (u / 64) (rows k) (omega arith) (omega arith) e in
    let d = p.1 in (p.0, omega arith)

pub place_within : (k : Shape) (b t : ℕ) → b < k.bits → t < 64 * rows k → place k b t < word_count k
place_within k b t hb ht = let r : ℕ = rows k in let q : t / 64 < r = omega arith in let h = mul-add-lt b r (t / 64) k.bits hb q in let c = Rattle.std.proofs.Common.mul_comm k.bits r in omega arith

-- ---- the words after the first
pub after_first : (words : List ℕ) (p d : ℕ) → get_or (coverage words) p d ≡ get_or words (p + 1) d
after_first [] p d = refl
after_first (w ∷ ws) p d = let q : p + 1 ≡ suc p = omega arith in ap (λ (i : ℕ). get_or (w ∷ ws) i d) (sym q)

pub length_coverage : (words : List ℕ) (n : ℕ) → length words ≡ n + 1 → length (coverage words) ≡ n
length_coverage [] n e = absurd (omega arith)
length_coverage (w ∷ ws) n e = omega arith

pub coverage_drawn : (words : List ℕ) (x : ℕ) → coverage (set words 0 x) ≡ coverage words
coverage_drawn [] x = refl
coverage_drawn (w ∷ ws) x = refl

-- to set a bit of a word after the first is to set it in the words after the first
pub marked_after_first : (words : List ℕ) (p n : ℕ) → 0 < length words → marked words (p + 1) n ≡ get_or words 0 0 ∷ marked (coverage words) p n
marked_after_first [] p n some = absurd (omega arith)
marked_after_first (w ∷ ws) p n some = let q : p + 1 ≡ suc p = omega arith in ap (λ (i : ℕ). marked (w ∷ ws) i n) q
