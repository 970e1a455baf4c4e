-- The rule holds at the start.
use Rattle.std.proofs.Common.{◌≡◌, ℕ, zero, suc, ◌+◌, ◌%◌, List, [], ◌∷◌, length, get_or, sym, refl, ap, ◌∙◌, subst, arith}
use Rattle.std.specs.Prelude.{min, replicate}
use Rattle.std.specs.Int.{bit_at}
use Rattle.std.proofs.lemmas.Nat.Bits.{bit_at-zero}
use mathlib.Core.Option.{some, some-injective, some-ne-none}
use lib.ListN.{get_elem?}
use Rattle.mc_core.specs.declared.shape.Shape.{Shape}
use Rattle.mc_core.specs.Shape.{word_count, place}
use Rattle.mc_core.specs.Counts.{once_below}
use Rattle.mc_cover.specs.declared.view.View.{View}
use Rattle.mc_cover.specs.Views.{opener}
use Rattle.mc_cover.specs.Rule.{IsSound, IsKept}
use Rattle.mc_cover.specs.Steps.{opened}
use Rattle.mc_cover.proofs.Counts.{once_none}
use Rattle.mc_cover.proofs.Bits.{after_first}

only : (k : Shape) (id : ℕ) (v : View) → get_elem? (opener k ∷ []) id ≡ some v → opener k ≡ v
only k zero v e = some-injective (opener k) v e
only k (suc i) v e = absurd (some-ne-none v (sym e))

abbrev zeros : ℕ → List ℕ
zeros n = replicate n 0

zero_at : (n i : ℕ) → get_or (zeros n) i 0 ≡ 0
zero_at zero i = refl
zero_at (suc n) zero = refl
zero_at (suc n) (suc i) = zero_at n i

zeros_length : (n : ℕ) → length (zeros n) ≡ n
zeros_length zero = refl
zeros_length (suc n) = ap suc (zeros_length n)

sound : (k : Shape) (words : List ℕ) → IsSound k words (opener k)
sound k words = record {
  hits = λ j d less. absurd (omega arith);
  seen = λ j d less. absurd (omega arith);
  shape = λ _. refl;
  worker = λ e. cc;
  empty = λ e. cc;
}

pub kept_opened : (k : Shape) → IsKept k (opened k)
kept_opened k = let n = word_count k in record {
  whole = zeros_length (n + 1);
  over = let e = zero_at (n + 1) 0 in omega arith;
  claims = λ m. let e = zero_at (n + 1) 0 in let z : min (get_or (zeros (n + 1)) 0 0) k.tests ≡ 0 = omega arith in sym (ap (λ x. once_below m x) z ∙ once_none m);
  bits = λ b t hb ht. ap (λ (x : ℕ). bit_at x (t % 64)) (after_first (zeros (n + 1)) (place k b t) 0 ∙ zero_at (n + 1) (place k b t + 1)) ∙ bit_at-zero (t % 64);
  opener = refl;
  workers = refl;
  running = omega arith;
  forks = omega arith;
  each = λ id v e. subst (IsSound k (zeros (n + 1))) (only k id v e) (sound k (zeros (n + 1)));
}
