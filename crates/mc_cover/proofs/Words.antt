-- The rule in plain words follows from the sums.
use Rattle.std.proofs.Common.{◌≡◌, ℕ, suc, ◌<◌, List, [], ◌∷◌, get_or, refl, ap, arith}
use Rattle.std.specs.Prelude.{min, Contains, sum_by}
use Rattle.std.proofs.lemmas.List.Sums.{sum_by-cons}
use Rattle.std.proofs.lemmas.Nat.Bits.{bit_at-lt}
use mathlib.Core.Option.{some}
use mathlib.Core.Logic.{dite}
use native.Mathlib.Decide.{ℕ_discrete, dec_lt}
use lib.ListN.{get_elem?}
use Rattle.mc_core.specs.declared.shape.Shape.{Shape}
use Rattle.mc_core.specs.Counts.{marks, times}
use Rattle.mc_cover.specs.declared.view.View.{View}
use Rattle.mc_cover.specs.declared.view.Role.{Role}
use Rattle.mc_cover.specs.declared.view.Role.TheVariants.{Opener, Worker, Spent}
use Rattle.mc_cover.specs.Views.{opens}
use Rattle.mc_cover.specs.Rule.{Shared, HasView, IsKept, draws, coverage}
use Rattle.mc_cover.specs.Words.{OfSome, IsDrawnTest, IsOrderly, IsRuled}
use Rattle.mc_cover.proofs.Sums.{part_le, parts_le}
use Rattle.mc_cover.proofs.Counts.{contains_of_marks, marks_of_contains, contains_of_times, times_of_contains, once_in, once_le_one, below_of_once}
use Rattle.mc_cover.proofs.Ends.{forks_is, joined_is}
use Rattle.mc_cover.proofs.Claims.{draws_small}

-- a sum that is not 0 has a part that is not 0
sum_pos : {V : Type 0} (f : V → ℕ) (views : List V) → 0 < sum_by f views → (id : ℕ) × (v : V) × (get_elem? views id ≡ some v) × (0 < f v)
sum_pos f [] h = absurd (omega arith)
sum_pos f (x ∷ xs) h = dite (dec_lt 0 (f x)) (λ here. (0, x, refl, here))
    (λ no. let c = sum_by-cons f x xs in let r = sum_pos f xs (omega arith) in (suc r.0, r.1, r.2, r.3))

opener_of : (r : Role) → 0 < opens r → r ≡ Opener
opener_of Opener h = refl
opener_of Worker h = absurd (omega arith)
opener_of Spent h = absurd (omega arith)

module _ (k : Shape) (s : Shared) (kept : IsKept k s) where
  hit_of : (b t : ℕ) → 0 < sum_by (λ (v : View). marks b t v.hits) s.views → OfSome s (λ v. Contains v.hits (b, t))
  hit_of b t h = let r = sum_pos (λ (v : View). marks b t v.hits) s.views h in (r.0, r.1, r.2, contains_of_marks b t r.1.hits r.3)

  some_hit : (b t : ℕ) → OfSome s (λ v. Contains v.hits (b, t)) → 0 < sum_by (λ (v : View). marks b t v.hits) s.views
  some_hit b t h = let p = part_le (λ (v : View). marks b t v.hits) s.views h.0 h.1 h.2 in let m = marks_of_contains b t h.1.hits h.3 in omega arith

  claim_of : (n : ℕ) → IsDrawnTest k s n → OfSome s (λ v. Contains v.claims n)
  claim_of n less = let g = kept.claims n in let o = once_in n (min (draws s.words) k.tests) less in
      let r = sum_pos (λ (v : View). times n v.claims) s.views (omega arith) in (r.0, r.1, r.2, contains_of_times n r.1.claims r.3)

  one_claim : (n i j : ℕ) (v w : View) → HasView s i v → HasView s j w → Contains v.claims n → Contains w.claims n → i ≡ j
  one_claim n i j v w at bt hv hw = dite (ℕ_discrete i j) (λ e. e) (λ ne. let g = kept.claims n in let p = parts_le (λ (u : View). times n u.claims) s.views j i w v bt at ne in
      let a = times_of_contains n v.claims hv in let b = times_of_contains n w.claims hw in let o = once_le_one n (min (draws s.words) k.tests) in absurd (omega arith))

  drawn_of : (n : ℕ) → OfSome s (λ v. Contains v.claims n) → IsDrawnTest k s n
  drawn_of n h = let g = kept.claims n in let p = part_le (λ (u : View). times n u.claims) s.views h.0 h.1 h.2 in let a = times_of_contains n h.1.claims h.3 in below_of_once n (min (draws s.words) k.tests) (omega arith)

  orderly : (id : ℕ) (v : View) → HasView s id v → IsOrderly k s.words v
  orderly id v at = let old = kept.each id v at in record {
    hits = old.hits;
    seen = λ j d less i one. let a = old.seen j d less i in let b = bit_at-lt (get_or (coverage s.words) (get_or v.seen j d).0 0) i in omega arith;
    claims = λ n. let p = part_le (λ (u : View). times n u.claims) s.views id v at in let g = kept.claims n in let o = once_le_one n (min (draws s.words) k.tests) in omega arith;
    worker = old.worker;
    shape = old.shape;
    empty = old.empty;
  }

  one_opener : (i j : ℕ) (v w : View) → HasView s i v → HasView s j w → v.role ≡ Opener → w.role ≡ Opener → i ≡ j
  one_opener i j v w at bt hv hw = dite (ℕ_discrete i j) (λ e. e) (λ ne. let p = parts_le (λ (u : View). opens u.role) s.views j i w v bt at ne in let o = kept.opener in
      let a : opens v.role ≡ 1 = ap opens hv in let b : opens w.role ≡ 1 = ap opens hw in absurd (omega arith))

  an_opener : OfSome s (λ v. v.role ≡ Opener)
  an_opener = let o = kept.opener in let r = sum_pos (λ (v : View). opens v.role) s.views (omega arith) in (r.0, r.1, r.2, opener_of r.1.role r.3)

  pub ruled : IsRuled k s
  ruled = record {
    whole = kept.whole;
    over = kept.over;
    claimed = λ n less. (claim_of n less, one_claim n);
    drawn = drawn_of;
    set = λ b t hb ht. let c = kept.bits b t hb ht in ((λ one. hit_of b t (omega arith)), (λ h. let p = some_hit b t h in omega arith));
    clear = λ b t hb ht none. let c = kept.bits b t hb ht in dite (dec_lt 0 (sum_by (λ (v : View). marks b t v.hits) s.views)) (λ some. absurd (none (hit_of b t some))) (λ no. omega arith);
    each = orderly;
    opener = (an_opener, one_opener);
    counts = λ id v at is. let f = forks_is k s kept id v at is in let g = joined_is k s kept id v at is in record {
      workers = let w = kept.workers in omega arith;
      running = let w = kept.running in omega arith;
      forks = let w = kept.forks in omega arith;
    };
    small = draws_small k s kept;
  }
