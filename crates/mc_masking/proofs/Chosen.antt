-- Chosen pairs by least paths.
use Rattle.std.proofs.Common.{◌≡◌, ℕ, ◌<◌, ◌≤◌, Bool, true, false, not, List, arith, refl, subst, inl, inr, ◌⊎◌}
use Rattle.std.specs.Prelude.{Contains}
use Rattle.std.proofs.lemmas.Bool.{cases_lt}
use Rattle.mc_cond.specs.Tree.{Tree, IsNumbered, IsShort}
use Rattle.mc_cond.proofs.Reaching.{never_own}
use Rattle.mc_pairs.specs.Pairs.{ArePaired, IsChosen, HasInfluenceAs, turned}
use Rattle.mc_masking.specs.Masking.{IsMaskingPair}
use Rattle.mc_masking.specs.Laws.{HasInfluenceTo, IsLeastSeen, IsLeastSeenTo}
use Rattle.mc_masking.proofs.Pairs.{pair_of, first_influence, second_influence, first_of, second_of, other_of, one_outcome, paired_to, paired_back, kinds, before_or}

first_least : (first second p q : ℕ) → (first < p) ⊎ ((first ≡ p) × (second ≤ q)) → first ≤ p
first_least first second p q (inl h) = omega (arith, h)
first_least first second p q (inr h) = omega (arith, h.0)

second_least : (first second q : ℕ) → (first < first) ⊎ ((first ≡ first) × (second ≤ q)) → second ≤ q
second_least first second q (inl h) = absurd (omega (arith, h))
second_least first second q (inr h) = h.1

module _ (t : Tree) (k : ℕ) (n : IsNumbered t) (seen : List ℕ) (first second : ℕ) where
  -- in any decision
  pub chosen_by : (o : Bool) → IsLeastSeenTo t seen k true o first → IsLeastSeenTo t seen k false (not o) second
      → ((p q : ℕ) → Contains seen p → Contains seen q → HasInfluenceTo t k true (not o) p → HasInfluenceTo t k false o q → first < p)
      → IsChosen (IsMaskingPair t k) t seen k first second
  chosen_by o x y none =
      record {
        first_seen = x.among;
        second_seen = y.among;
        paired = paired_to t k n o first second x.fits y.fits;
        least = λ p q p_seen q_seen pair.
            elim (kinds t k n o p q pair) [
              | inl two ↦ before_or t k n first second p q (x.least p p_seen two.0) (y.least q q_seen two.1)
              | inr two ↦ inl (none p q p_seen q_seen two.0 two.1)
            ];
      }

  module _ (c : IsChosen (IsMaskingPair t k) t seen k first second) where
    pub first_to : HasInfluenceTo t k true c.paired.v.outcome first
    first_to = record { v = c.paired.v; is_path = c.paired.first_path; answer = c.paired.shown.0; influence = first_influence t k c.paired.v c.paired.w c.paired.shown.2; result = refl }

    pub second_to : HasInfluenceTo t k false (not c.paired.v.outcome) second
    second_to =
        record {
          v = c.paired.w;
          is_path = c.paired.second_path;
          answer = c.paired.shown.1;
          influence = second_influence t k c.paired.v c.paired.w c.paired.shown.2;
          result = other_of c.paired.v.outcome c.paired.w.outcome c.paired.v.outcome c.paired.shown.2.outcomes refl;
        }

    pub least_first : IsLeastSeenTo t seen k true c.paired.v.outcome first
    least_first =
        record {
          among = c.first_seen;
          fits = first_to;
          least = λ p p_seen x. first_least first second p second (c.least p second p_seen c.second_seen (paired_to t k n c.paired.v.outcome p second x second_to));
        }

    pub least_second : IsLeastSeenTo t seen k false (not c.paired.v.outcome) second
    least_second =
        record {
          among = c.second_seen;
          fits = second_to;
          least = λ q q_seen y. second_least first second q (c.least first q c.first_seen q_seen (paired_to t k n c.paired.v.outcome first q first_to y));
        }

    pub none_before : (p q : ℕ) → Contains seen p → Contains seen q → HasInfluenceTo t k true (not c.paired.v.outcome) p → HasInfluenceTo t k false c.paired.v.outcome q → first < p
    none_before p q p_seen q_seen x y =
        let low : first ≤ p = first_least first second p q (c.least p q p_seen q_seen (paired_back t k n c.paired.v.outcome p q x y)) in
        elim (cases_lt first p) [
          | inl less ↦ less
          | inr more ↦
              (let same : first ≡ p = omega (arith, low, more) in
              let P : ℕ → Type 0 = λ m. HasInfluenceTo t k true c.paired.v.outcome m in
              absurd (never_own c.paired.v.outcome (one_outcome t k n true c.paired.v.outcome (not c.paired.v.outcome) p (subst P same first_to) x)))
        ]

  -- in a decision without operators that are evaluated in full
  module _ (short : IsShort t) where
    paired : (p q : ℕ) → HasInfluenceAs t k true p → HasInfluenceAs t k false q → ArePaired (turned k (IsMaskingPair t k)) t p q
    paired p q x y =
        record {
          v = x.v;
          w = y.v;
          first_path = x.is_path;
          second_path = y.is_path;
          shown = (x.answer, y.answer, pair_of t k x.v y.v short n x.is_path.vector y.is_path.vector x.answer y.answer x.influence y.influence);
        }

    pub chosen_alone : IsLeastSeen t seen k true first → IsLeastSeen t seen k false second → IsChosen (IsMaskingPair t k) t seen k first second
    chosen_alone x y =
        record {
          first_seen = x.among;
          second_seen = y.among;
          paired = paired first second x.fits y.fits;
          least = λ p q p_seen q_seen pair. before_or t k n first second p q (x.least p p_seen (first_of t k n p q pair)) (y.least q q_seen (second_of t k n p q pair));
        }

    pub first_alone : IsChosen (IsMaskingPair t k) t seen k first second → IsLeastSeen t seen k true first
    first_alone c =
        record {
          among = c.first_seen;
          fits = first_of t k n first second c.paired;
          least = λ p p_seen x. first_least first second p second (c.least p second p_seen c.second_seen (paired p second x (second_of t k n first second c.paired)));
        }

    pub second_alone : IsChosen (IsMaskingPair t k) t seen k first second → IsLeastSeen t seen k false second
    second_alone c =
        record {
          among = c.second_seen;
          fits = second_of t k n first second c.paired;
          least = λ q q_seen y. second_least first second q (c.least first q c.first_seen q_seen (paired first q (first_of t k n first second c.paired) y));
        }
