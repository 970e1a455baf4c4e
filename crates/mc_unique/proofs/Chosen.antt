-- The chosen pair, by what is kept along the seen paths.
use Rattle.std.proofs.Common.{◌≡◌, ℕ, ◌+◌, ◌<◌, ◌≤◌, true, false, Option, Some, List, length, get_or, subst, arith}
use Rattle.std.specs.Prelude.{Contains}
use Rattle.std.specs.List.Sorted.{IsStrictlyIncreasing}
use Rattle.std.proofs.lemmas.List.Elements.{Contains-get_or}
use Rattle.mc_cond.specs.Tree.{Tree, IsNumbered}
use Rattle.mc_pairs.specs.Pairs.{ArePaired, NonePaired, IsChosen, HasInfluenceAs, turned}
use Rattle.mc_pairs.proofs.Turned.{none_either}
use Rattle.mc_unique.specs.Unique.{IsUniquePair}
use Rattle.mc_unique.specs.steps.Prefixes.{AreAlike, AreCandidates, IsNext, IsKept}
use Rattle.mc_unique.proofs.Pairs.{turns, opposed}
use Rattle.mc_unique.proofs.Ordering.{alike_between, alike_follow, alike_ahead, first_of, second_of, alike_of}
use Rattle.mc_unique.proofs.Searching.{step, found, all_passed}

module _ (t : Tree) (k : ℕ) (seen : List ℕ) (up : IsStrictlyIncreasing seen) where
  abbrev KeptAt : ℕ → Option ℕ → Type 0
  KeptAt i first = IsKept (HasInfluenceAs t k true) (HasInfluenceAs t k false) (AreAlike t k) seen i first

  pub found_two : (i : ℕ) → i < length seen → (first : Option ℕ) → KeptAt i first → (least : ℕ) → first ≡ Some least
      → HasInfluenceAs t k false (get_or seen i 0) → AreAlike t k least (get_or seen i 0) → AreCandidates t k seen least (get_or seen i 0)
  found_two i within first kept least is off alike =
      let inside = kept.inside least is in
      let P : ℕ → Type 0 = λ p. Contains seen p in
      record {
        first_seen = subst P inside.2 (Contains-get_or seen inside.0 0 (let l = inside.1 in omega arith));
        second_seen = Contains-get_or seen i 0 within;
        on = kept.is_on least is;
        off = off;
        alike = alike;
        least = found (HasInfluenceAs t k true) (HasInfluenceAs t k false) (AreAlike t k) (alike_between t k) (alike_follow t k) (alike_ahead t k) seen up i within first kept least is;
      }

  pub next : (i : ℕ) → i < length seen → (first later : Option ℕ) → KeptAt i first
      → ((p : ℕ) → first ≡ Some p → HasInfluenceAs t k false (get_or seen i 0) → ¬ AreAlike t k p (get_or seen i 0))
      → IsNext (HasInfluenceAs t k true (get_or seen i 0)) (λ p. AreAlike t k p (get_or seen i 0)) (get_or seen i 0) first later → KeptAt (i + 1) later
  next i within = step (HasInfluenceAs t k true) (HasInfluenceAs t k false) (AreAlike t k) (alike_between t k) (alike_follow t k) (alike_ahead t k) seen up i within

  pub none_two : (i : ℕ) → length seen ≤ i → (first : Option ℕ) → KeptAt i first
      → (p q : ℕ) → Contains seen p → Contains seen q → HasInfluenceAs t k true p → HasInfluenceAs t k false q → ¬ AreAlike t k p q
  none_two i all first kept =
      all_passed (HasInfluenceAs t k true) (HasInfluenceAs t k false) (AreAlike t k) (alike_between t k) (alike_follow t k) (alike_ahead t k) seen up first i kept all

-- the first candidates, where they are a pair
module _ (t : Tree) (k : ℕ) (n : IsNumbered t) (seen : List ℕ) where
  pub chosen_two : (first second : ℕ) → AreCandidates t k seen first second → ArePaired (turned k (IsUniquePair t k)) t first second → IsChosen (IsUniquePair t k) t seen k first second
  chosen_two first second c pair =
      record {
        first_seen = c.first_seen;
        second_seen = c.second_seen;
        paired = pair;
        least = λ p q p_seen q_seen x. c.least p q p_seen q_seen (first_of t k n p q x) (second_of t k n p q x) (alike_of t k n p q x);
      }

  pub none_alike : ((p q : ℕ) → Contains seen p → Contains seen q → HasInfluenceAs t k true p → HasInfluenceAs t k false q → ¬ AreAlike t k p q) → NonePaired (IsUniquePair t k) t seen
  none_alike none =
      none_either (IsUniquePair t k) t k seen (opposed t k n) (turns t k)
      (λ p q p_seen q_seen x. none p q p_seen q_seen (first_of t k n p q x) (second_of t k n p q x) (alike_of t k n p q x))
