-- A step of the proofs: it follows the code, and no public clause rests on it.
-- Paths with equal answers before a condition, and the first of them.
use Rattle.std.specs.Prelude.{◌≡◌, ℕ, ◌<◌, ◌≤◌, ◌⊎◌, true, false, Option, Some, None, List, Contains, get_or}
use Rattle.mc_cond.specs.Tree.{Tree}
use Rattle.mc_cond.specs.Vectors.{Evaluation}
use Rattle.mc_paths.specs.Paths.{IsPath}
use Rattle.mc_pairs.specs.Pairs.{HasInfluenceAs}
use Rattle.mc_unique.specs.Laws.{AlikeBefore}

-- the answers before condition k are equal in the vectors of the two paths
pub record AreAlike (t : Tree) (k one other : ℕ) : Type 0 where
  pub v : Evaluation
  pub w : Evaluation
  pub first_path : IsPath t one v
  pub second_path : IsPath t other w
  pub alike : AlikeBefore k v w

-- The first two seen paths with equal answers before condition k, and with influence of k, which is
-- true in the one and false in the other: the least first path, and then the least second.
pub record AreCandidates (t : Tree) (k : ℕ) (seen : List ℕ) (first second : ℕ) : Type 0 where
  pub first_seen : Contains seen first
  pub second_seen : Contains seen second
  pub on : HasInfluenceAs t k true first
  pub off : HasInfluenceAs t k false second
  pub alike : AreAlike t k first second
  pub least : (p q : ℕ) → Contains seen p → Contains seen q → HasInfluenceAs t k true p →
      HasInfluenceAs t k false q → AreAlike t k p q → (first < p) ⊎ ((first ≡ p) × (second ≤ q))

-- What is kept after a path, of what was kept before it: the first path of the present prefix, of
-- those that are on.
pub data IsNext (on : Type 0) (alike : ℕ → Type 0) (path : ℕ) : Option ℕ → Option ℕ → Type 0 where
  passed : {first : Option ℕ} → ¬ on → IsNext on alike path first first
  same : {p : ℕ} → on → alike p → IsNext on alike path (Some p) (Some p)
  new : {first : Option ℕ} → on → ((p : ℕ) → first ≡ Some p → ¬ alike p) →
      IsNext on alike path first (Some path)

-- the path stands among the first n of the list
abbrev pub Passed : List ℕ → ℕ → ℕ → Type 0
Passed seen n p = (j : ℕ) × (j < n) × (get_or seen j 0 ≡ p)

-- Of the first n of the list no two, one on and one off, are alike. The kept path is the first of
-- those that are on and alike, and the later ones that are on are alike too.
pub record IsKept (on off : ℕ → Type 0) (alike : ℕ → ℕ → Type 0) (seen : List ℕ) (n : ℕ)
    (first : Option ℕ) : Type 0 where
  pub alone : (p q : ℕ) → Passed seen n p → Passed seen n q → on p → off q → ¬ alike p q
  pub none : first ≡ None → (p : ℕ) → Passed seen n p → ¬ on p
  pub inside : (f : ℕ) → first ≡ Some f → Passed seen n f
  pub is_on : (f : ℕ) → first ≡ Some f → on f
  pub earlier : (f p : ℕ) → first ≡ Some f → Passed seen n p → on p → p < f → ¬ alike p f
  pub later : (f p : ℕ) → first ≡ Some f → Passed seen n p → on p → f < p → alike f p
