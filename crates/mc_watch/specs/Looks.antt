-- Looks at the shared words: what they load, and what they count.
use Rattle.std.specs.Prelude.{◌≡◌, ◌≤◌, ℕ, ◌^◌, ◌<◌, List, ◌++◌, length, map, flat_map, sum_by, count_ones, slice_index_or, All}
use Rattle.std.specs.Int.{bit_at}
use Rattle.mc_cover.specs.declared.view.View.{View}

-- A look loads each of so many words once, in order of index: of each load the index of the word
-- and the value found there, of 64 bits.
pub record IsLook (words : ℕ) (loads : List (ℕ × ℕ)) : Type 0 where
  pub whole : length loads ≡ words
  pub in_order : (i : ℕ) (d : ℕ × ℕ) → i < words → (slice_index_or loads i d).0 ≡ i
  pub values : All (λ x. x.1 < 2 ^ 64) loads

-- how many bits are set in the values that were loaded
abbrev pub recorded : List (ℕ × ℕ) → ℕ
recorded loads = sum_by (λ x. count_ones x.1) loads

-- what was seen are looks, one after the other, and these are their counts
pub record AreLooks (words : ℕ) (seen : List (ℕ × ℕ)) (counts : List ℕ) : Type 0 where
  pub looks : List (List (ℕ × ℕ))
  pub each : All (IsLook words) looks
  pub seen_is : seen ≡ flat_map (λ loads. loads) looks
  pub counts_are : counts ≡ map recorded looks

-- ---- for the code

-- a later load of a word has each bit that an earlier one has
abbrev pub AreGrowing : List (ℕ × ℕ) → Type 0
AreGrowing seen =
    (i j : ℕ) (d : ℕ × ℕ) → i ≤ j → j < length seen →
    (slice_index_or seen i d).0 ≡ (slice_index_or seen j d).0 →
    (n : ℕ) → bit_at (slice_index_or seen i d).1 n ≤ bit_at (slice_index_or seen j d).1 n

-- one look more at so many words, and its count
pub record LooksOnce (words : ℕ) (old new : View) (count : ℕ) : Type 0 where
  pub loads : List (ℕ × ℕ)
  pub look : IsLook words loads
  pub view : new ≡ record old { seen = old.seen ++ loads }
  pub counted : count ≡ recorded loads
  pub growing : AreGrowing old.seen → AreGrowing new.seen
