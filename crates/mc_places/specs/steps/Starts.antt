-- The starts of lines, by which a place is found.
use Rattle.std.specs.Prelude.{◌≡◌, ℕ, ◌+◌, ◌-◌, ◌<◌, ◌≤◌, if◌then◌else◌, List, [], ◌∷◌, ◌++◌, length, slice_index}
use Rattle.mc_lex.specs.Bytes.{is_line_end}
use Rattle.mc_lex.specs.Lines.{line_of, column_of}

-- line i begins at or before the place, and the next one after it
pub record IsStartOf (starts : List ℕ) (i at : ℕ) : Type 0 where
  pub inside : i < length starts
  pub begun : slice_index starts i ≤ at
  pub next : i + 1 < length starts → at < slice_index starts (i + 1)

-- these are the starts of the lines that begin among the first n bytes or right after them
pub record AreStarts (source : List ℕ) (n : ℕ) (starts : List ℕ) : Type 0 where
  pub some : 1 ≤ length starts
  pub first : slice_index starts 0 ≡ 0
  pub within : (i : ℕ) → i < length starts → slice_index starts i ≤ n
  pub line : (i at : ℕ) → at ≤ n → IsStartOf starts i at → line_of source at ≡ i + 1
  pub column : (i at : ℕ) → at ≤ n → IsStartOf starts i at →
      column_of source at ≡ (at - slice_index starts i) + 1

-- with the start after the byte at n, where a line ends there
abbrev pub with_start : ℕ → ℕ → List ℕ → List ℕ
with_start byte n starts = if is_line_end byte then starts ++ (n + 1) ∷ [] else starts
