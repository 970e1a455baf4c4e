-- A text on one line: white space between two words is one blank, and there is none before the
-- first word and after the last one.
use Rattle.std.specs.Prelude.{ℕ, if◌then◌else◌, List, [], ◌∷◌}
use Rattle.mc_lex.specs.Bytes.{is_white_space}

-- by what stands before the bytes: nothing, a byte of a word, or white space after a word
abbrev mutual
  pub at_front : List ℕ → List ℕ
  at_front [] = []
  at_front (b ∷ bytes) = if is_white_space b then at_front bytes else b ∷ in_word bytes

  pub in_word : List ℕ → List ℕ
  in_word [] = []
  in_word (b ∷ bytes) = if is_white_space b then after_word bytes else b ∷ in_word bytes

  pub after_word : List ℕ → List ℕ
  after_word [] = []
  after_word (b ∷ bytes) =
      if is_white_space b then after_word bytes else 32 ∷ b ∷ in_word bytes

abbrev pub on_one_line : List ℕ → List ℕ
on_one_line bytes = at_front bytes
