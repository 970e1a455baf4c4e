-- A text without its comments: each is one blank (C17 5.1.1.2p1, phase 3). No character constant of
-- an accepted source has two bytes that begin a comment (C17 6.4.9p1).
use Rattle.std.specs.Prelude.{ℕ, ◌==◌, if◌then◌else◌, List, [], ◌∷◌}

-- by what stands before the bytes: code, a `/` of code, `/*`, a `*` in such a comment, or `//`
abbrev mutual
  pub in_code : List ℕ → List ℕ
  in_code [] = []
  in_code (b ∷ bytes) = if b == 47 then after_slash bytes else b ∷ in_code bytes

  pub after_slash : List ℕ → List ℕ
  after_slash [] = 47 ∷ []
  after_slash (b ∷ bytes) =
      if b == 42 then 32 ∷ in_comment bytes else
      if b == 47 then 32 ∷ in_line bytes else 47 ∷ b ∷ in_code bytes

  pub in_comment : List ℕ → List ℕ
  in_comment [] = []
  in_comment (b ∷ bytes) = if b == 42 then after_star bytes else in_comment bytes

  pub after_star : List ℕ → List ℕ
  after_star [] = []
  after_star (b ∷ bytes) =
      if b == 47 then in_code bytes else
      if b == 42 then after_star bytes else in_comment bytes

  -- the end of the line is no part of the comment
  pub in_line : List ℕ → List ℕ
  in_line [] = []
  in_line (b ∷ bytes) = if b == 10 then b ∷ in_code bytes else in_line bytes

abbrev pub without_comments : List ℕ → List ℕ
without_comments bytes = in_code bytes
