-- What stands between tokens: white space (C17 6.4), comments (C17 6.4.9) and line markers.
use Rattle.std.specs.Prelude.{◌≡◌, ◌≤◌, ℕ, Bool, true, false, not, ◌&&◌, ◌||◌, ◌==◌, List, [], ◌∷◌, ◌++◌, length}
use Rattle.std.specs.List.{list_all}
use Rattle.mc_lex.specs.Bytes.{is_digit, is_white_space, is_white_space_in_line, goes_on}
use Rattle.mc_lex.specs.Lines.{is_first_on_line}

-- the line ends here: with a line end, or with the source
abbrev pub ends_line : List ℕ → Bool
ends_line [] = true
ends_line (b ∷ bs) = not (goes_on b)

-- what stands after `/*` is this text, the next `*/`, and the others
pub record ClosesComment (inside after bs : List ℕ) : Type 0 where
  pub whole : bs ≡ inside ++ (42 ∷ 47 ∷ after)
  pub next : (other rest : List ℕ) → bs ≡ other ++ (42 ∷ 47 ∷ rest) → length inside ≤ length other

-- `/*` or `//`
abbrev pub begins_comment : List ℕ → Bool
begins_comment (a ∷ b ∷ bs) = a == 47 && (b == 42 || b == 47)
begins_comment _ = false

abbrev pub is_digit_or_white_space : ℕ → Bool
is_digit_or_white_space b = is_digit b || is_white_space_in_line b

-- a byte of a name in double quotes on one line
abbrev pub is_quoted : ℕ → Bool
is_quoted b = goes_on b && not (b == 34)

-- white space and a name in double quotes, or nothing
pub data QuotedName : List ℕ → Type 0 where
  absent : QuotedName []
  quoted : (space name : List ℕ) → list_all is_white_space_in_line space ≡ true
      → list_all is_quoted name ≡ true → QuotedName (space ++ (34 ∷ name ++ (34 ∷ [])))

-- a line marker: `#`, white space, digits, perhaps a name in quotes, then digits and white space
pub record IsMarker (text : List ℕ) : Type 0 where
  pub white_space : List ℕ
  pub digit : ℕ
  pub digits : List ℕ
  pub name : List ℕ
  pub rest : List ℕ
  pub whole : text ≡ (35 ∷ white_space) ++ ((digit ∷ digits) ++ (name ++ rest))
  pub of_white_space : list_all is_white_space_in_line white_space ≡ true
  pub of_digits : list_all is_digit (digit ∷ digits) ≡ true
  pub of_name : QuotedName name
  pub of_rest : list_all is_digit_or_white_space rest ≡ true

-- the text stands between tokens, after the bytes before it and before those after it
pub data IsGap (before : List ℕ) : (text after : List ℕ) → Type 0 where
  white_space : (b : ℕ) (after : List ℕ) → is_white_space b ≡ true → IsGap before (b ∷ []) after
  block_comment : (inside after bs : List ℕ) → ClosesComment inside after bs
      → IsGap before ((47 ∷ 42 ∷ inside) ++ (42 ∷ 47 ∷ [])) after
  line_comment : (line after : List ℕ) → list_all goes_on line ≡ true → ends_line after ≡ true
      → IsGap before (47 ∷ 47 ∷ line) after
  marker : (text after : List ℕ) → is_first_on_line before ≡ true → IsMarker text
      → ends_line after ≡ true → IsGap before text after
