-- Character constants and strings, from the byte after their opening quote to the closing one, or
-- to the end of the line where there is none (C17 6.4.4.4, 6.4.5).
use Rattle.std.specs.Prelude.{ℕ, ◌+◌, Bool, true, false, not, ◌&&◌, ◌||◌, ◌==◌, if◌then◌else◌, List, [], ◌∷◌}
use Rattle.mc_lex.specs.Bytes.{is_line_end}

-- `'` or `"`
abbrev pub is_quote : ℕ → Bool
is_quote b = b == 39 || b == 34

-- how many bytes it has; `escaped` says that a `\` stands before, so that a quote does not close it
abbrev pub literal_len : (quote : ℕ) (escaped : Bool) → List ℕ → ℕ
literal_len quote escaped [] = 0
literal_len quote escaped (b ∷ bs) =
    if is_line_end b then 0
    else (if not escaped && b == quote then 1
    else 1 + literal_len quote (not escaped && b == 92) bs)

-- whether a quote closes it
abbrev pub literal_closes : (quote : ℕ) (escaped : Bool) → List ℕ → Bool
literal_closes quote escaped [] = false
literal_closes quote escaped (b ∷ bs) =
    if is_line_end b then false
    else (if not escaped && b == quote then true
    else literal_closes quote (not escaped && b == 92) bs)
