-- Character constants of one byte (C17 6.4.4.4).
use Rattle.std.specs.Prelude.{◌≡◌, ◌≤◌, ℕ, Bool, true, not, ◌&&◌, ◌==◌, nat_le, List, [], ◌∷◌, ◌++◌, length, Option, Some, None, if◌then◌else◌, ℤ, pos, ◌-ℤ◌}
use Rattle.std.specs.List.{list_all}
use Rattle.std.specs.Str.Parse.{digits_value}
use Rattle.mc_lex.specs.Bytes.{is_octal, is_hexadecimal}

-- a printable byte other than `'` and `\`
abbrev pub is_plain : ℕ → Bool
is_plain b = nat_le 32 b && nat_le b 126 && not (b == 39) && not (b == 92)

-- the byte of a simple escape, by what stands after its `\`: ' " ? \ a b f n r t v
abbrev pub simple_escape : ℕ → Option ℕ
simple_escape c =
    if c == 39 then Some 39 else (if c == 34 then Some 34 else (if c == 63 then Some 63
    else (if c == 92 then Some 92 else (if c == 97 then Some 7 else (if c == 98 then Some 8
    else (if c == 102 then Some 12 else (if c == 110 then Some 10 else (if c == 114 then Some 13
    else (if c == 116 then Some 9 else (if c == 118 then Some 11 else None))))))))))

-- what stands between the quotes, and the byte that it means
pub data Inside : List ℕ → ℕ → Type 0 where
  plain : (b : ℕ) → is_plain b ≡ true → Inside (b ∷ []) b
  simple : (c b : ℕ) → simple_escape c ≡ Some b → Inside (92 ∷ c ∷ []) b
  octal : (ds : List ℕ) → list_all is_octal ds ≡ true → 1 ≤ length ds → length ds ≤ 3
      → digits_value 8 ds ≤ 255 → Inside (92 ∷ ds) (digits_value 8 ds)
  hexadecimal : (ds : List ℕ) → list_all is_hexadecimal ds ≡ true → 1 ≤ length ds
      → digits_value 16 ds ≤ 255 → Inside (92 ∷ 120 ∷ ds) (digits_value 16 ds)

-- the text is a character constant of this byte
pub record IsCharacter (text : List ℕ) (byte : ℕ) : Type 0 where
  pub inside : List ℕ
  pub whole : text ≡ (39 ∷ inside) ++ (39 ∷ [])
  pub stands : Inside inside byte

-- the value of a byte as a signed `char` of 8 bits
abbrev pub signed_char : ℕ → ℤ
signed_char b = if nat_le b 127 then pos b else (pos b -ℤ pos 256)
