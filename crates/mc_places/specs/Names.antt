-- The name of a file, by the bytes that a line marker has of it.
use Rattle.std.specs.Prelude.{ℕ, zero, suc, ◌+◌, ◌-◌, ◌*◌, ◌&&◌, ◌==◌, nat_le, if◌then◌else◌, List, [], ◌∷◌, Option, Some, None}
use Rattle.mc_lex.specs.Bytes.{is_octal}
use Rattle.mc_lex.specs.Characters.{simple_escape}

-- a byte of the name, and how many more bytes it takes to write it
pub record Written : Type 0 where
  pub byte : ℕ
  pub more : ℕ

-- the byte that three octal digits write, where they do
abbrev pub octal_value : ℕ → ℕ → ℕ → ℕ
octal_value c d e = (c - 48) * 64 + (d - 48) * 8 + (e - 48)

abbrev pub octal_byte : ℕ → ℕ → ℕ → Option ℕ
octal_byte c d e =
    if is_octal c && is_octal d && is_octal e && nat_le (octal_value c d e) 255
    then Some (octal_value c d e) else None

-- `\` writes itself, where it begins no escape
abbrev pub simple : Option ℕ → Written
simple None = record { byte = 92; more = 0 }
simple (Some byte) = record { byte = byte; more = 1 }

abbrev pub octal_or : Option ℕ → ℕ → Written
octal_or (Some byte) c = record { byte = byte; more = 3 }
octal_or None c = simple (simple_escape c)

-- what `\` writes with the bytes after it: the byte of three octal digits, as `\303`, or of a simple
-- escape (C17 6.4.4.4)
abbrev pub escape_of : List ℕ → Written
escape_of [] = record { byte = 92; more = 0 }
escape_of (c ∷ []) = simple (simple_escape c)
escape_of (c ∷ d ∷ []) = simple (simple_escape c)
escape_of (c ∷ d ∷ e ∷ bs) = octal_or (octal_byte c d e) c

abbrev pub written_at : ℕ → List ℕ → Written
written_at b bs = if b == 92 then escape_of bs else record { byte = b; more = 0 }

-- the name, after so many bytes that were read already
abbrev pub decoded_past : ℕ → List ℕ → List ℕ
decoded_past n [] = []
decoded_past (suc n) (b ∷ bs) = decoded_past n bs
decoded_past zero (b ∷ bs) = (written_at b bs).byte ∷ decoded_past (written_at b bs).more bs

abbrev pub decoded : List ℕ → List ℕ
decoded bs = decoded_past 0 bs
