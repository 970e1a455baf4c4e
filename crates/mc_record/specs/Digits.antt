-- Bytes and words that lower-case hexadecimal digits write.
use Rattle.std.specs.Prelude.{ℕ, ◌+◌, ◌-◌, ◌*◌, ◌&&◌, List, ◌∷◌, codes, Option, Some, None, if◌then◌else◌, nat_le}
use Rattle.std.specs.Int.{from_be_bytes}
use mir.Syntax.{w64}
use Rattle.mc_record.specs.Parts.{many_in, strip, with_part}

-- 48 to 57 are `0` to `9`, and 97 to 102 are `a` to `f`
abbrev pub digit_of : ℕ → Option ℕ
digit_of b =
    if nat_le 48 b && nat_le b 57 then Some (b - 48)
    else if nat_le 97 b && nat_le b 102 then Some (b - 87) else None

abbrev pub byte_of : ℕ → ℕ → Option ℕ
byte_of high low =
    with_part (digit_of high) (λ h. with_part (digit_of low) (λ l. Some (16 * h + l)))

-- the byte that two digits write, and what follows them
abbrev pub byte_in : List ℕ → Option (ℕ × List ℕ)
byte_in (high ∷ low ∷ rest) = with_part (byte_of high low) (λ byte. Some (byte, rest))
byte_in _ = None

abbrev pub bytes_in : ℕ → List ℕ → Option (List ℕ × List ℕ)
bytes_in count text = many_in byte_in count text

-- a word after a space
abbrev pub word_in : List ℕ → Option (ℕ × List ℕ)
word_in text =
    with_part (strip (codes " ") text) (λ digits.
    with_part (bytes_in 8 digits) (λ found. Some (from_be_bytes w64 found.0, found.1)))

abbrev pub words_in : ℕ → List ℕ → Option (List ℕ × List ℕ)
words_in count text = many_in word_in count text
