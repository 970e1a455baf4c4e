-- Bytes as hexadecimal digits.
use Rattle.std.specs.Prelude.{ℕ, ◌+◌, ◌/◌, ◌%◌, nat_lt, if◌then◌else◌, List, [], ◌∷◌, flat_map}

-- 48 is `0`, and 97 is `a`
abbrev pub hexadecimal_digit : ℕ → ℕ
hexadecimal_digit n = if nat_lt n 10 then 48 + n else 87 + n

-- two lower-case digits for each byte
abbrev pub byte_text : ℕ → List ℕ
byte_text byte = hexadecimal_digit (byte / 16) ∷ hexadecimal_digit (byte % 16) ∷ []

abbrev pub hexadecimal : List ℕ → List ℕ
hexadecimal bytes = flat_map byte_text bytes
