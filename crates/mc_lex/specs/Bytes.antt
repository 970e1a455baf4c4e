-- Sets of bytes (C17 5.2.1).
use Rattle.std.specs.Prelude.{ℕ, Bool, not, ◌&&◌, ◌||◌, ◌==◌, nat_le}

abbrev pub is_digit : ℕ → Bool
is_digit b = nat_le 48 b && nat_le b 57

abbrev pub is_octal : ℕ → Bool
is_octal b = nat_le 48 b && nat_le b 55

abbrev pub is_hexadecimal : ℕ → Bool
is_hexadecimal b = is_digit b || (nat_le 97 b && nat_le b 102) || (nat_le 65 b && nat_le b 70)

-- a letter or `_` (C17 6.4.2.1, identifier-nondigit)
abbrev pub is_letter : ℕ → Bool
is_letter b = (nat_le 97 b && nat_le b 122) || (nat_le 65 b && nat_le b 90) || b == 95

-- a letter, `_` or a digit
abbrev pub is_word_byte : ℕ → Bool
is_word_byte b = is_letter b || is_digit b

-- LF
abbrev pub is_line_end : ℕ → Bool
is_line_end b = b == 10

-- space, tab, LF, VT and FF (C17 6.4, white space), and CR
abbrev pub is_white_space : ℕ → Bool
is_white_space b = b == 32 || (nat_le 9 b && nat_le b 13)

-- white space that does not end a line
abbrev pub is_white_space_in_line : ℕ → Bool
is_white_space_in_line b = is_white_space b && not (is_line_end b)

-- a byte that is not a line end
abbrev pub goes_on : ℕ → Bool
goes_on b = not (is_line_end b)
