-- The number that a field holds.
use Rattle.std.specs.Prelude.{ℕ, ◌+◌, ◌-◌, ◌*◌, ◌^◌, Bool, false, not, ◌&&◌, ◌||◌, List, [], ◌∷◌, length, Option, Some, None, if◌then◌else◌, ◌==◌, nat_le, nat_lt, ℤ, pos, neg_ℤ}
use Rattle.std.specs.List.{list_all}

abbrev pub is_digit : ℕ → Bool
is_digit b = nat_le 48 b && nat_le b 57

-- decimal digits that write a number in its one way: a lone `0`, or digits that do not start with
-- `0`
abbrev pub is_magnitude : List ℕ → Bool
is_magnitude [] = false
is_magnitude (d ∷ ds) = list_all is_digit (d ∷ ds) && (not (d == 48) || (length ds == 0))

-- the number that digits write after those of n
abbrev pub number_after : ℕ → List ℕ → ℕ
number_after n [] = n
number_after n (d ∷ ds) = number_after (10 * n + (d - 48)) ds

abbrev pub magnitude_of : List ℕ → ℕ
magnitude_of ds = number_after 0 ds

-- the number below 2^64 that digits write
abbrev pub plain_number : List ℕ → Option ℤ
plain_number ds =
    if is_magnitude ds && nat_lt (magnitude_of ds) (2 ^ 64) then Some (pos (magnitude_of ds))
    else None

-- the number from -2^63 on that they write after a `-`, where no `-0` stands
abbrev pub minus_number : List ℕ → Option ℤ
minus_number ds =
    if is_magnitude ds && nat_lt 0 (magnitude_of ds) && nat_le (magnitude_of ds) (2 ^ 63)
    then Some (neg_ℤ (pos (magnitude_of ds))) else None

-- the number that a text writes, from -2^63 to 2^64 - 1; 45 is `-`
abbrev pub number_of : List ℕ → Option ℤ
number_of [] = None
number_of (b ∷ bs) = if b == 45 then minus_number bs else plain_number (b ∷ bs)
