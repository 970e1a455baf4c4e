-- Numbers and escapes, byte after byte.
use Rattle.std.proofs.Common.{◌≡◌, ◌+◌, ◌*◌, ◌≤◌, ℕ, zero, suc, Bool, true, false, List, [], ◌∷◌, drop, refl, arith}
use Rattle.std.specs.Prelude.{Some, None, nat_le, if◌then◌else◌}
use Rattle.std.proofs.lemmas.Bool.Decides.{nat_tests}
use Rattle.std.specs.Char.{digit_value}
use Rattle.std.specs.Str.Parse.{digits_value_after}
use Rattle.mc_places.specs.Markers.{greatest_line, line_number}
use Rattle.mc_places.specs.Names.{decoded, decoded_past}

-- more digits do not make the number less
pub grows : (n : ℕ) (ds : List ℕ) → n ≤ digits_value_after 10 n ds
grows n [] = omega arith
grows n (d ∷ ds) = let more = grows (n * 10 + digit_value d) ds in omega (arith, more)

pub number_at_end : (n : ℕ) → n ≤ greatest_line → line_number n ≡ Some n
number_at_end n le = grind (arith, nat_tests)

pub too_great : (n m : ℕ) → n ≤ m → line_number n ≡ None → line_number m ≡ None
too_great n m le none = by_test (nat_le n greatest_line) refl none
  where
    by_test : (t : Bool) → nat_le n greatest_line ≡ t → (if t then Some n else None) ≡ None → line_number m ≡ None
    by_test true is e = absurd (cc)
    by_test false is e =
        let above : nat_le m greatest_line ≡ false = grind (arith, nat_tests) in
        rw above refl

pub none_after : (n d : ℕ) (ds : List ℕ) → line_number (n * 10 + digit_value d) ≡ None → line_number (digits_value_after 10 n (d ∷ ds)) ≡ None
none_after n d ds none = too_great (n * 10 + digit_value d) (digits_value_after 10 (n * 10 + digit_value d) ds) (grows (n * 10 + digit_value d) ds) none

-- what is left of a name after some bytes of it
pub decoded_drop : (n : ℕ) (bs : List ℕ) → decoded_past n bs ≡ decoded (drop n bs)
decoded_drop zero bs = refl
decoded_drop (suc n) [] = refl
decoded_drop (suc n) (b ∷ bs) = decoded_drop n bs
