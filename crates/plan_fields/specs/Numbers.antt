-- Numbers in the fields of a tests file.
use Rattle.std.specs.Prelude.{ℕ, List, [], ◌∷◌, Option, Some, None, if◌then◌else◌, ◌==◌, ℤ}
use Rattle.csv_records.specs.Numbers.{number_of}
use Rattle.mc_value.specs.declared.int_type.IntType.TheVariants.{Int}
use Rattle.mc_value.specs.IntTypes.{in_range}

abbrev pub if_int : Option ℤ → Option ℤ
if_int None = None
if_int (Some z) = if in_range Int z then Some z else None

-- the number in the range of `int` that a text writes
abbrev pub int_of : List ℕ → Option ℤ
int_of text = if_int (number_of text)

-- a byte put to the front of the first of some pieces
abbrev pub onto_first : ℕ → List (List ℕ) → List (List ℕ)
onto_first b [] = (b ∷ []) ∷ []
onto_first b (piece ∷ pieces) = (b ∷ piece) ∷ pieces

-- what stands before, between and after the spaces of a text; 32 is the space
abbrev pub pieces_of : List ℕ → List (List ℕ)
pieces_of [] = [] ∷ []
pieces_of (b ∷ bs) = if b == 32 then [] ∷ pieces_of bs else onto_first b (pieces_of bs)

abbrev pub and_number : Option ℤ → Option (List ℤ) → Option (List ℤ)
and_number None later = None
and_number (Some z) None = None
and_number (Some z) (Some zs) = Some (z ∷ zs)

-- the number of each piece, or none where some piece is no number
abbrev pub all_numbers : (List ℕ → Option ℤ) → List (List ℕ) → Option (List ℤ)
all_numbers read [] = Some []
all_numbers read (piece ∷ pieces) = and_number (read piece) (all_numbers read pieces)

-- the numbers of a text, one space between each two; an empty text has no number in it
abbrev pub numbers_of : (List ℕ → Option ℤ) → List ℕ → Option (List ℤ)
numbers_of read [] = Some []
numbers_of read (b ∷ bs) = all_numbers read (pieces_of (b ∷ bs))
