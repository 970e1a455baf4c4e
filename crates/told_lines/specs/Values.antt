-- How numbers and values are written on the lines of tests.
use Rattle.std.specs.Prelude.{ℕ, ℤ, List, [], ◌∷◌, ◌++◌, codes, Option, Some, None}
use Rattle.std.specs.Fmt.{signed_decimal}

-- each line ends with LF
abbrev pub newline : List ℕ
newline = 10 ∷ []

abbrev pub number_text : ℤ → List ℕ
number_text number = codes " " ++ signed_decimal number

-- what a call returned
abbrev pub value_text : Option ℤ → List ℕ
value_text None = codes " void"
value_text (Some number) = number_text number
