-- The fields of a record of a tests file.
use Rattle.std.specs.Prelude.{ℕ, Bool, ◌&&◌, List, [], ◌∷◌, length, Option, Some, None, option_map, if◌then◌else◌, codes, ◌==◌, nat_le, ℤ}
use Rattle.std.specs.List.{list_all}
use Rattle.std.specs.Str.{bytes_eq}
use Rattle.csv_records.specs.Rows.{Fields, field_or_empty}
use Rattle.csv_records.specs.Names.{is_name}
use Rattle.csv_records.specs.Numbers.{number_of}
use Rattle.plan_fields.specs.Numbers.{int_of, numbers_of}

-- the six fields
abbrev pub test_field : Fields → List ℕ
test_field fields = field_or_empty fields 0

abbrev pub call_field : Fields → List ℕ
call_field fields = field_or_empty fields 1

abbrev pub arguments_field : Fields → List ℕ
arguments_field fields = field_or_empty fields 2

abbrev pub inputs_field : Fields → List ℕ
inputs_field fields = field_or_empty fields 3

abbrev pub expect_field : Fields → List ℕ
expect_field fields = field_or_empty fields 4

abbrev pub output_field : Fields → List ℕ
output_field fields = field_or_empty fields 5

-- the first record of each tests file
abbrev pub is_header : Fields → Bool
is_header fields = (length fields == 6)
    && bytes_eq (test_field fields) (codes "test")
    && bytes_eq (call_field fields) (codes "call")
    && bytes_eq (arguments_field fields) (codes "arguments")
    && bytes_eq (inputs_field fields) (codes "inputs")
    && bytes_eq (expect_field fields) (codes "expect")
    && bytes_eq (output_field fields) (codes "output")

-- a printable character of ASCII
abbrev pub is_printable : ℕ → Bool
is_printable b = nat_le 32 b && nat_le b 126

-- printable characters alone, and the name of a test
abbrev pub is_readable : Fields → Bool
is_readable fields = list_all (list_all is_printable) fields && is_name (test_field fields)

-- the value that has to be returned: any where the field is empty
abbrev pub expected_value : List ℕ → Option (Option ℤ)
expected_value [] = Some None
expected_value (b ∷ bs) = option_map Some (number_of (b ∷ bs))

-- the numbers that have to be appended to the output: any where the field is empty, no number where
-- it is `none`
abbrev pub expected_output : List ℕ → Option (Option (List ℤ))
expected_output [] = Some None
expected_output (b ∷ bs) =
    if bytes_eq (b ∷ bs) (codes "none") then Some (Some [])
    else option_map Some (numbers_of int_of (b ∷ bs))

-- what the four fields of numbers say
pub record Numbers : Type 0 where
  pub arguments : List ℤ
  pub inputs : List ℤ
  pub expect : Option ℤ
  pub output : Option (List ℤ)

abbrev pub all_four : Option (List ℤ) → Option (List ℤ) → Option (Option ℤ)
    → Option (Option (List ℤ)) → Option Numbers
all_four (Some arguments) (Some inputs) (Some expect) (Some output) =
    Some (record { arguments = arguments; inputs = inputs; expect = expect; output = output })
all_four _ _ _ _ = None

-- what the four fields say, or none where one of them is no field of numbers; inputs and outputs
-- lie in the range of `int`
abbrev pub numbers_in : Fields → Option Numbers
numbers_in fields =
    all_four (numbers_of number_of (arguments_field fields))
    (numbers_of int_of (inputs_field fields)) (expected_value (expect_field fields))
    (expected_output (output_field fields))
