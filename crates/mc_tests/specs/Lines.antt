-- What a record of a tests file says by itself, and the faults that it has by itself, the lowest of
-- which answers.
use Rattle.std.specs.Prelude.{ℕ, ◌+◌, not, ◌&&◌, List, [], ◌∷◌, length, Option, Some, None, Result, Ok, Err, if◌then◌else◌, ◌==◌, ℤ}
use Rattle.std.specs.Str.{bytes_eq}
use Rattle.csv_records.specs.Rows.{Fields}
use Rattle.mc_typed.specs.Tree.{Function}
use Rattle.mc_typed.specs.Plans.{Call}
use Rattle.plan_fields.specs.Calls.{are_values, integer_types, is_callable, may_expect}
use Rattle.plan_fields.specs.Fields.{Numbers, call_field, is_readable, numbers_in, test_field}
use Rattle.mc_tests.specs.declared.fault.TestFault.{TestFault}
use Rattle.mc_tests.specs.declared.fault.TestFault.TheVariants as fault

-- one call of a test, and the inputs that its record adds to those of the test
pub record Line : Type 0 where
  pub name : List ℕ
  pub call : Call
  pub inputs : List ℤ

-- the first function with a name, and its number; the functions are numbered from k
abbrev pub function_named : List ℕ → ℕ → List Function → Option (ℕ × Function)
function_named name k [] = None
function_named name k (f ∷ fs) =
    if bytes_eq f.name name then Some (k, f) else function_named name (k + 1) fs

abbrev pub called : ℕ → Fields → Numbers → Option (ℕ × Function) → Result Line TestFault
called row fields numbers None = Err (fault.Function row)
called row fields numbers (Some (k, f)) =
    if not (are_values numbers.arguments (integer_types f.parameters)
    && may_expect numbers.expect f.result)
    then Err (fault.Arguments row)
    else if not (is_callable f) then Err (fault.NotCallable row)
    else Ok (record {
      name = test_field fields;
      call = record {
        function = k;
        arguments = numbers.arguments;
        expect = numbers.expect;
        output = numbers.output;
      };
      inputs = numbers.inputs;
    })

abbrev pub numbered :
    List Function → ℕ → Fields → Option Numbers → Result Line TestFault
numbered functions row fields None = Err (fault.Number row)
numbered functions row fields (Some numbers) =
    called row fields numbers (function_named (call_field fields) 0 functions)

-- the call that the record with number `row` is, or its lowest fault
abbrev pub line_of : List Function → ℕ → Fields → Result Line TestFault
line_of functions row fields =
    if not (length fields == 6) then Err (fault.Width row)
    else if not (is_readable fields) then Err (fault.Text row)
    else numbered functions row fields (numbers_in fields)
