-- What an accepted tests file keeps: its tests have names, which differ, and there are few enough.
use Rattle.std.proofs.Common.{◌≡◌, ◌≤◌, ◌+◌, ℕ, Bool, true, false, not, ◌&&◌, if◌then◌else◌, List, [], ◌∷◌, ◌++◌, length, nat_le, Option, Some, None, Result, Ok, Err, refl, subst, arith, inl, inr}
use Rattle.std.specs.Prelude.{◌==◌}
use Rattle.std.specs.List.{list_all}
use Rattle.std.specs.Str.{bytes_eq}
use Rattle.std.proofs.lemmas.Bool.{and_from, and_parts, cases_Bool}
use Rattle.std.proofs.lemmas.Bool.Decides.{nat_tests}
use Rattle.mc_limits.specs.Limits.{most_tests}
use Rattle.csv_records.specs.Names.{is_name}
use Rattle.csv_records.specs.Rows.{Fields, rows_of}
use Rattle.mc_typed.specs.Plans.{Plan}
use Rattle.mc_typed.specs.Tree.{Function, Program}
use Rattle.plan_fields.specs.Calls.{are_values, integer_types, is_callable, may_expect}
use Rattle.plan_fields.specs.Fields.{Numbers, call_field, is_header, is_printable, is_readable, numbers_in, test_field}
use Rattle.mc_tests.specs.declared.fault.TestFault.{TestFault}
use Rattle.mc_tests.specs.declared.fault.TestFault.TheVariants as fault
use Rattle.mc_tests.specs.Lines.{Line, called, function_named, line_of, numbered}
use Rattle.mc_tests.specs.Tests.{are_distinct, before_tests, is_small, keeps_limits, names_of, tests_fault, tests_of}
use Rattle.mc_tests.specs.File.{after_line, records_from, rows_file, tests_file, unless_fault}

-- ---- each name is one

-- what a record gives has the name of a test
abbrev IsNamed : Result Line TestFault → Type 0
IsNamed (Ok line) = is_name line.name ≡ true
IsNamed (Err f) = Unit {0}

called_named : (row : ℕ) (fields : Fields) (numbers : Numbers) (found : Option (ℕ × Function)) → is_name (test_field fields) ≡ true → IsNamed (called row fields numbers found)
called_named row fields numbers None name = tt
called_named row fields numbers (Some (k, f)) name =
    by (are_values numbers.arguments (integer_types f.parameters) && may_expect numbers.expect f.result) (is_callable f)
  where
    by : (a b : Bool) → IsNamed (if not a then Err (fault.Arguments row) else if not b then Err (fault.NotCallable row) else Ok (record {
      name = test_field fields;
      call = record { function = k; arguments = numbers.arguments; expect = numbers.expect; output = numbers.output };
      inputs = numbers.inputs;
    }))
    by false b = tt
    by true false = tt
    by true true = name

numbered_named : (functions : List Function) (row : ℕ) (fields : Fields) (numbers : Option Numbers) → is_name (test_field fields) ≡ true → IsNamed (numbered functions row fields numbers)
numbered_named functions row fields None name = tt
numbered_named functions row fields (Some numbers) name = called_named row fields numbers (function_named (call_field fields) 0 functions) name

line_named : (functions : List Function) (row : ℕ) (fields : Fields) → IsNamed (line_of functions row fields)
line_named functions row fields = by (length fields == 6) (is_readable fields) refl
  where
    by : (wide readable : Bool) → is_readable fields ≡ readable
        → IsNamed (if not wide then Err (fault.Width row) else if not readable then Err (fault.Text row) else numbered functions row fields (numbers_in fields))
    by false readable is = tt
    by true false is = tt
    by true true is = numbered_named functions row fields (numbers_in fields) (and_parts (list_all (list_all is_printable) fields) (is_name (test_field fields)) is).1

-- ---- the tests of records

abbrev AreNames : List Plan → Type 0
AreNames plans = list_all is_name (names_of plans) ≡ true

abbrev HaveNames : List Line → Type 0
HaveNames lines = list_all (λ (line : Line). is_name line.name) lines ≡ true

one_more : (fuel : ℕ) (line : Line) (plans : List Plan) → is_name line.name ≡ true → AreNames plans → AreNames (before_tests fuel line plans)
one_more fuel line [] name are = and_from (is_name line.name) true name refl
one_more fuel line (plan ∷ plans) name are = elim (cases_Bool (bytes_eq line.name plan.name)) [
  | inl same ↦ rw same are
  | inr differ ↦ rw differ (and_from (is_name line.name) (list_all is_name (names_of (plan ∷ plans))) name are)
]

tests_named : (fuel : ℕ) (lines : List Line) → HaveNames lines → AreNames (tests_of fuel lines)
tests_named fuel [] have = refl
tests_named fuel (line ∷ lines) have =
    let both = and_parts (is_name line.name) (list_all (λ (x : Line). is_name x.name) lines) have in
    one_more fuel line (tests_of fuel lines) both.0 (tests_named fuel lines both.1)

name_pushed : (lines : List Line) (line : Line) → HaveNames lines → is_name line.name ≡ true → HaveNames (lines ++ line ∷ [])
name_pushed [] line have name = and_from (is_name line.name) true name refl
name_pushed (x ∷ lines) line have name =
    let both = and_parts (is_name x.name) (list_all (λ (y : Line). is_name y.name) lines) have in
    and_from (is_name x.name) (list_all (λ (y : Line). is_name y.name) (lines ++ line ∷ [])) both.0 (name_pushed lines line both.1 name)

-- ---- what they keep

-- the names of these tests differ, and there are few enough of them
record AreFew (plans : List Plan) : Type 0 where
  distinct : are_distinct (names_of plans) ≡ true
  few : length plans ≤ most_tests

no_fault : (row : ℕ) (plans : List Plan) → tests_fault row plans ≡ None → AreFew plans
no_fault row plans none = by (are_distinct (names_of plans)) (keeps_limits plans) refl refl none
  where
    by : (a b : Bool) → are_distinct (names_of plans) ≡ a → keeps_limits plans ≡ b → (if not a then Some (fault.NameAgain row) else if not b then Some (fault.Limit row) else None) ≡ None → AreFew plans
    by false b differ limits none = absurd (cc none)
    by true false differ limits none = absurd (cc none)
    by true true differ limits none =
        let within = (and_parts (nat_le (length plans) most_tests) (list_all is_small plans) limits).0 in
        record { distinct = differ; few = grind (arith, nat_tests) }

none_few : AreFew []
none_few = record { distinct = refl; few = omega arith }

-- what a tests file keeps
pub record AreKept (plans : List Plan) : Type 0 where
  pub names : list_all is_name (names_of plans) ≡ true
  pub distinct : are_distinct (names_of plans) ≡ true
  pub few : length plans ≤ most_tests

module _ (functions : List Function) (fuel : ℕ) where
  -- what comes of the records after this one
  abbrev Later : ℕ → List Line → List Fields → List Plan → Type 0
  Later row lines left plans = records_from functions fuel row lines left ≡ Ok plans

  by_tests : (row : ℕ) (lines : List Line) (left : List Fields) (plans : List Plan) (o : Option TestFault) → tests_fault row (tests_of fuel lines) ≡ o → (AreFew (tests_of fuel lines) → Later (row + 1) lines left plans → AreKept plans)
      → unless_fault o (records_from functions fuel (row + 1) lines left) ≡ Ok plans → AreKept plans
  by_tests row lines left plans (Some f) none rest is = absurd (cc is)
  by_tests row lines left plans None none rest is = rest (no_fault row (tests_of fuel lines) none) is

  by_line : (row : ℕ) (lines : List Line) (left : List Fields) (plans : List Plan) (l : Result Line TestFault) → IsNamed l
      → ((line : Line) → is_name line.name ≡ true → AreFew (tests_of fuel (lines ++ line ∷ [])) → Later (row + 1) (lines ++ line ∷ []) left plans → AreKept plans)
      → after_line l (λ line. unless_fault (tests_fault row (tests_of fuel (lines ++ line ∷ []))) (records_from functions fuel (row + 1) (lines ++ line ∷ []) left)) ≡ Ok plans → AreKept plans
  by_line row lines left plans (Err f) name rest is = absurd (cc is)
  by_line row lines left plans (Ok line) name rest is =
      by_tests row (lines ++ line ∷ []) left plans (tests_fault row (tests_of fuel (lines ++ line ∷ []))) refl (rest line name) is

  from : (row : ℕ) (lines : List Line) (left : List Fields) (plans : List Plan) → HaveNames lines → AreFew (tests_of fuel lines) → Later row lines left plans → AreKept plans
  from row lines [] plans have few is =
      let same : tests_of fuel lines ≡ plans = cc is in
      subst AreKept same (record { names = tests_named fuel lines have; distinct = few.distinct; few = few.few })
  from row lines (fields ∷ left) plans have few is =
      by_line row lines left plans (line_of functions row fields) (line_named functions row fields)
      (λ line name are later. from (row + 1) (lines ++ line ∷ []) left plans (name_pushed lines line have name) are later) is

  of_rows : (rows : List Fields) (plans : List Plan) → rows_file functions fuel rows ≡ Ok plans → AreKept plans
  of_rows [] plans is = absurd (cc is)
  of_rows (first ∷ records) plans is = by (is_header first) is
    where
      by : (b : Bool) → (if b then records_from functions fuel 2 [] records else Err (fault.Header 1)) ≡ Ok plans → AreKept plans
      by true rest = from 2 [] records plans refl none_few rest
      by false rest = absurd (cc rest)

pub file_kept : (program : Program) (fuel : ℕ) (bytes : List ℕ) (plans : List Plan) → tests_file program fuel bytes ≡ Ok plans → AreKept plans
file_kept program fuel bytes plans is = of_rows program.functions fuel (rows_of bytes) plans is
