-- One record after the other.
use Rattle.std.proofs.Common.{◌≡◌, ◌≤◌, ◌+◌, ◌*◌, ℕ, List, [], ◌∷◌, ◌++◌, length, nat_le, ◌&&◌, Some, true, Ok, Err, refl, arith, inl, inr}
use Rattle.std.specs.List.{list_all}
use Rattle.std.specs.Str.{bytes_eq}
use Rattle.std.proofs.lemmas.Bool.{cases_Bool}
use Rattle.std.proofs.lemmas.Bool.Decides.{nat_tests}
use Rattle.csv_records.specs.Rows.{Fields}
use Rattle.mc_typed.specs.Plans.{Plan, expected_outputs}
use Rattle.mc_typed.specs.Tree.{Function}
use Rattle.mc_tests.specs.declared.fault.TestFault.{TestFault}
use Rattle.mc_tests.specs.Lines.{Line, line_of}
use Rattle.mc_tests.specs.Tests.{before_tests, is_small, tests_of, tests_fault}
use Rattle.mc_tests.specs.File.{records_from}
use Rattle.mc_tests.specs.Seen.{AreRead, Names}
use Rattle.mc_tests.proofs.Adding.{and_parts, no_fault}

module _ (functions : List Function) (fuel row : ℕ) (lines : List Line) (before after : List Fields) (fields : Fields) (is : before ≡ fields ∷ after) where
  pub line_faulty : (f : TestFault) → line_of functions row fields ≡ Err f → records_from functions fuel row lines before ≡ Err f
  line_faulty f faulty = rw (is, faulty) refl

  pub tests_faulty : (line : Line) (f : TestFault) → line_of functions row fields ≡ Ok line → tests_fault row (tests_of fuel (lines ++ line ∷ [])) ≡ Some f → records_from functions fuel row lines before ≡ Err f
  tests_faulty line f said faulty = rw (is, said, faulty) refl

  pub goes_on : (line : Line) (names : Names) → line_of functions row fields ≡ Ok line → AreRead (tests_of fuel (lines ++ line ∷ [])) names
      → records_from functions fuel row lines before ≡ records_from functions fuel (row + 1) (lines ++ line ∷ []) after
  goes_on line names said read = rw (is, said, no_fault row (tests_of fuel (lines ++ line ∷ [])) names read) refl

pub ended : (functions : List Function) (fuel row : ℕ) (lines : List Line) (left : List Fields) → left ≡ [] → records_from functions fuel row lines left ≡ Ok (tests_of fuel lines)
ended functions fuel row lines left is = rw is refl

-- ---- how many records there can be

calls_in : List Plan → ℕ
calls_in [] = 0
calls_in (p ∷ ps) = length p.calls + calls_in ps

calls_before : (fuel : ℕ) (line : Line) (ps : List Plan) → calls_in (before_tests fuel line ps) ≡ 1 + calls_in ps
unfolding calls_in
calls_before fuel line [] = refl
calls_before fuel line (p ∷ ps) = elim (cases_Bool (bytes_eq line.name p.name)) [
  | inl same ↦ rw same (omega arith)
  | inr differ ↦ rw differ (omega arith)
]

calls_of : (fuel : ℕ) (lines : List Line) → calls_in (tests_of fuel lines) ≡ length lines
unfolding calls_in
calls_of fuel [] = refl
calls_of fuel (line ∷ lines) = omega (arith, calls_before fuel line (tests_of fuel lines), calls_of fuel lines)

calls_few : (ps : List Plan) → list_all is_small ps ≡ true → calls_in ps ≤ 1024 * length ps
unfolding calls_in
calls_few [] small = omega arith
calls_few (p ∷ ps) small =
    let here = and_parts (is_small p) (list_all is_small ps) small in
    let calls = (and_parts (nat_le (length p.calls) 1024) (nat_le (length p.inputs) 4096) (and_parts (nat_le (length p.calls) 1024 && nat_le (length p.inputs) 4096) (nat_le (expected_outputs p.calls) 4096) here.0).0).0 in
    let few : length p.calls ≤ 1024 = grind (arith, nat_tests) in
    omega (arith, calls_few ps here.1)

pub few_lines : (fuel : ℕ) (lines : List Line) (names : Names) → AreRead (tests_of fuel lines) names → length lines ≤ 4194304
few_lines fuel lines names read =
    let ps = tests_of fuel lines in
    let kept = and_parts (nat_le (length ps) 4096) (list_all is_small ps) read.limits in
    let first = kept.0 in
    let tests : length ps ≤ 4096 = grind (arith, nat_tests) in
    omega (arith, calls_of fuel lines, calls_few ps kept.1)
