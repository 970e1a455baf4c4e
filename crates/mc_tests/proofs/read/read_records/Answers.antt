use Rattle.std.proofs.Common.{◌≡◌, ◌∙◌, ◌++◌, ◌∷◌, [], List, Some, Err, map, refl, sym, ap, subst, arith, rules}
use Rattle.std.proofs.lemmas.List.{length_push}
use Rattle.mc_typed.specs.Plans.{Plan}
use Rattle.mc_typed.specs.Views.{function_of}
use Rattle.mc_tests.specs.declared.fault.TestFault.{TestFault}
use Rattle.mc_tests.specs.File.{records_from}
use Rattle.mc_tests.specs.Seen.{AreRead, plans_in, seen_line}
use Rattle.mc_tests.specs.Tests.{tests_of, tests_fault}
use Rattle.mc_tests.specs.steps.Adding.{with_last}
use Rattle.mc_tests.proofs.Adding.{tests_more}
use Rattle.mc_tests.proofs.Records.{few_lines, goes_on, tests_faulty}
use Rattle.mc_tests.proofs.read.read_records.Goals as goal

pub reading-init : goal.reading-init
reading-init c = (
  [],
  record {
    stand = c.no_tests-tests.ensures.stand;
    fuel = c.no_tests-tests.ensures.fuel;
    plans = c.no_tests-tests.ensures.none;
    count = refl;
    left = refl;
  },
)

pub reading-preserved : goal.reading-preserved
reading-preserved c =
    let functions = map function_of c.args.functions.now in
    let lines = c.reading.invariant.0 in
    let inv = c.reading.invariant.1 in
    let line = seen_line c.in_ok-line.line in
    let gives = rw c.in-Some.is at c.in_ok-fields.ensures in
    let moved : with_last c.reading.tests.fuel (plans_in c.reading.tests) line ≡ tests_of c.args.fuel (lines ++ line ∷ []) =
    ap (λ n. with_last n (plans_in c.reading.tests) line) inv.fuel ∙ ap (λ (ps : List Plan). with_last c.args.fuel ps line) inv.plans ∙ sym (tests_more c.args.fuel lines line) in
    let plans : plans_in c.in_ok-tests.tests ≡ tests_of c.args.fuel (lines ++ line ∷ []) = c.in_ok-tests.ensures.plans ∙ moved in
    let read = subst (λ (ps : List Plan). AreRead ps c.in_ok-tests.tests.names) plans c.in_ok-tests.ensures.stand.read in (
      lines ++ line ∷ [],
      record {
        stand = c.in_ok-tests.ensures.stand;
        fuel = c.in_ok-tests.ensures.fuel ∙ inv.fuel;
        plans = plans;
        count = omega (arith, inv.count, length_push lines line);
        left = inv.left ∙ goes_on functions c.args.fuel c.reading.row lines c.reading.rows c.next_row.new.self c.in-Some.fields gives line c.in_ok-tests.tests.names c.in_ok-line.ensures.line read;
      },
    )

pub overflow_add-row : goal.overflow_add-row
overflow_add-row c =
    let lines = c.reading.invariant.0 in
    let inv = c.reading.invariant.1 in
    let line = seen_line c.in_ok-line.line in
    let moved : with_last c.reading.tests.fuel (plans_in c.reading.tests) line ≡ tests_of c.args.fuel (lines ++ line ∷ []) =
    ap (λ n. with_last n (plans_in c.reading.tests) line) inv.fuel ∙ ap (λ (ps : List Plan). with_last c.args.fuel ps line) inv.plans ∙ sym (tests_more c.args.fuel lines line) in
    let plans : plans_in c.in_ok-tests.tests ≡ tests_of c.args.fuel (lines ++ line ∷ []) = c.in_ok-tests.ensures.plans ∙ moved in
    let read = subst (λ (ps : List Plan). AreRead ps c.in_ok-tests.tests.names) plans c.in_ok-tests.ensures.stand.read in
    let few = few_lines c.args.fuel (lines ++ line ∷ []) c.in_ok-tests.tests.names read in
    omega (arith, few, inv.count, length_push lines line)

pub returns-in_err-tests-clause-fault : goal.returns-in_err-tests-clause-fault
returns-in_err-tests-clause-fault c =
    let functions = map function_of c.args.functions.now in
    let lines = c.reading.invariant.0 in
    let inv = c.reading.invariant.1 in
    let line = seen_line c.in_ok-line.line in
    let gives = rw c.in-Some.is at c.in_ok-fields.ensures in
    let moved : with_last c.reading.tests.fuel (plans_in c.reading.tests) line ≡ tests_of c.args.fuel (lines ++ line ∷ []) =
    ap (λ n. with_last n (plans_in c.reading.tests) line) inv.fuel ∙ ap (λ (ps : List Plan). with_last c.args.fuel ps line) inv.plans ∙ sym (tests_more c.args.fuel lines line) in
    let faulty : (e : TestFault) → tests_fault c.reading.row (with_last c.reading.tests.fuel (plans_in c.reading.tests) line) ≡ Some e → records_from functions c.args.fuel 2 [] c.args.rows.now ≡ Err e =
    λ e told. inv.left ∙ tests_faulty functions c.args.fuel c.reading.row lines c.reading.rows c.next_row.new.self c.in-Some.fields gives line e c.in_ok-line.ensures.line (sym (ap (tests_fault c.reading.row) moved) ∙ told) in
    search (rules, faulty)
