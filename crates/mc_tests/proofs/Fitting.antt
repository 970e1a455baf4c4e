-- Plans that a file stands for fit the program.
use Rattle.std.proofs.Common.{◌≡◌, ◌≤◌, ◌+◌, ◌-◌, ℕ, suc, ℤ, List, [], ◌∷◌, ◌++◌, length, nat_le, ◌&&◌, Option, Some, None, option_map, Bool, true, false, not, Result, Ok, Err, if◌then◌else◌, slice_get, ◌==◌, codes, refl, sym, ap, subst, arith, inl, inr}
use Rattle.std.specs.List.{list_all}
use Rattle.std.specs.Str.{bytes_eq}
use Rattle.std.proofs.lemmas.Bool.{cases_Bool, false≢true}
use Rattle.std.proofs.lemmas.Bool.Decides.{nat_tests}
use Rattle.csv_records.specs.Rows.{Fields}
use Rattle.mc_value.specs.declared.int_type.IntType.{IntType}
use Rattle.mc_value.specs.declared.int_type.IntType.TheVariants.{Int}
use Rattle.mc_value.specs.IntTypes.{InRange, in_range, least_of, greatest_of}
use Rattle.mc_value.proofs.Wrapping.{le_yes}
use Rattle.mc_typed.specs.Tree.{Function, ParameterType, Program, ResultType}
use Rattle.mc_typed.specs.Tree as t
use Rattle.mc_typed.specs.Plans.{AreInts, AreOutputs, AreValues, Call, CallFits, CallsFit, Fits, IsExpected, Plan, expected_outputs, outputs_of}
use Rattle.mc_tests.specs.declared.fault.TestFault.{TestFault}
use Rattle.mc_tests.specs.declared.fault.TestFault.TheVariants as fault
use Rattle.plan_fields.specs.Fields.{Numbers, all_four, arguments_field, call_field, expected_output, expected_value, expect_field, inputs_field, is_header, is_readable, numbers_in, output_field, test_field}
use Rattle.csv_records.specs.Names.{is_name}
use Rattle.csv_records.specs.Numbers.{number_of}
use Rattle.plan_fields.specs.Numbers.{all_numbers, and_number, if_int, int_of, numbers_of, pieces_of}
use Rattle.plan_fields.specs.Calls.{are_values, gives_structure, integer_types, is_callable, may_expect, takes_integers}
use Rattle.mc_tests.specs.Lines.{Line, called, function_named, line_of, numbered}
use Rattle.mc_tests.specs.Tests.{are_distinct, before_test, before_tests, is_small, keeps_limits, names_of, test_of, tests_of, tests_fault}
use Rattle.mc_tests.specs.File.{AllFit, AreNamed, after_line, records_from, rows_file, unless_fault}
use Rattle.mc_tests.proofs.Adding.{and_parts}

-- ---- numbers in the range of int

within : (a : IntType) (v : ℤ) → in_range a v ≡ true → InRange a v
within a v is =
    let both = and_parts _ _ is in
    record { least = le_yes (least_of a) v both.0; greatest = le_yes v (greatest_of a) both.1 }

int-within : (o : Option ℤ) (z : ℤ) → if_int o ≡ Some z → InRange Int z
int-within None z is = absurd (cc is)
int-within (Some y) z is = by_range (in_range Int y) refl is
  where
    by_range : (inside : Bool) → in_range Int y ≡ inside → (if inside then Some y else None) ≡ Some z → InRange Int z
    by_range true inside e =
        let same : y ≡ z = cc e in
        subst (InRange Int) same (within Int y inside)
    by_range false inside e = absurd (cc e)

all-within : (pieces : List (List ℕ)) (zs : List ℤ) → all_numbers int_of pieces ≡ Some zs → AreInts zs
all-within [] zs is = let none : [] ≡ zs = cc is in subst AreInts none tt
all-within (piece ∷ pieces) zs is = by_first (int_of piece) (all_numbers int_of pieces) refl refl zs is (all-within pieces)
  where
    by_first : (o : Option ℤ) (later : Option (List ℤ)) → int_of piece ≡ o → all_numbers int_of pieces ≡ later → (all : List ℤ) → and_number o later ≡ Some all
        → ((ys : List ℤ) → all_numbers int_of pieces ≡ Some ys → AreInts ys) → AreInts all
    by_first None later p q all e r = absurd (cc e)
    by_first (Some y) None p q all e r = absurd (cc e)
    by_first (Some y) (Some ys) p q all e r =
        let whole : y ∷ ys ≡ all = cc e in
        let rest : AreInts (y ∷ ys) = (int-within (number_of piece) y p, r ys q) in
        subst AreInts whole rest

ints-within : (text : List ℕ) (zs : List ℤ) → numbers_of int_of text ≡ Some zs → AreInts zs
ints-within [] zs is = let none : [] ≡ zs = cc is in subst AreInts none tt
ints-within (b ∷ bs) zs is = all-within (pieces_of (b ∷ bs)) zs is

output-within : (text : List ℕ) (o : Option (List ℤ)) → expected_output text ≡ Some o → AreInts (outputs_of o)
output-within [] o is = let none : None ≡ o = cc is in subst (λ (p : Option (List ℤ)). AreInts (outputs_of p)) none tt
output-within (b ∷ bs) o is = by_word (bytes_eq (b ∷ bs) (codes "none")) is
  where
    by_numbers : (found : Option (List ℤ)) → numbers_of int_of (b ∷ bs) ≡ found → option_map Some found ≡ Some o → AreInts (outputs_of o)
    by_numbers None are e = absurd (cc e)
    by_numbers (Some zs) are e = let same : Some zs ≡ o = cc e in subst (λ (p : Option (List ℤ)). AreInts (outputs_of p)) same (ints-within (b ∷ bs) zs are)

    by_word : (word : Bool) → (if word then Some (Some []) else option_map Some (numbers_of int_of (b ∷ bs))) ≡ Some o → AreInts (outputs_of o)
    by_word true e = let same : Some [] ≡ o = cc e in subst (λ (p : Option (List ℤ)). AreInts (outputs_of p)) same tt
    by_word false e = by_numbers (numbers_of int_of (b ∷ bs)) refl e

record NumbersFit (n : Numbers) : Type 0 where
  inputs : AreInts n.inputs
  output : AreInts (outputs_of n.output)

numbers-fit : (fields : Fields) (n : Numbers) → numbers_in fields ≡ Some n → NumbersFit n
numbers-fit fields n is = by_four (numbers_of number_of (arguments_field fields)) (numbers_of int_of (inputs_field fields)) (expected_value (expect_field fields)) (expected_output (output_field fields)) refl refl is
  where
    by_four : (a : Option (List ℤ)) (i : Option (List ℤ)) (e : Option (Option ℤ)) (o : Option (Option (List ℤ))) → numbers_of int_of (inputs_field fields) ≡ i → expected_output (output_field fields) ≡ o
        → all_four a i e o ≡ Some n → NumbersFit n
    by_four None i e o p q all = absurd (cc all)
    by_four (Some a) None e o p q all = absurd (cc all)
    by_four (Some a) (Some i) None o p q all = absurd (cc all)
    by_four (Some a) (Some i) (Some e) None p q all = absurd (cc all)
    by_four (Some a) (Some i) (Some e) (Some o) p q all =
        let m : Numbers = record { arguments = a; inputs = i; expect = e; output = o } in
        let same : m ≡ n = cc all in
        let fit : NumbersFit m = record { inputs = ints-within (inputs_field fields) i p; output = output-within (output_field fields) o q } in
        subst NumbersFit same fit

-- ---- a call

numbered-above : (name : List ℕ) (m : ℕ) (gs : List Function) (found : ℕ × Function) → function_named name m gs ≡ Some found → m ≤ found.0
numbered-above name m [] found e = absurd (cc e)
numbered-above name m (h ∷ gs) found e = by_name (bytes_eq h.name name) e (numbered-above name (m + 1) gs found)
  where
    by_name : (same : Bool) → (if same then Some (m, h) else function_named name (m + 1) gs) ≡ Some found → (function_named name (m + 1) gs ≡ Some found → m + 1 ≤ found.0) → m ≤ found.0
    by_name true e r = let first : (m, h) ≡ found = cc e in let same : m ≡ found.0 = ap (λ (f : ℕ × Function). f.0) first in omega arith
    by_name false e r = let more : m + 1 ≤ found.0 = r e in omega arith

found-there : (name : List ℕ) (n k : ℕ) (fs : List Function) (found : ℕ × Function) → function_named name n fs ≡ Some found → found.0 ≡ n + k → slice_get fs k ≡ Some found.1
found-there name n k [] found is at = absurd (cc is)
found-there name n k (g ∷ fs) found is at = by_name (bytes_eq g.name name) is (found-there name (n + 1) (k - 1) fs found) (numbered-above name (n + 1) fs found)
  where
    by_name : (same : Bool) → (if same then Some (n, g) else function_named name (n + 1) fs) ≡ Some found
        → (function_named name (n + 1) fs ≡ Some found → found.0 ≡ n + 1 + (k - 1) → slice_get fs (k - 1) ≡ Some found.1) → (function_named name (n + 1) fs ≡ Some found → n + 1 ≤ found.0)
        → slice_get (g ∷ fs) k ≡ Some found.1
    by_name true e r above =
        let first : (n, g) ≡ found = cc e in
        let number : n ≡ found.0 = ap (λ (f : ℕ × Function). f.0) first in
        let none : k ≡ 0 = omega arith in
        rw none (ap (λ (f : ℕ × Function). Some f.1) first)
    by_name false e r above =
        let more : n + 1 ≤ found.0 = above e in
        let next : k ≡ suc (k - 1) = omega arith in
        rw next (r e (omega arith))

values-fit : (vs : List ℤ) (ps : List ParameterType) → are_values vs (integer_types ps) ≡ true → takes_integers ps ≡ true → AreValues vs ps
values-fit [] [] are take = tt
values-fit (v ∷ vs) [] are take = absurd (false≢true are)
values-fit [] (t.NumberParameter a ∷ ps) are take = absurd (false≢true are)
values-fit (v ∷ vs) (t.NumberParameter a ∷ ps) are take =
    let parts = and_parts (in_range a v) (are_values vs (integer_types ps)) are in
    (within a v parts.0, values-fit vs ps parts.1 take)
values-fit vs (t.StructureParameter u ∷ ps) are take = absurd (false≢true take)
values-fit vs (t.ArrayParameter u ∷ ps) are take = absurd (false≢true take)

expected-fits : (e : Option ℤ) (r : ResultType) → may_expect e r ≡ true → not (gives_structure r) ≡ true → IsExpected e r
expected-fits (Some v) t.NoResult may none = absurd (false≢true may)
expected-fits None t.NoResult may none = tt
expected-fits e (t.NumberResult a) may none = tt
expected-fits e (t.StructureResult u) may none = absurd (false≢true none)

pub record LineFits (p : Program) (line : Line) : Type 0 where
  pub named : is_name line.name ≡ true
  pub call : CallFits line.call (slice_get p.functions line.call.function)
  pub inputs : AreInts line.inputs
  pub output : AreInts (outputs_of line.call.output)

module _ (p : Program) (row : ℕ) (fields : Fields) (line : Line) (named : is_name (test_field fields) ≡ true) where
  from_callable : (n : Numbers) (k : ℕ) (f : Function) → NumbersFit n → slice_get p.functions k ≡ Some f → (fits : Bool) → (are_values n.arguments (integer_types f.parameters) && may_expect n.expect f.result) ≡ fits
      → (can : Bool) → is_callable f ≡ can
      → called row fields n (Some (k, f)) ≡ Ok line → LineFits p line
  from_callable n k f fit there false given can able e = absurd (cc (rw given at e))
  from_callable n k f fit there true given false able e = absurd (cc (rw (given, able) at e))
  from_callable n k f fit there true given true able e =
      let args = and_parts (are_values n.arguments (integer_types f.parameters)) (may_expect n.expect f.result) given in
      let kinds = and_parts (takes_integers f.parameters) (not (gives_structure f.result)) able in
      let call : CallFits (record { function = k; arguments = n.arguments; expect = n.expect; output = n.output }) (Some f) =
      (values-fit n.arguments f.parameters args.0 kinds.0, expected-fits n.expect f.result args.1 kinds.1) in
      let c : Call = record { function = k; arguments = n.arguments; expect = n.expect; output = n.output } in
      let made : Line = record { name = test_field fields; call = c; inputs = n.inputs } in
      let same : made ≡ line = cc (rw (given, able) at e) in
      let made_fits : LineFits p made = record { named = named; call = subst (CallFits c) (sym there) call; inputs = fit.inputs; output = fit.output } in
      subst (LineFits p) same made_fits

  from_found : (n : Numbers) → NumbersFit n → (found : Option (ℕ × Function)) → function_named (call_field fields) 0 p.functions ≡ found → called row fields n found ≡ Ok line → LineFits p line
  from_found n fit None is e = absurd (cc e)
  from_found n fit (Some (k, f)) is e =
      let start : k ≡ 0 + k = omega arith in
      from_callable n k f fit (found-there (call_field fields) 0 k p.functions (k, f) is start) (are_values n.arguments (integer_types f.parameters) && may_expect n.expect f.result) refl (is_callable f) refl e

  from_numbers : (found : Option Numbers) → numbers_in fields ≡ found → numbered p.functions row fields found ≡ Ok line → LineFits p line
  from_numbers None is e = absurd (cc e)
  from_numbers (Some n) is e = from_found n (numbers-fit fields n is) (function_named (call_field fields) 0 p.functions) refl e

module _ (p : Program) (row : ℕ) (fields : Fields) (line : Line) where
  from_text : (six readable : Bool) → is_readable fields ≡ readable → (if not six then Err (fault.Width row) else if not readable then Err (fault.Text row) else numbered p.functions row fields (numbers_in fields)) ≡ Ok line → LineFits p line
  from_text false readable is e = absurd (cc e)
  from_text true false is e = absurd (cc e)
  from_text true true is e = from_numbers p row fields line (and_parts _ _ is).1 (numbers_in fields) refl e

  pub line-fits : line_of p.functions row fields ≡ Ok line → LineFits p line
  line-fits is = from_text (length fields == 6) (is_readable fields) refl is

-- ---- tests

ints-joined : (xs ys : List ℤ) → AreInts xs → AreInts ys → AreInts (xs ++ ys)
ints-joined [] ys a b = b
ints-joined (x ∷ xs) ys a b = (a.0, ints-joined xs ys a.1 b)

record PlanFits (p : Program) (fuel : ℕ) (plan : Plan) : Type 0 where
  named : is_name plan.name ≡ true
  calls : CallsFit plan.calls p
  inputs : AreInts plan.inputs
  outputs : AreOutputs plan.calls
  fueled : plan.fuel ≡ fuel

abbrev PlansFit : Program → ℕ → List Plan → Type 0
PlansFit p fuel [] = Unit {0}
PlansFit p fuel (plan ∷ plans) = PlanFits p fuel plan × PlansFit p fuel plans

abbrev pub LinesFit : Program → List Line → Type 0
LinesFit p [] = Unit {0}
LinesFit p (line ∷ lines) = LineFits p line × LinesFit p lines

alone-fits : (p : Program) (fuel : ℕ) (line : Line) → LineFits p line → PlanFits p fuel (test_of fuel line)
alone-fits p fuel line fit = record { named = fit.named; calls = (fit.call, tt); inputs = fit.inputs; outputs = (fit.output, tt); fueled = refl }

before-fits : (p : Program) (fuel : ℕ) (line : Line) (plan : Plan) → LineFits p line → PlanFits p fuel plan → PlanFits p fuel (before_test line plan)
before-fits p fuel line plan fit plan_fits =
    record { named = plan_fits.named; calls = (fit.call, plan_fits.calls); inputs = ints-joined line.inputs plan.inputs fit.inputs plan_fits.inputs; outputs = (fit.output, plan_fits.outputs); fueled = plan_fits.fueled }

tests-fit : (p : Program) (fuel : ℕ) (lines : List Line) → LinesFit p lines → PlansFit p fuel (tests_of fuel lines)
tests-fit p fuel [] fit = tt
tests-fit p fuel (line ∷ lines) fit = onto (tests_of fuel lines) (tests-fit p fuel lines fit.1)
  where
    onto : (plans : List Plan) → PlansFit p fuel plans → PlansFit p fuel (before_tests fuel line plans)
    onto [] plans_fit = (alone-fits p fuel line fit.0, tt)
    onto (plan ∷ plans) plans_fit = elim (cases_Bool (bytes_eq line.name plan.name)) [
      | inl same ↦ rw same (before-fits p fuel line plan fit.0 plans_fit.0, plans_fit.1)
      | inr differ ↦ rw differ (alone-fits p fuel line fit.0, plans_fit)
    ]

small-fits : (p : Program) (fuel : ℕ) (plan : Plan) → 1 ≤ fuel → fuel ≤ 100000000 → PlanFits p fuel plan → is_small plan ≡ true → Fits plan p
small-fits p fuel plan some few fit small =
    let outer = and_parts (nat_le (length plan.calls) 1024 && nat_le (length plan.inputs) 4096) (nat_le (expected_outputs plan.calls) 4096) small in
    let inner = and_parts (nat_le (length plan.calls) 1024) (nat_le (length plan.inputs) 4096) outer.0 in
    let calls_tested = inner.0 in
    let inputs_tested = inner.1 in
    let outputs_tested = outer.1 in
    record {
      calls = fit.calls;
      calls_few = grind (arith, nat_tests);
      inputs = fit.inputs;
      inputs_few = grind (arith, nat_tests);
      outputs = fit.outputs;
      outputs_few = grind (arith, nat_tests);
      some_fuel = rw fit.fueled some;
      fuel = rw fit.fueled few;
    }

smalls-fit : (p : Program) (fuel : ℕ) (plans : List Plan) → 1 ≤ fuel → fuel ≤ 100000000 → PlansFit p fuel plans → list_all is_small plans ≡ true → AllFit p plans
smalls-fit p fuel [] some few fit small = tt
smalls-fit p fuel (plan ∷ plans) some few fit small =
    let parts = and_parts (is_small plan) (list_all is_small plans) small in
    (small-fits p fuel plan some few fit.0 parts.0, smalls-fit p fuel plans some few fit.1 parts.1)

names-fit : (p : Program) (fuel : ℕ) (plans : List Plan) → PlansFit p fuel plans → list_all is_name (names_of plans) ≡ true
names-fit p fuel [] fit = refl
names-fit p fuel (plan ∷ plans) fit = rw (fit.0.named, names-fit p fuel plans fit.1) refl

lines-more : (p : Program) (lines : List Line) (line : Line) → LinesFit p lines → LineFits p line → LinesFit p (lines ++ line ∷ [])
lines-more p [] line fit more = (more, tt)
lines-more p (l ∷ lines) line fit more = (fit.0, lines-more p lines line fit.1 more)

-- ---- the whole file

unfaulty : (row : ℕ) (plans : List Plan) → tests_fault row plans ≡ None → (are_distinct (names_of plans) ≡ true) × (keeps_limits plans ≡ true)
unfaulty row plans is = by_names (are_distinct (names_of plans)) (keeps_limits plans) refl refl is
  where
    by_names : (distinct kept : Bool) → are_distinct (names_of plans) ≡ distinct → keeps_limits plans ≡ kept → (if not distinct then Some (fault.NameAgain row) else if not kept then Some (fault.Limit row) else None) ≡ None
        → (are_distinct (names_of plans) ≡ true) × (keeps_limits plans ≡ true)
    by_names false kept names limits e = absurd (cc e)
    by_names true false names limits e = absurd (cc e)
    by_names true true names limits e = (names, limits)

-- plans that fit, and whose names are as they have to be
pub record AreGood (p : Program) (plans : List Plan) : Type 0 where
  pub fit : AllFit p plans
  pub named : AreNamed plans
  pub few : length plans ≤ 4096

module _ (p : Program) (fuel : ℕ) (some : 1 ≤ fuel) (few : fuel ≤ 100000000) where
  tests-good : (lines : List Line) → LinesFit p lines → (are_distinct (names_of (tests_of fuel lines)) ≡ true) × (keeps_limits (tests_of fuel lines) ≡ true) → AreGood p (tests_of fuel lines)
  tests-good lines fit kept =
      let plans = tests_of fuel lines in
      let plans_fit = tests-fit p fuel lines fit in
      let few_tested = (and_parts (nat_le (length plans) 4096) (list_all is_small plans) kept.1).0 in
      record {
        fit = smalls-fit p fuel plans some few plans_fit (and_parts (nat_le (length plans) 4096) (list_all is_small plans) kept.1).1;
        named = record { each = names-fit p fuel plans plans_fit; distinct = kept.0 };
        few = grind (arith, nat_tests);
      }

  records-good : (row : ℕ) (lines : List Line) (left : List Fields) (plans : List Plan) → LinesFit p lines → (are_distinct (names_of (tests_of fuel lines)) ≡ true) × (keeps_limits (tests_of fuel lines) ≡ true)
      → records_from p.functions fuel row lines left ≡ Ok plans → AreGood p plans
  records-good row lines [] plans fit kept is =
      let same : tests_of fuel lines ≡ plans = cc is in
      subst (AreGood p) same (tests-good lines fit kept)
  records-good row lines (fields ∷ left) plans fit kept is =
      by_line (line_of p.functions row fields) refl is (λ more. records-good (row + 1) more left plans)
    where
      by_fault : (line : Line) → line_of p.functions row fields ≡ Ok line → (fault : Option TestFault) → tests_fault row (tests_of fuel (lines ++ line ∷ [])) ≡ fault
          → unless_fault fault (records_from p.functions fuel (row + 1) (lines ++ line ∷ []) left) ≡ Ok plans
          → ((more : List Line) → LinesFit p more → (are_distinct (names_of (tests_of fuel more)) ≡ true) × (keeps_limits (tests_of fuel more) ≡ true) → records_from p.functions fuel (row + 1) more left ≡ Ok plans → AreGood p plans) → AreGood p plans
      by_fault line said (Some f) faulty e r = absurd (cc e)
      by_fault line said None faulty e r = r (lines ++ line ∷ []) (lines-more p lines line fit (line-fits p row fields line said)) (unfaulty row (tests_of fuel (lines ++ line ∷ [])) faulty) e

      by_line : (said : Result Line TestFault) → line_of p.functions row fields ≡ said
          → after_line said (λ line. unless_fault (tests_fault row (tests_of fuel (lines ++ line ∷ []))) (records_from p.functions fuel (row + 1) (lines ++ line ∷ []) left)) ≡ Ok plans
          → ((more : List Line) → LinesFit p more → (are_distinct (names_of (tests_of fuel more)) ≡ true) × (keeps_limits (tests_of fuel more) ≡ true) → records_from p.functions fuel (row + 1) more left ≡ Ok plans → AreGood p plans) → AreGood p plans
      by_line (Err f) said e r = absurd (cc e)
      by_line (Ok line) said e r = by_fault line said (tests_fault row (tests_of fuel (lines ++ line ∷ []))) refl e r

  pub file-good : (rows : List Fields) (plans : List Plan) → rows_file p.functions fuel rows ≡ Ok plans → AreGood p plans
  file-good [] plans is = absurd (cc is)
  file-good (first ∷ records) plans is = by_header (is_header first) is
    where
      by_header : (header : Bool) → (if header then records_from p.functions fuel 2 [] records else Err (fault.Header 1)) ≡ Ok plans → AreGood p plans
      by_header true e = records-good 2 [] records plans tt (refl, refl) e
      by_header false e = absurd (cc e)
