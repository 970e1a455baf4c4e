use Rattle.std.proofs.Common.{◌≡◌, ◌≢◌, ◌-◌, ◌+◌, ◌<◌, ◌∙◌, ℕ, List, [], ◌∷◌, ◌++◌, length, Option, Some, None, arith, inl, inr, ap}
use Rattle.std.specs.Prelude.{Result, Ok, Err}
use Rattle.std.specs.List.{list_any}
use Rattle.std.specs.Str.{bytes_eq}
use Rattle.std.proofs.lemmas.Bool.{cases_Bool}
use Rattle.std.proofs.lemmas.List.{length_push}
use Rattle.mc_typed.specs.declared.plans.TestState.{TestState}
use Rattle.mc_record.specs.Seen.{tests_of}
use Rattle.mc_record.specs.Tests.{TestsRead, test_in, tests_in, with_test}
use Rattle.mc_record.specs.declared.fault.RecordFault.{RecordFault}
use Rattle.mc_record.specs.declared.fault.RecordFault.TheVariants.{OutOfMemory}
use Rattle.mc_record.proofs.Raised.{raised}
use Rattle.mc_record.proofs.TestLines.{tests_step, tests_stop}
use Rattle.mc_record.proofs.tests.read_tests.Goals as goal

one_more : (names : List (List ℕ)) (states : List TestState) (o : Option (List ℕ × TestState × List ℕ)) (t : TestsRead) → with_test names states o ≡ Ok t → length t.names ≡ length names + 1
one_more names states None t is = absurd (cc is)
one_more names states (Some (name, state, rest)) t is = elim (cases_Bool (list_any (bytes_eq name) names)) [
  | inl again ↦ absurd (cc (rw again at is))
  | inr new ↦
      let e : ◌≡◌ {A = Result TestsRead RecordFault} (Ok (record { names = names ++ name ∷ []; states = states ++ state ∷ []; rest = rest })) (Ok t) = rw new at is in
      let same : record { names = names ++ name ∷ []; states = states ++ state ∷ []; rest = rest } ≡ t = cc in
      let long : length (names ++ name ∷ []) ≡ length t.names = ap (λ (x : TestsRead). length x.names) same in
      omega (arith, long, length_push names name)
]

test_fault : (count i : ℕ) (text : List ℕ) (names : List (List ℕ)) (states : List TestState) (left : List ℕ) (e : RecordFault) → i < count
    → tests_in [] [] count text ≡ tests_in names states (count - i) left
    → (e ≢ OutOfMemory → with_test names states (test_in left) ≡ Err e)
    → e ≢ OutOfMemory → tests_in [] [] count text ≡ Err e
test_fault count i text names states left e less so_far is other = so_far ∙ tests_stop count i names states left e less (is other)

pub returns-in_err-left-clause-fault : goal.returns-in_err-left-clause-fault
returns-in_err-left-clause-fault c =
    raised c.from_residual.result c.in_err-left.field-0.0 (λ e. e ≢ OutOfMemory → tests_in [] [] c.args.tests c.args.text.now ≡ Err e) c.from_residual.ensures.1
    (test_fault c.args.tests c.loop-test._test c.args.text.now c.loop-test.names.items c.loop-test.states.items c.loop-test.left.now c.in_err-left.field-0.0 c.loop-test-test.true c.loop-test.invariant.left c.in_err-left.ensures.fault)

pub loop-test-preserved : goal.loop-test-preserved
loop-test-preserved c =
    let t = tests_of c.read_test.new.names c.read_test.new.states c.in_ok-left.left.now in
    let long = one_more c.loop-test.names.items c.loop-test.states.items (test_in c.loop-test.left.now) t c.in_ok-left.ensures.read in
    record {
      seen = c.in_ok-left.ensures.seen;
      many = omega (arith, long, c.loop-test.invariant.many);
      left = c.loop-test.invariant.left ∙ tests_step c.args.tests c.loop-test._test c.loop-test.names.items c.loop-test.states.items c.loop-test.left.now t c.loop-test-test.true c.in_ok-left.ensures.read;
    }
