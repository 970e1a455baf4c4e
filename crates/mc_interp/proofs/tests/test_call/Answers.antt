use Rattle.std.proofs.Common.{ℤ, length, map, sym, ap, subst, arith, Option}
use Rattle.mc_typed.specs.Plans.{plan_call_of}
use Rattle.mc_typed.specs.Views as plain
use Rattle.mc_probe.specs.Tests.{test_call}
use Rattle.mc_probe.specs.Trees.{tree_of}
use Rattle.mc_interp.specs.Stores.{given_of, passed_of, state_of, Did}
use Rattle.mc_interp.proofs.Kept.{if_any}
use Rattle.mc_interp.proofs.Callings.{call_fits, did_test_call, did_test_call_end, function_there, gives_number, passed_all, ready_same, result_given, still_ready, test_called, value_same, values_length, values_passed, values_typed}
use Rattle.mc_interp.proofs.tests.test_call.Goals as goal

pub pass_values-requires-clause-room : goal.pass_values-requires-clause-room
pass_values-requires-clause-room g c =
    let i = c.args.program.now in
    let k = plan_call_of c.args.call.now in
    let fn = c.function-function.result.now in
    let there = rw c.program.ensures.program at c.function-function.ensures.there in
    let fits = call_fits i k fn there c.requires.fits in
    omega (
      arith,
      ap length c.new-passed.ensures,
      ap length c.deref.ensures.value,
      values_length k.arguments (plain.function_of fn).parameters fits.0,
      c.function-function.ensures.sound.few,
    )

pub invoke-requires : goal.invoke-requires
invoke-requires g c =
    let i = c.args.program.now in
    let k = plan_call_of c.args.call.now in
    let fn = c.function-function.result.now in
    let there = rw c.program.ensures.program at c.function-function.ensures.there in
    let xs = c.pass_values.new.passed.items in
    let passed = passed_all c.args.program c.args.shapes k.function c.as_slice.result fn there xs c.as_slice.ensures.value
    (values_typed c.new-passed.result.items xs fn.parameters.items c.deref-2.result.now c.new-passed.ensures c.deref-2.ensures.value c.pass_values.ensures.typed) in
    record { ready = test_called c.args.program c.args.shapes k.function c.as_slice.result c.args.store.now (g.P.Probe.bits c.args.probe.now) c.requires.ready (function_there i k c.requires.fits) passed }

pub returns-in_err-invoke-clause-did : goal.returns-in_err-invoke-clause-did
returns-in_err-invoke-clause-did g c =
    let i = c.args.program.now in
    let k = plan_call_of c.args.call.now in
    let fn = c.function-function.result.now in
    let there = rw c.program.ensures.program at c.function-function.ensures.there in
    let xs = c.as_slice.result.now in
    let same = values_passed c.new-passed.result.items c.pass_values.new.passed.items xs k.arguments c.deref.result.now c.new-passed.ensures c.as_slice.ensures.value c.deref.ensures.value c.pass_values.ensures.values in
    subst (λ (r : Option (Option ℤ)). Did g.P.Probe.leads (test_call (tree_of i) k (state_of c.args.store.now)) r c.invoke.new.store c.args.probe.now c.invoke.new.probe) (sym c.from_residual.ensures)
    (did_test_call_end g.P.Probe.leads g.met.P.Probe.stays g.met.P.Probe.joins i k fn there (map passed_of xs) same c.args.store.now c.invoke.new.store c.args.probe.now c.invoke.new.probe c.in_err-invoke.ensures.did)

pub value_given-requires-clause-given : goal.value_given-requires-clause-given
value_given-requires-clause-given g c =
    let there = rw c.program.ensures.program at c.function-function.ensures.there in
    result_given c.args.program.now (plan_call_of c.args.call.now) c.function-function.result.now there c.invoke.new.store.given c.in_ok-invoke.ensures.given

pub value_given-requires-clause-number : goal.value_given-requires-clause-number
value_given-requires-clause-number g c =
    let k = plan_call_of c.args.call.now in
    let fn = c.function-function.result.now in
    let there = rw c.program.ensures.program at c.function-function.ensures.there in
    gives_number k.expect (plain.result_of fn.result) (call_fits c.args.program.now k fn there c.requires.fits).1

pub returns-clause-did : goal.returns-clause-did
returns-clause-did g c =
    let i = c.args.program.now in
    let k = plan_call_of c.args.call.now in
    let fn = c.function-function.result.now in
    let there = rw c.program.ensures.program at c.function-function.ensures.there in
    let xs = c.as_slice.result.now in
    let same = values_passed c.new-passed.result.items c.pass_values.new.passed.items xs k.arguments c.deref.result.now c.new-passed.ensures c.as_slice.ensures.value c.deref.ensures.value c.pass_values.ensures.values in
    did_test_call g.P.Probe.leads g.met.P.Probe.stays g.met.P.Probe.joins i k fn there (map passed_of xs) same c.args.store.now c.invoke.new.store c.value_given.new.store (given_of c.invoke.new.store.given) c.value_given.result
    c.args.probe.now c.invoke.new.probe c.in_ok-invoke.ensures.did c.value_given.ensures.ran

pub returns-clause-ready : goal.returns-clause-ready
returns-clause-ready g c =
    let k = plan_call_of c.args.call.now in
    let fn = c.function-function.result.now in
    let there = rw c.program.ensures.program at c.function-function.ensures.there in
    let xs = c.pass_values.new.passed.items in
    let passed = passed_all c.args.program c.args.shapes k.function c.as_slice.result fn there xs c.as_slice.ensures.value
    (values_typed c.new-passed.result.items xs fn.parameters.items c.deref-2.result.now c.new-passed.ensures c.deref-2.ensures.value c.pass_values.ensures.typed) in
    let n = c.invoke.new.store in
    let o = c.value_given.new.store in
    let room = g.P.Probe.bits c.args.probe.now in
    let new = g.P.Probe.bits c.invoke.new.probe in
    let r = still_ready c.args.program c.args.shapes k.function c.as_slice.result c.args.store.now n room new c.requires.ready passed c.in_ok-invoke.ensures.keeps c.in_ok-invoke.ensures.bits in
    if_any c.value_given.result
    (ready_same c.args.program.now c.args.shapes.now n o new r (value_same (plain.result_of fn.result) (given_of n.given) (state_of n) c.value_given.result o c.value_given.ensures.ran) c.value_given.ensures.limits)
