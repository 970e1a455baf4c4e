use Rattle.std.proofs.Common.{◌≡◌, ◌≤◌, ℤ, List, length, map, sym, ap, subst, ◌∙◌, arith}
use Rattle.mc_typed.specs.declared.objects.StaticObject as code
use Rattle.mc_typed.specs.declared.plans.Call as code_call
use Rattle.mc_typed.specs.Plans.{plan_call_of, CallsFit}
use Rattle.mc_typed.specs.Sound.{IsSound}
use Rattle.mc_typed.specs.Views as plain
use Rattle.mc_probe.specs.Erase.{erase}
use Rattle.mc_probe.specs.Trees.{Instrumented, tree_of}
use Rattle.mc_stack.specs.Rooms.{Room}
use Rattle.mc_interp.specs.declared.call_done.CallDone as code_done
use Rattle.mc_interp.specs.declared.values.Shape.{Shape}
use Rattle.mc_interp.specs.Machines.{done_of, initial_of, AreReady, Machine}
use Rattle.mc_interp.proofs.Machines.{calls_fit, room_kept, run_ends, run_leads, run_left, start_is, start_ready, statics_room}
use Rattle.mc_interp.proofs.machine.Machine.run.Goals as goal

pub start-requires-clause-room : goal.start-requires-clause-room
start-requires-clause-room g c =
    omega (
      arith,
      ap (λ (l : List code.StaticObject). length (initial_of (map plain.static_of l))) c.statics-statics.ensures.statics,
      statics_room (plain.program_of c.program.result.now) c.statics-statics.ensures.sound,
      c.self.invariant.cells,
    )

pub start-requires-clause-inputs_few : goal.start-requires-clause-inputs_few
start-requires-clause-inputs_few g c =
    omega (arith, ap (λ (l : List ℤ). length l) c.numbers.ensures, c.requires.fits.inputs_few, c.self.invariant.inputs)

pub test_calls-requires-clause-fits : goal.test_calls-requires-clause-fits
test_calls-requires-clause-fits g c =
    let I = c.self.inside.program.now in
    let calls = map plan_call_of c.args.plan.now.calls.items in
    let its : I ≡ c.args.self.now.program = ap (λ (x : Machine). x.program) c.self.view_is in
    let f = subst (λ (x : Instrumented). CallsFit calls (erase (tree_of x).program)) (sym its) c.requires.fits.calls in
    subst (λ (l : List code_call.Call). CallsFit (map plan_call_of l) (plain.program_of I.program)) (sym c.deref.ensures.value) (calls_fit I calls f)

pub test_calls-requires-clause-ready : goal.test_calls-requires-clause-ready
test_calls-requires-clause-ready g c =
    let I = c.self.inside.program.now in
    let n = c.start.new.self in
    let plan = c.args.plan.now in
    let room = g.P.Probe.bits c.args.probe.now in
    let its : I ≡ c.args.self.now.program = ap (λ (x : Machine). x.program) c.self.view_is in
    let statics = c.statics-statics.ensures.statics ∙ ap (λ (p : plain.Parts). p.statics) c.program.ensures.program in
    let is = start_is c.statics-statics.result.now I.program.statics c.numbers.result.now plan.inputs plan.fuel n statics c.numbers.ensures c.start.ensures.state in
    let sound = subst (λ (p : plain.Parts). IsSound (plain.program_of p)) c.program.ensures.program c.statics-statics.ensures.sound in
    let bits = subst (λ (x : Instrumented). x.bits ≤ room) (sym its) c.requires.bits in
    subst (λ (l : List Shape). AreReady I l n room) (sym c.deref-2.ensures.value)
    (start_ready I c.self.inside.shapes.items c.self.inside.store c.self.inside.done c.self.invariant n plan.inputs plan.fuel is c.start.ensures.limits room sound bits)

pub returns-clause-ending : goal.returns-clause-ending
returns-clause-ending g c =
    let I = c.self.inside.program.now in
    let n = c.start.new.self in
    let plan = c.args.plan.now in
    let its : I ≡ c.args.self.now.program = ap (λ (x : Machine). x.program) c.self.view_is in
    let statics = c.statics-statics.ensures.statics ∙ ap (λ (p : plain.Parts). p.statics) c.program.ensures.program in
    let is = start_is c.statics-statics.result.now I.program.statics c.numbers.result.now plan.inputs plan.fuel n statics c.numbers.ensures c.start.ensures.state in
    run_ends g.P.Probe.leads I plan n c.deref.result.now is c.deref.ensures.value c.test_calls.result (map done_of c.test_calls.new.done.items) c.test_calls.new.store
    c.args.probe.now c.test_calls.new.probe c.test_calls.ensures.ran c.args.self.now.program its

pub returns-clause-left : goal.returns-clause-left
returns-clause-left g c =
    let I = c.self.inside.program.now in
    let n = c.start.new.self in
    let plan = c.args.plan.now in
    let its : I ≡ c.args.self.now.program = ap (λ (x : Machine). x.program) c.self.view_is in
    let statics = c.statics-statics.ensures.statics ∙ ap (λ (p : plain.Parts). p.statics) c.program.ensures.program in
    let is = start_is c.statics-statics.result.now I.program.statics c.numbers.result.now plan.inputs plan.fuel n statics c.numbers.ensures c.start.ensures.state in
    run_left g.P.Probe.leads I plan n c.deref.result.now is c.deref.ensures.value c.test_calls.result (map done_of c.test_calls.new.done.items) c.test_calls.new.store
    c.args.probe.now c.test_calls.new.probe c.test_calls.ensures.ran c.args.self.now.program its

pub returns-clause-led : goal.returns-clause-led
returns-clause-led g c =
    let I = c.self.inside.program.now in
    let n = c.start.new.self in
    let plan = c.args.plan.now in
    let its : I ≡ c.args.self.now.program = ap (λ (x : Machine). x.program) c.self.view_is in
    let statics = c.statics-statics.ensures.statics ∙ ap (λ (p : plain.Parts). p.statics) c.program.ensures.program in
    let is = start_is c.statics-statics.result.now I.program.statics c.numbers.result.now plan.inputs plan.fuel n statics c.numbers.ensures c.start.ensures.state in
    run_leads g.P.Probe.leads I plan n c.deref.result.now is c.deref.ensures.value c.test_calls.result (map done_of c.test_calls.new.done.items) c.test_calls.new.store
    c.args.probe.now c.test_calls.new.probe c.test_calls.ensures.ran c.args.self.now.program its

pub invariant_of-self : goal.invariant_of-self
invariant_of-self g c =
    room_kept c.self.inside.program.now c.self.inside.shapes.items c.self.inside.store c.self.inside.done c.self.invariant c.test_calls.new.store c.test_calls.new.done
    (c.test_calls.ensures.limits ∙ c.start.ensures.limits) (c.test_calls.ensures.done_limit ∙ ap (λ (r : Room code_done.CallDone). r.limit) c.leave.ensures)
