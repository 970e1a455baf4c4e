use Rattle.std.proofs.Common.{◌≡◌, ◌+◌, List, drop, refl, subst, sym}
use Rattle.mc_typed.specs.declared.plans.Call.{Call}
use Rattle.mc_stack.specs.Rooms.{Room}
use Rattle.mc_interp.specs.declared.call_done.CallDone.{CallDone}
use Rattle.mc_interp.proofs.Callings.{AreCalling, calling_done, calling_end, calling_start, calling_step, drop_end, drop_here}
use Rattle.mc_interp.proofs.tests.test_calls.Goals as goal

pub loop-call-init : goal.loop-call-init
loop-call-init g c = (
  subst (λ done. AreCalling g.P.Probe.bits g.P.Probe.leads c.args.program.now c.args.shapes.now c.args.calls.now c.args.calls.now done c.args.store.now c.args.store.now c.args.probe.now c.args.probe.now)
      (sym c.requires.none)
      (calling_start g.P.Probe.bits g.P.Probe.leads g.met.P.Probe.stays g.met.P.Probe.joins c.args.program.now c.args.shapes.now c.args.calls.now c.args.store.now c.args.probe.now c.requires.ready c.requires.fits),
  refl,
)

pub test_call-requires-clause-fits : goal.test_call-requires-clause-fits
test_call-requires-clause-fits g c =
    let i = subst (λ (l : List Call). AreCalling g.P.Probe.bits g.P.Probe.leads c.args.program.now c.args.shapes.now c.args.calls.now l c.loop-call.done.items c.args.store.now c.loop-call.store c.args.probe.now c.loop-call.probe)
    (drop_here c.args.calls.now c.loop-call.call-index c.call-item.result c.loop-call-test.true c.call-item.is) c.loop-call.invariant.0 in
    i.fits.0

pub test_call-requires-clause-ready : goal.test_call-requires-clause-ready
test_call-requires-clause-ready g c = c.loop-call.invariant.0.ready

pub returns-in-None-clause-ran : goal.returns-in-None-clause-ran
returns-in-None-clause-ran g c =
    let i = subst (λ (l : List Call). AreCalling g.P.Probe.bits g.P.Probe.leads c.args.program.now c.args.shapes.now c.args.calls.now l c.loop-call.done.items c.args.store.now c.loop-call.store c.args.probe.now c.loop-call.probe)
    (drop_here c.args.calls.now c.loop-call.call-index c.call-item.result c.loop-call-test.true c.call-item.is) c.loop-call.invariant.0 in
    calling_end g.P.Probe.bits g.P.Probe.leads g.met.P.Probe.stays g.met.P.Probe.joins c.args.program.now c.args.shapes.now c.args.calls.now (drop (c.loop-call.call-index + 1) c.args.calls.now) c.call-item.result
    c.loop-call.done.items c.args.store.now c.loop-call.store c.test_call.new.store c.args.probe.now c.loop-call.probe c.test_call.new.probe i c.in-None.ensures.did

pub returns-clause-ran : goal.returns-clause-ran
returns-clause-ran g c =
    let i = subst (λ (l : List Call). AreCalling g.P.Probe.bits g.P.Probe.leads c.args.program.now c.args.shapes.now c.args.calls.now l c.loop-call.done.items c.args.store.now c.loop-call.store c.args.probe.now c.loop-call.probe)
    (drop_end c.args.calls.now c.loop-call.call-index c.loop-call-test.false) c.loop-call.invariant.0 in
    calling_done g.P.Probe.bits g.P.Probe.leads g.met.P.Probe.stays g.met.P.Probe.joins c.args.program.now c.args.shapes.now c.args.calls.now c.loop-call.done.items c.args.store.now c.loop-call.store
    c.args.probe.now c.loop-call.probe i

pub loop-call-preserved : goal.loop-call-preserved
loop-call-preserved g c =
    let i = subst (λ (l : List Call). AreCalling g.P.Probe.bits g.P.Probe.leads c.args.program.now c.args.shapes.now c.args.calls.now l c.loop-call.done.items c.args.store.now c.loop-call.store c.args.probe.now c.loop-call.probe)
    (drop_here c.args.calls.now c.loop-call.call-index c.call-item.result c.loop-call-test.true c.call-item.is) c.loop-call.invariant.0 in
    let x : CallDone = record { value = c.in-Some.value; output_end = c.in_use.result } in
    let later = drop (c.loop-call.call-index + 1) c.args.calls.now in
    let h = calling_step g.P.Probe.bits g.P.Probe.leads g.met.P.Probe.stays g.met.P.Probe.joins c.args.program.now c.args.shapes.now c.args.calls.now later c.call-item.result
    c.loop-call.done.items c.args.store.now c.loop-call.store c.test_call.new.store c.args.probe.now c.loop-call.probe c.test_call.new.probe i x c.in-Some.ensures.did
    c.in_use.ensures.count c.in-Some.ensures.ready c.in-Some.ensures.bits c.in-Some.ensures.limits in
    subst (λ (r : Room CallDone). AreCalling g.P.Probe.bits g.P.Probe.leads c.args.program.now c.args.shapes.now c.args.calls.now later r.items c.args.store.now c.test_call.new.store c.args.probe.now c.test_call.new.probe
    × (r.limit ≡ c.args.done.now.limit)) (sym c.push.ensures) (h, c.loop-call.invariant.1)
