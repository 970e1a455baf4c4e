use Rattle.std.proofs.Common.{ℕ, ◌+◌, ◌<◌, sym, ap, ◌∙◌, arith, refl}
use Rattle.std.proofs.lemmas.Result.{on_ok_weaker}
use Rattle.mc_core.specs.Schedule.{core_of, worker_of, workers_of, scripts_of, after_claim, after_hit}
use Rattle.mc_core.proofs.Kept.{mine}
use Rattle.mc_core.proofs.Machine.{step_ended, step_claim, step_hit}
use Rattle.mc_core.proofs.Workers.{at_worker, same_workers, set_worker}
use Rattle.mc_core.proofs.schedule.step.Goals as goal

pub returns-then-worker : goal.returns-then-worker
returns-then-worker c =
    let ws = c.args.state.now.workers in
    let ok = ws.ok in
    let x = c.in-Some.worker.now in
    let less : c.args.number < ws.len = c.in-Some.ensures.variant.0 refl in
    let at = at_worker ws.items c.args.number ws.len x less (omega arith) c.in-Some.ensures.value in
    let same = same_workers ws.items c.args.number ws.len x less (omega arith) c.in-Some.ensures.value in
    (λ i. record { draws = c.args.state.now.draws; matrix = c.args.state.now.matrix; workers = same i }) ∙ sym (step_ended (scripts_of c.args.scripts.now) (core_of c.args.state.now) c.args.number (worker_of x) at c.if-worker.true)

pub hit-requires-clause-ready : goal.hit-requires-clause-ready
hit-requires-clause-ready c =
    let ws = c.args.state.now.workers in
    let ok = ws.ok in
    let x = c.in-Some.worker.now in
    let less : c.args.number < ws.len = c.in-Some.ensures.variant.0 refl in
    let at = at_worker ws.items c.args.number ws.len x less (omega arith) c.in-Some.ensures.value in
    mine (scripts_of c.args.scripts.now) c.args.state.now.matrix.shape.tests (workers_of c.args.state.now) c.args.number (worker_of x) at c.requires.ready

pub returns-then-worker-gt0 : goal.returns-then-worker-gt0
returns-then-worker-gt0 c =
    let ws = c.args.state.now.workers in
    let ok = ws.ok in
    let x = c.in-Some.worker.now in
    let less : c.args.number < ws.len = c.in-Some.ensures.variant.0 refl in
    let at = at_worker ws.items c.args.number ws.len x less (omega arith) c.in-Some.ensures.value in
    let hit = set_worker ws.items c.args.number c.hit.new.worker (after_hit (worker_of x)) c.hit.ensures.worker in
    (λ i. record { draws = c.args.state.now.draws; matrix = c.hit.ensures.matrix i; workers = hit i })
    ∙ sym (step_hit (scripts_of c.args.scripts.now) (core_of c.args.state.now) c.args.number (worker_of x) at c.if-worker.false c.if-worker-gt0.true)

pub returns : goal.returns
returns c =
    let ws = c.args.state.now.workers in
    let ok = ws.ok in
    let x = c.in-Some.worker.now in
    let scripts = scripts_of c.args.scripts.now in
    let drawn : ℕ = c.args.state.now.draws in
    let tests : ℕ = c.args.state.now.matrix.shape.tests in
    let less : c.args.number < ws.len = c.in-Some.ensures.variant.0 refl in
    let at = at_worker ws.items c.args.number ws.len x less (omega arith) c.in-Some.ensures.value in
    on_ok_weaker c.claim.result (λ e.
    let claimed = set_worker ws.items c.args.number c.claim.new.worker (after_claim scripts tests drawn (worker_of x)) (e ∙ ap (λ (n : ℕ). after_claim scripts n drawn (worker_of x)) c.requires.tests) in
    (λ i. record { draws = drawn + 1; matrix = c.args.state.now.matrix; workers = claimed i })
    ∙ sym (step_claim scripts (core_of c.args.state.now) c.args.number (worker_of x) at c.if-worker.false (omega arith))) c.claim.ensures
