use Rattle.std.proofs.Common.{◌≡◌, ◌∙◌, ◌+◌, ap, arith, vec_len}
use Rattle.mc_cover.specs.declared.view.View.{View}
use Rattle.mc_mutate.specs.Runs.{worker_does}
use Rattle.mc_mutate.proofs.Joined.{all_done, has_all, left_over, none_gathered, one_gathered, popped}
use Rattle.mc_mutate.proofs.kills.workers.run_task.Goals as goal

pub loop-one-init : goal.loop-one-init
loop-one-init g c =
    let does = worker_does c.args.task.now in
    let cover = c.args.cover.now in
    let pass = c.hire.new.pass in
    let view = c.in_ok-jobs.ensures.opener in
    let joined : pass.view.joined ≡ 0 = ap (λ (v : View). v.joined) view in
    let forks : pass.view.forks ≡ c.args.workers = ap (λ (v : View). v.forks) view in
    let count = c.in_ok-done.ensures.count in
    let hired = c.in_ok-jobs.ensures.count in
    let some = c.requires.workers.0 in
    let told = c.in_ok-done.done.ok in
    let many = c.in_ok-jobs.jobs.ok in
    record {
      gathered = none_gathered does cover pass c.args.workers (c.hire.ensures.own ∙ c.requires.own.0) view;
      left = omega arith;
      settled = λ e. absurd (omega (arith, e));
      done = all_done cover c.args.task.now c.in_ok-jobs.jobs.items c.in_ok-done.done.items c.in_ok-jobs.ensures.hired (omega arith)
          (λ i r d less. c.in_ok-done.ensures.done i r d (omega arith));
    }

pub join-requires-clause-own : goal.join-requires-clause-own
join-requires-clause-own g c =
    let does = worker_does c.args.task.now in
    let has = popped does c.args.cover.now c.loop-one.done.items c.pop.new.self.items c.pop.result c.in-Some.one c.in_ok-one.field-0 c.loop-one.invariant.done c.pop.ensures.items c.in-Some.is c.in_ok-one.was in
    (c.loop-one.invariant.gathered.own.0, has.own.0)

pub join-requires-clause-worker : goal.join-requires-clause-worker
join-requires-clause-worker g c =
    let does = worker_does c.args.task.now in
    let has = popped does c.args.cover.now c.loop-one.done.items c.pop.new.self.items c.pop.result c.in-Some.one c.in_ok-one.field-0 c.loop-one.invariant.done c.pop.ensures.items c.in-Some.is c.in_ok-one.was in
    has.worker

pub loop-one-preserved : goal.loop-one-preserved
loop-one-preserved g c =
    let does = worker_does c.args.task.now in
    let inv = c.loop-one.invariant in
    let has = popped does c.args.cover.now c.loop-one.done.items c.pop.new.self.items c.pop.result c.in-Some.one c.in_ok-one.field-0 inv.done c.pop.ensures.items c.in-Some.is c.in_ok-one.was in
    let one = c.in_ok-one.field-0 in
    let view = c.join.ensures.joined in
    let joined : c.join.new.pass.view.joined ≡ c.loop-one.pass.view.joined + 1 = ap (λ (v : View). v.joined) view in
    let fewer : vec_len c.pop.new.self + 1 ≡ vec_len c.loop-one.done = c.in-Some.ensures.cases in
    let left = inv.left in
    record {
      gathered = one_gathered does c.args.cover.now c.args.workers c.loop-one.pass one c.join.new.pass inv.gathered has c.join.ensures.own view;
      left = omega arith;
      settled = c.join.ensures.settled;
      done = left_over does c.args.cover.now c.loop-one.done.items c.pop.new.self.items c.pop.result inv.done c.pop.ensures.items;
    }

pub returns : goal.returns
returns g c =
    let does = worker_does c.args.task.now in
    let inv = c.loop-one.invariant in
    let left = inv.left in
    let none = c.in_default.ensures.cases.0 in
    has_all does c.args.cover.now c.args.workers c.loop-one.pass inv.gathered c.requires.workers.0 (omega arith) inv.settled
