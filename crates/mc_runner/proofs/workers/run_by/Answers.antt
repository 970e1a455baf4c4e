use Rattle.std.proofs.Common.{◌≡◌, ◌∙◌, ◌+◌, List, length, map, ap, arith, sym, vec_len}
use Rattle.std.proofs.lemmas.List.{length-map}
use Rattle.mc_cover.specs.declared.view.View.{View}
use Rattle.mc_cover.specs.Views.{opener}
use Rattle.mc_meaning.specs.Seen.{Told}
use Rattle.mc_probe.specs.Tree.{Tree}
use Rattle.mc_probe.specs.Trees.{tree_of}
use Rattle.mc_typed.specs.Plans.{Plan, plan_of}
use Rattle.mc_runner.specs.Jobs.{does_of, told_all}
use Rattle.mc_runner.proofs.Gathered.{all_done, all_told, filled_also, has_all, left_over, none_gathered, one_gathered, popped}
use Rattle.mc_runner.proofs.Jobs.{none_filled, told_parts, told_within}
use Rattle.mc_runner.proofs.workers.run_by.Goals as goal

pub loop-one-init : goal.loop-one-init
loop-one-init g c =
    let tree : Tree = tree_of c.args.program.now in
    let plans : List Plan = map plan_of c.args.plans.now in
    let cover = c.args.cover.now in
    let pass = c.hire.new.pass in
    let view = c.in_ok-jobs.ensures.opener in
    let joined : pass.view.joined ≡ 0 = ap (λ (v : View). v.joined) view in
    let forks : pass.view.forks ≡ c.args.workers = ap (λ (v : View). v.forks) view in
    let count = c.in_ok-done.ensures.count in
    let jobs = c.in_ok-jobs.ensures.count in
    let some = c.requires.workers.0 in
    let told = c.in_ok-done.done.ok in
    let hired = c.in_ok-jobs.jobs.ok in
    record {
      gathered = none_gathered (does_of tree plans) cover pass c.args.workers (c.hire.ensures.own ∙ c.requires.own.0) view;
      left = omega arith;
      settled = λ e. absurd (omega (arith, e));
      done = all_done c.args.plans.now cover c.args.program.now (opener cover.shape) c.in_ok-jobs.jobs.items c.in_ok-done.done.items c.in_ok-jobs.ensures.hired (omega arith)
          (λ i j d less. c.in_ok-done.ensures.done i j d (omega arith));
      whole = c.in_ok-results.ensures;
      filled = none_filled (told_all tree plans) pass.view.claims c.in_ok-results.results.items (ap (λ (v : View). v.claims) view);
    }

pub join-requires-clause-own : goal.join-requires-clause-own
join-requires-clause-own g c =
    let tree : Tree = tree_of c.args.program.now in
    let plans : List Plan = map plan_of c.args.plans.now in
    let has = popped tree plans c.args.cover.now c.loop-one.done.items c.pop.new.self.items c.pop.result c.in-Some.one c.in_ok-one.field-0 c.loop-one.invariant.done c.pop.ensures.items c.in-Some.is c.in_ok-one.was in
    (c.loop-one.invariant.gathered.own.0, has.worked.own.0)

pub join-requires-clause-worker : goal.join-requires-clause-worker
join-requires-clause-worker g c =
    let tree : Tree = tree_of c.args.program.now in
    let plans : List Plan = map plan_of c.args.plans.now in
    let has = popped tree plans c.args.cover.now c.loop-one.done.items c.pop.new.self.items c.pop.result c.in-Some.one c.in_ok-one.field-0 c.loop-one.invariant.done c.pop.ensures.items c.in-Some.is c.in_ok-one.was in
    has.worked.worker

pub join-requires-clause-in_range : goal.join-requires-clause-in_range
join-requires-clause-in_range g c =
    let tree : Tree = tree_of c.args.program.now in
    let plans : List Plan = map plan_of c.args.plans.now in
    let has = popped tree plans c.args.cover.now c.loop-one.done.items c.pop.new.self.items c.pop.result c.in-Some.one c.in_ok-one.field-0 c.loop-one.invariant.done c.pop.ensures.items c.in-Some.is c.in_ok-one.was in
    let one = c.in_ok-one.field-0 in
    let long : length (told_all tree plans) ≡ vec_len c.loop-one.results =
    length-map plans _ ∙ length-map c.args.plans.now plan_of ∙ sym c.loop-one.invariant.whole in
    told_within (told_all tree plans) (vec_len c.loop-one.results) one.results.items long
    (told_parts (told_all tree plans) one.pass.view.claims one.results.items has.told).1

pub loop-one-preserved : goal.loop-one-preserved
loop-one-preserved g c =
    let tree : Tree = tree_of c.args.program.now in
    let plans : List Plan = map plan_of c.args.plans.now in
    let inv = c.loop-one.invariant in
    let has = popped tree plans c.args.cover.now c.loop-one.done.items c.pop.new.self.items c.pop.result c.in-Some.one c.in_ok-one.field-0 inv.done c.pop.ensures.items c.in-Some.is c.in_ok-one.was in
    let one = c.in_ok-one.field-0 in
    let view = c.join.ensures.joined in
    let joined : c.join.new.pass.view.joined ≡ c.loop-one.pass.view.joined + 1 = ap (λ (v : View). v.joined) view in
    let fewer : vec_len c.pop.new.self + 1 ≡ vec_len c.loop-one.done = c.in-Some.ensures.cases in
    let left = inv.left in
    let told : List Told = told_all tree plans in
    record {
      gathered = one_gathered (does_of tree plans) c.args.cover.now c.args.workers c.loop-one.pass one.pass c.join.new.pass inv.gathered has.worked c.join.ensures.own view;
      left = omega arith;
      settled = c.join.ensures.settled;
      done = left_over tree plans c.args.cover.now c.loop-one.done.items c.pop.new.self.items c.pop.result inv.done c.pop.ensures.items;
      whole = c.join.ensures.whole ∙ inv.whole;
      filled = filled_also told c.loop-one.pass.view one.pass.view c.join.new.pass.view c.join.new.results.items view
          (c.join.ensures.filled told c.loop-one.pass.view.claims one.pass.view.claims inv.filled has.told);
    }

pub returns-clause-pass : goal.returns-clause-pass
returns-clause-pass g c =
    let inv = c.loop-one.invariant in
    let left = inv.left in
    let none = c.in_default.ensures.cases.0 in
    has_all (does_of (tree_of c.args.program.now) (map plan_of c.args.plans.now)) c.args.cover.now c.args.workers c.loop-one.pass inv.gathered c.requires.workers.0 (omega arith) inv.settled

pub returns-clause-results : goal.returns-clause-results
returns-clause-results g c =
    let tree : Tree = tree_of c.args.program.now in
    let plans : List Plan = map plan_of c.args.plans.now in
    let inv = c.loop-one.invariant in
    let left = inv.left in
    let none = c.in_default.ensures.cases.0 in
    let planned = length-map c.args.plans.now plan_of in
    let has = has_all (does_of tree plans) c.args.cover.now c.args.workers c.loop-one.pass inv.gathered c.requires.workers.0 (omega arith) inv.settled in
    let long = c.loop-one.results.ok in
    let whole = inv.whole in
    all_told tree plans c.args.cover.now c.loop-one.pass c.loop-one.results.items has (ap (λ s. s.tests) c.requires.shape ∙ sym planned) (omega arith) inv.filled
