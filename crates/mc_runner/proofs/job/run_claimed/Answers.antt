use Rattle.std.proofs.Common.{◌≡◌, ◌∙◌, ◌<◌, Some, List, ℕ, length, map, option_map, ap, subst, sym}
use Rattle.std.specs.Prelude.{slice_get}
use Rattle.std.proofs.lemmas.Option.{slice_get-map}
use Rattle.cover_recorder.specs.Recorder.{RecorderView}
use Rattle.mc_cover.specs.declared.view.View.{View}
use Rattle.mc_meaning.specs.declared.result.TestResult.{TestResult}
use Rattle.mc_meaning.specs.Seen.{Told, told_of}
use Rattle.mc_probe.specs.Tests.{run_of}
use Rattle.mc_probe.specs.Trees.{Instrumented, tree_of}
use Rattle.mc_typed.specs.Plans.{Plan, plan_of}
use Rattle.mc_runner.specs.Jobs.{does_of, told_all}
use Rattle.mc_runner.specs.Recorded.{told_by}
use Rattle.mc_runner.proofs.Jobs.{claims_after, ends, led_by, planned_at, told_one, works_on}
use Rattle.mc_runner.proofs.job.run_claimed.Goals as goal

pub loop-test-preserved : goal.loop-test-preserved
loop-test-preserved g c =
    let own = c.args.machine.now.program in
    let tree = tree_of own in
    let plans : List Plan = map plan_of c.args.plans.now in
    let inv = c.loop-test.invariant in
    let r : RecorderView = c.loop-test.recorder in
    let later : RecorderView = c.run_test.new.recorder in
    let n : ℕ = c.in-Some.test in
    let result : TestResult = c.in_ok-result.result in
    let plan : Plan = plan_of c.index-plans-test.result in
    let tests : r.cover.shape.tests ≡ length c.args.plans.now = ap (λ x. x.shape.tests) inv.cover ∙ ap (λ s. s.tests) c.requires.shape in
    let inside : n < length c.args.plans.now = subst (λ (k : ℕ). n < k) tests c.in-Some.ensures.some.0 in
    let planned : slice_get plans n ≡ Some plan = planned_at plan_of c.args.plans.now n c.index-plans-test.result inside c.index-plans-test.is in
    let led = led_by c.loop-test.machine.program own r c.claim.new.self later n plan inv.program c.in-Some.ensures.some.1 c.run_test.ensures.led in
    let told : List Told = told_all tree plans in
    let is : told_of result ≡ told_by tree plan = c.in_ok-result.ensures.told ∙ ap (λ (i : Instrumented). told_by (tree_of i) plan) inv.program in
    let tells : slice_get told n ≡ Some (told_of result) = slice_get-map (told_by tree) plans n ∙ ap (option_map (told_by tree)) planned ∙ ap Some (sym is) in
    record {
      program = c.run_test.ensures.program ∙ inv.program;
      cover = led.cover ∙ inv.cover;
      shape = ap (λ (v : View). v.shape) led.kept ∙ inv.shape;
      at_work = works_on tree plans r later n plan inv.at_work planned led;
      told = told_one told r.view.claims later.view.claims c.loop-test.results.items c.push.new.self.items n result inv.told (claims_after r later n (run_of tree plan).events led) tells
          c.in_ok-push.ensures.items;
    }

pub returns-clause-worked : goal.returns-clause-worked
returns-clause-worked g c =
    let inv = c.loop-test.invariant in
    ends (does_of (tree_of c.args.machine.now.program) (map plan_of c.args.plans.now)) c.args.recorder.now.cover c.loop-test.recorder c.claim.new.self
    inv.at_work inv.cover inv.shape c.in_default.ensures.none
