use Rattle.std.proofs.Common.{◌≡◌, ◌∙◌, ◌%◌, true, false, length, get_or, ap, refl, sym}
use Rattle.mc_typed.specs.declared.plans.TestPlan.{TestPlan}
use Rattle.mc_mutate.specs.declared.kills.original.Original.{Original}
use Rattle.mc_mutate.proofs.Killing.{fits_machine, killed_works, no_bits, shown_works}
use Rattle.mc_mutate.proofs.kills.runs.run_item.Goals as goal

pub run-ending-requires-clause-fits : goal.run-ending-requires-clause-fits
run-ending-requires-clause-fits g c =
    fits_machine c.args.task.now c.args.item c.args.recorder.now c.requires.ready c.requires.drawn c.args.machine.now.program c.requires.mutant (c.args.item % length c.args.task.now.plans.now)
    (get_or c.args.task.now.plans.now (c.args.item % length c.args.task.now.plans.now) c.index-task-test.result) refl
    (ap (λ (x : TestPlan). get_or c.args.task.now.plans.now (c.args.item % length c.args.task.now.plans.now) x) c.index-task-test.is)

pub run-ending-requires-clause-bits : goal.run-ending-requires-clause-bits
run-ending-requires-clause-bits g c = no_bits c.requires.mutant.mutant c.args.machine.now.program c.requires.mutant.bare

pub returns-then-not-is_shown-clause-at_work : goal.returns-then-not-is_shown-clause-at_work
returns-then-not-is_shown-clause-at_work g c =
    killed_works c.args.task.now c.args.item c.args.recorder.now c.requires.ready c.requires.drawn c.args.machine.now.program c.requires.mutant (c.args.item % length c.args.task.now.plans.now)
    (get_or c.args.task.now.plans.now (c.args.item % length c.args.task.now.plans.now) c.index-task-test.result) refl
    (ap (λ (x : TestPlan). get_or c.args.task.now.plans.now (c.args.item % length c.args.task.now.plans.now) x) c.index-task-test.is) c.run-ending.new.self c.run-ending.result c.run-ending.ensures.ending c.run-ending.ensures.left (get_or c.args.task.now.originals.now (c.args.item % length c.args.task.now.plans.now) c.index-task-test-2.result)
    (ap (λ (x : Original). get_or c.args.task.now.originals.now (c.args.item % length c.args.task.now.plans.now) x) c.index-task-test-2.is)
    (λ same. let no : true ≡ false = sym (c.is_shown.ensures.1 same) ∙ c.if-not-is_shown.true in cc)
    c.hit.new.self c.hit.ensures.led

pub returns-else-not-is_shown-clause-at_work : goal.returns-else-not-is_shown-clause-at_work
returns-else-not-is_shown-clause-at_work g c =
    shown_works c.args.task.now c.args.item c.args.recorder.now c.requires.ready c.requires.drawn c.args.machine.now.program c.requires.mutant (c.args.item % length c.args.task.now.plans.now)
    (get_or c.args.task.now.plans.now (c.args.item % length c.args.task.now.plans.now) c.index-task-test.result) refl
    (ap (λ (x : TestPlan). get_or c.args.task.now.plans.now (c.args.item % length c.args.task.now.plans.now) x) c.index-task-test.is) c.run-ending.new.self c.run-ending.result c.run-ending.ensures.ending c.run-ending.ensures.left (get_or c.args.task.now.originals.now (c.args.item % length c.args.task.now.plans.now) c.index-task-test-2.result)
    (ap (λ (x : Original). get_or c.args.task.now.originals.now (c.args.item % length c.args.task.now.plans.now) x) c.index-task-test-2.is) (c.is_shown.ensures.0 c.if-not-is_shown.false)
