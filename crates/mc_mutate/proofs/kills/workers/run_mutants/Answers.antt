use Rattle.std.proofs.Common.{rules, ◌≡◌, ◌∙◌, ◌*◌, length, sym}
use Rattle.mc_typed.specs.Views.{program_of}
use Rattle.mc_mutate.specs.Mutants.{count}
use Rattle.mc_mutate.proofs.Killing.{limited_few, product_fits}
use Rattle.mc_mutate.proofs.kills.workers.run_mutants.Goals as goal

pub overflow_mul-shape : goal.overflow_mul-shape
overflow_mul-shape g c =
    let n = count (program_of c.args.program.now) in
    record {
      fits = product_fits c.count_mutants.result n (length c.args.plans.now) (c.count_mutants.ensures.known ∙ limited_few n c.requires.few.0) c.requires.few.0 c.requires.few.1;
    }

pub run_task-requires-clause-shape : goal.run_task-requires-clause-shape
run_task-requires-clause-shape g c κs within =
    let n = count (program_of c.args.program.now) in
    let is = c.count_mutants.ensures.known ∙ limited_few n c.requires.few.0 in
    (λ i. record { bits = 1; tests = is i * length c.args.plans.now }) ∙ sym c.requires.shape

pub run_task-requires-clause-can : goal.run_task-requires-clause-can
run_task-requires-clause-can g c κs within = record {
  sound = c.sound.ensures;
  fit = c.requires.fit;
  kept = let kept = c.in_ok-kept.ensures in let slice = c.deref.ensures in search rules;
  shape = c.requires.shape;
  few_mutants = c.requires.few.0;
  few_plans = c.requires.few.1;
}
