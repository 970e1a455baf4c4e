use Rattle.std.proofs.Common.{subst}
use Rattle.std.specs.Prelude.{IfOk, ◌≡◌}
use Rattle.mc_typed.specs.Plans.{plan_of}
use Rattle.mc_typed.specs.Views.{program_of}
use Rattle.mc_mutate.specs.Kills.{Shown}
use Rattle.mc_mutate.specs.Runs.{kept_of}
use Rattle.mc_mutate.proofs.Killing.{fits_bare, no_bits, ran_shown}
use Rattle.mc_mutate.proofs.kills.original.run.Goals as goal

pub run-ending-requires-clause-fits : goal.run-ending-requires-clause-fits
run-ending-requires-clause-fits c = fits_bare (plan_of c.args.plan.now) (program_of c.args.program.now) c.args.machine.now.program c.requires.copy c.requires.fits

pub run-ending-requires-clause-bits : goal.run-ending-requires-clause-bits
run-ending-requires-clause-bits c = no_bits (program_of c.args.program.now) c.args.machine.now.program c.requires.copy

pub returns-clause-kept : goal.returns-clause-kept
returns-clause-kept c =
    subst (λ (s : Shown). IfOk c.keep.result (λ o. kept_of o ≡ s))
    (ran_shown (program_of c.args.program.now) c.args.machine.now.program (plan_of c.args.plan.now) c.run-ending.new.self c.run-ending.result c.requires.sound c.requires.fits c.requires.copy
    c.run-ending.ensures.ending c.run-ending.ensures.left)
    c.keep.ensures
