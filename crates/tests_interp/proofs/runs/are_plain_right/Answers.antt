use Rattle.mc_typed.specs.Views.{program_of}
use Rattle.mc_probe.specs.Trees.{tree_of}
use Rattle.tests_interp.proofs.Fitting.{bare_fits}
use Rattle.tests_interp.proofs.runs.are_plain_right.Goals as goal

pub is_run-right-requires : goal.is_run-right-requires
is_run-right-requires c =
    bare_fits (tree_of c.in_ok-copy.copy) (program_of c.args.program.now) c.args.plans.now c.in_ok-copy.ensures
    c.bare_trees_are_programs.ensures.program c.requires
