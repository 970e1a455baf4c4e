use Rattle.mc_cond.specs.Tree.{tree_of}
use Rattle.mc_oblige.specs.steps.Table.{AreTestsOf}
use Rattle.mc_oblige.proofs.paths.tests_in_use.Given as goal

abbrev pub invariant-loop-path : goal.invariant-loop-path
invariant-loop-path l = AreTestsOf (tree_of l.numbering) l.tests l.path l.found.items
