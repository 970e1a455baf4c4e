use Rattle.std.proofs.Common.{◌≡◌, ◌++◌, drop}
use Rattle.mc_oblige.specs.steps.Tested.{tested}
use Rattle.mc_oblige.proofs.evaluated.add_paths.Given as goal

abbrev pub invariant-loop-path : goal.invariant-loop-path
invariant-loop-path l =
    l.found.items ++ tested l.d l.path (drop l.path l.tests) ≡ l.initial.found.items ++ tested l.d 0 l.tests
