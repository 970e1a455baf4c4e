-- What is found so far, and then what is still to come, is what is found in all.
use Rattle.std.proofs.Common.{◌≡◌, drop, map}
use Rattle.mc_typed.specs.Views.{function_of}
use Rattle.decide_walk.specs.steps.Gathering.{gathered_of, in_functions}
use Rattle.mc_decide.proofs.roots.functions.Given as goal

abbrev pub invariant-loop-number : goal.invariant-loop-number
invariant-loop-number l = in_functions l.number (map function_of (drop l.number l.trees)) (gathered_of l.found) ≡ in_functions 0 (map function_of l.trees) (gathered_of l.fn.found)
