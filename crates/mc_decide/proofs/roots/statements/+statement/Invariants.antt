-- What is found so far, and then what is still to come, is what is found in all.
use Rattle.std.proofs.Common.{◌≡◌, drop, map}
use Rattle.mc_typed.specs.Views.{statement_of, statements_from}
use Rattle.decide_rules.specs.Nodes as n
use Rattle.decide_walk.specs.steps.Gathering.{gathered_of, inside_parts}
use Rattle.mc_decide.proofs.roots.statements.+statement.Given as goal

abbrev pub invariant-statements-loop-tree : goal.invariant-statements-loop-tree
invariant-statements-loop-tree l = inside_parts (n.statements (statements_from (map statement_of (drop l.tree-index l.trees)))) (gathered_of l.found) ≡ inside_parts (n.statements (statements_from (map statement_of l.trees))) (gathered_of l.fn.found)
