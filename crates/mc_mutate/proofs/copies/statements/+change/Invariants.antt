-- What is made, with what is still to come, is the whole, and so is where the search comes to.
use Rattle.std.proofs.Common.{◌≡◌, ◌++◌, drop, map}
use Rattle.mc_typed.specs.Views.{statement_of, statements_from}
use Rattle.mc_probe.specs.Views as probed
use Rattle.decide_rules.specs.Nodes as n
use Rattle.mc_mutate.specs.steps.Search.{inside_parts}
use Rattle.mc_mutate.proofs.Lists.{all_statements}
use Rattle.mc_mutate.proofs.copies.statements.+change.Given as goal

abbrev pub invariant-statements-loop-tree : goal.invariant-statements-loop-tree
invariant-statements-loop-tree l = record {
  tree : map probed.statement_of l.copies.items ++ all_statements (map statement_of (drop l.tree-index l.trees)) l.sought ≡ all_statements (map statement_of l.trees) l.fn.sought;
  sought : inside_parts (n.statements (statements_from (map statement_of (drop l.tree-index l.trees)))) l.sought ≡ inside_parts (n.statements (statements_from (map statement_of l.trees))) l.fn.sought;
}
