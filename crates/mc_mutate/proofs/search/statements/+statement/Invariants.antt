-- What the search has come to, and then what is still to come, is what it comes to in all.
use Rattle.std.proofs.Common.{◌≡◌, drop, map}
use Rattle.mc_typed.specs.Views.{statement_of, statements_from}
use Rattle.decide_rules.specs.Nodes as n
use Rattle.mc_mutate.specs.steps.Search.{inside_parts}
use Rattle.mc_mutate.proofs.search.statements.+statement.Given as goal

abbrev pub invariant-statements-loop-tree : goal.invariant-statements-loop-tree
invariant-statements-loop-tree l = inside_parts (n.statements (statements_from (map statement_of (drop l.tree-index l.trees)))) l.state ≡ inside_parts (n.statements (statements_from (map statement_of l.trees))) l.fn.sought
