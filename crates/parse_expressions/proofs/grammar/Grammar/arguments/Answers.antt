use Rattle.std.proofs.Common.{arith}
use Rattle.mc_grammar.specs.steps.Parsers.{accept}
use Rattle.parse_expressions.proofs.grammar.Grammar.arguments.Goals as goal

pub returns-clause-tree : goal.returns-clause-tree
unfolding accept
returns-clause-tree g c = grind (arith)
