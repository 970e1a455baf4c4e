use Rattle.mc_grammar.proofs.Grouping.{prefix_suffix, prefix_cast}
use Rattle.mc_grammar.proofs.precedence.prefix_operators_take_suffixes.Goals as goal

pub returns-clause-suffix : goal.returns-clause-suffix
returns-clause-suffix c = prefix_suffix

pub returns-clause-cast : goal.returns-clause-cast
returns-clause-cast c = prefix_cast
