use Rattle.std.proofs.Common.{arith}
use Rattle.laws_grammar.specs.Items.{unit_of}
use Rattle.parse_expressions.proofs.Lists.{until_steps}
use Rattle.mc_parse.proofs.items.items.Goals as goal

pub loop-turn-preserved : goal.loop-turn-preserved
unfolding unit_of
loop-turn-preserved c = grind (arith, until_steps)
