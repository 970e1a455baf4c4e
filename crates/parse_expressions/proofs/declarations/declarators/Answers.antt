use Rattle.std.proofs.Common.{arith}
use Rattle.laws_grammar.specs.Declarations.{init_declarator_of}
use Rattle.parse_expressions.proofs.Lists.{expressions_steps}
use Rattle.parse_expressions.proofs.declarations.declarators.Goals as goal

pub returns-in_err-one : goal.returns-in_err-one
unfolding init_declarator_of
returns-in_err-one c = grind (arith, expressions_steps)

pub returns-in_err-one-2 : goal.returns-in_err-one-2
unfolding init_declarator_of
returns-in_err-one-2 c = grind (arith, expressions_steps)

pub loop-turn-preserved : goal.loop-turn-preserved
unfolding init_declarator_of
loop-turn-preserved c = grind (arith, expressions_steps)

pub returns : goal.returns
unfolding init_declarator_of
returns c = grind (arith, expressions_steps)
