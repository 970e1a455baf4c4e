use Rattle.std.proofs.Common.{arith}
use Rattle.laws_grammar.specs.Declarations.{valued_of}
use Rattle.parse_expressions.proofs.declarations.valued.Goals as goal

pub returns : goal.returns
unfolding valued_of
returns c = grind (arith)

pub returns-in_err-declare : goal.returns-in_err-declare
unfolding valued_of
returns-in_err-declare c = grind (arith)

pub returns-in_err-value : goal.returns-in_err-value
unfolding valued_of
returns-in_err-value c = grind (arith)
