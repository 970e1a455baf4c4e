use Rattle.std.proofs.Common.{arith}
use Rattle.laws_grammar.specs.Declarations.{declared_of}
use Rattle.parse_expressions.proofs.declarations.declared.Goals as goal

pub returns : goal.returns
unfolding declared_of
returns c = grind (arith)

pub returns-in_err-all : goal.returns-in_err-all
unfolding declared_of
returns-in_err-all c = grind (arith)

pub returns-in_err-first : goal.returns-in_err-first
unfolding declared_of
returns-in_err-first c = grind (arith)

pub returns-in_err-last : goal.returns-in_err-last
unfolding declared_of
returns-in_err-last c = grind (arith)
