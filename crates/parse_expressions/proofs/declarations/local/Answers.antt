use Rattle.std.proofs.Common.{arith}
use Rattle.laws_grammar.specs.Declarations.{local_of}
use Rattle.parse_expressions.proofs.declarations.local.Goals as goal

pub returns : goal.returns
unfolding local_of
returns c = grind (arith)

pub returns-in_err-first : goal.returns-in_err-first
unfolding local_of
returns-in_err-first c = grind (arith)

pub returns-in_err-specifiers : goal.returns-in_err-specifiers
unfolding local_of
returns-in_err-specifiers c = grind (arith)

pub returns-in_err-start : goal.returns-in_err-start
unfolding local_of
returns-in_err-start c = grind (arith)

pub returns-then-sees : goal.returns-then-sees
unfolding local_of
returns-then-sees c = grind (arith)
