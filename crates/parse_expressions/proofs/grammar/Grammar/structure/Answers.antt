use Rattle.std.proofs.Common.{arith}
use Rattle.laws_grammar.specs.Specifiers.{structure_of}
use Rattle.parse_expressions.proofs.grammar.Grammar.structure.Goals as goal

pub returns-in_err-first-clause-specifier : goal.returns-in_err-first-clause-specifier
unfolding structure_of
returns-in_err-first-clause-specifier g c = grind (arith)

pub returns-in_err-expect_tag-clause-specifier : goal.returns-in_err-expect_tag-clause-specifier
unfolding structure_of
returns-in_err-expect_tag-clause-specifier g c = grind (arith)

pub returns-then-not-sees-clause-specifier : goal.returns-then-not-sees-clause-specifier
unfolding structure_of
returns-then-not-sees-clause-specifier g c = grind (arith)
