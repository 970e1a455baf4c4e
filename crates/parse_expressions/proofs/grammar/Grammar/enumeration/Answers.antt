use Rattle.std.proofs.Common.{arith}
use Rattle.laws_grammar.specs.Specifiers.{enumeration_of}
use Rattle.parse_expressions.proofs.grammar.Grammar.enumeration.Goals as goal

pub returns-clause-specifier : goal.returns-clause-specifier
unfolding enumeration_of
returns-clause-specifier g c = grind (arith)

pub returns-in_err-expect_tag-clause-specifier : goal.returns-in_err-expect_tag-clause-specifier
unfolding enumeration_of
returns-in_err-expect_tag-clause-specifier g c = grind (arith)

pub returns-in_err-first-clause-specifier : goal.returns-in_err-first-clause-specifier
unfolding enumeration_of
returns-in_err-first-clause-specifier g c = grind (arith)

pub returns-then-sees-2-clause-specifier : goal.returns-then-sees-2-clause-specifier
unfolding enumeration_of
returns-then-sees-2-clause-specifier g c = grind (arith)

pub returns-then-sees-clause-specifier : goal.returns-then-sees-clause-specifier
unfolding enumeration_of
returns-then-sees-clause-specifier g c = grind (arith)
