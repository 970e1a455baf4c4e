use Rattle.std.proofs.Common.{arith}
use Rattle.laws_grammar.specs.Specifiers.{struct_member_of}
use Rattle.parse_expressions.proofs.grammar.Grammar.member_declaration.Goals as goal

pub returns-clause-member : goal.returns-clause-member
unfolding struct_member_of
returns-clause-member g c = grind (arith)

pub returns-in_err-declarators-clause-member : goal.returns-in_err-declarators-clause-member
unfolding struct_member_of
returns-in_err-declarators-clause-member g c = grind (arith)

pub returns-in_err-read-clause-member : goal.returns-in_err-read-clause-member
unfolding struct_member_of
returns-in_err-read-clause-member g c = grind (arith)

pub returns-in_err-start-clause-member : goal.returns-in_err-start-clause-member
unfolding struct_member_of
returns-in_err-start-clause-member g c = grind (arith)
