use Rattle.std.proofs.Common.{arith}
use Rattle.laws_cases.proofs.grammar.sections_have_an_end.Goals as goal

pub returns-clause-assignment : goal.returns-clause-assignment
returns-clause-assignment c operator a b span h = omega (arith, h.0)

pub returns-clause-list : goal.returns-clause-list
returns-clause-list c operands span h = omega (arith, h.0)
