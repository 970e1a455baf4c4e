use Rattle.std.proofs.Common.{arith}
use Rattle.parse_expressions.proofs.Parts.{members_steps}
use Rattle.parse_expressions.proofs.grammar.Grammar.members.Goals as goal

pub returns-in_err-one-clause-members : goal.returns-in_err-one-clause-members
returns-in_err-one-clause-members g c = grind (arith, members_steps)

pub returns-then-not-sees_specifiers-clause-members : goal.returns-then-not-sees_specifiers-clause-members
returns-then-not-sees_specifiers-clause-members g c = grind (arith, members_steps)

pub loop-turn-preserved : goal.loop-turn-preserved
loop-turn-preserved g c = grind (arith, members_steps)

pub returns-clause-members : goal.returns-clause-members
returns-clause-members g c = grind (arith, members_steps)
