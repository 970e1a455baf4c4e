use Rattle.reread_law_texts.proofs.Alike.MovedExpressions.{moves, expressions_move, type_name_moves}
use Rattle.reread_law_texts.proofs.laws.alike.expressions_move.Goals as goal

pub returns-clause-expression : goal.returns-clause-expression
returns-clause-expression c d to m k ts rest a h p = moves to m p h

pub returns-clause-expressions : goal.returns-clause-expressions
returns-clause-expressions c d to m ts rest all h p = expressions_move to m p h

pub returns-clause-type_name : goal.returns-clause-type_name
returns-clause-type_name c d to m ts rest one h p = type_name_moves to m p h
