use Rattle.reread_law_texts.proofs.Alike.MovedExpressions.{stars_move, specifiers_move, members_move, member_moves, declarators_move, enumerators_move, enumerator_moves, declarator_moves, lengths_move, parameters_move, parameter_list_moves, parameter_moves}
use Rattle.reread_law_texts.proofs.laws.alike.declarators_move.Goals as goal

pub returns-clause-stars : goal.returns-clause-stars
returns-clause-stars c m before end ts rest stars h p = stars_move m p h

pub returns-clause-specifiers : goal.returns-clause-specifiers
returns-clause-specifiers c has d to m ts rest all h p = specifiers_move to m p h

pub returns-clause-members : goal.returns-clause-members
returns-clause-members c d to m ts rest all h p = members_move to m p h

pub returns-clause-member : goal.returns-clause-member
returns-clause-member c d to m ts rest one h p = member_moves to m p h

pub returns-clause-declarators : goal.returns-clause-declarators
returns-clause-declarators c d to m ts rest all h p = declarators_move to m p h

pub returns-clause-enumerators : goal.returns-clause-enumerators
returns-clause-enumerators c d to m ts rest all h p = enumerators_move to m p h

pub returns-clause-enumerator : goal.returns-clause-enumerator
returns-clause-enumerator c d to m ts rest one h p = enumerator_moves to m p h

pub returns-clause-declarator : goal.returns-clause-declarator
returns-clause-declarator c d to m ts rest one h p = declarator_moves to m p h

pub returns-clause-lengths : goal.returns-clause-lengths
returns-clause-lengths c d to m before end ts rest all h p = lengths_move to m p h

pub returns-clause-parameters : goal.returns-clause-parameters
returns-clause-parameters c d to m ts rest all h p = parameters_move to m p h

pub returns-clause-parameter_list : goal.returns-clause-parameter_list
returns-clause-parameter_list c d to m ts rest all h p = parameter_list_moves to m p h

pub returns-clause-parameter : goal.returns-clause-parameter
returns-clause-parameter c d to m ts rest one h p = parameter_moves to m p h
