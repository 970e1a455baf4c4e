use Rattle.mc_grammar.proofs.Extent.{stands, type_name_stands, member_stands, declarator_stands, parameters_stand, parameter_stands, declaration_stands, statement_stands, compound_stands, item_stands}
use Rattle.mc_grammar.proofs.text.places_run_from_first_token_to_last.Goals as goal

pub returns-clause-expression : goal.returns-clause-expression
returns-clause-expression c d m e ts rest one p = stands e p

pub returns-clause-type_name : goal.returns-clause-type_name
returns-clause-type_name c d ts rest one p = type_name_stands p

pub returns-clause-member : goal.returns-clause-member
returns-clause-member c d ts rest one p = member_stands p

pub returns-clause-declarator : goal.returns-clause-declarator
returns-clause-declarator c d ts rest one p = declarator_stands p

pub returns-clause-parameters : goal.returns-clause-parameters
returns-clause-parameters c d ts rest one p = parameters_stand p

pub returns-clause-parameter : goal.returns-clause-parameter
returns-clause-parameter c d ts rest one p = parameter_stands p

pub returns-clause-declaration : goal.returns-clause-declaration
returns-clause-declaration c d typedef allowed ts rest one p = declaration_stands p

pub returns-clause-statement : goal.returns-clause-statement
returns-clause-statement c d ts rest one p = statement_stands p

pub returns-clause-compound : goal.returns-clause-compound
returns-clause-compound c d span ts rest one p = compound_stands p

pub returns-clause-item : goal.returns-clause-item
returns-clause-item c d ts rest one p = item_stands p
