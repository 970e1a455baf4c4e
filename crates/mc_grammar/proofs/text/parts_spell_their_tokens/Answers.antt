use Rattle.mc_grammar.specs.Spelling.{nothing}
use Rattle.mc_grammar.proofs.Storage.{local_typedef}
use Rattle.mc_grammar.proofs.Spelling.{spells, expressions_spell, type_name_spells, specifiers_spell, member_spells, enumerator_spells, declarator_spells, parameters_spell, parameter_spells, initializer_spells, start_spells, statement_spells, item_spells, declaration_spells}
use Rattle.mc_grammar.proofs.text.parts_spell_their_tokens.Goals as goal

pub returns-clause-expression : goal.returns-clause-expression
returns-clause-expression c d m e ts rest one p = spells e p nothing

pub returns-clause-expressions : goal.returns-clause-expressions
returns-clause-expressions c d ts rest one p = expressions_spell p nothing

pub returns-clause-type_name : goal.returns-clause-type_name
returns-clause-type_name c d ts rest one p = type_name_spells p nothing

pub returns-clause-specifiers : goal.returns-clause-specifiers
returns-clause-specifiers c d has ts rest one p = specifiers_spell p nothing

pub returns-clause-member : goal.returns-clause-member
returns-clause-member c d ts rest one p = member_spells p nothing

pub returns-clause-enumerator : goal.returns-clause-enumerator
returns-clause-enumerator c d ts rest one p = enumerator_spells p nothing

pub returns-clause-declarator : goal.returns-clause-declarator
returns-clause-declarator c d ts rest one p = declarator_spells p nothing

pub returns-clause-parameters : goal.returns-clause-parameters
returns-clause-parameters c d ts rest one p = parameters_spell p nothing

pub returns-clause-parameter : goal.returns-clause-parameter
returns-clause-parameter c d ts rest one p = parameter_spells p nothing

pub returns-clause-initializer : goal.returns-clause-initializer
returns-clause-initializer c d ts rest one p = initializer_spells p nothing

pub returns-clause-local : goal.returns-clause-local
returns-clause-local c d ts rest one p = declaration_spells local_typedef p nothing

pub returns-clause-for_start : goal.returns-clause-for_start
returns-clause-for_start c d ts rest one p = start_spells p nothing

pub returns-clause-statement : goal.returns-clause-statement
returns-clause-statement c d ts rest one p = statement_spells p nothing

pub returns-clause-item : goal.returns-clause-item
returns-clause-item c d ts rest one p = item_spells p nothing
