use Rattle.mc_grammar.proofs.Storage.{type_name_type, member_type, parameter_type, item_type, start_type, local_type}
use Rattle.mc_grammar.proofs.words.specifiers_have_one_type.Goals as goal

pub returns-clause-type_name : goal.returns-clause-type_name
returns-clause-type_name c d ts rest one p = type_name_type p

pub returns-clause-member : goal.returns-clause-member
returns-clause-member c d ts rest one p = member_type p

pub returns-clause-parameter : goal.returns-clause-parameter
returns-clause-parameter c d ts rest one p = parameter_type p

pub returns-clause-item : goal.returns-clause-item
returns-clause-item c d ts rest one p = item_type p

pub returns-clause-for_start : goal.returns-clause-for_start
returns-clause-for_start c d ts rest one p = start_type p

pub returns-clause-local : goal.returns-clause-local
returns-clause-local c d ts rest one others p = local_type p
