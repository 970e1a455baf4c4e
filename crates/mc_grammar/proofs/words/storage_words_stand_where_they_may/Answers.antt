use Rattle.mc_grammar.proofs.Storage.{type_name_storage, member_storage, parameter_storage, start_storage, local_no_typedef, local_no_extern, function_no_typedef, local_storage, item_storage}
use Rattle.mc_grammar.proofs.words.storage_words_stand_where_they_may.Goals as goal

pub returns-clause-type_name : goal.returns-clause-type_name
returns-clause-type_name c d ts rest one p = type_name_storage p

pub returns-clause-member : goal.returns-clause-member
returns-clause-member c d ts rest one p = member_storage p

pub returns-clause-parameter : goal.returns-clause-parameter
returns-clause-parameter c d ts rest one p = parameter_storage p

pub returns-clause-for_start : goal.returns-clause-for_start
returns-clause-for_start c d ts rest one p = start_storage p

pub returns-clause-local : goal.returns-clause-local
returns-clause-local c d ts rest one p = local_no_typedef p

pub returns-clause-outer : goal.returns-clause-outer
returns-clause-outer c d ts rest one p = local_no_extern p

pub returns-clause-function : goal.returns-clause-function
returns-clause-function c d ts rest one p = function_no_typedef p

pub returns-clause-one_of_local : goal.returns-clause-one_of_local
returns-clause-one_of_local c d ts rest one p = local_storage p

pub returns-clause-one_of_item : goal.returns-clause-one_of_item
returns-clause-one_of_item c d ts rest one p = item_storage p
