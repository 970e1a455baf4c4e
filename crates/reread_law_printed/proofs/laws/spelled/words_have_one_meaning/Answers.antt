use Rattle.reread_law_printed.proofs.Spelled.Meanings.{one_meaning, tokens_mean}
use Rattle.reread_law_printed.proofs.laws.spelled.words_have_one_meaning.Goals as goal

pub returns-clause-one : goal.returns-clause-one
returns-clause-one c = one_meaning

pub returns-clause-each : goal.returns-clause-each
returns-clause-each c d before bytes ts stop s = tokens_mean s
