use Rattle.report_words.proofs.Naming.{named_by_word}
use Rattle.report_words.proofs.laws.words_name_states.Goals as goal

pub returns : goal.returns
returns c = named_by_word
