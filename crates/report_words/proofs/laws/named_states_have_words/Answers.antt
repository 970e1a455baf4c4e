use Rattle.report_words.proofs.Naming.{named_have_words}
use Rattle.report_words.proofs.laws.named_states_have_words.Goals as goal

pub returns : goal.returns
returns c = named_have_words
