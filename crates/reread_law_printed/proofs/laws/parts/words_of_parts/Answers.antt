use Rattle.reread_law_printed.proofs.Parts.Worded.{words_are}
use Rattle.reread_law_printed.proofs.laws.parts.words_of_parts.Goals as goal

pub returns : goal.returns
returns c tokens tree h = words_are tokens tree h
