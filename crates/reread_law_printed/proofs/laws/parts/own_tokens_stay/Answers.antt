use Rattle.reread_law_printed.proofs.Parts.Told.{own_told}
use Rattle.reread_law_printed.proofs.laws.parts.own_tokens_stay.Goals as goal

pub returns : goal.returns
returns c tokens tree h = own_told tokens tree h
