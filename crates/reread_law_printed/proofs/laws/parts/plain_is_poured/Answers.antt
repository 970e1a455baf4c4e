use Rattle.reread_law_printed.proofs.Parts.Marked.{plain_told}
use Rattle.reread_law_printed.proofs.laws.parts.plain_is_poured.Goals as goal

pub returns : goal.returns
returns c source tokens tree h short e = plain_told source tokens tree h short e
