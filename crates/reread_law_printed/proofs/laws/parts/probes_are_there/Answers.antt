use Rattle.reread_law_printed.proofs.Parts.Marked.{probes_told}
use Rattle.reread_law_printed.proofs.laws.parts.probes_are_there.Goals as goal

pub returns : goal.returns
returns c source tokens tree h short e = probes_told source tokens tree h short e
