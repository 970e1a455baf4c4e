use Rattle.reread_law_printed.proofs.Placed.Fronts.{fronts_kept}
use Rattle.reread_law_printed.proofs.laws.placed.fronts_are_kept.Goals as goal

pub returns : goal.returns
returns c source tokens tree h at stands entries before = fronts_kept source tokens tree h at stands entries before
