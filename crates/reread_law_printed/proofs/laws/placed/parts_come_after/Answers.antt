use Rattle.reread_law_printed.proofs.Placed.After.{come_after}
use Rattle.reread_law_printed.proofs.laws.placed.parts_come_after.Goals as goal

pub returns : goal.returns
returns c source tokens tree stands kinds separate = come_after source tokens tree stands kinds separate
