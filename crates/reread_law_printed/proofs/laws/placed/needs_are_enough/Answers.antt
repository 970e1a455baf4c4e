use Rattle.reread_law_printed.proofs.Placed.Enough.{enough}
use Rattle.reread_law_printed.proofs.laws.placed.needs_are_enough.Goals as goal

pub returns : goal.returns
returns c source h at parts spelled front after followed inside typed = enough source h at parts spelled front after followed inside typed
