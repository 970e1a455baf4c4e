use Rattle.mc_typed.proofs.CellTypes.{have_types}
use Rattle.mc_typed.proofs.laws.cells_have_types.Goals as goal

pub returns : goal.returns
returns c = have_types
