use Rattle.reread_law_places.proofs.Natural.Units.{expressions_move}
use Rattle.reread_law_places.proofs.laws.natural.expressions_move.Goals as goal

pub returns : goal.returns
returns c = expressions_move
