use Rattle.reread_law_printed.proofs.Parts.Pieced.{are_pieces}
use Rattle.reread_law_printed.proofs.laws.parts.pieces_of_parts.Goals as goal

pub returns : goal.returns
returns c source tokens tree h balanced numerals placed = are_pieces source tokens tree h balanced numerals placed
