use Rattle.reread_law_printed.proofs.Parts.Shaping.{shaped}
use Rattle.reread_law_printed.proofs.laws.parts.shaped_parts_are_pieces.Goals as goal

pub returns : goal.returns
returns c source parts numerals h = shaped source numerals h
