use Rattle.reread_law_printed.proofs.Ordered.Reading.{blocks_are_nested}
use Rattle.reread_law_printed.proofs.laws.ordered.blocks_are_nested.Goals as goal

pub returns : goal.returns
returns c = blocks_are_nested
