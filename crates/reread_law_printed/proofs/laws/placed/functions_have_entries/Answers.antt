use Rattle.reread_law_printed.proofs.Placed.Owned.{have_entries}
use Rattle.reread_law_printed.proofs.laws.placed.functions_have_entries.Goals as goal

pub returns : goal.returns
returns c m program = have_entries m program
