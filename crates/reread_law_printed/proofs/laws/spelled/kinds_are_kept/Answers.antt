use Rattle.reread_law_printed.proofs.Spelled.Inserted.{insertion_means}
use Rattle.reread_law_printed.proofs.Spelled.Printed.{kinds_kept}
use Rattle.reread_law_printed.proofs.laws.spelled.kinds_are_kept.Goals as goal

pub returns-clause-mean : goal.returns-clause-mean
returns-clause-mean c = insertion_means

pub returns-clause-kinds : goal.returns-clause-kinds
returns-clause-kinds c = kinds_kept
