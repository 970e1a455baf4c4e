use Rattle.laws_station.proofs.Whole.{reasons_after_matrix, too_large_before_reasons}
use Rattle.laws_station.proofs.laws.justifications_after_matrix.Goals as goal

pub returns-clause-fits : goal.returns-clause-fits
returns-clause-fits c = reasons_after_matrix

pub returns-clause-too_large : goal.returns-clause-too_large
returns-clause-too_large c = too_large_before_reasons
