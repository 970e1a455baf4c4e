use Rattle.reread_law_rows.proofs.Fitting.Words.{are_clear}
use Rattle.reread_law_rows.proofs.Fitting.Profile.{unit_inside}
use Rattle.reread_law_rows.proofs.Fitting.FitStatements.{fit_text}
use Rattle.reread_law_rows.proofs.laws.fitting.texts_fit.Goals as goal

pub returns : goal.returns
returns c d ts unit m p h = fit_text ts unit (are_clear d ts m) p (unit_inside unit h)
