use Rattle.laws_soundness.proofs.Fitting.{file_scope_fits}
use Rattle.laws_soundness.proofs.laws.file_scope_fits.Goals as goal

pub returns : goal.returns
returns c = file_scope_fits
