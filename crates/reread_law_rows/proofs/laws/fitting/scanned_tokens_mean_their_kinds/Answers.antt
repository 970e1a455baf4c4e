use Rattle.reread_law_rows.proofs.Fitting.Words.{scanned}
use Rattle.reread_law_rows.proofs.laws.fitting.scanned_tokens_mean_their_kinds.Goals as goal

pub returns : goal.returns
returns c d source ts stop s = scanned s
