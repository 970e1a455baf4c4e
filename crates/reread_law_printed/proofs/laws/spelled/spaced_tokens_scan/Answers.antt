use Rattle.reread_law_printed.proofs.Spelled.Spacing.{spaced_scan}
use Rattle.reread_law_printed.proofs.laws.spelled.spaced_tokens_scan.Goals as goal

pub returns : goal.returns
returns c = spaced_scan
