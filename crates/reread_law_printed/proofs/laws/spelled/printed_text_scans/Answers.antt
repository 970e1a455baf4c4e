use Rattle.reread_law_printed.proofs.Spelled.Printed.{printed_scan}
use Rattle.reread_law_printed.proofs.laws.spelled.printed_text_scans.Goals as goal

pub returns : goal.returns
returns c source ts tree scan short = printed_scan source ts scan tree short
