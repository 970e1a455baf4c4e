use Rattle.mc_lex.proofs.Scanning.{one_scan}
use Rattle.mc_lex.proofs.laws.one_scan.Goals as goal

pub returns : goal.returns
returns c = one_scan
