use Rattle.mc_lex.proofs.Scanning.{each_has_a_scan}
use Rattle.mc_lex.proofs.laws.each_source_has_a_scan.Goals as goal

pub returns : goal.returns
returns c = each_has_a_scan
