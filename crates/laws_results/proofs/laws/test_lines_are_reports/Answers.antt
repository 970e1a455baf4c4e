use Rattle.laws_results.proofs.Lines.{lines_are}
use Rattle.laws_results.proofs.laws.test_lines_are_reports.Goals as goal

pub returns : goal.returns
returns c = lines_are
