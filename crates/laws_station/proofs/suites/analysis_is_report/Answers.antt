use Rattle.laws_station.proofs.Analysed.{analysis_is_report}
use Rattle.laws_station.proofs.suites.analysis_is_report.Goals as goal

pub returns : goal.returns
returns c = analysis_is_report c.tree_is_no_longer_than_text.ensures
