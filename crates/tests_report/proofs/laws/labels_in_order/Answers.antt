use Rattle.tests_report.proofs.Worked.{labels_in_order}
use Rattle.tests_report.proofs.laws.labels_in_order.Goals as goal

pub returns : goal.returns
returns c = labels_in_order
