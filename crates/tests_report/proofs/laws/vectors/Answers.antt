use Rattle.tests_report.proofs.Worked.{vectors}
use Rattle.tests_report.proofs.laws.vectors.Goals as goal

pub returns : goal.returns
returns c = vectors
