use Rattle.tests_report.proofs.Worked.{tests_json}
use Rattle.tests_report.proofs.laws.tests_as_json.Goals as goal

pub returns : goal.returns
returns c = tests_json
