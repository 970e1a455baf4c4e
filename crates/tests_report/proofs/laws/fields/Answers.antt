use Rattle.tests_report.proofs.Worked.{fields, long_name}
use Rattle.tests_report.proofs.laws.fields.Goals as goal

pub returns-clause-fields : goal.returns-clause-fields
returns-clause-fields c = fields

pub returns-clause-name : goal.returns-clause-name
returns-clause-name c = long_name
