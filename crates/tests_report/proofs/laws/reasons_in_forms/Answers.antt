use Rattle.tests_report.proofs.Worked.{reasons_csv, reasons_json}
use Rattle.tests_report.proofs.laws.reasons_in_forms.Goals as goal

pub returns-clause-csv : goal.returns-clause-csv
returns-clause-csv c = reasons_csv

pub returns-clause-json : goal.returns-clause-json
returns-clause-json c = reasons_json
