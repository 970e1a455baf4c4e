use Rattle.tests_report.proofs.Worked.{all_met_csv, all_met_json}
use Rattle.tests_report.proofs.laws.all_met_in_forms.Goals as goal

pub returns-clause-csv : goal.returns-clause-csv
returns-clause-csv c = all_met_csv

pub returns-clause-json : goal.returns-clause-json
returns-clause-json c = all_met_json
