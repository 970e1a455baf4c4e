use Rattle.tests_report.proofs.Worked.{in_text, in_text_of_record, in_csv, in_json}
use Rattle.tests_report.proofs.laws.not_all_met.Goals as goal

pub returns-clause-text : goal.returns-clause-text
returns-clause-text c = in_text

pub returns-clause-record_text : goal.returns-clause-record_text
returns-clause-record_text c = in_text_of_record

pub returns-clause-csv : goal.returns-clause-csv
returns-clause-csv c = in_csv

pub returns-clause-json : goal.returns-clause-json
returns-clause-json c = in_json
