-- The forms of a report.
use Rattle.std.specs.Prelude.{ℕ, List}
use Rattle.report_options.specs.declared.form.Form.{Form}
use Rattle.report_options.specs.declared.form.Form.TheVariants.{Text, Csv, Json}
use Rattle.mc_report.specs.Report.{Report}
use Rattle.mc_report.specs.Text.{report_lines}
use Rattle.mc_report.specs.Csv.{csv_lines}
use Rattle.mc_report.specs.Json.{json_lines}

-- the lines of the report in this form; one is put after the other
unfoldable pub lines_in_form : Form → Report → List (List ℕ)
lines_in_form Text r = report_lines r
lines_in_form Csv r = csv_lines r
lines_in_form Json r = json_lines r
