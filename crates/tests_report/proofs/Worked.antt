-- The lines compute.
use Rattle.std.proofs.Common.{refl}
use Rattle.std.specs.Fmt.{digits}
use Rattle.csv.specs.Writing.{escaped, fields_text, is_blank}
use Rattle.serde_json.proofs.OnLiterals.{serde_json_on_literals}
use Rattle.mc_report.specs.Forms.{lines_in_form}
use Rattle.mc_report.specs.Json.{json_data}
use Rattle.tests_report.specs.Bodies.{AreRight}
use Rattle.tests_report.specs.Exits.{exits_asked, loops, plain, switches}
use Rattle.tests_report.specs.Forms.{AllMetCsv, AllMetJson, Fields, LongName, ReasonsCsv, ReasonsJson, TestsJson}
use Rattle.tests_report.specs.Flap.{Reasoned, Unreasoned}
use Rattle.tests_report.specs.Places.{TwoFunctions, counted_bodies, labelled_bodies, labels_asked, statements_asked}
use Rattle.tests_report.specs.Whole.{InCsv, InJson, InText, InTextOfRecord, Vectors}
use Rattle.tests_report.specs.Rows.{AllMet, Escaped, Failed, Ids, Limits, Negated, NoneRun, Reasons, Settled, States, SummedUp, TestLines, TwoAnds, TwoOrs}

pub all_met : AllMet
unfolding digits
all_met = (refl, refl)

pub summed_up : SummedUp
unfolding digits
summed_up = (refl, refl)

pub none_run : NoneRun
unfolding digits
none_run = refl

pub reasons : Reasons
unfolding digits serde_json_on_literals
reasons = refl

pub escaped_reason : Escaped
unfolding digits serde_json_on_literals
escaped_reason = refl

pub settled : Settled
settled = (refl, refl, refl)

pub failed : Failed
failed = (refl, refl)

pub negated : Negated
unfolding digits
negated = refl

pub two_ands : TwoAnds
unfolding digits
two_ands = (refl, refl)

pub two_ors : TwoOrs
unfolding digits
two_ors = (refl, refl)

pub states : States
states = refl

pub limits : Limits
limits = refl

pub ids : Ids
unfolding digits
ids = refl

pub test_lines : TestLines
unfolding digits
test_lines = (refl, refl)

pub plain_bodies : AreRight exits_asked plain
unfolding digits
plain_bodies = (refl, (refl, (refl, (refl, (refl, (refl, (refl, (refl, (refl, (refl, tt))))))))))

pub loop_bodies : AreRight exits_asked loops
unfolding digits
loop_bodies = (refl, (refl, (refl, (refl, (refl, (refl, (refl, (refl, (refl, (refl, (refl, (refl, (refl, (refl, (refl, tt)))))))))))))))

pub switch_bodies : AreRight exits_asked switches
unfolding digits
switch_bodies = (refl, (refl, (refl, (refl, (refl, (refl, (refl, (refl, tt))))))))

pub labels_in_order : AreRight labels_asked labelled_bodies
unfolding digits
labels_in_order = (refl, (refl, (refl, (refl, (refl, (refl, (refl, (refl, tt))))))))

pub statements_that_count : AreRight statements_asked counted_bodies
unfolding digits
statements_that_count = (refl, (refl, (refl, (refl, (refl, tt)))))

pub two_functions : TwoFunctions
unfolding digits
two_functions = refl

pub reasoned : Reasoned
unfolding digits serde_json_on_literals
reasoned = refl

pub unreasoned : Unreasoned
unfolding digits
unreasoned = refl

pub all_met_csv : AllMetCsv
unfolding digits escaped fields_text is_blank lines_in_form
all_met_csv = refl

pub all_met_json : AllMetJson
unfolding digits serde_json_on_literals lines_in_form json_data
all_met_json = refl

pub reasons_csv : ReasonsCsv
unfolding digits escaped fields_text is_blank
reasons_csv = refl

pub reasons_json : ReasonsJson
unfolding digits serde_json_on_literals
reasons_json = refl

pub fields : Fields
unfolding digits escaped fields_text is_blank
fields = (refl, refl)

pub long_name : LongName
unfolding digits escaped fields_text is_blank
long_name = refl

pub tests_json : TestsJson
unfolding digits serde_json_on_literals
tests_json = (refl, refl)

pub in_text : InText
unfolding digits serde_json_on_literals lines_in_form
in_text = refl

pub in_text_of_record : InTextOfRecord
unfolding digits serde_json_on_literals lines_in_form
in_text_of_record = refl

pub in_csv : InCsv
unfolding digits escaped fields_text is_blank lines_in_form
in_csv = refl

pub in_json : InJson
unfolding digits serde_json_on_literals lines_in_form json_data
in_json = refl

pub vectors : Vectors
unfolding digits
vectors = refl
