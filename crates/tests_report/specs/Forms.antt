-- Reports in their other forms, written out by hand.
use Rattle.std.specs.Prelude.{◌≡◌, ℕ, List, [], ◌∷◌, ◌++◌, map, replicate, codes, Some, None}
use Rattle.serde_json.specs.Data.{array}
use Rattle.serde_json.specs.View.{items_of}
use Rattle.serde_json.specs.Written.{compact_text}
use Rattle.report_options.specs.declared.mode.Mode.TheVariants.{Unique}
use Rattle.mc_oblige.specs.declared.obligation.Obligation.{Obligation}
use Rattle.mc_oblige.specs.declared.obligation.ObligationId.TheVariants.{Statement}
use Rattle.report_options.specs.declared.form.Form.TheVariants.{Csv, Json}
use Rattle.mc_report.specs.Csv.{csv_row, csv_rows}
use Rattle.mc_report.specs.Forms.{lines_in_form}
use Rattle.mc_report.specs.Json.{obligations_data, tests_data}
use Rattle.mc_report.specs.Report.{Report}
use Rattle.tests_report.specs.Rows.{all_met, busy, reasons}
use Rattle.tests_report.specs.Words.{justified, lines, met, span}

-- ---- whole reports

abbrev pub AllMetCsv : Type 0
AllMetCsv =
    lines_in_form Csv (all_met Unique) ≡ lines (
    codes "id,line,column,verdict,first,first_test,second,second_test,text,reason"
    ∷ codes "E1,1,5,met,,t1,,,f,"
    ∷ codes "X1,1,20,met,,t1,,,return a&&b;,"
    ∷ codes "S1,1,20,met,,t1,,,return a&&b;,"
    ∷ codes "D1T,1,27,met,,t1,,,a&&b,"
    ∷ codes "D1F,1,27,met,,t2,,,a&&b,"
    ∷ codes "D1C1,1,27,met,TT=T,t1,F-=F,t3,a,"
    ∷ codes "D1C2,1,30,met,TT=T,t1,TF=F,t2,b,"
    ∷ [])

abbrev pub AllMetJson : Type 0
AllMetJson =
    lines_in_form Json (all_met Unique) ≡ lines ((
    codes "{\"counts\":{"
    ++ codes "\"conditions\":{\"justified\":0,\"met\":2,\"missing\":0,\"stale\":0,\"total\":2},"
    ++ codes "\"entries\":{\"justified\":0,\"met\":1,\"missing\":0,\"stale\":0,\"total\":1},"
    ++ codes "\"exits\":{\"justified\":0,\"met\":1,\"missing\":0,\"stale\":0,\"total\":1},"
    ++ codes "\"labels\":{\"justified\":0,\"met\":0,\"missing\":0,\"stale\":0,\"total\":0},"
    ++ codes "\"outcomes\":{\"justified\":0,\"met\":2,\"missing\":0,\"stale\":0,\"total\":2},"
    ++ codes "\"statements\":{\"justified\":0,\"met\":1,\"missing\":0,\"stale\":0,\"total\":1}},"
    ++ codes "\"mode\":\"unique\",\"obligations\":["
    ++ codes "{\"by\":[{\"test\":\"t1\",\"vector\":null}],\"column\":5,\"id\":\"E1\",\"line\":1,"
    ++ codes "\"reason\":null,\"verdict\":\"met\"},"
    ++ codes "{\"by\":[{\"test\":\"t1\",\"vector\":null}],\"column\":20,\"id\":\"X1\",\"line\":1,"
    ++ codes "\"reason\":null,\"verdict\":\"met\"},"
    ++ codes "{\"by\":[{\"test\":\"t1\",\"vector\":null}],\"column\":20,\"id\":\"S1\",\"line\":1,"
    ++ codes "\"reason\":null,\"verdict\":\"met\"},"
    ++ codes "{\"by\":[{\"test\":\"t1\",\"vector\":null}],\"column\":27,\"id\":\"D1T\",\"line\":1,"
    ++ codes "\"reason\":null,\"verdict\":\"met\"},"
    ++ codes "{\"by\":[{\"test\":\"t2\",\"vector\":null}],\"column\":27,\"id\":\"D1F\",\"line\":1,"
    ++ codes "\"reason\":null,\"verdict\":\"met\"},"
    ++ codes "{\"by\":[{\"test\":\"t1\",\"vector\":\"TT=T\"},{\"test\":\"t3\",\"vector\":\"F-=F\"}],"
    ++ codes "\"column\":27,\"id\":\"D1C1\",\"line\":1,\"reason\":null,\"verdict\":\"met\"},"
    ++ codes "{\"by\":[{\"test\":\"t1\",\"vector\":\"TT=T\"},{\"test\":\"t2\",\"vector\":\"TF=F\"}],"
    ++ codes "\"column\":30,\"id\":\"D1C2\",\"line\":1,\"reason\":null,\"verdict\":\"met\"}],"
    ++ codes "\"source\":"
    ++ codes "\"8200d2384991a90c0fb5f6a208a7f0176cae5c6443e46177ef6bfd44c40d4caf\","
    ++ codes "\"status\":0,\"tests\":["
    ++ codes "{\"name\":\"t1\",\"output\":[],\"state\":\"pass\",\"values\":[1]},"
    ++ codes "{\"name\":\"t2\",\"output\":[],\"state\":\"pass\",\"values\":[0]},"
    ++ codes "{\"name\":\"t3\",\"output\":[],\"state\":\"pass\",\"values\":[0]}]}")
    ∷ [])

-- ---- reasons

-- a stale statement, and a justified condition
abbrev pub ReasonsCsv : Type 0
ReasonsCsv =
    csv_rows reasons reasons.obligations reasons.verdicts ≡ lines (
    codes "E1,1,5,met,,t1,,,f,"
    ∷ codes "X1,1,20,met,,t1,,,return a&&b;,"
    ∷ codes "S1,1,20,stale,,t1,,,return a&&b;,x"
    ∷ codes "D1T,1,27,met,,t1,,,a&&b,"
    ∷ codes "D1F,1,27,met,,t2,,,a&&b,"
    ∷ codes "D1C1,1,27,met,TT=T,t1,F-=F,t2,a,"
    ∷ codes "D1C2,1,30,justified,,,,,b,b is stuck"
    ∷ [])

abbrev pub ReasonsJson : Type 0
ReasonsJson =
    map compact_text (obligations_data reasons reasons.obligations reasons.verdicts)
    ≡ (codes "{\"by\":[{\"test\":\"t1\",\"vector\":null}],\"column\":5,\"id\":\"E1\",\"line\":1,"
    ++ codes "\"reason\":null,\"verdict\":\"met\"}")
    ∷ (codes "{\"by\":[{\"test\":\"t1\",\"vector\":null}],\"column\":20,\"id\":\"X1\",\"line\":1,"
    ++ codes "\"reason\":null,\"verdict\":\"met\"}")
    ∷ (codes "{\"by\":[{\"test\":\"t1\",\"vector\":null}],\"column\":20,\"id\":\"S1\",\"line\":1,"
    ++ codes "\"reason\":\"x\",\"verdict\":\"stale\"}")
    ∷ (codes "{\"by\":[{\"test\":\"t1\",\"vector\":null}],\"column\":27,\"id\":\"D1T\",\"line\":1,"
    ++ codes "\"reason\":null,\"verdict\":\"met\"}")
    ∷ (codes "{\"by\":[{\"test\":\"t2\",\"vector\":null}],\"column\":27,\"id\":\"D1F\",\"line\":1,"
    ++ codes "\"reason\":null,\"verdict\":\"met\"}")
    ∷ (codes "{\"by\":[{\"test\":\"t1\",\"vector\":\"TT=T\"},{\"test\":\"t2\",\"vector\":\"F-=F\"}],"
    ++ codes "\"column\":27,\"id\":\"D1C1\",\"line\":1,\"reason\":null,\"verdict\":\"met\"}")
    ∷ (codes "{\"by\":[],\"column\":30,\"id\":\"D1C2\",\"line\":1,"
    ++ codes "\"reason\":\"b is stuck\",\"verdict\":\"justified\"}")
    ∷ []

-- ---- fields

abbrev pub statement : ℕ → Obligation
statement end = record { id = Statement 0; span = span 0 end }

abbrev pub on : List ℕ → List (List ℕ) → Report
on source names =
    record {
      source = source;
      digest = [];
      mode = Unique;
      names = names;
      states = [];
      results = None;
      decisions = [];
      obligations = [];
      verdicts = [];
    }

-- Fields with commas, quotes and line ends stand in quotes, a quote in one as two. Bytes that are
-- not text stand as they are.
abbrev pub Fields : Type 0
Fields =
    (csv_row (on (codes "g(',',\r\n\"b\");") []) (statement 13) (justified (codes "two\nlines"))
    ≡ codes "S1,1,1,justified,,,,,\"g(',',\r\n\"\"b\"\");\",\"two\nlines\"\n")
    × (csv_row (on (codes "f(/*" ++ 255 ∷ codes "*/);") []) (statement 9) (justified (codes "r"))
    ≡ (codes "S1,1,1,justified,,,,,f(/*" ++ 255 ∷ codes "*/);,r\n"))

-- a name of 64 bytes
abbrev pub LongName : Type 0
LongName =
    csv_row (on (codes "f();") (replicate 64 97 ∷ [])) (statement 4) (met 0)
    ≡ (codes "S1,1,1,met,,"
    ++ codes "aaaaaaaaaaaaaaaaaaaaaaaaaaaaaaaaaaaaaaaaaaaaaaaaaaaaaaaaaaaaaaaa"
    ++ codes ",,,f();,\n")

-- ---- tests

-- values, void calls and output; and the same test from a record
abbrev pub TestsJson : Type 0
TestsJson =
    (compact_text (array (items_of (
    tests_data (codes "a.b_c-1" ∷ []) (busy.state ∷ []) (Some (busy ∷ [])))))
    ≡ (codes "[{\"name\":\"a.b_c-1\",\"output\":[0,-2147483648],\"state\":\"trap-index\","
    ++ codes "\"values\":[18446744073709551615,null,-9223372036854775808]}]"))
    × (compact_text (array (items_of (
    tests_data (codes "a.b_c-1" ∷ []) (busy.state ∷ []) None)))
    ≡ (codes "[{\"name\":\"a.b_c-1\",\"output\":null,\"state\":\"trap-index\","
    ++ codes "\"values\":null}]"))
