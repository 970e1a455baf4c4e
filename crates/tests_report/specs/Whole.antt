-- Whole reports where not all is met, on a source of two lines: the text, with results and without,
-- both other forms, and the lines of vectors. All were written out by hand.
use Rattle.std.specs.Prelude.{◌≡◌, ℕ, List, [], ◌∷◌, ◌++◌, take, codes, pos, None}
use Rattle.mc_value.specs.declared.trap.Trap.TheVariants.{Overflow}
use Rattle.mc_typed.specs.declared.plans.Ending.TheVariants as ending
use Rattle.mc_typed.specs.declared.plans.TestState.TheVariants.{Ended}
use Rattle.mc_cond.specs.Tree.{Leaf, And}
use Rattle.mc_meaning.specs.Seen.{Told}
use Rattle.mc_probe.specs.Maps.{Map, Mapped}
use Rattle.mc_oblige.specs.declared.evaluated.EvaluatedPath.{EvaluatedPath}
use Rattle.report_options.specs.declared.mode.Mode.TheVariants.{Masking}
use Rattle.report_options.specs.declared.form.Form.TheVariants.{Text, Csv, Json}
use Rattle.mc_report.specs.Forms.{lines_in_form}
use Rattle.mc_report.specs.Report.{Report}
use Rattle.mc_report.specs.VectorsText.{vectors_lines}
use Rattle.tests_report.specs.Rows.{digest}
use Rattle.tests_report.specs.Words.{justified, lines, met, missing, names, reported, returned, returning, span, stale}

-- ---- the report

-- int f(int a,int b){return a&&
-- b;}
abbrev pub source : List ℕ
source = codes "int f(int a,int b){return a&&\nb;}"

abbrev pub map : Map
map = returning (span 19 32) (span 26 31) (And (Leaf 0) (Leaf 1)) (span 26 27 ∷ span 30 31 ∷ [])

-- a test that put 7 out, and then trapped
abbrev pub trapped : Told
trapped = record {
  ending = ending.Trap Overflow;
  values = [];
  output = pos 7 ∷ [];
  state = Ended (ending.Trap Overflow);
}

-- of each verdict at least one
abbrev pub report : Report
report =
    reported source digest Masking map (take 2 names) (returned 1 ∷ trapped ∷ [])
    (met 0 ∷ met 0 ∷ stale 0 (codes "x") ∷ met 0 ∷ missing ∷ missing ∷ justified (codes "why") ∷ [])

-- ---- as text

abbrev pub after_tests : List (List ℕ)
after_tests =
    codes "E1 1:5 met by t1"
    ∷ codes "X1 1:20 met by t1"
    ∷ codes "S1 1:20 stale by t1 \"x\""
    ∷ codes "D1T 1:27 met by t1"
    ∷ codes "D1F 1:27 missing"
    ∷ codes "D1C1 1:27 missing"
    ∷ codes "D1C2 2:1 justified \"why\""
    ∷ codes "entries met 1 justified 0 stale 0 missing 0 of 1"
    ∷ codes "exits met 1 justified 0 stale 0 missing 0 of 1"
    ∷ codes "statements met 0 justified 0 stale 1 missing 0 of 1"
    ∷ codes "labels met 0 justified 0 stale 0 missing 0 of 0"
    ∷ codes "outcomes met 1 justified 0 stale 0 missing 1 of 2"
    ∷ codes "conditions met 0 justified 1 stale 0 missing 1 of 2"
    ∷ codes "status 1"
    ∷ []

abbrev pub before_tests : List (List ℕ)
before_tests =
    codes "mcdc report masking"
    ∷ codes "source sha256 8200d2384991a90c0fb5f6a208a7f0176cae5c6443e46177ef6bfd44c40d4caf"
    ∷ []

abbrev pub InText : Type 0
InText =
    lines_in_form Text report ≡ lines (before_tests
    ++ codes "test t1 pass values 1 output"
    ∷ codes "test t2 trap-overflow values output 7"
    ∷ after_tests)

-- of a record no results are kept
abbrev pub InTextOfRecord : Type 0
InTextOfRecord =
    lines_in_form Text (record report { results = None }) ≡ lines (before_tests
    ++ codes "test t1 pass"
    ∷ codes "test t2 trap-overflow"
    ∷ after_tests)

-- ---- in the other forms

abbrev pub InCsv : Type 0
InCsv =
    lines_in_form Csv report ≡ lines (
    codes "id,line,column,verdict,first,first_test,second,second_test,text,reason"
    ∷ codes "E1,1,5,met,,t1,,,f,"
    ∷ codes "X1,1,20,met,,t1,,,\"return a&&\nb;\","
    ∷ codes "S1,1,20,stale,,t1,,,\"return a&&\nb;\",x"
    ∷ codes "D1T,1,27,met,,t1,,,\"a&&\nb\","
    ∷ codes "D1F,1,27,missing,,,,,\"a&&\nb\","
    ∷ codes "D1C1,1,27,missing,,,,,a,"
    ∷ codes "D1C2,2,1,justified,,,,,b,why"
    ∷ [])

abbrev pub InJson : Type 0
InJson =
    lines_in_form Json report ≡ lines ((
    codes "{\"counts\":{"
    ++ codes "\"conditions\":{\"justified\":1,\"met\":0,\"missing\":1,\"stale\":0,\"total\":2},"
    ++ codes "\"entries\":{\"justified\":0,\"met\":1,\"missing\":0,\"stale\":0,\"total\":1},"
    ++ codes "\"exits\":{\"justified\":0,\"met\":1,\"missing\":0,\"stale\":0,\"total\":1},"
    ++ codes "\"labels\":{\"justified\":0,\"met\":0,\"missing\":0,\"stale\":0,\"total\":0},"
    ++ codes "\"outcomes\":{\"justified\":0,\"met\":1,\"missing\":1,\"stale\":0,\"total\":2},"
    ++ codes "\"statements\":{\"justified\":0,\"met\":0,\"missing\":0,\"stale\":1,\"total\":1}},"
    ++ codes "\"mode\":\"masking\",\"obligations\":["
    ++ codes "{\"by\":[{\"test\":\"t1\",\"vector\":null}],\"column\":5,\"id\":\"E1\",\"line\":1,"
    ++ codes "\"reason\":null,\"verdict\":\"met\"},"
    ++ codes "{\"by\":[{\"test\":\"t1\",\"vector\":null}],\"column\":20,\"id\":\"X1\",\"line\":1,"
    ++ codes "\"reason\":null,\"verdict\":\"met\"},"
    ++ codes "{\"by\":[{\"test\":\"t1\",\"vector\":null}],\"column\":20,\"id\":\"S1\",\"line\":1,"
    ++ codes "\"reason\":\"x\",\"verdict\":\"stale\"},"
    ++ codes "{\"by\":[{\"test\":\"t1\",\"vector\":null}],\"column\":27,\"id\":\"D1T\",\"line\":1,"
    ++ codes "\"reason\":null,\"verdict\":\"met\"},"
    ++ codes "{\"by\":[],\"column\":27,\"id\":\"D1F\",\"line\":1,"
    ++ codes "\"reason\":null,\"verdict\":\"missing\"},"
    ++ codes "{\"by\":[],\"column\":27,\"id\":\"D1C1\",\"line\":1,"
    ++ codes "\"reason\":null,\"verdict\":\"missing\"},"
    ++ codes "{\"by\":[],\"column\":1,\"id\":\"D1C2\",\"line\":2,"
    ++ codes "\"reason\":\"why\",\"verdict\":\"justified\"}],"
    ++ codes "\"source\":"
    ++ codes "\"8200d2384991a90c0fb5f6a208a7f0176cae5c6443e46177ef6bfd44c40d4caf\","
    ++ codes "\"status\":1,\"tests\":["
    ++ codes "{\"name\":\"t1\",\"output\":[],\"state\":\"pass\",\"values\":[1]},"
    ++ codes "{\"name\":\"t2\",\"output\":[7],\"state\":\"trap-overflow\",\"values\":[]}]}")
    ∷ [])

-- ---- vectors: of two decisions, `a&&b` and `c`

abbrev pub second : Mapped
second = record {
  decision = record {
    root = span 40 41;
    function = 0;
    tree = Leaf 0;
    conditions = span 40 41 ∷ [];
  };
  base = 6;
}

abbrev pub path : ℕ → ℕ → ℕ → EvaluatedPath
path decision number test = record { decision = decision; path = number; test = test }

abbrev pub Vectors : Type 0
Vectors =
    vectors_lines (take 2 names) report.states (returned 1 ∷ trapped ∷ [])
    (map.decisions ++ second ∷ []) (path 0 0 1 ∷ path 0 2 0 ∷ path 1 0 0 ∷ path 1 1 1 ∷ [])
    ≡ lines (
    codes "test t1 pass values 1 output"
    ∷ codes "test t2 trap-overflow values output 7"
    ∷ codes "D1 TT=T by t2"
    ∷ codes "D1 F-=F by t1"
    ∷ codes "D2 T=T by t1"
    ∷ codes "D2 F=F by t2"
    ∷ [])
