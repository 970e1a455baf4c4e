-- Reports of short functions, written out by hand.
use Rattle.std.specs.Prelude.{◌≡◌, ℕ, List, [], ◌∷◌, ◌++◌, map, take, replicate, codes, pos, negsuc, Some, None, true, false}
use Rattle.mc_value.specs.declared.trap.Trap.TheVariants.{Overflow, Division, Shift, Index, Unset, NoReturn, InputEnd}
use Rattle.mc_typed.specs.declared.plans.Ending.TheVariants as ending
use Rattle.mc_typed.specs.declared.plans.TestState.{TestState}
use Rattle.mc_typed.specs.declared.plans.TestState.TheVariants.{Pass, Fail, Ended}
use Rattle.mc_cond.specs.Tree.{Leaf, Not, And, Or}
use Rattle.mc_meaning.specs.Seen.{Told}
use Rattle.mc_probe.specs.Maps.{Map}
use Rattle.report_options.specs.declared.mode.Mode.{Mode}
use Rattle.report_options.specs.declared.mode.Mode.TheVariants.{Unique, Masking}
use Rattle.mc_oblige.specs.declared.obligation.ObligationId.TheVariants.{Entry, Exit, Statement, Label, Outcome, Condition}
use Rattle.mc_oblige.specs.declared.verdict.Verdict.{Verdict}
use Rattle.mc_oblige.specs.declared.verdict.VerdictState.TheVariants.{Stale}
use Rattle.mc_report.specs.Words.{id_text, state_word}
use Rattle.mc_report.specs.Report.{Report}
use Rattle.mc_report.specs.Lines.{kept_lines, run_lines, verdict_lines}
use Rattle.mc_report.specs.Status.{status_of}
use Rattle.mc_report.specs.Summary.{passed_line, summary_lines}
use Rattle.mc_report.specs.Text.{report_lines}
use Rattle.tests_report.specs.Words.{justified, lines, met, missing, names, paired, reported, returned, returning, span, stale}

-- ---- `a&&b`, whole reports

abbrev pub one_and : List ℕ
one_and = codes "int f(int a,int b){return a&&b;}"

-- that of sha256sum
abbrev pub digest : List ℕ
digest =
    130 ∷ 0 ∷ 210 ∷ 56 ∷ 73 ∷ 145 ∷ 169 ∷ 12 ∷ 15 ∷ 181 ∷ 246 ∷ 162 ∷ 8 ∷ 167 ∷ 240 ∷ 23 ∷ 108
    ∷ 174 ∷ 92 ∷ 100 ∷ 67 ∷ 228 ∷ 97 ∷ 119 ∷ 239 ∷ 107 ∷ 253 ∷ 68 ∷ 196 ∷ 13 ∷ 76 ∷ 175 ∷ []

abbrev pub one_map : Map
one_map =
    returning (span 19 31) (span 26 30) (And (Leaf 0) (Leaf 1)) (span 26 27 ∷ span 29 30 ∷ [])

abbrev pub one_report : Mode → List (List ℕ) → List Told → List Verdict → Report
one_report mode tests results verdicts =
    reported one_and digest mode one_map tests results verdicts

-- (1, 1), (1, 0), (0, 1)
abbrev pub all_met : Mode → Report
all_met mode =
    one_report mode (take 3 names) (returned 1 ∷ returned 0 ∷ returned 0 ∷ [])
    (met 0 ∷ met 0 ∷ met 0 ∷ met 0 ∷ met 1 ∷ paired 0 0 2 2 ∷ paired 0 0 1 1 ∷ [])

abbrev pub all_met_after : List (List ℕ)
all_met_after =
    codes "source sha256 8200d2384991a90c0fb5f6a208a7f0176cae5c6443e46177ef6bfd44c40d4caf"
    ∷ codes "test t1 pass values 1 output"
    ∷ codes "test t2 pass values 0 output"
    ∷ codes "test t3 pass values 0 output"
    ∷ codes "E1 1:5 met by t1"
    ∷ codes "X1 1:20 met by t1"
    ∷ codes "S1 1:20 met by t1"
    ∷ codes "D1T 1:27 met by t1"
    ∷ codes "D1F 1:27 met by t2"
    ∷ codes "D1C1 1:27 met TT=T by t1 F-=F by t3"
    ∷ codes "D1C2 1:30 met TT=T by t1 TF=F by t2"
    ∷ codes "entries met 1 justified 0 stale 0 missing 0 of 1"
    ∷ codes "exits met 1 justified 0 stale 0 missing 0 of 1"
    ∷ codes "statements met 1 justified 0 stale 0 missing 0 of 1"
    ∷ codes "labels met 0 justified 0 stale 0 missing 0 of 0"
    ∷ codes "outcomes met 2 justified 0 stale 0 missing 0 of 2"
    ∷ codes "conditions met 2 justified 0 stale 0 missing 0 of 2"
    ∷ codes "status 0"
    ∷ []

-- the two kinds of independence differ in the first line alone
abbrev pub AllMet : Type 0
AllMet =
    (report_lines (all_met Unique) ≡ lines (codes "mcdc report unique" ∷ all_met_after))
    × (report_lines (all_met Masking) ≡ lines (codes "mcdc report masking" ∷ all_met_after))

-- summed up as the report on a program of one function
abbrev pub all_met_summed : List (List ℕ)
all_met_summed =
    codes "selfload 1"
    ∷ codes "tests 3 passed 3"
    ∷ codes "entries met 1 justified 0 stale 0 missing 0 of 1"
    ∷ codes "exits met 1 justified 0 stale 0 missing 0 of 1"
    ∷ codes "statements met 1 justified 0 stale 0 missing 0 of 1"
    ∷ codes "labels met 0 justified 0 stale 0 missing 0 of 0"
    ∷ codes "outcomes met 2 justified 0 stale 0 missing 0 of 2"
    ∷ codes "conditions met 2 justified 0 stale 0 missing 0 of 2"
    ∷ codes "status 0"
    ∷ []

-- and tests of which one passed
abbrev pub SummedUp : Type 0
SummedUp =
    (summary_lines 1 (all_met Masking) ≡ lines all_met_summed)
    × (passed_line (Fail ∷ Pass ∷ Ended ending.Fuel ∷ []) ≡ codes "tests 3 passed 1\n")

-- no tests
abbrev pub none_run : Report
none_run =
    one_report Unique [] []
    (missing ∷ missing ∷ missing ∷ missing ∷ missing ∷ missing ∷ missing ∷ [])

abbrev pub NoneRun : Type 0
NoneRun =
    report_lines none_run ≡ lines (
    codes "mcdc report unique"
    ∷ codes "source sha256 8200d2384991a90c0fb5f6a208a7f0176cae5c6443e46177ef6bfd44c40d4caf"
    ∷ codes "E1 1:5 missing"
    ∷ codes "X1 1:20 missing"
    ∷ codes "S1 1:20 missing"
    ∷ codes "D1T 1:27 missing"
    ∷ codes "D1F 1:27 missing"
    ∷ codes "D1C1 1:27 missing"
    ∷ codes "D1C2 1:30 missing"
    ∷ codes "entries met 0 justified 0 stale 0 missing 1 of 1"
    ∷ codes "exits met 0 justified 0 stale 0 missing 1 of 1"
    ∷ codes "statements met 0 justified 0 stale 0 missing 1 of 1"
    ∷ codes "labels met 0 justified 0 stale 0 missing 0 of 0"
    ∷ codes "outcomes met 0 justified 0 stale 0 missing 2 of 2"
    ∷ codes "conditions met 0 justified 0 stale 0 missing 2 of 2"
    ∷ codes "status 1"
    ∷ [])

-- ---- `a&&b`, reasons and states

-- (1, 1) and (0, 0), with a reason where a condition is missing, and where a statement is met
abbrev pub reasons : Report
reasons =
    one_report Unique (take 2 names) (returned 1 ∷ returned 0 ∷ [])
    (met 0 ∷ met 0 ∷ stale 0 (codes "x") ∷ met 0 ∷ met 1 ∷ paired 0 0 2 1
    ∷ justified (codes "b is stuck")
    ∷ [])

abbrev pub Reasons : Type 0
Reasons =
    verdict_lines reasons reasons.obligations reasons.verdicts ≡ lines (
    codes "E1 1:5 met by t1"
    ∷ codes "X1 1:20 met by t1"
    ∷ codes "S1 1:20 stale by t1 \"x\""
    ∷ codes "D1T 1:27 met by t1"
    ∷ codes "D1F 1:27 met by t2"
    ∷ codes "D1C1 1:27 met TT=T by t1 F-=F by t2"
    ∷ codes "D1C2 1:30 justified \"b is stuck\""
    ∷ [])

-- a reason with characters that JSON escapes, and a condition that has a pair and a reason
abbrev pub escaped : Report
escaped =
    record reasons {
      verdicts = met 0 ∷ met 0 ∷ met 0 ∷ met 0 ∷ met 1
          ∷ record (paired 0 0 2 1) {
            state = Stale;
            reason = Some (codes "say \"a\",\n\\" ++ 1 ∷ []);
          }
          ∷ missing
          ∷ [];
    }

abbrev pub Escaped : Type 0
Escaped =
    verdict_lines escaped escaped.obligations escaped.verdicts ≡ lines (
    codes "E1 1:5 met by t1"
    ∷ codes "X1 1:20 met by t1"
    ∷ codes "S1 1:20 met by t1"
    ∷ codes "D1T 1:27 met by t1"
    ∷ codes "D1F 1:27 met by t2"
    ∷ codes "D1C1 1:27 stale TT=T by t1 F-=F by t2 \"say \\\"a\\\",\\n\\\\\\u0001\""
    ∷ codes "D1C2 1:30 missing"
    ∷ [])

-- of the two reports with one kind of reason each
abbrev pub settled : List Verdict → ℕ
settled verdicts =
    status_of (one_report Unique (take 2 names) (returned 1 ∷ returned 0 ∷ []) verdicts)

abbrev pub Settled : Type 0
Settled =
    (settled (met 0 ∷ justified (codes "b is stuck") ∷ []) ≡ 0)
    × (settled (met 0 ∷ stale 0 (codes "x") ∷ []) ≡ 1)
    × (settled (met 0 ∷ missing ∷ []) ≡ 1)

-- a test that did not pass, whichever way it ended
abbrev pub failed : TestState → ℕ
failed state =
    status_of (one_report Unique (take 2 names)
    (returned 1 ∷ record (returned 1) { state = state } ∷ []) [])

abbrev pub traps : List TestState
traps =
    map (λ trap. Ended (ending.Trap trap))
    (Overflow ∷ Division ∷ Shift ∷ Index ∷ Unset ∷ NoReturn ∷ InputEnd ∷ [])

abbrev pub limits : List TestState
limits =
    map (λ why. Ended why)
    (ending.Fuel ∷ ending.Levels ∷ ending.Cells ∷ ending.OutputFull ∷ [])

abbrev pub Failed : Type 0
Failed =
    (failed Pass ≡ 0) × (map failed (Fail ∷ traps ++ limits) ≡ replicate 12 1)

-- ---- pairs

-- `!(a&&b)||c` under (1, 1, 1), (1, 1, 0), (1, 0, 0), (0, 0, 0)
abbrev pub negated : Report
negated =
    reported (codes "int f(int a,int b,int c){return !(a&&b)||c;}") digest Unique
    (returning (span 25 43) (span 32 42) (Or (Not (And (Leaf 0) (Leaf 1))) (Leaf 2))
    (span 34 35 ∷ span 37 38 ∷ span 41 42 ∷ []))
    (take 4 names)
    (returned 1 ∷ returned 0 ∷ returned 1 ∷ returned 1 ∷ [])
    (met 0 ∷ met 0 ∷ met 0 ∷ met 0 ∷ met 1 ∷ paired 1 1 3 3 ∷ paired 1 1 2 2 ∷ paired 0 0 1 1
    ∷ [])

abbrev pub Negated : Type 0
Negated =
    verdict_lines negated negated.obligations negated.verdicts ≡ lines (
    codes "E1 1:5 met by t1"
    ∷ codes "X1 1:26 met by t1"
    ∷ codes "S1 1:26 met by t1"
    ∷ codes "D1T 1:33 met by t1"
    ∷ codes "D1F 1:33 met by t2"
    ∷ codes "D1C1 1:35 met TTF=F by t2 F--=T by t4"
    ∷ codes "D1C2 1:38 met TTF=F by t2 TF-=T by t3"
    ∷ codes "D1C3 1:42 met TTT=T by t1 TTF=F by t2"
    ∷ [])

-- `(a&&b)||(a&&c)` under the eight rows of its truth table
abbrev pub two_ands : Mode → Verdict → Report
two_ands mode third =
    reported (codes "int f(int a,int b,int c){return (a&&b)||(a&&c);}") digest mode
    (returning (span 25 47) (span 32 46) (Or (And (Leaf 0) (Leaf 1)) (And (Leaf 2) (Leaf 3)))
    (span 33 34 ∷ span 36 37 ∷ span 41 42 ∷ span 44 45 ∷ []))
    names
    (map returned (0 ∷ 0 ∷ 0 ∷ 0 ∷ 0 ∷ 1 ∷ 1 ∷ 1 ∷ []))
    (met 0 ∷ met 0 ∷ met 0 ∷ met 5 ∷ met 0 ∷ paired 0 6 6 0 ∷ paired 0 6 2 4 ∷ third
    ∷ paired 1 5 2 4
    ∷ [])

abbrev pub two_ands_lines : List ℕ → List (List ℕ)
two_ands_lines third =
    lines (
    codes "E1 1:5 met by t1"
    ∷ codes "X1 1:26 met by t1"
    ∷ codes "S1 1:26 met by t1"
    ∷ codes "D1T 1:33 met by t6"
    ∷ codes "D1F 1:33 met by t1"
    ∷ codes "D1C1 1:34 met TT--=T by t7 F-F-=F by t1"
    ∷ codes "D1C2 1:37 met TT--=T by t7 TFTF=F by t5"
    ∷ third
    ∷ codes "D1C4 1:45 met TFTT=T by t6 TFTF=F by t5"
    ∷ [])

abbrev pub unique_ands : Report
unique_ands = two_ands Unique missing

abbrev pub masking_ands : Report
masking_ands = two_ands Masking (paired 1 5 6 0)

abbrev pub TwoAnds : Type 0
TwoAnds =
    (verdict_lines unique_ands unique_ands.obligations unique_ands.verdicts
    ≡ two_ands_lines (codes "D1C3 1:42 missing"))
    × (verdict_lines masking_ands masking_ands.obligations masking_ands.verdicts
    ≡ two_ands_lines (codes "D1C3 1:42 met TFTT=T by t6 F-F-=F by t1"))

-- `(a||b)&&(c||d)` under (1, 0, 1, 0) and (0, 1, 0, 0)
abbrev pub two_ors : Mode → Verdict → Report
two_ors mode third =
    reported (codes "int f(int a,int b,int c,int d){return (a||b)&&(c||d);}") digest mode
    (returning (span 31 53) (span 38 52) (And (Or (Leaf 0) (Leaf 1)) (Or (Leaf 2) (Leaf 3)))
    (span 39 40 ∷ span 42 43 ∷ span 47 48 ∷ span 50 51 ∷ []))
    (take 2 names)
    (returned 1 ∷ returned 0 ∷ [])
    (met 0 ∷ met 0 ∷ met 0 ∷ met 0 ∷ met 1 ∷ missing ∷ missing ∷ third ∷ missing ∷ [])

abbrev pub two_ors_lines : List ℕ → List (List ℕ)
two_ors_lines third =
    lines (
    codes "E1 1:5 met by t1"
    ∷ codes "X1 1:32 met by t1"
    ∷ codes "S1 1:32 met by t1"
    ∷ codes "D1T 1:39 met by t1"
    ∷ codes "D1F 1:39 met by t2"
    ∷ codes "D1C1 1:40 missing"
    ∷ codes "D1C2 1:43 missing"
    ∷ third
    ∷ codes "D1C4 1:51 missing"
    ∷ [])

abbrev pub unique_ors : Report
unique_ors = two_ors Unique missing

abbrev pub masking_ors : Report
masking_ors = two_ors Masking (paired 0 0 5 1)

abbrev pub TwoOrs : Type 0
TwoOrs =
    (verdict_lines unique_ors unique_ors.obligations unique_ors.verdicts
    ≡ two_ors_lines (codes "D1C3 1:48 missing"))
    × (verdict_lines masking_ors masking_ors.obligations masking_ors.verdicts
    ≡ two_ors_lines (codes "D1C3 1:48 met T-T-=T by t1 FTFF=F by t2"))

-- ---- words

-- the states of tests that end in each way
abbrev pub States : Type 0
States =
    map state_word (Pass ∷ Fail ∷ traps)
    ≡ codes "pass" ∷ codes "fail" ∷ codes "trap-overflow" ∷ codes "trap-division"
    ∷ codes "trap-shift"
    ∷ codes "trap-index"
    ∷ codes "trap-unset"
    ∷ codes "trap-no-return"
    ∷ codes "trap-input-end"
    ∷ []

abbrev pub Limits : Type 0
Limits =
    map state_word limits
    ≡ codes "fuel" ∷ codes "levels" ∷ codes "cells" ∷ codes "output-full" ∷ []

-- the names of each kind of obligation
abbrev pub Ids : Type 0
Ids =
    map id_text (
    Entry 0 ∷ Exit 9 ∷ Statement 99 ∷ Label 1 ∷ Outcome 0 true ∷ Outcome 11 false ∷ Condition 2 63
    ∷ [])
    ≡ codes "E1" ∷ codes "X10" ∷ codes "S100" ∷ codes "L2" ∷ codes "D1T" ∷ codes "D12F"
    ∷ codes "D3C64"
    ∷ []

-- values, void calls and output; and the same test from a record
abbrev pub busy : Told
busy = record {
  ending = ending.Trap Index;
  values = Some (pos 18446744073709551615) ∷ None ∷ Some (negsuc 9223372036854775807) ∷ [];
  output = pos 0 ∷ negsuc 2147483647 ∷ [];
  state = Ended (ending.Trap Index);
}

abbrev pub TestLines : Type 0
TestLines =
    (run_lines (codes "a.b_c-1" ∷ []) (busy.state ∷ []) (busy ∷ [])
    ≡ lines ((codes "test a.b_c-1 trap-index values 18446744073709551615 void "
    ++ codes "-9223372036854775808 output 0 -2147483648")
    ∷ []))
    × (kept_lines (codes "a.b_c-1" ∷ []) (busy.state ∷ [])
    ≡ lines (codes "test a.b_c-1 trap-index" ∷ []))
