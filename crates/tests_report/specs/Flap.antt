-- Two whole reports on a flap controller of 25 lines, written out by hand: a test of six cycles,
-- with a reason for what three positions of the lever never reach, and without one.
use Rattle.std.specs.Prelude.{◌≡◌, ℕ, List, [], ◌∷◌, ◌++◌, codes, pos, Some}
use Rattle.std.specs.List.{concat}
use Rattle.mc_typed.specs.declared.plans.Ending.TheVariants.{Returned}
use Rattle.mc_typed.specs.declared.plans.TestState.TheVariants.{Pass}
use Rattle.mc_cond.specs.Tree.{Leaf, And, Or}
use Rattle.mc_meaning.specs.Seen.{Told}
use Rattle.mc_probe.specs.Maps.{Mapped, Map}
use Rattle.report_options.specs.declared.mode.Mode.TheVariants.{Unique}
use Rattle.mc_oblige.specs.declared.verdict.Verdict.{Verdict}
use Rattle.mc_report.specs.Report.{Report}
use Rattle.mc_report.specs.Text.{report_lines}
use Rattle.tests_report.specs.Words.{justified, lines, met, missing, paired, reported, span}

abbrev pub source : List ℕ
source = concat (
    codes "# 1 \"flap.c\"\n"
    ∷ codes "typedef enum { UP, TAKEOFF, LANDING } Lever;\n"
    ∷ codes "typedef struct { int speed; _Bool ground; } Air;\n"
    ∷ codes "extern int mcdc_in(void);\n"
    ∷ codes "void mcdc_out(int angle);\n"
    ∷ codes "static int angle;\n"
    ∷ codes "static int target(Lever lever) {\n"
    ∷ codes "  switch (lever) {\n"
    ∷ codes "  case UP: return 0;\n"
    ∷ codes "  case TAKEOFF: return 15;\n"
    ∷ codes "  case LANDING: return 30;\n"
    ∷ codes "  default: return 0;\n"
    ∷ codes "  }\n"
    ∷ codes "}\n"
    ∷ codes "int cycle(int lever) {\n"
    ∷ codes "  Air air;\n"
    ∷ codes "  air.speed = mcdc_in();\n"
    ∷ codes "  air.ground = mcdc_in();\n"
    ∷ codes "  int want = target(lever);\n"
    ∷ codes "  if (want > 15 && (air.speed > 160 || air.ground)) want = 15;\n"
    ∷ codes "  if (angle < want) angle += 5;\n"
    ∷ codes "  else if (angle > want) angle -= 5;\n"
    ∷ codes "  mcdc_out(angle);\n"
    ∷ codes "  return angle;\n"
    ∷ codes "}\n"
    ∷ [])

-- that of sha256sum
abbrev pub digest : List ℕ
digest =
    210 ∷ 179 ∷ 237 ∷ 235 ∷ 9 ∷ 142 ∷ 40 ∷ 32 ∷ 165 ∷ 84 ∷ 23 ∷ 160 ∷ 140 ∷ 139 ∷ 201 ∷ 27 ∷ 111
    ∷ 66 ∷ 38 ∷ 225 ∷ 167 ∷ 173 ∷ 56 ∷ 5 ∷ 100 ∷ 74 ∷ 177 ∷ 47 ∷ 21 ∷ 164 ∷ 4 ∷ 210 ∷ []

-- `want > 15 && (air.speed > 160 || air.ground)`, `angle < want` and `angle > want`
abbrev pub decisions : List Mapped
decisions =
    record {
      decision = record {
        root = span 450 494;
        function = 1;
        tree = And (Leaf 0) (Or (Leaf 1) (Leaf 2));
        conditions = span 450 459 ∷ span 464 479 ∷ span 483 493 ∷ [];
      };
      base = 27;
    }
    ∷ record {
      decision = record {
        root = span 513 525;
        function = 1;
        tree = Leaf 0;
        conditions = span 513 525 ∷ [];
      };
      base = 31;
    }
    ∷ record {
      decision = record {
        root = span 550 562;
        function = 1;
        tree = Leaf 0;
        conditions = span 550 562 ∷ [];
      };
      base = 33;
    }
    ∷ []

abbrev pub flap : Map
flap = record {
  entries = span 188 194 ∷ span 335 340 ∷ [];
  exits = span 240 249 ∷ span 266 276 ∷ span 293 303 ∷ span 315 324 ∷ span 597 610 ∷ [];
  statements = span 212 218 ∷ span 240 249 ∷ span 266 276 ∷ span 293 303 ∷ span 315 324
      ∷ span 367 389
      ∷ span 392 415
      ∷ span 418 443
      ∷ span 446 448
      ∷ span 496 506
      ∷ span 509 511
      ∷ span 527 538
      ∷ span 546 548
      ∷ span 564 575
      ∷ span 578 594
      ∷ span 597 610
      ∷ [];
  labels = span 231 239 ∷ span 252 265 ∷ span 279 292 ∷ span 306 314 ∷ [];
  decisions = decisions;
  bits = 35;
}

-- a position of the lever that is none of the three
abbrev pub verdicts : Verdict → List Verdict
verdicts other =
    met 0 ∷ met 0
    ∷ met 0 ∷ met 0 ∷ met 0 ∷ other ∷ met 0
    ∷ met 0 ∷ met 0 ∷ met 0 ∷ met 0 ∷ other ∷ met 0 ∷ met 0 ∷ met 0 ∷ met 0 ∷ met 0 ∷ met 0 ∷ met 0
    ∷ met 0 ∷ met 0 ∷ met 0 ∷ met 0
    ∷ met 0 ∷ met 0 ∷ met 0 ∷ other
    ∷ met 0 ∷ met 0 ∷ paired 0 0 3 0 ∷ paired 0 0 2 0 ∷ paired 1 0 2 0
    ∷ met 0 ∷ met 0 ∷ paired 0 0 1 0
    ∷ met 0 ∷ met 0 ∷ paired 0 0 1 0
    ∷ []

abbrev pub flight : Told
flight = record {
  ending = Returned;
  values = Some (pos 5) ∷ Some (pos 10) ∷ Some (pos 15) ∷ Some (pos 15) ∷ Some (pos 10)
      ∷ Some (pos 5)
      ∷ [];
  output = pos 5 ∷ pos 10 ∷ pos 15 ∷ pos 15 ∷ pos 10 ∷ pos 5 ∷ [];
  state = Pass;
}

abbrev pub flown : Verdict → Report
flown other =
    reported source digest Unique flap (codes "flight" ∷ []) (flight ∷ []) (verdicts other)

-- the lines up to the counts
abbrev pub first_lines : List ℕ → List (List ℕ)
first_lines other =
    codes "mcdc report unique"
    ∷ codes "source sha256 d2b3edeb098e2820a55417a08c8bc91b6f4226e1a7ad3805644ab12f15a404d2"
    ∷ codes "test flight pass values 5 10 15 15 10 5 output 5 10 15 15 10 5"
    ∷ codes "E1 7:12 met by flight"
    ∷ codes "E2 15:5 met by flight"
    ∷ codes "X1 9:12 met by flight"
    ∷ codes "X2 10:17 met by flight"
    ∷ codes "X3 11:17 met by flight"
    ∷ (codes "X4 12:12 " ++ other)
    ∷ codes "X5 24:3 met by flight"
    ∷ codes "S1 8:3 met by flight"
    ∷ codes "S2 9:12 met by flight"
    ∷ codes "S3 10:17 met by flight"
    ∷ codes "S4 11:17 met by flight"
    ∷ (codes "S5 12:12 " ++ other)
    ∷ codes "S6 17:3 met by flight"
    ∷ codes "S7 18:3 met by flight"
    ∷ codes "S8 19:3 met by flight"
    ∷ codes "S9 20:3 met by flight"
    ∷ codes "S10 20:53 met by flight"
    ∷ codes "S11 21:3 met by flight"
    ∷ codes "S12 21:21 met by flight"
    ∷ codes "S13 22:8 met by flight"
    ∷ codes "S14 22:26 met by flight"
    ∷ codes "S15 23:3 met by flight"
    ∷ codes "S16 24:3 met by flight"
    ∷ codes "L1 9:3 met by flight"
    ∷ codes "L2 10:3 met by flight"
    ∷ codes "L3 11:3 met by flight"
    ∷ (codes "L4 12:3 " ++ other)
    ∷ codes "D1T 20:7 met by flight"
    ∷ codes "D1F 20:7 met by flight"
    ∷ codes "D1C1 20:7 met TT-=T by flight F--=F by flight"
    ∷ codes "D1C2 20:21 met TT-=T by flight TFF=F by flight"
    ∷ codes "D1C3 20:40 met TFT=T by flight TFF=F by flight"
    ∷ codes "D2T 21:7 met by flight"
    ∷ codes "D2F 21:7 met by flight"
    ∷ codes "D2C1 21:7 met T=T by flight F=F by flight"
    ∷ codes "D3T 22:12 met by flight"
    ∷ codes "D3F 22:12 met by flight"
    ∷ codes "D3C1 22:12 met T=T by flight F=F by flight"
    ∷ []

abbrev pub Reasoned : Type 0
Reasoned =
    report_lines (flown (justified (codes "three positions")))
    ≡ lines (first_lines (codes "justified \"three positions\"")
    ++ codes "entries met 2 justified 0 stale 0 missing 0 of 2"
    ∷ codes "exits met 4 justified 1 stale 0 missing 0 of 5"
    ∷ codes "statements met 15 justified 1 stale 0 missing 0 of 16"
    ∷ codes "labels met 3 justified 1 stale 0 missing 0 of 4"
    ∷ codes "outcomes met 6 justified 0 stale 0 missing 0 of 6"
    ∷ codes "conditions met 5 justified 0 stale 0 missing 0 of 5"
    ∷ codes "status 0"
    ∷ [])

abbrev pub Unreasoned : Type 0
Unreasoned =
    report_lines (flown missing)
    ≡ lines (first_lines (codes "missing")
    ++ codes "entries met 2 justified 0 stale 0 missing 0 of 2"
    ∷ codes "exits met 4 justified 0 stale 0 missing 1 of 5"
    ∷ codes "statements met 15 justified 0 stale 0 missing 1 of 16"
    ∷ codes "labels met 3 justified 0 stale 0 missing 1 of 4"
    ∷ codes "outcomes met 6 justified 0 stale 0 missing 0 of 6"
    ∷ codes "conditions met 5 justified 0 stale 0 missing 0 of 5"
    ∷ codes "status 1"
    ∷ [])
