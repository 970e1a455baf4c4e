-- Words to write reports with, by hand.
use Rattle.std.specs.Prelude.{ℕ, List, [], ◌∷◌, ◌++◌, map, Some, None, pos, codes}
use Rattle.mc_span.specs.declared.span.Span.{Span}
use Rattle.mc_typed.specs.declared.plans.Ending.TheVariants.{Returned}
use Rattle.mc_typed.specs.declared.plans.TestState.TheVariants.{Pass}
use Rattle.mc_cond.specs.Tree.{Tree}
use Rattle.mc_meaning.specs.Seen.{Told}
use Rattle.mc_probe.specs.Maps.{Map}
use Rattle.mc_oblige.specs.Obligations.{obligations_of}
use Rattle.report_options.specs.declared.mode.Mode.{Mode}
use Rattle.mc_oblige.specs.declared.verdict.Evidence.TheVariants.{Absent, One, Pair}
use Rattle.mc_oblige.specs.declared.verdict.VerdictState.TheVariants.{Met, Justified, Stale, Missing}
use Rattle.mc_oblige.specs.declared.verdict.Verdict.{Verdict}
use Rattle.mc_report.specs.Report.{Report}

-- each text with its line end
abbrev pub lines : List (List ℕ) → List (List ℕ)
lines texts = map (λ text. text ++ 10 ∷ []) texts

abbrev pub span : ℕ → ℕ → Span
span from to = record { start = from; end = to }

-- ---- verdicts

abbrev pub met : ℕ → Verdict
met test = record { state = Met; evidence = One test; reason = None }

abbrev pub paired : ℕ → ℕ → ℕ → ℕ → Verdict
paired first first_test second second_test =
    record {
      state = Met;
      evidence = Pair first first_test second second_test;
      reason = None;
    }

abbrev pub missing : Verdict
missing = record { state = Missing; evidence = Absent; reason = None }

abbrev pub justified : List ℕ → Verdict
justified reason = record { state = Justified; evidence = Absent; reason = Some reason }

abbrev pub stale : ℕ → List ℕ → Verdict
stale test reason = record { state = Stale; evidence = One test; reason = Some reason }

-- ---- maps

-- the map of a function whose name stands at 4, with one statement, which returns the decision
abbrev pub returning : Span → Span → Tree → List Span → Map
returning statement root tree conditions = record {
  entries = span 4 5 ∷ [];
  exits = statement ∷ [];
  statements = statement ∷ [];
  labels = [];
  decisions = record {
    decision = record { root = root; function = 0; tree = tree; conditions = conditions };
    base = 3;
  } ∷ [];
  bits = 3;
}

-- ---- reports

-- a test that passed and whose one call returned this
abbrev pub returned : ℕ → Told
returned value =
    record { ending = Returned; values = Some (pos value) ∷ []; output = []; state = Pass }

abbrev pub names : List (List ℕ)
names =
    codes "t1" ∷ codes "t2" ∷ codes "t3" ∷ codes "t4" ∷ codes "t5" ∷ codes "t6" ∷ codes "t7"
    ∷ codes "t8"
    ∷ []

abbrev pub reported : List ℕ → List ℕ → Mode → Map → List (List ℕ) → List Told → List Verdict
    → Report
reported source digest mode m tests results verdicts = record {
  source = source;
  digest = digest;
  mode = mode;
  names = tests;
  states = map (λ r. r.state) results;
  results = Some results;
  decisions = m.decisions;
  obligations = obligations_of m;
  verdicts = verdicts;
}
