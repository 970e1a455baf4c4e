-- What follows from the definitions of a report.
use Rattle.std.specs.Prelude.{◌≡◌, ℕ, ◌<◌, false, List, All, IsUtf8}
use Rattle.serde_json.specs.Written.{has_float}
use Rattle.mc_cond.specs.Tree.{Tree, IsNumbered}
use Rattle.mc_paths.specs.Paths.{IsPath, IsInUse}
use Rattle.mc_core.specs.Matrix.{MatrixView}
use Rattle.mc_probe.specs.Maps.{Map}
use Rattle.report_options.specs.declared.mode.Mode.{Mode}
use Rattle.mc_oblige.specs.declared.justification.Justification.{Justification}
use Rattle.mc_oblige.specs.declared.verdict.Verdict.{Verdict}
use Rattle.mc_oblige.specs.declared.evaluated.EvaluatedPath.{EvaluatedPath}
use Rattle.mc_oblige.specs.Obligations.{obligations_of}
use Rattle.mc_oblige.specs.Shown.{HasEvent}
use Rattle.mc_oblige.specs.Verdicts.{AreVerdicts}
use Rattle.mc_oblige.specs.Evaluated.{AreEvaluated}
use Rattle.evidence_texts.specs.Vectors.{vector_at}
use Rattle.mc_report.specs.Json.{json_data}
use Rattle.mc_report.specs.Report.{AreJudged, Report}
use Rattle.mc_report.specs.VectorsText.{IsPresent}

-- the vector that is written for a path is the one with its number
abbrev pub VectorIsOfPath : Type 0
VectorIsOfPath =
    (t : Tree) (path : ℕ) → IsNumbered t → IsInUse t path → IsPath t path (vector_at t path)

-- the verdicts on a map's obligations by a matrix can be reported with the tests of the matrix,
-- where each reason is text
abbrev pub VerdictsAreReported : Type 0
VerdictsAreReported =
    (m : Map) (x : MatrixView) (mode : Mode) (named : List Justification) (vs : List Verdict) →
    All (λ j. IsUtf8 j.reason) named →
    AreVerdicts (HasEvent m x) m mode named vs →
    AreJudged x.shape.tests m.decisions (obligations_of m) vs

-- the evaluated paths of a matrix can be written with the tests of the matrix
abbrev pub EvaluatedArePresent : Type 0
EvaluatedArePresent =
    (m : Map) (x : MatrixView) (paths : List EvaluatedPath) →
    AreEvaluated (HasEvent m x) m paths →
    All (IsPresent x.shape.tests m.decisions) paths

-- A report as JSON has no number with a fraction or an exponent, so that its text is exactly what
-- `serde_json` writes of it.
abbrev pub ReportsHaveNoFloat : Type 0
ReportsHaveNoFloat = (r : Report) → has_float (json_data r) ≡ false
