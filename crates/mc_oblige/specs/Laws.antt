-- What follows from the definitions.
use Rattle.std.specs.Prelude.{◌≡◌, List}
use Rattle.mc_core.specs.Matrix.{MatrixView}
use Rattle.mc_probe.specs.Maps.{Map}
use Rattle.report_options.specs.declared.mode.Mode.{Mode}
use Rattle.mc_oblige.specs.declared.justification.Justification.{Justification}
use Rattle.mc_oblige.specs.declared.verdict.Verdict.{Verdict}
use Rattle.mc_oblige.specs.declared.evaluated.EvaluatedPath.{EvaluatedPath}
use Rattle.mc_oblige.specs.Shown.{HasEvent}
use Rattle.mc_oblige.specs.Evaluated.{AreEvaluated}
use Rattle.mc_oblige.specs.Verdicts.{AreVerdicts}

-- a matrix has one list of verdicts
abbrev pub VerdictsAreOne : Type 0
VerdictsAreOne =
    (m : Map) (x : MatrixView) (mode : Mode) (named : List Justification) (vs ws : List Verdict) →
    AreVerdicts (HasEvent m x) m mode named vs → AreVerdicts (HasEvent m x) m mode named ws →
    vs ≡ ws

-- a matrix has one list of evaluated paths
abbrev pub EvaluatedPathsAreOne : Type 0
EvaluatedPathsAreOne =
    (m : Map) (x : MatrixView) (es fs : List EvaluatedPath) →
    AreEvaluated (HasEvent m x) m es →
    AreEvaluated (HasEvent m x) m fs →
    es ≡ fs
