-- Evaluated paths can be written.
use Rattle.std.proofs.Common.{Option, get_or, sym, subst}
use Rattle.std.proofs.lemmas.List.Elements.{Contains-get_or}
use Rattle.mc_core.specs.Matrix.{MatrixView}
use Rattle.mc_probe.specs.Maps.{Map, Mapped}
use Rattle.mc_oblige.specs.declared.evaluated.EvaluatedPath.{EvaluatedPath}
use Rattle.mc_oblige.specs.Shown.{HasEvent}
use Rattle.mc_oblige.specs.Evaluated.{IsEvaluatedPath}
use Rattle.mc_report.specs.Laws.{EvaluatedArePresent}
use Rattle.mc_report.specs.Report.{HasPath}
use Rattle.mc_report.specs.VectorsText.{IsPresent}
use Rattle.mc_report.proofs.Judging.{path_used}

one_present : (m : Map) (x : MatrixView) (e : EvaluatedPath) → IsEvaluatedPath (HasEvent m x) m e → IsPresent x.shape.tests m.decisions e
one_present m x e is =
    let P : Option Mapped → Type 0 = λ o. HasPath o e.path in
    record {
      path = subst P (sym is.known) (path_used is.mapped.decision.tree e.path e.decision e.test (HasEvent m x) is.least.so);
      test = is.least.so.under.held.1;
    }

pub present : EvaluatedArePresent
present m x paths are k d lt =
    let e : EvaluatedPath = get_or paths k d in
    one_present m x e ((are.each e).0 (Contains-get_or paths k d lt))
