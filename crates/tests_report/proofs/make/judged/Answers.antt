use Rattle.std.proofs.Common.{arith, subst, sym, []}
use Rattle.std.specs.Prelude.{List}
use Rattle.report_options.specs.declared.mode.Mode.TheVariants.{Unique}
use Rattle.mc_oblige.specs.declared.obligation.Obligation.{Obligation}
use Rattle.mc_probe.specs.BitMaps.{map_of}
use Rattle.mc_report.specs.Report.{AreJudged}
use Rattle.mc_report.proofs.Judging.{reported}
use Rattle.tests_report.proofs.make.judged.Goals as goal

pub returns : goal.returns
returns c =
    let m = map_of c.args.map.now in
    let found = c.in_ok-verdicts.verdicts.items in
    let Q : List Obligation → Type 0 = λ os. AreJudged c.args.matrix.now.shape.tests m.decisions os found in
    subst Q (sym c.in_ok-obligations.ensures)
    (reported m c.args.matrix.now Unique [] found (λ k d inside. absurd (omega (arith, inside))) c.in_ok-verdicts.ensures)
