use Rattle.std.proofs.Common.{arith, refl}
use Rattle.mc_oblige.specs.Shown.{HasEvent}
use Rattle.mc_oblige.specs.Verdicts.{AreVerdicts}
use Rattle.mc_station.specs.Seen.{seen_accepted, seen_tested}
use Rattle.mc_station.proofs.Reported.{can_be_written, report_is}
use Rattle.mc_station.proofs.commands.report.report_on.Goals as goal

pub returns-clause-made : goal.returns-clause-made
returns-clause-made c =
    let a = seen_accepted c.args.accepted in
    let tests = seen_tested c.args.tests in
    let shown = HasEvent a.map c.args.matrix.now in
    let vs = c.in_ok-verdicts.verdicts.items in
    let js = c.args.justifications.now in
    let are : AreVerdicts shown a.map c.args.mode js vs = c.in_ok-verdicts.ensures in
    (vs, are, report_is shown c.args.mode a tests js _ vs refl c.digest_of.ensures refl refl refl refl refl c.in_ok-obligations.ensures refl)

pub returns-clause-whole : goal.returns-clause-whole
returns-clause-whole c =
    let a = seen_accepted c.args.accepted in
    let tests = seen_tested c.args.tests in
    let shown = HasEvent a.map c.args.matrix.now in
    let vs = c.in_ok-verdicts.verdicts.items in
    let js = c.args.justifications.now in
    let are : AreVerdicts shown a.map c.args.mode js vs = c.in_ok-verdicts.ensures in
    can_be_written c.args.mode a tests js _ vs c.args.matrix.now
    (report_is shown c.args.mode a tests js _ vs refl c.digest_of.ensures refl refl refl refl refl c.in_ok-obligations.ensures refl)
    (omega (arith, (let short = c.requires.instrumented.short in short))) c.requires.told c.requires.reasons.text are

pub returns-clause-texts : goal.returns-clause-texts
returns-clause-texts c = c.requires.told.texts
