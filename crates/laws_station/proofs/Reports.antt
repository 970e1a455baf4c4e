-- A report is of its source.
use Rattle.std.proofs.Common.{◌≡◌, ◌∙◌, ℕ, List, Option, Some, None, Ok, refl, sym, ap, subst}
use Rattle.mc_command.specs.Command as command
use Rattle.mc_command.specs.Command.{Command, Judging, Run, Task, Telling, command_of, file_told}
use Rattle.report_options.specs.declared.form.Form.{Form}
use Rattle.mc_typed.specs.Plans.{Plan}
use Rattle.mc_oblige.specs.declared.justification.Justification.{Justification}
use Rattle.mc_port.specs.Store.{Files}
use Rattle.mc_report.specs.Forms.{lines_in_form}
use Rattle.mc_report.specs.Report.{Report}
use Rattle.mc_report.specs.Status.{status_of}
use Rattle.station_replies.specs.Reply.{Reply, written}
use Rattle.mc_station.specs.Causes.{SourceIs}
use Rattle.mc_station.specs.Named.{HasFile, file_of_action, file_of_task}
use Rattle.mc_station.specs.Source.{Accepted, JudgesSource}
use Rattle.mc_station.specs.Stages.{Allows, Tells, justified_by}
use Rattle.mc_station.specs.Tests.{stands}
use Rattle.mc_station.specs.commands.Report.{TellsOf}
use Rattle.mc_station.proofs.Naming.{plain_source_of}
use Rattle.laws_station.specs.Reports.{AreJustified, IsProgramOf, IsReportOn, ReportsAreOfTheirSource, report_of}
use Rattle.laws_station.specs.Texts.{AreReasons, AreTests, IsOfFiles}
use Rattle.laws_station.proofs.TextsOfFiles.{texts_are_called}

-- ---- the source

-- an accepted source has these bytes, and they are its program
abbrev IsOf : (source : List ℕ) → Accepted → Type 0
IsOf source accepted = IsProgramOf source accepted.program accepted.map × (accepted.source ≡ source)

is_of : (source : List ℕ) (accepted : Accepted) → JudgesSource source (Ok accepted) → IsOf source accepted
is_of source accepted (tokens, lexes, (unit, parses, (u, admits, (program, types, (ds, decides, (v, numbers, (m, maps, accepts))))))) =
    let whole : accepted ≡ record { source = source; program = program; map = m } = cc accepts in
    let made : IsProgramOf source program m = record {
      tokens = tokens;
      scanned = lexes;
      tree = unit;
      parsed = parses;
      inside = admits;
      typed = types;
      decisions = ds;
      decided = decides.0;
      small = decides.1;
      few = numbers;
      mapped = maps;
    } in
    subst (IsOf source) (sym whole) (made, refl)

judged : (source : List ℕ) (accepted : Accepted) → accepted.source ≡ source → IsProgramOf source accepted.program accepted.map → JudgesSource source (Ok accepted)
judged source accepted same of =
    let whole : accepted ≡ record { source = source; program = accepted.program; map = accepted.map } = λ i. record { source = same i; program = accepted.program; map = accepted.map } in
    (of.tokens, of.scanned, (of.tree, of.parsed, (tt, of.inside, (accepted.program, of.typed, (of.decisions, (of.decided, of.small), (tt, of.few, (accepted.map, of.mapped, cc whole)))))))

-- ---- justifications

justified : (files : Option Files) (name : Option (List ℕ)) (accepted : Accepted) (source : List ℕ) (js : List Justification) → accepted.source ≡ source → AreReasons files name accepted js → AreJustified files name source accepted.map js
justified files None accepted source js same none = none
justified files (Some name) accepted source js same (bytes, holds, judges) = subst (λ (s : List ℕ). AreJustified files (Some name) s accepted.map js) same (bytes, holds, judges)

reasons_of : (files : Option Files) (name : Option (List ℕ)) (accepted : Accepted) (source : List ℕ) (js : List Justification) → accepted.source ≡ source → AreJustified files name source accepted.map js → AreReasons files name accepted js
reasons_of files None accepted source js same none = none
reasons_of files (Some name) accepted source js same are =
    let (bytes, holds, judges) = subst (λ (s : List ℕ). AreJustified files (Some name) s accepted.map js) (sym same) are in (bytes, holds, judges)

-- ---- the report

module _ (skipped : List ℕ) (files : Option Files) (name : List ℕ) (run : Run) (judging : Judging) (form : Form) (reply : Reply)
    (is_task : run.task ≡ command.on_matrix (command.judged judging)) (tells_report : judging.telling ≡ command.report form) where
  asks_reasons : justified_by run.task ≡ judging.justify
  asks_reasons = ap justified_by is_task

  -- no file of the source is named
  names_none : file_of_task run.task ≡ None
  names_none = ap file_of_task is_task ∙ ap file_told tells_report

  abbrev IsText : Type 0
  IsText = (r : Report) × IsReportOn skipped files name run judging r × (reply ≡ written (status_of r) (lines_in_form form r))

  to_report : (accepted : Accepted) (plans : List Plan) (js : List Justification) → SourceIs files name (command.run run) accepted → AreTests files run accepted plans js
      → Tells skipped (command.on_matrix (command.judged judging)) accepted plans js reply → IsText
  to_report accepted plans js (source, holds, judges) are (r, (verdicts, verdict_each, r_is), tells) =
      let of : IsOf source accepted = is_of source accepted (plain_source_of (command.run run) source accepted refl judges) in
      let same : accepted.source ≡ source = of.1 in
      let (bytes, hold, reads) = are.tests in
      let text : TellsOf (stands skipped accepted plans) (command.report form) accepted.map r reply = subst (λ (t : Telling). TellsOf (stands skipped accepted plans) t accepted.map r reply) tells_report tells in
      let reasons : AreReasons files judging.justify accepted js = subst (λ (o : Option (List ℕ)). AreReasons files o accepted js) asks_reasons are.reasons in
      let allowed : Allows (command.on_matrix (command.judged judging)) accepted plans (Ok tt) = subst (λ (t : Task). Allows t accepted plans (Ok tt)) is_task are.allowed in
      let on : IsReportOn skipped files name run judging r = record {
        source = source;
        source_holds = holds;
        program = accepted.program;
        map_of = accepted.map;
        of_source = of.0;
        tests = bytes;
        tests_hold = hold;
        plans = plans;
        of_tests = reads;
        fits = allowed;
        js = js;
        justified = justified files judging.justify accepted source js same reasons;
        verdicts = verdicts;
        judged = verdict_each;
        is = r_is ∙ ap (λ (s : List ℕ). report_of s accepted.program accepted.map judging.mode plans verdicts) same;
      } in
      (r, on, text)

  to_files : IsText → IsOfFiles skipped files (Some (command.on_source name (command.run run))) reply
  to_files (r, on, text) =
      let accepted : Accepted = record { source = on.source; program = on.program; map = on.map_of } in
      let judges : JudgesSource on.source (Ok accepted) = judged on.source accepted refl on.of_source in
      let named : HasFile (file_of_action (command.run run)) accepted (Ok tt) = subst (λ (o : Option (List ℕ)). HasFile o accepted (Ok tt)) (sym names_none) tt in
      let from : SourceIs files name (command.run run) accepted = (on.source, on.source_holds, (on.source, refl, (accepted, judges, (tt, named, refl)))) in
      let reasons : AreReasons files judging.justify accepted on.js = reasons_of files judging.justify accepted on.source on.js refl on.justified in
      let tests : AreTests files run accepted on.plans on.js = record {
        tests = (on.tests, on.tests_hold, on.of_tests);
        allowed = subst (λ (t : Task). Allows t accepted on.plans (Ok tt)) (sym is_task) on.fits;
        reasons = subst (λ (o : Option (List ℕ)). AreReasons files o accepted on.js) (sym asks_reasons) reasons;
      } in
      let text_told : TellsOf (stands skipped accepted on.plans) judging.telling accepted.map r reply =
      subst (λ (t : Telling). TellsOf (stands skipped accepted on.plans) t accepted.map r reply) (sym tells_report) text in
      let told : Tells skipped (command.on_matrix (command.judged judging)) accepted on.plans on.js reply = (r, (on.verdicts, on.judged, on.is), text_told) in
      (accepted, from, (on.plans, on.js, tests, subst (λ (t : Task). Tells skipped t accepted on.plans on.js reply) (sym is_task) told))

  from_files : IsOfFiles skipped files (Some (command.on_source name (command.run run))) reply → IsText
  from_files (accepted, source, (plans, js, are, tells)) =
      to_report accepted plans js source are (subst (λ (t : Task). Tells skipped t accepted plans js reply) is_task tells)

pub reports_are_of_their_source : ReportsAreOfTheirSource
reports_are_of_their_source call name run judging form reply given is_task tells_report =
    let called = texts_are_called call reply in
    let there = Some (command.on_source name (command.run run)) in (
      (λ text. from_files call.skipped call.files name run judging form reply is_task tells_report (subst (λ (o : Option Command). IsOfFiles call.skipped call.files o reply) given (called.0 text))),
      (λ report. called.1 (subst (λ (o : Option Command). IsOfFiles call.skipped call.files o reply) (sym given) (to_files call.skipped call.files name run judging form reply is_task tells_report report))),
    )
