-- The analysis of a record says what the report says.
use Rattle.std.proofs.Common.{◌≡◌, ◌∙◌, ◌≤◌, ℕ, false, List, Some, None, Ok, refl, sym, ap, subst}
use Rattle.std.specs.List.{concat}
use Rattle.sha2.specs.Sha256.{sha256}
use Rattle.mc_limits.specs.Limits.{most_words}
use Rattle.mc_command.specs.Command as command
use Rattle.mc_command.specs.Command.{Judging, Telling, file_told}
use Rattle.mc_grammar.specs.Laws.{TreeIsNoLonger}
use Rattle.mc_typed.specs.Plans.{Plan}
use Rattle.mc_port.specs.Store.{Files}
use Rattle.mc_oblige.specs.Shown.{HasEvent}
use Rattle.mc_oblige.specs.Obligations.{obligations_of}
use Rattle.mc_oblige.specs.Verdicts.{AreVerdicts}
use Rattle.mc_oblige.specs.declared.justification.Justification.{Justification}
use Rattle.mc_oblige.specs.declared.verdict.Verdict.{Verdict}
use Rattle.mc_record.specs.Kept.{Kept}
use Rattle.mc_record.specs.Lines.{record_lines}
use Rattle.mc_report.specs.Report.{Report}
use Rattle.report_options.specs.declared.form.Form.{Form}
use Rattle.station_replies.specs.Reply.{Reply}
use Rattle.mc_station.specs.Causes.{RecordIs, SourceIs}
use Rattle.mc_station.specs.Named.{HasFile, makes_source}
use Rattle.mc_station.specs.Records.{JudgesRecord}
use Rattle.mc_station.specs.Source.{Accepted}
use Rattle.mc_station.specs.Tests.{stands, tested_of, words_needed}
use Rattle.mc_station.specs.commands.Analyse.{tested_in}
use Rattle.mc_station.specs.commands.Record.{IsRecordOf, Records}
use Rattle.mc_station.specs.commands.Report.{IsReportOn, JudgesOn, TellsOf, report}
use Rattle.mc_station.proofs.Naming.{plain_source_of}
use Rattle.laws_recorded.proofs.Recorded.{verdicts_are_kept}
use Rattle.laws_recorded.specs.Recorded.{IsRecorded}
use Rattle.laws_station.specs.Texts.{IsOfFiles}
use Rattle.laws_station.specs.Analysed.{AnalysisIsReport, text_of, without_results}
use Rattle.laws_station.specs.Asking.{Asks, IsKept, Writes, runs}
use Rattle.mc_station.specs.Calls.{Call}
use Rattle.laws_station.proofs.Alike.{AreTestsOf, of_files, same_accepted, same_plans, writes_of}
use Rattle.laws_station.proofs.Files.{AreKept, file_kept}
use Rattle.laws_station.proofs.Reading.{judged_record}
use Rattle.laws_station.proofs.Sound.{IsReady, ready}

-- what `record` writes of a source and its tests
pub record IsWritten (skipped : List ℕ) (accepted : Accepted) (plans : List Plan) (t : Reply) : Type 0 where
  pub kept : Kept
  pub of : IsRecordOf skipped accepted plans kept
  pub lines : t.out ≡ record_lines kept

pub is_written : (skipped : List ℕ) (accepted : Accepted) (plans : List Plan) (t : Reply) → Records skipped accepted plans t → IsWritten skipped accepted plans t
is_written skipped accepted plans t (k, of, is) = record { kept = k; of = of; lines = ap (λ (x : Reply). x.out) is }

module _ (files : Files) (skipped : List ℕ) (a : Accepted) (plans : List Plan) (is_ready : IsReady a) (are : AreKept plans) (small : words_needed a plans ≤ most_words) (t : Reply) (w : IsWritten skipped a plans t) where
  -- the file with this text is its record
  pub record_is : (name : List ℕ) → IsKept files name t → RecordIs (Some files) name a w.kept
  record_is name held =
      let judges : JudgesRecord a name (concat (record_lines w.kept)) (Ok w.kept) = judged_record skipped a plans w.kept is_ready are small w.of name in
      (concat t.out, held, subst (λ (ls : List (List ℕ)). JudgesRecord a name (concat ls) (Ok w.kept)) (sym w.lines) judges)

  recorded : IsRecorded skipped a.program a.map plans w.kept.matrix
  recorded = record { sound = is_ready.sound; map = is_ready.map_is; bits = w.of.pairs }

  -- the report of the record is that of the tests, without their results
  module _ (judging : Judging) (js : List Justification) (r : Report) (made : IsReportOn (stands skipped a plans) judging.mode a (tested_of a.program plans) js r) where
    analysed : IsReportOn (HasEvent a.map w.kept.matrix) judging.mode a (tested_in w.kept) js (without_results r)
    analysed =
        let vs : List Verdict = made.0 in
        let are_vs : AreVerdicts (stands skipped a plans) a.map judging.mode js vs = made.1 in
        let r_is : r ≡ report judging.mode a (tested_of a.program plans) vs = made.2 in
        let by : AreVerdicts (HasEvent a.map w.kept.matrix) a.map judging.mode js vs = (verdicts_are_kept skipped a.program a.map plans w.kept.matrix recorded judging.mode js vs).1 are_vs in
        let told : without_results r ≡ without_results (report judging.mode a (tested_of a.program plans) vs) = ap without_results r_is in
        let same : without_results (report judging.mode a (tested_of a.program plans) vs) ≡ report judging.mode a (tested_in w.kept) vs = λ i. record {
          source = a.source;
          digest = sha256 a.source;
          mode = judging.mode;
          names = sym w.of.names i;
          states = sym w.of.states i;
          results = None;
          decisions = a.map.decisions;
          obligations = obligations_of a.map;
          verdicts = vs;
        } in
        (vs, by, told ∙ same)

    analysis_told : (form : Form) → judging.telling ≡ command.report form
        → JudgesOn (HasEvent a.map w.kept.matrix) judging a (tested_in w.kept) js (text_of form (without_results r))
    analysis_told form tells =
        let text : TellsOf (HasEvent a.map w.kept.matrix) judging.telling a.map (without_results r) (text_of form (without_results r)) =
        subst (λ (x : Telling). TellsOf (HasEvent a.map w.kept.matrix) x a.map (without_results r) (text_of form (without_results r))) (sym tells) refl in
        (without_results r, analysed, text)

-- an analysis of it judges the source as another command does
pub source_again : (files : Files) (name kept : List ℕ) (judging : Judging) (form : Form) (action : command.Action) (a : Accepted) → makes_source action ≡ false → judging.telling ≡ command.report form → SourceIs (Some files) name action a
    → SourceIs (Some files) name (command.analyse kept judging) a
source_again files name kept judging form action a plain tells (bytes, holds, judges) =
    let named : HasFile (file_told judging.telling) a (Ok tt) = subst (λ (x : Telling). HasFile (file_told x) a (Ok tt)) (sym tells) tt in
    (bytes, holds, (bytes, refl, (a, plain_source_of action bytes a plain judges, (tt, named, refl))))

pub ready_for : TreeIsNoLonger → (files : Files) (name : List ℕ) (action : command.Action) (a : Accepted) → makes_source action ≡ false → SourceIs (Some files) name action a → IsReady a
ready_for no_longer files name action a plain (bytes, holds, judges) = ready no_longer bytes a holds.1 (plain_source_of action bytes a plain judges)

pub kept_of : (files : Files) (name : List ℕ) (fuel : ℕ) (a : Accepted) (plans : List Plan) → AreTestsOf files name fuel a plans → AreKept plans
kept_of files name fuel a plans (bytes, holds, judges) = file_kept a.program fuel bytes plans judges

-- another call's record is of the same source and the same tests
pub written_alike : (files : Files) (skipped name tests : List ℕ) (fuel : ℕ) (one other : command.Action) (a b : Accepted) (ps qs : List Plan) (t : Reply) → makes_source one ≡ false → makes_source other ≡ false → SourceIs (Some files) name one a → SourceIs (Some files) name other b
    → AreTestsOf files tests fuel a ps → AreTestsOf files tests fuel b qs → Records skipped b qs t → IsWritten skipped a ps t
written_alike files skipped name tests fuel one other a b ps qs t plain plainly is also are others records =
    let same : b ≡ a = same_accepted files name other one b a plainly plain also is in
    let here : AreTestsOf files tests fuel a qs = subst (λ (x : Accepted). AreTestsOf files tests fuel x qs) same others in
    let plans : qs ≡ ps = same_plans files tests fuel a qs ps here are in
    let there : Records skipped a qs t = subst (λ (x : Accepted). Records skipped x qs t) same records in
    is_written skipped a ps t (subst (λ (x : List Plan). Records skipped a x t) plans there)

module _ (no_longer : TreeIsNoLonger) (files : Files) (skipped source tests kept : List ℕ) (fuel workers others : ℕ) (judging : Judging) (form : Form) (analysing : Call) (s t : Reply)
    (tells : judging.telling ≡ command.report form) (asks : Asks files skipped (command.on_source source (command.analyse kept judging)) analysing) (held : IsKept files kept t) where
  abbrev run_for : (workers : ℕ) → command.MatrixTask → command.Action
  run_for n task = command.run (record { tests = tests; workers = n; fuel = fuel; task = command.on_matrix task })

  from_both : IsOfFiles skipped (Some files) (Some (runs source tests workers fuel (command.judged judging))) s → IsOfFiles skipped (Some files) (Some (runs source tests others fuel command.recorded)) t
      → (r : Report) × (s ≡ text_of form r) × Writes analysing (text_of form (without_results r))
  from_both (a, source_a, (ps, js, are, (r, made, text))) (b, source_b, (qs, ls, too, records)) =
      let first : command.Action = run_for workers (command.judged judging) in
      let second : command.Action = run_for others command.recorded in
      let said : s ≡ text_of form r = subst (λ (x : Telling). TellsOf (stands skipped a ps) x a.map r s) tells text in
      let w : IsWritten skipped a ps t = written_alike files skipped source tests fuel first second a b ps qs t refl refl source_a source_b are.tests too.tests records in
      let is_ready : IsReady a = ready_for no_longer files source first a refl source_a in
      let keeps : AreKept ps = kept_of files tests fuel a ps are.tests in
      let u : Reply = text_of form (without_results r) in
      let there : IsOfFiles skipped (Some files) (Some (command.on_source source (command.analyse kept judging))) u = (
        a,
        source_again files source kept judging form first a refl tells source_a,
        (
          w.kept,
          js,
          record_is files skipped a ps is_ready keeps are.allowed t w kept held,
          are.reasons,
          analysis_told files skipped a ps is_ready keeps are.allowed t w judging js r made form tells,
        ),
      ) in
      (r, said, writes_of files skipped (command.on_source source (command.analyse kept judging)) analysing u asks there)

pub analysis_is_report : TreeIsNoLonger → AnalysisIsReport
analysis_is_report no_longer files skipped source tests kept fuel workers others judging form reporting recording analysing s t tells asks_report asks_record asks_analysis writes_report writes_record held =
    from_both no_longer files skipped source tests kept fuel workers others judging form analysing s t tells asks_analysis held
    (of_files files skipped (runs source tests workers fuel (command.judged judging)) reporting s asks_report writes_report)
    (of_files files skipped (runs source tests others fuel command.recorded) recording t asks_record writes_record)
