-- Where all files of a command are accepted and its matrix fits, no status of a refusal has a cause.
use Rattle.std.proofs.Common.{◌≡◌, ◌≢◌, ◌⊎◌, ℕ, List, Option, Some, None, Result, Ok, Err, refl, subst, inl, inr}
use Rattle.mc_command.specs.Command as command
use Rattle.mc_command.specs.Command.{Action, Command, command_of}
use Rattle.mc_gen.specs.Source.{source_text}
use Rattle.mc_gen.specs.Tests.{tests_text}
use Rattle.mc_limits.specs.Limits.{usual_fuel}
use Rattle.mc_port.specs.Store.{Files}
use Rattle.mc_record.specs.Kept.{Kept}
use Rattle.mc_record.specs.Merged.{pair_fault}
use Rattle.mc_oblige.specs.Obligations.{obligations_of}
use Rattle.mc_justify.specs.Justifications.{justifications_of}
use Rattle.mc_typed.specs.Plans.{Plan}
use Rattle.station_replies.specs.Files.{File, Holds}
use Rattle.station_replies.specs.Phases.{IsOne}
use Rattle.station_replies.specs.Reply.{Reply, refusal}
use Rattle.station_replies.specs.Status.{IsAnswer, number_of}
use Rattle.station_replies.specs.declared.status.Status.{Status}
use Rattle.station_replies.specs.declared.status.Status.TheVariants as status
use Rattle.station_replies.specs.declared.status.Status.TheVariants.{JustificationsRefused}
use Rattle.station_replies.proofs.Phases.{one_read}
use Rattle.mc_station.specs.Causes.{AsksReasons, Cause, FileIsRefused, IsOfText, MatrixIsRefusedAfter, MutantsAreRefusedAfter, PairIsRefused, RecordIs, RecordsAre, SourceIs, TestsAre, TestsOrRecordsAreRefusedAfter}
use Rattle.mc_station.specs.Justified.{reasons_line}
use Rattle.laws_station.specs.Laws.{AcceptedFilesEndWell, AcceptedFilesGiveTexts}
use Rattle.mc_station.specs.Records.{JudgesRecord}
use Rattle.mc_station.specs.Named.{JudgesSourceOf}
use Rattle.mc_station.specs.Source.{Accepted}
use Rattle.mc_station.specs.Stages as stages
use Rattle.mc_station.specs.Stages.{Allows, JudgesReasons, file_of, first_stage, justified_by}
use Rattle.mc_station.specs.Tests.{JudgesTests, MatrixFits}
use Rattle.laws_station.specs.Whole.{FilesAreAccepted, OthersAreAccepted, ReasonsAreAccepted}
use Rattle.mc_station.proofs.Allowing.{allows_matrix, allows_mutants, one_allowed}
use Rattle.mc_station.proofs.Causes.{statuses_have_causes}
use Rattle.mc_station.proofs.Contents.{not_both, same_bytes}
use Rattle.mc_station.proofs.Joining.{one_record_in}
use Rattle.mc_station.proofs.Naming.{one_source_of}
use Rattle.mc_station.proofs.Phases.{one_fit, one_source, one_tests}

one_reasons : (accepted : Accepted) (bytes : List ℕ) → IsOne (JudgesReasons accepted bytes)
one_reasons accepted bytes = one_read (justifications_of bytes (obligations_of accepted.map) accepted.source) (λ fault. refusal JustificationsRefused (reasons_line fault))

-- ---- a file that is accepted is not refused

module _ (files : Files) where
  not_refused : {A : Type 0} (f : File) (Judging : List ℕ → Result A Reply → Type 0) (a : A) (bytes : List ℕ) (r : Reply) → ((text : List ℕ) → IsOne (Judging text))
      → Holds (Some files) f bytes → Judging bytes (Ok a) → FileIsRefused (Some files) f Judging r → ⊥
  not_refused f Judging a bytes r one holds judges (inl (long, is)) = not_both files f bytes long holds
  not_refused f Judging a bytes r one holds judges (inr (text, also, refuses)) =
      let same : bytes ≡ text = same_bytes files f bytes text holds also in
      one text (Ok a) (Err r) (subst (λ (x : List ℕ). Judging x (Ok a)) same judges) refuses

  same_source : (name : List ℕ) (action : Action) (a b : Accepted) → SourceIs (Some files) name action a → SourceIs (Some files) name action b → a ≡ b
  same_source name action a b (bytes, holds, judges) (text, also, other) =
      let same : bytes ≡ text = same_bytes files (stages.source_named name) bytes text holds also in
      one_source_of action text (Ok a) (Ok b) (subst (λ (x : List ℕ). JudgesSourceOf action x (Ok a)) same judges) other

  same_plans : (run : command.Run) (accepted : Accepted) (ps qs : List Plan) → TestsAre (Some files) run accepted ps → TestsAre (Some files) run accepted qs → ps ≡ qs
  same_plans run accepted ps qs (bytes, holds, judges) (text, also, other) =
      let same : bytes ≡ text = same_bytes files (stages.tests_named run.tests) bytes text holds also in
      one_tests accepted.program run.fuel text (Ok ps) (Ok qs) (subst (λ (x : List ℕ). JudgesTests accepted.program run.fuel x (Ok ps)) same judges) other

  same_record : (name : List ℕ) (accepted : Accepted) (k l : Kept) → RecordIs (Some files) name accepted k → RecordIs (Some files) name accepted l → k ≡ l
  same_record name accepted k l (bytes, holds, judges) (text, also, other) =
      let same : bytes ≡ text = same_bytes files (stages.record_named name) bytes text holds also in
      one_record_in accepted name text (Ok k) (Ok l) (subst (λ (x : List ℕ). JudgesRecord accepted name x (Ok k)) same judges) other

  record_not_refused : (name : List ℕ) (accepted : Accepted) (k : Kept) (r : Reply) → RecordIs (Some files) name accepted k → FileIsRefused (Some files) (stages.record_named name) (JudgesRecord accepted name) r → ⊥
  record_not_refused name accepted k r (bytes, holds, judges) refused =
      not_refused (stages.record_named name) (JudgesRecord accepted name) k bytes r (λ text. one_record_in accepted name text) holds judges refused

  pair_not_refused : (left right : List ℕ) (accepted : Accepted) (first second : Kept) (s : Status) (r : Reply) → RecordsAre (Some files) left right accepted first second → pair_fault first second ≡ None
      → PairIsRefused (Some files) left right accepted s r → ⊥
  pair_not_refused left right accepted first second s r (one, other) none (k, l, (is, also), ((fault, given, says), same)) =
      let on_left : k ≡ first = same_record left accepted k first is one in
      let on_right : l ≡ second = same_record right accepted l second also other in
      let here : pair_fault first l ≡ Some fault = subst (λ (x : Kept). pair_fault x l ≡ Some fault) on_left given in
      let there : pair_fault first second ≡ Some fault = subst (λ (x : Kept). pair_fault first x ≡ Some fault) on_right here in
      cc (none, there)

  -- ---- after an accepted source

  tests_not_refused : (action : Action) (accepted : Accepted) (r : Reply) → OthersAreAccepted (Some files) action accepted → TestsOrRecordsAreRefusedAfter (Some files) action accepted r → ⊥
  tests_not_refused (command.run run) accepted r ((plans, (bytes, holds, judges), allows), reasons) refused =
      not_refused (stages.tests_named run.tests) (JudgesTests accepted.program run.fuel) plans bytes r (λ text. one_tests accepted.program run.fuel text) holds judges refused
  tests_not_refused (command.write text) accepted r others refused = refused
  tests_not_refused (command.merge left right) accepted r (first, second, are, none) (inl refused) = record_not_refused left accepted first r are.0 refused
  tests_not_refused (command.merge left right) accepted r (first, second, are, none) (inr (inl (k, is, refused))) = record_not_refused right accepted second r are.1 refused
  tests_not_refused (command.merge left right) accepted r (first, second, are, none) (inr (inr pair)) = pair_not_refused left right accepted first second status.TestsRefused r are none pair
  tests_not_refused (command.analyse kept judging) accepted r ((found, is), reasons) refused = record_not_refused kept accepted found r is refused

  matrix_not_refused : (action : Action) (accepted : Accepted) (r : Reply) → OthersAreAccepted (Some files) action accepted → MatrixIsRefusedAfter (Some files) action accepted r → ⊥
  matrix_not_refused (command.run run) accepted r ((plans, are, allows), reasons) (others, also, other, fits) =
      let same : others ≡ plans = same_plans run accepted others plans also are in
      one_allowed run.task accepted plans (Ok tt) (Err r) allows
      (subst (λ (ps : List Plan). Allows run.task accepted ps (Err r)) same (allows_matrix accepted others run.task (Err r) other fits))
  matrix_not_refused (command.write text) accepted r others refused = refused
  matrix_not_refused (command.merge left right) accepted r (first, second, are, none) pair = pair_not_refused left right accepted first second status.TooLarge r are none pair
  matrix_not_refused (command.analyse kept judging) accepted r others refused = refused

  mutants_not_refused : (action : Action) (accepted : Accepted) (r : Reply) → OthersAreAccepted (Some files) action accepted → MutantsAreRefusedAfter (Some files) action accepted r → ⊥
  mutants_not_refused (command.run run) accepted r ((plans, are, allows), reasons) (others, also, is, few) =
      let same : others ≡ plans = same_plans run accepted others plans also are in
      one_allowed run.task accepted plans (Ok tt) (Err r) allows
      (subst (λ (ps : List Plan). Allows run.task accepted ps (Err r)) same (allows_mutants accepted others run.task (Err r) is few))
  mutants_not_refused (command.write text) accepted r others refused = refused
  mutants_not_refused (command.merge left right) accepted r others refused = refused
  mutants_not_refused (command.analyse kept judging) accepted r others refused = refused

  these_not_refused : (name : List ℕ) (accepted : Accepted) (r : Reply) → ReasonsAreAccepted (Some files) (Some name) accepted → FileIsRefused (Some files) (stages.reasons_named name) (JudgesReasons accepted) r → ⊥
  these_not_refused name accepted r (js, (bytes, holds, judges)) refused =
      not_refused (stages.reasons_named name) (JudgesReasons accepted) js bytes r (λ text. one_reasons accepted text) holds judges refused

  named_not_refused : (asked : Option (List ℕ)) (name : List ℕ) (accepted : Accepted) (r : Reply) → asked ≡ Some name → ReasonsAreAccepted (Some files) asked accepted
      → FileIsRefused (Some files) (stages.reasons_named name) (JudgesReasons accepted) r → ⊥
  named_not_refused asked name accepted r is are refused =
      these_not_refused name accepted r (subst (λ (o : Option (List ℕ)). ReasonsAreAccepted (Some files) o accepted) is are) refused

  reasons_not_refused : (action : Action) (accepted : Accepted) (name : List ℕ) (r : Reply) → OthersAreAccepted (Some files) action accepted → AsksReasons (Some files) action accepted name
      → FileIsRefused (Some files) (stages.reasons_named name) (JudgesReasons accepted) r → ⊥
  reasons_not_refused (command.run run) accepted name r (tests, reasons) asks refused = named_not_refused (justified_by run.task) name accepted r asks.0 reasons refused
  reasons_not_refused (command.write text) accepted name r others asks refused = asks
  reasons_not_refused (command.merge left right) accepted name r others asks refused = asks
  reasons_not_refused (command.analyse kept judging) accepted name r (record_is, reasons) asks refused = named_not_refused judging.justify name accepted r asks.0 reasons refused

  -- ---- a command on a source

  abbrev Fine : List ℕ → Action → Type 0
  Fine name action = FilesAreAccepted (Some files) (Some (command.on_source name action))

  -- what is refused after an accepted source is so after this one
  at_source : (name : List ℕ) (action : Action) (a b : Accepted) (Refused : Accepted → Type 0) → SourceIs (Some files) name action a → SourceIs (Some files) name action b → Refused b → Refused a
  at_source name action a b Refused is also refused = subst Refused (same_source name action b a also is) refused

  no_cause : (name : List ℕ) (action : Action) (r : Reply) (s : Status) → Fine name action → IsAnswer s → Cause (Some files) (Some (command.on_source name action)) r s → ⊥
  no_cause name action r status.Done fine answer cause = cause
  no_cause name action r status.Incomplete fine answer cause = cause
  no_cause name action r status.NoCommand fine answer (none, is) = absurd (cc none)
  no_cause name action r status.SourceRefused (accepted, (bytes, holds, judges), others) answer refused =
      not_refused (stages.source_named name) (JudgesSourceOf action) accepted bytes r (one_source_of action) holds judges refused
  no_cause name action r status.TestsRefused (accepted, is, others) answer (b, also, refused) =
      tests_not_refused action accepted r others (at_source name action accepted b (λ (x : Accepted). TestsOrRecordsAreRefusedAfter (Some files) action x r) is also refused)
  no_cause name action r status.JustificationsRefused (accepted, is, others) answer (b, also, (reasons, asks, refused)) =
      let same : b ≡ accepted = same_source name action b accepted also is in
      reasons_not_refused action accepted reasons r others (subst (λ (x : Accepted). AsksReasons (Some files) action x reasons) same asks)
      (subst (λ (x : Accepted). FileIsRefused (Some files) (stages.reasons_named reasons) (JudgesReasons x) r) same refused)
  no_cause name action r status.CannotRead fine answer cause = answer
  no_cause name action r status.CannotWrite fine answer cause = answer
  no_cause name action r status.OutOfMemory fine answer cause = answer
  no_cause name action r status.TooLarge (accepted, is, others) answer (b, also, refused) =
      matrix_not_refused action accepted r others (at_source name action accepted b (λ (x : Accepted). MatrixIsRefusedAfter (Some files) action x r) is also refused)
  no_cause name action r status.TooManyMutants (accepted, is, others) answer (b, also, refused) =
      mutants_not_refused action accepted r others (at_source name action accepted b (λ (x : Accepted). MutantsAreRefusedAfter (Some files) action x r) is also refused)

-- ---- a source that the program makes itself

loads_well : (files : Option Files) (count workers : ℕ) (r : Reply) (s : Status) → FilesAreAccepted files (Some (command.selfload count workers)) → IsAnswer s
    → Cause files (Some (command.selfload count workers)) r s → ⊥
loads_well files count workers r status.Done fine answer cause = cause
loads_well files count workers r status.Incomplete fine answer cause = cause
loads_well files count workers r status.NoCommand fine answer (none, is) = absurd (cc none)
loads_well files count workers r status.SourceRefused (accepted, judges, tests) answer refused = one_source (source_text count) (Ok accepted) (Err r) judges refused
loads_well files count workers r status.TestsRefused (accepted, judges, (plans, reads, fits)) answer (b, also, refused) =
    let same : b ≡ accepted = one_source (source_text count) (Ok b) (Ok accepted) also judges in
    one_tests accepted.program usual_fuel (tests_text count) (Ok plans) (Err r) reads (subst (λ (x : Accepted). JudgesTests x.program usual_fuel (tests_text count) (Err r)) same refused)
loads_well files count workers r status.JustificationsRefused fine answer cause = cause
loads_well files count workers r status.CannotRead fine answer cause = answer
loads_well files count workers r status.CannotWrite fine answer cause = answer
loads_well files count workers r status.OutOfMemory fine answer cause = answer
loads_well files count workers r status.TooLarge (accepted, judges, (plans, reads, fits)) answer (b, also, (qs, read, large)) =
    let same : b ≡ accepted = one_source (source_text count) (Ok b) (Ok accepted) also judges in
    let read_here : JudgesTests accepted.program usual_fuel (tests_text count) (Ok qs) = subst (λ (x : Accepted). JudgesTests x.program usual_fuel (tests_text count) (Ok qs)) same read in
    let tests : qs ≡ plans = one_tests accepted.program usual_fuel (tests_text count) (Ok qs) (Ok plans) read_here reads in
    let here : MatrixFits accepted qs (Err r) = subst (λ (x : Accepted). MatrixFits x qs (Err r)) same large in
    one_fit accepted plans (Ok tt) (Err r) fits (subst (λ (ps : List Plan). MatrixFits accepted ps (Err r)) tests here)
loads_well files count workers r status.TooManyMutants fine answer cause = cause

-- ---- calls

none_refused : (files : Option Files) (given : Option Command) (r : Reply) (s : Status) → (file_of (first_stage given) ≡ None) ⊎ ((told : Files) × (files ≡ Some told)) → FilesAreAccepted files given → IsAnswer s
    → Cause files given r s → ⊥
none_refused files None r s known fine answer cause = fine
none_refused files (Some (command.on_source name action)) r s (inl none) fine answer cause = absurd (cc none)
none_refused files (Some (command.on_source name action)) r s (inr (told, is)) fine answer cause =
    let given : Option Command = Some (command.on_source name action) in
    no_cause told name action r s (subst (λ (o : Option Files). FilesAreAccepted o given) is fine) answer (subst (λ (o : Option Files). Cause o given r s) is cause)
none_refused files (Some (command.selfload count workers)) r s known fine answer cause = loads_well files count workers r s fine answer cause

pub accepted_files_give_texts : AcceptedFilesGiveTexts
accepted_files_give_texts call asked after r leads known fine answer = elim (statuses_have_causes call asked after r leads) [
  | inl text ↦ text
  | inr cause ↦ absurd (none_refused call.files (command_of call.words) r r.status known fine answer cause)
]

-- the number of a status that is told with a text
ends_well : (s : Status) (n : ℕ) → n ≡ number_of s → n ≢ 6 → n ≢ 8 → s ≢ status.CannotWrite → (IsAnswer s → IsOfText s) → (n ≡ 0) ⊎ (n ≡ 1)
ends_well status.Done n is read memory written text = inl is
ends_well status.Incomplete n is read memory written text = inr is
ends_well status.NoCommand n is read memory written text = absurd (text tt)
ends_well status.SourceRefused n is read memory written text = absurd (text tt)
ends_well status.TestsRefused n is read memory written text = absurd (text tt)
ends_well status.JustificationsRefused n is read memory written text = absurd (text tt)
ends_well status.CannotRead n is read memory written text = absurd (read is)
ends_well status.CannotWrite n is read memory written text = absurd (written refl)
ends_well status.OutOfMemory n is read memory written text = absurd (memory is)
ends_well status.TooLarge n is read memory written text = absurd (text tt)
ends_well status.TooManyMutants n is read memory written text = absurd (text tt)

-- no reply says that a sink failed
never_written : (files : Option Files) (given : Option Command) (r : Reply) (s : Status) → IsOfText s ⊎ Cause files given r s → s ≢ status.CannotWrite
never_written files given r s (inl text) is = subst (λ (x : Status). IsOfText x) is text
never_written files given r s (inr cause) is = subst (λ (x : Status). Cause files given r x) is cause

pub accepted_files_end_well : AcceptedFilesEndWell
accepted_files_end_well call n asked after out out_after diag diag_after told known fine read memory =
    let r = told.reply in
    let given = command_of call.words in
    ends_well r.status n told.status_is read memory
    (never_written call.files given r r.status (statuses_have_causes call asked after r told.leads))
    (λ answer. accepted_files_give_texts call asked after r told.leads known fine answer)
