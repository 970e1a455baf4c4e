-- Where a refusal has its cause, it is called for.
use Rattle.std.proofs.Common.{◌≡◌, ◌∙◌, ℕ, List, Option, Some, None, Result, Ok, Err, refl, sym, ap, subst, inl, inr}
use Rattle.mc_command.specs.Command as command
use Rattle.mc_command.specs.Command.{Command, command_of}
use Rattle.mc_port.specs.Store.{Files, and_asked}
use Rattle.station_replies.specs.Files.{File, Holds, request_of, status_of}
use Rattle.station_replies.specs.Reply.{Reply, longer}
use Rattle.station_replies.specs.Status.{IsAnswer}
use Rattle.station_replies.specs.declared.status.Status.{Status}
use Rattle.station_replies.specs.declared.status.Status.TheVariants as status
use Rattle.mc_station.specs.Calls as calls
use Rattle.mc_station.specs.Calls.{Call, CallsFor, Leads, Requests}
use Rattle.mc_station.specs.Causes.{AsksReasons, MatrixIsRefusedAfter, MutantsAreRefusedAfter, TestsOrRecordsAreRefusedAfter, IsOfRefusal, MatrixIsRefused, MutantsAreRefused, PairIsRefused, ReasonsAreRefused, SourceIsRefused, TestsOrRecordsAreRefused, FileIsRefused, SourceIs}
use Rattle.mc_station.specs.Records.{JudgesRecord}
use Rattle.mc_station.specs.Named.{JudgesSourceOf}
use Rattle.mc_station.specs.Source.{Accepted}
use Rattle.mc_station.specs.Stages as stages
use Rattle.mc_station.specs.Stages.{Judges, JudgesReasons, Stage, after_source, after_tests, file_of, first_stage, justified_by}
use Rattle.mc_station.specs.Statuses.{CausesCall}
use Rattle.mc_station.specs.Tests.{JudgesTests}
use Rattle.mc_gen.specs.Source.{source_text}
use Rattle.mc_station.proofs.Allowing.{allows_matrix, allows_mutants, not_mutated}
use Rattle.mc_station.proofs.Causes.{of_matrix, of_mutants, of_record, of_source, of_source_of}

module _ (skipped : List ℕ) (files : Option Files) where
  -- a stage leads to the reply, whatever was asked for before
  abbrev Comes : Stage → Reply → Type 0
  Comes s r = (asked : Requests) → (after : Requests) × Leads skipped files s asked r after

  -- ---- steps

  refused_at : (s : Stage) (f : File) (bytes : List ℕ) (r : Reply) → file_of s ≡ Some f → Holds files f bytes → Judges s bytes (Err r) → Comes s r
  refused_at s f bytes r is holds judges asked =
      (and_asked asked (request_of f), calls.answers s asked (and_asked asked (request_of f)) r (calls.refused f bytes r is holds judges))

  refuse : {A : Type 0} (s : Stage) (f : File) (Judging : List ℕ → Result A Reply → Type 0) (r : Reply) → file_of s ≡ Some f
      → ((bytes : List ℕ) → Judging bytes (Err r) → Judges s bytes (Err r)) → FileIsRefused files f Judging r → Comes s r
  refuse s f Judging r is each (inl (long, same)) asked =
      let end = and_asked asked (request_of f) in
      (end, subst (λ (q : Reply). Leads skipped files s asked q end) (sym same) (calls.answers s asked end (longer f) (calls.too_long f is long)))
  refuse s f Judging r is each (inr (bytes, holds, judges)) asked = refused_at s f bytes r is holds (each bytes judges) asked

  accept : (s t : Stage) (f : File) (bytes : List ℕ) (r : Reply) → file_of s ≡ Some f → Holds files f bytes → Judges s bytes (Ok t) → Comes t r → Comes s r
  accept s t f bytes r is holds judges comes asked =
      let (after, leads) = comes (and_asked asked (request_of f)) in
      (after, calls.accepted s t f bytes asked after r is holds judges leads)

  from_source : (name : List ℕ) (action : command.Action) (accepted : Accepted) (r : Reply) → SourceIs files name action accepted → Comes (after_source action accepted) r → Comes (stages.source name action) r
  from_source name action accepted r (bytes, holds, judges) comes =
      accept (stages.source name action) (after_source action accepted) (stages.source_named name) bytes r refl holds (accepted, judges, refl) comes

  -- ---- the source

  source_comes : (given : Option Command) (r : Reply) → SourceIsRefused files given r → Comes (first_stage given) r
  source_comes None r cause = absurd cause
  source_comes (Some (command.on_source name action)) r cause =
      refuse (stages.source name action) (stages.source_named name) (JudgesSourceOf action) r refl (λ bytes judges. inl judges) cause
  source_comes (Some (command.selfload count workers)) r cause =
      λ asked. (asked, calls.answers (stages.load count workers) asked asked r (calls.finished r (inl cause)))

  -- ---- tests, records and the matrix

  pair_comes : (left right : List ℕ) (accepted : Accepted) (s : Status) (r : Reply) → PairIsRefused files left right accepted s r → Comes (stages.left left right accepted) r
  pair_comes left right accepted s r (first, second, ((one, has_one, judges), (other, has_other, also)), (joins, is)) =
      accept (stages.left left right accepted) (stages.right right accepted first) (stages.record_named left) one r refl has_one (first, judges, refl)
      (refused_at (stages.right right accepted first) (stages.record_named right) other r refl has_other (inr (second, also, inl joins)))

  after_tests_comes : (action : command.Action) (accepted : Accepted) (r : Reply) → TestsOrRecordsAreRefusedAfter files action accepted r → Comes (after_source action accepted) r
  after_tests_comes (command.run run) accepted r cause =
      refuse (stages.tests run accepted) (stages.tests_named run.tests) (JudgesTests accepted.program run.fuel) r refl (λ bytes judges. inl judges) cause
  after_tests_comes (command.write text) accepted r cause = absurd cause
  after_tests_comes (command.merge left right) accepted r (inl cause) =
      refuse (stages.left left right accepted) (stages.record_named left) (JudgesRecord accepted left) r refl (λ bytes judges. inl judges) cause
  after_tests_comes (command.merge left right) accepted r (inr (inl (first, (bytes, holds, judges), cause))) =
      accept (stages.left left right accepted) (stages.right right accepted first) (stages.record_named left) bytes r refl holds (first, judges, refl)
      (refuse (stages.right right accepted first) (stages.record_named right) (JudgesRecord accepted right) r refl (λ text refuses. inl refuses) cause)
  after_tests_comes (command.merge left right) accepted r (inr (inr cause)) = pair_comes left right accepted status.TestsRefused r cause
  after_tests_comes (command.analyse kept judging) accepted r cause =
      refuse (stages.kept kept judging accepted) (stages.record_named kept) (JudgesRecord accepted kept) r refl (λ bytes judges. inl judges) cause

  tests_come : (given : Option Command) (r : Reply) → TestsOrRecordsAreRefused files given r → Comes (first_stage given) r
  tests_come None r cause = absurd cause
  tests_come (Some (command.on_source name action)) r (accepted, source, cause) = from_source name action accepted r source (after_tests_comes action accepted r cause)
  tests_come (Some (command.selfload count workers)) r (accepted, judges, cause) =
      λ asked. (asked, calls.answers (stages.load count workers) asked asked r (calls.finished r (inr (accepted, judges, inl cause))))

  after_matrix_comes : (action : command.Action) (accepted : Accepted) (r : Reply) → MatrixIsRefusedAfter files action accepted r → Comes (after_source action accepted) r
  after_matrix_comes (command.run run) accepted r (plans, (bytes, holds, judges), other, fits) =
      refused_at (stages.tests run accepted) (stages.tests_named run.tests) bytes r refl holds (inr (plans, judges, inl (allows_matrix accepted plans run.task (Err r) other fits)))
  after_matrix_comes (command.write text) accepted r cause = absurd cause
  after_matrix_comes (command.merge left right) accepted r cause = pair_comes left right accepted status.TooLarge r cause
  after_matrix_comes (command.analyse kept judging) accepted r cause = absurd cause

  matrix_comes : (given : Option Command) (r : Reply) → MatrixIsRefused files given r → Comes (first_stage given) r
  matrix_comes None r cause = absurd cause
  matrix_comes (Some (command.on_source name action)) r (accepted, source, cause) = from_source name action accepted r source (after_matrix_comes action accepted r cause)
  matrix_comes (Some (command.selfload count workers)) r (accepted, judges, (plans, read, fits)) =
      λ asked. (asked, calls.answers (stages.load count workers) asked asked r (calls.finished r (inr (accepted, judges, inr (plans, read, inl fits)))))

  after_mutants_come : (action : command.Action) (accepted : Accepted) (r : Reply) → MutantsAreRefusedAfter files action accepted r → Comes (after_source action accepted) r
  after_mutants_come (command.run run) accepted r (plans, (bytes, holds, judges), is, few) =
      refused_at (stages.tests run accepted) (stages.tests_named run.tests) bytes r refl holds (inr (plans, judges, inl (allows_mutants accepted plans run.task (Err r) is few)))
  after_mutants_come (command.write text) accepted r cause = absurd cause
  after_mutants_come (command.merge left right) accepted r cause = absurd cause
  after_mutants_come (command.analyse kept judging) accepted r cause = absurd cause

  mutants_come : (given : Option Command) (r : Reply) → MutantsAreRefused files given r → Comes (first_stage given) r
  mutants_come None r cause = absurd cause
  mutants_come (Some (command.on_source name action)) r (accepted, source, cause) = from_source name action accepted r source (after_mutants_come action accepted r cause)
  mutants_come (Some (command.selfload count workers)) r cause = absurd cause

  -- ---- justifications

  reasons_at : (asked : Option (List ℕ)) (name : List ℕ) (accepted : Accepted) (basis : stages.Basis) (r : Reply) → asked ≡ Some name
      → FileIsRefused files (stages.reasons_named name) (JudgesReasons accepted) r → Comes (after_tests asked accepted basis) r
  reasons_at asked name accepted basis r is cause =
      subst (λ (o : Option (List ℕ)). Comes (after_tests o accepted basis) r) (sym is)
      (refuse (stages.reasons name accepted basis) (stages.reasons_named name) (JudgesReasons accepted) r refl (λ bytes judges. inl judges) cause)

  after_reasons_come : (action : command.Action) (accepted : Accepted) (name : List ℕ) (r : Reply) → AsksReasons files action accepted name
      → FileIsRefused files (stages.reasons_named name) (JudgesReasons accepted) r → Comes (after_source action accepted) r
  after_reasons_come (command.run run) accepted name r (is, (plans, (bytes, holds, judges), few)) cause =
      let basis = stages.tested run.task plans in
      accept (stages.tests run accepted) (after_tests (justified_by run.task) accepted basis) (stages.tests_named run.tests) bytes r refl holds
      (plans, judges, (tt, allows_matrix accepted plans run.task (Ok tt) (not_mutated run.task name is) few, refl))
      (reasons_at (justified_by run.task) name accepted basis r is cause)
  after_reasons_come (command.write text) accepted name r asks cause = absurd asks
  after_reasons_come (command.merge left right) accepted name r asks cause = absurd asks
  after_reasons_come (command.analyse kept judging) accepted name r (is, (found, (bytes, holds, judges))) cause =
      let basis = stages.recorded judging found in
      accept (stages.kept kept judging accepted) (after_tests judging.justify accepted basis) (stages.record_named kept) bytes r refl holds (found, judges, refl)
      (reasons_at judging.justify name accepted basis r is cause)

  reasons_come : (given : Option Command) (r : Reply) → ReasonsAreRefused files given r → Comes (first_stage given) r
  reasons_come None r cause = absurd cause
  reasons_come (Some (command.on_source name action)) r (accepted, source, (reasons, asks, cause)) = from_source name action accepted r source (after_reasons_come action accepted reasons r asks cause)
  reasons_come (Some (command.selfload count workers)) r cause = absurd cause

-- ---- the status of a reply that has its cause

module _ (files : Option Files) where
  refused_status : {A : Type 0} (f : File) (Judging : List ℕ → Result A Reply → Type 0) (s : Status) (r : Reply) → status_of f.kind ≡ s
      → ((bytes : List ℕ) → Judging bytes (Err r) → r.status ≡ s) → FileIsRefused files f Judging r → r.status ≡ s
  refused_status f Judging s r same each (inl (long, is)) = ap (λ (x : Reply). x.status) is ∙ same
  refused_status f Judging s r same each (inr (bytes, holds, judges)) = each bytes judges

  source_status : (given : Option Command) (r : Reply) → SourceIsRefused files given r → r.status ≡ status.SourceRefused
  source_status None r cause = absurd cause
  source_status (Some (command.on_source name action)) r cause =
      refused_status (stages.source_named name) (JudgesSourceOf action) status.SourceRefused r refl (λ bytes judges. of_source_of action bytes r judges) cause
  source_status (Some (command.selfload count workers)) r cause = of_source (source_text count) r cause

  record_status : (accepted : Accepted) (name : List ℕ) (r : Reply) → FileIsRefused files (stages.record_named name) (JudgesRecord accepted name) r → r.status ≡ status.TestsRefused
  record_status accepted name r cause =
      refused_status (stages.record_named name) (JudgesRecord accepted name) status.TestsRefused r refl (λ bytes judges. of_record accepted name bytes r judges) cause

  after_tests_status : (action : command.Action) (accepted : Accepted) (r : Reply) → TestsOrRecordsAreRefusedAfter files action accepted r → r.status ≡ status.TestsRefused
  after_tests_status (command.run run) accepted r (inl (long, is)) = ap (λ (x : Reply). x.status) is
  after_tests_status (command.run run) accepted r (inr (bytes, holds, (fault, read, is))) = ap (λ (x : Reply). x.status) is
  after_tests_status (command.write text) accepted r cause = absurd cause
  after_tests_status (command.merge left right) accepted r (inl cause) = record_status accepted left r cause
  after_tests_status (command.merge left right) accepted r (inr (inl (first, one, cause))) = record_status accepted right r cause
  after_tests_status (command.merge left right) accepted r (inr (inr (first, second, are, (joins, is)))) = is
  after_tests_status (command.analyse kept judging) accepted r cause = record_status accepted kept r cause

  tests_status : (given : Option Command) (r : Reply) → TestsOrRecordsAreRefused files given r → r.status ≡ status.TestsRefused
  tests_status None r cause = absurd cause
  tests_status (Some (command.on_source name action)) r (accepted, source, cause) = after_tests_status action accepted r cause
  tests_status (Some (command.selfload count workers)) r (accepted, judges, (fault, read, is)) = ap (λ (x : Reply). x.status) is

  after_matrix_status : (action : command.Action) (accepted : Accepted) (r : Reply) → MatrixIsRefusedAfter files action accepted r → r.status ≡ status.TooLarge
  after_matrix_status (command.run run) accepted r (plans, are, other, fits) = of_matrix accepted plans r fits
  after_matrix_status (command.write text) accepted r cause = absurd cause
  after_matrix_status (command.merge left right) accepted r (first, second, are, (joins, is)) = is
  after_matrix_status (command.analyse kept judging) accepted r cause = absurd cause

  matrix_status : (given : Option Command) (r : Reply) → MatrixIsRefused files given r → r.status ≡ status.TooLarge
  matrix_status None r cause = absurd cause
  matrix_status (Some (command.on_source name action)) r (accepted, source, cause) = after_matrix_status action accepted r cause
  matrix_status (Some (command.selfload count workers)) r (accepted, judges, (plans, read, fits)) = of_matrix accepted plans r fits

  after_mutants_status : (action : command.Action) (accepted : Accepted) (r : Reply) → MutantsAreRefusedAfter files action accepted r → r.status ≡ status.TooManyMutants
  after_mutants_status (command.run run) accepted r (plans, are, is, few) = of_mutants accepted r few
  after_mutants_status (command.write text) accepted r cause = absurd cause
  after_mutants_status (command.merge left right) accepted r cause = absurd cause
  after_mutants_status (command.analyse kept judging) accepted r cause = absurd cause

  mutants_status : (given : Option Command) (r : Reply) → MutantsAreRefused files given r → r.status ≡ status.TooManyMutants
  mutants_status None r cause = absurd cause
  mutants_status (Some (command.on_source name action)) r (accepted, source, cause) = after_mutants_status action accepted r cause
  mutants_status (Some (command.selfload count workers)) r cause = absurd cause

  reasons_status : (given : Option Command) (r : Reply) → ReasonsAreRefused files given r → r.status ≡ status.JustificationsRefused
  reasons_status None r cause = absurd cause
  reasons_status (Some (command.on_source name action)) r (accepted, source, (reasons, asks, inl (long, is))) = ap (λ (x : Reply). x.status) is
  reasons_status (Some (command.on_source name action)) r (accepted, source, (reasons, asks, inr (bytes, holds, (fault, read, is)))) = ap (λ (x : Reply). x.status) is
  reasons_status (Some (command.selfload count workers)) r cause = absurd cause

-- ---- calls

refusal_answers : (s : Status) → IsOfRefusal s → IsAnswer s
refusal_answers status.Done is = absurd is
refusal_answers status.Incomplete is = absurd is
refusal_answers status.NoCommand is = tt
refusal_answers status.SourceRefused is = tt
refusal_answers status.TestsRefused is = tt
refusal_answers status.JustificationsRefused is = tt
refusal_answers status.CannotRead is = absurd is
refusal_answers status.CannotWrite is = absurd is
refusal_answers status.OutOfMemory is = absurd is
refusal_answers status.TooLarge is = tt
refusal_answers status.TooManyMutants is = tt

called : (call : Call) (r : Reply) (s : Status) → IsOfRefusal s → r.status ≡ s → Comes call.skipped call.files (first_stage (command_of call.words)) r → CallsFor call r × (r.status ≡ s)
called call r s refusal is comes =
    let (after, leads) = comes None in ((subst IsAnswer (sym is) (refusal_answers s refusal), (None, after, leads)), is)

pub causes_call : CausesCall
causes_call call r status.Done refusal cause = absurd refusal
causes_call call r status.Incomplete refusal cause = absurd refusal
causes_call call r status.NoCommand refusal (none, is) =
    called call r status.NoCommand refusal (ap (λ (x : Reply). x.status) is)
    (subst (λ (c : Option Command). Comes call.skipped call.files (first_stage c) r) (sym none) (λ asked. (asked, calls.answers stages.usage asked asked r (calls.finished r is))))
causes_call call r status.SourceRefused refusal cause =
    let given = command_of call.words in
    called call r status.SourceRefused refusal (source_status call.files given r cause) (source_comes call.skipped call.files given r cause)
causes_call call r status.TestsRefused refusal cause =
    let given = command_of call.words in
    called call r status.TestsRefused refusal (tests_status call.files given r cause) (tests_come call.skipped call.files given r cause)
causes_call call r status.JustificationsRefused refusal cause =
    let given = command_of call.words in
    called call r status.JustificationsRefused refusal (reasons_status call.files given r cause) (reasons_come call.skipped call.files given r cause)
causes_call call r status.CannotRead refusal cause = absurd refusal
causes_call call r status.CannotWrite refusal cause = absurd refusal
causes_call call r status.OutOfMemory refusal cause = absurd refusal
causes_call call r status.TooLarge refusal cause =
    let given = command_of call.words in
    called call r status.TooLarge refusal (matrix_status call.files given r cause) (matrix_comes call.skipped call.files given r cause)
causes_call call r status.TooManyMutants refusal cause =
    let given = command_of call.words in
    called call r status.TooManyMutants refusal (mutants_status call.files given r cause) (mutants_come call.skipped call.files given r cause)
