-- Each status has its cause.
use Rattle.std.proofs.Common.{◌≡◌, ◌∙◌, ◌⊎◌, ℕ, List, Option, Some, None, Ok, Err, true, false, if◌then◌else◌, refl, sym, ap, subst, inl, inr}
use Rattle.std.specs.Prelude.{◌==◌, All, [], ◌∷◌, map, ⊤}
use Rattle.std.proofs.lemmas.List.Elements.{All-nil, All-cons}
use Rattle.mc_command.specs.Command as command
use Rattle.mc_command.specs.Command.{Command, MatrixTask, SourceText, Task, command_of}
use Rattle.mc_gen.specs.Source.{source_text}
use Rattle.mc_port.specs.Store.{Files, IsLonger, and_asked}
use Rattle.mc_record.specs.Kept.{Kept}
use Rattle.mc_record.specs.declared.pair_fault.PairFault.{PairFault}
use Rattle.mc_record.specs.declared.pair_fault.PairFault.TheVariants as pair
use Rattle.mc_record.specs.Merged.{pair_fault}
use Rattle.mc_oblige.specs.Shown.{HasEvent}
use Rattle.mc_oblige.specs.declared.justification.Justification.{Justification}
use Rattle.mc_typed.specs.Plans.{Plan}
use Rattle.station_replies.specs.Files.{File, Holds, limit_of, request_of}
use Rattle.station_replies.specs.Reply.{Reply, longer, written}
use Rattle.station_replies.specs.declared.status.Status.{Status}
use Rattle.station_replies.specs.declared.status.Status.TheVariants as status
use Rattle.station_replies.proofs.Phases.{refusal_status}
use Rattle.mc_station.specs.Calls as calls
use Rattle.mc_station.specs.Calls.{Answers, Fails, Leads, Requests}
use Rattle.mc_station.specs.Causes.{AsksReasons, Cause, IsAsked, IsOfText, MatrixIsRefused, MutantsAreRefused, ReasonsAreRefused, RecordIs, SourceIs, SourceIsRefused, TestsOrRecordsAreRefused}
use Rattle.mc_station.specs.Laws.{and_all}
use Rattle.mc_station.specs.Records.{JudgesRecord}
use Rattle.mc_station.specs.Named.{JudgesSourceOf}
use Rattle.mc_station.specs.Source.{Accepted, JudgesSource}
use Rattle.mc_station.specs.Stages as stages
use Rattle.mc_station.specs.Stages.{Ends, Judges, Stage, Tells, TellsOnMatrix, Writes, after_source, after_tests, file_of, first_stage, justified_by}
use Rattle.mc_station.specs.Statuses.{AskedInTurn, StatusesHaveCauses, TextsAreAlone}
use Rattle.mc_station.specs.Tests.{MatrixFits, stands, tested_of}
use Rattle.mc_station.specs.commands.Analyse.{tested_in}
use Rattle.mc_station.specs.commands.Merge.{Joins, pair_reply}
use Rattle.mc_station.specs.commands.Mutate.{FewMutants}
use Rattle.mc_station.specs.commands.Selfload.{LoadsItself}
use Rattle.mc_station.proofs.Allowing.{allowed_fits, asked}
use Rattle.mc_station.proofs.Joining.{no_memory}
use Rattle.mc_station.proofs.Order.{and_more, none_more, one_more}
use Rattle.mc_station.proofs.Refusing.{refuses_source, refuses_source_of}
use Rattle.mc_station.proofs.Reporting.{IsWritten, judged_whole}

-- ---- the status of a refusal

pub of_source : (bytes : List ℕ) (r : Reply) → JudgesSource bytes (Err r) → r.status ≡ status.SourceRefused
of_source bytes r judges = refusal_status status.SourceRefused r (refuses_source bytes r judges)

pub of_source_of : (action : command.Action) (bytes : List ℕ) (r : Reply) → JudgesSourceOf action bytes (Err r) → r.status ≡ status.SourceRefused
of_source_of action bytes r judges = refusal_status status.SourceRefused r (refuses_source_of action bytes r judges)

pub of_record : (accepted : Accepted) (name bytes : List ℕ) (r : Reply) → JudgesRecord accepted name bytes (Err r) → r.status ≡ status.TestsRefused
of_record accepted name bytes r (old, holds, (fault, given, is)) = ap (λ (x : Reply). x.status) is

pub of_matrix : (accepted : Accepted) (plans : List Plan) (r : Reply) → MatrixFits accepted plans (Err r) → r.status ≡ status.TooLarge
of_matrix accepted plans r (large, is) = ap (λ (x : Reply). x.status) is

pub of_mutants : (accepted : Accepted) (r : Reply) → FewMutants accepted (Err r) → r.status ≡ status.TooManyMutants
of_mutants accepted r (many, is) = ap (λ (x : Reply). x.status) is

-- a pair is refused with one of two statuses
abbrev IsOfPair : Status → Type 0
IsOfPair s = (s ≡ status.TestsRefused) ⊎ (s ≡ status.TooLarge)

pair_status : (left right : Kept) (fault : PairFault) → pair_fault left right ≡ Some fault → IsOfPair (pair_reply fault).status
pair_status left right (pair.SameTest l r) is = inl refl
pair_status left right (pair.Limit tests) is = inl refl
pair_status left right (pair.TooLarge words) is = inr refl
pair_status left right pair.OutOfMemory is = absurd (no_memory left right is)

of_pair : (left right : Kept) (r : Reply) → Joins left right (Err r) → IsOfPair r.status
of_pair left right r (fault, given, is) = subst (λ (x : Reply). IsOfPair x.status) (sym is) (pair_status left right fault given)

-- ---- what is accepted at a stage

module _ (files : Option Files) (given : Option Command) where
  -- what is accepted where the command has come to a stage
  abbrev pub At : Stage → Type 0
  At stages.usage = given ≡ None
  At (stages.source name action) = given ≡ Some (command.on_source name action)
  At (stages.writes text accepted) = ⊤
  At (stages.tests run accepted) = (name : List ℕ) × (given ≡ Some (command.on_source name (command.run run))) × SourceIs files name (command.run run) accepted
  At (stages.left name other accepted) = (source : List ℕ) × (given ≡ Some (command.on_source source (command.merge name other))) × SourceIs files source (command.merge name other) accepted
  At (stages.right name accepted first) =
      (source : List ℕ) × (left : List ℕ) × (given ≡ Some (command.on_source source (command.merge left name))) × (SourceIs files source (command.merge left name) accepted × RecordIs files left accepted first)
  At (stages.kept name judging accepted) = (source : List ℕ) × (given ≡ Some (command.on_source source (command.analyse name judging))) × SourceIs files source (command.analyse name judging) accepted
  At (stages.reasons name accepted basis) =
      (source : List ℕ) × (action : command.Action) × (given ≡ Some (command.on_source source action)) × (SourceIs files source action accepted × AsksReasons files action accepted name)
  At (stages.last accepted basis js) = ⊤
  At (stages.merged both) = ⊤
  At (stages.load count workers) = given ≡ Some (command.selfload count workers)

  at_action : (name : List ℕ) (action : command.Action) (accepted : Accepted) → given ≡ Some (command.on_source name action) → SourceIs files name action accepted → At (after_source action accepted)
  at_action name (command.run run) accepted is source = (name, is, source)
  at_action name (command.write text) accepted is source = tt
  at_action name (command.merge left right) accepted is source = (name, is, source)
  at_action name (command.analyse kept judging) accepted is source = (name, is, source)

  at_reasons : (asked : Option (List ℕ)) (source : List ℕ) (action : command.Action) (accepted : Accepted) (basis : stages.Basis) → given ≡ Some (command.on_source source action)
      → SourceIs files source action accepted → ((name : List ℕ) → asked ≡ Some name → AsksReasons files action accepted name) → At (after_tests asked accepted basis)
  at_reasons None source action accepted basis is held asks = tt
  at_reasons (Some name) source action accepted basis is held asks = (source, action, is, (held, asks name refl))

  -- the file of a stage has these bytes
  held_as : (f g : File) (bytes : List ℕ) → f ≡ g → Holds files f bytes → Holds files g bytes
  held_as f g bytes same holds = subst (λ (x : File). Holds files x bytes) same holds

  -- it is accepted
  pub goes_on : (s t : Stage) (f : File) (bytes : List ℕ) → At s → file_of s ≡ Some f → Holds files f bytes → Judges s bytes (Ok t) → At t
  goes_on stages.usage t f bytes at is holds judges = absurd judges
  goes_on (stages.source name action) t f bytes at is holds (accepted, judges, next) =
      let same : t ≡ after_source action accepted = cc next in
      let held = held_as f (stages.source_named name) bytes (cc is) holds in
      subst At (sym same) (at_action name action accepted at (bytes, held, judges))
  goes_on (stages.writes text accepted) t f bytes at is holds judges = absurd judges
  goes_on (stages.tests run accepted) t f bytes (name, given_is, source) is holds (plans, judges, (u, fits, next)) =
      let asked = justified_by run.task in
      let same : t ≡ after_tests asked accepted (stages.tested run.task plans) = cc next in
      let held = held_as f (stages.tests_named run.tests) bytes (cc is) holds in
      subst At (sym same) (at_reasons asked name (command.run run) accepted (stages.tested run.task plans) given_is source (λ reasons asks. (asks, (plans, (bytes, held, judges), allowed_fits run.task reasons accepted plans u asks fits))))
  goes_on (stages.left name other accepted) t f bytes (source, given_is, from) is holds (first, judges, next) =
      let same : t ≡ stages.right other accepted first = cc next in
      let held = held_as f (stages.record_named name) bytes (cc is) holds in
      subst At (sym same) (source, name, given_is, (from, (bytes, held, judges)))
  goes_on (stages.right name accepted first) t f bytes at is holds (second, judges, (both, joins, next)) =
      let same : t ≡ stages.merged both = cc next in subst At (sym same) tt
  goes_on (stages.kept name judging accepted) t f bytes (source, given_is, from) is holds (found, judges, next) =
      let same : t ≡ after_tests judging.justify accepted (stages.recorded judging found) = cc next in
      let held = held_as f (stages.record_named name) bytes (cc is) holds in
      subst At (sym same) (at_reasons judging.justify source (command.analyse name judging) accepted (stages.recorded judging found) given_is from (λ reasons asks. (asks, (found, (bytes, held, judges)))))
  goes_on (stages.reasons name accepted basis) t f bytes at is holds (js, judges, next) =
      let same : t ≡ stages.last accepted basis js = cc next in subst At (sym same) tt
  goes_on (stages.last accepted basis js) t f bytes at is holds judges = absurd judges
  goes_on (stages.merged both) t f bytes at is holds judges = absurd judges
  goes_on (stages.load count workers) t f bytes at is holds judges = absurd judges

  -- the file of a stage is asked for after these
  pub asks : (s : Stage) (f : File) → At s → file_of s ≡ Some f → IsAsked files given f
  asks stages.usage f at is = absurd (cc is)
  asks (stages.source name action) f at is =
      subst (λ (c : Option Command). IsAsked files c f) (sym at) (inl (cc is))
  asks (stages.writes text accepted) f at is = absurd (cc is)
  asks (stages.tests run accepted) f (name, given_is, source) is =
      subst (λ (c : Option Command). IsAsked files c f) (sym given_is) (inr (accepted, source, inl (cc is)))
  asks (stages.left name other accepted) f (source, given_is, from) is =
      subst (λ (c : Option Command). IsAsked files c f) (sym given_is) (inr (accepted, from, inl (inl (cc is))))
  asks (stages.right name accepted first) f (source, left, given_is, (from, record_is)) is =
      subst (λ (c : Option Command). IsAsked files c f) (sym given_is) (inr (accepted, from, inl (inr (first, record_is, cc is))))
  asks (stages.kept name judging accepted) f (source, given_is, from) is =
      subst (λ (c : Option Command). IsAsked files c f) (sym given_is) (inr (accepted, from, inl (cc is)))
  asks (stages.reasons name accepted basis) f (source, action, given_is, (from, after)) is =
      subst (λ (c : Option Command). IsAsked files c f) (sym given_is) (inr (accepted, from, inr (name, after, cc is)))
  asks (stages.last accepted basis js) f at is = absurd (cc is)
  asks (stages.merged both) f at is = absurd (cc is)
  asks (stages.load count workers) f at is = absurd (cc is)

  -- ---- the cause of a reply

  -- the cause, or that the errors' sink gets nothing
  abbrev pub Because : Reply → Status → Type 0
  Because r status.Done = r.diag ≡ []
  Because r status.Incomplete = r.diag ≡ []
  Because r status.NoCommand = Cause files given r status.NoCommand
  Because r status.SourceRefused = Cause files given r status.SourceRefused
  Because r status.TestsRefused = Cause files given r status.TestsRefused
  Because r status.JustificationsRefused = Cause files given r status.JustificationsRefused
  Because r status.CannotRead = Cause files given r status.CannotRead
  Because r status.CannotWrite = Cause files given r status.CannotWrite
  Because r status.OutOfMemory = Cause files given r status.OutOfMemory
  Because r status.TooLarge = Cause files given r status.TooLarge
  Because r status.TooManyMutants = Cause files given r status.TooManyMutants

  cause_of : (r : Reply) (s : Status) → Because r s → IsOfText s ⊎ Cause files given r s
  cause_of r status.Done because = inl tt
  cause_of r status.Incomplete because = inl tt
  cause_of r status.NoCommand because = inr because
  cause_of r status.SourceRefused because = inr because
  cause_of r status.TestsRefused because = inr because
  cause_of r status.JustificationsRefused because = inr because
  cause_of r status.CannotRead because = inr because
  cause_of r status.CannotWrite because = inr because
  cause_of r status.OutOfMemory because = inr because
  cause_of r status.TooLarge because = inr because
  cause_of r status.TooManyMutants because = inr because

  alone_in : (r : Reply) (s : Status) → IsOfText s → Because r s → r.diag ≡ []
  alone_in r status.Done is because = because
  alone_in r status.Incomplete is because = because
  alone_in r status.NoCommand is because = absurd is
  alone_in r status.SourceRefused is because = absurd is
  alone_in r status.TestsRefused is because = absurd is
  alone_in r status.JustificationsRefused is because = absurd is
  alone_in r status.CannotRead is because = absurd is
  alone_in r status.CannotWrite is because = absurd is
  alone_in r status.OutOfMemory is because = absurd is
  alone_in r status.TooLarge is because = absurd is
  alone_in r status.TooManyMutants is because = absurd is

  -- by the status that it has
  with_status : (s : Status) (r : Reply) → r.status ≡ s → Because r s → Because r r.status
  with_status s r is cause = subst (λ (x : Status). Because r x) (sym is) cause

  -- a text that is written
  is_written : (number : ℕ) (lines : List (List ℕ)) (r : Reply) → r ≡ written number lines → Because r r.status
  is_written number lines r is =
      subst (λ (x : Reply). Because x x.status) (sym is)
      (elim (number == 0) as (λ b. Because (record { status = (if b then status.Done else status.Incomplete); diag = []; out = lines }) (if b then status.Done else status.Incomplete)) [ true ↦ refl | false ↦ refl ])

  is_whole : (r : Reply) → IsWritten r → Because r r.status
  is_whole r whole = is_written whole.number whole.lines r whole.is

  matrix_cause : (skipped : List ℕ) (task : MatrixTask) (accepted : Accepted) (plans : List Plan) (js : List Justification) (r : Reply) → TellsOnMatrix skipped task accepted plans js r → Because r r.status
  matrix_cause skipped (command.judged asked) accepted plans js r judges = is_whole r (judged_whole (stands skipped accepted plans) asked accepted (tested_of accepted.program plans) js r judges)
  matrix_cause skipped command.vectors accepted plans js r (paths, are, is) = is_written _ _ r is
  matrix_cause skipped command.recorded accepted plans js r (kept, of, is) = is_written _ _ r is
  matrix_cause skipped (command.reduced mode) accepted plans js r (kept, lost, reduced, is) = is_written _ _ r is

  tells_cause : (skipped : List ℕ) (task : Task) (accepted : Accepted) (plans : List Plan) (js : List Justification) (r : Reply) → Tells skipped task accepted plans js r → Because r r.status
  tells_cause skipped (command.on_matrix task) accepted plans js r tells = matrix_cause skipped task accepted plans js r tells
  tells_cause skipped (command.watched looks) accepted plans js r (counts, recorded, counted, many, is) = is_written _ _ r is
  tells_cause skipped command.mutated accepted plans js r (killers, are, is) = is_written _ _ r is
  tells_cause skipped command.traced accepted plans js r is = is_written _ _ r is

  writes_cause : (text : SourceText) (accepted : Accepted) (r : Reply) → Writes text accepted r → Because r r.status
  writes_cause command.instrumented accepted r (tokens, lexes, is) = is_written 0 _ r is
  writes_cause command.adapted accepted r is = is_written 0 _ r is

  on_source : (r : Reply) → SourceIsRefused files given r → r.status ≡ status.SourceRefused → Because r r.status
  on_source r cause is = with_status status.SourceRefused r is cause

  on_tests : (r : Reply) → TestsOrRecordsAreRefused files given r → r.status ≡ status.TestsRefused → Because r r.status
  on_tests r cause is = with_status status.TestsRefused r is cause

  on_matrix : (r : Reply) → MatrixIsRefused files given r → r.status ≡ status.TooLarge → Because r r.status
  on_matrix r cause is = with_status status.TooLarge r is cause

  on_mutants : (r : Reply) → MutantsAreRefused files given r → r.status ≡ status.TooManyMutants → Because r r.status
  on_mutants r cause is = with_status status.TooManyMutants r is cause

  loads_cause : (skipped : List ℕ) (count workers : ℕ) (r : Reply) → given ≡ Some (command.selfload count workers) → LoadsItself skipped count r → Because r r.status
  loads_cause skipped count workers r at (inl judges) =
      on_source r (subst (λ (c : Option Command). SourceIsRefused files c r) (sym at) judges) (of_source (source_text count) r judges)
  loads_cause skipped count workers r at (inr (accepted, judges, inl (fault, read, is))) =
      on_tests r (subst (λ (c : Option Command). TestsOrRecordsAreRefused files c r) (sym at) (accepted, judges, (fault, read, is))) (ap (λ (x : Reply). x.status) is)
  loads_cause skipped count workers r at (inr (accepted, judges, inr (plans, read, inl fits))) =
      on_matrix r (subst (λ (c : Option Command). MatrixIsRefused files c r) (sym at) (accepted, judges, (plans, read, fits))) (of_matrix accepted plans r fits)
  loads_cause skipped count workers r at (inr (accepted, judges, inr (plans, read, inr (u, fits, (made, on, is))))) = is_written 0 _ r is

  ends_cause : (skipped : List ℕ) (s : Stage) (r : Reply) → At s → Ends skipped s r → Because r r.status
  ends_cause skipped stages.usage r at is = with_status status.NoCommand r (ap (λ (x : Reply). x.status) is) (at, is)
  ends_cause skipped (stages.source name action) r at ends = absurd ends
  ends_cause skipped (stages.writes text accepted) r at ends = writes_cause text accepted r ends
  ends_cause skipped (stages.tests run accepted) r at ends = absurd ends
  ends_cause skipped (stages.left name other accepted) r at ends = absurd ends
  ends_cause skipped (stages.right name accepted first) r at ends = absurd ends
  ends_cause skipped (stages.kept name judging accepted) r at ends = absurd ends
  ends_cause skipped (stages.reasons name accepted basis) r at ends = absurd ends
  ends_cause skipped (stages.last accepted (stages.tested task plans) js) r at ends = tells_cause skipped task accepted plans js r ends
  ends_cause skipped (stages.last accepted (stages.recorded asked found) js) r at judges = is_whole r (judged_whole (HasEvent accepted.map found.matrix) asked accepted (tested_in found) js r judges)
  ends_cause skipped (stages.merged both) r at is = is_written 0 _ r is
  ends_cause skipped (stages.load count workers) r at loads = loads_cause skipped count workers r at loads

  -- a file that is too long, or whose bytes are refused, as its stage judges them
  abbrev Bad : File → (List ℕ → Reply → Type 0) → Reply → Type 0
  Bad f Judged r = (IsLonger files f.name (limit_of f.kind) × (r ≡ longer f)) ⊎ ((bytes : List ℕ) × Holds files f bytes × Judged bytes r)

  on_first : (name : List ℕ) (action : command.Action) (r : Reply) → given ≡ Some (command.on_source name action) → Bad (stages.source_named name) (λ bytes q. Judges (stages.source name action) bytes (Err q)) r → Because r r.status
  on_first name action r at (inl (long, is)) =
      on_source r (subst (λ (c : Option Command). SourceIsRefused files c r) (sym at) (inl (long, is))) (ap (λ (x : Reply). x.status) is)
  on_first name action r at (inr (bytes, holds, inl judges)) =
      on_source r (subst (λ (c : Option Command). SourceIsRefused files c r) (sym at) (inr (bytes, holds, judges))) (of_source_of action bytes r judges)
  on_first name action r at (inr (bytes, holds, inr (accepted, judges, next))) = absurd (cc next)

  on_plans : (run : command.Run) (accepted : Accepted) (r : Reply) → At (stages.tests run accepted) → Bad (stages.tests_named run.tests) (λ bytes q. Judges (stages.tests run accepted) bytes (Err q)) r → Because r r.status
  on_plans run accepted r (name, at, source) (inl (long, is)) =
      on_tests r (subst (λ (c : Option Command). TestsOrRecordsAreRefused files c r) (sym at) (accepted, source, inl (long, is))) (ap (λ (x : Reply). x.status) is)
  on_plans run accepted r (name, at, source) (inr (bytes, holds, inl (fault, read, is))) =
      on_tests r (subst (λ (c : Option Command). TestsOrRecordsAreRefused files c r) (sym at) (accepted, source, inr (bytes, holds, (fault, read, is)))) (ap (λ (x : Reply). x.status) is)
  on_plans run accepted r (name, at, source) (inr (bytes, holds, inr (plans, judges, inl refused))) = elim (asked accepted plans run.task (Err r) refused) [
    | inl matrix ↦ on_matrix r (subst (λ (c : Option Command). MatrixIsRefused files c r) (sym at) (accepted, source, (plans, (bytes, holds, judges), matrix.0, matrix.1))) (of_matrix accepted plans r matrix.1)
    | inr mutants ↦ on_mutants r (subst (λ (c : Option Command). MutantsAreRefused files c r) (sym at) (accepted, source, (plans, (bytes, holds, judges), mutants.0, mutants.1))) (of_mutants accepted r mutants.1)
  ]
  on_plans run accepted r (name, at, source) (inr (bytes, holds, inr (plans, judges, inr (u, fits, next)))) = absurd (cc next)

  on_left : (name other : List ℕ) (accepted : Accepted) (r : Reply) → At (stages.left name other accepted) → Bad (stages.record_named name) (λ bytes q. Judges (stages.left name other accepted) bytes (Err q)) r → Because r r.status
  on_left name other accepted r (source, at, from) (inl (long, is)) =
      on_tests r (subst (λ (c : Option Command). TestsOrRecordsAreRefused files c r) (sym at) (accepted, from, inl (inl (long, is)))) (ap (λ (x : Reply). x.status) is)
  on_left name other accepted r (source, at, from) (inr (bytes, holds, inl judges)) =
      on_tests r (subst (λ (c : Option Command). TestsOrRecordsAreRefused files c r) (sym at) (accepted, from, inl (inr (bytes, holds, judges)))) (of_record accepted name bytes r judges)
  on_left name other accepted r (source, at, from) (inr (bytes, holds, inr (first, judges, next))) = absurd (cc next)

  on_pair : (source left right : List ℕ) (accepted : Accepted) (first second : Kept) (r : Reply) → given ≡ Some (command.on_source source (command.merge left right)) → SourceIs files source (command.merge left right) accepted
      → RecordIs files left accepted first → RecordIs files right accepted second → Joins first second (Err r) → IsOfPair r.status → Because r r.status
  on_pair source left right accepted first second r at from one other joins (inl is) =
      on_tests r (subst (λ (c : Option Command). TestsOrRecordsAreRefused files c r) (sym at) (accepted, from, inr (inr (first, second, (one, other), (joins, is))))) is
  on_pair source left right accepted first second r at from one other joins (inr is) =
      on_matrix r (subst (λ (c : Option Command). MatrixIsRefused files c r) (sym at) (accepted, from, (first, second, (one, other), (joins, is)))) is

  on_right : (name : List ℕ) (accepted : Accepted) (first : Kept) (r : Reply) → At (stages.right name accepted first) → Bad (stages.record_named name) (λ bytes q. Judges (stages.right name accepted first) bytes (Err q)) r → Because r r.status
  on_right name accepted first r (source, left, at, (from, one)) (inl (long, is)) =
      on_tests r (subst (λ (c : Option Command). TestsOrRecordsAreRefused files c r) (sym at) (accepted, from, inr (inl (first, one, inl (long, is))))) (ap (λ (x : Reply). x.status) is)
  on_right name accepted first r (source, left, at, (from, one)) (inr (bytes, holds, inl judges)) =
      on_tests r (subst (λ (c : Option Command). TestsOrRecordsAreRefused files c r) (sym at) (accepted, from, inr (inl (first, one, inr (bytes, holds, judges))))) (of_record accepted name bytes r judges)
  on_right name accepted first r (source, left, at, (from, one)) (inr (bytes, holds, inr (second, judges, inl joins))) =
      on_pair source left name accepted first second r at from one (bytes, holds, judges) joins (of_pair first second r joins)
  on_right name accepted first r (source, left, at, (from, one)) (inr (bytes, holds, inr (second, judges, inr (both, joins, next)))) = absurd (cc next)

  on_kept : (name : List ℕ) (judging : command.Judging) (accepted : Accepted) (r : Reply) → At (stages.kept name judging accepted) → Bad (stages.record_named name) (λ bytes q. Judges (stages.kept name judging accepted) bytes (Err q)) r → Because r r.status
  on_kept name judging accepted r (source, at, from) (inl (long, is)) =
      on_tests r (subst (λ (c : Option Command). TestsOrRecordsAreRefused files c r) (sym at) (accepted, from, inl (long, is))) (ap (λ (x : Reply). x.status) is)
  on_kept name judging accepted r (source, at, from) (inr (bytes, holds, inl judges)) =
      on_tests r (subst (λ (c : Option Command). TestsOrRecordsAreRefused files c r) (sym at) (accepted, from, inr (bytes, holds, judges))) (of_record accepted name bytes r judges)
  on_kept name judging accepted r (source, at, from) (inr (bytes, holds, inr (found, judges, next))) = absurd (cc next)

  on_reasons : (name : List ℕ) (accepted : Accepted) (basis : stages.Basis) (r : Reply) → At (stages.reasons name accepted basis) → Bad (stages.reasons_named name) (λ bytes q. Judges (stages.reasons name accepted basis) bytes (Err q)) r → Because r r.status
  on_reasons name accepted basis r (source, action, at, (from, after)) (inl (long, is)) =
      with_status status.JustificationsRefused r (ap (λ (x : Reply). x.status) is)
      (subst (λ (c : Option Command). ReasonsAreRefused files c r) (sym at) (accepted, from, (name, after, inl (long, is))))
  on_reasons name accepted basis r (source, action, at, (from, after)) (inr (bytes, holds, inl (fault, read, is))) =
      with_status status.JustificationsRefused r (ap (λ (x : Reply). x.status) is)
      (subst (λ (c : Option Command). ReasonsAreRefused files c r) (sym at) (accepted, from, (name, after, inr (bytes, holds, (fault, read, is)))))
  on_reasons name accepted basis r (source, action, at, (from, after)) (inr (bytes, holds, inr (js, judges, next))) = absurd (cc next)

  -- of a stage that asks for a file
  bad_cause : (s : Stage) (f : File) (r : Reply) → At s → file_of s ≡ Some f → Bad f (λ bytes q. Judges s bytes (Err q)) r → Because r r.status
  bad_cause stages.usage f r at is bad = absurd (cc is)
  bad_cause (stages.source name action) f r at is bad =
      let same : f ≡ stages.source_named name = cc is in
      on_first name action r at (subst (λ (x : File). Bad x (λ bytes q. Judges (stages.source name action) bytes (Err q)) r) same bad)
  bad_cause (stages.writes text accepted) f r at is bad = absurd (cc is)
  bad_cause (stages.tests run accepted) f r at is bad =
      let same : f ≡ stages.tests_named run.tests = cc is in
      on_plans run accepted r at (subst (λ (x : File). Bad x (λ bytes q. Judges (stages.tests run accepted) bytes (Err q)) r) same bad)
  bad_cause (stages.left name other accepted) f r at is bad =
      let same : f ≡ stages.record_named name = cc is in
      on_left name other accepted r at (subst (λ (x : File). Bad x (λ bytes q. Judges (stages.left name other accepted) bytes (Err q)) r) same bad)
  bad_cause (stages.right name accepted first) f r at is bad =
      let same : f ≡ stages.record_named name = cc is in
      on_right name accepted first r at (subst (λ (x : File). Bad x (λ bytes q. Judges (stages.right name accepted first) bytes (Err q)) r) same bad)
  bad_cause (stages.kept name judging accepted) f r at is bad =
      let same : f ≡ stages.record_named name = cc is in
      on_kept name judging accepted r at (subst (λ (x : File). Bad x (λ bytes q. Judges (stages.kept name judging accepted) bytes (Err q)) r) same bad)
  bad_cause (stages.reasons name accepted basis) f r at is bad =
      let same : f ≡ stages.reasons_named name = cc is in
      on_reasons name accepted basis r at (subst (λ (x : File). Bad x (λ bytes q. Judges (stages.reasons name accepted basis) bytes (Err q)) r) same bad)
  bad_cause (stages.last accepted basis js) f r at is bad = absurd (cc is)
  bad_cause (stages.merged both) f r at is bad = absurd (cc is)
  bad_cause (stages.load count workers) f r at is bad = absurd (cc is)

  answers_cause : (skipped : List ℕ) (s : Stage) (a b : Requests) (r : Reply) → At s → Answers skipped files s a r b → Because r r.status
  answers_cause skipped s a b r at (calls.finished x ends) = ends_cause skipped s r at ends
  answers_cause skipped s a b r at (calls.too_long f is long) = bad_cause s f (longer f) at is (inl (long, refl))
  answers_cause skipped s a b r at (calls.refused f bytes x is holds judges) = bad_cause s f r at is (inr (bytes, holds, judges))

  fails_cause : (s : Stage) (a b : Requests) (r : Reply) → At s → Fails s a r b → Because r r.status
  fails_cause s a b r at (calls.unreadable f is) = (f, asks s f at is, refl)
  fails_cause s a b r at calls.no_memory = refl
  fails_cause s a b r at (calls.no_memory_after f is) = refl

  pub leads_cause : (skipped : List ℕ) (s : Stage) (a b : Requests) (r : Reply) → At s → Leads skipped files s a r b → Because r r.status
  leads_cause skipped s a b r at (calls.answers _ _ _ _ x) = answers_cause skipped s a b r at x
  leads_cause skipped s a b r at (calls.fails _ _ _ _ x) = fails_cause s a b r at x
  leads_cause skipped s a b r at (calls.accepted _ t f bytes _ _ _ is holds judges leads) =
      leads_cause skipped t (and_asked a (request_of f)) b r (goes_on s t f bytes at is holds judges) leads

  -- ---- what was asked

  abbrev InTurn : Requests → Requests → Type 0
  InTurn asked after = (fs : List File) × All (IsAsked files given) fs × (after ≡ and_all asked (map request_of fs))

  none_asked : (asked : Requests) → InTurn asked asked
  none_asked asked = ([], All-nil (IsAsked files given), none_more asked)

  one_asked : (s : Stage) (f : File) (asked : Requests) → At s → file_of s ≡ Some f → InTurn asked (and_asked asked (request_of f))
  one_asked s f asked at is = (f ∷ [], All-cons (IsAsked files given) f [] (asks s f at is) (All-nil (IsAsked files given)), one_more asked (request_of f))

  in_turn : (skipped : List ℕ) (s : Stage) (a b : Requests) (r : Reply) → At s → Leads skipped files s a r b → InTurn a b
  in_turn skipped s a b r at (calls.answers _ _ _ _ (calls.finished x ends)) = none_asked a
  in_turn skipped s a b r at (calls.answers _ _ _ _ (calls.too_long f is long)) = one_asked s f a at is
  in_turn skipped s a b r at (calls.answers _ _ _ _ (calls.refused f bytes x is holds judges)) = one_asked s f a at is
  in_turn skipped s a b r at (calls.fails _ _ _ _ (calls.unreadable f is)) = one_asked s f a at is
  in_turn skipped s a b r at (calls.fails _ _ _ _ calls.no_memory) = none_asked a
  in_turn skipped s a b r at (calls.fails _ _ _ _ (calls.no_memory_after f is)) = one_asked s f a at is
  in_turn skipped s a b r at (calls.accepted _ t f bytes _ _ _ is holds judges leads) =
      let (fs, all, more) = in_turn skipped t (and_asked a (request_of f)) b r (goes_on s t f bytes at is holds judges) leads in
      (f ∷ fs, All-cons (IsAsked files given) f fs (asks s f at is) all, more ∙ and_more a (request_of f) (map request_of fs))

begins : (files : Option Files) (given : Option Command) → At files given (first_stage given)
begins files None = refl
begins files (Some (command.on_source name action)) = refl
begins files (Some (command.selfload count workers)) = refl

pub statuses_have_causes : StatusesHaveCauses
statuses_have_causes call asked after r leads =
    let given = command_of call.words in
    cause_of call.files given r r.status (leads_cause call.files given call.skipped (first_stage given) asked after r (begins call.files given) leads)

pub texts_are_alone : TextsAreAlone
texts_are_alone call asked after r leads is =
    let given = command_of call.words in
    alone_in call.files given r r.status is (leads_cause call.files given call.skipped (first_stage given) asked after r (begins call.files given) leads)

pub asked_in_turn : AskedInTurn
asked_in_turn call asked after r leads =
    let given = command_of call.words in
    in_turn call.files given call.skipped (first_stage given) asked after r (begins call.files given) leads
