-- A reply with 0 or 1 is of the files of its command.
use Rattle.std.proofs.Common.{◌≡◌, ℕ, List, [], Option, Some, None, Ok, Err, true, false, if◌then◌else◌, refl, sym, ap, subst, inl, inr}
use Rattle.std.specs.Prelude.{◌==◌}
use Rattle.mc_command.specs.Command as command
use Rattle.mc_command.specs.Command.{Action, Command, MatrixTask, SourceText, Task, command_of}
use Rattle.mc_gen.specs.Source.{source_text}
use Rattle.mc_oblige.specs.Shown.{HasEvent}
use Rattle.mc_oblige.specs.declared.justification.Justification.{Justification}
use Rattle.mc_port.specs.Store.{Files, and_asked}
use Rattle.mc_record.specs.Kept.{Kept}
use Rattle.mc_record.specs.declared.pair_fault.PairFault.{PairFault}
use Rattle.mc_record.specs.declared.pair_fault.PairFault.TheVariants as pair
use Rattle.mc_typed.specs.Plans.{Plan}
use Rattle.station_replies.specs.Files.{File, Holds, request_of, status_of}
use Rattle.station_replies.specs.Reply.{Reply, written}
use Rattle.station_replies.specs.Status.{IsAnswer}
use Rattle.station_replies.specs.declared.file.FileKind.{FileKind}
use Rattle.station_replies.specs.declared.file.FileKind.TheVariants as kind
use Rattle.station_replies.specs.declared.status.Status.{Status}
use Rattle.station_replies.specs.declared.status.Status.TheVariants as status
use Rattle.mc_station.specs.Calls as calls
use Rattle.mc_station.specs.Calls.{Call, CallsFor, Leads, Requests}
use Rattle.mc_station.specs.Causes.{IsOfText, RecordIs}
use Rattle.mc_station.specs.Source.{Accepted}
use Rattle.mc_station.specs.Stages as stages
use Rattle.mc_station.specs.Stages.{Allows, Ends, Judges, Stage, Tells, TellsOnMatrix, Writes, after_source, after_tests, file_of, first_stage, justified_by}
use Rattle.mc_station.specs.Tests.{stands, tested_of}
use Rattle.mc_station.specs.commands.Analyse.{tested_in}
use Rattle.mc_station.specs.commands.Merge.{IsJoined, Merges, pair_reply}
use Rattle.mc_station.specs.commands.Selfload.{LoadsItself}
use Rattle.mc_station.proofs.Allowing.{asked}
use Rattle.mc_station.proofs.Causes.{of_matrix, of_mutants, of_record, of_source, of_source_of}
use Rattle.mc_station.proofs.Reporting.{IsWritten, judged_whole}
use Rattle.laws_station.specs.Texts.{AreReasons, IsOfFiles, IsOfOthers, TextsAreCalled, TextsAreOfFiles, TextsHaveFiles}
use Rattle.laws_station.specs.Whole.{FilesAreAccepted, OthersAreAccepted, ReasonsAre, ReasonsAreAccepted}

-- ---- statuses of texts

not_text : (s : Status) (r : Reply) → (IsOfText s → ⊥) → r.status ≡ s → IsOfText r.status → ⊥
not_text s r none is text = none (subst IsOfText is text)

no_file_text : (k : FileKind) → IsOfText (status_of k) → ⊥
no_file_text kind.Source text = text
no_file_text kind.Tests text = text
no_file_text kind.Record text = text
no_file_text kind.Justifications text = text

no_pair_text : (fault : PairFault) → IsOfText (pair_reply fault).status → ⊥
no_pair_text (pair.SameTest l r) text = text
no_pair_text (pair.Limit tests) text = text
no_pair_text (pair.TooLarge words) text = text
no_pair_text pair.OutOfMemory text = text

pub text_answers : (s : Status) → IsOfText s → IsAnswer s
text_answers status.Done text = tt
text_answers status.Incomplete text = tt
text_answers status.NoCommand text = tt
text_answers status.SourceRefused text = tt
text_answers status.TestsRefused text = tt
text_answers status.JustificationsRefused text = tt
text_answers status.CannotRead text = text
text_answers status.CannotWrite text = text
text_answers status.OutOfMemory text = text
text_answers status.TooLarge text = tt
text_answers status.TooManyMutants text = tt

written_text : (number : ℕ) (lines : List (List ℕ)) (r : Reply) → r ≡ written number lines → IsOfText r.status
written_text number lines r is =
    subst (λ (x : Reply). IsOfText x.status) (sym is)
    (elim (number == 0) as (λ b. IsOfText (if b then status.Done else status.Incomplete)) [ true ↦ tt | false ↦ tt ])

whole_text : (r : Reply) → IsWritten r → IsOfText r.status
whole_text r whole = written_text whole.number whole.lines r whole.is

-- ---- what a command tells is a text

matrix_text : (skipped : List ℕ) (task : MatrixTask) (accepted : Accepted) (plans : List Plan) (js : List Justification) (r : Reply) → TellsOnMatrix skipped task accepted plans js r → IsOfText r.status
matrix_text skipped (command.judged judging) accepted plans js r tells = whole_text r (judged_whole (stands skipped accepted plans) judging accepted (tested_of accepted.program plans) js r tells)
matrix_text skipped command.vectors accepted plans js r (paths, are, is) = written_text _ _ r is
matrix_text skipped command.recorded accepted plans js r (kept, of, is) = written_text _ _ r is
matrix_text skipped (command.reduced mode) accepted plans js r (kept, lost, reduced, is) = written_text _ _ r is

task_text : (skipped : List ℕ) (task : Task) (accepted : Accepted) (plans : List Plan) (js : List Justification) (r : Reply) → Tells skipped task accepted plans js r → IsOfText r.status
task_text skipped (command.on_matrix task) accepted plans js r tells = matrix_text skipped task accepted plans js r tells
task_text skipped (command.watched looks) accepted plans js r (counts, recorded, counted, many, is) = written_text _ _ r is
task_text skipped command.mutated accepted plans js r (killers, are, is) = written_text _ _ r is
task_text skipped command.traced accepted plans js r is = written_text _ _ r is

source_text_written : (text : SourceText) (accepted : Accepted) (r : Reply) → Writes text accepted r → IsOfText r.status
source_text_written command.instrumented accepted r (tokens, lexes, is) = written_text 0 _ r is
source_text_written command.adapted accepted r is = written_text 0 _ r is

others_text : (skipped : List ℕ) (files : Option Files) (action : Action) (accepted : Accepted) (r : Reply) → IsOfOthers skipped files action accepted r → IsOfText r.status
others_text skipped files (command.run run) accepted r (plans, js, are, tells) = task_text skipped run.task accepted plans js r tells
others_text skipped files (command.write text) accepted r writes = source_text_written text accepted r writes
others_text skipped files (command.merge left right) accepted r (first, second, both, are, joined, is) = written_text 0 _ r is
others_text skipped files (command.analyse kept judging) accepted r (found, js, is, are, judges) =
    whole_text r (judged_whole (HasEvent accepted.map found.matrix) judging accepted (tested_in found) js r judges)

files_text : (skipped : List ℕ) (files : Option Files) (given : Option Command) (r : Reply) → IsOfFiles skipped files given r → IsOfText r.status
files_text skipped files None r of = absurd of
files_text skipped files (Some (command.on_source name action)) r (accepted, source, of) = others_text skipped files action accepted r of
files_text skipped files (Some (command.selfload count workers)) r (accepted, judges, (plans, read, fits, (made, on, is))) = written_text 0 _ r is

-- ---- no stage refuses its file with such a status

refuses_without : (s : Stage) (bytes : List ℕ) (r : Reply) → Judges s bytes (Err r) → IsOfText r.status → ⊥
refuses_without stages.usage bytes r judges text = judges
refuses_without (stages.source name action) bytes r (inl judges) text = not_text status.SourceRefused r (λ none. none) (of_source_of action bytes r judges) text
refuses_without (stages.source name action) bytes r (inr (accepted, judges, next)) text = absurd (cc next)
refuses_without (stages.writes words accepted) bytes r judges text = judges
refuses_without (stages.tests run accepted) bytes r (inl (fault, read, is)) text = not_text status.TestsRefused r (λ none. none) (ap (λ (x : Reply). x.status) is) text
refuses_without (stages.tests run accepted) bytes r (inr (plans, judges, inl refused)) text = elim (asked accepted plans run.task (Err r) refused) [
  | inl matrix ↦ not_text status.TooLarge r (λ none. none) (of_matrix accepted plans r matrix.1) text
  | inr mutants ↦ not_text status.TooManyMutants r (λ none. none) (of_mutants accepted r mutants.1) text
]
refuses_without (stages.tests run accepted) bytes r (inr (plans, judges, inr (u, allows, next))) text = absurd (cc next)
refuses_without (stages.left name other accepted) bytes r (inl judges) text = not_text status.TestsRefused r (λ none. none) (of_record accepted name bytes r judges) text
refuses_without (stages.left name other accepted) bytes r (inr (first, judges, next)) text = absurd (cc next)
refuses_without (stages.right name accepted first) bytes r (inl judges) text = not_text status.TestsRefused r (λ none. none) (of_record accepted name bytes r judges) text
refuses_without (stages.right name accepted first) bytes r (inr (second, judges, inl (fault, given, is))) text = no_pair_text fault (subst (λ (x : Reply). IsOfText x.status) is text)
refuses_without (stages.right name accepted first) bytes r (inr (second, judges, inr (both, joins, next))) text = absurd (cc next)
refuses_without (stages.kept name judging accepted) bytes r (inl judges) text = not_text status.TestsRefused r (λ none. none) (of_record accepted name bytes r judges) text
refuses_without (stages.kept name judging accepted) bytes r (inr (found, judges, next)) text = absurd (cc next)
refuses_without (stages.reasons name accepted basis) bytes r (inl (fault, read, is)) text = not_text status.JustificationsRefused r (λ none. none) (ap (λ (x : Reply). x.status) is) text
refuses_without (stages.reasons name accepted basis) bytes r (inr (js, judges, next)) text = absurd (cc next)
refuses_without (stages.last accepted basis js) bytes r judges text = judges
refuses_without (stages.merged both) bytes r judges text = judges
refuses_without (stages.load count workers) bytes r judges text = judges

-- ---- from a stage on

module _ (skipped : List ℕ) (files : Option Files) where
  -- what is told from a stage on, where its reply is a text
  abbrev Of : Stage → Reply → Type 0
  Of stages.usage r = ⊥
  Of (stages.source name action) r = IsOfFiles skipped files (Some (command.on_source name action)) r
  Of (stages.writes words accepted) r = Writes words accepted r
  Of (stages.tests run accepted) r = IsOfOthers skipped files (command.run run) accepted r
  Of (stages.left name other accepted) r = IsOfOthers skipped files (command.merge name other) accepted r
  Of (stages.right name accepted first) r = (second : Kept) × (both : Kept) × RecordIs files name accepted second × IsJoined first second both × Merges both r
  Of (stages.kept name judging accepted) r = IsOfOthers skipped files (command.analyse name judging) accepted r
  Of (stages.reasons name accepted basis) r = (js : List Justification) × ReasonsAre files name accepted js × Ends skipped (stages.last accepted basis js) r
  Of (stages.last accepted basis js) r = Ends skipped (stages.last accepted basis js) r
  Of (stages.merged both) r = Merges both r
  Of (stages.load count workers) r = IsOfFiles skipped files (Some (command.selfload count workers)) r

  of_action : (action : Action) (accepted : Accepted) (r : Reply) → Of (after_source action accepted) r → IsOfOthers skipped files action accepted r
  of_action (command.run run) accepted r of = of
  of_action (command.write words) accepted r of = of
  of_action (command.merge left right) accepted r of = of
  of_action (command.analyse kept judging) accepted r of = of

  of_reasons : (name : Option (List ℕ)) (accepted : Accepted) (basis : stages.Basis) (r : Reply) → Of (after_tests name accepted basis) r
      → (js : List Justification) × AreReasons files name accepted js × Ends skipped (stages.last accepted basis js) r
  of_reasons None accepted basis r of = ([], refl, of)
  of_reasons (Some name) accepted basis r of = of

  -- a stage that asks for no file
  loads : (count workers : ℕ) (r : Reply) → LoadsItself skipped count r → IsOfText r.status → IsOfFiles skipped files (Some (command.selfload count workers)) r
  loads count workers r (inl judges) text = absurd (not_text status.SourceRefused r (λ none. none) (of_source (source_text count) r judges) text)
  loads count workers r (inr (accepted, judges, inl (fault, read, is))) text = absurd (not_text status.TestsRefused r (λ none. none) (ap (λ (x : Reply). x.status) is) text)
  loads count workers r (inr (accepted, judges, inr (plans, read, inl fits))) text = absurd (not_text status.TooLarge r (λ none. none) (of_matrix accepted plans r fits) text)
  loads count workers r (inr (accepted, judges, inr (plans, read, inr (u, fits, sums)))) text = (accepted, judges, (plans, read, fits, sums))

  of_end : (s : Stage) (r : Reply) → Ends skipped s r → IsOfText r.status → Of s r
  of_end stages.usage r is text = not_text status.NoCommand r (λ none. none) (ap (λ (x : Reply). x.status) is) text
  of_end (stages.source name action) r ends text = absurd ends
  of_end (stages.writes words accepted) r ends text = ends
  of_end (stages.tests run accepted) r ends text = absurd ends
  of_end (stages.left name other accepted) r ends text = absurd ends
  of_end (stages.right name accepted first) r ends text = absurd ends
  of_end (stages.kept name judging accepted) r ends text = absurd ends
  of_end (stages.reasons name accepted basis) r ends text = absurd ends
  of_end (stages.last accepted basis js) r ends text = ends
  of_end (stages.merged both) r ends text = ends
  of_end (stages.load count workers) r ends text = loads count workers r ends text

  -- there is one way in which a task allows its tests
  allowed : (task : Task) (accepted : Accepted) (plans : List Plan) (u : Unit {0}) → Allows task accepted plans (Ok u) → Allows task accepted plans (Ok tt)
  allowed (command.on_matrix told) accepted plans u allows = allows
  allowed (command.watched looks) accepted plans u allows = allows
  allowed command.mutated accepted plans u allows = allows
  allowed command.traced accepted plans u allows = allows

  -- the file of a stage has these bytes
  held_as : (f g : File) (bytes : List ℕ) → f ≡ g → Holds files f bytes → Holds files g bytes
  held_as f g bytes same holds = subst (λ (x : File). Holds files x bytes) same holds

  -- what follows from a stage that is reached
  of_stage : (t u : Stage) (r : Reply) → t ≡ u → Of t r → Of u r
  of_stage t u r same of = subst (λ (x : Stage). Of x r) same of

  of_next : (s t : Stage) (f : File) (bytes : List ℕ) (r : Reply) → file_of s ≡ Some f → Holds files f bytes → Judges s bytes (Ok t) → Of t r → Of s r
  of_next stages.usage t f bytes r is holds judges of = absurd judges
  of_next (stages.source name action) t f bytes r is holds (accepted, judges, next) of =
      (accepted, (bytes, held_as f (stages.source_named name) bytes (cc is) holds, judges), of_action action accepted r (of_stage t (after_source action accepted) r (cc next) of))
  of_next (stages.writes words accepted) t f bytes r is holds judges of = absurd judges
  of_next (stages.tests run accepted) t f bytes r is holds (plans, judges, (u, allows, next)) of =
      let basis = stages.tested run.task plans in
      let (js, are, ends) = of_reasons (justified_by run.task) accepted basis r (of_stage t (after_tests (justified_by run.task) accepted basis) r (cc next) of) in
      (plans, js, record { tests = (bytes, held_as f (stages.tests_named run.tests) bytes (cc is) holds, judges); allowed = allowed run.task accepted plans u allows; reasons = are }, ends)
  of_next (stages.left name other accepted) t f bytes r is holds (first, judges, next) of =
      let (second, both, also, joined, merges) = of_stage t (stages.right other accepted first) r (cc next) of in
      (first, second, both, ((bytes, held_as f (stages.record_named name) bytes (cc is) holds, judges), also), joined, merges)
  of_next (stages.right name accepted first) t f bytes r is holds (second, judges, (both, joins, next)) of =
      (second, both, (bytes, held_as f (stages.record_named name) bytes (cc is) holds, judges), joins, of_stage t (stages.merged both) r (cc next) of)
  of_next (stages.kept name judging accepted) t f bytes r is holds (found, judges, next) of =
      let basis = stages.recorded judging found in
      let (js, are, ends) = of_reasons judging.justify accepted basis r (of_stage t (after_tests judging.justify accepted basis) r (cc next) of) in
      (found, js, (bytes, held_as f (stages.record_named name) bytes (cc is) holds, judges), are, ends)
  of_next (stages.reasons name accepted basis) t f bytes r is holds (js, judges, next) of =
      (js, (bytes, held_as f (stages.reasons_named name) bytes (cc is) holds, judges), of_stage t (stages.last accepted basis js) r (cc next) of)
  of_next (stages.last accepted basis js) t f bytes r is holds judges of = absurd judges
  of_next (stages.merged both) t f bytes r is holds judges of = absurd judges
  of_next (stages.load count workers) t f bytes r is holds judges of = absurd judges

  pub of_led : (s : Stage) (a b : Requests) (r : Reply) → Leads skipped files s a r b → IsOfText r.status → Of s r
  of_led s a b r (calls.answers _ _ _ _ (calls.finished x ends)) text = of_end s r ends text
  of_led s a b r (calls.answers _ _ _ _ (calls.too_long f is long)) text = absurd (no_file_text f.kind text)
  of_led s a b r (calls.answers _ _ _ _ (calls.refused f bytes x is holds judges)) text = absurd (refuses_without s bytes r judges text)
  of_led s a b r (calls.fails _ _ _ _ (calls.unreadable f is)) text = absurd text
  of_led s a b r (calls.fails _ _ _ _ calls.no_memory) text = absurd text
  of_led s a b r (calls.fails _ _ _ _ (calls.no_memory_after f is)) text = absurd text
  of_led s a b r (calls.accepted _ t f bytes _ _ _ is holds judges leads) text =
      of_next s t f bytes r is holds judges (of_led t (and_asked a (request_of f)) b r leads text)

  of_first : (given : Option Command) (r : Reply) → Of (first_stage given) r → IsOfFiles skipped files given r
  of_first None r of = of
  of_first (Some (command.on_source name action)) r of = of
  of_first (Some (command.selfload count workers)) r of = of

  -- ---- and back

  -- a stage leads to the reply, whatever was asked for before
  abbrev Comes : Stage → Reply → Type 0
  Comes s r = (asked : Requests) → (after : Requests) × Leads skipped files s asked r after

  ends_here : (s : Stage) (r : Reply) → Ends skipped s r → Comes s r
  ends_here s r ends asked = (asked, calls.answers s asked asked r (calls.finished r ends))

  accepts : (s t : Stage) (f : File) (bytes : List ℕ) (r : Reply) → file_of s ≡ Some f → Holds files f bytes → Judges s bytes (Ok t) → Comes t r → Comes s r
  accepts s t f bytes r is holds judges comes asked =
      let (after, leads) = comes (and_asked asked (request_of f)) in
      (after, calls.accepted s t f bytes asked after r is holds judges leads)

  reasons_come : (name : Option (List ℕ)) (accepted : Accepted) (basis : stages.Basis) (js : List Justification) (r : Reply) → AreReasons files name accepted js
      → Ends skipped (stages.last accepted basis js) r → Comes (after_tests name accepted basis) r
  reasons_come None accepted basis js r none ends = ends_here (stages.last accepted basis []) r (subst (λ (x : List Justification). Ends skipped (stages.last accepted basis x) r) none ends)
  reasons_come (Some name) accepted basis js r (bytes, holds, judges) ends =
      accepts (stages.reasons name accepted basis) (stages.last accepted basis js) (stages.reasons_named name) bytes r refl holds (js, judges, refl)
      (ends_here (stages.last accepted basis js) r ends)

  others_come : (action : Action) (accepted : Accepted) (r : Reply) → IsOfOthers skipped files action accepted r → Comes (after_source action accepted) r
  others_come (command.run run) accepted r (plans, js, are, tells) =
      let basis = stages.tested run.task plans in
      let (bytes, holds, judges) = are.tests in
      accepts (stages.tests run accepted) (after_tests (justified_by run.task) accepted basis) (stages.tests_named run.tests) bytes r refl holds
      (plans, judges, (tt, are.allowed, refl)) (reasons_come (justified_by run.task) accepted basis js r are.reasons tells)
  others_come (command.write words) accepted r writes = ends_here (stages.writes words accepted) r writes
  others_come (command.merge left right) accepted r (first, second, both, ((bytes, holds, judges), (others, hold, judge)), joined, merges) =
      accepts (stages.left left right accepted) (stages.right right accepted first) (stages.record_named left) bytes r refl holds (first, judges, refl)
      (accepts (stages.right right accepted first) (stages.merged both) (stages.record_named right) others r refl hold (second, judge, (both, joined, refl))
      (ends_here (stages.merged both) r merges))
  others_come (command.analyse kept judging) accepted r (found, js, (bytes, holds, judges), are, tells) =
      let basis = stages.recorded judging found in
      accepts (stages.kept kept judging accepted) (after_tests judging.justify accepted basis) (stages.record_named kept) bytes r refl holds
      (found, judges, refl) (reasons_come judging.justify accepted basis js r are tells)

  files_come : (given : Option Command) (r : Reply) → IsOfFiles skipped files given r → Comes (first_stage given) r
  files_come None r of = absurd of
  files_come (Some (command.on_source name action)) r (accepted, (bytes, holds, judges), of) =
      accepts (stages.source name action) (after_source action accepted) (stages.source_named name) bytes r refl holds (accepted, judges, refl) (others_come action accepted r of)
  files_come (Some (command.selfload count workers)) r (accepted, judges, (plans, read, fits, sums)) =
      ends_here (stages.load count workers) r (inr (accepted, judges, inr (plans, read, inr (tt, fits, sums))))

  -- ---- all files are accepted

  reasons_accepted : (name : Option (List ℕ)) (accepted : Accepted) (js : List Justification) → AreReasons files name accepted js → ReasonsAreAccepted files name accepted
  reasons_accepted None accepted js none = tt
  reasons_accepted (Some name) accepted js are = (js, are)

  others_accepted : (action : Action) (accepted : Accepted) (r : Reply) → IsOfOthers skipped files action accepted r → OthersAreAccepted files action accepted
  others_accepted (command.run run) accepted r (plans, js, are, tells) = ((plans, are.tests, are.allowed), reasons_accepted (justified_by run.task) accepted js are.reasons)
  others_accepted (command.write words) accepted r writes = tt
  others_accepted (command.merge left right) accepted r (first, second, both, are, joined, merges) = (first, second, are, joined.fits)
  others_accepted (command.analyse kept judging) accepted r (found, js, is, are, tells) = ((found, is), reasons_accepted judging.justify accepted js are)

  all_accepted : (given : Option Command) (r : Reply) → IsOfFiles skipped files given r → FilesAreAccepted files given
  all_accepted None r of = of
  all_accepted (Some (command.on_source name action)) r (accepted, source, of) = (accepted, source, others_accepted action accepted r of)
  all_accepted (Some (command.selfload count workers)) r (accepted, judges, (plans, read, fits, sums)) = (accepted, judges, (plans, read, fits))

-- ---- calls

pub texts_are_of_files : TextsAreOfFiles
texts_are_of_files call asked after r leads text =
    let given = command_of call.words in
    of_first call.skipped call.files given r (of_led call.skipped call.files (first_stage given) asked after r leads text)

from_call : (call : Call) (r : Reply) → CallsFor call r → IsOfText r.status → IsOfFiles call.skipped call.files (command_of call.words) r
from_call call r (answer, (asked, after, leads)) text = texts_are_of_files call asked after r leads text

to_call : (call : Call) (r : Reply) → IsOfFiles call.skipped call.files (command_of call.words) r → CallsFor call r × IsOfText r.status
to_call call r of =
    let given = command_of call.words in
    let text : IsOfText r.status = files_text call.skipped call.files given r of in
    let (after, leads) = files_come call.skipped call.files given r of None in
    ((text_answers r.status text, (None, after, leads)), text)

pub texts_are_called : TextsAreCalled
texts_are_called call r = ((λ called. from_call call r called.0 called.1), (λ of. to_call call r of))

pub texts_have_files : TextsHaveFiles
texts_have_files call asked after r leads text =
    all_accepted call.skipped call.files (command_of call.words) r (texts_are_of_files call asked after r leads text)
