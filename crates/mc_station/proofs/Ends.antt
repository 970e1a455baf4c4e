-- Which replies each stage leads to.
use Rattle.std.proofs.Common.{◌≡◌, ◌≢◌, ◌⊎◌, ℕ, List, Option, Some, None, Ok, refl, sym, ap, subst, inl, inr}
use Rattle.mc_command.specs.Command as command
use Rattle.mc_command.specs.Command.{Command, MatrixTask, SourceText, Task, command_of}
use Rattle.mc_port.specs.Store.{Files, and_asked}
use Rattle.mc_typed.specs.Plans.{Plan}
use Rattle.mc_oblige.specs.Shown.{HasEvent}
use Rattle.mc_oblige.specs.declared.justification.Justification.{Justification}
use Rattle.station_replies.specs.Files.{File, request_of}
use Rattle.station_replies.specs.Phases.{IsRefusal, IsSilent}
use Rattle.station_replies.specs.Reply.{Reply, longer}
use Rattle.station_replies.specs.Status.{IsAfterSource, IsAnswer}
use Rattle.station_replies.specs.declared.file.FileKind.TheVariants.{Source}
use Rattle.station_replies.specs.declared.status.Status.TheVariants as status
use Rattle.station_replies.proofs.Phases.{refusal_silent, refusal_status}
use Rattle.station_replies.proofs.Statuses.{after_source_answers}
use Rattle.mc_station.specs.Calls as calls
use Rattle.mc_station.specs.Calls.{Answers, Fails, Leads, Requests}
use Rattle.mc_station.specs.Laws.{IsLater, NoCommandAlone, RefusalsAreSilent, SourceAlone}
use Rattle.mc_station.specs.Source.{Accepted}
use Rattle.mc_station.specs.Stages as stages
use Rattle.mc_station.specs.Stages.{Ends, Judges, Stage, Tells, TellsOnMatrix, Writes, after_source, after_tests, file_of, first_stage, justified_by}
use Rattle.mc_station.specs.Tests.{names, results, stands, states, tested_of}
use Rattle.mc_station.specs.commands.Analyse.{tested_in}
use Rattle.mc_station.proofs.Joining.{merge_keeps}
use Rattle.mc_station.proofs.Listing.{list_keeps}
use Rattle.mc_station.proofs.Loading.{load_keeps}
use Rattle.mc_station.proofs.Mutating.{mutation_keeps}
use Rattle.mc_station.proofs.Printing.{text_keeps}
use Rattle.mc_station.proofs.Recording.{record_keeps}
use Rattle.mc_station.proofs.Reducing.{reduction_keeps}
use Rattle.mc_station.proofs.Reporting.{judged_keeps}
use Rattle.mc_station.proofs.Unique.{no_fault, no_file}
use Rattle.mc_station.proofs.Watching.{watch_keeps}
use Rattle.mc_station.proofs.Written.{written_later}
use Rattle.mc_station.proofs.Refusing.{IsRefused, reasons_later, refuses_first, refuses_kept, refuses_left, refuses_reasons, refuses_right, refuses_tests, tests_later}

-- ---- ends

matrix_keeps : (skipped : List ℕ) (task : MatrixTask) (accepted : Accepted) (plans : List Plan) (js : List Justification) (r : Reply) → TellsOnMatrix skipped task accepted plans js r → IsLater r
matrix_keeps skipped (command.judged asked) accepted plans js r tells = judged_keeps (stands skipped accepted plans) asked accepted (tested_of accepted.program plans) js r tells
matrix_keeps skipped command.vectors accepted plans js r tells = list_keeps (stands skipped accepted plans) accepted (names plans) (states accepted.program plans) (results accepted.program plans) r tells
matrix_keeps skipped command.recorded accepted plans js r tells = record_keeps skipped accepted plans r tells
matrix_keeps skipped (command.reduced mode) accepted plans js r tells = reduction_keeps (stands skipped accepted plans) mode accepted (names plans) (states accepted.program plans) r tells

tells_keep : (skipped : List ℕ) (task : Task) (accepted : Accepted) (plans : List Plan) (js : List Justification) (r : Reply) → Tells skipped task accepted plans js r → IsLater r
tells_keep skipped (command.on_matrix task) accepted plans js r tells = matrix_keeps skipped task accepted plans js r tells
tells_keep skipped (command.watched looks) accepted plans js r tells = watch_keeps looks accepted plans r tells
tells_keep skipped command.mutated accepted plans js r tells = mutation_keeps accepted plans r tells
tells_keep skipped command.traced accepted plans js r is = subst IsLater (sym is) (written_later _ _)

written_keeps : (text : SourceText) (accepted : Accepted) (r : Reply) → Writes text accepted r → IsLater r
written_keeps command.instrumented accepted r writes = text_keeps accepted r writes
written_keeps command.adapted accepted r is = subst IsLater (sym is) (written_later 0 _)

-- the replies that a stage may lead to, if nothing fails
abbrev May : Stage → Reply → Type 0
May stages.usage r = IsRefusal status.NoCommand r
May (stages.source name action) r = IsRefused r ⊎ IsLater r
May (stages.writes text accepted) r = IsLater r
May (stages.tests run accepted) r = IsLater r
May (stages.reasons name accepted basis) r = IsLater r
May (stages.left name other accepted) r = IsLater r
May (stages.right name accepted first) r = IsLater r
May (stages.kept name judging accepted) r = IsLater r
May (stages.last accepted basis js) r = IsLater r
May (stages.merged both) r = IsLater r
May (stages.load count workers) r = IsRefused r ⊎ IsLater r

may_end : (skipped : List ℕ) (s : Stage) (r : Reply) → Ends skipped s r → May s r
may_end skipped stages.usage r is = (_, is)
may_end skipped (stages.source name action) r ends = absurd ends
may_end skipped (stages.writes text accepted) r ends = written_keeps text accepted r ends
may_end skipped (stages.tests run accepted) r ends = absurd ends
may_end skipped (stages.left name other accepted) r ends = absurd ends
may_end skipped (stages.right name accepted first) r ends = absurd ends
may_end skipped (stages.kept name judging accepted) r ends = absurd ends
may_end skipped (stages.reasons name accepted basis) r ends = absurd ends
may_end skipped (stages.last accepted (stages.tested task plans) js) r ends = tells_keep skipped task accepted plans js r ends
may_end skipped (stages.last accepted (stages.recorded asked found) js) r ends = judged_keeps (HasEvent accepted.map found.matrix) asked accepted (tested_in found) js r ends
may_end skipped (stages.merged both) r ends = merge_keeps both r ends
may_end skipped (stages.load count workers) r ends = load_keeps skipped count r ends

pub may_answer : (skipped : List ℕ) (files : Option Files) (s : Stage) (a b : Requests) (r : Reply) → Answers skipped files s a r b → May s r
may_answer skipped files s a b r (calls.finished x ends) = may_end skipped s r ends
may_answer skipped files stages.usage a b r (calls.too_long f is long) = absurd (cc is)
may_answer skipped files stages.usage a b r (calls.refused f bytes x is holds judges) = absurd judges
may_answer skipped files (stages.source name action) a b r (calls.too_long f is long) =
    let same : f ≡ stages.source_named name = cc is in
    inl (subst (λ (g : File). IsRefused (longer g)) (sym same) (_, refl))
may_answer skipped files (stages.source name action) a b r (calls.refused f bytes x is holds judges) =
    inl (refuses_first name action bytes r judges)
may_answer skipped files (stages.writes text accepted) a b r (calls.too_long f is long) = absurd (cc is)
may_answer skipped files (stages.writes text accepted) a b r (calls.refused f bytes x is holds judges) = absurd judges
may_answer skipped files (stages.tests run accepted) a b r (calls.too_long f is long) =
    let same : f ≡ stages.tests_named run.tests = cc is in
    subst (λ (g : File). IsLater (longer g)) (sym same) (tests_later (longer (stages.tests_named run.tests)).diag)
may_answer skipped files (stages.tests run accepted) a b r (calls.refused f bytes x is holds judges) = refuses_tests run accepted bytes r judges
may_answer skipped files (stages.left name other accepted) a b r (calls.too_long f is long) =
    let same : f ≡ stages.record_named name = cc is in
    subst (λ (g : File). IsLater (longer g)) (sym same) (tests_later (longer (stages.record_named name)).diag)
may_answer skipped files (stages.left name other accepted) a b r (calls.refused f bytes x is holds judges) = refuses_left name other accepted bytes r judges
may_answer skipped files (stages.right name accepted first) a b r (calls.too_long f is long) =
    let same : f ≡ stages.record_named name = cc is in
    subst (λ (g : File). IsLater (longer g)) (sym same) (tests_later (longer (stages.record_named name)).diag)
may_answer skipped files (stages.right name accepted first) a b r (calls.refused f bytes x is holds judges) = refuses_right name accepted first bytes r judges
may_answer skipped files (stages.kept name judging accepted) a b r (calls.too_long f is long) =
    let same : f ≡ stages.record_named name = cc is in
    subst (λ (g : File). IsLater (longer g)) (sym same) (tests_later (longer (stages.record_named name)).diag)
may_answer skipped files (stages.kept name judging accepted) a b r (calls.refused f bytes x is holds judges) = refuses_kept name judging accepted bytes r judges
may_answer skipped files (stages.reasons name accepted basis) a b r (calls.too_long f is long) =
    let same : f ≡ stages.reasons_named name = cc is in
    subst (λ (g : File). IsLater (longer g)) (sym same) (reasons_later (longer (stages.reasons_named name)).diag)
may_answer skipped files (stages.reasons name accepted basis) a b r (calls.refused f bytes x is holds judges) = refuses_reasons name accepted basis bytes r judges
may_answer skipped files (stages.last accepted basis js) a b r (calls.too_long f is long) = absurd (cc is)
may_answer skipped files (stages.last accepted basis js) a b r (calls.refused f bytes x is holds judges) = absurd judges
may_answer skipped files (stages.merged both) a b r (calls.too_long f is long) = absurd (cc is)
may_answer skipped files (stages.merged both) a b r (calls.refused f bytes x is holds judges) = absurd judges
may_answer skipped files (stages.load count workers) a b r (calls.too_long f is long) = absurd (cc is)
may_answer skipped files (stages.load count workers) a b r (calls.refused f bytes x is holds judges) = absurd judges

-- the stage after the source has been accepted
after_keeps : (action : command.Action) (accepted : Accepted) (r : Reply) → May (after_source action accepted) r → IsLater r
after_keeps (command.run run) accepted r may = may
after_keeps (command.write text) accepted r may = may
after_keeps (command.merge name other) accepted r may = may
after_keeps (command.analyse name judging) accepted r may = may

-- and the one after the tests, or after the record in their place
tests_keep : (name : Option (List ℕ)) (accepted : Accepted) (basis : stages.Basis) (r : Reply) → May (after_tests name accepted basis) r → IsLater r
tests_keep None accepted basis r may = may
tests_keep (Some name) accepted basis r may = may

-- what a stage leads to that has accepted its file
later_after : (s t : Stage) (bytes : List ℕ) (r : Reply) → Judges s bytes (Ok t) → May t r → IsLater r
later_after stages.usage t bytes r judges may = absurd judges
later_after (stages.source name action) t bytes r (accepted, judges, next) may =
    let same : t ≡ after_source action accepted = cc next in after_keeps action accepted r (subst (λ (x : Stage). May x r) same may)
later_after (stages.writes text accepted) t bytes r judges may = absurd judges
later_after (stages.tests run accepted) t bytes r (plans, judges, (u, fits, next)) may =
    let same : t ≡ after_tests (justified_by run.task) accepted (stages.tested run.task plans) = cc next in
    tests_keep (justified_by run.task) accepted (stages.tested run.task plans) r (subst (λ (x : Stage). May x r) same may)
later_after (stages.left name other accepted) t bytes r (first, judges, next) may =
    let same : t ≡ stages.right other accepted first = cc next in subst (λ (x : Stage). May x r) same may
later_after (stages.right name accepted first) t bytes r (second, judges, (both, joins, next)) may =
    let same : t ≡ stages.merged both = cc next in subst (λ (x : Stage). May x r) same may
later_after (stages.kept name judging accepted) t bytes r (found, judges, next) may =
    let same : t ≡ after_tests judging.justify accepted (stages.recorded judging found) = cc next in
    tests_keep judging.justify accepted (stages.recorded judging found) r (subst (λ (x : Stage). May x r) same may)
later_after (stages.reasons name accepted basis) t bytes r (js, judges, next) may =
    let same : t ≡ stages.last accepted basis js = cc next in subst (λ (x : Stage). May x r) same may
later_after (stages.last accepted basis js) t bytes r judges may = absurd judges
later_after (stages.merged both) t bytes r judges may = absurd judges
later_after (stages.load count workers) t bytes r judges may = absurd judges

may_later : (s t : Stage) (bytes : List ℕ) (r : Reply) → Judges s bytes (Ok t) → IsLater r → May s r
may_later stages.usage t bytes r judges is = absurd judges
may_later (stages.source name action) t bytes r judges is = inr is
may_later (stages.writes text accepted) t bytes r judges is = absurd judges
may_later (stages.tests run accepted) t bytes r judges is = is
may_later (stages.left name other accepted) t bytes r judges is = is
may_later (stages.right name accepted first) t bytes r judges is = is
may_later (stages.kept name judging accepted) t bytes r judges is = is
may_later (stages.reasons name accepted basis) t bytes r judges is = is
may_later (stages.last accepted basis js) t bytes r judges is = absurd judges
may_later (stages.merged both) t bytes r judges is = absurd judges
may_later (stages.load count workers) t bytes r judges is = absurd judges

goes_on : (s t : Stage) (bytes : List ℕ) (r : Reply) → Judges s bytes (Ok t) → May t r → May s r
goes_on s t bytes r judges may = may_later s t bytes r judges (later_after s t bytes r judges may)

-- ---- calls

-- what a source leads to
judged_answers : (r : Reply) → IsRefused r ⊎ IsLater r → IsAnswer r.status
judged_answers r (inl refused) = subst IsAnswer (sym (refusal_status status.SourceRefused r refused)) tt
judged_answers r (inr is) = after_source_answers r.status is.0

judged_silent : (r : Reply) → IsRefused r ⊎ IsLater r → IsSilent r
judged_silent r (inl refused) = refusal_silent status.SourceRefused r refused
judged_silent r (inr is) = is.1

pub may_answers : (s : Stage) (r : Reply) → May s r → IsAnswer r.status
may_answers stages.usage r may = subst IsAnswer (sym (refusal_status status.NoCommand r may)) tt
may_answers (stages.source name action) r may = judged_answers r may
may_answers (stages.writes text accepted) r is = after_source_answers r.status is.0
may_answers (stages.tests run accepted) r is = after_source_answers r.status is.0
may_answers (stages.left name other accepted) r is = after_source_answers r.status is.0
may_answers (stages.right name accepted first) r is = after_source_answers r.status is.0
may_answers (stages.kept name judging accepted) r is = after_source_answers r.status is.0
may_answers (stages.reasons name accepted basis) r is = after_source_answers r.status is.0
may_answers (stages.last accepted basis js) r is = after_source_answers r.status is.0
may_answers (stages.merged both) r is = after_source_answers r.status is.0
may_answers (stages.load count workers) r may = judged_answers r may

may_silent : (s : Stage) (r : Reply) → May s r → IsSilent r
may_silent stages.usage r may = refusal_silent status.NoCommand r may
may_silent (stages.source name action) r may = judged_silent r may
may_silent (stages.writes text accepted) r is = is.1
may_silent (stages.tests run accepted) r is = is.1
may_silent (stages.left name other accepted) r is = is.1
may_silent (stages.right name accepted first) r is = is.1
may_silent (stages.kept name judging accepted) r is = is.1
may_silent (stages.reasons name accepted basis) r is = is.1
may_silent (stages.last accepted basis js) r is = is.1
may_silent (stages.merged both) r is = is.1
may_silent (stages.load count workers) r may = judged_silent r may

-- a reply that is reached, and not a fault of the outside or of memory
may_lead : (skipped : List ℕ) (files : Option Files) (s : Stage) (a b : Requests) (r : Reply) → Leads skipped files s a r b → IsAnswer r.status → May s r
may_lead skipped files s a b r (calls.answers _ _ _ _ x) answer = may_answer skipped files s a b r x
may_lead skipped files s a b r (calls.fails _ _ _ _ x) answer = absurd (no_fault s a b r x answer)
may_lead skipped files s a b r (calls.accepted _ t f bytes _ _ _ is holds judges leads) answer = goes_on s t bytes r judges (may_lead skipped files t (and_asked a (request_of f)) b r leads answer)

failed_silent : (s : Stage) (a b : Requests) (r : Reply) → Fails s a r b → IsSilent r
failed_silent s a b r (calls.unreadable f is) = inr (inr refl)
failed_silent s a b r calls.no_memory = inr (inr refl)
failed_silent s a b r (calls.no_memory_after f is) = inr (inr refl)

silent : (skipped : List ℕ) (files : Option Files) (s : Stage) (a b : Requests) (r : Reply) → Leads skipped files s a r b → IsSilent r
silent skipped files s a b r (calls.answers _ _ _ _ x) = may_silent s r (may_answer skipped files s a b r x)
silent skipped files s a b r (calls.fails _ _ _ _ x) = failed_silent s a b r x
silent skipped files s a b r (calls.accepted _ t f bytes _ _ _ is holds judges leads) = silent skipped files t (and_asked a (request_of f)) b r leads

pub refusals_are_silent : RefusalsAreSilent
refusals_are_silent call asked after r leads = silent call.skipped call.files (first_stage (command_of call.words)) asked after r leads

failed : (s : Stage) (asked after : Requests) (r : Reply) → Fails s asked r after → r.status ≢ status.CannotWrite
failed s asked after r (calls.unreadable file is) same = cc same
failed s asked after r calls.no_memory same = cc same
failed s asked after r (calls.no_memory_after file is) same = cc same

-- no call leads to the status of a sink that failed
pub never_unwritten : (skipped : List ℕ) (files : Option Files) (s : Stage) (asked after : Requests) (r : Reply) → Leads skipped files s asked r after → r.status ≢ status.CannotWrite
never_unwritten skipped files s asked after r (calls.answers stage before then q a) same = subst IsAnswer same (may_answers s r (may_answer skipped files s asked after r a))
never_unwritten skipped files s asked after r (calls.fails stage before then q f) same = failed s asked after r f same
never_unwritten skipped files s asked after r (calls.accepted stage t file bytes before then q is holds judges leads) same = never_unwritten skipped files t _ after r leads same

-- a stage that ends gives an answer
pub end_answers : (skipped : List ℕ) (s : Stage) (r : Reply) → Ends skipped s r → IsAnswer r.status
end_answers skipped s r ends = may_answers s r (may_end skipped s r ends)

-- ---- the status of words that are not a command

not_later : (r : Reply) → IsLater r → r.status ≡ status.NoCommand → ⊥
not_later r is same = subst IsAfterSource same is.0

not_judged : (r : Reply) → IsRefused r ⊎ IsLater r → r.status ≡ status.NoCommand → ⊥
not_judged r (inl refused) same = cc (sym (refusal_status status.SourceRefused r refused), same)
not_judged r (inr is) same = not_later r is same

is_usage : (command : Option Command) (r : Reply) → May (first_stage command) r → r.status ≡ status.NoCommand → command ≡ None
is_usage None r may same = refl
is_usage (Some (command.on_source name action)) r may same = absurd (not_judged r may same)
is_usage (Some (command.selfload count workers)) r may same = absurd (not_judged r may same)

pub no_command_alone : NoCommandAlone
no_command_alone call asked after r leads answer =
    let may = may_lead call.skipped call.files (first_stage (command_of call.words)) asked after r leads answer in (
      λ same. is_usage (command_of call.words) r may same,
      λ none. refusal_status status.NoCommand r (subst (λ (c : Option Command). May (first_stage c) r) none may),
    )

-- ---- the status of a source that is refused

refused_later : (s : Stage) (bytes : List ℕ) (t : Stage) (r : Reply) → Judges s bytes (Ok t) → May t r → r.status ≡ status.SourceRefused → ⊥
refused_later s bytes t r judges may same = subst IsAfterSource same (later_after s t bytes r judges may).0

first_kind : (command : Option Command) (f : File) → file_of (first_stage command) ≡ Some f → f.kind ≡ Source
first_kind None f is = absurd (cc is)
first_kind (Some (command.on_source name action)) f is =
    let same : f ≡ stages.source_named name = cc is in ap (λ (x : File). x.kind) same
first_kind (Some (command.selfload count workers)) f is = absurd (cc is)

with_file : (s : Stage) (asked : Requests) (f g : File) → file_of s ≡ Some f → file_of s ≡ Some g → and_asked asked (request_of g) ≡ and_asked asked (request_of f)
with_file s asked f g is also = let one : g ≡ f = cc (is, also) in ap (λ (x : File). and_asked asked (request_of x)) one

alone : (skipped : List ℕ) (files : Option Files) (s : Stage) (asked after : Requests) (r : Reply) (file : File) → file_of s ≡ Some file → Answers skipped files s asked r after → after ≡ and_asked asked (request_of file)
alone skipped files s asked after r file is (calls.finished x ends) = absurd (no_file skipped s r file ends is)
alone skipped files s asked after r file is (calls.too_long f also long) = with_file s asked file f is also
alone skipped files s asked after r file is (calls.refused f bytes x also holds judges) = with_file s asked file f is also

asked_alone : (skipped : List ℕ) (files : Option Files) (s : Stage) (asked after : Requests) (r : Reply) (file : File) → file_of s ≡ Some file → r.status ≡ status.SourceRefused → Leads skipped files s asked r after → after ≡ and_asked asked (request_of file)
asked_alone skipped files s asked after r file is same (calls.answers _ _ _ _ x) = alone skipped files s asked after r file is x
asked_alone skipped files s asked after r file is same (calls.fails _ _ _ _ x) = absurd (no_fault s asked after r x (subst IsAnswer (sym same) tt))
asked_alone skipped files s asked after r file is same (calls.accepted _ t f bytes _ _ _ also holds judges on) =
    absurd (refused_later s bytes t r judges (may_lead skipped files t (and_asked asked (request_of f)) after r on (subst IsAnswer (sym same) tt)) same)

pub source_alone : SourceAlone
source_alone call asked after r file is leads same =
    (first_kind (command_of call.words) file is, asked_alone call.skipped call.files (first_stage (command_of call.words)) asked after r file is same leads)
