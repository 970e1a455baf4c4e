-- Words and files call for at most one reply.
use Rattle.std.proofs.Common.{◌≡◌, ◌∙◌, ◌⊎◌, ℕ, List, Option, Some, None, Result, Ok, Err, sym, ap, subst, inl, inr}
use Rattle.mc_core.specs.Laws.{WordsFollowFromPairs}
use Rattle.mc_command.specs.Command as command
use Rattle.mc_command.specs.Command.{MatrixTask, SourceText, Task, command_of}
use Rattle.mc_typed.specs.Plans.{Plan}
use Rattle.mc_port.specs.Store.{Files, IsLonger, and_asked}
use Rattle.mc_oblige.specs.Obligations.{obligations_of}
use Rattle.mc_oblige.specs.declared.justification.Justification.{Justification}
use Rattle.mc_justify.specs.Justifications.{justifications_of}
use Rattle.station_replies.specs.Files.{File, Holds, limit_of, request_of}
use Rattle.station_replies.specs.Phases.{Agree, AreOne, IsOne}
use Rattle.station_replies.specs.Reply.{Reply, longer, refusal}
use Rattle.station_replies.specs.Status.{IsAnswer}
use Rattle.station_replies.specs.declared.status.Status.TheVariants.{JustificationsRefused}
use Rattle.station_replies.proofs.Phases.{one_ok, one_read, one_then}
use Rattle.mc_station.specs.Calls as calls
use Rattle.mc_station.specs.Calls.{Answers, Call, CallsFor, Fails, IsKnown, Leads, Requests}
use Rattle.mc_station.specs.Justified.{reasons_line}
use Rattle.mc_station.specs.Laws.{IsToWatch, IsWatch}
use Rattle.mc_station.specs.Source.{Accepted}
use Rattle.mc_station.specs.Stages as stages
use Rattle.mc_station.specs.Stages.{Ends, Judges, Stage, Tells, TellsOnMatrix, Writes, after_source, after_tests, file_of, first_stage, justified_by}
use Rattle.mc_station.specs.Tests.{names, results, stands, states, tested_of}
use Rattle.mc_station.proofs.Listing.{one_list}
use Rattle.mc_station.proofs.Reducing.{one_reduction}
use Rattle.mc_station.proofs.Reporting.{one_judged}
use Rattle.mc_oblige.specs.Shown.{HasEvent}
use Rattle.mc_station.specs.commands.Analyse.{tested_in}
use Rattle.mc_station.specs.commands.Watch.{AreOnLooks}
use Rattle.mc_station.proofs.Allowing.{one_allowed}
use Rattle.mc_station.proofs.Contents.{not_both, same_bytes}
use Rattle.mc_station.proofs.Joining.{one_join, one_record_in}
use Rattle.mc_station.proofs.Loading.{one_load}
use Rattle.mc_station.proofs.Mutating.{one_mutation}
use Rattle.mc_station.proofs.Naming.{one_source_of}
use Rattle.mc_station.proofs.Phases.{one_tests}
use Rattle.mc_station.proofs.Printing.{one_text}
use Rattle.mc_station.proofs.Recording.{one_record}
use Rattle.mc_station.proofs.Watching.{IsAt, at_before, at_first, one_watch}

-- ---- stages

one_verdict : WordsFollowFromPairs → (s : Stage) (bytes : List ℕ) → IsOne (Judges s bytes)
one_verdict law stages.usage bytes = λ u v p q. absurd p
one_verdict law (stages.source name action) bytes =
    one_then _ _ (one_source_of action bytes) (λ accepted is. one_ok (after_source action accepted))
one_verdict law (stages.writes text accepted) bytes = λ u v p q. absurd p
one_verdict law (stages.tests run accepted) bytes =
    one_then _ _ (one_tests accepted.program run.fuel bytes) (λ plans is.
    one_then _ _ (one_allowed run.task accepted plans) (λ u allows. one_ok (after_tests (justified_by run.task) accepted (stages.tested run.task plans))))
one_verdict law (stages.left name other accepted) bytes =
    one_then _ _ (one_record_in accepted name bytes) (λ first is. one_ok (stages.right other accepted first))
one_verdict law (stages.right name accepted first) bytes =
    one_then _ _ (one_record_in accepted name bytes) (λ second is.
    one_then _ _ (one_join law first second) (λ both joins. one_ok (stages.merged both)))
one_verdict law (stages.kept name judging accepted) bytes =
    one_then _ _ (one_record_in accepted name bytes) (λ found is. one_ok (after_tests judging.justify accepted (stages.recorded judging found)))
one_verdict law (stages.reasons name accepted basis) bytes =
    one_then _ _ (one_read (justifications_of bytes (obligations_of accepted.map) accepted.source) (λ fault. refusal JustificationsRefused (reasons_line fault))) (λ js is. one_ok (stages.last accepted basis js))
one_verdict law (stages.last accepted basis js) bytes = λ u v p q. absurd p
one_verdict law (stages.merged both) bytes = λ u v p q. absurd p
one_verdict law (stages.load count workers) bytes = λ u v p q. absurd p

-- ---- ends

-- one reply, or where the tests are watched two on the looks
abbrev OneIf : Type 0 → Reply → Reply → Type 0
OneIf watched r q = AreOne r q ⊎ (watched × AreOnLooks r q)

one_on_matrix : WordsFollowFromPairs → (skipped : List ℕ) (task : MatrixTask) (accepted : Accepted) (plans : List Plan) (js : List Justification) (r q : Reply) → TellsOnMatrix skipped task accepted plans js r
    → TellsOnMatrix skipped task accepted plans js q → r ≡ q
one_on_matrix law skipped (command.judged asked) accepted plans js r q tells others = one_judged (stands skipped accepted plans) asked accepted (tested_of accepted.program plans) js r q tells others
one_on_matrix law skipped command.vectors accepted plans js r q tells others = one_list (stands skipped accepted plans) accepted (names plans) (states accepted.program plans) (results accepted.program plans) r q tells others
one_on_matrix law skipped command.recorded accepted plans js r q tells others = one_record skipped accepted plans law r q tells others
one_on_matrix law skipped (command.reduced mode) accepted plans js r q tells others = one_reduction (stands skipped accepted plans) mode accepted (names plans) (states accepted.program plans) r q tells others

one_told : WordsFollowFromPairs → (skipped : List ℕ) (task : Task) (accepted : Accepted) (plans : List Plan) (js : List Justification) (r q : Reply) → Tells skipped task accepted plans js r → Tells skipped task accepted plans js q
    → OneIf (IsToWatch task) r q
one_told law skipped (command.on_matrix task) accepted plans js r q tells others = inl (inl (one_on_matrix law skipped task accepted plans js r q tells others))
one_told law skipped (command.watched looks) accepted plans js r q tells others = inr (tt, one_watch looks accepted plans r q tells others)
one_told law skipped command.mutated accepted plans js r q tells others = inl (inl (one_mutation accepted plans r q tells others))
one_told law skipped command.traced accepted plans js r q is also = inl (inl (is ∙ sym also))

one_written : (text : SourceText) (accepted : Accepted) (r q : Reply) → Writes text accepted r → Writes text accepted q → r ≡ q
one_written command.instrumented accepted r q writes also = one_text accepted r q writes also
one_written command.adapted accepted r q is also = is ∙ sym also

-- a stage ends with one reply
one_end_reply : WordsFollowFromPairs → (skipped : List ℕ) (s : Stage) (r q : Reply) → Ends skipped s r → Ends skipped s q → OneIf (IsAt s) r q
one_end_reply law skipped stages.usage r q is also = inl (inl (is ∙ sym also))
one_end_reply law skipped (stages.source name action) r q ends also = absurd ends
one_end_reply law skipped (stages.writes text accepted) r q ends also = inl (inl (one_written text accepted r q ends also))
one_end_reply law skipped (stages.tests run accepted) r q ends also = absurd ends
one_end_reply law skipped (stages.left name other accepted) r q ends also = absurd ends
one_end_reply law skipped (stages.right name accepted first) r q ends also = absurd ends
one_end_reply law skipped (stages.kept name judging accepted) r q ends also = absurd ends
one_end_reply law skipped (stages.reasons name accepted basis) r q ends also = absurd ends
one_end_reply law skipped (stages.last accepted (stages.tested task plans) js) r q ends also = one_told law skipped task accepted plans js r q ends also
one_end_reply law skipped (stages.last accepted (stages.recorded asked found) js) r q ends also = inl (inl (one_judged (HasEvent accepted.map found.matrix) asked accepted (tested_in found) js r q ends also))
one_end_reply law skipped (stages.merged both) r q is also = inl (inl (is ∙ sym also))
one_end_reply law skipped (stages.load count workers) r q ends also = inl (one_load skipped count r q ends also)

-- and then asks for no file
pub no_file : (skipped : List ℕ) (s : Stage) (r : Reply) (f : File) → Ends skipped s r → file_of s ≡ Some f → ⊥
no_file skipped stages.usage r f ends is = cc is
no_file skipped (stages.source name action) r f ends is = absurd ends
no_file skipped (stages.writes text accepted) r f ends is = cc is
no_file skipped (stages.tests run accepted) r f ends is = absurd ends
no_file skipped (stages.left name other accepted) r f ends is = absurd ends
no_file skipped (stages.right name accepted first) r f ends is = absurd ends
no_file skipped (stages.kept name judging accepted) r f ends is = absurd ends
no_file skipped (stages.reasons name accepted basis) r f ends is = absurd ends
no_file skipped (stages.last accepted basis js) r f ends is = cc is
no_file skipped (stages.merged both) r f ends is = cc is
no_file skipped (stages.load count workers) r f ends is = cc is

-- ---- answers

module _ (law : WordsFollowFromPairs) (skipped : List ℕ) (files : Files) where
  same_verdict : (s : Stage) (f g : File) (a b : List ℕ) (u v : Result Stage Reply) → file_of s ≡ Some f → file_of s ≡ Some g
      → Holds (Some files) f a → Holds (Some files) g b → Judges s a u → Judges s b v → Agree u v
  same_verdict s f g a b u v p q holds also judges other =
      let file : f ≡ g = cc (p, q) in
      let bytes : a ≡ b = same_bytes files g a b (subst (λ (x : File). Holds (Some files) x a) file holds) also in
      one_verdict law s b u v (subst (λ (x : List ℕ). Judges s x u) bytes judges) other

  not_long : (s : Stage) (f g : File) (bytes : List ℕ) → file_of s ≡ Some f → file_of s ≡ Some g → IsLonger (Some files) f.name (limit_of f.kind) → Holds (Some files) g bytes → ⊥
  not_long s f g bytes p q long holds =
      let file : f ≡ g = cc (p, q) in
      not_both files g bytes (subst (λ (x : File). IsLonger (Some files) x.name (limit_of x.kind)) file long) holds

  one_answer : (s : Stage) (a b c d : Requests) (r q : Reply) → Answers skipped (Some files) s a r b → Answers skipped (Some files) s c q d → OneIf (IsAt s) r q
  one_answer s a b c d r q (calls.finished x p) (calls.finished y o) = one_end_reply law skipped s r q p o
  one_answer s a b c d r q (calls.finished x p) (calls.too_long g o long) = absurd (no_file skipped s r g p o)
  one_answer s a b c d r q (calls.finished x p) (calls.refused g bytes y o holds judges) = absurd (no_file skipped s r g p o)
  one_answer s a b c d r q (calls.too_long f p long) (calls.finished y o) = absurd (no_file skipped s q f o p)
  one_answer s a b c d r q (calls.too_long f p long) (calls.too_long g o also) = let file : f ≡ g = cc (p, o) in inl (inl (ap longer file))
  one_answer s a b c d r q (calls.too_long f p long) (calls.refused g bytes y o holds judges) = absurd (not_long s f g bytes p o long holds)
  one_answer s a b c d r q (calls.refused f bytes x p holds judges) (calls.finished y o) = absurd (no_file skipped s q f o p)
  one_answer s a b c d r q (calls.refused f bytes x p holds judges) (calls.too_long g o long) = absurd (not_long s g f bytes o p long holds)
  one_answer s a b c d r q (calls.refused f bytes x p holds judges) (calls.refused g text y o also other) =
      inl (same_verdict s f g bytes text (Err r) (Err q) p o holds also judges other)

  no_answer : (s t : Stage) (f : File) (text : List ℕ) (a b : Requests) (r : Reply) → Answers skipped (Some files) s a r b → file_of s ≡ Some f → Holds (Some files) f text → Judges s text (Ok t) → ⊥
  no_answer s t f text a b r (calls.finished x p) is holds judges = no_file skipped s r f p is
  no_answer s t f text a b r (calls.too_long g p long) is holds judges = not_long s g f text p is long holds
  no_answer s t f text a b r (calls.refused g bytes x p also refuses) is holds judges = same_verdict s g f bytes text (Err r) (Ok t) p is also holds refuses judges

pub no_fault : (s : Stage) (a b : Requests) (r : Reply) → Fails s a r b → IsAnswer r.status → ⊥
no_fault s a b r (calls.unreadable f is) answer = answer
no_fault s a b r calls.no_memory answer = answer
no_fault s a b r (calls.no_memory_after f is) answer = answer

-- from a stage to the one before
back : (W V : Type 0) (r q : Reply) → (W → V) → OneIf W r q → OneIf V r q
back W V r q before (inl one) = inl one
back W V r q before (inr (at, looks)) = inr (before at, looks)

one_end : WordsFollowFromPairs → (skipped : List ℕ) (files : Files) (s : Stage) (a b c d : Requests) (r q : Reply) → Leads skipped (Some files) s a r b → Leads skipped (Some files) s c q d → IsAnswer r.status → IsAnswer q.status → OneIf (IsAt s) r q
one_end law skipped files s a b c d r q (calls.answers _ _ _ _ x) (calls.answers _ _ _ _ y) p o = one_answer law skipped files s a b c d r q x y
one_end law skipped files s a b c d r q (calls.answers _ _ _ _ x) (calls.fails _ _ _ _ y) p o = absurd (no_fault s c d q y o)
one_end law skipped files s a b c d r q (calls.answers _ _ _ _ x) (calls.accepted _ t g text _ _ _ is holds judges leads) p o = absurd (no_answer law skipped files s t g text a b r x is holds judges)
one_end law skipped files s a b c d r q (calls.fails _ _ _ _ x) y p o = absurd (no_fault s a b r x p)
one_end law skipped files s a b c d r q (calls.accepted _ t f bytes _ _ _ is holds judges leads) (calls.answers _ _ _ _ y) p o = absurd (no_answer law skipped files s t f bytes c d q y is holds judges)
one_end law skipped files s a b c d r q (calls.accepted _ t f bytes _ _ _ is holds judges leads) (calls.fails _ _ _ _ y) p o = absurd (no_fault s c d q y o)
one_end law skipped files s a b c d r q (calls.accepted _ t f bytes _ _ _ is holds judges leads) (calls.accepted _ u g text _ _ _ also holds_g judges_g leads_g) p o =
    let same : t ≡ u = same_verdict law skipped files s f g bytes text (Ok t) (Ok u) is also holds holds_g judges judges_g in
    back (IsAt u) (IsAt s) r q (at_before s u text judges_g)
    (one_end law skipped files u (and_asked a (request_of f)) b (and_asked c (request_of g)) d r q (subst (λ (x : Stage). Leads skipped (Some files) x (and_asked a (request_of f)) r b) same leads) leads_g p o)

-- ---- calls

-- a stage that asks for no file ends
ends_alone : (skipped : List ℕ) (files : Option Files) (s : Stage) (a b : Requests) (r : Reply) → file_of s ≡ None → Leads skipped files s a r b → IsAnswer r.status → Ends skipped s r
ends_alone skipped files s a b r none (calls.answers _ _ _ _ (calls.finished x p)) answer = p
ends_alone skipped files s a b r none (calls.answers _ _ _ _ (calls.too_long f p long)) answer = absurd (cc (none, p))
ends_alone skipped files s a b r none (calls.answers _ _ _ _ (calls.refused f bytes x p holds judges)) answer = absurd (cc (none, p))
ends_alone skipped files s a b r none (calls.fails _ _ _ _ x) answer = absurd (no_fault s a b r x answer)
ends_alone skipped files s a b r none (calls.accepted _ t f bytes _ _ _ is holds judges leads) answer = absurd (cc (none, is))

pub one_reply : WordsFollowFromPairs → (call : Call) (r q : Reply) → IsKnown call → CallsFor call r → CallsFor call q → OneIf (IsWatch (command_of call.words)) r q
one_reply law call r q (inl none) (p, (a, b, leads)) (o, (c, d, also)) =
    let given = command_of call.words in
    let first = first_stage given in
    back (IsAt first) (IsWatch given) r q (at_first given)
    (one_end_reply law call.skipped first r q (ends_alone call.skipped call.files first a b r none leads p) (ends_alone call.skipped call.files first c d q none also o))
one_reply law call r q (inr (files, told)) (p, (a, b, leads)) (o, (c, d, also)) =
    let given = command_of call.words in
    let first = first_stage given in
    back (IsAt first) (IsWatch given) r q (at_first given)
    (one_end law call.skipped files first a b c d r q (subst (λ (f : Option Files). Leads call.skipped f first a r b) told leads) (subst (λ (f : Option Files). Leads call.skipped f first c q d) told also) p o)
