-- A file of justifications is asked for only where the matrix fits.
use Rattle.std.proofs.Common.{◌≡◌, ◌≢◌, ◌∙◌, ◌⊎◌, ◌++◌, ◌+◌, ◌≤◌, ℕ, arith, length, List, [], ◌∷◌, Option, Some, None, Ok, Err, refl, sym, ap, subst, inl, inr, append_assoc, length-append}
use Rattle.mc_limits.specs.Limits.{most_bits, most_words}
use Rattle.sha2.specs.Sha256.{sha256}
use Rattle.mc_command.specs.Command as command
use Rattle.mc_command.specs.Command.{Action, Command, command_of}
use Rattle.mc_core.specs.Shape.{word_count}
use Rattle.mc_probe.specs.Maps.{Map}
use Rattle.mc_port.specs.Store.{Files, Request, and_asked}
use Rattle.mc_record.specs.Kept.{Kept}
use Rattle.mc_record.proofs.Accepted.{record_is_kept}
use Rattle.mc_oblige.specs.declared.justification.Justification.{Justification}
use Rattle.station_replies.specs.Files.{File, Holds, request_of, status_of}
use Rattle.station_replies.specs.Reply.{Reply}
use Rattle.station_replies.specs.declared.file.FileKind.{FileKind}
use Rattle.station_replies.specs.declared.file.FileKind.TheVariants as kind
use Rattle.station_replies.specs.declared.status.Status.{Status}
use Rattle.station_replies.specs.declared.status.Status.TheVariants as status
use Rattle.mc_station.specs.Calls as calls
use Rattle.mc_station.specs.Calls.{Leads, Requests}
use Rattle.mc_station.specs.Causes.{SourceIs}
use Rattle.mc_station.specs.Laws.{and_all}
use Rattle.laws_station.specs.Laws.{ReasonsAfterMatrix, TooLargeBeforeReasons}
use Rattle.mc_station.specs.Records.{JudgesRecord}
use Rattle.mc_station.specs.Source.{Accepted, JudgesSource}
use Rattle.mc_station.specs.Stages as stages
use Rattle.mc_station.specs.Stages.{Ends, Judges, Stage, after_source, after_tests, file_of, first_stage, justified_by, requests_left, requests_of}
use Rattle.laws_station.specs.Whole.{MatrixIsInLimit, before_reasons, reasons_in, requests_before}
use Rattle.mc_station.proofs.Naming.{source_of}
use Rattle.mc_station.proofs.Allowing.{allowed_fits}
use Rattle.mc_station.proofs.Causes.{Because, leads_cause, of_record, of_source_of}
use Rattle.mc_station.proofs.Order.{and_more, none_more, one_more}

-- ---- status 9 comes before justifications

-- what a stage and those after it ask for before justifications
abbrev before : Stage → List Request
before stages.usage = []
before (stages.source name action) = request_of (stages.source_named name) ∷ requests_before action
before (stages.writes text accepted) = []
before (stages.tests run accepted) = request_of (stages.tests_named run.tests) ∷ []
before (stages.left name other accepted) = stages.record_and name (stages.record_and other [])
before (stages.right name accepted first) = stages.record_and name []
before (stages.kept name judging accepted) = stages.record_and name []
before (stages.reasons name accepted basis) = []
before (stages.last accepted basis js) = []
before (stages.merged both) = []
before (stages.load count workers) = []

before_first : (given : Option Command) → before (first_stage given) ≡ before_reasons given
before_first None = refl
before_first (Some (command.on_source name action)) = refl
before_first (Some (command.selfload count workers)) = refl

before_after : (action : Action) (accepted : Accepted) → before (after_source action accepted) ≡ requests_before action
before_after (command.run run) accepted = refl
before_after (command.write text) accepted = refl
before_after (command.merge left right) accepted = refl
before_after (command.analyse kept judging) accepted = refl

none_after : (name : Option (List ℕ)) (accepted : Accepted) (basis : stages.Basis) → before (after_tests name accepted basis) ≡ []
none_after None accepted basis = refl
none_after (Some name) accepted basis = refl

before_end : (skipped : List ℕ) (s : Stage) (r : Reply) → Ends skipped s r → before s ≡ []
before_end skipped stages.usage r ends = refl
before_end skipped (stages.source name action) r ends = absurd ends
before_end skipped (stages.writes text accepted) r ends = refl
before_end skipped (stages.tests run accepted) r ends = absurd ends
before_end skipped (stages.left name other accepted) r ends = absurd ends
before_end skipped (stages.right name accepted first) r ends = absurd ends
before_end skipped (stages.kept name judging accepted) r ends = absurd ends
before_end skipped (stages.reasons name accepted basis) r ends = absurd ends
before_end skipped (stages.last accepted basis js) r ends = refl
before_end skipped (stages.merged both) r ends = refl
before_end skipped (stages.load count workers) r ends = refl

no_kind : (k : FileKind) → status_of k ≢ status.TooLarge
no_kind kind.Source is = cc is
no_kind kind.Tests is = cc is
no_kind kind.Record is = cc is
no_kind kind.Justifications is = cc is

-- two statuses are not one
apart : (s t u : Status) → (t ≡ u → ⊥) → s ≡ t → s ≡ u → ⊥
apart s t u differ is also = differ (sym is ∙ also)

before_refusal : (s : Stage) (f : File) (bytes : List ℕ) (r : Reply) → file_of s ≡ Some f → Judges s bytes (Err r) → r.status ≡ status.TooLarge → before s ≡ request_of f ∷ []
before_refusal stages.usage f bytes r is judges large = absurd judges
before_refusal (stages.source name action) f bytes r is (inl judges) large =
    absurd (apart r.status status.SourceRefused status.TooLarge (λ e. cc e) (of_source_of action bytes r judges) large)
before_refusal (stages.source name action) f bytes r is (inr (accepted, judges, next)) large = absurd (cc next)
before_refusal (stages.writes text accepted) f bytes r is judges large = absurd judges
before_refusal (stages.tests run accepted) f bytes r is judges large =
    let same : f ≡ stages.tests_named run.tests = cc is in ap (λ (x : File). request_of x ∷ []) (sym same)
before_refusal (stages.left name other accepted) f bytes r is (inl judges) large =
    absurd (apart r.status status.TestsRefused status.TooLarge (λ e. cc e) (of_record accepted name bytes r judges) large)
before_refusal (stages.left name other accepted) f bytes r is (inr (first, judges, next)) large = absurd (cc next)
before_refusal (stages.right name accepted first) f bytes r is judges large =
    let same : f ≡ stages.record_named name = cc is in ap (λ (x : File). request_of x ∷ []) (sym same)
before_refusal (stages.kept name judging accepted) f bytes r is judges large =
    let same : f ≡ stages.record_named name = cc is in ap (λ (x : File). request_of x ∷ []) (sym same)
before_refusal (stages.reasons name accepted basis) f bytes r is (inl (fault, reads, says)) large =
    absurd (apart r.status status.JustificationsRefused status.TooLarge (λ e. cc e) (ap (λ (x : Reply). x.status) says) large)
before_refusal (stages.reasons name accepted basis) f bytes r is (inr (js, judges, next)) large = absurd (cc next)
before_refusal (stages.last accepted basis js) f bytes r is judges large = absurd judges
before_refusal (stages.merged both) f bytes r is judges large = absurd judges
before_refusal (stages.load count workers) f bytes r is judges large = absurd judges

-- the stage at which all files are accepted
abbrev IsLast : Stage → Type 0
IsLast t = (accepted : Accepted) × (basis : stages.Basis) × (js : List Justification) × (t ≡ stages.last accepted basis js)

before_next : (s t : Stage) (f : File) (bytes : List ℕ) → file_of s ≡ Some f → Judges s bytes (Ok t) → (before s ≡ request_of f ∷ before t) ⊎ IsLast t
before_next stages.usage t f bytes is judges = absurd judges
before_next (stages.source name action) t f bytes is (accepted, judges, next) =
    let same : f ≡ stages.source_named name = cc is in
    let stage : t ≡ after_source action accepted = cc next in
    let rest : requests_before action ≡ before t = sym (before_after action accepted) ∙ ap before (sym stage) in
    inl (ap (λ (x : File). request_of x ∷ requests_before action) (sym same) ∙ ap (λ (rs : List Request). request_of f ∷ rs) rest)
before_next (stages.writes text accepted) t f bytes is judges = absurd judges
before_next (stages.tests run accepted) t f bytes is (plans, judges, (u, fits, next)) =
    let same : f ≡ stages.tests_named run.tests = cc is in
    let name = justified_by run.task in
    let stage : t ≡ after_tests name accepted (stages.tested run.task plans) = cc next in
    let rest : [] ≡ before t = sym (none_after name accepted (stages.tested run.task plans)) ∙ ap before (sym stage) in
    inl (ap (λ (x : File). request_of x ∷ []) (sym same) ∙ ap (λ (rs : List Request). request_of f ∷ rs) rest)
before_next (stages.left name other accepted) t f bytes is (first, judges, next) =
    let same : f ≡ stages.record_named name = cc is in
    let stage : t ≡ stages.right other accepted first = cc next in
    let rest : stages.record_and other [] ≡ before t = ap before (sym stage) in
    inl (ap (λ (x : File). request_of x ∷ stages.record_and other []) (sym same) ∙ ap (λ (rs : List Request). request_of f ∷ rs) rest)
before_next (stages.right name accepted first) t f bytes is (second, judges, (both, joins, next)) =
    let same : f ≡ stages.record_named name = cc is in
    let stage : t ≡ stages.merged both = cc next in
    let rest : [] ≡ before t = ap before (sym stage) in
    inl (ap (λ (x : File). request_of x ∷ []) (sym same) ∙ ap (λ (rs : List Request). request_of f ∷ rs) rest)
before_next (stages.kept name judging accepted) t f bytes is (found, judges, next) =
    let same : f ≡ stages.record_named name = cc is in
    let stage : t ≡ after_tests judging.justify accepted (stages.recorded judging found) = cc next in
    let rest : [] ≡ before t = sym (none_after judging.justify accepted (stages.recorded judging found)) ∙ ap before (sym stage) in
    inl (ap (λ (x : File). request_of x ∷ []) (sym same) ∙ ap (λ (rs : List Request). request_of f ∷ rs) rest)
before_next (stages.reasons name accepted basis) t f bytes is (js, judges, next) =
    let stage : t ≡ stages.last accepted basis js = cc next in inr (accepted, basis, js, stage)
before_next (stages.last accepted basis js) t f bytes is judges = absurd judges
before_next (stages.merged both) t f bytes is judges = absurd judges
before_next (stages.load count workers) t f bytes is judges = absurd judges

-- from a stage to the one before
one_before : (s t : Stage) (f : File) (asked after : Requests) → after ≡ and_all (and_asked asked (request_of f)) (before t) → (IsLast t → ⊥) → (before s ≡ request_of f ∷ before t) ⊎ IsLast t
    → after ≡ and_all asked (before s)
one_before s t f asked after rest never (inl next) = rest ∙ and_more asked (request_of f) (before t) ∙ ap (λ (rs : List Request). and_all asked rs) (sym next)
one_before s t f asked after rest never (inr last) = absurd (never last)

module _ (skipped : List ℕ) (files : Option Files) where
  -- where all files are accepted, the matrix was found to fit
  none_at_last : (t : Stage) (a b : Requests) (r : Reply) → IsLast t → Leads skipped files t a r b → r.status ≢ status.TooLarge
  none_at_last t a b r (accepted, basis, js, is) leads large =
      let here : Leads skipped files (stages.last accepted basis js) a r b = subst (λ (x : Stage). Leads skipped files x a r b) is leads in
      subst (λ (s : Status). Because files None r s) large (leads_cause files None skipped (stages.last accepted basis js) a b r tt here)

  too_large : (s : Stage) (asked after : Requests) (r : Reply) → Leads skipped files s asked r after → r.status ≡ status.TooLarge → after ≡ and_all asked (before s)
  too_large s asked after r (calls.answers _ _ _ _ (calls.finished x ends)) large =
      none_more asked ∙ ap (λ (rs : List Request). and_all asked rs) (sym (before_end skipped s r ends))
  too_large s asked after r (calls.answers _ _ _ _ (calls.too_long f is long)) large = absurd (no_kind f.kind large)
  too_large s asked after r (calls.answers _ _ _ _ (calls.refused f bytes x is holds judges)) large =
      one_more asked (request_of f) ∙ ap (λ (rs : List Request). and_all asked rs) (sym (before_refusal s f bytes r is judges large))
  too_large s asked after r (calls.fails _ _ _ _ (calls.unreadable f is)) large = absurd (cc large)
  too_large s asked after r (calls.fails _ _ _ _ calls.no_memory) large = absurd (cc large)
  too_large s asked after r (calls.fails _ _ _ _ (calls.no_memory_after f is)) large = absurd (cc large)
  too_large s asked after r (calls.accepted _ t f bytes _ _ _ is holds judges leads) large =
      let rest : after ≡ and_all (and_asked asked (request_of f)) (before t) = too_large t (and_asked asked (request_of f)) after r leads large in
      one_before s t f asked after rest (λ last. none_at_last t (and_asked asked (request_of f)) after r last leads large) (before_next s t f bytes is judges)

pub too_large_before_reasons : TooLargeBeforeReasons
too_large_before_reasons call asked after r leads large =
    let given = command_of call.words in
    too_large call.skipped call.files (first_stage given) asked after r leads large ∙ ap (λ (rs : List Request). and_all asked rs) (before_first given)

-- ---- all files were asked for

-- an accepted source has few enough bits
few_bits : (bytes : List ℕ) (a : Accepted) → JudgesSource bytes (Ok a) → a.map.bits ≤ most_bits
few_bits bytes a (tokens, lexes, (unit, parses, (u, admits, (program, types, (ds, decides, (v, numbers, (m, maps, accepts))))))) =
    let whole : a ≡ record { source = bytes; program = program; map = m } = cc accepts in
    subst (λ (x : Map). x.bits ≤ most_bits) (sym (ap (λ (x : Accepted). x.map) whole)) maps.kept.few

-- it was asked for one file, and more were to come
one_only : (asked : Requests) (x p q : Request) (b rest : List Request) → asked ≡ Some b → and_asked asked x ≢ Some (b ++ p ∷ q ∷ rest)
one_only asked x p q b rest is all =
    let whole : and_asked (Some b) x ≡ Some (b ++ p ∷ q ∷ rest) = ap (λ (o : Requests). and_asked o x) (sym is) ∙ all in
    let same : b ++ x ∷ [] ≡ b ++ p ∷ q ∷ rest = cc whole in
    omega (arith, ap length same, length-append b (x ∷ []), length-append b (p ∷ q ∷ rest))

none_only : (asked : Requests) (p q : Request) (b rest : List Request) → asked ≡ Some b → asked ≢ Some (b ++ p ∷ q ∷ rest)
none_only asked p q b rest is all =
    let same : b ≡ b ++ p ∷ q ∷ rest = cc (is, all) in
    omega (arith, ap length same, length-append b (p ∷ q ∷ rest))

module _ (skipped : List ℕ) (files : Option Files) where
  -- a stage accepts its file, and what comes after it leads on
  record Accepts (s : Stage) (asked after : Requests) (r : Reply) : Type 0 where
    next : Stage
    file : File
    bytes : List ℕ
    asks : file_of s ≡ Some file
    holds : Holds files file bytes
    judges : Judges s bytes (Ok next)
    leads : Leads skipped files next (and_asked asked (request_of file)) r after

  -- it does where more than one file was asked for
  went_on : (s : Stage) (asked after : Requests) (r : Reply) (p q : Request) (b rest : List Request) → asked ≡ Some b → after ≡ Some (b ++ p ∷ q ∷ rest) → Leads skipped files s asked r after → Accepts s asked after r
  went_on s asked after r p q b rest is all (calls.answers _ _ _ _ (calls.finished x ends)) = absurd (none_only asked p q b rest is all)
  went_on s asked after r p q b rest is all (calls.answers _ _ _ _ (calls.too_long f on long)) = absurd (one_only asked (request_of f) p q b rest is all)
  went_on s asked after r p q b rest is all (calls.answers _ _ _ _ (calls.refused f bytes x on holds judges)) = absurd (one_only asked (request_of f) p q b rest is all)
  went_on s asked after r p q b rest is all (calls.fails _ _ _ _ (calls.unreadable f on)) = absurd (one_only asked (request_of f) p q b rest is all)
  went_on s asked after r p q b rest is all (calls.fails _ _ _ _ calls.no_memory) = absurd (none_only asked p q b rest is all)
  went_on s asked after r p q b rest is all (calls.fails _ _ _ _ (calls.no_memory_after f on)) = absurd (one_only asked (request_of f) p q b rest is all)
  went_on s asked after r p q b rest is all (calls.accepted _ t f bytes _ _ _ on holds judges leads) =
      record { next = t; file = f; bytes = bytes; asks = on; holds = holds; judges = judges; leads = leads }

  -- what is left after the first of three files
  two_left : (b : List Request) (x y p q : Request) (later : List Request) → x ≡ y → later ≡ p ∷ q ∷ [] → Some (b ++ x ∷ later) ≡ Some ((b ++ y ∷ []) ++ p ∷ q ∷ [])
  two_left b x y p q later same is =
      ap (λ (z : Request). Some (b ++ z ∷ later)) same ∙ ap (λ (rs : List Request). Some (b ++ y ∷ rs)) is ∙ ap Some (sym (append_assoc b (y ∷ []) (p ∷ q ∷ [])))

  -- a record of an accepted source keeps to the limits
  few_words : (accepted : Accepted) (name bytes : List ℕ) (found : Kept) → accepted.map.bits ≤ most_bits → JudgesRecord accepted name bytes (Ok found) → word_count found.matrix.shape ≤ most_words
  few_words accepted name bytes found few (old, rules, reads) =
      (record_is_kept (sha256 accepted.source) accepted.map.bits old bytes found few reads).few_words

  abbrev InLimit : List ℕ → Action → Type 0
  InLimit name action = (accepted : Accepted) × SourceIs files name action accepted × MatrixIsInLimit files action accepted

  run_fits : (run : command.Run) (accepted : Accepted) (name reasons : List ℕ) (bytes : List ℕ) (t : Stage) → justified_by run.task ≡ Some reasons → SourceIs files name (command.run run) accepted
      → Holds files (stages.tests_named run.tests) bytes → Judges (stages.tests run accepted) bytes (Ok t) → InLimit name (command.run run)
  run_fits run accepted name reasons bytes t is source holds (plans, reads, (u, allows, next)) =
      (accepted, source, (plans, (bytes, holds, reads), allowed_fits run.task reasons accepted plans u is allows))

  kept_fits : (kept : List ℕ) (judging : command.Judging) (accepted : Accepted) (name bytes : List ℕ) (t : Stage) → accepted.map.bits ≤ most_bits → SourceIs files name (command.analyse kept judging) accepted → Holds files (stages.record_named kept) bytes
      → Judges (stages.kept kept judging accepted) bytes (Ok t) → InLimit name (command.analyse kept judging)
  kept_fits kept judging accepted name bytes t few source holds (found, reads, next) =
      (accepted, source, (found, (bytes, holds, reads), few_words accepted kept bytes found few reads))

  -- what is accepted of the second file
  second_fits : (action : Action) (accepted : Accepted) (name reasons : List ℕ) (asked after : Requests) (r : Reply) → reasons_in action ≡ Some reasons → accepted.map.bits ≤ most_bits → SourceIs files name action accepted
      → Accepts (after_source action accepted) asked after r → InLimit name action
  second_fits (command.run run) accepted name reasons asked after r is few source went =
      let f : went.file ≡ stages.tests_named run.tests = cc went.asks in
      let held : Holds files (stages.tests_named run.tests) went.bytes = subst (λ (x : File). Holds files x went.bytes) f went.holds in
      run_fits run accepted name reasons went.bytes went.next is source held went.judges
  second_fits (command.write text) accepted name reasons asked after r is few source went = absurd (cc is)
  second_fits (command.merge left right) accepted name reasons asked after r is few source went = absurd (cc is)
  second_fits (command.analyse kept judging) accepted name reasons asked after r is few source went =
      let f : went.file ≡ stages.record_named kept = cc went.asks in
      let held : Holds files (stages.record_named kept) went.bytes = subst (λ (x : File). Holds files x went.bytes) f went.holds in
      kept_fits kept judging accepted name went.bytes went.next few source held went.judges

  -- the requests after the source
  two_requests : (action : Action) (reasons : List ℕ) → reasons_in action ≡ Some reasons → (p : Request) × (requests_of action ≡ p ∷ request_of (stages.reasons_named reasons) ∷ [])
  two_requests (command.run run) reasons is =
      (request_of (stages.tests_named run.tests), ap (λ (o : Option (List ℕ)). request_of (stages.tests_named run.tests) ∷ stages.reasons_of o) is)
  two_requests (command.write text) reasons is = absurd (cc is)
  two_requests (command.merge left right) reasons is = absurd (cc is)
  two_requests (command.analyse kept judging) reasons is =
      (request_of (stages.record_named kept), ap (λ (o : Option (List ℕ)). request_of (stages.record_named kept) ∷ stages.reasons_of o) is)

  -- and of the first one
  first_fits : (name reasons : List ℕ) (action : Action) (b : List Request) (r : Reply) (p : Request) (f : File) (bytes : List ℕ) (t : Stage) → reasons_in action ≡ Some reasons
      → requests_of action ≡ p ∷ request_of (stages.reasons_named reasons) ∷ [] → f ≡ stages.source_named name → Holds files f bytes → Judges (stages.source name action) bytes (Ok t)
      → Leads skipped files t (Some (b ++ request_of f ∷ [])) r (Some (b ++ requests_left (stages.source name action))) → InLimit name action
  first_fits name reasons action b r p f bytes t is two same holds (accepted, judges, next) leads =
      let x : Request = request_of (stages.source_named name) in
      let y : Request = request_of f in
      let q : Request = request_of (stages.reasons_named reasons) in
      let asked : Requests = Some (b ++ y ∷ []) in
      let all : Requests = Some (b ++ requests_left (stages.source name action)) in
      let held : Holds files (stages.source_named name) bytes = subst (λ (g : File). Holds files g bytes) same holds in
      let stage : t ≡ after_source action accepted = cc next in
      let later : Leads skipped files (after_source action accepted) asked r all = subst (λ (s : Stage). Leads skipped files s asked r all) stage leads in
      let went : Accepts (after_source action accepted) asked all r =
      went_on (after_source action accepted) asked all r p q (b ++ y ∷ []) [] refl (two_left b x y p q (requests_of action) (ap request_of (sym same)) two) later in
      let (source, judged) = source_of action bytes accepted judges in
      second_fits action accepted name reasons asked all r is (few_bits source accepted judged) (bytes, held, judges) went

  pub fits : (name reasons : List ℕ) (action : Action) (b : List Request) (r : Reply) → reasons_in action ≡ Some reasons
      → Leads skipped files (stages.source name action) (Some b) r (Some (b ++ requests_left (stages.source name action))) → InLimit name action
  fits name reasons action b r is leads =
      let (p, two) = two_requests action reasons is in
      let x : Request = request_of (stages.source_named name) in
      let q : Request = request_of (stages.reasons_named reasons) in
      let all : Requests = Some (b ++ requests_left (stages.source name action)) in
      let went : Accepts (stages.source name action) (Some b) all r =
      went_on (stages.source name action) (Some b) all r x p b (q ∷ []) refl (ap (λ (rs : List Request). Some (b ++ x ∷ rs)) two) leads in
      let same : went.file ≡ stages.source_named name = cc went.asks in
      first_fits name reasons action b r p went.file went.bytes went.next is two same went.holds went.judges went.leads

-- justifications are one more
one_longer : (action : Action) (reasons : List ℕ) → reasons_in action ≡ Some reasons → length (requests_of action) ≡ length (requests_before action) + 1
one_longer (command.run run) reasons is =
    let one : length (stages.reasons_of (justified_by run.task)) ≡ 1 = ap (λ (o : Option (List ℕ)). length (stages.reasons_of o)) is in omega (arith, one)
one_longer (command.write text) reasons is = absurd (cc is)
one_longer (command.merge left right) reasons is = absurd (cc is)
one_longer (command.analyse kept judging) reasons is =
    let one : length (stages.reasons_of judging.justify) ≡ 1 = ap (λ (o : Option (List ℕ)). length (stages.reasons_of o)) is in omega (arith, one)

not_all : (name reasons : List ℕ) (action : Action) (b : List Request) → reasons_in action ≡ Some reasons → (Some (b ++ requests_left (stages.source name action))) ≢ and_all (Some b) (before (stages.source name action))
not_all name reasons action b is all =
    let x : Request = request_of (stages.source_named name) in
    let whole : ◌≡◌ {A = Requests} (Some (b ++ x ∷ requests_of action)) (Some (b ++ x ∷ requests_before action)) = all in
    let same : b ++ x ∷ requests_of action ≡ b ++ x ∷ requests_before action = cc whole in
    omega (arith, ap length same, length-append b (x ∷ requests_of action), length-append b (x ∷ requests_before action), one_longer action reasons is)

pub reasons_after_matrix : ReasonsAfterMatrix
reasons_after_matrix call b r name reasons action given is leads =
    let all : Requests = Some (b ++ requests_left (stages.source name action)) in
    let here : Leads call.skipped call.files (stages.source name action) (Some b) r all =
    subst (λ (c : Option Command). Leads call.skipped call.files (first_stage c) (Some b) r (Some (b ++ requests_left (first_stage c)))) given leads in (
      fits call.skipped call.files name reasons action b r is here,
      λ large. not_all name reasons action b is (too_large call.skipped call.files (stages.source name action) (Some b) all r here large),
    )
