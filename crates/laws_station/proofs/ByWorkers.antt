-- The number of workers changes no reply.
use Rattle.std.proofs.Common.{◌≡◌, ◌∙◌, ℕ, List, Option, Some, None, Result, Ok, Err, refl, sym, ap, subst, inl, inr}
use Rattle.mc_core.specs.Laws.{WordsFollowFromPairs}
use Rattle.mc_command.specs.Command as command
use Rattle.mc_command.specs.Command.{Action, Command, command_of}
use Rattle.mc_port.specs.Store.{Files, and_asked}
use Rattle.station_replies.specs.Files.{request_of}
use Rattle.station_replies.specs.Reply.{Reply}
use Rattle.mc_station.specs.Calls as calls
use Rattle.mc_station.specs.Calls.{Call, Leads, LeadsTo, Requests}
use Rattle.mc_station.specs.Named.{JudgesSourceOf}
use Rattle.mc_station.specs.Source.{Accepted}
use Rattle.mc_station.specs.Stages as stages
use Rattle.mc_station.specs.Stages.{Ends, Judges, Stage, after_source, after_tests, file_of, first_stage, justified_by}
use Rattle.mc_station.proofs.Unique.{one_reply}
use Rattle.laws_station.specs.Workers.{WorkersCallAlike, WorkersLeadAlike, WorkersReplyAlike, shared, shared_action}

module _ (n : ℕ) where
  -- a stage that this many workers share
  abbrev by : Stage → Stage
  by stages.usage = stages.usage
  by (stages.source name action) = stages.source name (shared_action n action)
  by (stages.writes text accepted) = stages.writes text accepted
  by (stages.tests run accepted) = stages.tests (record run { workers = n }) accepted
  by (stages.left name other accepted) = stages.left name other accepted
  by (stages.right name accepted first) = stages.right name accepted first
  by (stages.kept name judging accepted) = stages.kept name judging accepted
  by (stages.reasons name accepted basis) = stages.reasons name accepted basis
  by (stages.last accepted basis js) = stages.last accepted basis js
  by (stages.merged both) = stages.merged both
  by (stages.load count workers) = stages.load count n

  same_file : (s : Stage) → file_of (by s) ≡ file_of s
  same_file stages.usage = refl
  same_file (stages.source name action) = refl
  same_file (stages.writes text accepted) = refl
  same_file (stages.tests run accepted) = refl
  same_file (stages.left name other accepted) = refl
  same_file (stages.right name accepted first) = refl
  same_file (stages.kept name judging accepted) = refl
  same_file (stages.reasons name accepted basis) = refl
  same_file (stages.last accepted basis js) = refl
  same_file (stages.merged both) = refl
  same_file (stages.load count workers) = refl

  same_end : (skipped : List ℕ) (s : Stage) (r : Reply) → Ends skipped s r → Ends skipped (by s) r
  same_end skipped stages.usage r ends = ends
  same_end skipped (stages.source name action) r ends = ends
  same_end skipped (stages.writes text accepted) r ends = ends
  same_end skipped (stages.tests run accepted) r ends = ends
  same_end skipped (stages.left name other accepted) r ends = ends
  same_end skipped (stages.right name accepted first) r ends = ends
  same_end skipped (stages.kept name judging accepted) r ends = ends
  same_end skipped (stages.reasons name accepted basis) r ends = ends
  same_end skipped (stages.last accepted basis js) r ends = ends
  same_end skipped (stages.merged both) r ends = ends
  same_end skipped (stages.load count workers) r ends = ends

  -- ---- files are judged alike

  same_source : (action : Action) (bytes : List ℕ) (v : Result Accepted Reply) → JudgesSourceOf action bytes v → JudgesSourceOf (shared_action n action) bytes v
  same_source (command.run run) bytes v judges = judges
  same_source (command.write text) bytes v judges = judges
  same_source (command.merge left right) bytes v judges = judges
  same_source (command.analyse kept judging) bytes v judges = judges

  same_after : (action : Action) (accepted : Accepted) → by (after_source action accepted) ≡ after_source (shared_action n action) accepted
  same_after (command.run run) accepted = refl
  same_after (command.write text) accepted = refl
  same_after (command.merge left right) accepted = refl
  same_after (command.analyse kept judging) accepted = refl

  same_tests : (name : Option (List ℕ)) (accepted : Accepted) (basis : stages.Basis) → by (after_tests name accepted basis) ≡ after_tests name accepted basis
  same_tests None accepted basis = refl
  same_tests (Some name) accepted basis = refl

  -- a stage is refused alike
  same_refusal : (s : Stage) (bytes : List ℕ) (r : Reply) → Judges s bytes (Err r) → Judges (by s) bytes (Err r)
  same_refusal stages.usage bytes r judges = judges
  same_refusal (stages.source name action) bytes r (inl judges) = inl (same_source action bytes (Err r) judges)
  same_refusal (stages.source name action) bytes r (inr (accepted, judges, next)) = absurd (cc next)
  same_refusal (stages.writes text accepted) bytes r judges = judges
  same_refusal (stages.tests run accepted) bytes r judges = judges
  same_refusal (stages.left name other accepted) bytes r judges = judges
  same_refusal (stages.right name accepted first) bytes r judges = judges
  same_refusal (stages.kept name judging accepted) bytes r judges = judges
  same_refusal (stages.reasons name accepted basis) bytes r judges = judges
  same_refusal (stages.last accepted basis js) bytes r judges = judges
  same_refusal (stages.merged both) bytes r judges = judges
  same_refusal (stages.load count workers) bytes r judges = judges

  -- and leads on alike
  same_next : (s t : Stage) (bytes : List ℕ) → Judges s bytes (Ok t) → Judges (by s) bytes (Ok (by t))
  same_next stages.usage t bytes judges = absurd judges
  same_next (stages.source name action) t bytes (accepted, judges, next) =
      let is : t ≡ after_source action accepted = cc next in
      let there : by t ≡ after_source (shared_action n action) accepted = ap by is ∙ same_after action accepted in
      (accepted, same_source action bytes (Ok accepted) judges, cc there)
  same_next (stages.writes text accepted) t bytes judges = absurd judges
  same_next (stages.tests run accepted) t bytes (plans, judges, (u, allows, next)) =
      let u_is = after_tests (justified_by run.task) accepted (stages.tested run.task plans) in
      let is : t ≡ u_is = cc next in
      let there : by t ≡ u_is = ap by is ∙ same_tests (justified_by run.task) accepted (stages.tested run.task plans) in
      (plans, judges, (u, allows, cc there))
  same_next (stages.left name other accepted) t bytes (first, judges, next) =
      let is : t ≡ stages.right other accepted first = cc next in
      let there : by t ≡ stages.right other accepted first = ap by is in
      (first, judges, cc there)
  same_next (stages.right name accepted first) t bytes (second, judges, (both, joins, next)) =
      let is : t ≡ stages.merged both = cc next in
      let there : by t ≡ stages.merged both = ap by is in
      (second, judges, (both, joins, cc there))
  same_next (stages.kept name judging accepted) t bytes (found, judges, next) =
      let u_is = after_tests judging.justify accepted (stages.recorded judging found) in
      let is : t ≡ u_is = cc next in
      let there : by t ≡ u_is = ap by is ∙ same_tests judging.justify accepted (stages.recorded judging found) in
      (found, judges, cc there)
  same_next (stages.reasons name accepted basis) t bytes (js, judges, next) =
      let is : t ≡ stages.last accepted basis js = cc next in
      let there : by t ≡ stages.last accepted basis js = ap by is in
      (js, judges, cc there)
  same_next (stages.last accepted basis js) t bytes judges = absurd judges
  same_next (stages.merged both) t bytes judges = absurd judges
  same_next (stages.load count workers) t bytes judges = absurd judges

  -- ---- stages lead alike

  leads_alike : (skipped : List ℕ) (files : Option Files) (s : Stage) (a b : Requests) (r : Reply) → Leads skipped files s a r b → Leads skipped files (by s) a r b
  leads_alike skipped files s a b r (calls.answers _ _ _ _ (calls.finished x ends)) = calls.answers (by s) a b r (calls.finished r (same_end skipped s r ends))
  leads_alike skipped files s a b r (calls.answers _ _ _ _ (calls.too_long f is long)) = calls.answers (by s) a b r (calls.too_long f (same_file s ∙ is) long)
  leads_alike skipped files s a b r (calls.answers _ _ _ _ (calls.refused f bytes x is holds judges)) =
      calls.answers (by s) a b r (calls.refused f bytes r (same_file s ∙ is) holds (same_refusal s bytes r judges))
  leads_alike skipped files s a b r (calls.fails _ _ _ _ (calls.unreadable f is)) = calls.fails (by s) a b r (calls.unreadable f (same_file s ∙ is))
  leads_alike skipped files s a b r (calls.fails _ _ _ _ calls.no_memory) = calls.fails (by s) a b r calls.no_memory
  leads_alike skipped files s a b r (calls.fails _ _ _ _ (calls.no_memory_after f is)) = calls.fails (by s) a b r (calls.no_memory_after f (same_file s ∙ is))
  leads_alike skipped files s a b r (calls.accepted _ t f bytes _ _ _ is holds judges leads) =
      calls.accepted (by s) (by t) f bytes a b r (same_file s ∙ is) holds (same_next s t bytes judges)
      (leads_alike skipped files t (and_asked a (request_of f)) b r leads)

  first_alike : (c : Command) → by (first_stage (Some c)) ≡ first_stage (Some (shared n c))
  first_alike (command.on_source name action) = refl
  first_alike (command.selfload count workers) = refl

-- ---- commands

-- how many workers share a command
abbrev workers_of : Command → ℕ
workers_of (command.on_source name (command.run run)) = run.workers
workers_of (command.on_source name (command.write text)) = 0
workers_of (command.on_source name (command.merge left right)) = 0
workers_of (command.on_source name (command.analyse kept judging)) = 0
workers_of (command.selfload count workers) = workers

back : (n : ℕ) (c : Command) → shared (workers_of c) (shared n c) ≡ c
back n (command.on_source name (command.run run)) = refl
back n (command.on_source name (command.write text)) = refl
back n (command.on_source name (command.merge left right)) = refl
back n (command.on_source name (command.analyse kept judging)) = refl
back n (command.selfload count workers) = refl

-- from a call to another one, whose command this many workers share
moves : (n : ℕ) (a b : Call) (c d : Command) (asked after : Requests) (r : Reply) → command_of a.words ≡ Some c → command_of b.words ≡ Some d → shared n c ≡ d → a.files ≡ b.files → a.skipped ≡ b.skipped
    → LeadsTo a asked r after → LeadsTo b asked r after
moves n a b c d asked after r first second is files skipped leads =
    let here : Leads a.skipped a.files (first_stage (Some c)) asked r after = subst (λ (o : Option Command). Leads a.skipped a.files (first_stage o) asked r after) first leads in
    let there : Leads a.skipped a.files (first_stage (Some (shared n c))) asked r after =
    subst (λ (s : Stage). Leads a.skipped a.files s asked r after) (first_alike n c) (leads_alike n a.skipped a.files (first_stage (Some c)) asked after r here) in
    let named : Leads a.skipped a.files (first_stage (command_of b.words)) asked r after =
    subst (λ (o : Option Command). Leads a.skipped a.files (first_stage o) asked r after) (ap (λ (x : Command). Some x) is ∙ sym second) there in
    let filed : Leads a.skipped b.files (first_stage (command_of b.words)) asked r after =
    subst (λ (fs : Option Files). Leads a.skipped fs (first_stage (command_of b.words)) asked r after) files named in
    subst (λ (xs : List ℕ). Leads xs b.files (first_stage (command_of b.words)) asked r after) skipped filed

pub workers_lead_alike : WorkersLeadAlike
workers_lead_alike a b differ asked after r = (
  (λ leads. moves differ.workers a b differ.given (shared differ.workers differ.given) asked after r differ.first differ.second refl differ.files differ.skipped leads),
  (λ leads. moves (workers_of differ.given) b a (shared differ.workers differ.given) differ.given asked after r differ.second differ.first (back differ.workers differ.given) (sym differ.files) (sym differ.skipped) leads),
)

pub workers_call_alike : WorkersCallAlike
workers_call_alike a b differ r = (
  (λ called. let (answer, (asked, after, leads)) = called in (answer, (asked, after, (workers_lead_alike a b differ asked after r).0 leads))),
  (λ called. let (answer, (asked, after, leads)) = called in (answer, (asked, after, (workers_lead_alike a b differ asked after r).1 leads))),
)

pub workers_reply_alike : WordsFollowFromPairs → WorkersReplyAlike
workers_reply_alike law a b differ r s known called also =
    one_reply law a r s known called ((workers_call_alike a b differ s).1 also)
