-- Files are asked for in the order of their command.
use Rattle.std.proofs.Common.{◌≡◌, ◌∙◌, ◌<◌, ◌≤◌, ℕ, suc, arith, length, List, [], ◌∷◌, Option, Some, None, Ok, refl, sym, ap, subst, take, append_assoc}
use Rattle.std.proofs.lemmas.List.{append-nil}
use Rattle.mc_command.specs.Command as command
use Rattle.mc_command.specs.Command.{command_of}
use Rattle.mc_port.specs.Store.{Files, Request, and_asked}
use Rattle.station_replies.specs.Files.{File, request_of}
use Rattle.station_replies.specs.Reply.{Reply, cannot_read}
use Rattle.station_replies.specs.Status.{IsAnswer}
use Rattle.station_replies.specs.declared.status.Status.TheVariants as status
use Rattle.mc_station.specs.Calls as calls
use Rattle.mc_station.specs.Calls.{Leads, Requests}
use Rattle.mc_station.specs.Laws.{AskedInOrder, LastIsNamed, and_all}
use Rattle.mc_station.specs.Source.{Accepted}
use Rattle.mc_station.specs.Stages as stages
use Rattle.mc_station.specs.Stages.{Judges, Stage, after_source, after_tests, file_of, first_stage, justified_by, requests_left}
use Rattle.mc_station.proofs.Ends.{may_answer, may_answers}

-- ---- what is left after a file

pub asks_first : (s : Stage) (f : File) → file_of s ≡ Some f → (rest : List Request) × (requests_left s ≡ request_of f ∷ rest)
asks_first stages.usage f is = absurd (cc is)
asks_first (stages.source name action) f is =
    let same : f ≡ stages.source_named name = cc is in (stages.requests_of action, ap (λ (x : File). request_of x ∷ stages.requests_of action) (sym same))
asks_first (stages.writes text accepted) f is = absurd (cc is)
asks_first (stages.tests run accepted) f is =
    let same : f ≡ stages.tests_named run.tests = cc is in
    (stages.reasons_of (justified_by run.task), ap (λ (x : File). request_of x ∷ stages.reasons_of (justified_by run.task)) (sym same))
asks_first (stages.left name other accepted) f is =
    let same : f ≡ stages.record_named name = cc is in
    (stages.record_and other [], ap (λ (x : File). request_of x ∷ stages.record_and other []) (sym same))
asks_first (stages.right name accepted first) f is =
    let same : f ≡ stages.record_named name = cc is in ([], ap (λ (x : File). request_of x ∷ []) (sym same))
asks_first (stages.kept name judging accepted) f is =
    let same : f ≡ stages.record_named name = cc is in
    (stages.reasons_of judging.justify, ap (λ (x : File). request_of x ∷ stages.reasons_of judging.justify) (sym same))
asks_first (stages.reasons name accepted basis) f is =
    let same : f ≡ stages.reasons_named name = cc is in ([], ap (λ (x : File). request_of x ∷ []) (sym same))
asks_first (stages.last accepted basis js) f is = absurd (cc is)
asks_first (stages.merged both) f is = absurd (cc is)
asks_first (stages.load count workers) f is = absurd (cc is)

left_after : (action : command.Action) (accepted : Accepted) → requests_left (after_source action accepted) ≡ stages.requests_of action
left_after (command.run run) accepted = refl
left_after (command.write text) accepted = refl
left_after (command.merge name other) accepted = refl
left_after (command.analyse name judging) accepted = refl

left_after_tests : (name : Option (List ℕ)) (accepted : Accepted) (basis : stages.Basis) → requests_left (after_tests name accepted basis) ≡ stages.reasons_of name
left_after_tests None accepted basis = refl
left_after_tests (Some name) accepted basis = refl

pub asks_then : (s t : Stage) (f : File) (bytes : List ℕ) → file_of s ≡ Some f → Judges s bytes (Ok t) → requests_left s ≡ request_of f ∷ requests_left t
asks_then stages.usage t f bytes is judges = absurd judges
asks_then (stages.source name action) t f bytes is (accepted, judges, next) =
    let same : f ≡ stages.source_named name = cc is in
    let stage : t ≡ after_source action accepted = cc next in
    let rest : stages.requests_of action ≡ requests_left t = sym (left_after action accepted) ∙ ap requests_left (sym stage) in
    ap (λ (x : File). request_of x ∷ stages.requests_of action) (sym same) ∙ ap (λ (rs : List Request). request_of f ∷ rs) rest
asks_then (stages.writes text accepted) t f bytes is judges = absurd judges
asks_then (stages.tests run accepted) t f bytes is (plans, judges, (u, fits, next)) =
    let same : f ≡ stages.tests_named run.tests = cc is in
    let name = justified_by run.task in
    let stage : t ≡ after_tests name accepted (stages.tested run.task plans) = cc next in
    let rest : stages.reasons_of name ≡ requests_left t = sym (left_after_tests name accepted (stages.tested run.task plans)) ∙ ap requests_left (sym stage) in
    ap (λ (x : File). request_of x ∷ stages.reasons_of name) (sym same) ∙ ap (λ (rs : List Request). request_of f ∷ rs) rest
asks_then (stages.left name other accepted) t f bytes is (first, judges, next) =
    let same : f ≡ stages.record_named name = cc is in
    let stage : t ≡ stages.right other accepted first = cc next in
    let rest : stages.record_and other [] ≡ requests_left t = ap requests_left (sym stage) in
    ap (λ (x : File). request_of x ∷ stages.record_and other []) (sym same) ∙ ap (λ (rs : List Request). request_of f ∷ rs) rest
asks_then (stages.right name accepted first) t f bytes is (second, judges, (both, joins, next)) =
    let same : f ≡ stages.record_named name = cc is in
    let stage : t ≡ stages.merged both = cc next in
    let rest : [] ≡ requests_left t = ap requests_left (sym stage) in
    ap (λ (x : File). request_of x ∷ []) (sym same) ∙ ap (λ (rs : List Request). request_of f ∷ rs) rest
asks_then (stages.kept name judging accepted) t f bytes is (found, judges, next) =
    let same : f ≡ stages.record_named name = cc is in
    let justify = judging.justify in
    let stage : t ≡ after_tests justify accepted (stages.recorded judging found) = cc next in
    let rest : stages.reasons_of justify ≡ requests_left t = sym (left_after_tests justify accepted (stages.recorded judging found)) ∙ ap requests_left (sym stage) in
    ap (λ (x : File). request_of x ∷ stages.reasons_of justify) (sym same) ∙ ap (λ (rs : List Request). request_of f ∷ rs) rest
asks_then (stages.reasons name accepted basis) t f bytes is (js, judges, next) =
    let same : f ≡ stages.reasons_named name = cc is in
    let stage : t ≡ stages.last accepted basis js = cc next in
    let rest : [] ≡ requests_left t = ap requests_left (sym stage) in
    ap (λ (x : File). request_of x ∷ []) (sym same) ∙ ap (λ (rs : List Request). request_of f ∷ rs) rest
asks_then (stages.last accepted basis js) t f bytes is judges = absurd judges
asks_then (stages.merged both) t f bytes is judges = absurd judges
asks_then (stages.load count workers) t f bytes is judges = absurd judges

-- a stage that accepts leads to one that asks for fewer files
pub fewer : (s t : Stage) (bytes : List ℕ) → Judges s bytes (Ok t) → length (requests_left t) < length (requests_left s)
fewer stages.usage t bytes judges = absurd judges
fewer (stages.source name action) t bytes (accepted, judges, next) =
    let stage : t ≡ after_source action accepted = cc next in
    let rest : length (requests_left t) ≡ length (stages.requests_of action) = ap (λ (x : Stage). length (requests_left x)) stage ∙ ap length (left_after action accepted) in
    omega (arith, rest)
fewer (stages.writes text accepted) t bytes judges = absurd judges
fewer (stages.tests run accepted) t bytes (plans, judges, (u, fits, next)) =
    let name = justified_by run.task in
    let stage : t ≡ after_tests name accepted (stages.tested run.task plans) = cc next in
    let rest : length (requests_left t) ≡ length (stages.reasons_of name) = ap (λ (x : Stage). length (requests_left x)) stage ∙ ap length (left_after_tests name accepted (stages.tested run.task plans)) in
    omega (arith, rest)
fewer (stages.left name other accepted) t bytes (first, judges, next) =
    let stage : t ≡ stages.right other accepted first = cc next in
    let rest : length (requests_left t) ≡ 1 = ap (λ (x : Stage). length (requests_left x)) stage in
    omega (arith, rest)
fewer (stages.right name accepted first) t bytes (second, judges, (both, joins, next)) =
    let stage : t ≡ stages.merged both = cc next in
    let rest : length (requests_left t) ≡ 0 = ap (λ (x : Stage). length (requests_left x)) stage in
    omega (arith, rest)
fewer (stages.kept name judging accepted) t bytes (found, judges, next) =
    let justify = judging.justify in
    let stage : t ≡ after_tests justify accepted (stages.recorded judging found) = cc next in
    let rest : length (requests_left t) ≡ length (stages.reasons_of justify) = ap (λ (x : Stage). length (requests_left x)) stage ∙ ap length (left_after_tests justify accepted (stages.recorded judging found)) in
    omega (arith, rest)
fewer (stages.reasons name accepted basis) t bytes (js, judges, next) =
    let stage : t ≡ stages.last accepted basis js = cc next in
    let rest : length (requests_left t) ≡ 0 = ap (λ (x : Stage). length (requests_left x)) stage in
    omega (arith, rest)
fewer (stages.last accepted basis js) t bytes judges = absurd judges
fewer (stages.merged both) t bytes judges = absurd judges
fewer (stages.load count workers) t bytes judges = absurd judges

-- no command asks for more than three files
reasons_few : (name : Option (List ℕ)) → length (stages.reasons_of name) ≤ 1
reasons_few None = omega arith
reasons_few (Some name) = omega arith

pub few_requests : (given : Option command.Command) → length (requests_left (first_stage given)) ≤ 3
few_requests None = omega arith
few_requests (Some (command.selfload count workers)) = omega arith
few_requests (Some (command.on_source name (command.run run))) = let few = reasons_few (justified_by run.task) in omega (arith, few)
few_requests (Some (command.on_source name (command.write text))) = omega arith
few_requests (Some (command.on_source name (command.merge left right))) = omega arith
few_requests (Some (command.on_source name (command.analyse record_name judging))) = let few = reasons_few judging.justify in omega (arith, few)

-- ---- what was asked

pub none_more : (asked : Requests) → asked ≡ and_all asked []
none_more None = refl
none_more (Some rs) = ap Some (sym (append-nil rs))

pub one_more : (asked : Requests) (r : Request) → and_asked asked r ≡ and_all asked (r ∷ [])
one_more None r = refl
one_more (Some rs) r = refl

pub and_more : (asked : Requests) (r : Request) (rs : List Request) → and_all (and_asked asked r) rs ≡ and_all asked (r ∷ rs)
and_more None r rs = refl
and_more (Some qs) r rs = ap Some (append_assoc qs (r ∷ []) rs)

abbrev Asked : Stage → Requests → Requests → Type 0
Asked s asked after = (n : ℕ) × (after ≡ and_all asked (take n (requests_left s)))

none : (s : Stage) (asked : Requests) → Asked s asked asked
none s asked = (0, none_more asked)

one : (s : Stage) (f : File) (asked : Requests) → file_of s ≡ Some f → Asked s asked (and_asked asked (request_of f))
one s f asked is =
    let (rest, left) = asks_first s f is in
    (1, one_more asked (request_of f) ∙ ap (λ (rs : List Request). and_all asked (take 1 rs)) (sym left))

in_order : (skipped : List ℕ) (files : Option Files) (s : Stage) (asked after : Requests) (r : Reply) → Leads skipped files s asked r after → Asked s asked after
in_order skipped files s asked after r (calls.answers _ _ _ _ (calls.finished x ends)) = none s asked
in_order skipped files s asked after r (calls.answers _ _ _ _ (calls.too_long f is long)) = one s f asked is
in_order skipped files s asked after r (calls.answers _ _ _ _ (calls.refused f bytes x is holds judges)) = one s f asked is
in_order skipped files s asked after r (calls.fails _ _ _ _ (calls.unreadable f is)) = one s f asked is
in_order skipped files s asked after r (calls.fails _ _ _ _ calls.no_memory) = none s asked
in_order skipped files s asked after r (calls.fails _ _ _ _ (calls.no_memory_after f is)) = one s f asked is
in_order skipped files s asked after r (calls.accepted _ t f bytes _ _ _ is holds judges leads) =
    let (n, more) = in_order skipped files t (and_asked asked (request_of f)) after r leads in
    (suc n, more ∙ and_more asked (request_of f) (take n (requests_left t)) ∙ ap (λ (rs : List Request). and_all asked (take (suc n) rs)) (sym (asks_then s t f bytes is judges)))

pub asked_in_order : AskedInOrder
asked_in_order call asked after r leads = in_order call.skipped call.files (first_stage (command_of call.words)) asked after r leads

-- ---- the file that is named

abbrev Named : Reply → Requests → Type 0
Named r after = (file : File) × (before : Requests) × (r ≡ cannot_read file) × (after ≡ and_asked before (request_of file))

named : (skipped : List ℕ) (files : Option Files) (s : Stage) (asked after : Requests) (r : Reply) → Leads skipped files s asked r after → r.status ≡ status.CannotRead → Named r after
named skipped files s asked after r (calls.answers _ _ _ _ x) same = absurd (subst IsAnswer same (may_answers s r (may_answer skipped files s asked after r x)))
named skipped files s asked after r (calls.fails _ _ _ _ (calls.unreadable f is)) same = (f, asked, refl, refl)
named skipped files s asked after r (calls.fails _ _ _ _ calls.no_memory) same = absurd (cc same)
named skipped files s asked after r (calls.fails _ _ _ _ (calls.no_memory_after f is)) same = absurd (cc same)
named skipped files s asked after r (calls.accepted _ t f bytes _ _ _ is holds judges leads) same = named skipped files t (and_asked asked (request_of f)) after r leads same

pub last_is_named : LastIsNamed
last_is_named call asked after r leads same = named call.skipped call.files (first_stage (command_of call.words)) asked after r leads same
