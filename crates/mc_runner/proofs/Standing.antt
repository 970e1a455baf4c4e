-- The matrix of an instrumented program has exactly the events of the plain runs of its tests, and
-- its results are theirs.
use Rattle.std.proofs.Common.{◌≡◌, ◌∙◌, refl, sym, ap, subst, ℕ, zero, suc, ◌<◌, List, [], ◌∷◌, length, map, Option, Some, None, All, arith}
use Rattle.std.specs.Prelude.{slice_get, Contains}
use Rattle.std.proofs.lemmas.List.{get_or-map, length-map}
use Rattle.std.proofs.lemmas.List.Elements.{All-contains, All-tail, All-head}
use Rattle.std.proofs.lemmas.Option.{slice_get_within, get_or_from_slice_get}
use Rattle.mc_cond.specs.Vectors.{Evaluation, IsVector}
use Rattle.mc_typed.specs.Tree.{Program}
use Rattle.mc_typed.specs.Sound.{IsSound}
use Rattle.mc_typed.specs.Plans.{Plan, Fits}
use Rattle.decide_rules.specs.Decisions.{Decision}
use Rattle.mc_steps.specs.Events.{Event, Entered, Exited, Started, Chosen, Evaluated}
use Rattle.mc_steps.specs.Tests.{CallDone}
use Rattle.mc_meaning.specs.Seen.{plainly_told}
use Rattle.mc_meaning.specs.Tests.{plain_run, state_of}
use Rattle.mc_meaning.specs.Laws.{IsOfDecision}
use Rattle.mc_meaning.proofs.Listed as l
use Rattle.mc_meaning.proofs.Programs.{evaluations_are_of_decisions}
use Rattle.mc_probe.specs.Maps.{Mapped, Map, IsMapOf, image}
use Rattle.mc_probe.specs.Tree.{Tree}
use Rattle.mc_probe.specs.Tests.{run_of}
use Rattle.mc_probe.specs.Table.{IsInstrumented}
use Rattle.mc_probe.proofs.Counted.{events_listed}
use Rattle.laws_simulation.specs.Simulation.{RunsAs}
use Rattle.laws_simulation.proofs.Tests.{simulated}
use Rattle.mc_core.specs.Matrix.{Holds}
use Rattle.mc_oblige.specs.Shown.{IsEvent, IsVectorOf}
use Rattle.mc_runner.specs.Recorded.{told_by}
use Rattle.mc_runner.specs.Laws.{BitsStand, EventsStand, ResultsArePlain}
use Rattle.mc_runner.proofs.Images.{one_image}
use Rattle.mc_runner.proofs.Counted.{IsCounted, every, entries, run_is_counted}

-- ---- lists

nothing_there : {A B : Type 0} (x : A) → None ≡ Some x → B
nothing_there x e = cc

same_value : {A : Type 0} (x y : A) → Some x ≡ Some y → x ≡ y
same_value x y e = cc

each_all : (P : Event → Type 0) (es : List Event) (e : Event) → l.Each P es → Contains es e → P e
each_all P [] e h c = absurd (let lt = c.1 in omega arith)
each_all P (x ∷ es) e h (zero, within, at) = subst P at h.0
each_all P (x ∷ es) e h (suc k, within, at) = each_all P es e h.1 (k, (let lt : suc k < length (x ∷ es) = within in omega arith), at)

in_map : (f : Event → ℕ) (es : List Event) (e : Event) → Contains es e → Contains (map f es) (f e)
in_map f es e c =
    let lt = c.1 in
    (c.0, omega (arith, length-map es f, lt), get_or-map f es c.0 e (f e) c.1 ∙ ap f c.2)

of_map : (f : Event → ℕ) (es : List Event) (b : ℕ) → Contains (map f es) b → (e : Event) × Contains es e × (f e ≡ b)
of_map f [] b c = absurd (let lt = c.1 in omega arith)
of_map f (x ∷ es) b (zero, within, at) = (x, (0, omega arith, refl), at)
of_map f (x ∷ es) b (suc k, within, at) =
    let rest = of_map f es b (k, (let lt : suc k < length (f x ∷ map f es) = within in omega arith), at) in
    let c = rest.1 in
    (rest.0, (suc c.0, (let lt = c.1 in omega arith), c.2), rest.2)

-- ---- the events of a plain run are events of the map

decision_at : (ds : List Mapped) (k : ℕ) (d : Decision) → slice_get (map (λ x. x.decision) ds) k ≡ Some d → (x : Mapped) × (slice_get ds k ≡ Some x) × (x.decision ≡ d)
decision_at [] k d e = nothing_there d e
decision_at (x ∷ ds) zero d e = (x, refl, same_value x.decision d e)
decision_at (x ∷ ds) (suc k) d e = decision_at ds k d e

module _ (p : Program) (m : Map) (of : IsMapOf p m) (sound : IsSound p) (plan : Plan) where
  evaluated_is : (d : ℕ) (v : Evaluation) → IsOfDecision (map (λ x. x.decision) m.decisions) (Evaluated d v) → IsEvent m (Evaluated d v)
  evaluated_is d v h =
      let found = decision_at m.decisions d h.0 h.1 in
      let P : Decision → Type 0 = λ x. IsVector x.tree v in
      let Q : Option Mapped → Type 0 = λ o. IsVectorOf o v in
      subst Q (sym found.1) (subst P (sym found.2) h.2)

  is_event : (e : Event) → IsCounted (entries p sound) (every p sound) e → IsOfDecision (map (λ x. x.decision) m.decisions) e → IsEvent m e
  is_event (Entered f) h k = let x : f < entries p sound = h in omega (arith, x, ap length of.entries, length-map p.functions (λ g. g.name_span))
  is_event (Exited f) h k = let x : f < (every p sound).exits = h in omega (arith, x, ap length of.exits, (events_listed p).exits)
  is_event (Started f) h k = let x : f < (every p sound).statements = h in omega (arith, x, ap length of.statements, (events_listed p).statements)
  is_event (Chosen f) h k = let x : f < (every p sound).labels = h in omega (arith, x, ap length of.labels, (events_listed p).labels)
  is_event (Evaluated d v) h k = evaluated_is d v k

  pub events_are_of : (e : Event) → Contains (plain_run p plan).events e → IsEvent m e
  events_are_of e c =
      let ds : List Decision = map (λ x. x.decision) m.decisions in
      is_event e (each_all (IsCounted (entries p sound) (every p sound)) (plain_run p plan).events e (run_is_counted p sound plan) c)
      (All-contains (IsOfDecision ds) (plain_run p plan).events e (evaluations_are_of_decisions p plan ds of.decisions) c)

-- ---- hits are events

module _ (p : Program) (m : Map) (tree : Tree) (sound : IsSound p) (is : IsInstrumented p m tree) (plan : Plan) (fits : Fits plan p) where
  abbrev listed : List Event
  listed = (plain_run p plan).events

  runs : RunsAs m (plain_run p plan) (run_of tree plan)
  runs = simulated p m tree plan sound fits is

  event_is_hit : (e : Event) → Contains listed e → Contains (run_of tree plan).events (image m e)
  event_is_hit e c =
      let P : List ℕ → Type 0 = λ bits. Contains bits (image m e) in
      subst P (sym runs.hits) (in_map (image m) listed e c)

  hit_is_event : (e : Event) → IsEvent m e → Contains (run_of tree plan).events (image m e) → Contains listed e
  hit_is_event e own c =
      let P : List ℕ → Type 0 = λ bits. Contains bits (image m e) in
      let found = of_map (image m) listed (image m e) (subst P runs.hits c) in
      let same : found.0 ≡ e = one_image m is.is_map.kept found.0 e (events_are_of p m is.is_map sound plan found.0 found.1) own found.2 in
      let Q : Event → Type 0 = λ f. Contains listed f in
      subst Q same found.1

  event_of_hit : (bit : ℕ) → Contains (run_of tree plan).events bit → (e : Event) × Contains listed e × (image m e ≡ bit)
  event_of_hit bit c =
      let P : List ℕ → Type 0 = λ bits. Contains bits bit in
      of_map (image m) listed bit (subst P runs.hits c)

  told_is : told_by tree plan ≡ plainly_told p plan
  told_is =
      let r = runs in
      λ i. record {
        ending = r.ending i;
        values = map (λ (d : CallDone). d.value) (r.done i);
        output = r.output i;
        state = state_of plan.calls (r.ending i) (r.done i) (r.output i);
      }

-- ---- all tests

fits_at : (p : Program) (plans : List Plan) (test : ℕ) (plan : Plan) → All (λ x. Fits x p) plans → slice_get plans test ≡ Some plan → Fits plan p
fits_at p plans test plan h e =
    let P : Plan → Type 0 = λ x. Fits x p in
    subst P (get_or_from_slice_get plans test plan plan e) (h test plan (slice_get_within plans test plan e))

pub events_stand : EventsStand
events_stand p m tree plans skipped x ready recorded e test = (
  λ has.
      (let both = (recorded.hits (image m e) test).0 has.held in
      let hit = both.0 in
      record {
        plan = hit.plan;
        planned = hit.planned;
        happened = hit_is_event p m tree ready.sound ready.is_tree hit.plan (fits_at p plans test hit.plan ready.fit hit.planned) e has.event hit.hit;
        kept = both.1;
      }),
  λ stands. record {
    event = events_are_of p m ready.is_tree.is_map ready.sound stands.plan e stands.happened;
    held = (recorded.hits (image m e) test).1 (
      record {
        plan = stands.plan;
        planned = stands.planned;
        hit = event_is_hit p m tree ready.sound ready.is_tree stands.plan (fits_at p plans test stands.plan ready.fit stands.planned) e stands.happened;
      },
      stands.kept,
    );
  },
)

pub bits_stand : BitsStand
bits_stand p m tree plans skipped x ready recorded bit test = (
  λ held.
      (let both = (recorded.hits bit test).0 held in
      let hit = both.0 in
      let found = event_of_hit p m tree ready.sound ready.is_tree hit.plan (fits_at p plans test hit.plan ready.fit hit.planned) bit hit.hit in
      record {
        event = found.0;
        of_map = events_are_of p m ready.is_tree.is_map ready.sound hit.plan found.0 found.1;
        has_bit = found.2;
        stands = record { plan = hit.plan; planned = hit.planned; happened = found.1; kept = both.1 };
      }),
  λ marked.
      (let has = (events_stand p m tree plans skipped x ready recorded marked.event test).1 marked.stands in
      subst (λ (b : ℕ). Holds x b test) marked.has_bit has.held),
)

all_told : (p : Program) (m : Map) (tree : Tree) (plans : List Plan) → IsSound p → IsInstrumented p m tree → All (λ plan. Fits plan p) plans → map (told_by tree) plans ≡ map (plainly_told p) plans
all_told p m tree [] sound is fit = refl
all_told p m tree (plan ∷ plans) sound is fit =
    let one : told_by tree plan ≡ plainly_told p plan = told_is p m tree sound is plan (All-head (λ x. Fits x p) plan plans fit) in
    let rest = all_told p m tree plans sound is (All-tail (λ x. Fits x p) plan plans fit) in
    λ i. one i ∷ rest i

pub results_are_plain : ResultsArePlain
results_are_plain p m tree plans ready = all_told p m tree plans ready.sound ready.is_tree ready.fit
