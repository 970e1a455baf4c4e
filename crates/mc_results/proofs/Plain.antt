-- What is told of runs is what is to be told of the plain runs. The events of these are asked to be
-- events of the map, which is proved of each sound program in a crate that stands beside this one.
use Rattle.std.proofs.Common.{◌≡◌, ◌∙◌, List, [], ◌∷◌, map, All, refl, ap}
use Rattle.std.specs.Prelude.{Contains}
use Rattle.std.proofs.lemmas.List.Elements.{All-head, All-tail}
use Rattle.interp_trail.specs.Layouts.{after_bits, layout_of}
use Rattle.interp_trail.specs.Stops.{stop_of}
use Rattle.interp_trail.specs.Traced.{plainly_traced}
use Rattle.interp_trail.specs.Trails.{none_open, trail_of}
use Rattle.laws_simulation.specs.Simulation.{RunsAs}
use Rattle.laws_simulation.proofs.Tests.{simulated}
use Rattle.mc_meaning.specs.Tests.{plain_run, plain_state, state_of}
use Rattle.mc_oblige.specs.Shown.{IsEvent}
use Rattle.mc_probe.specs.Maps.{Map}
use Rattle.mc_probe.specs.Table.{IsInstrumented}
use Rattle.mc_probe.specs.Tests.{run_of}
use Rattle.mc_probe.specs.Tree.{Tree}
use Rattle.mc_results.specs.Traced.{all_traced, traced_by}
use Rattle.mc_results.proofs.Trails.{same_trail}
use Rattle.mc_steps.specs.Events.{Event}
use Rattle.mc_typed.specs.Plans.{Fits, Plan}
use Rattle.mc_typed.specs.Sound.{IsSound}
use Rattle.mc_typed.specs.Tree.{Program}

-- each event of the plain run of a test is one of the map
abbrev pub ListsEvents : Program → Map → Type 0
ListsEvents p m = (plan : Plan) (e : Event) → Contains (plain_run p plan).events e → IsEvent m e

module _ (p : Program) (m : Map) (tree : Tree) (sound : IsSound p) (is : IsInstrumented p m tree) (events : ListsEvents p m) where
  one_traced : (plan : Plan) → Fits plan p → traced_by (layout_of m) tree plan ≡ plainly_traced p plan
  one_traced plan fits =
      let r : RunsAs m (plain_run p plan) (run_of tree plan) = simulated p m tree plan sound fits is in
      let trail : after_bits (layout_of m) (run_of tree plan).events none_open ≡ trail_of (plain_run p plan).events =
      ap (λ bits. after_bits (layout_of m) bits none_open) r.hits
      ∙ same_trail m is.is_map.kept (plain_run p plan).events none_open (events plan) in
      λ i. record {
        ending = r.ending i;
        done = r.done i;
        output = r.output i;
        state = state_of plan.calls (r.ending i) (r.done i) (r.output i);
        stop = stop_of (r.ending i) (trail i);
      }

  all_are : (plans : List Plan) → All (λ plan. Fits plan p) plans → all_traced (layout_of m) tree plans ≡ map (plainly_traced p) plans
  all_are [] fit = refl
  all_are (plan ∷ plans) fit =
      let one : traced_by (layout_of m) tree plan ≡ plainly_traced p plan = one_traced plan (All-head (λ x. Fits x p) plan plans fit) in
      let rest = all_are plans (All-tail (λ x. Fits x p) plan plans fit) in
      λ i. one i ∷ rest i

-- with the layout of the program's map, what is told of the tests is what is to be told of them
pub traces_are_plain : (p : Program) (m : Map) (tree : Tree) (plans : List Plan) → IsSound p → IsInstrumented p m tree
    → All (λ plan. Fits plan p) plans → ListsEvents p m → all_traced (layout_of m) tree plans ≡ map (plainly_traced p) plans
traces_are_plain p m tree plans sound is fit events = all_are p m tree sound is events plans fit

-- and so are their states
pub states_are_plain : (p : Program) (plans : List Plan) → map (λ t. t.state) (map (plainly_traced p) plans) ≡ map (plain_state p) plans
states_are_plain p [] = refl
states_are_plain p (plan ∷ plans) = ap (λ later. plain_state p plan ∷ later) (states_are_plain p plans)
