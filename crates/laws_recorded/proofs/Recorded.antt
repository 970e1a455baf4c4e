-- What is recorded says what the plain runs say.
use Rattle.std.proofs.Common.{◌↔◌, ℕ, List, refl, subst}
use Rattle.mc_steps.specs.Events.{Event}
use Rattle.mc_meaning.specs.Tests.{Stands}
use Rattle.mc_probe.specs.Maps.{Map, image}
use Rattle.mc_oblige.specs.declared.evaluated.EvaluatedPath.{EvaluatedPath}
use Rattle.mc_oblige.specs.Evaluated.{AreEvaluated, IsEvaluatedPath}
use Rattle.mc_oblige.specs.Evidence.{IsEvaluated}
use Rattle.mc_oblige.specs.Shown.{HasEvent}
use Rattle.mc_oblige.proofs.Alike.{evaluated, least, same_verdicts}
use Rattle.mc_runner.proofs.Images.{one_image}
use Rattle.mc_runner.proofs.Standing.{events_are_of}
use Rattle.laws_recorded.specs.Recorded.{EventsAreKept, PathsAreKept, VerdictsAreKept}

swapped : (A B : Event → ℕ → Type 0) → ((e : Event) (t : ℕ) → A e t ↔ B e t) → (e : Event) (t : ℕ) → B e t ↔ A e t
swapped A B same e t = ((same e t).1, (same e t).0)

pub events_are_kept : EventsAreKept
events_are_kept skipped p m plans x is e test = (
  λ has.
      (let marked = (is.bits (image m e) test).0 has.held in
      let same = one_image m is.map.kept marked.event e marked.of_map has.event marked.has_bit in
      let P : Event → Type 0 = λ f. Stands skipped p plans f test in
      subst P same marked.stands),
  λ stands.
      (let own = events_are_of p m is.map is.sound stands.plan e stands.happened in
      record {
        event = own;
        held = (is.bits (image m e) test).1 (record { event = e; of_map = own; has_bit = refl; stands = stands });
      }),
)

pub verdicts_are_kept : VerdictsAreKept
verdicts_are_kept skipped p m plans x is mode named vs =
    let has : Event → ℕ → Type 0 = HasEvent m x in
    let stands : Event → ℕ → Type 0 = Stands skipped p plans in
    let same = events_are_kept skipped p m plans x is in
    (same_verdicts has stands same m mode named vs, same_verdicts stands has (swapped has stands same) m mode named vs)

paths : (A B : Event → ℕ → Type 0) → ((e : Event) (t : ℕ) → A e t ↔ B e t) → (m : Map) (es : List EvaluatedPath) → AreEvaluated A m es → AreEvaluated B m es
paths A B same m es are =
    let onto : (C D : Event → ℕ → Type 0) → ((e : Event) (t : ℕ) → C e t ↔ D e t) → (e : EvaluatedPath) → IsEvaluatedPath C m e → IsEvaluatedPath D m e = λ C D alike e h.
    record {
      mapped = h.mapped;
      known = h.known;
      least = least (IsEvaluated C e.decision h.mapped.decision.tree e.path) (IsEvaluated D e.decision h.mapped.decision.tree e.path) e.test (evaluated C D alike e.decision h.mapped.decision.tree e.path) h.least;
    } in
    record {
      ascending = are.ascending;
      each = λ e. ((λ has. onto A B same e ((are.each e).0 has)), (λ is. (are.each e).1 (onto B A (swapped A B same) e is)));
    }

pub paths_are_kept : PathsAreKept
paths_are_kept skipped p m plans x is es =
    let has : Event → ℕ → Type 0 = HasEvent m x in
    let stands : Event → ℕ → Type 0 = Stands skipped p plans in
    let same = events_are_kept skipped p m plans x is in
    (paths has stands same m es, paths stands has (swapped has stands same) m es)
