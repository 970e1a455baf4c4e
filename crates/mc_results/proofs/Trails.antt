-- The trail by the bits of events is the trail by the events.
use Rattle.std.proofs.Common.{◌≡◌, ◌∙◌, ℕ, zero, suc, ◌+◌, ◌-◌, ◌<◌, ◌≤◌, nat_lt, List, [], ◌∷◌, map, refl, ap, arith}
use Rattle.std.specs.Prelude.{slice_get, if◌then◌else◌, Contains}
use Rattle.std.proofs.lemmas.Bool.{cond-true, cond-false, lt-ltb, le-ltb}
use Rattle.mc_cond.specs.Vectors.{Evaluation}
use Rattle.interp_trail.specs.Layouts.{after_bit, after_bits, layout_of}
use Rattle.interp_trail.specs.Trails.{Trail, after_event, after_events, began, exited}
use Rattle.mc_oblige.specs.Shown.{IsEvent, IsVectorOf}
use Rattle.mc_paths.specs.Paths.{count_of}
use Rattle.mc_probe.specs.Maps.{AreBased, IsMap, Map, Mapped, first_exit, first_label, first_path, first_statement, image, path_bit}
use Rattle.mc_steps.specs.Events.{Event, Entered, Exited, Started, Chosen, Evaluated}

-- the bit by its place
module _ (a b c n : ℕ) (x y z t : Trail) where
  abbrev by_place : Trail
  by_place = if nat_lt n b then (if nat_lt n a then x else y) else (if nat_lt n c then z else t)

  in_first : n < a → n < b → by_place ≡ x
  in_first h k = cond-true (nat_lt n b) _ _ (lt-ltb n b k) ∙ cond-true (nat_lt n a) _ _ (lt-ltb n a h)

  in_second : a ≤ n → n < b → by_place ≡ y
  in_second h k = cond-true (nat_lt n b) _ _ (lt-ltb n b k) ∙ cond-false (nat_lt n a) _ _ (le-ltb n a h)

  in_third : b ≤ n → n < c → by_place ≡ z
  in_third h k = cond-false (nat_lt n b) _ _ (le-ltb n b h) ∙ cond-true (nat_lt n c) _ _ (lt-ltb n c k)

  in_none : b ≤ n → c ≤ n → by_place ≡ t
  in_none h k = cond-false (nat_lt n b) _ _ (le-ltb n b h) ∙ cond-false (nat_lt n c) _ _ (le-ltb n c k)

-- the bits of a decision come after those before all decisions
based_at : (ds : List Mapped) (from to k : ℕ) (v : Evaluation) → AreBased ds from to → IsVectorOf (slice_get ds k) v → from ≤ path_bit (slice_get ds k) v
based_at [] from to k v h is = absurd is
based_at (d ∷ ds) from to zero v h is = let e = h.0 in omega (arith, e)
based_at (d ∷ ds) from to (suc k) v h is = let later = based_at ds (from + count_of d.decision.tree) to k v h.1 is in omega (arith, later)

there : (e : Event) (events : List Event) → Contains (e ∷ events) e
there e events = (0, omega arith, refl)

later_on : (x e : Event) (events : List Event) → Contains events e → Contains (x ∷ events) e
later_on x e events c = (suc c.0, (let lt = c.1 in omega arith), c.2)

module _ (m : Map) (kept : IsMap m) where
  same_step : (e : Event) (t : Trail) → IsEvent m e → after_bit (layout_of m) (image m e) t ≡ after_event e t
  same_step (Entered f) t is = in_first (first_exit m) (first_statement m) (first_label m) f _ _ _ t is (omega (arith, is))
  same_step (Exited k) t is =
      let place : first_exit m + k < first_statement m = omega (arith, is) in
      in_second (first_exit m) (first_statement m) (first_label m) (first_exit m + k) _ _ _ t (omega arith) place
      ∙ ap (λ n. exited n t) (omega arith)
  same_step (Started k) t is =
      let place : first_statement m + k < first_label m = omega (arith, is) in
      in_third (first_exit m) (first_statement m) (first_label m) (first_statement m + k) _ _ _ t (omega arith) place
      ∙ ap (λ n. began n t) (omega arith)
  same_step (Chosen k) t is =
      in_none (first_exit m) (first_statement m) (first_label m) (first_label m + k) _ _ _ t (omega arith) (omega arith)
  same_step (Evaluated d v) t is =
      let late = based_at m.decisions (first_path m) m.bits d v kept.based is in
      in_none (first_exit m) (first_statement m) (first_label m) (image m (Evaluated d v)) _ _ _ t (omega (arith, late)) (omega (arith, late))

  pub same_trail : (events : List Event) (t : Trail) → ((e : Event) → Contains events e → IsEvent m e) → after_bits (layout_of m) (map (image m) events) t ≡ after_events events t
  same_trail [] t are = refl
  same_trail (e ∷ events) t are =
      ap (after_bits (layout_of m) (map (image m) events)) (same_step e t (are e (there e events)))
      ∙ same_trail events (after_event e t) (λ x c. are x (later_on e x events c))
