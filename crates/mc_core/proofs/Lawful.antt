-- The law of the interleaving core, from what each state keeps.
use Rattle.std.proofs.Common.{◌≡◌, ℕ, ◌+◌, ◌<◌, ◌↔◌, List, [], length, get_or, sym, ap, ◌∙◌, subst, arith, true, false, min}
use Rattle.std.specs.Prelude.{◌==◌, ◌&&◌, All, Contains, sum_by}
use Rattle.std.proofs.lemmas.List.{get_or_past}
use Rattle.std.proofs.lemmas.List.Concat.{length-flat_map}
use Rattle.std.proofs.lemmas.List.Sums.{get_or-le-sum_by}
use Rattle.std.proofs.lemmas.List.Elements.{All-contains, All-get_or, All-weaker}
use native.Mathlib.Decide.{dec_lt}
use mathlib.Core.Logic.{dite}
use Rattle.mc_core.specs.declared.shape.Shape.{Shape}
use Rattle.mc_core.specs.Matrix.{MatrixView, Holds}
use Rattle.mc_core.specs.Counts.{times, once_below, marks}
use Rattle.mc_core.specs.Schedule.{Core, Worker, script_of}
use Rattle.mc_core.specs.Progress.{hits_of, all_claims, all_hits, ended_count, IsInOrder}
use Rattle.mc_core.proofs.Bits.{tests_within}
use Rattle.mc_core.proofs.Sums.{tally, sum_flat_map, all_flat_map, some_part, marked_is_in, in_is_marked, timed_is_in, once_yes}
use Rattle.mc_core.proofs.Hits.{IsOfScript, hits_are, hit_of_claimed}
use Rattle.mc_core.proofs.Kept.{IsKept, AreInRange}

module _ (scripts : List (List ℕ)) (k : Shape) (all : k.tests ≡ length scripts) (in_range : AreInRange k.bits scripts) (core : Core) (kept : IsKept scripts k core) where
  pub draws_are : core.draws ≡ length (all_claims core.workers) + ended_count core.workers
  draws_are = let l = length-flat_map (λ (w : Worker). w.claimed) core.workers in let d = kept.draws in omega arith

  pub claims_are : (n : ℕ) → times n (all_claims core.workers) ≡ once_below n (min core.draws k.tests)
  claims_are n = sum_flat_map (λ (x : ℕ). tally (x == n)) (λ (w : Worker). w.claimed) core.workers ∙ kept.claims n

  marks_are : (b t : ℕ) → marks b t (all_hits scripts core.workers) ≡ sum_by (λ w. marks b t (hits_of scripts w.claimed w.rest)) core.workers
  marks_are b t = sum_flat_map (λ (h : ℕ × ℕ). tally ((h.0 == b) && (h.1 == t))) (λ (w : Worker). hits_of scripts w.claimed w.rest) core.workers

  -- every pair that was hit is in range, and a bit of its script
  each_hit : All (IsOfScript scripts (λ t. t < k.tests)) (all_hits scripts core.workers)
  each_hit = all_flat_map (IsOfScript scripts (λ t. t < k.tests)) (λ (w : Worker). hits_of scripts w.claimed w.rest) core.workers
      (All-weaker (IsInOrder scripts k.tests) (λ w. All (IsOfScript scripts (λ t. t < k.tests)) (hits_of scripts w.claimed w.rest)) (λ w o. hits_are scripts (λ t. t < k.tests) w.claimed w.rest o.claims) core.workers kept.ready)

  bit_in_range : (b t : ℕ) → t < k.tests → Contains (script_of scripts t) b → b < k.bits
  bit_in_range b t less c = All-contains (λ (x : ℕ). x < k.bits) (script_of scripts t) b (All-get_or (λ (s : List ℕ). All (λ x. x < k.bits) s) scripts t [] (omega arith) in_range) c

  abbrev IsSet : ℕ → ℕ → Type 0
  IsSet b t = Holds record { shape = k; words = core.matrix.words } b t

  hit_from_set : (b t : ℕ) → IsSet b t → Contains (all_hits scripts core.workers) (b, t)
  hit_from_set b t h =
      let m = marks_are b t in
      let e = kept.bits b t h.0 (tests_within k t h.1) in
      let one = h.2 in
      marked_is_in b t (all_hits scripts core.workers) (omega arith)

  set_from_hit : (b t : ℕ) → Contains (all_hits scripts core.workers) (b, t) → IsSet b t
  set_from_hit b t c =
      let p = All-contains (IsOfScript scripts (λ t. t < k.tests)) (all_hits scripts core.workers) (b, t) each_hit c in
      let in_b = bit_in_range b t p.0 p.1 in
      let m = marks_are b t in
      let more = in_is_marked b t (all_hits scripts core.workers) c in
      let e = kept.bits b t in_b (tests_within k t p.0) in
      (in_b, p.0, (omega arith))

  abbrev as_matrix : Shape → MatrixView
  as_matrix s = record { shape = s; words = core.matrix.words }

  pub pairs_are : (b t : ℕ) → Holds core.matrix b t ↔ Contains (all_hits scripts core.workers) (b, t)
  pairs_are b t = subst (λ (s : Shape). Holds (as_matrix s) b t ↔ Contains (all_hits scripts core.workers) (b, t)) (sym kept.same) (hit_from_set b t, set_from_hit b t)

  -- where all have ended, every test was claimed
  script_from_set : (b t : ℕ) → IsSet b t → Contains (script_of scripts t) b
  script_from_set b t h = (All-contains (IsOfScript scripts (λ t. t < k.tests)) (all_hits scripts core.workers) (b, t) each_hit (hit_from_set b t h)).1

  set_from_script : All (λ w. w.ended ≡ true) core.workers → (b t : ℕ) → Contains (script_of scripts t) b → IsSet b t
  set_from_script ended b t c =
      let d : Worker = record { claimed = []; rest = 0; ended = false } in
      let less : t < k.tests = dite (dec_lt t k.tests) (λ y. y) (λ past. let none : script_of scripts t ≡ [] = get_or_past scripts t [] (omega arith) in let in_none = subst (λ (s : List ℕ). Contains s b) none c in let i = in_none.1 in absurd (omega arith)) in
      let first = get_or-le-sum_by (λ (w : Worker). tally w.ended) core.workers 0 d kept.some in
      let first_ended : tally (get_or core.workers 0 d).ended ≡ 1 = ap tally (ended 0 d kept.some) in
      let over = kept.over in
      let claimed = kept.claims t in
      let once = once_yes t (min core.draws k.tests) (omega arith) in
      let part = some_part (λ (w : Worker). times t w.claimed) d core.workers (omega arith) in
      let w : Worker = get_or core.workers part.0 d in
      let in_claims : Contains w.claimed t = timed_is_in t w.claimed part.2 in
      let order : IsInOrder scripts k.tests w = kept.ready part.0 d part.1 in
      let done : w.rest ≡ 0 = order.ended (ended part.0 d part.1) in
      let mine : 0 < marks b t (hits_of scripts w.claimed w.rest) = subst (λ (r : ℕ). 0 < marks b t (hits_of scripts w.claimed r)) (sym done) (hit_of_claimed scripts w.claimed b t in_claims c) in
      let whole = get_or-le-sum_by (λ (u : Worker). marks b t (hits_of scripts u.claimed u.rest)) core.workers part.0 d part.1 in
      let in_b = bit_in_range b t less c in
      let e = kept.bits b t in_b (tests_within k t less) in
      (in_b, less, (omega arith))

  pub finished_are : All (λ w. w.ended ≡ true) core.workers → (b t : ℕ) → Holds core.matrix b t ↔ Contains (script_of scripts t) b
  finished_are ended b t = subst (λ (s : Shape). Holds (as_matrix s) b t ↔ Contains (script_of scripts t) b) (sym kept.same) (script_from_set b t, set_from_script ended b t)
