-- What each state of each run keeps.
use Rattle.std.proofs.Common.{◌≡◌, ℕ, ◌+◌, ◌-◌, ◌*◌, ◌%◌, ◌<◌, ◌≤◌, List, [], ◌∷◌, ◌++◌, length, get_or, set, replicate, sym, refl, ap, ◌∙◌, subst, arith, true, false, min, length-set}
use Rattle.std.specs.Prelude.{◌==◌, ◌&&◌, slice_get, slice_index, Some, All, sum_by}
use Rattle.std.specs.Int.{bit_at}
use Rattle.std.proofs.lemmas.List.{length_push, get_or_push, length-replicate, get_or-replicate}
use Rattle.std.proofs.lemmas.List.Elements.{All-push, All-set, All-get_or, All-nil, All-replicate}
use Rattle.std.proofs.lemmas.Nat.Bits.{bit_at-zero}
use Rattle.std.proofs.lemmas.Option.{get_or_from_slice_get, slice_get_within}
use native.Mathlib.Decide.{dec_lt}
use mathlib.Core.Logic.{dite}
use Rattle.mc_core.specs.declared.shape.Shape.{Shape}
use Rattle.mc_core.specs.Shape.{rows, word_count, place}
use Rattle.mc_core.specs.Matrix.{bit_of, with_pair}
use Rattle.mc_core.specs.Counts.{times, once_below, marks}
use Rattle.mc_core.specs.Schedule.{Core, Worker, script_of, last_claim, next_bit, after_claim, after_hit, claim, hit, step, start}
use Rattle.mc_core.specs.Progress.{hits_of, ended_count, IsInOrder}
use Rattle.mc_core.proofs.Bits.{place_within, tests_within, bit_set, bit_kept, same_or_not}
use Rattle.mc_core.proofs.Sums.{tally, sum_set, sum_kept, sum_replicate, marks_push, times_push, pair_yes, pair_no, once_more, once_none}
use Rattle.mc_core.proofs.Hits.{hits_claim, hits_hit}
use Rattle.mc_core.proofs.Machine.{step_keeps, claim_yes, claim_no}

-- each bit of each script is in range
abbrev pub AreInRange : ℕ → List (List ℕ) → Type 0
AreInRange bits scripts = All (λ s. All (λ b. b < bits) s) scripts

-- ---- a worker's order
pub order_claim : (scripts : List (List ℕ)) (tests n : ℕ) (w : Worker) → tests ≡ length scripts → w.rest ≡ 0 → IsInOrder scripts tests w → Dec (n < tests)
    → IsInOrder scripts tests (after_claim scripts tests n w)
order_claim scripts tests n w all none old (yes less) =
    let last : slice_index (w.claimed ++ n ∷ []) (length (w.claimed ++ n ∷ []) - 1) ≡ n = let l = length_push w.claimed n in get_or_push w.claimed n 0 (length (w.claimed ++ n ∷ []) - 1) (omega arith) in
    subst (IsInOrder scripts tests) (sym (claim_yes scripts tests n w less)) record {
      claims = All-push (λ t. t < tests) w.claimed n old.claims less;
      some = λ _. let l = length_push w.claimed n in omega arith;
      rest = let e = ap (λ (t : ℕ). length (script_of scripts t)) last in omega arith;
      ended = λ e. absurd (cc);
    }
order_claim scripts tests n w all none old (no past) =
    subst (IsInOrder scripts tests) (sym (claim_no scripts tests n w (omega arith) all)) record {
      claims = old.claims;
      some = λ more. absurd (omega arith);
      rest = omega arith;
      ended = λ _. refl;
    }

pub order_hit : (scripts : List (List ℕ)) (tests : ℕ) (w : Worker) → w.ended ≡ false → IsInOrder scripts tests w → IsInOrder scripts tests (after_hit w)
order_hit scripts tests w running old = record {
  claims = old.claims;
  some = λ more. old.some (omega arith);
  rest = let h = old.rest in omega arith;
  ended = λ e. absurd (cc);
}

-- ---- the whole state
pub record IsKept (scripts : List (List ℕ)) (k : Shape) (core : Core) : Type 0 where
  pub same : core.matrix.shape ≡ k
  pub whole : length core.matrix.words ≡ word_count k
  pub some : 0 < length core.workers
  pub ready : All (IsInOrder scripts k.tests) core.workers
  pub draws : core.draws ≡ sum_by (λ w. length w.claimed) core.workers + ended_count core.workers
  -- each draw past the tests ended a worker
  pub over : ended_count core.workers ≡ core.draws - k.tests
  pub claims : (n : ℕ) → sum_by (λ w. times n w.claimed) core.workers ≡ once_below n (min core.draws k.tests)
  pub bits : (b t : ℕ) → b < k.bits → t < 64 * rows k → bit_of k core.matrix.words b t ≡ min 1 (sum_by (λ w. marks b t (hits_of scripts w.claimed w.rest)) core.workers)

pub mine : (scripts : List (List ℕ)) (tests : ℕ) (workers : List Worker) (i : ℕ) (w : Worker) → slice_get workers i ≡ Some w → All (IsInOrder scripts tests) workers → IsInOrder scripts tests w
mine scripts tests workers i w at all = subst (IsInOrder scripts tests) (get_or_from_slice_get workers i w w at) (All-get_or (IsInOrder scripts tests) workers i w (slice_get_within workers i w at) all)

module _ (scripts : List (List ℕ)) (k : Shape) (all : k.tests ≡ length scripts) (in_range : AreInRange k.bits scripts) (core : Core) (old : IsKept scripts k core) (i : ℕ) (w : Worker) (at : slice_get core.workers i ≡ Some w) (running : w.ended ≡ false) where
  abbrev n : ℕ
  n = core.draws

  order : IsInOrder scripts k.tests w
  order = mine scripts k.tests core.workers i w at old.ready

  -- the worker after its claim, whatever it is
  claimed_as : (v : Worker) → v ≡ after_claim scripts k.tests n w → IsKept scripts k record { draws = n + 1; matrix = core.matrix; workers = set core.workers i v } → IsKept scripts k (claim scripts core i w)
  claimed_as v e kept = subst (λ (x : Worker). IsKept scripts k record { draws = n + 1; matrix = core.matrix; workers = set core.workers i x }) (e ∙ ap (λ (s : Shape). after_claim scripts s.tests n w) (sym old.same)) kept

  none_hit : w.rest ≡ 0 → (v : Worker) → hits_of scripts v.claimed v.rest ≡ hits_of scripts w.claimed 0 → (b t : ℕ)
      → sum_by (λ u. marks b t (hits_of scripts u.claimed u.rest)) (set core.workers i v) ≡ sum_by (λ u. marks b t (hits_of scripts u.claimed u.rest)) core.workers
  none_hit none v same b t = sum_kept (λ (u : Worker). marks b t (hits_of scripts u.claimed u.rest)) core.workers i w v at (ap (marks b t) (same ∙ ap (hits_of scripts w.claimed) (sym none)))

  kept_yes : w.rest ≡ 0 → n < k.tests → IsKept scripts k (claim scripts core i w)
  kept_yes none less =
      let v : Worker = record { claimed = w.claimed ++ n ∷ []; rest = length (script_of scripts n); ended = false } in
      let is_v = claim_yes scripts k.tests n w less in
      claimed_as v (sym is_v) record {
        same = old.same;
        whole = old.whole;
        some = subst (λ (m : ℕ). 0 < m) (sym (length-set core.workers i v)) old.some;
        ready = All-set (IsInOrder scripts k.tests) core.workers i v (subst (IsInOrder scripts k.tests) is_v (order_claim scripts k.tests n w all none order (yes less))) old.ready;
        draws =
            let a = sum_set (λ (u : Worker). length u.claimed) core.workers i w v at in
            let b = sum_set (λ (u : Worker). tally u.ended) core.workers i w v at in
            let e : tally w.ended ≡ 0 = ap tally running in
            let l = length_push w.claimed n in
            let d = old.draws in omega arith;
        over =
            let b = sum_set (λ (u : Worker). tally u.ended) core.workers i w v at in
            let e : tally w.ended ≡ 0 = ap tally running in
            let d = old.over in omega arith;
        claims = λ m.
            let law = sum_set (λ (u : Worker). times m u.claimed) core.workers i w v at in
            let p = times_push m w.claimed n in
            let o = once_more m n in
            let now : min n k.tests ≡ n = omega arith in
            let next : min (n + 1) k.tests ≡ n + 1 = omega arith in
            let g : sum_by (λ (u : Worker). times m u.claimed) core.workers ≡ once_below m n = old.claims m ∙ ap (once_below m) now in
            let r : sum_by (λ (u : Worker). times m u.claimed) (set core.workers i v) ≡ once_below m (n + 1) = omega arith in
            r ∙ ap (once_below m) (sym next);
        bits = λ b t hb ht. old.bits b t hb ht ∙ ap (min 1) (sym (none_hit none v (hits_claim scripts w.claimed n) b t));
      }

  kept_no : w.rest ≡ 0 → k.tests ≤ n → IsKept scripts k (claim scripts core i w)
  kept_no none past =
      let v : Worker = record { claimed = w.claimed; rest = 0; ended = true } in
      let is_v = claim_no scripts k.tests n w past all in
      claimed_as v (sym is_v) record {
        same = old.same;
        whole = old.whole;
        some = subst (λ (m : ℕ). 0 < m) (sym (length-set core.workers i v)) old.some;
        ready = All-set (IsInOrder scripts k.tests) core.workers i v (subst (IsInOrder scripts k.tests) is_v (order_claim scripts k.tests n w all none order (no (λ less. omega arith)))) old.ready;
        draws =
            let a = sum_kept (λ (u : Worker). length u.claimed) core.workers i w v at refl in
            let b = sum_set (λ (u : Worker). tally u.ended) core.workers i w v at in
            let e : tally w.ended ≡ 0 = ap tally running in
            let d = old.draws in omega arith;
        over =
            let b = sum_set (λ (u : Worker). tally u.ended) core.workers i w v at in
            let e : tally w.ended ≡ 0 = ap tally running in
            let d = old.over in omega arith;
        claims = λ m.
            let now : min n k.tests ≡ min (n + 1) k.tests = omega arith in
            sum_kept (λ (u : Worker). times m u.claimed) core.workers i w v at refl ∙ old.claims m ∙ ap (once_below m) now;
        bits = λ b t hb ht. old.bits b t hb ht ∙ ap (min 1) (sym (none_hit none v refl b t));
      }

  pub kept_claim : w.rest ≡ 0 → IsKept scripts k (claim scripts core i w)
  kept_claim none = dite (dec_lt n k.tests) (λ less. kept_yes none less) (λ past. kept_no none (omega arith))

  module _ (some : 0 < w.rest) where
    abbrev t0 : ℕ
    t0 = last_claim w

    abbrev b0 : ℕ
    b0 = next_bit scripts w

    abbrev v0 : Worker
    v0 = after_hit w

    in_t : t0 < k.tests
    in_t = let o = order.some some in All-get_or (λ t. t < k.tests) w.claimed (length w.claimed - 1) 0 (omega arith) order.claims

    in_b : b0 < k.bits
    in_b =
        let s : List ℕ = script_of scripts t0 in
        let rest = order.rest in
        let mine = All-get_or (λ (x : List ℕ). All (λ b. b < k.bits) x) scripts t0 [] (let i = in_t in omega arith) in_range in
        All-get_or (λ b. b < k.bits) s (length s - w.rest) 0 (omega arith) mine

    -- one pair more
    one_more : hits_of scripts v0.claimed v0.rest ≡ hits_of scripts w.claimed w.rest ++ (b0, t0) ∷ []
    one_more =
        let r : ℕ = w.rest - 1 in
        let e : r + 1 ≡ w.rest = omega arith in
        let rest = order.rest in
        subst (λ (m : ℕ). hits_of scripts w.claimed r ≡ hits_of scripts w.claimed m ++ (slice_index (script_of scripts t0) (length (script_of scripts t0) - m), t0) ∷ []) e (hits_hit scripts w.claimed r (order.some some) (omega arith))

    counted : (b t : ℕ) → sum_by (λ u. marks b t (hits_of scripts u.claimed u.rest)) (set core.workers i v0) ≡ sum_by (λ u. marks b t (hits_of scripts u.claimed u.rest)) core.workers + tally ((b0 == b) && (t0 == t))
    counted b t =
        let law = sum_set (λ (u : Worker). marks b t (hits_of scripts u.claimed u.rest)) core.workers i w v0 at in
        let p : marks b t (hits_of scripts v0.claimed v0.rest) ≡ marks b t (hits_of scripts w.claimed w.rest) + tally ((b0 == b) && (t0 == t)) = ap (marks b t) one_more ∙ marks_push b t b0 t0 (hits_of scripts w.claimed w.rest) in
        omega arith

    abbrev words' : List ℕ
    words' = (with_pair record { shape = k; words = core.matrix.words } b0 t0).words

    covered : (b t : ℕ) → b < k.bits → t < 64 * rows k → Dec ((b ≡ b0) × (t ≡ t0)) → bit_of k words' b t ≡ min 1 (sum_by (λ u. marks b t (hits_of scripts u.claimed u.rest)) (set core.workers i v0))
    covered b t hb ht (yes e) =
        let one = pair_yes b0 t0 in
        let sum = counted b0 t0 in
        let here = bit_set k core.matrix.words b0 t0 old.whole in_b (tests_within k t0 in_t) in
        let done : bit_of k words' b0 t0 ≡ min 1 (sum_by (λ u. marks b0 t0 (hits_of scripts u.claimed u.rest)) (set core.workers i v0)) = omega arith in
        subst (λ (p : ℕ × ℕ). bit_of k words' p.0 p.1 ≡ min 1 (sum_by (λ u. marks p.0 p.1 (hits_of scripts u.claimed u.rest)) (set core.workers i v0))) (λ j. (sym e.0 j, sym e.1 j)) done
    covered b t hb ht (no apart) =
        let zero = pair_no b t b0 t0 apart in
        let sum = counted b t in
        let same = bit_kept k core.matrix.words b0 t0 old.whole in_b (tests_within k t0 in_t) b t ht apart in
        let was = old.bits b t hb ht in
        omega arith

    pub kept_hit : IsKept scripts k (hit scripts core i w)
    kept_hit =
        subst (λ (s : Shape). IsKept scripts k record { draws = n; matrix = with_pair record { shape = s; words = core.matrix.words } b0 t0; workers = set core.workers i v0 }) (sym old.same) record {
          same = refl;
          whole = length-set core.matrix.words (place k b0 t0) _ ∙ old.whole;
          some = subst (λ (m : ℕ). 0 < m) (sym (length-set core.workers i v0)) old.some;
          ready = All-set (IsInOrder scripts k.tests) core.workers i v0 (order_hit scripts k.tests w running order) old.ready;
          draws =
              let a = sum_kept (λ (u : Worker). length u.claimed) core.workers i w v0 at refl in
              let b = sum_kept (λ (u : Worker). tally u.ended) core.workers i w v0 at refl in
              let d = old.draws in omega arith;
          over = sum_kept (λ (u : Worker). tally u.ended) core.workers i w v0 at refl ∙ old.over;
          claims = λ m. sum_kept (λ (u : Worker). times m u.claimed) core.workers i w v0 at refl ∙ old.claims m;
          bits = λ b t hb ht. covered b t hb ht (same_or_not b0 t0 b t);
        }

pub kept_step : (scripts : List (List ℕ)) (k : Shape) → k.tests ≡ length scripts → AreInRange k.bits scripts → (core : Core) (i : ℕ) → IsKept scripts k core → IsKept scripts k (step scripts core i)
kept_step scripts k all in_range core i old =
    step_keeps (IsKept scripts k) scripts core i old
    (λ w at running none. kept_claim scripts k all in_range core old i w at running none)
    (λ w at running some. kept_hit scripts k all in_range core old i w at running some)

pub kept_start : (scripts : List (List ℕ)) (k : Shape) (workers : ℕ) → 0 < workers → IsKept scripts k (start k workers)
kept_start scripts k workers some =
    let idle : Worker = record { claimed = []; rest = 0; ended = false } in record {
      same = refl;
      whole = length-replicate (word_count k) 0;
      some = subst (λ (m : ℕ). 0 < m) (sym (length-replicate workers idle)) some;
      ready = All-replicate (IsInOrder scripts k.tests) workers idle record {
        claims = All-nil (λ t. t < k.tests);
        some = λ more. absurd (omega arith);
        rest = omega arith;
        ended = λ e. refl;
      };
      draws = let a = sum_replicate (λ (u : Worker). length u.claimed) workers idle refl in let b = sum_replicate (λ (u : Worker). tally u.ended) workers idle refl in omega arith;
      over = let b = sum_replicate (λ (u : Worker). tally u.ended) workers idle refl in omega arith;
      claims = λ n. let z : min 0 k.tests ≡ 0 = omega arith in sum_replicate (λ (u : Worker). times n u.claimed) workers idle refl ∙ sym (once_none n) ∙ ap (once_below n) (sym z);
      bits = λ b t hb ht.
          let at : ℕ = place k b t in
          let clear : get_or (replicate {A = ℕ} (word_count k) 0) at 0 ≡ 0 = get_or-replicate (word_count k) at 0 0 (place_within k b t hb ht) in
          let none : bit_of k (replicate (word_count k) 0) b t ≡ 0 = ap (λ (w : ℕ). bit_at w (t % 64)) clear ∙ bit_at-zero (t % 64) in
          let sum = sum_replicate (λ (u : Worker). marks b t (hits_of scripts u.claimed u.rest)) workers idle refl in omega arith;
    }
