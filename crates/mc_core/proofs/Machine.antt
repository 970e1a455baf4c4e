-- One step of the interleaving core, case by case.
use Rattle.std.proofs.Common.{◌≡◌, ℕ, ◌+◌, ◌<◌, ◌≤◌, List, [], ◌∷◌, ◌++◌, length, sym, refl, ap, ◌∙◌, subst, arith, Bool, true, false, cond}
use Rattle.std.specs.Prelude.{◌==◌, slice_get, Some, None, Option, nat_lt, nat_le}
use Rattle.std.proofs.lemmas.Bool.Decides.{nat_tests}
use Rattle.std.proofs.lemmas.List.{get_or_past}
use native.Mathlib.Decide.{dec_lt}
use mathlib.Core.Logic.{dite}
use Rattle.mc_core.specs.Schedule.{Core, Worker, script_of, after_claim, claim, hit, step, step_of}

module _ (scripts : List (List ℕ)) (core : Core) (i : ℕ) (w : Worker) (at : slice_get core.workers i ≡ Some w) where
  pub step_ended : w.ended ≡ true → step scripts core i ≡ core
  step_ended e = ap (step_of scripts core i) at ∙ ap (λ (b : Bool). cond b core (cond (w.rest == 0) (claim scripts core i w) (hit scripts core i w))) e

  pub step_claim : w.ended ≡ false → w.rest ≡ 0 → step scripts core i ≡ claim scripts core i w
  step_claim e none =
      let zero : (w.rest == 0) ≡ true = grind (arith, nat_tests) in
      ap (step_of scripts core i) at ∙ ap (λ (b : Bool). cond b core (cond (w.rest == 0) (claim scripts core i w) (hit scripts core i w))) e
      ∙ ap (λ (b : Bool). cond b (claim scripts core i w) (hit scripts core i w)) zero

  pub step_hit : w.ended ≡ false → 0 < w.rest → step scripts core i ≡ hit scripts core i w
  step_hit e some =
      let zero : (w.rest == 0) ≡ false = grind (arith, nat_tests) in
      ap (step_of scripts core i) at ∙ ap (λ (b : Bool). cond b core (cond (w.rest == 0) (claim scripts core i w) (hit scripts core i w))) e
      ∙ ap (λ (b : Bool). cond b (claim scripts core i w) (hit scripts core i w)) zero

pub step_unknown : (scripts : List (List ℕ)) (core : Core) (i : ℕ) → slice_get core.workers i ≡ None → step scripts core i ≡ core
step_unknown scripts core i at = ap (step_of scripts core i) at

-- what is kept by a claim and by a hit is kept by each step
pub step_keeps : (K : Core → Type 0) (scripts : List (List ℕ)) (core : Core) (i : ℕ) → K core
    → ((w : Worker) → slice_get core.workers i ≡ Some w → w.ended ≡ false → w.rest ≡ 0 → K (claim scripts core i w))
    → ((w : Worker) → slice_get core.workers i ≡ Some w → w.ended ≡ false → 0 < w.rest → K (hit scripts core i w))
    → K (step scripts core i)
step_keeps K scripts core i now claims hits = go (slice_get core.workers i) refl
  where
    running : (w : Worker) → slice_get core.workers i ≡ Some w → (e : Bool) → w.ended ≡ e → K (step scripts core i)
    running w at true e = subst K (sym (step_ended scripts core i w at e)) now
    running w at false e = dite (dec_lt 0 w.rest)
        (λ some. subst K (sym (step_hit scripts core i w at e some)) (hits w at e some))
        (λ no. let none : w.rest ≡ 0 = omega arith in subst K (sym (step_claim scripts core i w at e none)) (claims w at e none))

    go : (o : Option Worker) → slice_get core.workers i ≡ o → K (step scripts core i)
    go None at = subst K (sym (step_unknown scripts core i at)) now
    go (Some w) at = running w at w.ended refl

-- a number below the tests is claimed
pub claim_yes : (scripts : List (List ℕ)) (tests n : ℕ) (w : Worker) → n < tests
    → after_claim scripts tests n w ≡ record { claimed = w.claimed ++ n ∷ []; rest = length (script_of scripts n); ended = false }
claim_yes scripts tests n w less =
    let below : nat_lt n tests ≡ true = grind (arith, nat_tests) in
    let over : nat_le tests n ≡ false = grind (arith, nat_tests) in
    λ i. record { claimed = cond (below i) (w.claimed ++ n ∷ []) w.claimed; rest = length (script_of scripts n); ended = over i }

-- any other ends the worker
pub claim_no : (scripts : List (List ℕ)) (tests n : ℕ) (w : Worker) → tests ≤ n → tests ≡ length scripts
    → after_claim scripts tests n w ≡ record { claimed = w.claimed; rest = 0; ended = true }
claim_no scripts tests n w past all =
    let below : nat_lt n tests ≡ false = grind (arith, nat_tests) in
    let over : nat_le tests n ≡ true = grind (arith, nat_tests) in
    let none : script_of scripts n ≡ [] = get_or_past scripts n [] (omega arith) in
    λ i. record { claimed = cond (below i) (w.claimed ++ n ∷ []) w.claimed; rest = length (none i); ended = over i }

-- a step draws at most one number
pub step_draws : (scripts : List (List ℕ)) (core : Core) (i : ℕ) → (step scripts core i).draws ≤ core.draws + 1
step_draws scripts core i = step_keeps (λ c. c.draws ≤ core.draws + 1) scripts core i (omega arith) (λ w at running none. omega arith) (λ w at running some. omega arith)
