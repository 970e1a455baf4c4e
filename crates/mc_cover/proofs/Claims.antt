-- A claim keeps the rule.
use Rattle.std.proofs.Common.{◌≡◌, ◌≢◌, ℕ, ◌+◌, ◌*◌, ◌%◌, ◌^◌, ◌<◌, ◌≤◌, List, [], ◌∷◌, ◌++◌, length, get_or, set, sym, refl, ap, ◌∙◌, subst, arith, length-set, get_or-set_same}
use Rattle.std.specs.Prelude.{min, All, sum_by, nat_lt, nat_le, true, false, Bool, if◌then◌else◌}
use Rattle.std.specs.Int.{bit_at}
use Rattle.std.proofs.lemmas.Bool.Decides.{nat_tests}
use Rattle.std.proofs.lemmas.List.Elements.{Contains-append_left}
use native.Mathlib.Decide.{dec_lt}
use mathlib.Core.Option.{none}
use mathlib.Core.Logic.{dite}
use Rattle.atomic_table.specs.Table.{Me, step, keeps, Allows, stepped}
use Rattle.atomic_table.proofs.Lists.{set_here}
use Rattle.mc_limits.specs.Limits.{most_workers}
use Rattle.mc_core.specs.declared.shape.Shape.{Shape}
use Rattle.mc_core.specs.Shape.{rows}
use Rattle.mc_core.specs.Matrix.{bit_of}
use Rattle.mc_core.specs.Counts.{times, once_below, marks}
use Rattle.mc_cover.specs.declared.view.View.{View}
use Rattle.mc_cover.specs.declared.view.Role.TheVariants.{Worker, Spent}
use Rattle.mc_cover.specs.Views.{after_claim, with_claim, ended, opens, works, runs}
use Rattle.mc_cover.specs.Rule.{Shared, HasView, IsSound, IsKept, draws, coverage}
use Rattle.mc_cover.specs.Steps.{drawn}
use Rattle.mc_cover.specs.Tells.{claim_is, AreDifferentBelow}
use Rattle.mc_cover.proofs.Sums.{total_set, total_kept, part_le, at_length}
use Rattle.mc_cover.proofs.Counts.{times_push, once_more, once_le, different_few}
use Rattle.mc_cover.proofs.Bits.{coverage_drawn}
use Rattle.mc_cover.proofs.Hits.{each_set}

-- which of the two a draw is
abbrev picked : View → ℕ → Bool → Bool → View
picked v n less ends = record v { claims = if less then v.claims ++ n ∷ [] else v.claims; over = if ends then 1 else v.over }

pub is_claim : (v : View) (n : ℕ) → n < v.shape.tests → after_claim v n ≡ with_claim v n
is_claim v n less =
    let p : nat_lt n v.shape.tests ≡ true = grind (arith, nat_tests) in
    let q : nat_le v.shape.tests n ≡ false = grind (arith, nat_tests) in λ i. picked v n (p i) (q i)

pub is_end : (v : View) (n : ℕ) → v.shape.tests ≤ n → after_claim v n ≡ ended v
is_end v n past =
    let p : nat_lt n v.shape.tests ≡ false = grind (arith, nat_tests) in
    let q : nat_le v.shape.tests n ≡ true = grind (arith, nat_tests) in λ i. picked v n (p i) (q i)

module _ (k : Shape) (s : Shared) (kept : IsKept k s) (id : ℕ) (v : View) (at : HasView s id v) (is_worker : v.role ≡ Worker) (not_over : v.over ≡ 0) where
  abbrev n0 : ℕ
  n0 = draws s.words

  abbrev new_words : List ℕ
  new_words = set s.words 0 (n0 + 1)

  here : get_or new_words 0 0 ≡ n0 + 1
  here = get_or-set_same s.words 0 (n0 + 1) 0 (let h = kept.whole in omega arith)

  live : v.role ≢ Spent
  live e = let x = sym is_worker ∙ e in cc

  sound_draw : (w : View) → IsSound k s.words w → IsSound k new_words w
  sound_draw w old = record {
    hits = old.hits;
    seen = subst (λ (l : List ℕ). All (λ x. (i : ℕ) → bit_at x.1 i ≤ bit_at (get_or l x.0 0) i) w.seen) (sym (coverage_drawn s.words (n0 + 1))) old.seen;
    shape = old.shape;
    worker = old.worker;
    empty = old.empty;
  }

  bits_draw : (w : View) → w.hits ≡ v.hits → (b t : ℕ) → b < k.bits → t < 64 * rows k → bit_of k (coverage new_words) b t ≡ min 1 (sum_by (λ u. marks b t u.hits) (set s.views id w))
  bits_draw w same b t hb ht =
      ap (λ (l : List ℕ). bit_of k l b t) (coverage_drawn s.words (n0 + 1)) ∙ kept.bits b t hb ht ∙ ap (λ x. min 1 x) (sym (total_kept (λ (u : View). marks b t u.hits) s.views id v w at (ap (λ l. marks b t l) same)))

  kept_with : n0 < k.tests → IsKept k record { words = new_words; homes = s.homes; views = set s.views id (with_claim v n0) }
  kept_with less =
      let w : View = with_claim v n0 in
      let same' = λ (f : View → ℕ) (e : f w ≡ f v). total_kept f s.views id v w at e in
      let mine = kept.each id v at in record {
        whole = length-set s.words 0 (n0 + 1) ∙ kept.whole;
        over = let a = same' (λ u. u.over) refl in let d = kept.over in let h = here in omega arith;
        claims = λ n. let law = total_set (λ (u : View). times n u.claims) s.views id v w at in let p = times_push n v.claims n0 in let o = once_more n n0 in let g = kept.claims n in
            let h : min (get_or new_words 0 0) k.tests ≡ n0 + 1 = let h = here in omega arith in let m : min n0 k.tests ≡ n0 = omega arith in
            let g' : sum_by (λ (u : View). times n u.claims) s.views ≡ once_below n n0 = g ∙ ap (λ x. once_below n x) m in
            let r : sum_by (λ (u : View). times n u.claims) (set s.views id w) ≡ once_below n (n0 + 1) = omega arith in
            r ∙ ap (λ x. once_below n x) (sym h);
        bits = bits_draw w refl;
        opener = same' (λ u. opens u.role) refl ∙ kept.opener;
        workers = let a = same' (λ u. works u.role) refl in let b = same' (λ u. u.joined) refl in let c = same' (λ u. u.forks) refl in let d = kept.workers in omega arith;
        running = let a = same' (λ u. u.over) refl in let b = same' runs refl in let c = same' (λ u. u.forks) refl in let d = kept.running in omega arith;
        forks = let c = same' (λ u. u.forks) refl in let d = kept.forks in omega arith;
        each = each_set (IsSound k s.words) (IsSound k new_words) s.views id w sound_draw
            (let old = sound_draw v mine in record { hits = (λ j d less'. let h = old.hits j d less' in (h.0, Contains-append_left v.claims (n0 ∷ []) (get_or v.hits j d).1 h.1)); seen = old.seen; shape = old.shape; worker = old.worker; empty = λ e. absurd (live e) })
            kept.each;
      }

  kept_ended : k.tests ≤ n0 → IsKept k record { words = new_words; homes = s.homes; views = set s.views id (ended v) }
  kept_ended past =
      let w : View = ended v in
      let same' = λ (f : View → ℕ) (e : f w ≡ f v). total_kept f s.views id v w at e in
      let mine = kept.each id v at in
      let law = total_set (λ (u : View). u.over) s.views id v w at in
      let ran = total_set runs s.views id v w at in
      let one : works v.role ≡ 1 = ap works is_worker in record {
        whole = length-set s.words 0 (n0 + 1) ∙ kept.whole;
        over = let d = kept.over in let h = here in omega arith;
        claims = λ n. same' (λ u. times n u.claims) refl ∙ kept.claims n ∙ ap (λ x. once_below n x) (let h = here in let e : min n0 k.tests ≡ min (get_or new_words 0 0) k.tests = omega arith in e);
        bits = bits_draw w refl;
        opener = same' (λ u. opens u.role) refl ∙ kept.opener;
        workers = let a = same' (λ u. works u.role) refl in let b = same' (λ u. u.joined) refl in let c = same' (λ u. u.forks) refl in let d = kept.workers in omega arith;
        running = let c = same' (λ u. u.forks) refl in let d = kept.running in omega arith;
        forks = let c = same' (λ u. u.forks) refl in let d = kept.forks in omega arith;
        each = each_set (IsSound k s.words) (IsSound k new_words) s.views id w sound_draw
            (let old = sound_draw v mine in record { hits = old.hits; seen = old.seen; shape = old.shape; worker = λ e. let o = old.worker e in (omega arith, o.1, o.2); empty = λ e. absurd (live e) })
            kept.each;
      }

  shaped : v.shape ≡ k
  shaped = (kept.each id v at).shape live

  pub kept_drawn : IsKept k (drawn s id v)
  kept_drawn =
      let K : View → Type 0 = λ w. IsKept k record { words = new_words; homes = s.homes; views = set s.views id w } in
      let tests = ap (λ (z : Shape). z.tests) shaped in dite (dec_lt n0 k.tests)
      (λ less. subst K (sym (is_claim v n0 (omega arith))) (kept_with less))
      (λ no. subst K (sym (is_end v n0 (omega arith))) (kept_ended (omega arith)))

-- the number of draws stays far from wrapping
pub draws_small : (k : Shape) (s : Shared) → IsKept k s → draws s.words ≤ k.tests + most_workers
draws_small k s kept = let a = kept.over in let b = kept.running in let c = kept.forks in omega arith

-- the claims of one view are different numbers below the number of tests
pub different : (k : Shape) (s : Shared) (kept : IsKept k s) (id : ℕ) (v : View) → HasView s id v → AreDifferentBelow k.tests v.claims
different k s kept id v at n = let p = part_le (λ (u : View). times n u.claims) s.views id v at in let g = kept.claims n in let o = once_le n (min (get_or s.words 0 0) k.tests) k.tests (omega arith) in omega arith

-- the fetch_add of 1
pub move_claim : (k : Shape) (s : Shared) → k.tests < 2 ^ 32 → IsKept k s → (id : ℕ) (v : View) → stepped s 0 ((draws s.words + 1) % 2 ^ 64) id [] (after_claim v (draws s.words)) keeps ≡ drawn s id v
move_claim k s few kept id v =
    let bound = draws_small k s kept in
    let next : (draws s.words + 1) % 2 ^ 64 ≡ draws s.words + 1 = omega arith in
    ap (λ (n : ℕ). let r : Shared = record { words = set s.words 0 n; homes = s.homes; views = set s.views id (after_claim v (draws s.words)) } in r) next

pub claims : (k : Shape) (slots id : ℕ) (me : Me (Unit {0}) View) → k.tests < 2 ^ 32 → me.0.role ≡ Worker → me.0.over ≡ 0 → me.0.shape ≡ k
    → Allows (IsKept k) slots id me 0 (λ n. (n + 1) % 2 ^ 64) (claim_is (step slots 0 1 0 none) me)
claims k slots id me few is_worker not_over same s kept _ at small =
    let v : View = me.0 in
    let w : View = after_claim v (draws s.words) in
    let after = kept_drawn k s kept id v at is_worker not_over in
    let diff = different k (drawn s id v) after id w (set_here s.views id w (at_length s.views id v at)) in (
      w,
      keeps,
      tt,
      subst (IsKept k) (sym (move_claim k s few kept id v)) after,
      (
        refl,
        refl,
        subst (λ (z : Shape). AreDifferentBelow z.tests w.claims) (sym same) diff,
        subst (λ (z : Shape). length w.claims ≤ z.tests) (sym same) (different_few k.tests w.claims diff),
      ),
    )
