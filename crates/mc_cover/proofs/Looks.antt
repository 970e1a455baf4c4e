-- A look keeps the rule.
use Rattle.std.proofs.Common.{◌≡◌, ◌≢◌, ℕ, ◌+◌, ◌%◌, ◌<◌, ◌≤◌, List, get_or, set, sym, refl, ap, ◌∙◌, subst, arith}
use Rattle.std.specs.Prelude.{min, All, Contains, sum_by}
use Rattle.std.specs.Int.{bit_at}
use Rattle.std.proofs.lemmas.List.{set-get_or}
use Rattle.std.proofs.lemmas.List.Elements.{All-push, All-contains}
use mathlib.Core.Option.{none}
use Rattle.atomic_table.specs.Table.{Me, step, keeps, Allows}
use Rattle.mc_core.specs.declared.shape.Shape.{Shape}
use Rattle.mc_core.specs.Shape.{place}
use Rattle.mc_core.specs.Counts.{marks, times}
use Rattle.mc_cover.specs.declared.view.View.{View}
use Rattle.mc_cover.specs.declared.view.Role.TheVariants.{Spent}
use Rattle.mc_cover.specs.Views.{after_look, opens, works, runs}
use Rattle.mc_cover.specs.Rule.{Shared, HasView, IsSound, IsKept, coverage}
use Rattle.mc_cover.specs.Steps.{looked}
use Rattle.mc_cover.specs.Tells.{look_is}
use Rattle.mc_cover.proofs.Sums.{total_kept, part_le}
use Rattle.mc_cover.proofs.Counts.{marks_of_contains}
use Rattle.mc_cover.proofs.Bits.{after_first}
use Rattle.mc_cover.proofs.Hits.{each_set}
use Rattle.mc_cover.proofs.Ends.{in_range}

module _ (k : Shape) (s : Shared) (kept : IsKept k s) (id : ℕ) (v : View) (at : HasView s id v) (index : ℕ) where
  abbrev found : ℕ
  found = get_or (coverage s.words) index 0

  abbrev w : View
  w = after_look v index found

  same' : (f : View → ℕ) → f w ≡ f v → sum_by f (set s.views id w) ≡ sum_by f s.views
  same' f e = total_kept f s.views id v w at e

  pub kept_look : v.role ≢ Spent → IsKept k (looked s id v index)
  kept_look live = record {
    whole = kept.whole;
    over = same' (λ u. u.over) refl ∙ kept.over;
    claims = λ n. same' (λ u. times n u.claims) refl ∙ kept.claims n;
    bits = λ b t hb ht. kept.bits b t hb ht ∙ ap (λ y. min 1 y) (sym (same' (λ u. marks b t u.hits) refl));
    opener = same' (λ u. opens u.role) refl ∙ kept.opener;
    workers = let a = same' (λ u. works u.role) refl in let b = same' (λ u. u.joined) refl in let c = same' (λ u. u.forks) refl in let d = kept.workers in omega arith;
    running = let a = same' (λ u. u.over) refl in let b = same' runs refl in let c = same' (λ u. u.forks) refl in let d = kept.running in omega arith;
    forks = let c = same' (λ u. u.forks) refl in let d = kept.forks in omega arith;
    each = each_set (IsSound k s.words) (IsSound k s.words) s.views id w (λ u h. h)
        (let old = kept.each id v at in record {
          hits = old.hits;
          seen = All-push (λ (y : ℕ × ℕ). (i : ℕ) → bit_at y.1 i ≤ bit_at (get_or (coverage s.words) y.0 0) i) v.seen (index, found) old.seen (λ i. omega arith);
          shape = old.shape;
          worker = old.worker;
          empty = λ e. absurd (live e);
        }) kept.each;
  }

  -- what the view saw in this word is still set
  pub no_less : All (λ x. x.0 ≡ index → (i : ℕ) → bit_at x.1 i ≤ bit_at found i) v.seen
  no_less j d less is i = subst (λ (n : ℕ). bit_at (get_or v.seen j d).1 i ≤ bit_at (get_or (coverage s.words) n 0) i) is ((kept.each id v at).seen j d less i)

  -- what the view hit in this word is set
  pub has_hits : (b t : ℕ) → Contains v.hits (b, t) → place k b t ≡ index → bit_at found (t % 64) ≡ 1
  has_hits b t hit is =
      let range = All-contains (λ (h : ℕ × ℕ). (h.0 < k.bits) × (h.1 < k.tests)) v.hits (b, t) (in_range k s kept id v at) hit in
      let few = range.1 in
      let bit = kept.bits b t range.0 (omega arith) in
      let part = part_le (λ (u : View). marks b t u.hits) s.views id v at in
      let some = marks_of_contains b t v.hits hit in
      subst (λ (n : ℕ). bit_at (get_or (coverage s.words) n 0) (t % 64) ≡ 1) is (omega arith)

pub looks : (k : Shape) (slots id : ℕ) (me : Me (Unit {0}) View) (index : ℕ) → me.0.role ≢ Spent → me.0.shape ≡ k
    → Allows (IsKept k) slots id me (index + 1) (λ n. n) (look_is (step slots (index + 1) 0 0 none) me)
looks k slots id me index live same s kept _ at small =
    let v : View = me.0 in
    let found : ℕ = get_or s.words (index + 1) 0 in
    let found_is : get_or (coverage s.words) index 0 ≡ found = after_first s.words index 0 in (
      after_look v index found,
      keeps,
      tt,
      subst (λ (p : List ℕ × ℕ). IsKept k record { words = p.0; homes = s.homes; views = set s.views id (after_look v index p.1) }) (λ i. (sym (set-get_or s.words (index + 1) 0) i, found_is i)) (kept_look k s kept id v at index live),
      (
        refl,
        λ other e.
            let one : index ≡ other = omega arith in
            subst (λ (n : ℕ). (after_look v index found ≡ after_look v n found)
            × All (λ x. x.0 ≡ n → (i : ℕ) → bit_at x.1 i ≤ bit_at found i) v.seen
            × ((b t : ℕ) → Contains v.hits (b, t) → place v.shape b t ≡ n → bit_at found (t % 64) ≡ 1)) one (
              refl,
              subst (λ (x : ℕ). All (λ y. y.0 ≡ index → (i : ℕ) → bit_at y.1 i ≤ bit_at x i) v.seen) found_is (no_less k s kept id v at index),
              (λ b t hit is. subst (λ (x : ℕ). bit_at x (t % 64) ≡ 1) found_is (has_hits k s kept id v at index b t hit (ap (λ (z : Shape). place z b t) (sym same) ∙ is))),
            ),
      ),
    )
