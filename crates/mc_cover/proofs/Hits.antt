-- A hit keeps the rule.
use Rattle.std.proofs.Common.{◌≡◌, ◌≢◌, ℕ, ◌+◌, ◌*◌, ◌%◌, ◌^◌, ◌<◌, ⊎_elim, List, [], ◌∷◌, length, get_or, set, sym, refl, ap, ◌∙◌, subst, arith, length-set}
use Rattle.std.specs.Prelude.{bit_or, min, Contains, sum_by}
use Rattle.std.proofs.lemmas.List.Elements.{All-push}
use native.Mathlib.Decide.{ℕ_discrete}
use mathlib.Core.Option.{none, some}
use mathlib.Core.Logic.{dite}
use lib.ListN.{get_elem?}
use Rattle.atomic_table.specs.Table.{Me, step, keeps, Allows, stepped}
use Rattle.atomic_table.proofs.Lists.{at_set}
use Rattle.mc_core.specs.declared.shape.Shape.{Shape}
use Rattle.mc_core.specs.Shape.{rows, word_count, place}
use Rattle.mc_core.specs.Matrix.{bit_of}
use Rattle.mc_core.specs.Counts.{marks, times}
use Rattle.mc_cover.specs.declared.view.View.{View}
use Rattle.mc_cover.specs.declared.view.Role.TheVariants.{Spent}
use Rattle.mc_cover.specs.Views.{after_hit, opens, works, runs}
use Rattle.mc_cover.specs.Rule.{Shared, HasView, IsSound, IsKept, draws, coverage}
use Rattle.mc_cover.specs.Steps as steps
use Rattle.mc_cover.specs.Tells.{hit_is}
use Rattle.mc_cover.proofs.Sums.{total_set, total_kept}
use Rattle.mc_cover.proofs.Counts.{marks_same, marks_other}
use Rattle.mc_cover.proofs.Bits.{marked, mark_here, mark_other, mark_grows, same_pair, place_within, pow_same, length_coverage, marked_after_first}

-- what holds of each view, after one view changes
pub each_set : (P : View → Type 0) (Q : View → Type 0) (views : List View) (id : ℕ) (w : View) → ((v : View) → P v → Q v) → Q w
    → ((j : ℕ) (v : View) → get_elem? views j ≡ some v → P v) → (j : ℕ) (v : View) → get_elem? (set views id w) j ≡ some v → Q v
each_set P Q views id w on mine all j v at = ⊎_elim (λ (x : (j ≡ id) × (w ≡ v)). subst Q x.1 mine) (λ (x : (j ≢ id) × (get_elem? views j ≡ some v)). on v (all j v x.1)) (at_set views id j w v at)

module _ (k : Shape) (s : Shared) (kept : IsKept k s) (id b t : ℕ) (v : View) (at : HasView s id v) (in_b : b < k.bits) (in_t : t < 64 * rows k) where
  abbrev old_words : List ℕ
  old_words = coverage s.words

  abbrev new_words : List ℕ
  new_words = marked old_words (place k b t) (t % 64)

  abbrev new_views : List View
  new_views = set s.views id (after_hit v b t)

  long : length old_words ≡ word_count k
  long = length_coverage s.words (word_count k) kept.whole

  within : place k b t < length old_words
  within = let a = place_within k b t in_b in_t in let h = long in omega arith

  bits_hit : (c u : ℕ) → c < k.bits → u < 64 * rows k → Dec ((c ≡ b) × (u ≡ t)) → bit_of k new_words c u ≡ min 1 (sum_by (λ w. marks c u w.hits) new_views)
  bits_hit c u hc hu (yes e) =
      let law = total_set (λ (w : View). marks b t w.hits) s.views id v (after_hit v b t) at in
      let more = marks_same b t v.hits in
      let set' = mark_here old_words (place k b t) (t % 64) within in
      let sum : bit_of k new_words b t ≡ min 1 (sum_by (λ w. marks b t w.hits) new_views) = omega arith in
      subst (λ (p : ℕ × ℕ). bit_of k new_words p.0 p.1 ≡ min 1 (sum_by (λ w. marks p.0 p.1 w.hits) new_views)) (λ i. (sym e.0 i, sym e.1 i)) sum
  bits_hit c u hc hu (no ne) =
      let law = total_set (λ (w : View). marks c u w.hits) s.views id v (after_hit v b t) at in
      let more = marks_other c u b t v.hits ne in
      let same = mark_other old_words (place k b t) (t % 64) (place k c u) (u % 64) within (λ p. ne (same_pair k c u b t hu in_t p.0 p.1)) in
      let old = kept.bits c u hc hu in
      omega arith

  sound_hit : (w : View) → IsSound k s.words w → IsSound k (draws s.words ∷ new_words) w
  sound_hit w old = record {
    hits = old.hits;
    seen = λ j d less i. let a = old.seen j d less i in let g = mark_grows old_words (place k b t) (t % 64) (get_or w.seen j d).0 i within in omega arith;
    shape = old.shape;
    worker = old.worker;
    empty = old.empty;
  }

  sound_mine : v.role ≢ Spent → Contains v.claims t → IsSound k (draws s.words ∷ new_words) (after_hit v b t)
  sound_mine live claimed = let old = sound_hit v (kept.each id v at) in record {
    hits = All-push (λ h. (h.0 < k.bits) × Contains v.claims h.1) v.hits (b, t) old.hits (in_b, claimed);
    seen = old.seen;
    shape = old.shape;
    worker = old.worker;
    empty = λ e. absurd (live e);
  }

  same' : (f : View → ℕ) → f (after_hit v b t) ≡ f v → sum_by f new_views ≡ sum_by f s.views
  same' f e = total_kept f s.views id v (after_hit v b t) at e

  pub kept_hit : v.role ≢ Spent → Contains v.claims t → IsKept k (steps.marked k s id v b t)
  kept_hit live claimed = record {
    whole = let a = length-set old_words (place k b t) (bit_or (get_or old_words (place k b t) 0) (2 ^ (t % 64))) in let h = long in omega arith;
    over = same' (λ u. u.over) refl ∙ kept.over;
    claims = λ n. same' (λ u. times n u.claims) refl ∙ kept.claims n;
    bits = λ c u hc hu. dite (ℕ_discrete c b) (λ x. dite (ℕ_discrete u t) (λ y. bits_hit c u hc hu (yes (x, y))) (λ y. bits_hit c u hc hu (no (λ p. y p.1)))) (λ x. bits_hit c u hc hu (no (λ p. x p.0)));
    opener = same' (λ u. opens u.role) refl ∙ kept.opener;
    workers = let a = same' (λ u. works u.role) refl in let b = same' (λ u. u.joined) refl in let c = same' (λ u. u.forks) refl in let d = kept.workers in omega arith;
    running = let a = same' (λ u. u.over) refl in let b = same' runs refl in let c = same' (λ u. u.forks) refl in let d = kept.running in omega arith;
    forks = let c = same' (λ u. u.forks) refl in let d = kept.forks in omega arith;
    each = each_set (IsSound k s.words) (IsSound k (draws s.words ∷ new_words)) s.views id (after_hit v b t) sound_hit (sound_mine live claimed) kept.each;
  }

-- the fetch_or of one bit
pub move_hit : (k : Shape) (s : Shared) → IsKept k s → (id : ℕ) (v : View) (b t : ℕ) → stepped s (place k b t + 1) (bit_or (get_or s.words (place k b t + 1) 0) (2 ^ (t % 64))) id [] (after_hit v b t) keeps ≡ steps.marked k s id v b t
move_hit k s kept id v b t = ap (λ (words : List ℕ). let r : Shared = record { words = words; homes = s.homes; views = set s.views id (after_hit v b t) } in r) (marked_after_first s.words (place k b t) (t % 64) (let h = kept.whole in omega arith))

pub hits : (k : Shape) (slots id : ℕ) (me : Me (Unit {0}) View) (b t word mask : ℕ) → me.0.role ≢ Spent → me.0.shape ≡ k → b < k.bits → t < k.tests → Contains me.0.claims t → word ≡ place k b t + 1 → mask ≡ 2 ^ (t % 64)
    → Allows (IsKept k) slots id me word (λ n. bit_or n mask) (hit_is (step slots word mask 0 none) me)
hits k slots id me b t word mask live same in_b in_t claimed is_word is_mask s kept _ at small =
    let wide : t < 64 * rows k = omega arith in (
      after_hit me.0 b t,
      keeps,
      tt,
      subst (λ (p : ℕ × ℕ). IsKept k record { words = set s.words p.0 (bit_or (get_or s.words p.0 0) p.1); homes = s.homes; views = set s.views id (after_hit me.0 b t) }) (λ i. (sym is_word i, sym is_mask i))
          (subst (IsKept k) (sym (move_hit k s kept id me.0 b t)) (kept_hit k s kept id b t me.0 at in_b wide live claimed)),
      (
        refl,
        λ c u hc hu at_word at_mask.
            let hu' : u < 64 * rows k = subst (λ (z : Shape). u < 64 * rows z) same hu in
            let at' : place k b t + 1 ≡ place k c u + 1 = sym is_word ∙ (at_word ∙ ap (λ (z : Shape). place z c u + 1) same) in
            let one = same_pair k b t c u wide hu' (omega arith) (pow_same (t % 64) (u % 64) (sym is_mask ∙ at_mask)) in
            λ i. after_hit me.0 (one.0 i) (one.1 i),
      ),
    )
