-- What is known once every fork is joined, and what the words hold at the end.
use Rattle.std.proofs.Common.{◌≡◌, ◌≢◌, ℕ, ◌*◌, ◌%◌, ◌<◌, ◌≤◌, ◌⊎◌, ⊎_elim, inl, inr, List, get_or, sym, refl, ap, ◌∙◌, subst, arith}
use Rattle.std.specs.Prelude.{min, All, Contains, sum_by}
use Rattle.std.specs.Int.{bit_at}
use Rattle.std.proofs.lemmas.List.{set-get_or}
use mathlib.Core.Option.{none}
use Rattle.atomic_table.specs.Table.{Me, step, keeps, Allows, Final, Seen}
use Rattle.atomic_table.proofs.Lists.{set_again}
use Rattle.mc_core.specs.declared.shape.Shape.{Shape}
use Rattle.mc_core.specs.Shape.{rows, place}
use Rattle.mc_core.specs.Matrix.{bit_of}
use Rattle.mc_core.specs.Counts.{marks, times, once_below}
use Rattle.mc_cover.specs.declared.view.View.{View}
use Rattle.mc_cover.specs.declared.view.Role.{Role}
use Rattle.mc_cover.specs.declared.view.Role.TheVariants.{Opener, Worker, Spent}
use Rattle.mc_cover.specs.Views.{opens, works, spent}
use Rattle.mc_cover.specs.Rule.{Shared, HasView, IsKept, draws, coverage}
use Rattle.mc_cover.specs.Tells.{IsSettled, SeenIsHit, settle_is}
use Rattle.mc_cover.specs.Closed.{AreInRange}
use Rattle.mc_cover.proofs.Sums.{part_le, parts_le, total_alone}
use Rattle.mc_cover.proofs.Counts.{contains_of_marks, times_of_contains, below_of_once}
use Rattle.mc_cover.proofs.Claims.{different}

role_cases : (r : Role) → opens r ≡ 0 → (r ≡ Worker) ⊎ (r ≡ Spent)
role_cases Opener e = absurd (omega arith)
role_cases Worker e = inl refl
role_cases Spent e = inr refl

module _ (k : Shape) (s : Shared) (kept : IsKept k s) (id : ℕ) (v : View) (at : HasView s id v) (is_opener : v.role ≡ Opener) where
  other_role : (j : ℕ) (u : View) → j ≢ id → HasView s j u → (u.role ≡ Worker) ⊎ (u.role ≡ Spent)
  other_role j u ne bt = let p = parts_le (λ (x : View). opens x.role) s.views id j v u at bt ne in let o = kept.opener in let m : opens v.role ≡ 1 = ap opens is_opener in role_cases u.role (omega arith)

  other_idle : (j : ℕ) (u : View) → j ≢ id → HasView s j u → (u.forks ≡ 0) × (u.joined ≡ 0)
  other_idle j u ne bt = let sound = kept.each j u bt in ⊎_elim (λ (e : u.role ≡ Worker). ((sound.worker e).1, (sound.worker e).2)) (λ (e : u.role ≡ Spent). (ap (λ (x : View). x.forks) (sound.empty e), ap (λ (x : View). x.joined) (sound.empty e))) (other_role j u ne bt)

  pub forks_is : sum_by (λ u. u.forks) s.views ≡ v.forks
  forks_is = total_alone (λ (u : View). u.forks) s.views id v at (λ j u ne bt. (other_idle j u ne bt).0)

  pub joined_is : sum_by (λ u. u.joined) s.views ≡ v.joined
  joined_is = total_alone (λ (u : View). u.joined) s.views id v at (λ j u ne bt. (other_idle j u ne bt).1)

  pub shape_is : v.shape ≡ k
  shape_is = (kept.each id v at).shape (λ e. let x = sym is_opener ∙ e in cc)

  module _ (all : v.forks ≡ v.joined) where
    rest_spent : (j : ℕ) (u : View) → j ≢ id → HasView s j u → u ≡ spent
    rest_spent j u ne bt = ⊎_elim
        (λ (e : u.role ≡ Worker). let p = part_le (λ (x : View). works x.role) s.views j u bt in let m : works u.role ≡ 1 = ap works e in let w = kept.workers in let f = forks_is in let g = joined_is in absurd (omega arith))
        (λ (e : u.role ≡ Spent). (kept.each j u bt).empty e) (other_role j u ne bt)

    -- a sum over the views is the opener's part
    whole_is_mine : (f : View → ℕ) → f spent ≡ 0 → sum_by f s.views ≡ f v
    whole_is_mine f idle = total_alone f s.views id v at (λ j u ne bt. ap f (rest_spent j u ne bt) ∙ idle)

    pub matrix_is : (b t : ℕ) → b < k.bits → t < 64 * rows k → bit_of k (coverage s.words) b t ≡ min 1 (marks b t v.hits)
    matrix_is b t hb ht = kept.bits b t hb ht ∙ ap (λ x. min 1 x) (whole_is_mine (λ u. marks b t u.hits) refl)

    pub seen_is_hit : SeenIsHit v
    seen_is_hit = subst (λ (z : Shape). All (λ x. (b t : ℕ) → b < z.bits → t < 64 * rows z → place z b t ≡ x.0 → bit_at x.1 (t % 64) ≡ 1 → Contains v.hits (b, t)) v.seen) (sym shape_is)
        (λ j d less b t hb ht e one.
        let old = (kept.each id v at).seen j d less (t % 64) in
        let old' = subst (λ (p : ℕ). bit_at (get_or v.seen j d).1 (t % 64) ≤ bit_at (get_or (coverage s.words) p 0) (t % 64)) (sym e) old in
        let whole = matrix_is b t hb ht in contains_of_marks b t v.hits (omega arith))

    pub settled : IsSettled v
    settled = record {
      claims = λ over n.
          let o = whole_is_mine (λ u. u.over) refl in let d = kept.over in let m : min (draws s.words) k.tests ≡ k.tests = omega arith in
          sym (whole_is_mine (λ u. times n u.claims) refl) ∙ kept.claims n ∙ ap (λ x. once_below n x) (m ∙ ap (λ (z : Shape). z.tests) (sym shape_is));
      seen = seen_is_hit;
    }

-- the hits of each view are in range
pub in_range : (k : Shape) (s : Shared) → IsKept k s → (id : ℕ) (v : View) → HasView s id v → AreInRange k v.hits
in_range k s kept id v at j d less =
    let h = (kept.each id v at).hits j d less in
    let t : ℕ = (get_or v.hits j d).1 in
    let some = times_of_contains t v.claims h.1 in
    let few = different k s kept id v at t in (h.0, below_of_once t k.tests (omega arith))

pub settles : (k : Shape) (slots id : ℕ) (me : Me (Unit {0}) View) → Allows (IsKept k) slots id me 0 (λ n. n) (settle_is (step slots 0 0 0 none) me)
settles k slots id me s kept _ at small =
    let K : List ℕ × List View → Type 0 = λ p. IsKept k record { words = p.0; homes = s.homes; views = p.1 } in (
      me.0,
      keeps,
      tt,
      subst K (λ i. (sym (set-get_or s.words 0 0) i, sym (set_again s.views id me.0 at) i)) kept,
      (refl, λ is_opener all. settled k s kept id me.0 at is_opener all),
    )

-- what is known of the words at the end
pub record IsEnd (k : Shape) (v : View) (words : List ℕ) : Type 0 where
  pub bits : (b t : ℕ) → b < k.bits → t < 64 * rows k → bit_of k (coverage words) b t ≡ min 1 (marks b t v.hits)
  pub in_range : AreInRange k v.hits
  pub seen : SeenIsHit v

pub closed : (k : Shape) (id : ℕ) (v : View) (ws : List ℕ) (xs : List (Unit {0})) → Final (Seen (IsKept k) id v) ws xs → v.role ≡ Opener → v.forks ≡ v.joined → IsEnd k v ws
closed k id v ws xs f is_opener all = subst (IsEnd k v) f.2 record {
  bits = matrix_is k f.0 f.1.0 id v f.1.1 is_opener all;
  in_range = in_range k f.0 f.1.0 id v f.1.1;
  seen = seen_is_hit k f.0 f.1.0 id v f.1.1 is_opener all;
}
