-- What workers record, put together.
use Rattle.std.proofs.Common.{◌≡◌, ◌∙◌, ℕ, ◌+◌, ◌<◌, List, [], ◌∷◌, ◌++◌, refl, sym, ap, subst, arith, inl, inr}
use Rattle.std.specs.Prelude.{◌↔◌, ◌⊎◌, Contains}
use Rattle.std.proofs.lemmas.List.{append-nil}
use Rattle.std.proofs.lemmas.List.Elements.{Contains-append_left, Contains-append_right, Contains-append_cases, Contains-push}
use Rattle.mc_core.specs.Counts.{times, once_below}
use Rattle.mc_cover.specs.declared.view.View.{View}
use Rattle.mc_cover.specs.Model.{CoverView, PassView, IsOf}
use Rattle.mc_cover.specs.declared.view.Role.TheVariants.{Opener}
use Rattle.mc_cover.specs.Tells.{IsSettled}
use Rattle.mc_cover.specs.Views.{after_join}
use Rattle.mc_cover.proofs.Counts.{contains_of_times, times_of_contains, once_in, below_of_once}
use Rattle.cover_recorder.specs.Crew.{AreHits, IsAtWork, HasWorked, IsGathered, HasAll}
use Rattle.cover_recorder.specs.Recorder.{RecorderView, claimed, Leads}
use Rattle.cover_recorder.proofs.Stamps.{only}

-- nothing was claimed, and nothing was hit
pub none_hit : (does : ℕ → ℕ → Type 0) (v : View) → v.claims ≡ [] → v.hits ≡ [] → AreHits does v
none_hit does v claims hits b t = (
  λ h. absurd (let lt = (subst (λ (l : List (ℕ × ℕ)). Contains l (b, t)) hits h).1 in omega arith),
  λ h. absurd (let lt = (subst (λ (l : List ℕ). Contains l t) claims h.0).1 in omega arith),
)

-- the hits of one more item
claimed_more : (does : ℕ → ℕ → Type 0) (r later : RecorderView) (test : ℕ) (bits : List ℕ) → AreHits does r.view → ((b : ℕ) → Contains bits b ↔ does test b)
    → Leads bits (claimed r test) later → AreHits does later.view
claimed_more does r later test bits are done led b t =
    let claims : later.view.claims ≡ r.view.claims ++ test ∷ [] = ap (λ (v : View). v.claims) led.kept in (
      λ h. elim ((led.pairs b t).0 h) [
        | inl old ↦ (
            let both = (are b t).0 old in
            (subst (λ (l : List ℕ). Contains l t) (sym claims) (Contains-append_left r.view.claims (test ∷ []) t both.0), both.1)
            )
        | inr new ↦ (
          subst (λ (l : List ℕ). Contains l t) (sym claims) (subst (λ (k : ℕ). Contains (r.view.claims ++ test ∷ []) k) (sym new.1) (Contains-push r.view.claims test)),
          subst (λ (k : ℕ). does k b) (sym new.1) ((done b).0 new.0),
        )
      ],
      λ h. elim (Contains-append_cases r.view.claims (test ∷ []) t (subst (λ (l : List ℕ). Contains l t) claims h.0)) [
        | inl old ↦ (led.pairs b t).1 (inl ((are b t).1 (old, h.1)))
        | inr new ↦ (
            let e : test ≡ t = only test t new in
            (led.pairs b t).1 (inr ((done b).1 (subst (λ (k : ℕ). does k b) (sym e) h.1), sym e))
            )
      ],
    )

-- a worker that claims an item, and records the bits that the item does, is at work as before
pub claims_are_worked : (does : ℕ → ℕ → Type 0) (r later : RecorderView) (test : ℕ) (bits : List ℕ) → IsAtWork does r.view → ((b : ℕ) → Contains bits b ↔ does test b)
    → Leads bits (claimed r test) later → IsAtWork does later.view
claims_are_worked does r later test bits at done led = record {
  worker = ap (λ (v : View). v.role) led.kept ∙ at.worker;
  running = ap (λ (v : View). v.over) led.kept ∙ at.running;
  seen = ap (λ (v : View). v.seen) led.kept ∙ at.seen;
  hits = claimed_more does r later test bits at.hits done led;
}

-- the hits of two passes
both_hit : (does : ℕ → ℕ → Type 0) (v w : View) → AreHits does v → AreHits does w → AreHits does (after_join v w)
both_hit does v w first second b t = (
  λ h. elim (Contains-append_cases v.hits w.hits (b, t) h) [
    | inl left ↦ (let both = (first b t).0 left in (Contains-append_left v.claims w.claims t both.0, both.1))
    | inr right ↦ (let both = (second b t).0 right in (Contains-append_right v.claims w.claims t both.0, both.1))
  ],
  λ h. elim (Contains-append_cases v.claims w.claims t h.0) [
    | inl left ↦ Contains-append_left v.hits w.hits (b, t) ((first b t).1 (left, h.1))
    | inr right ↦ Contains-append_right v.hits w.hits (b, t) ((second b t).1 (right, h.1))
  ],
)

-- the opener's pass stays the sum of those that are joined
pub gathered_more : (does : ℕ → ℕ → Type 0) (c : CoverView) (seen : List (ℕ × ℕ)) (forks joined : ℕ) (p worker new : PassView) → IsGathered does c seen forks joined p → HasWorked does c worker
    → new.cover ≡ p.cover → new.view ≡ after_join p.view worker.view → IsGathered does c seen forks (joined + 1) new
gathered_more does c seen forks joined p worker new is worked own e = record {
  own = (own ∙ is.own.0, ap (λ (v : View). v.shape) e ∙ is.own.1);
  opener = ap (λ (v : View). v.role) e ∙ is.opener;
  forks = ap (λ (v : View). v.forks) e ∙ is.forks;
  joined = ap (λ (v : View). v.joined) e ∙ ap (λ (n : ℕ). n + 1) is.joined;
  over = ap (λ (v : View). v.over) e ∙ (λ i. is.over i + worked.over i);
  loads = ap (λ (v : View). v.seen) e ∙ (λ i. is.loads i ++ worked.seen i) ∙ append-nil seen;
  hits = subst (AreHits does) (sym e) (both_hit does p.view worker.view is.hits worked.hits);
}

-- Once all are joined, of which one at least has ended, the opener's pass has all.
pub all_settled : (does : ℕ → ℕ → Type 0) (c : CoverView) (p : PassView) → IsOf c p → p.view.role ≡ Opener → p.view.forks ≡ p.view.joined → 0 < p.view.over → AreHits does p.view → IsSettled p.view → HasAll does c p
all_settled does c p own opener joined some hits settled =
    let tests = ap (λ s. s.tests) own.1 in
    let once : (n : ℕ) → times n p.view.claims ≡ once_below n c.shape.tests =
    λ n. settled.claims some n ∙ ap (once_below n) tests in
    record {
      own = own;
      opener = opener;
      joined = joined;
      claims = once;
      hits = λ b t. (
        λ h. let both = (hits b t).0 h in
            let some = times_of_contains t p.view.claims both.0 in
            (below_of_once t c.shape.tests (subst (λ (n : ℕ). 0 < n) (once t) some), both.1),
        λ h. let one = once_in t c.shape.tests h.0 in
            let e = once t in
            (hits b t).1 (contains_of_times t p.view.claims (omega arith), h.1),
      );
    }

pub all_claimed : (does : ℕ → ℕ → Type 0) (c : CoverView) (seen : List (ℕ × ℕ)) (forks : ℕ) (p : PassView) → IsGathered does c seen forks forks p → 0 < forks → IsSettled p.view → HasAll does c p
all_claimed does c seen forks p is some settled =
    all_settled does c p is.own is.opener (is.forks ∙ sym is.joined) (subst (λ (k : ℕ). 0 < k) (sym is.over) some) is.hits settled
