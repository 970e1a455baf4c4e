-- The states of a worker's recorder between two items.
use Rattle.std.proofs.Common.{◌≡◌, ◌∙◌, ℕ, ◌+◌, ◌<◌, ◌≤◌, List, [], ◌∷◌, ◌++◌, length, None, Option, Some, refl, sym, ap, subst, arith}
use Rattle.std.specs.Prelude.{option_to_list}
use Rattle.std.proofs.lemmas.List.{length-append}
use Rattle.mc_core.specs.declared.shape.Shape.{Shape}
use Rattle.mc_cover.specs.declared.view.View.{View}
use Rattle.mc_cover.specs.Model.{CoverView}
use Rattle.mc_cover.specs.Views.{opener}
use Rattle.cover_recorder.specs.Crew.{HasWorked, IsAtWork}
use Rattle.cover_recorder.specs.Recorder.{RecorderView, bits_of, claimed, ended, fresh, pass_of}
use Rattle.cover_recorder.proofs.Crew.{none_hit}
use Rattle.mc_mutate.specs.Runs.{HasCome, HasDrawn, IsFresh}

-- one that is new is at work
pub fresh_works : (does : ℕ → ℕ → Type 0) (r : RecorderView) → IsFresh r → IsAtWork does r.view
fresh_works does r is =
    let view : r.view ≡ (fresh r.cover (opener r.cover.shape)).view = ap (λ (x : RecorderView). x.view) is in
    record {
      worker = ap (λ (v : View). v.role) view;
      running = ap (λ (v : View). v.over) view;
      seen = ap (λ (v : View). v.seen) view;
      hits = none_hit does r.view (ap (λ (v : View). v.claims) view) (ap (λ (v : View). v.hits) view);
    }

pub fresh_shape : (r : RecorderView) → IsFresh r → r.view.shape ≡ r.cover.shape
fresh_shape r is = ap (λ (x : RecorderView). x.view.shape) is

-- an item was claimed
pub one_drawn : (does : ℕ → ℕ → Type 0) (before r : RecorderView) (item : ℕ) → IsAtWork does before.view → before.view.shape ≡ before.cover.shape → item < before.cover.shape.tests
    → r ≡ claimed before item → bits_of r ≡ before.cover.shape.bits → length r.view.claims ≤ before.cover.shape.tests → HasDrawn does item r
one_drawn does before r item at shape inside drawn bits few =
    let cover : r.cover ≡ before.cover = ap (λ (x : RecorderView). x.cover) drawn in
    let tests : r.cover.shape.tests ≡ before.cover.shape.tests = ap (λ (c : CoverView). c.shape.tests) cover in
    record {
      before = before;
      at_work = at;
      drawn = drawn;
      shape = ap (λ (x : RecorderView). x.view.shape) drawn ∙ shape ∙ ap (λ (c : CoverView). c.shape) (sym cover);
      inside = omega arith;
      bits = bits ∙ ap (λ (c : CoverView). c.shape.bits) (sym cover);
      few = omega arith;
    }

-- none is left
pub none_drawn : (does : ℕ → ℕ → Type 0) (before r : RecorderView) → IsAtWork does before.view → before.view.shape ≡ before.cover.shape → r ≡ ended before → HasWorked does r.cover (pass_of r)
none_drawn does before r at shape e = subst (λ (x : RecorderView). HasWorked does x.cover (pass_of x)) (sym e) (record {
  own = (refl, shape);
  worker = at.worker;
  over = refl;
  seen = at.seen;
  hits = at.hits;
})

pub has_drawn : (does : ℕ → ℕ → Type 0) (o : Option ℕ) (item : ℕ) (r : RecorderView) → HasCome does o r → o ≡ Some item → HasDrawn does item r
has_drawn does o item r come e = subst (λ (x : Option ℕ). HasCome does x r) e come

pub has_worked : (does : ℕ → ℕ → Type 0) (o : Option ℕ) (r : RecorderView) → HasCome does o r → o ≡ None → HasWorked does r.cover (pass_of r)
has_worked does o r come e = subst (λ (x : Option ℕ). HasCome does x r) e come

-- an item that was run leaves claims and shape
pub kept_shape : (r later : RecorderView) → later.view ≡ record r.view { hits = later.view.hits } → later.view.shape ≡ r.view.shape
kept_shape r later e = ap (λ (v : View). v.shape) e

pub kept_claims : (r later : RecorderView) → later.view ≡ record r.view { hits = later.view.hits } → later.view.claims ≡ r.view.claims
kept_claims r later e = ap (λ (v : View). v.claims) e

-- one more is claimed
pub one_more : (before r : RecorderView) (item : ℕ) → r ≡ claimed before item → length r.view.claims ≡ length before.view.claims + 1
one_more before r item e = ap (λ (x : RecorderView). length x.view.claims) e ∙ length-append before.view.claims (item ∷ [])
