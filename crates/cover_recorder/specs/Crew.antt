-- What workers have recorded, of items that each hit some bits: `does t b` says that item t hits
-- bit b.
use Rattle.std.specs.Prelude.{◌≡◌, ◌<◌, ◌↔◌, ℕ, List, [], Contains}
use Rattle.mc_core.specs.Counts.{times, once_below}
use Rattle.mc_cover.specs.declared.view.View.{View}
use Rattle.mc_cover.specs.declared.view.Role.TheVariants.{Opener, Worker}
use Rattle.mc_cover.specs.Model.{CoverView, PassView, IsOf}

-- the hits are those of the claimed items
abbrev pub AreHits : (ℕ → ℕ → Type 0) → View → Type 0
AreHits does v = (b t : ℕ) → Contains v.hits (b, t) ↔ (Contains v.claims t × does t b)

-- a worker between two items
pub record IsAtWork (does : ℕ → ℕ → Type 0) (v : View) : Type 0 where
  pub worker : v.role ≡ Worker
  pub running : v.over ≡ 0
  pub seen : v.seen ≡ []
  pub hits : AreHits does v

-- the pass of a worker that found no item left
pub record HasWorked (does : ℕ → ℕ → Type 0) (c : CoverView) (p : PassView) : Type 0 where
  pub own : IsOf c p
  pub worker : p.view.role ≡ Worker
  pub over : p.view.over ≡ 1
  pub seen : p.view.seen ≡ []
  pub hits : AreHits does p.view

-- the opener's pass with so many forks in all, of which so many have ended and are joined; `seen`
-- is what it has loaded
pub record IsGathered (does : ℕ → ℕ → Type 0) (c : CoverView) (seen : List (ℕ × ℕ))
    (all done : ℕ) (p : PassView) : Type 0 where
  pub own : IsOf c p
  pub opener : p.view.role ≡ Opener
  pub forks : p.view.forks ≡ all
  pub joined : p.view.joined ≡ done
  pub over : p.view.over ≡ done
  pub loads : p.view.seen ≡ seen
  pub hits : AreHits does p.view

-- the opener's pass once all workers are joined: each item was claimed once, and the hits are
-- those of the items
pub record HasAll (does : ℕ → ℕ → Type 0) (c : CoverView) (p : PassView) : Type 0 where
  pub own : IsOf c p
  pub opener : p.view.role ≡ Opener
  pub joined : p.view.forks ≡ p.view.joined
  pub claims : (n : ℕ) → times n p.view.claims ≡ once_below n c.shape.tests
  pub hits : (b t : ℕ) → Contains p.view.hits (b, t) ↔ ((t < c.shape.tests) × does t b)
