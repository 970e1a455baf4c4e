-- What contracts see of a recorder, and which hits lead it from one state to another.
use Rattle.std.specs.Prelude.{◌≡◌, ◌+◌, ◌^◌, ◌<◌, ◌≤◌, ◌↔◌, ◌⊎◌, ℕ, List, slice_index, nat_lt, if◌then◌else◌, Contains}
use Rattle.mc_core.specs.Counts.{marks, times}
use Rattle.mc_cover.specs.declared.view.View.{View}
use Rattle.mc_cover.specs.Model.{CoverView, PassView, IsOf}
use Rattle.mc_cover.specs.Views as of

-- the cover, what the pass knows, and the item under which bits are recorded
pub record RecorderView : Type 0 where
  pub cover : CoverView
  pub view : View
  pub test : ℕ

-- a bit that is stamped with an item has been hit under it
abbrev pub AreStamps : List ℕ → List (ℕ × ℕ) → Type 0
AreStamps stamps hits =
    (b t : ℕ) → slice_index stamps b ≡ t + 1 → 0 < marks b t hits

-- what each recorder keeps
pub record IsKept (c : CoverView) (p : PassView) (stamps : List ℕ) (count test : ℕ) : Type 0 where
  pub own : IsOf c p
  pub stamped : AreStamps stamps p.view.hits
  pub whole : c.shape.bits ≤ count
  pub few : c.shape.tests < 2 ^ 32
  pub inside : 0 < times test p.view.claims → test < c.shape.tests

-- how many bits it can record: those of its cover, once it has claimed its item
abbrev pub bits_of : RecorderView → ℕ
bits_of r = if nat_lt 0 (times r.test r.view.claims) then r.cover.shape.bits else 0

-- a new worker's, forked from an opener's pass that knows v
abbrev pub fresh : CoverView → View → RecorderView
fresh c v = record { cover = c; view = of.worker v; test = 0 }

abbrev pub claimed : RecorderView → ℕ → RecorderView
claimed r test = record { cover = r.cover; view = of.with_claim r.view test; test = test }

abbrev pub ended : RecorderView → RecorderView
ended r = record r { view = of.ended r.view }

abbrev pub with_hit : RecorderView → ℕ → RecorderView
with_hit r bit = record r { view = of.after_hit r.view bit r.test }

-- its pass
abbrev pub pass_of : RecorderView → PassView
pass_of r = record { cover = r.cover.cover; view = r.view }

-- The bits that are hit are recorded under the item, beside what was recorded; nothing else changes.
pub record Leads (bits : List ℕ) (p q : RecorderView) : Type 0 where
  pub cover : q.cover ≡ p.cover
  pub test : q.test ≡ p.test
  pub kept : q.view ≡ record p.view { hits = q.view.hits }
  pub pairs : (b t : ℕ) →
      Contains q.view.hits (b, t)
      ↔ (Contains p.view.hits (b, t) ⊎ (Contains bits b × (t ≡ p.test)))
