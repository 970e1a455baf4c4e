-- What a step tells the pass that makes it: of the step, the pass's view before, the number found
-- in the word, and the view after.
use Rattle.std.specs.Prelude.{◌≡◌, ◌≤◌, ℕ, ◌+◌, ◌*◌, ◌%◌, ◌^◌, ◌<◌, List, length, All, Contains}
use Rattle.std.specs.Int.{bit_at}
use Rattle.atomic_table.specs.Table.{Me, Step}
use Rattle.mc_core.specs.Shape.{rows, place}
use Rattle.mc_core.specs.Counts.{times, once_below}
use Rattle.mc_cover.specs.declared.view.View.{View}
use Rattle.mc_cover.specs.declared.view.Role.TheVariants.{Opener}
use Rattle.mc_cover.specs.Views.{after_claim, after_hit, after_look}

abbrev pub Told : Type 1
Told = Step (Unit {0}) → Me (Unit {0}) View → ℕ → Me (Unit {0}) View → Type 0

-- different numbers below m
abbrev pub AreDifferentBelow : ℕ → List ℕ → Type 0
AreDifferentBelow m xs = (n : ℕ) → times n xs ≤ once_below n m

-- each set bit of each value that was seen has its pair among the hits
abbrev pub SeenIsHit : View → Type 0
SeenIsHit v =
    All (λ x. (b t : ℕ) → b < v.shape.bits → t < 64 * rows v.shape → place v.shape b t ≡ x.0 →
    bit_at x.1 (t % 64) ≡ 1 → Contains v.hits (b, t)) v.seen

-- what is known of the opener's view once every fork is joined
pub record IsSettled (v : View) : Type 0 where
  -- where some worker has ended, the claims are the tests, each once
  pub claims : 0 < v.over → (n : ℕ) → times n v.claims ≡ once_below n v.shape.tests
  pub seen : SeenIsHit v

-- a hit: whatever bit and test the word and the mask stand for, the view has this pair more
abbrev pub hit_is : Told
hit_is st m found n =
    (n.1 ≡ m.1)
    × ((b t : ℕ) → b < m.0.shape.bits → t < 64 * rows m.0.shape →
    st.word ≡ place m.0.shape b t + 1 → st.first ≡ 2 ^ (t % 64) → n.0 ≡ after_hit m.0 b t)

-- a claim: the number found is the one that was drawn
abbrev pub claim_is : Told
claim_is st m found n =
    (n.1 ≡ m.1) × (n.0 ≡ after_claim m.0 found)
    × AreDifferentBelow m.0.shape.tests n.0.claims × (length n.0.claims ≤ m.0.shape.tests)

-- a look at word 0 after a join
abbrev pub settle_is : Told
settle_is st m found n = (n ≡ m) × (m.0.role ≡ Opener → m.0.forks ≡ m.0.joined → IsSettled m.0)

-- a look: whatever coverage word the word is, the view has the value found there, which has each
-- bit that the view saw or hit in that word
abbrev pub look_is : Told
look_is st m found n =
    (n.1 ≡ m.1)
    × ((index : ℕ) → st.word ≡ index + 1 → (n.0 ≡ after_look m.0 index found)
    × All (λ x. x.0 ≡ index → (i : ℕ) → bit_at x.1 i ≤ bit_at found i) m.0.seen
    × ((b t : ℕ) → Contains m.0.hits (b, t) → place m.0.shape b t ≡ index →
    bit_at found (t % 64) ≡ 1))
