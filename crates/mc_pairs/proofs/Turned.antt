-- A pair whose condition has different values in its vectors is one with the condition true in the first, in one of its orders.
use Rattle.std.proofs.Common.{◌≡◌, ℕ, Bool, true, false, not, Some, List}
use Rattle.std.specs.Prelude.{slice_get}
use Rattle.mc_cond.specs.Tree.{Tree}
use Rattle.mc_cond.specs.Vectors.{Evaluation, IsVector}
use Rattle.mc_pairs.specs.Pairs.{ArePaired, NonePaired, turned}

-- condition k is evaluated in both, with different values
pub record AreOpposed (k : ℕ) (v w : Evaluation) : Type 0 where
  pub value : Bool
  pub first : slice_get v.answers k ≡ Some (Some value)
  pub second : slice_get w.answers k ≡ Some (Some (not value))

module _ (shows : Evaluation → Evaluation → Type 0) (t : Tree) (k : ℕ) where
  either_order : (p q : ℕ) → ((v w : Evaluation) → shows v w → shows w v)
      → ¬ ArePaired (turned k shows) t p q → ¬ ArePaired (turned k shows) t q p
      → (pair : ArePaired shows t p q) (x : Bool) → slice_get pair.v.answers k ≡ Some (Some x) → slice_get pair.w.answers k ≡ Some (Some (not x)) → ⊥
  either_order p q turns forth back pair true e f =
      forth (record { v = pair.v; w = pair.w; first_path = pair.first_path; second_path = pair.second_path; shown = (e, f, pair.shown) })
  either_order p q turns forth back pair false e f =
      back (record { v = pair.w; w = pair.v; first_path = pair.second_path; second_path = pair.first_path; shown = (f, e, turns pair.v pair.w pair.shown) })

  pub none_either : (seen : List ℕ) → ((v w : Evaluation) → IsVector t v → IsVector t w → shows v w → AreOpposed k v w)
      → ((v w : Evaluation) → shows v w → shows w v) → NonePaired (turned k shows) t seen → NonePaired shows t seen
  none_either seen opposed turns none p q p_seen q_seen pair =
      let values : AreOpposed k pair.v pair.w = opposed pair.v pair.w pair.first_path.vector pair.second_path.vector pair.shown in
      either_order p q turns (none p q p_seen q_seen) (none q p q_seen p_seen) pair values.value values.first values.second
