-- How many decisions and places a map has, and where the paths of a decision end.
use Rattle.std.proofs.Common.{◌≡◌, ℕ, ◌+◌, ◌<◌, ◌≤◌, true, List, [], ◌∷◌, length, refl, subst, arith}
use Rattle.std.specs.Prelude.{zero, suc, slice_get, Some}
use Rattle.mc_limits.specs.Limits.{most_bits}
use Rattle.mc_cond.specs.Tree.{Tree}
use Rattle.mc_cond.specs.Vectors.{evaluated}
use Rattle.mc_paths.specs.Paths.{count_of}
use Rattle.mc_paths.proofs.Numbers.{vector_below}
use Rattle.mc_probe.specs.Maps.{Mapped, Map, IsMap, AreBased, IsPlaced, ArePlaced, first_path}

pub some_path : (t : Tree) → 0 < count_of t
some_path t = let h = vector_below t (evaluated t (λ _. true)) (λ _. true, refl) in omega arith

pub few_decisions : (ds : List Mapped) (from to : ℕ) → AreBased ds from to → from + length ds ≤ to
few_decisions [] from to e = omega (arith, e)
few_decisions (d ∷ ds) from to h =
    let more = few_decisions ds (from + count_of d.decision.tree) to h.1 in
    let one = some_path d.decision.tree in
    omega (arith, more, one)

pub starts_low : (ds : List Mapped) (from to : ℕ) → AreBased ds from to → from ≤ to
starts_low ds from to h = let f = few_decisions ds from to h in omega arith

pub based_end : (ds : List Mapped) (from to i : ℕ) (d : Mapped) → AreBased ds from to → slice_get ds i ≡ Some d → d.base + count_of d.decision.tree ≤ to
based_end [] from to i d h e = cc
based_end (x ∷ ds) from to zero d h e =
    let same : x ≡ d = cc in
    let P : Mapped → Type 0 = λ y. y.base + count_of y.decision.tree ≤ to in
    let low = starts_low ds (from + count_of x.decision.tree) to h.1 in
    let own : x.base + count_of x.decision.tree ≤ to = omega (arith, low, h.0) in
    subst P same own
based_end (x ∷ ds) from to (suc i) d h e = based_end ds (from + count_of x.decision.tree) to i d h.1 e

pub placed_at : (ds : List Mapped) (i : ℕ) (d : Mapped) → ArePlaced ds → slice_get ds i ≡ Some d → IsPlaced d.decision
placed_at [] i d h e = cc
placed_at (x ∷ ds) zero d h e =
    let same : x ≡ d = cc in
    let P : Mapped → Type 0 = λ y. IsPlaced y.decision in
    subst P same h.0
placed_at (x ∷ ds) (suc i) d h e = placed_at ds i d h.1 e

pub few_places : (m : Map) → IsMap m → first_path m + length m.decisions ≤ most_bits
few_places m kept = let f = few_decisions m.decisions (first_path m) m.bits kept.based in let few = kept.few in omega arith
