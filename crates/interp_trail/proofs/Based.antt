-- Bits within those of a map.
use Rattle.std.proofs.Common.{◌≤◌, ◌+◌, ℕ, List, [], ◌∷◌, arith}
use Rattle.mc_paths.specs.Paths.{count_of}
use Rattle.mc_probe.specs.Maps.{AreBased, Mapped}

-- the bits of decisions end where they begin, or later
based_within : (ds : List Mapped) (from to : ℕ) → AreBased ds from to → from ≤ to
based_within [] from to h = omega (arith, h)
based_within (d ∷ ds) from to h =
    let later = based_within ds (from + count_of d.decision.tree) to h.1 in
    omega (arith, later)

pub labels_within : (ds : List Mapped) (from to : ℕ) → AreBased ds from to → from ≤ to
labels_within ds from to h = based_within ds from to h
