-- A decision with too many conditions, behind another one.
use Rattle.std.specs.Prelude.{◌≡◌, ◌<◌, ℕ, [], ◌∷◌, length}
use Rattle.mc_limits.specs.Limits.{most_conditions}
use Rattle.decide_rules.specs.Decisions.{Decision, IsFirstLarge, IsSmall}

-- its place is where its own root starts
abbrev pub LargeIsAtItsRoot : Type 0
LargeIsAtItsRoot =
    (first second : Decision) (at count : ℕ) → IsSmall first
    → most_conditions < length second.conditions → IsFirstLarge (first ∷ second ∷ []) at count
    → at ≡ second.root.start
