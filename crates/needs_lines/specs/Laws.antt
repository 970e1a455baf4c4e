-- What follows from the definitions of the lines.
use Rattle.std.specs.Prelude.{◌≡◌, ℕ, Bool, true, not, ◌==◌, if◌then◌else◌, Option, List, [], ◌∷◌, ◌++◌, filter}
use Rattle.mc_oblige.specs.declared.obligation.Obligation.{Obligation}
use Rattle.needed_paths.specs.declared.need.Need.{Need}
use Rattle.needs_lines.specs.Report.{NeedsReport}
use Rattle.needs_lines.specs.Needed.{head_line}
use Rattle.needs_lines.specs.Text.{asked_lines}

-- a line that begins with a blank tells more of the line above it
abbrev pub is_head : List ℕ → Bool
is_head [] = true
is_head (b ∷ bytes) = not (b == 32)

-- the head line of each obligation that is asked about, in their order
abbrev pub head_lines : NeedsReport → List Obligation → List Bool → List (Option Need)
    → List (List ℕ)
head_lines r (o ∷ os) (is ∷ asked) (need ∷ needs) =
    (if is then head_line r o need ∷ [] else []) ++ head_lines r os asked needs
head_lines r _ _ _ = []

-- each obligation that is asked about has one line that begins with no blank, in their order, and
-- there is no other such line among theirs
abbrev pub EachHasOneHead : Type 0
EachHasOneHead =
    (r : NeedsReport) (os : List Obligation) (asked : List Bool) (needs : List (Option Need)) →
    filter is_head (asked_lines r os asked needs) ≡ head_lines r os asked needs
