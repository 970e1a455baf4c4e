-- The command `watch`: how much running workers have recorded, at each look and at the end.
use Rattle.std.specs.Prelude.{◌≡◌, ◌≤◌, ℕ, ◌+◌, ◌*◌, List, [], ◌∷◌, ◌++◌, length, All, codes}
use Rattle.std.specs.Fmt.{decimal}
use Rattle.std.specs.List.{concat}
use Rattle.std.specs.List.Sorted.{IsNonDecreasing}
use Rattle.mc_typed.specs.Plans.{Plan}
use Rattle.mc_watch.specs.Watched.{AreSoMany}
use Rattle.station_replies.specs.Reply.{Reply, written}
use Rattle.station_replies.specs.Texts.{newline}
use Rattle.mc_station.specs.Source.{Accepted}
use Rattle.mc_station.specs.Tests.{states, status_where}
use Rattle.mc_station.specs.commands.Record.{marked}

-- how many of all pairs of a bit and a test a look found recorded
abbrev pub look_line : (look count all : ℕ) → List ℕ
look_line look count all =
    concat (codes "look " ∷ decimal look ∷ codes " recorded " ∷ decimal count ∷ codes " of "
    ∷ decimal all ∷ newline ∷ [])

-- those of several looks, numbered from this one on
abbrev pub look_lines : (look : ℕ) → (counts : List ℕ) → (all : ℕ) → List (List ℕ)
look_lines look [] all = []
look_lines look (count ∷ counts) all =
    look_line look count all ∷ look_lines (look + 1) counts all

-- how many are recorded at the end
abbrev pub end_line : (count all : ℕ) → List ℕ
end_line count all =
    concat (codes "end recorded " ∷ decimal count ∷ codes " of " ∷ decimal all ∷ newline ∷ [])

abbrev pub watch_lines : (counts : List ℕ) → (recorded all : ℕ) → List (List ℕ)
watch_lines counts recorded all = look_lines 1 counts all ++ end_line recorded all ∷ []

-- this number of looks; none counts less than the one before, or more than there is at the end
pub record AreCounted (looks : ℕ) (counts : List ℕ) (recorded : ℕ) : Type 0 where
  pub as_many : length counts ≡ looks
  pub rising : IsNonDecreasing counts
  pub within : All (λ count. count ≤ recorded) counts

-- at the end the bits of the events that stand are recorded, each under its test; none is skipped
abbrev pub Watches : (looks : ℕ) → Accepted → List Plan → Reply → Type 0
Watches looks accepted plans reply =
    (counts : List ℕ) × (recorded : ℕ)
    × AreCounted looks counts recorded
    × AreSoMany (marked [] accepted plans) recorded
    × (reply ≡ written (status_where (states accepted.program plans))
    (watch_lines counts recorded (accepted.map.bits * length plans)))

-- two replies on as many looks, which may have found different counts, and the same at the end
pub record AreOnLooks (r s : Reply) : Type 0 where
  pub number : ℕ
  pub counts : List ℕ
  pub others : List ℕ
  pub recorded : ℕ
  pub all : ℕ
  pub as_many : length counts ≡ length others
  pub first : r ≡ written number (watch_lines counts recorded all)
  pub second : s ≡ written number (watch_lines others recorded all)
