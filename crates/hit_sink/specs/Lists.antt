-- Hits that are kept in a list.
use Rattle.std.specs.Prelude.{◌≡◌, ℕ, ◌-◌, nat_lt, if◌then◌else◌, List, [], ◌∷◌, ◌++◌, length, take}

-- the hits that are kept, in order, and how many can be
pub record Kept : Type 0 where
  pub hits : List ℕ
  pub room : ℕ

-- a hit is kept after the others where there is room
abbrev pub with_hit : ℕ → Kept → Kept
with_hit bit kept =
    if nat_lt (length kept.hits) kept.room
    then record { hits = kept.hits ++ bit ∷ []; room = kept.room }
    else kept

-- more hits, one after the other
abbrev pub kept_after : List ℕ → Kept → Kept
kept_after [] kept = kept
kept_after (bit ∷ hits) kept = kept_after hits (with_hit bit kept)

-- a list of hits leads from what is kept to what is kept after it
abbrev pub Leads : List ℕ → Kept → Kept → Type 0
Leads hits before later = later ≡ kept_after hits before

-- Of more hits the first that fit are kept after the others.
abbrev pub TheFirstAreKept : Type 0
TheFirstAreKept =
    (hits : List ℕ) (kept : Kept) →
    kept_after hits kept
    ≡ record {
      hits = kept.hits ++ take (kept.room - length kept.hits) hits;
      room = kept.room;
    }
