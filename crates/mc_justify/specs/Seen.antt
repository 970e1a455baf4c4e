-- What clauses see of entries, positions and justifications while a file is read.
use Rattle.std.specs.Prelude.{◌≡◌, ℕ, ◌<◌, Bool, List, length, slice_index_or, option_map, String}
use Rattle.std.specs.BTreeMap.{BTreeMap, get_by_text}
use Rattle.std.specs.declared.alloc.Global.{Global}
use Rattle.mc_oblige.specs.declared.justification.Justification.{Justification}
use Rattle.mc_oblige.specs.declared.obligation.Obligation.{Obligation}
use Rattle.mc_justify.specs.Entries as e
use Rattle.mc_justify.specs.Justifications.{is_named, obligation_named}
use Rattle.mc_justify.specs.Returned.{AreFit}
use Rattle.mc_justify.specs.declared.draft.Draft.{Draft}
use Rattle.mc_justify.specs.declared.entry.Entry.{Entry}

abbrev pub seen_entry : Entry → e.Entry
seen_entry entry =
    record { id = entry.id.now; quote = entry.quote.now; reason = entry.reason.now }

-- the positions are those of the obligations, by their ids
abbrev pub ArePositions : BTreeMap (String Global) ℕ → List Obligation → Type 0
ArePositions positions obligations = (q : List ℕ)
    → get_by_text positions q ≡ option_map (λ found. found.0) (obligation_named q 0 obligations)

abbrev pub added : ℕ → List ℕ → Justification
added position reason = record { obligation = position; reason = reason }

-- the justifications of the entries so far, and which obligations they name
pub record IsDraft (d : Draft) : Type 0 where
  pub marks : (k : ℕ) (b : Bool) → k < length d.named.items
      → slice_index_or d.named.items k b ≡ is_named k d.justifications.items
  pub fit : AreFit (length d.named.items) d.justifications.items
