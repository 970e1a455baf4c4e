-- The justifications that the bytes of a file stand for, or its first fault.
use Rattle.std.specs.Prelude.{ℕ, ◌+◌, ◌==◌, Bool, nat_lt, List, [], ◌∷◌, ◌++◌, Option, Some, None, Result, Ok, Err, if◌then◌else◌}
use Rattle.std.specs.List.{list_any}
use Rattle.std.specs.Str.{bytes_eq, is_utf8}
use Rattle.serde_json.specs.Data.{Data, array, Items, no_items, item}
use Rattle.serde_json.specs.Events.{items_len}
use Rattle.serde_json.specs.Read.{read}
use Rattle.mc_limits.specs.Limits.{most_justifications}
use Rattle.mc_oblige.specs.Ids.{id_text}
use Rattle.mc_oblige.specs.Texts.{text_at}
use Rattle.mc_oblige.specs.declared.justification.Justification.{Justification}
use Rattle.mc_oblige.specs.declared.obligation.Obligation.{Obligation}
use Rattle.mc_justify.specs.Entries.{Entry, entry_of}
use Rattle.mc_justify.specs.Faults.{Fault, Json, Limit, Shape, Unknown, Quote, Repeated}

-- the value that bytes are as JSON text, if any
abbrev pub json_of : List ℕ → Option Data
json_of bytes = if is_utf8 bytes then read bytes else None

-- the first obligation with an id, and its position; the positions begin at k
abbrev pub obligation_named : List ℕ → ℕ → List Obligation → Option (ℕ × Obligation)
obligation_named id k [] = None
obligation_named id k (o ∷ os) =
    if bytes_eq (id_text o.id) id then Some (k, o) else obligation_named id (k + 1) os

-- The position of the obligation that entry n justifies: one has the entry's id, and the source
-- reads there as the entry quotes it.
abbrev pub position_for : List ℕ → ℕ → Entry → Option (ℕ × Obligation) → Result ℕ Fault
position_for source n entry None = Err (Unknown n)
position_for source n entry (Some (k, o)) =
    if bytes_eq (text_at o.span source) entry.quote then Ok k
    else Err (Quote n (text_at o.span source) entry.quote)

-- a justification names the obligation at a position
abbrev pub is_named : ℕ → List Justification → Bool
is_named k named = list_any (λ j. j.obligation == k) named

-- entry n justifies an obligation that no earlier one names
abbrev pub unless_named : ℕ → List Justification → List ℕ → ℕ → Result Justification Fault
unless_named n before reason k =
    if is_named k before then Err (Repeated n)
    else Ok (record { obligation = k; reason = reason })

-- what comes after a step: its fault, or what comes of its value
abbrev pub after : {A B : Type 0} → Result A Fault → (A → Result B Fault) → Result B Fault
after (Err f) later = Err f
after (Ok a) later = later a

-- the justification that entry n is, after those of the entries before it
abbrev pub justified :
    List ℕ → List Obligation → ℕ → List Justification → Option Entry → Result Justification Fault
justified source obligations n before None = Err (Shape n)
justified source obligations n before (Some entry) =
    after (position_for source n entry (obligation_named entry.id 0 obligations))
    (unless_named n before entry.reason)

-- the justifications so far and those of these entries, which are numbered from n, or the fault of
-- the first of them that has one
abbrev pub entries_from :
    List ℕ → List Obligation → ℕ → List Justification → Items → Result (List Justification) Fault
entries_from source obligations n before no_items = Ok before
entries_from source obligations n before (item value later) =
    after (justified source obligations n before (entry_of value)) (λ j.
    entries_from source obligations (n + 1) (before ++ j ∷ []) later)

-- a list, which has not too many entries
abbrev pub of_value :
    List ℕ → List Obligation → Option Data → Result (List Justification) Fault
of_value source obligations None = Err Json
of_value source obligations (Some (array entries)) =
    if nat_lt most_justifications (items_len entries) then Err Limit
    else entries_from source obligations 1 [] entries
of_value source obligations (Some _) = Err (Shape 0)

-- the justifications that the bytes of a file stand for, or its first fault
abbrev pub justifications_of :
    List ℕ → List Obligation → List ℕ → Result (List Justification) Fault
justifications_of bytes obligations source = of_value source obligations (json_of bytes)
