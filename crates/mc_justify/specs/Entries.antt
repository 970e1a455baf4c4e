-- The entries of a justification file: JSON objects (RFC 8259) of three texts.
use Rattle.std.specs.Prelude.{ℕ, ◌==◌, List, length, Option, Some, None, option_and_then, if◌then◌else◌, codes}
use Rattle.serde_json.specs.Data.{Data, object}
use Rattle.serde_json.specs.Events.{members_len}
use Rattle.serde_json.specs.Find.{as_str, get}

-- what is justified, how the source reads there, and why it need not be met
pub record Entry : Type 0 where
  pub id : List ℕ
  pub quote : List ℕ
  pub reason : List ℕ

-- how many keys an object has
abbrev pub key_count : Data → ℕ
key_count (object members) = members_len members
key_count _ = 0

-- the text that an object has at a key
abbrev pub member_text : List ℕ → Data → Option (List ℕ)
member_text key value = option_and_then as_str (get key value)

-- all three are texts, and the reason is not empty
abbrev pub entry_with :
    Option (List ℕ) → Option (List ℕ) → Option (List ℕ) → Option Entry
entry_with (Some id) (Some quote) (Some reason) =
    if length reason == 0 then None
    else Some (record { id = id; quote = quote; reason = reason })
entry_with _ _ _ = None

-- the entry that a value is, if it is one
abbrev pub entry_of : Data → Option Entry
entry_of value =
    if key_count value == 3
    then entry_with (member_text (codes "id") value) (member_text (codes "quote") value)
    (member_text (codes "reason") value)
    else None
