-- The records of a text of comma-separated fields.
use Rattle.std.specs.Prelude.{◌≡◌, ℕ, List, [], ◌∷◌, get_or, Option, Some, None, Result, Ok, Err}
use Rattle.std.specs.declared.alloc.AllocError.{AllocError}
use Rattle.csv.specs.Reading.{default_config, records, strip_bom}

-- the fields of a record
abbrev pub Fields : Type 0
Fields = List (List ℕ)

-- every record that the crate csv reads in its default dialect, of any width, with no record
-- taken for a header
abbrev pub rows_of : List ℕ → List Fields
rows_of text = records default_config (strip_bom text)

-- the field at a place, or no bytes
abbrev pub field_or_empty : Fields → ℕ → List ℕ
field_or_empty fields at = get_or fields at []

-- a call gives the first of the records that are left, or says that there is none; after that, and
-- after a fault, none is left
abbrev pub Gives : List Fields → Result (Option Fields) AllocError → List Fields → Type 0
Gives before (Ok (Some row)) after = before ≡ row ∷ after
Gives before (Ok None) after = (before ≡ []) × (after ≡ [])
Gives before (Err fault) after = after ≡ []
