-- The text of one member of a JSON object.
use Rattle.std.specs.Prelude.{ℕ, Bool, List, [], ◌∷◌, ◌++◌}
use Rattle.serde_json.specs.Data.{Data, string}
use Rattle.serde_json.specs.Written.{comma_if, compact_text}

-- its key, after a comma where another member comes before it
abbrev pub key_text : Bool → List ℕ → List ℕ
key_text later key = comma_if later ++ (compact_text (string key) ++ 58 ∷ [])

abbrev pub member_text : Bool → List ℕ → Data → List ℕ
member_text later key value = key_text later key ++ compact_text value
