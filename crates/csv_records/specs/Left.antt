-- The records that a reader over bytes in memory has left.
use Rattle.std.specs.Prelude.{◌≡◌, ℕ, suc, Bool, true, false, List, [], length, Option, Some, None, unwrap_or}
use denote.Ref.{Bor}
use Rattle.csv.specs.Reading.{default_config, is_flexible, names_headers, reader_config, reader_headers, reader_state, reader_trim, records_from, source_of, took_first}
use Rattle.csv.specs.declared.reader.Reader.{Reader}
use Rattle.csv.specs.declared.reader.Headers.{Headers}
use Rattle.csv.specs.declared.reader.Trim.TheVariants as trim
use Rattle.csv_records.specs.Rows.{Fields}

-- the bytes that are left, where they are known
abbrev pub known_left : Reader (Bor (List ℕ)) → Option (List ℕ)
known_left reader = source_of (λ s. Some s.now) reader

abbrev pub bytes_left : Reader (Bor (List ℕ)) → List ℕ
bytes_left reader = unwrap_or (known_left reader) []

abbrev pub rows_left : Bool → Reader (Bor (List ℕ)) → List Fields
rows_left true reader = []
rows_left false reader =
    records_from default_config (suc (length (bytes_left reader))) (reader_state reader)
    (bytes_left reader)

abbrev pub has_headers : Option Headers → Bool
has_headers None = false
has_headers (Some headers) = true

-- a reader that has not ended reads on, in the default dialect, records of any width, and takes
-- none for a header
abbrev pub IsReading : Bool → Reader (Bor (List ℕ)) → Type 0
IsReading ended reader = ended ≡ false
    → (reader_trim reader ≡ trim.None) × (reader_config reader ≡ default_config)
    × (is_flexible reader ≡ true) × (names_headers reader ≡ false)
    × (took_first reader ≡ false → has_headers (reader_headers reader) ≡ false)
    × (known_left reader ≡ Some (bytes_left reader))
