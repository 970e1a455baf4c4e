-- Where the last entry of each name stands.
use Rattle.std.specs.Prelude.{ℕ, Bool, false, List, Option, Some, None, ◌+◌, ◌*◌, ◌%◌, ◌^◌, fold, bytes_eq, if◌then◌else◌}
use Rattle.std.specs.BTreeMap.{get, get_by}
use Rattle.std.specs.Cmp.Lexicographic.{slice_cmp}
use Rattle.std.specs.Ordering.{nat_cmp}
use Rattle.name_table.specs.declared.latest.Latest.{Latest}
use Rattle.name_table.specs.declared.latest.First.{First}

-- a number of 64 bits that goes on by a byte
abbrev pub with_byte : ℕ → ℕ → ℕ
with_byte number byte = (number * 257 % 2 ^ 64 + byte) % 2 ^ 64

-- a number that a name gives
abbrev pub hash_of : List ℕ → ℕ
hash_of name = fold with_byte 0 name

-- whether this is the first name with its hash
abbrev pub is_named : Option First → List ℕ → Bool
is_named None name = false
is_named (Some first) name = bytes_eq first.name.now name

-- the place of a name by the first one with its hash, and by the others
abbrev pub place_by : Option First → Option ℕ → List ℕ → Option ℕ
place_by None other name = other
place_by (Some first) other name = if bytes_eq first.name.now name then Some first.place else other

-- the first name with a hash
abbrev pub first_of : Latest → ℕ → Option First
first_of latest hash = get nat_cmp latest.firsts hash

-- the place of a name that is not the first with its hash
abbrev pub other_of : Latest → List ℕ → Option ℕ
other_of latest name = get_by (λ k. slice_cmp nat_cmp name k.now) latest.others

-- the place that is kept for a name
abbrev pub place_of : Latest → List ℕ → Option ℕ
place_of latest name = place_by (first_of latest (hash_of name)) (other_of latest name) name
