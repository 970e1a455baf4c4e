-- What the fields of a table stand for.
use Rattle.std.specs.Prelude.{◌≡◌, ℕ, suc, if◌then◌else◌, List, [], ◌∷◌, ◌++◌, bytes_eq, Option, Some, None, option_map}
use Rattle.name_table.specs.Tables.{Named, later_or}
use Rattle.name_table.specs.Latest.{place_of}
use Rattle.name_table.specs.declared.latest.Latest.{Latest}
use Rattle.name_table.specs.declared.table.Entry.{Entry}

abbrev pub named_of : {M : Type 0} → Entry M → Named M
named_of e = record { name = e.name.now; meaning = e.meaning }

-- where the last entry of a name stands
abbrev pub last_place : {M : Type 0} → List ℕ → List (Entry M) → Option ℕ
last_place name [] = None
last_place name (e ∷ es) =
    later_or (option_map suc (last_place name es))
    (if bytes_eq e.name.now name then Some 0 else None)

-- each entry, after those before it, has the place of the last entry of its name among them
abbrev pub AreLinked : {M : Type 0} → List (Entry M) → List (Entry M) → Type 0
AreLinked before [] = Unit {0}
AreLinked before (e ∷ es) =
    (e.before ≡ last_place e.name.now before) × AreLinked (before ++ (e ∷ [])) es

-- the last place of each name is kept
pub record IsIndexed {M : Type 0} (entries : List (Entry M)) (latest : Latest) : Type 0 where
  pub last : (name : List ℕ) → place_of latest name ≡ last_place name entries
  pub linked : AreLinked [] entries
