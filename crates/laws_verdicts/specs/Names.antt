-- Names of obligations: each stands for one.
use Rattle.std.specs.Prelude.{◌≢◌, AllPairs}
use Rattle.mc_probe.specs.Maps.{Map, IsMap}
use Rattle.mc_oblige.specs.Ids.{id_text}
use Rattle.mc_oblige.specs.Obligations.{obligations_of}

-- no two obligations of a map have one name
abbrev pub NamesAreApart : Type 0
NamesAreApart =
    (m : Map) → IsMap m → AllPairs (λ a b. id_text a.id ≢ id_text b.id) (obligations_of m)
