-- The store at the start of a test.
use Rattle.std.specs.Prelude.{◌≡◌, ℕ, suc, List, ◌∷◌, None}
use Rattle.mc_typed.specs.Tree.{Program}
use Rattle.mc_meaning.specs.Stores.{initial}

-- an object of an activation is unset (C17 6.2.4p6)
abbrev pub ActivationsAreUnset : Type 0
ActivationsAreUnset =
    (p : Program) (activation object : ℕ) (path : List ℕ)
    → initial p (suc activation ∷ object ∷ path) ≡ None
