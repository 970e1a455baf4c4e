-- Names with what they mean.
use Rattle.std.specs.Prelude.{ℕ, suc, if◌then◌else◌, List, [], ◌∷◌, bytes_eq, Option, Some, None, option_map}

pub record Named (M : Type 0) : Type 0 where
  pub name : List ℕ
  pub meaning : M

abbrev pub later_or : {A : Type 0} → Option A → Option A → Option A
later_or None other = other
later_or (Some a) other = Some a

-- the meaning of the last entry of a name (C17 6.2.1p4)
abbrev pub last_of : {M : Type 0} → List ℕ → List (Named M) → Option M
last_of name [] = None
last_of name (e ∷ es) =
    later_or (last_of name es) (if bytes_eq e.name name then Some e.meaning else None)

-- where the last entry of a name stands
abbrev pub last_place_of : {M : Type 0} → List ℕ → List (Named M) → Option ℕ
last_place_of name [] = None
last_place_of name (e ∷ es) =
    later_or (option_map suc (last_place_of name es))
    (if bytes_eq e.name name then Some 0 else None)
