-- Lines that are put one after the other.
use Rattle.std.specs.Prelude.{ℕ, List, map, Vec}
use Rattle.std.specs.declared.alloc.Global.{Global}

-- the bytes of each line
abbrev pub bytes_of : List (Vec ℕ Global) → List (List ℕ)
bytes_of lines = map (λ line. line.items) lines
