-- Why the bytes of a justification file stand for no justifications.
use Rattle.std.specs.Prelude.{ℕ, List}

-- The entries are numbered from 1, and entry 0 is the file itself. A quote that differs comes with
-- what the source has, which is kept, and with what the entry gives.
pub data Fault : Type 0 where
  Json : Fault
  Limit : Fault
  Shape : ℕ → Fault
  Unknown : ℕ → Fault
  Quote : ℕ → List ℕ → List ℕ → Fault
  Repeated : ℕ → Fault
