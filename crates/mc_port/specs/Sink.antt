-- What a put does to the bytes that a sink tells of.
use Rattle.std.specs.Prelude.{ℕ, List, take, Option, Result, MatchResult}
use Rattle.std.specs.Io.KnownBytes.{Appends}
use Rattle.mc_port.specs.Causes.{Rose}
use Rattle.mc_port.specs.declared.sink.PutFault.{PutFault}

-- some first part of the bytes was appended
abbrev pub AppendsPart : Option (List ℕ) → Option (List ℕ) → List ℕ → Type 0
AppendsPart old new bytes = (n : ℕ) × Appends old new (take n bytes)

-- the whole piece at Ok; a first part of it after a fault, at which the count rose
abbrev pub Puts : Option (List ℕ) → Option (List ℕ) → ℕ → ℕ → List ℕ → Result Unit PutFault → Type 0
Puts old new before now piece result = MatchResult result
    (λ _. Appends old new piece)
    (λ _. Rose before now × AppendsPart old new piece)
