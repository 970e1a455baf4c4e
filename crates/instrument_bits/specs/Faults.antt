-- Why a program is not instrumented.
use Rattle.std.specs.Prelude.{◌≡◌, ℕ, ◌+◌, ◌-◌, ◌<◌, ◌≤◌, ◌^◌, ◌⊎◌, min, List, [], ◌∷◌, length, All}
pub use Rattle.mc_limits.specs.Limits.{most_bits, most_paths}
use Rattle.mc_paths.specs.Paths.{count_of}
use Rattle.mc_typed.specs.Tree.{Program}
use Rattle.decide_rules.specs.Decisions.{Decision}
use Rattle.mc_probe.specs.Obligations.{entry_spans, exit_spans, statement_spans, label_spans}
use Rattle.instrument_bits.specs.declared.fault.InstrumentFault.{InstrumentFault}
use Rattle.instrument_bits.specs.declared.fault.InstrumentFault.TheVariants.{TooManyPaths, TooManyBits, OutOfMemory}

abbrev pub HasFewPaths : Decision → Type 0
HasFewPaths d = count_of d.tree ≤ most_paths

-- it has too many paths, and none before it has
abbrev pub IsFirstWithMany : List Decision → Decision → Type 0
IsFirstWithMany [] e = ⊥
IsFirstWithMany (d ∷ ds) e =
    ((most_paths < count_of d.tree) × (d ≡ e)) ⊎ (HasFewPaths d × IsFirstWithMany ds e)

-- the paths of these decisions
abbrev pub paths_of : List Decision → ℕ
paths_of [] = 0
paths_of (d ∷ ds) = count_of d.tree + paths_of ds

-- the entries, exits, counted statements and labels of a program
abbrev pub places_of : Program → ℕ
places_of p =
    length (entry_spans p) + length (exit_spans p)
    + length (statement_spans p) + length (label_spans p)

-- and the paths of its decisions have each a bit
abbrev pub bits_of : Program → List Decision → ℕ
bits_of p ds = places_of p + paths_of ds

-- when a fault comes
abbrev pub IsFault : Program → List Decision → InstrumentFault → Type 0
IsFault p ds (TooManyPaths at count) =
    (d : Decision) × IsFirstWithMany ds d × (at ≡ d.root.start) × (count ≡ count_of d.tree)
IsFault p ds (TooManyBits count) =
    All HasFewPaths ds × (most_bits < bits_of p ds) × (count ≡ min (bits_of p ds) (2 ^ 64 - 1))
IsFault p ds OutOfMemory = Unit {0}
