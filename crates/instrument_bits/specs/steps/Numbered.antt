-- Decisions with the numbers of their paths.
use Rattle.std.specs.Prelude.{◌≡◌, ℕ, ◌+◌, ◌<◌, List, [], ◌∷◌, length}
use Rattle.mc_cond.specs.Tree.{tree_of, size, IsNumbered}
use Rattle.mc_paths.specs.Paths.{count_of}
use Rattle.decide_rules.specs.declared.decision.Decision as code
use Rattle.decide_rules.specs.Decisions.{Decision}
use Rattle.mc_probe.specs.Maps.{Mapped}
use Rattle.instrument_bits.specs.declared.fault.InstrumentFault.{InstrumentFault}
use Rattle.instrument_bits.specs.declared.fault.InstrumentFault.TheVariants.{TooManyPaths, TooManyBits, OutOfMemory}
use Rattle.instrument_bits.specs.Faults.{most_paths, IsFirstWithMany}

-- its conditions are numbered, and each has its place
pub record IsReady (d : code.Decision) : Type 0 where
  pub numbered : IsNumbered (tree_of d.tree)
  pub placed : length d.conditions.items ≡ size (tree_of d.tree)

-- one decision after the other, from this bit on
abbrev pub based : ℕ → List Decision → List Mapped
based bit [] = []
based bit (d ∷ ds) = record { decision = d; base = bit } ∷ based (bit + count_of d.tree) ds

-- the fault of one decision, and of the first with too many paths
abbrev pub IsOne : Decision → InstrumentFault → Type 0
IsOne d (TooManyPaths at count) =
    (most_paths < count_of d.tree) × (at ≡ d.root.start) × (count ≡ count_of d.tree)
IsOne d (TooManyBits count) = ⊥
IsOne d OutOfMemory = Unit {0}

abbrev pub IsRefused : List Decision → InstrumentFault → Type 0
IsRefused ds (TooManyPaths at count) =
    (d : Decision) × IsFirstWithMany ds d × (at ≡ d.root.start) × (count ≡ count_of d.tree)
IsRefused ds (TooManyBits count) = ⊥
IsRefused ds OutOfMemory = Unit {0}
