-- Mutants as trees without probes.
use Rattle.std.specs.Prelude.{◌≡◌, ℕ, ◌+◌, false}
use Rattle.mc_span.specs.declared.span.Span.{Span}
use Rattle.mc_value.specs.declared.int_type.IntType.{IntType}
use Rattle.mc_value.specs.declared.int_type.IntType.TheVariants.{Int}
use Rattle.mc_typed.specs.Tree.{Program}
use Rattle.mc_probe.specs.Bare.{bare_tree}
use Rattle.mc_probe.specs.Tree.{Expression, Convert}
use Rattle.mc_probe.specs.Trees.{Instrumented, tree_of}
use Rattle.mc_mutate.specs.Mutants.{IsMutant}

-- a number of type int, converted where the type is another
abbrev pub bare_converted : IntType → Expression → Span → Expression
bare_converted Int e span = e
bare_converted a e span = Convert a false e span

-- a program that runs is the mutant with the number index + 1, without probes
pub record HasMutant (p : Program) (index : ℕ) (i : Instrumented) : Type 0 where
  pub mutant : Program
  pub is_mutant : IsMutant p (index + 1) mutant
  pub bare : tree_of i ≡ bare_tree mutant
