-- What an instrumented program stands for.
use Rattle.std.specs.Prelude.{ℕ}
use Rattle.mc_typed.specs.Views.{Parts}
use Rattle.mc_probe.specs.Tree.{Tree}
use Rattle.mc_probe.specs.Views.{program_of}

-- the parts of the program with its probes, and how many bits there are
pub record Instrumented : Type 0 where
  pub program : Parts
  pub bits : ℕ

abbrev pub tree_of : Instrumented → Tree
tree_of i = record { program = program_of i.program; bits = i.bits }
