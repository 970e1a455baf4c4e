use Rattle.std.proofs.Common.{◌≡◌, ◌++◌, take, map}
use Rattle.mc_probe.specs.Mapped.{mapped_of}
use Rattle.mc_oblige.specs.Obligations.{of_decisions}
use Rattle.mc_oblige.proofs.listing.add_decisions.Given as goal

abbrev pub invariant-loop-d : goal.invariant-loop-d
invariant-loop-d l = l.all.items ≡ l.initial.all.items ++ of_decisions 0 (take l.d (map mapped_of l.decisions))
