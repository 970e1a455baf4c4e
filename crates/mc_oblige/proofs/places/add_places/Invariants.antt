use Rattle.std.proofs.Common.{◌≡◌, ◌++◌, take}
use Rattle.mc_oblige.specs.Obligations.{numbered}
use Rattle.mc_oblige.specs.steps.Places.{id_of}
use Rattle.mc_oblige.proofs.places.add_places.Given as goal

abbrev pub invariant-loop-k : goal.invariant-loop-k
invariant-loop-k l = l.all.items ≡ l.initial.all.items ++ numbered (id_of l.kind) 0 (take l.k l.spans)
