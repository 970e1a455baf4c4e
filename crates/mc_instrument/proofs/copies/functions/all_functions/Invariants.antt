-- The functions that are left are copied after those before.
use Rattle.std.proofs.Common.{◌≤◌, length}
use Rattle.mc_probe.specs.BitMaps.{map_of}
use Rattle.mc_instrument.proofs.Functions.{FunctionsLeft}
use Rattle.mc_instrument.proofs.copies.functions.all_functions.Given as goal

abbrev pub invariant-loop-number : goal.invariant-loop-number
invariant-loop-number l = record {
  left : FunctionsLeft (map_of l.bit_map) l.trees l.copies.items l.number l.first l.at;
  first : l.first ≤ length (map_of l.bit_map).decisions;
}
