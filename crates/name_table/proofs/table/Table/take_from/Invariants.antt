-- What is left, and then what is taken, turned round.
use Rattle.std.proofs.Common.{◌≡◌, ◌++◌, ◌-◌, map, reverse, length}
use Rattle.name_table.specs.Taken.{taken_of}
use Rattle.name_table.proofs.table.Table.take_from.Given as goal

abbrev pub invariant-loop : goal.invariant-loop
invariant-loop g l = record {
  taken : l.self ++ reverse (map taken_of l.later.items) ≡ l.initial.self;
  left : length l.self ≡ length l.initial.self - l.counter;
}
