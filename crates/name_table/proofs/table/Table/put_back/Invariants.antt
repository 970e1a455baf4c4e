-- What is put back, and then what is left, turned round.
use Rattle.std.proofs.Common.{◌≡◌, ◌++◌, ◌-◌, map, reverse, length}
use Rattle.name_table.specs.Taken.{taken_of}
use Rattle.name_table.proofs.table.Table.put_back.Given as goal

abbrev pub invariant-loop : goal.invariant-loop
invariant-loop g l = record {
  put : l.self ++ reverse (map taken_of l.later.items) ≡ l.initial.self ++ reverse (map taken_of l.initial.later.items);
  left : length l.later.items ≡ length l.initial.later.items - l.counter;
}
