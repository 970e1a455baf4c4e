use Rattle.std.proofs.Common.{◌≡◌, ◌-◌, length, take}
use Rattle.name_table.proofs.table.Table.truncate.Given as goal

abbrev pub invariant-loop : goal.invariant-loop
invariant-loop g l = l.self ≡ take (length l.initial.self - l.counter) l.initial.self
