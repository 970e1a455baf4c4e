-- The bytes that are left, after those that are in the number, give the hash.
use Rattle.std.proofs.Common.{◌≡◌, length, fold}
use Rattle.name_table.specs.Latest.{hash_of, with_byte}
use Rattle.name_table.proofs.latest.hash.Given as goal

abbrev pub invariant-loop-left : goal.invariant-loop-left
invariant-loop-left l = fold with_byte l.number l.left ≡ hash_of l.name

abbrev pub decreases-loop-left : goal.decreases-loop-left
decreases-loop-left l = length l.left
