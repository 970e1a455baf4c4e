-- So many of the values stand at the end.
use Rattle.std.proofs.Common.{◌≡◌, ◌+◌, ◌≤◌, ◌++◌, length, replicate, vec_capacity}
use Rattle.mc_stack.proofs.stack.Stack.enter.Given as goal

abbrev pub invariant-loop-i : goal.invariant-loop-i
invariant-loop-i g l =
    (l.self-inside.items.items ≡ l.initial.self-inside.items.items ++ replicate l._i l.value)
    × (l.self-inside.limit ≡ l.initial.self-inside.limit)
    × (length l.initial.self-inside.items.items + l.count ≤ l.self-inside.limit)
    × (l.self-inside.limit ≤ vec_capacity l.self-inside.items)
