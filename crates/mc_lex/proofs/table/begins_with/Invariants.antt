use Rattle.std.proofs.Common.{◌≡◌, length, nat_eq}
use Rattle.std.specs.List.{starts_with}
use Rattle.mc_lex.proofs.table.begins_with.Given as goal

abbrev pub invariant-loop-wanted : goal.invariant-loop-wanted
invariant-loop-wanted l =
    starts_with nat_eq l.bytes l.text ≡ starts_with nat_eq l.left l.wanted

abbrev pub decreases-loop-wanted : goal.decreases-loop-wanted
decreases-loop-wanted l = length l.wanted
