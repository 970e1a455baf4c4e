use Rattle.std.proofs.Common.{◌≡◌, length}
use Rattle.mc_lex.specs.steps.Scanner.{texts, first_of}
use Rattle.mc_lex.proofs.table.first_of.Given as goal

abbrev pub invariant-loop-left : goal.invariant-loop-left
invariant-loop-left l = first_of (texts l.table) l.bytes ≡ first_of (texts l.left) l.bytes

abbrev pub decreases-loop-left : goal.decreases-loop-left
decreases-loop-left l = length l.left
