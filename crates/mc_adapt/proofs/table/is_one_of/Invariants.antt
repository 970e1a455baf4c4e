use Rattle.std.proofs.Common.{◌≡◌, length}
use Rattle.mc_lex.specs.Words.{one_of}
use Rattle.mc_lex.specs.steps.Scanner.{texts}
use Rattle.mc_adapt.proofs.table.is_one_of.Given as goal

abbrev pub invariant-loop-left : goal.invariant-loop-left
invariant-loop-left l = one_of (texts l.table) l.text ≡ one_of (texts l.left) l.text

abbrev pub decreases-loop-left : goal.decreases-loop-left
decreases-loop-left l = length l.left
