use Rattle.std.proofs.Common.{length}
use Rattle.tests_functions.proofs.find.place_of_word.Given as goal

abbrev pub decreases-loop-left : goal.decreases-loop-left
decreases-loop-left l = length l.left
