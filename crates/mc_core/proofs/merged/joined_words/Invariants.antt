use Rattle.mc_core.specs.Joined.{AreJoined}
use Rattle.mc_core.proofs.merged.joined_words.Given as goal

abbrev pub invariant-loop-place : goal.invariant-loop-place
invariant-loop-place l = AreJoined l.left l.right l.rows l.place l.list.items
