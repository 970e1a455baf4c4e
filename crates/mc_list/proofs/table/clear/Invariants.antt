use Rattle.std.proofs.Common.{◌≡◌, ◌<◌, ℕ, get_or}
use Rattle.mc_list.specs.declared.mark.Mark.TheVariants.{Clear}
use Rattle.mc_list.proofs.table.clear.Given as goal

abbrev pub invariant-loop-mark : goal.invariant-loop-mark
invariant-loop-mark l = (k : ℕ) → k < l.mark-index → get_or l.marks k Clear ≡ Clear
