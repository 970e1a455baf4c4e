use Rattle.std.proofs.Common.{◌≡◌, Some, drop}
use Rattle.interp_words.specs.Words.{number_of}
use Rattle.mc_interp.proofs.Lists.{has}
use Rattle.mc_interp.proofs.labels.has_case.Given as goal

-- the label is among the items that are left where it is among all
abbrev pub invariant-loop-tree : goal.invariant-loop-tree
invariant-loop-tree l = has (Some (number_of l.of l.word)) (drop l.tree-index l.items) ≡ has (Some (number_of l.of l.word)) l.items
