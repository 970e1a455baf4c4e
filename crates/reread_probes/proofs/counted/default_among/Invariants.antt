use Rattle.std.proofs.Common.{◌≡◌, map, drop}
use Rattle.mc_tree.specs.Units.{block_from, block_item_of}
use Rattle.reread_probes.specs.Statements.{default_among}
use Rattle.reread_probes.proofs.counted.default_among.Given as goal

abbrev pub invariant-loop-tree : goal.invariant-loop-tree
invariant-loop-tree l = default_among (block_from (map block_item_of (drop l.tree-index l.trees))) ≡ default_among (block_from (map block_item_of l.trees))
