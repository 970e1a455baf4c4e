use Rattle.std.proofs.Common.{arith}
use Rattle.mc_cond.specs.Tree.{tree_of}
use Rattle.mc_paths.proofs.Counting.{room_fits}
use Rattle.mc_paths.proofs.Increments.{edges_most}
use Rattle.mc_paths.proofs.numbering.kept.Goals as goal

pub add_false_edges-requires-clause-rooms : goal.add_false_edges-requires-clause-rooms
add_false_edges-requires-clause-rooms c = room_fits (tree_of c.args.tree.now) c.requires.numbered.few

pub add_false_edges-requires-clause-edges : goal.add_false_edges-requires-clause-edges
add_false_edges-requires-clause-edges c =
    edges_most (tree_of c.args.tree.now) 4096 c.requires.numbered.in_order (omega (arith, c.requires.count, c.requires.few))
