use Rattle.std.proofs.Common.{◌^◌, ◌-◌, arith}
use Rattle.mc_cond.specs.Tree.{tree_of}
use Rattle.mc_paths.proofs.Counting.{room_fits, count_fits}
use Rattle.mc_paths.proofs.rooms.count.Goals as goal

pub all_false-requires : goal.all_false-requires
all_false-requires c = room_fits (tree_of c.args.tree.now) c.requires.few

pub overflow_add-result : goal.overflow_add-result
overflow_add-result c = omega (arith, c.all_false.ensures.number, count_fits (tree_of c.args.tree.now) c.requires.few)
