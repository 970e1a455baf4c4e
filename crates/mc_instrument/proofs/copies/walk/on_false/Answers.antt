use Rattle.std.proofs.Common.{arith}
use Rattle.mc_cond.specs.Tree.{tree_of}
use Rattle.mc_instrument.proofs.Edges.{no_edge}
use Rattle.mc_instrument.proofs.copies.walk.on_false.Goals as goal

pub returns-else-c-conditions : goal.returns-else-c-conditions
returns-else-c-conditions c =
    let same = c.conditions.ensures in
    let past = c.if-c-conditions.false in
    no_edge (tree_of c.args.numbering.now) c.args.c (omega (arith, same, past))
