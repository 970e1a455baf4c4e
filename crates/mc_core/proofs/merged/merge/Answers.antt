use Rattle.mc_core.proofs.Merging.{joined_spare, joined_pairs}
use Rattle.mc_core.proofs.merged.merge.Goals as goal

pub of_words-requires-clause-spare : goal.of_words-requires-clause-spare
of_words-requires-clause-spare c =
    let all = rw (c.shape-first.ensures, c.shape.ensures) at c.in_ok-list.ensures in
    rw (c.shape-first.ensures, c.shape.ensures) (joined_spare c.args.left.now c.args.right.now c.in_ok-list.list.items c.requires.bits all)

pub returns-clause-pairs : goal.returns-clause-pairs
returns-clause-pairs c =
    let all = rw (c.shape-first.ensures, c.shape.ensures) at c.in_ok-list.ensures in
    rw (c.of_words.ensures, c.shape-first.ensures, c.shape.ensures) (joined_pairs c.args.left.now c.args.right.now c.in_ok-list.list.items c.requires.bits all)
