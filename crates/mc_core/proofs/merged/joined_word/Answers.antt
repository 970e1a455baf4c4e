use Rattle.mc_core.proofs.Merging.{either_word}
use Rattle.mc_core.proofs.merged.joined_word.Goals as goal

pub returns : goal.returns
returns c =
    let later = rw c.shape.ensures at c.later_word.ensures in
    either_word c.args.left.now c.args.right.now c.args.bit c.args.row c.word.result c.later_word.result c.word.ensures later
