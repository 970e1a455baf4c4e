use Rattle.std.proofs.Common.{◌≡◌, ◌∙◌, refl, sym, ap}
use Rattle.mc_typed.specs.Levels.{limited}
use Rattle.decide_walk.proofs.Shapes.{node}
use Rattle.decide_walk.proofs.Leaves.{leaf, leaf_width}
use Rattle.decide_walk.proofs.tree.+conditions.Goals as goal

limited_one : 1 ≡ limited 1
unfolding limited
limited_one = refl

pub returns-in-Constant : goal.returns-in-Constant
returns-in-Constant t c =
    limited_one ∙ sym (ap limited (leaf_width (node c.args.tree.now) (leaf c.args.tree.now c.in-Constant.is)))
