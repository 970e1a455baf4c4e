use Rattle.std.proofs.Common.{arith, ◌≡◌, ◌∙◌, ap, map}
use Rattle.std.proofs.lemmas.Grind.{common_steps}
use Rattle.mc_typed.specs.Views.{initializer_of}
use Rattle.mc_probe.specs.Views as probed
use Rattle.mc_mutate.proofs.Lists.{all_initializers, initializers_are}
use Rattle.mc_mutate.proofs.copies.initializers.+change.Goals as goal

pub initializers-returns-clause-tree : goal.initializers-returns-clause-tree
initializers-returns-clause-tree t c =
    let xs = map initializer_of c.args.trees.now in
    let all : map probed.initializer_of c.loop-tree.copies.items ≡ all_initializers xs c.args.sought.now = grind (arith, common_steps) in
    ap probed.initializers_from all ∙ initializers_are xs c.args.sought.now
