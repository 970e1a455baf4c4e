use Rattle.std.proofs.Common.{arith, ◌≡◌, map}
use Rattle.std.proofs.lemmas.Grind.{common_steps}
use Rattle.mc_tree.specs.Units.{initializer_of}
use Rattle.reread_plain_tree.specs.Unprobed.{unprobed_initializer}
use Rattle.reread_plain_tree.proofs.Lists.{initializers_copied}
use Rattle.reread_plain_tree.proofs.copies.declarations.+copy.Goals as goal

pub initializers-returns : goal.initializers-returns
initializers-returns t c =
    let all : map initializer_of c.loop-tree.copies.items ≡ map (λ a. unprobed_initializer (initializer_of a)) c.args.trees.now = grind (arith, common_steps) in
    initializers_copied c.args.trees.now c.loop-tree.copies.items all
