use Rattle.std.proofs.Common.{arith, ◌≡◌, map}
use Rattle.std.proofs.lemmas.Grind.{common_steps}
use Rattle.mc_typed.specs.Views as plain
use Rattle.mc_probe.specs.Views as probed
use Rattle.mc_probe.specs.Bare.{bare_initializer}
use Rattle.instrument_copies.proofs.Copied.{initializers_bare}
use Rattle.instrument_copies.proofs.copies.initializers.+copy.Goals as goal

pub initializers-returns : goal.initializers-returns
initializers-returns t c =
    let all : map probed.initializer_of c.loop-tree.copies.items ≡ map (λ a. bare_initializer (plain.initializer_of a)) c.args.trees.now = grind (arith, common_steps) in
    initializers_bare c.args.trees.now c.loop-tree.copies.items all
