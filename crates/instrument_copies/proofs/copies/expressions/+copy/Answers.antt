use Rattle.std.proofs.Common.{arith, ◌≡◌, map}
use Rattle.std.proofs.lemmas.Grind.{common_steps}
use Rattle.mc_typed.specs.Views as plain
use Rattle.mc_probe.specs.Views as probed
use Rattle.mc_probe.specs.Bare.{bare_argument}
use Rattle.instrument_copies.proofs.Copied.{arguments_bare}
use Rattle.instrument_copies.proofs.copies.expressions.+copy.Goals as goal

pub arguments-returns : goal.arguments-returns
arguments-returns t c =
    let all : map probed.argument_of c.loop-tree.copies.items ≡ map (λ a. bare_argument (plain.argument_of a)) c.args.trees.now = grind (arith, common_steps) in
    arguments_bare c.args.trees.now c.loop-tree.copies.items all
