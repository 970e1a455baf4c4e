use Rattle.std.proofs.Common.{arith, ◌≡◌, map}
use Rattle.std.proofs.lemmas.Grind.{common_steps}
use Rattle.mc_typed.specs.Views as plain
use Rattle.mc_probe.specs.Views as probed
use Rattle.mc_probe.specs.Bare.{bare_statement}
use Rattle.instrument_copies.proofs.Copied.{statements_bare}
use Rattle.instrument_copies.proofs.copies.statements.+copy.Goals as goal

pub statements-returns : goal.statements-returns
statements-returns t c =
    let all : map probed.statement_of c.loop-tree.copies.items ≡ map (λ a. bare_statement (plain.statement_of a)) c.args.trees.now = grind (arith, common_steps) in
    statements_bare c.args.trees.now c.loop-tree.copies.items all
