use Rattle.std.proofs.Common.{arith, ◌≡◌, ◌∙◌, ap, map}
use Rattle.std.proofs.lemmas.Grind.{common_steps}
use Rattle.mc_typed.specs.Views.{statement_of}
use Rattle.mc_probe.specs.Views as probed
use Rattle.mc_mutate.proofs.Lists.{all_statements, statements_are}
use Rattle.mc_mutate.proofs.copies.statements.+change.Goals as goal

pub statements-returns-clause-tree : goal.statements-returns-clause-tree
statements-returns-clause-tree t c =
    let xs = map statement_of c.args.trees.now in
    let all : map probed.statement_of c.loop-tree.copies.items ≡ all_statements xs c.args.sought.now = grind (arith, common_steps) in
    ap probed.statements_from all ∙ statements_are xs c.args.sought.now
