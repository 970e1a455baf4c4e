-- What is copied, with what is still to come, is the whole.
use Rattle.std.proofs.Common.{◌≡◌, ◌++◌, drop, map}
use Rattle.mc_typed.specs.Views as plain
use Rattle.mc_probe.specs.Views as probed
use Rattle.mc_probe.specs.Bare.{bare_statement}
use Rattle.instrument_copies.proofs.copies.statements.+copy.Given as goal

abbrev pub invariant-statements-loop-tree : goal.invariant-statements-loop-tree
invariant-statements-loop-tree l = map probed.statement_of l.copies.items ++ map (λ a. bare_statement (plain.statement_of a)) (drop l.tree-index l.trees) ≡ map (λ a. bare_statement (plain.statement_of a)) l.trees
