use Rattle.mc_interp.proofs.Entering.{levels_exact, levels_test}
use Rattle.mc_interp.proofs.entries.levels_with.Goals as goal

pub returns-clause-test : goal.returns-clause-test
returns-clause-test c n e = levels_test c.args.held n c.args.more c.saturating_add.result e c.saturating_add.ensures

pub returns-clause-exact : goal.returns-clause-exact
returns-clause-exact c n e l = levels_exact c.args.held n c.args.more c.saturating_add.result e c.saturating_add.ensures l
