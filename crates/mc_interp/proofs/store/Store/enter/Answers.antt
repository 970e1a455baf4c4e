use Rattle.mc_interp.specs.Stores.{state_of}
use Rattle.mc_interp.proofs.Entering.{enters_levels, enters_unspent}
use Rattle.mc_interp.proofs.store.Store.enter.Goals as goal

pub returns-in_err-spend-clause-ran : goal.returns-in_err-spend-clause-ran
returns-in_err-spend-clause-ran c =
    rw c.from_residual.ensures (enters_unspent c.args.levels c.args.cells (state_of c.args.self.now) c.spend.new.self c.in_err-spend.ensures.ran)

pub returns-then-levels-gt-MOST_LEVELS-clause-ran : goal.returns-then-levels-gt-MOST_LEVELS-clause-ran
returns-then-levels-gt-MOST_LEVELS-clause-ran c =
    enters_levels c.args.levels c.args.cells (state_of c.args.self.now) c.spend.new.self c.in_ok-spend.ensures.ran c.if-levels-gt-MOST_LEVELS.true
