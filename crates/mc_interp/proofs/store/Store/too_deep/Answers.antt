use Rattle.mc_typed.specs.declared.plans.Ending.TheVariants as ending
use Rattle.mc_steps.specs.Runs.{stops}
use Rattle.mc_interp.specs.Stores.{state_of}
use Rattle.mc_interp.proofs.Spent.{spent_end, spent_then}
use Rattle.mc_interp.proofs.store.Store.too_deep.Goals as goal

pub returns-in_err-spend-clause-ran : goal.returns-in_err-spend-clause-ran
returns-in_err-spend-clause-ran c =
    rw c.from_residual.ensures (spent_end (λ s. stops ending.Levels s) (state_of c.args.self.now) c.spend.new.self c.in_err-spend.ensures.ran)

pub returns-clause-ran : goal.returns-clause-ran
returns-clause-ran c = spent_then (λ s. stops ending.Levels s) (state_of c.args.self.now) c.spend.new.self c.in_ok-spend.ensures.ran
