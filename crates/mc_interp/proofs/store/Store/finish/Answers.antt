use Rattle.std.proofs.Common.{ℕ, ◌++◌, ap, length, length-take, ◌∙◌, arith}
use Rattle.mc_steps.specs.Runs.{Run, after, changes, gives}
use Rattle.mc_steps.specs.Statements as steps
use Rattle.mc_probe.specs.Calls.{left}
use Rattle.mc_probe.specs.Flat.{Flat}
use Rattle.mc_interp.specs.Stores.{given_of, state_of}
use Rattle.mc_interp.proofs.Entered.{typed_taken}
use Rattle.mc_interp.proofs.Entering.{left_is}
use Rattle.mc_interp.proofs.store.Store.finish.Goals as goal

pub leave-requires : goal.leave-requires
leave-requires c = omega (arith, c.requires.base, c.hand_on.ensures.cells)

pub returns-clause-ran : goal.returns-clause-ran
returns-clause-ran c =
    rw c.leave.ensures.left
    (left_is c.args.into (left c.args.base c.args.first) (given_of c.args.self.now.given) (state_of c.args.self.now)
    ∙ ap (λ (r : Run Flat ℕ (steps.Given ℕ)). after r (λ v s. after (changes (left c.args.base c.args.first) s) (λ _ s. gives v s))) c.hand_on.ensures.ran)

pub returns-clause-typed : goal.returns-clause-typed
returns-clause-typed c types more e h has =
    rw c.leave.ensures.left (typed_taken types more c.hand_on.new.self.cells.cells c.args.base e (c.hand_on.ensures.kept (types ++ more) h has))

pub returns-clause-cells : goal.returns-clause-cells
returns-clause-cells c =
    rw c.leave.ensures.left (omega (arith, length-take c.args.base c.hand_on.new.self.cells.cells, c.requires.base, c.hand_on.ensures.cells))

pub returns-clause-registers : goal.returns-clause-registers
returns-clause-registers c =
    rw c.leave.ensures.left (omega (arith, length-take c.args.first c.hand_on.new.self.registers.items, c.requires.first, ap length c.hand_on.ensures.registers))
