use Rattle.std.proofs.Common.{◌+◌, rules}
use Rattle.mc_steps.specs.Runs.{gives}
use Rattle.mc_steps.specs.Expressions.{with_input}
use Rattle.mc_interp.specs.Stores.{state_of}
use Rattle.mc_interp.proofs.Kept.{kept_then}
use Rattle.mc_interp.proofs.Inputs.{spends_then, drop_next, kept_next}
use Rattle.mc_interp.proofs.store.Store.input.Goals as goal

pub returns-then-self-len-clause-ran : goal.returns-then-self-len-clause-ran
returns-then-self-len-clause-ran c =
    let m = c.spend.new.self in
    let d = drop_next m.inputs.items m.next c.get-number.result c.get-number.ensures in
    rw (spends_then (state_of c.args.self.now) (state_of m) (λ s. with_input s.inputs gives s) c.in_ok-spend.ensures.ran, d) (search rules)

pub returns-then-self-len-clause-kept : goal.returns-then-self-len-clause-kept
returns-then-self-len-clause-kept c d w =
    kept_then d w c.args.self.now c.spend.new.self _ (c.in_ok-spend.ensures.kept d w) (kept_next d w c.spend.new.self (c.spend.new.self.next + 1))

pub returns-else-self-len-clause-kept : goal.returns-else-self-len-clause-kept
returns-else-self-len-clause-kept c d w =
    kept_then d w c.args.self.now c.spend.new.self _ (c.in_ok-spend.ensures.kept d w) (c.trap.ensures.kept d w)
