use Rattle.mc_probe.specs.Statements as does
use Rattle.mc_interp.specs.Stores.{state_of}
use Rattle.mc_interp.specs.Frames.{activation_of}
use Rattle.mc_interp.specs.Views as prepared
use Rattle.mc_interp.proofs.Spent.{did_effect, did_effect_end}
use Rattle.mc_interp.proofs.parts.effect_statement.Goals as goal

pub returns-in_err-perform-clause-did : goal.returns-in_err-perform-clause-did
returns-in_err-perform-clause-did g c =
    rw c.from_residual.ensures
    (did_effect_end g.P.Probe.leads g.met.P.Probe.stays g.met.P.Probe.joins (does.perform (activation_of c.args.frame.now) (prepared.effect_of c.args.step.now)) (state_of c.args.store.now)
    c.perform.new.store c.args.probe.now c.perform.new.probe c.in_err-perform.ensures.did)

pub returns-clause-did : goal.returns-clause-did
returns-clause-did g c =
    did_effect g.P.Probe.leads g.met.P.Probe.stays g.met.P.Probe.joins (does.perform (activation_of c.args.frame.now) (prepared.effect_of c.args.step.now)) (state_of c.args.store.now)
    c.perform.new.store c.args.probe.now c.perform.new.probe c.in_ok-perform.ensures.did
