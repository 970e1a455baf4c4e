use Rattle.std.proofs.Common.{map}
use Rattle.mc_probe.specs.Statements as does
use Rattle.mc_probe.specs.Views as view
use Rattle.mc_interp.specs.Stores.{state_of}
use Rattle.mc_interp.specs.Frames.{activation_of}
use Rattle.mc_interp.proofs.Spent.{did_effect, did_effect_end}
use Rattle.mc_interp.proofs.parts.declaration.Goals as goal

pub returns-in_err-declarators-clause-did : goal.returns-in_err-declarators-clause-did
returns-in_err-declarators-clause-did g c =
    rw c.from_residual.ensures
    (did_effect_end g.P.Probe.leads g.met.P.Probe.stays g.met.P.Probe.joins (does.declare (activation_of c.args.frame.now) (map view.declarator_of c.args.trees.now)) (state_of c.args.store.now)
    c.declarators.new.store c.args.probe.now c.declarators.new.probe c.in_err-declarators.ensures.did)

pub returns-clause-did : goal.returns-clause-did
returns-clause-did g c =
    did_effect g.P.Probe.leads g.met.P.Probe.stays g.met.P.Probe.joins (does.declare (activation_of c.args.frame.now) (map view.declarator_of c.args.trees.now)) (state_of c.args.store.now)
    c.declarators.new.store c.args.probe.now c.declarators.new.probe c.in_ok-declarators.ensures.did
