use Rattle.std.proofs.Common.{sym, ◌∙◌}
use Rattle.mc_probe.specs.Probes.{mark_does}
use Rattle.mc_interp.specs.Frames.{activation_of, scope_in}
use Rattle.mc_interp.proofs.Kept.{kept_same}
use Rattle.mc_interp.proofs.Endings.{did_switch_ends, did_switch_over}
use Rattle.mc_interp.proofs.labels.switch_ends.Goals as goal

pub returns-then-ends_switch-clause-did : goal.returns-then-ends_switch-clause-did
returns-then-ends_switch-clause-did g c chosen =
    did_switch_ends g.P.Probe.leads g.met.P.Probe.stays g.met.P.Probe.joins (mark_does (activation_of c.args.frame.now) c.args.absent chosen) c.args.store.now c.mark.new.store
    c.args.probe.now c.mark.new.probe c.args.flow (sym c.ends_switch.ensures ∙ c.if-ends_switch.true) (c.mark.ensures.did chosen)

pub returns-else-ends_switch-clause-did : goal.returns-else-ends_switch-clause-did
returns-else-ends_switch-clause-did g c chosen =
    did_switch_over g.P.Probe.leads g.met.P.Probe.stays g.met.P.Probe.joins (mark_does (activation_of c.args.frame.now) c.args.absent chosen) c.args.store.now c.args.probe.now c.args.flow
    (sym c.ends_switch.ensures ∙ c.if-ends_switch.false)

pub returns-else-ends_switch-clause-kept : goal.returns-else-ends_switch-clause-kept
returns-else-ends_switch-clause-kept g c = kept_same (scope_in c.args.frame.now) (activation_of c.args.frame.now) c.args.store.now
