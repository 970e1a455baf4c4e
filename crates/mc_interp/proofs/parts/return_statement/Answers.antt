use Rattle.mc_probe.specs.Statements as does
use Rattle.mc_probe.specs.Views as view
use Rattle.mc_interp.specs.Stores.{given_of, state_of}
use Rattle.mc_interp.specs.Frames.{activation_of}
use Rattle.mc_interp.proofs.Exits.{did_exit_after, did_exit_stopped}
use Rattle.mc_interp.proofs.parts.return_statement.Goals as goal

pub returns-in-Some-clause-did : goal.returns-in-Some-clause-did
returns-in-Some-clause-did g c =
    let W = activation_of c.args.frame.now in
    let d = rw c.in-Some.is at c.return_value-outcome.ensures.did in
    let e = rw c.in-Some.is at c.is_some.ensures in
    let l = rw c.bits.ensures at c.hit_after.ensures.led in
    did_exit_after g.P.Probe.leads g.met.P.Probe.stays g.met.P.Probe.joins W c.is_some.result c.args.exit (does.returned W (view.return_value_of c.args.tree.now))
    (state_of c.args.store.now) c.return_value-outcome.new.store c.args.probe.now c.return_value-outcome.new.probe c.hit_after.new.probe l
    (given_of c.return_value-outcome.new.store.given) e d

pub returns-in-None-clause-did : goal.returns-in-None-clause-did
returns-in-None-clause-did g c =
    let W = activation_of c.args.frame.now in
    let d = rw c.in-None.is at c.return_value-outcome.ensures.did in
    let e = rw c.in-None.is at c.is_some.ensures in
    let l = rw c.bits.ensures at c.hit_after.ensures.led in
    did_exit_stopped g.P.Probe.leads g.met.P.Probe.stays g.met.P.Probe.joins W c.is_some.result c.args.exit (does.returned W (view.return_value_of c.args.tree.now))
    (state_of c.args.store.now) c.return_value-outcome.new.store c.args.probe.now c.return_value-outcome.new.probe c.hit_after.new.probe l e d
