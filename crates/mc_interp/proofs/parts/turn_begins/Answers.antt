use Rattle.std.proofs.Common.{option_map, rules}
use Rattle.mc_probe.specs.Statements as does
use Rattle.mc_interp.specs.Stores.{state_of}
use Rattle.mc_interp.specs.Frames.{activation_of, scope_in}
use Rattle.mc_interp.specs.Views as prepared
use Rattle.mc_interp.proofs.Kept.{if_kept, ready_kept}
use Rattle.mc_interp.proofs.Spent.{did_spent, did_unspent, if_less}
use Rattle.mc_interp.proofs.parts.turn_begins.Goals as goal

pub returns-in_err-spend-clause-did : goal.returns-in_err-spend-clause-did
returns-in_err-spend-clause-did g c =
    rw c.from_residual.ensures
    (did_unspent g.P.Probe.leads g.met.P.Probe.stays g.met.P.Probe.joins (does.loop_test (activation_of c.args.frame.now) (option_map (λ e. prepared.test_of e.now) c.args.test))
    (state_of c.args.store.now) c.spend.new.self c.args.probe.now c.in_err-spend.ensures.ran)

pub test_of-requires-clause-ready : goal.test_of-requires-clause-ready
test_of-requires-clause-ready g c =
    ready_kept c.args.frame.now c.args.store.now c.spend.new.self _ _ c.requires.ready (c.spend.ensures.kept (scope_in c.args.frame.now) (activation_of c.args.frame.now)) (search rules)

pub returns-clause-did : goal.returns-clause-did
returns-clause-did g c =
    did_spent g.P.Probe.leads g.met.P.Probe.stays g.met.P.Probe.joins (does.loop_test (activation_of c.args.frame.now) (option_map (λ e. prepared.test_of e.now) c.args.test))
    (state_of c.args.store.now) c.spend.new.self c.test_of.new.store _ c.args.probe.now c.test_of.new.probe c.in_ok-spend.ensures.ran c.test_of.ensures.did

pub returns-clause-less : goal.returns-clause-less
returns-clause-less g c =
    if_less (scope_in c.args.frame.now) (activation_of c.args.frame.now) c.args.store.now c.spend.new.self c.test_of.new.store c.test_of.result c.in_ok-spend.ensures.less c.test_of.ensures.kept

pub returns-clause-kept : goal.returns-clause-kept
returns-clause-kept g c =
    if_kept _ _ _ _ _ c.test_of.result (c.spend.ensures.kept (scope_in c.args.frame.now) (activation_of c.args.frame.now)) c.test_of.ensures.kept
