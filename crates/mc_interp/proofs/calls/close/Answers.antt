use Rattle.std.proofs.Common.{refl, sym, ◌∙◌}
use Rattle.mc_probe.specs.Flat.{hits_some}
use Rattle.mc_interp.specs.Frames.{activation_of}
use Rattle.mc_interp.proofs.Kept.{kept_same}
use Rattle.mc_interp.proofs.Endings.{did_close, did_left, left_typed}
use Rattle.mc_interp.proofs.calls.close.Goals as goal

pub returns-then-not-has_left-clause-did : goal.returns-then-not-has_left-clause-did
returns-then-not-has_left-clause-did g c =
    rw c.keep.ensures.given
    (did_close g.P.Probe.leads g.met.P.Probe.stays g.met.P.Probe.joins (hits_some (activation_of c.args.frame.now) c.args.frame.now.function.now.exit) c.args.store.now c.args.store.now
    c.args.probe.now c.hit_some.new.probe c.args.flow _ (sym c.has_left.ensures ∙ c.if-not-has_left.true) c.hit_some.ensures.did refl)

pub returns-then-not-has_left-clause-typed : goal.returns-then-not-has_left-clause-typed
returns-then-not-has_left-clause-typed g c x w h = rw c.keep.ensures.given tt

pub returns-else-not-has_left-clause-did : goal.returns-else-not-has_left-clause-did
returns-else-not-has_left-clause-did g c =
    did_left g.P.Probe.leads g.met.P.Probe.stays g.met.P.Probe.joins (hits_some (activation_of c.args.frame.now) c.args.frame.now.function.now.exit) c.args.store.now c.args.probe.now c.args.flow
    (sym c.has_left.ensures ∙ c.if-not-has_left.false)

pub returns-else-not-has_left-clause-typed : goal.returns-else-not-has_left-clause-typed
returns-else-not-has_left-clause-typed g c x w h = left_typed x w c.args.flow c.args.store.now.given (sym c.has_left.ensures ∙ c.if-not-has_left.false) h

pub returns-else-not-has_left-clause-kept : goal.returns-else-not-has_left-clause-kept
returns-else-not-has_left-clause-kept g c x w = kept_same x w c.args.store.now
