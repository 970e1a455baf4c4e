use Rattle.std.proofs.Common.{arith}
use Rattle.mc_cover.proofs.Counts.{contains_of_times}
use Rattle.cover_recorder.proofs.Stamps.{hits_now, kept_hit}
use Rattle.cover_recorder.proofs.recorder.Recorder.first.Goals as goal

pub hit-requires-clause-claimed : goal.hit-requires-clause-claimed
hit-requires-clause-claimed c =
    let s = c.self.inside in
    contains_of_times s.test s.pass.view.claims (hits_now s.cover.now s.pass.view s.test c.args.bit c.args.self.now c.self.view_is c.requires.bits).0

pub hit-requires-clause-in_range : goal.hit-requires-clause-in_range
hit-requires-clause-in_range c =
    let s = c.self.inside in
    let a = hits_now s.cover.now s.pass.view s.test c.args.bit c.args.self.now c.self.view_is c.requires.bits in
    (a.1, c.self.invariant.inside a.0)

pub overflow_add-self-inside : goal.overflow_add-self-inside
overflow_add-self-inside c =
    let s = c.self.inside in
    let a = hits_now s.cover.now s.pass.view s.test c.args.bit c.args.self.now c.self.view_is c.requires.bits in
    omega (arith, c.self.invariant.inside a.0, c.self.invariant.few)

pub invariant_of-self : goal.invariant_of-self
invariant_of-self c =
    let s = c.self.inside in
    let a = hits_now s.cover.now s.pass.view s.test c.args.bit c.args.self.now c.self.view_is c.requires.bits in
    let long = s.stamps.ok in
    kept_hit s.cover.now s.pass c.hit.new.pass s.stamps.items s.stamps.len s.test c.args.bit c.self.invariant c.hit.ensures.own c.hit.ensures.hit
    (omega (arith, a.1, c.self.invariant.whole, long))
