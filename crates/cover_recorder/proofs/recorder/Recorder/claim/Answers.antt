use Rattle.cover_recorder.proofs.Stamps.{kept_claimed, kept_ended}
use Rattle.cover_recorder.proofs.recorder.Recorder.claim.Goals as goal

pub invariant_of-self : goal.invariant_of-self
invariant_of-self c =
    let s = c.self.inside in
    kept_ended s.cover.now s.pass c.claim.new.pass s.stamps.items s.stamps.len s.test c.self.invariant c.claim.ensures.own c.in_err-test.ensures.none

pub invariant_of-self-2 : goal.invariant_of-self-2
invariant_of-self-2 c =
    let s = c.self.inside in
    kept_claimed s.cover.now s.pass c.claim.new.pass s.stamps.items s.stamps.len s.test c.in_ok-test.test c.self.invariant c.claim.ensures.own c.in_ok-test.ensures.some.1 c.in_ok-test.ensures.some.0
