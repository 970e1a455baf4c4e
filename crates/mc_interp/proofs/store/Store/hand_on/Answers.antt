use Rattle.std.proofs.Common.{ℕ, ap}
use Rattle.mc_steps.specs.Runs.{Run, after, gives}
use Rattle.mc_steps.specs.Statements as steps
use Rattle.mc_probe.specs.Flat.{Flat, flat}
use Rattle.mc_interp.proofs.Entering.{copied_length, from_placed, fuel_by, kept_there, nothing, registers_by, to_placed, two}
use Rattle.mc_interp.proofs.store.Store.hand_on.Goals as goal

pub returns-in-Some-clause-ran : goal.returns-in-Some-clause-ran
returns-in-Some-clause-ran c =
    rw (c.in-Structure.is, c.in-Some.is, c.keep.ensures.given)
    (ap (λ (r : Run Flat ℕ (Unit {0})). after r (λ _ s. gives (steps.Structure c.in-Some.to c.in-Structure.cells) s)) c.copy.ensures.ran)

pub returns-in-Some-clause-kept : goal.returns-in-Some-clause-kept
returns-in-Some-clause-kept c types h has =
    let p = rw (c.in-Structure.is, c.in-Some.is) at h in
    rw c.keep.ensures.given
    (kept_there p.0 c.in-Structure.at c.in-Some.to c.args.self.now c.copy.new.self
    (c.copy.ensures.kept (two p.0 c.in-Structure.at c.in-Some.to) nothing p.0 p.1 (from_placed p.0 c.in-Structure.at c.in-Some.to) (to_placed p.0 c.in-Structure.at c.in-Some.to))
    types p.2 p.3 has)

pub returns-in-Some-clause-cells : goal.returns-in-Some-clause-cells
returns-in-Some-clause-cells c =
    let q = rw (c.in-Structure.is, c.in-Some.is) at c.requires in
    rw c.keep.ensures.given (copied_length c.args.self.now c.copy.new.self c.in-Structure.at c.in-Some.to c.in-Structure.cells q.0 q.1 c.copy.ensures.ran)

pub returns-in-Some-clause-registers : goal.returns-in-Some-clause-registers
returns-in-Some-clause-registers c =
    rw c.keep.ensures.given (registers_by c.args.self.now c.copy.new.self (flat.copy c.in-Structure.at c.in-Some.to c.in-Structure.cells) c.copy.ensures.ran)

pub returns-in-Some-clause-fuel : goal.returns-in-Some-clause-fuel
returns-in-Some-clause-fuel c =
    rw c.keep.ensures.given (fuel_by c.args.self.now c.copy.new.self (flat.copy c.in-Structure.at c.in-Some.to c.in-Structure.cells) c.copy.ensures.ran)
