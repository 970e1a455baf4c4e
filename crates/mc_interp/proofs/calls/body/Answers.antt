use Rattle.std.proofs.Common.{◌++◌, sym, ◌∙◌, arith}
use Rattle.mc_probe.specs.Views as view
use Rattle.mc_interp.specs.Bodies.{flow_of}
use Rattle.mc_interp.specs.Stores.{given_of, state_of}
use Rattle.mc_interp.specs.Frames.{activation_of, scope_in}
use Rattle.mc_interp.proofs.Kept.{kept_then, ready_kept}
use Rattle.mc_interp.proofs.Endings.{did_inside, did_inside_end}
use Rattle.mc_interp.proofs.Finishing.{can_hand_on, is_handed_on, result_of_call}
use Rattle.mc_interp.proofs.Opened.{body_sound}
use Rattle.mc_interp.proofs.calls.body.Goals as goal

pub statements-requires-clause-sound : goal.statements-requires-clause-sound
statements-requires-clause-sound g c =
    body_sound c.args.frame.now.function.now c.args.items.now (scope_in c.args.frame.now) _ c.requires.same c.requires.ready.whole.body

pub statements-requires-clause-fits : goal.statements-requires-clause-fits
statements-requires-clause-fits g c = rw c.requires.same c.requires.fits

pub returns-in_err-flow-clause-did : goal.returns-in_err-flow-clause-did
returns-in_err-flow-clause-did g c =
    let k = rw c.requires.same at c.in_err-flow.ensures.did in
    rw c.from_residual.ensures
    (did_inside_end g.P.Probe.leads g.met.P.Probe.stays g.met.P.Probe.joins (activation_of c.args.frame.now) (view.function_of c.args.frame.now.function.now) c.args.into (state_of c.args.store.now)
    c.statements.new.store c.args.probe.now c.statements.new.probe k)

pub finish-requires-clause-copy : goal.finish-requires-clause-copy
finish-requires-clause-copy g c =
    let F = c.args.frame.now in
    let k = kept_then _ _ _ _ _ c.in_ok-flow.ensures.kept (c.close.ensures.kept (scope_in F) (activation_of F)) in
    let r = ready_kept F c.args.store.now c.close.new.store _ _ c.requires.ready k (c.close.ensures.bits ∙ c.in_ok-flow.ensures.bits) in
    can_hand_on F c.close.new.store _ c.close.new.store.given c.args.into (scope_in F).result r (c.close.ensures.typed (scope_in F) (activation_of F) c.in_ok-flow.ensures.typed)
    (rw (sym k.cells) at c.requires.into)

pub returns-clause-did : goal.returns-clause-did
returns-clause-did g c =
    let k = rw c.requires.same at c.in_ok-flow.ensures.did in
    did_inside g.P.Probe.leads g.met.P.Probe.stays g.met.P.Probe.joins (activation_of c.args.frame.now) (view.function_of c.args.frame.now.function.now) c.args.into (state_of c.args.store.now)
    c.statements.new.store c.close.new.store c.finish.new.self (flow_of c.in_ok-flow.flow c.statements.new.store) (given_of c.close.new.store.given) (given_of c.finish.new.self.given)
    c.args.probe.now c.statements.new.probe c.close.new.probe k c.close.ensures.did c.finish.ensures.ran

pub returns-clause-given : goal.returns-clause-given
returns-clause-given g c =
    let F = c.args.frame.now in
    rw c.finish.ensures.given
    (result_of_call (scope_in F) (activation_of F) c.close.new.store.given c.args.into (scope_in F).result (c.close.ensures.typed (scope_in F) (activation_of F) c.in_ok-flow.ensures.typed))

pub returns-clause-left : goal.returns-clause-left
returns-clause-left g c =
    let F = c.args.frame.now in
    let k = kept_then _ _ _ _ _ c.in_ok-flow.ensures.kept (c.close.ensures.kept (scope_in F) (activation_of F)) in
    record {
      cells = c.finish.ensures.cells;
      registers = c.finish.ensures.registers;
      fuel = omega (arith, c.finish.ensures.fuel, k.fuel);
      typed = λ types more e ok into has.
          c.finish.ensures.typed types more e
          (is_handed_on (scope_in F) (activation_of F) (types ++ more) c.close.new.store.given c.args.into (scope_in F).result ok
          (c.close.ensures.typed (scope_in F) (activation_of F) c.in_ok-flow.ensures.typed) into)
          (k.typed (types ++ more) ok has);
    }
