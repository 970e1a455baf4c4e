use Rattle.mc_interp.specs.Frames.{activation_of, scope_in}
use Rattle.mc_interp.proofs.frame.Frame.begin.Goals as goal

pub returns-clause-kept : goal.returns-clause-kept
returns-clause-kept c = c.set_register.ensures.kept (scope_in c.args.self.now) (activation_of c.args.self.now)
