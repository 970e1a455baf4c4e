use Rattle.std.proofs.Common.{ap, sym}
use Rattle.decide_rules.specs.declared.role.Role.{Role}
use Rattle.decide_walk.specs.steps.Gathering.{is_taken}
use Rattle.decide_walk.proofs.candidates.is_taken.Goals as goal

pub returns-in-Plain : goal.returns-in-Plain
returns-in-Plain c = sym (ap (λ (role : Role). is_taken role c.args.boolean) c.in-Plain.is)
