use Rattle.mc_adapt.proofs.Once.{one_adapted}
use Rattle.mc_adapt.proofs.laws.one_thing_is_given.Goals as goal

pub returns : goal.returns
returns c = λ source a b p q. one_adapted source a b p q
