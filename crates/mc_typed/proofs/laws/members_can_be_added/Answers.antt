use Rattle.mc_typed.proofs.Places.{can_be_added}
use Rattle.mc_typed.proofs.laws.members_can_be_added.Goals as goal

pub returns : goal.returns
returns c = can_be_added
