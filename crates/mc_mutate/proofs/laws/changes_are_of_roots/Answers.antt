use Rattle.mc_mutate.proofs.Rooted.{changes_of_roots}
use Rattle.mc_mutate.proofs.laws.changes_are_of_roots.Goals as goal

pub returns : goal.returns
returns c = changes_of_roots
