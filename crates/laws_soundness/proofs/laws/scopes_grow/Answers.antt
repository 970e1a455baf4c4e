use Rattle.laws_soundness.proofs.Grows.{expressions_grow}
use Rattle.laws_soundness.proofs.laws.scopes_grow.Goals as goal

pub returns : goal.returns
returns c = expressions_grow
