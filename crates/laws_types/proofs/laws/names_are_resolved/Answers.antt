use Rattle.std.specs.Prelude.{refl}
use Rattle.laws_types.proofs.laws.names_are_resolved.Goals as goal

pub returns-clause-values : goal.returns-clause-values
returns-clause-values c = refl

pub returns-clause-effects : goal.returns-clause-effects
returns-clause-effects c = refl
