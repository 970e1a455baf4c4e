use Rattle.types_rules.proofs.Sums.{sums_exact}
use Rattle.types_rules.proofs.laws.sums_are_exact.Goals as goal

pub returns : goal.returns
returns c = sums_exact
