use Rattle.laws_cases.proofs.Large.{large_is_at_its_root}
use Rattle.laws_cases.proofs.decisions.large_is_at_its_root.Goals as goal

pub returns : goal.returns
returns c = large_is_at_its_root
