use Rattle.laws_cover.proofs.Runs.{steps_keep_the_rule}
use Rattle.laws_cover.proofs.laws.steps_keep_the_rule.Goals as goal

pub returns : goal.returns
returns c = steps_keep_the_rule
