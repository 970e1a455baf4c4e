use Rattle.decide_rules.proofs.Once.{one_list}
use Rattle.decide_rules.proofs.laws.one_list.Goals as goal

pub returns : goal.returns
returns c = one_list
