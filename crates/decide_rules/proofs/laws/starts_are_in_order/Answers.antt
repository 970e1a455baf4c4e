use Rattle.decide_rules.proofs.InOrder.{starts_are_in_order}
use Rattle.decide_rules.proofs.laws.starts_are_in_order.Goals as goal

pub returns : goal.returns
returns c = starts_are_in_order
