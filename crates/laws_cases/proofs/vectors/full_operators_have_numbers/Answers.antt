use Rattle.laws_cases.specs.Vectors.{both}
use Rattle.laws_cases.proofs.vectors.full_operators_have_numbers.Goals as goal

pub returns-clause-once : goal.returns-clause-once
returns-clause-once c v w of_v of_w same = c.number_once.ensures both v w of_v of_w same

pub returns-clause-order : goal.returns-clause-order
returns-clause-order c v w of_v of_w = c.number_order.ensures both v w of_v of_w
