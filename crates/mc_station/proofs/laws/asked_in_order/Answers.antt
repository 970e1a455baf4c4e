use Rattle.mc_station.proofs.Order.{asked_in_order, last_is_named}
use Rattle.mc_station.proofs.laws.asked_in_order.Goals as goal

pub returns-clause-order : goal.returns-clause-order
returns-clause-order c = asked_in_order

pub returns-clause-last : goal.returns-clause-last
returns-clause-last c = last_is_named
