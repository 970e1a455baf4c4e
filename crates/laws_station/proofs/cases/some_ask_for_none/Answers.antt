use Rattle.laws_station.proofs.SingleCases.{some_ask_for_none}
use Rattle.laws_station.proofs.cases.some_ask_for_none.Goals as goal

pub returns : goal.returns
returns c = some_ask_for_none
