use Rattle.laws_station.proofs.SingleCases.{refusals}
use Rattle.laws_station.proofs.cases.refusals_are_six.Goals as goal

pub returns : goal.returns
returns c = refusals
