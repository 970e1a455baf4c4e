use Rattle.laws_station.proofs.Reports.{reports_are_of_their_source}
use Rattle.laws_station.proofs.texts.reports_are_of_their_source.Goals as goal

pub returns : goal.returns
returns c = reports_are_of_their_source
