use Rattle.laws_station.proofs.Reduced.{kept_show_all}
use Rattle.laws_station.proofs.suites.kept_show_all.Goals as goal

pub returns : goal.returns
returns c = kept_show_all
