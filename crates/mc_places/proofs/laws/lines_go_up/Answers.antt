use Rattle.mc_places.proofs.Following.{goes_up}
use Rattle.mc_places.proofs.laws.lines_go_up.Goals as goal

pub returns : goal.returns
returns c = λ text k o is here below lt. goes_up text k o is here below lt
