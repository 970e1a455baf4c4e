use Rattle.mc_oblige.specs.Shown.{HasEvent}
use Rattle.mc_reduce.proofs.Keeping.{kept_show}
use Rattle.mc_reduce.proofs.laws.kept_show_the_same.Goals as goal

pub returns : goal.returns
returns c = λ m x mode kept are. kept_show (HasEvent m x) m mode x.shape.tests kept (λ e t h. h.held.1) are
