use Rattle.std.specs.Prelude.{Contains}
use Rattle.mc_oblige.specs.Shown.{HasEvent}
use Rattle.mc_reduce.proofs.Showing.{more_kept}
use Rattle.mc_reduce.proofs.laws.more_show_more.Goals as goal

pub returns : goal.returns
returns c = λ m x mode some more id each shown. more_kept (HasEvent m x) m mode (Contains some) (Contains more) each id shown
