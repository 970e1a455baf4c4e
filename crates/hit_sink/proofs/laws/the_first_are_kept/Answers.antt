use Rattle.hit_sink.proofs.First.{the_first}
use Rattle.hit_sink.proofs.laws.the_first_are_kept.Goals as goal

pub returns : goal.returns
returns c = the_first
