use Rattle.laws_soundness.proofs.Bodies.{block_run}
use Rattle.laws_soundness.proofs.laws.bodies_are_sound.Goals as goal

pub returns : goal.returns
returns c = block_run
