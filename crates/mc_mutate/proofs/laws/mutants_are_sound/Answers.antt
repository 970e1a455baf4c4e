use Rattle.mc_mutate.proofs.Mutated.{mutants_sound}
use Rattle.mc_mutate.proofs.laws.mutants_are_sound.Goals as goal

pub returns : goal.returns
returns c = mutants_sound
