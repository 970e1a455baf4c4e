use Rattle.laws_grammar.proofs.SoundItems.{sound_whole}
use Rattle.laws_grammar.proofs.laws.sound.Goals as goal

pub returns : goal.returns
returns c = sound_whole
