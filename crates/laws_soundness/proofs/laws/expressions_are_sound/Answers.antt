use Rattle.laws_soundness.proofs.Sound.{well, specifiers_well}
use Rattle.laws_soundness.proofs.laws.expressions_are_sound.Goals as goal

pub returns-clause-expressions : goal.returns-clause-expressions
returns-clause-expressions c = well

pub returns-clause-specifiers : goal.returns-clause-specifiers
returns-clause-specifiers c = specifiers_well
