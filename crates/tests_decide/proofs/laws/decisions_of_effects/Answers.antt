use Rattle.std.proofs.Common.{refl}
use Rattle.decide_rules.proofs.Told.{told_as}
use Rattle.tests_decide.proofs.laws.decisions_of_effects.Goals as goal

pub returns : goal.returns
returns c = (told_as _ _ refl, (told_as _ _ refl, (told_as _ _ refl, (told_as _ _ refl, (told_as _ _ refl, (told_as _ _ refl, (told_as _ _ refl, (told_as _ _ refl, (told_as _ _ refl, (told_as _ _ refl, tt))))))))))
