use Rattle.std.proofs.Common.{refl}
use Rattle.reread_law_printed.proofs.Parts.Example.{they_stand}
use Rattle.reread_law_printed.proofs.worked.parts.parts_of_a_text.Goals as goal

pub returns-clause-parts : goal.returns-clause-parts
returns-clause-parts c = refl

pub returns-clause-stand : goal.returns-clause-stand
returns-clause-stand c = they_stand
