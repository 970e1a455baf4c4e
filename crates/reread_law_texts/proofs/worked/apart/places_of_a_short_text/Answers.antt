use Rattle.std.proofs.Common.{refl}
use Rattle.reread_law_texts.proofs.worked.apart.places_of_a_short_text.Goals as goal

pub returns-clause-expressions : goal.returns-clause-expressions
returns-clause-expressions c = refl

pub returns-clause-statements : goal.returns-clause-statements
returns-clause-statements c = refl
