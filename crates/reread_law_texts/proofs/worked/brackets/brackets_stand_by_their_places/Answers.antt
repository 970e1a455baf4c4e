use Rattle.std.proofs.Common.{refl}
use Rattle.reread_law_texts.proofs.worked.brackets.brackets_stand_by_their_places.Goals as goal

pub returns-clause-tokens : goal.returns-clause-tokens
returns-clause-tokens c = refl

pub returns-clause-tree : goal.returns-clause-tree
returns-clause-tree c = refl
