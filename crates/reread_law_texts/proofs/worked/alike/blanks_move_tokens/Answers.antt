use Rattle.std.proofs.Common.{refl}
use Rattle.reread_law_texts.proofs.Alike.Blanks.{dense_follow, dense, spaced}
use Rattle.reread_law_texts.proofs.worked.alike.blanks_move_tokens.Goals as goal

pub returns-clause-alike : goal.returns-clause-alike
returns-clause-alike c = refl

pub returns-clause-follow : goal.returns-clause-follow
returns-clause-follow c = dense_follow

pub returns-clause-tokens : goal.returns-clause-tokens
returns-clause-tokens c = refl

pub returns-clause-tree : goal.returns-clause-tree
returns-clause-tree c = dense

pub returns-clause-moved : goal.returns-clause-moved
returns-clause-moved c = refl

pub returns-clause-other_tree : goal.returns-clause-other_tree
returns-clause-other_tree c = spaced

pub returns-clause-high : goal.returns-clause-high
returns-clause-high c = (refl, refl)
