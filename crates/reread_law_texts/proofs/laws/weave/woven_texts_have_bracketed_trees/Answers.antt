use Rattle.reread_law_texts.proofs.Weave.WovenStatements.{tree_woven}
use Rattle.reread_law_texts.proofs.laws.weave.woven_texts_have_bracketed_trees.Goals as goal

pub returns : goal.returns
returns c d to w tokens unit p l = tree_woven d to w tokens unit p l
