use Rattle.reread_law_texts.proofs.Bracketed.PouredStatements.{poured_tree}
use Rattle.reread_law_texts.proofs.laws.brackets.poured_texts_have_bracketed_trees.Goals as goal

pub returns : goal.returns
returns c d to w tokens unit l h p = poured_tree d to w tokens unit l h p
