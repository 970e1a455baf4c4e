use Rattle.reread_law_texts.proofs.Alike.Nodes.{forms_kept, refusal_kept}
use Rattle.reread_law_texts.proofs.laws.alike.forms_are_kept.Goals as goal

pub returns-clause-forms : goal.returns-clause-forms
returns-clause-forms c = forms_kept

pub returns-clause-refusal : goal.returns-clause-refusal
returns-clause-refusal c = refusal_kept
