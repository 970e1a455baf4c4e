use Rattle.reread_law_texts.proofs.Alike.Order.{order_kept}
use Rattle.reread_law_texts.proofs.laws.alike.order_is_kept.Goals as goal

pub returns : goal.returns
returns c = order_kept
