use Rattle.reread_law_printed.proofs.Spelled.Meanings.{kept, plain}
use Rattle.reread_law_printed.proofs.laws.spelled.plain_tokens_are_kept.Goals as goal

pub returns : goal.returns
returns c text kind = (kept text kind, λ h. plain text kind h.0 h.1)
