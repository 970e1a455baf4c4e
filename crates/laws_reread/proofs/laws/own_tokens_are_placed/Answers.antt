use Rattle.laws_reread.proofs.Own.{tokens_follow, tokens_end}
use Rattle.laws_reread.proofs.laws.own_tokens_are_placed.Goals as goal

pub returns-clause-follow : goal.returns-clause-follow
returns-clause-follow c = tokens_follow

pub returns-clause-ends : goal.returns-clause-ends
returns-clause-ends c = tokens_end c.words_of_parts.ensures
