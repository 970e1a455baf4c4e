use Rattle.laws_cover.proofs.Sums.{the_rule_is_its_words}
use Rattle.laws_cover.proofs.laws.the_rule_is_its_words.Goals as goal

pub returns : goal.returns
returns c = the_rule_is_its_words
