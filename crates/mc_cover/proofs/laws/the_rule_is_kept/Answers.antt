use Rattle.mc_cover.proofs.Opened.{kept_opened}
use Rattle.mc_cover.proofs.Keeping.{keep, moves}
use Rattle.mc_cover.proofs.Words.{ruled}
use Rattle.mc_cover.proofs.laws.the_rule_is_kept.Goals as goal

pub returns-clause-opening : goal.returns-clause-opening
returns-clause-opening c = kept_opened

pub returns-clause-steps : goal.returns-clause-steps
returns-clause-steps c = keep

pub returns-clause-moves : goal.returns-clause-moves
returns-clause-moves c = moves

pub returns-clause-words : goal.returns-clause-words
returns-clause-words c = ruled
