use Rattle.laws_station.proofs.Joined.{merge_is_record}
use Rattle.laws_station.proofs.suites.merge_is_record.Goals as goal

pub returns : goal.returns
returns c = merge_is_record c.tree_is_no_longer_than_text.ensures c.words_follow_from_pairs.ensures
