use Rattle.laws_verdicts.proofs.laws.one_event_is_no_pair.Goals as goal

pub returns : goal.returns
returns c d k e h = h
