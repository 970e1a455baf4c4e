use Rattle.laws_station.proofs.ByWorkers.{workers_call_alike, workers_lead_alike, workers_reply_alike}
use Rattle.laws_station.proofs.workers.workers_change_nothing.Goals as goal

pub returns-clause-leads : goal.returns-clause-leads
returns-clause-leads c = workers_lead_alike

pub returns-clause-calls : goal.returns-clause-calls
returns-clause-calls c = workers_call_alike

pub returns-clause-replies : goal.returns-clause-replies
returns-clause-replies c = workers_reply_alike c.words_follow_from_pairs.ensures
