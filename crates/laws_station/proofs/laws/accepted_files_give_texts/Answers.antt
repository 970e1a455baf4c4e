use Rattle.laws_station.proofs.Accepting.{accepted_files_end_well, accepted_files_give_texts}
use Rattle.laws_station.proofs.laws.accepted_files_give_texts.Goals as goal

pub returns-clause-reply : goal.returns-clause-reply
returns-clause-reply c = accepted_files_give_texts

pub returns-clause-status : goal.returns-clause-status
returns-clause-status c = accepted_files_end_well
