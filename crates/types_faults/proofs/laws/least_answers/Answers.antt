use Rattle.types_faults.proofs.Leasts.{least_joined, least_is_first, no_least}
use Rattle.types_faults.proofs.laws.least_answers.Goals as goal

pub returns-clause-joined : goal.returns-clause-joined
returns-clause-joined c = least_joined

pub returns-clause-first : goal.returns-clause-first
returns-clause-first c = least_is_first

pub returns-clause-none : goal.returns-clause-none
returns-clause-none c = no_least
