use Rattle.laws_results.proofs.Plain.{traces_are}
use Rattle.laws_results.proofs.laws.traces_are_plain.Goals as goal

pub returns : goal.returns
returns c = traces_are
