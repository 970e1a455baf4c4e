use Rattle.laws_types.proofs.Silent.{values_free}
use Rattle.laws_types.proofs.silence.values_have_no_fault.Goals as goal

pub returns : goal.returns
returns c = values_free
