use Rattle.std.proofs.Common.{refl}
use Rattle.reread_put_back.proofs.laws.probes_round_conversions.Goals as goal

pub returns-clause-switch : goal.returns-clause-switch
returns-clause-switch c = refl

pub returns-clause-flag : goal.returns-clause-flag
returns-clause-flag c = refl
