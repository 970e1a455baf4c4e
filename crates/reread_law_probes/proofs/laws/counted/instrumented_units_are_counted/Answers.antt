use Rattle.laws_soundness.proofs.PlainUnits.{units_plain}
use Rattle.reread_law_probes.proofs.Counted.Programs.{are_counted}
use Rattle.reread_law_probes.proofs.laws.counted.instrumented_units_are_counted.Goals as goal

pub returns : goal.returns
returns c items program m typed h = are_counted program m (units_plain items program typed) h
