use Rattle.reread_law_probes.proofs.Counted.Programs.{are_counted}
use Rattle.reread_law_probes.proofs.laws.counted.instrumented_programs_are_counted.Goals as goal

pub returns : goal.returns
returns c program m plain h = are_counted program m plain h
