use Rattle.reread_law_probes.proofs.Short.Programs.{numbers_short}
use Rattle.reread_law_probes.proofs.laws.short.instrumented_numbers_are_short.Goals as goal

pub returns : goal.returns
returns c program m h = numbers_short program m h
