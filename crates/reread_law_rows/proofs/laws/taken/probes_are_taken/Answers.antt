use Rattle.reread_law_rows.proofs.Taken.Taken.{probes_are_taken}
use Rattle.reread_law_rows.proofs.laws.taken.probes_are_taken.Goals as goal

pub returns : goal.returns
returns c = probes_are_taken c.programs_have_their_source.ensures
