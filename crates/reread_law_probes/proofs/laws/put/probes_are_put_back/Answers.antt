use Rattle.reread_law_probes.proofs.Put.Programs.{put_back_is}
use Rattle.reread_law_probes.proofs.laws.put.probes_are_put_back.Goals as goal

pub returns : goal.returns
returns c tree placed q h = put_back_is tree placed q h
