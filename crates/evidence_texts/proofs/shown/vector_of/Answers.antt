use Rattle.evidence_texts.proofs.Paths.{used_numbered, vector_here}
use Rattle.evidence_texts.proofs.shown.vector_of.Goals as goal

pub vector_of-requires : goal.vector_of-requires
vector_of-requires c = used_numbered c.args.mapped.now c.args.path c.requires

pub returns : goal.returns
returns c = vector_here c.args.mapped.now c.args.path c.vector_of.result c.vector_of.ensures
