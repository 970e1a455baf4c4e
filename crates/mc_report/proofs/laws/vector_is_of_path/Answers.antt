use Rattle.evidence_texts.proofs.Table.{vector_has_path}
use Rattle.mc_report.proofs.laws.vector_is_of_path.Goals as goal

pub returns : goal.returns
returns c = vector_has_path
