use Rattle.reread_law_texts.proofs.Apart.Ascending.{distinct}
use Rattle.reread_law_probes.specs.stood.Stands.{stands_in_unit}
use Rattle.reread_law_probes.proofs.Stood.StoodStatements.{stood_text}
use Rattle.reread_law_probes.proofs.laws.stood.stands_are_apart.Goals as goal

pub returns : goal.returns
returns c d tokens unit h p = distinct 0 (stands_in_unit unit) (stood_text tokens p h)
