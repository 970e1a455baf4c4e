use Rattle.laws_records.proofs.FirstLines.{unknown_versions_are_refused}
use Rattle.laws_records.proofs.laws.unknown_versions_are_refused.Goals as goal

pub returns : goal.returns
returns c = unknown_versions_are_refused
