use Rattle.mutate_lines.specs.Killers.{IsRecorded}
use Rattle.mutate_lines.proofs.Least.{killers_are_one}
use Rattle.mutate_lines.proofs.laws.killers_are_one.Goals as goal

pub returns : goal.returns
returns c = λ m tests. killers_are_one (IsRecorded m tests) tests
