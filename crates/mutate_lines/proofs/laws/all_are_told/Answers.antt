use Rattle.mutate_lines.proofs.Told.{all_told}
use Rattle.mutate_lines.proofs.laws.all_are_told.Goals as goal

pub returns : goal.returns
returns c = all_told
