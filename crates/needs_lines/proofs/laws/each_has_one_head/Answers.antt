use Rattle.needs_lines.proofs.Heads.{one_head}
use Rattle.needs_lines.proofs.laws.each_has_one_head.Goals as goal

pub returns : goal.returns
returns c = one_head
