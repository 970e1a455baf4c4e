use Rattle.mc_list.proofs.Joining.{whole, are_lines}
use Rattle.mc_list.proofs.laws.text_has_lines.Goals as goal

pub returns : goal.returns
returns c = λ text. record { whole = whole text; each = are_lines text }
