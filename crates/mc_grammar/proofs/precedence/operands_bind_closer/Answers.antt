use Rattle.std.proofs.Common.{refl}
use Rattle.mc_grammar.proofs.Sections.{grouped}
use Rattle.mc_grammar.proofs.precedence.operands_bind_closer.Goals as goal

pub returns : goal.returns
returns c d ts rest a p = grouped refl p
