use Rattle.std.proofs.Common.{refl, arith}
use Rattle.std.proofs.lemmas.Bool.Decides.{nat_tests}
use Rattle.mc_lex.specs.Words.{probe_names}
use Rattle.mc_lex.proofs.word.probe_names_from.Goals as goal

pub returns-in-77 : goal.returns-in-77
unfolding probe_names
returns-in-77 c = rw c.in-77.is refl

pub returns-in-109 : goal.returns-in-109
unfolding probe_names
returns-in-109 c = rw c.in-109.is refl

pub returns-in_default : goal.returns-in_default
unfolding probe_names
returns-in_default c = grind (arith, nat_tests)
