use Rattle.mc_grammar.proofs.Typedefs.{never_again}
use Rattle.mc_grammar.proofs.laws.typedef_name_is_not_declared_again.Goals as goal

pub returns-clause-later : goal.returns-clause-later
returns-clause-later c = never_again
