use Rattle.std.proofs.Common.{sym, subst}
use Rattle.mc_value.specs.declared.operators.UnOp.TheVariants.{Flip}
use Rattle.mc_value.specs.IntTypes.{InRange}
use Rattle.mc_value.proofs.Results.{unary_within}
use Rattle.interp_words.specs.Words.{number_of}
use Rattle.interp_words.proofs.operators.unary.Goals as goal

pub returns-in-Flip-clause-within : goal.returns-in-Flip-clause-within
returns-in-Flip-clause-within c =
    rw c.in-Flip.is (subst (InRange c.args.of) (sym c.flip.ensures)
    (unary_within Flip c.args.of (number_of c.args.of c.args.operand) c.requires.type_promoted c.requires.operand))
