use Rattle.std.proofs.Common.{sym, subst}
use Rattle.mc_value.specs.declared.operators.BinOp.TheVariants.{Rem, And, Xor, Or}
use Rattle.mc_value.specs.IntTypes.{InRange}
use Rattle.mc_value.specs.Arithmetic.{binary_of}
use Rattle.mc_value.proofs.Results.{binary_within}
use Rattle.interp_words.specs.Words.{number_of}
use Rattle.interp_words.proofs.Fitting.{within_from}
use Rattle.interp_words.proofs.operators.binary.Goals as goal

pub returns-in-Rem-clause-within : goal.returns-in-Rem-clause-within
returns-in-Rem-clause-within c =
    let a = number_of c.args.of c.args.left in
    let b = number_of c.args.of c.args.right in
    rw c.in-Rem.is (within_from c.args.of c.take_remainder.result (binary_of Rem c.args.of a b) c.take_remainder.ensures
    (binary_within Rem c.args.of a b c.requires.type_promoted c.requires.left c.requires.right))

pub returns-in-And-clause-within : goal.returns-in-And-clause-within
returns-in-And-clause-within c =
    let a = number_of c.args.of c.args.left in
    let b = number_of c.args.of c.args.right in
    rw c.in-And.is (subst (InRange c.args.of) (sym c.and.ensures)
    (binary_within And c.args.of a b c.requires.type_promoted c.requires.left c.requires.right))

pub returns-in-Xor-clause-within : goal.returns-in-Xor-clause-within
returns-in-Xor-clause-within c =
    let a = number_of c.args.of c.args.left in
    let b = number_of c.args.of c.args.right in
    rw c.in-Xor.is (subst (InRange c.args.of) (sym c.xor.ensures)
    (binary_within Xor c.args.of a b c.requires.type_promoted c.requires.left c.requires.right))

pub returns-in-Or-clause-within : goal.returns-in-Or-clause-within
returns-in-Or-clause-within c =
    let a = number_of c.args.of c.args.left in
    let b = number_of c.args.of c.args.right in
    rw c.in-Or.is (subst (InRange c.args.of) (sym c.or.ensures)
    (binary_within Or c.args.of a b c.requires.type_promoted c.requires.left c.requires.right))
