use Rattle.std.proofs.Common.{arith, ◌∙◌, ap}
use Rattle.std.proofs.lemmas.Int.{ints}
use Rattle.mc_value.specs.Arithmetic.{fitted}
use Rattle.mc_value.proofs.Bounds.{low_side}
use Rattle.mc_value.proofs.arithmetic.unary.Goals as goal

pub returns-in-Minus-clause-value : goal.returns-in-Minus-clause-value
returns-in-Minus-clause-value c =
    let fa = c.ranges.a in
    let low = (low_side c.args.t).0 in
    let least = c.requires.operand.least in
    rw c.in-Minus.is (c.fit.ensures.value ∙ ap (fitted c.args.t) (omega (arith, ints)))
