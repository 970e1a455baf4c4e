use Rattle.std.proofs.Common.{rules, arith, ◌∙◌, ap, ◌+ℤ◌, ◌-ℤ◌, FitsSigned}
use Rattle.std.proofs.lemmas.Int.{ints}
use mir.Syntax.{w128}
use Rattle.mc_value.specs.Arithmetic.{fitted}
use Rattle.mc_value.proofs.arithmetic.binary.Goals as goal

pub returns-in-Add-clause-value : goal.returns-in-Add-clause-value
returns-in-Add-clause-value c =
    let fa = c.ranges.a in
    let fb = c.ranges.b in
    let f : FitsSigned w128 (c.args.a +ℤ c.args.b) = search rules in
    rw c.in-Add.is (c.fit.ensures.value ∙ ap (fitted c.args.t) (omega (arith, ints)))

pub returns-in-Sub-clause-value : goal.returns-in-Sub-clause-value
returns-in-Sub-clause-value c =
    let fa = c.ranges.a in
    let fb = c.ranges.b in
    let f : FitsSigned w128 (c.args.a -ℤ c.args.b) = search rules in
    rw c.in-Sub.is (c.fit-in-Sub.ensures.value ∙ ap (fitted c.args.t) (omega (arith, ints)))
