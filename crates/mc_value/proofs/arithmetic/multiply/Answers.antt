use Rattle.std.proofs.Common.{sym, ◌∙◌, ◌*ℤ◌, FitsSigned}
use Rattle.std.proofs.lemmas.Int.{to_z-of_z}
use mir.Syntax.{w128}
use Rattle.mc_value.proofs.Bounds.{product_fits}
use Rattle.mc_value.proofs.arithmetic.multiply.Goals as goal

pub returns-then-is_signed-clause-value : goal.returns-then-is_signed-clause-value
returns-then-is_signed-clause-value c =
    let fa = c.ranges.a in
    let fb = c.ranges.b in
    let f : FitsSigned w128 (c.args.a *ℤ c.args.b) = product_fits c.args.t c.args.a c.args.b (sym (c.is_signed.ensures) ∙ c.if-is_signed.true) c.requires.left c.requires.right in
    simp to_z-of_z at c.fit.ensures.value
