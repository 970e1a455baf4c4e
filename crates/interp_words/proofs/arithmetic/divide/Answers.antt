use Rattle.std.proofs.Common.{rules, arith, sym, ap, subst, ◌∙◌, FitsSigned, to_z, of_z}
use Rattle.std.proofs.lemmas.Int.{to_z-of_z}
use mir.Syntax.{w64}
use Rattle.mc_value.specs.Arithmetic.{fitted}
use Rattle.interp_words.proofs.Fitting.{divides_some, divides_none}
use Rattle.interp_words.proofs.arithmetic.divide.Goals as goal

pub returns-in-Some : goal.returns-in-Some
returns-in-Some c =
    let s = sym c.is_signed.ensures ∙ c.if-is_signed.true in
    let x = c.cast_signed.result in
    let y = c.cast_signed-then-is_signed.result in
    let fx : FitsSigned w64 c.cast_signed.result = search rules in
    let fy : FitsSigned w64 c.cast_signed-then-is_signed.result = search rules in
    let ex = to_z-of_z w64 x fx ∙ c.cast_signed.ensures in
    let ey = to_z-of_z w64 y fy ∙ c.cast_signed-then-is_signed.ensures in
    let eq = sym c.in-Some.ensures.1 in
    let fq = subst (FitsSigned w64) eq c.in-Some.ensures.0.1 in
    c.in_type.ensures
    ∙ ap (fitted c.args.of) (to_z-of_z w64 c.in-Some.quotient fq)
    ∙ divides_some c.args.of c.args.left c.args.right (to_z w64 (of_z w64 x)) (to_z w64 (of_z w64 y)) c.in-Some.quotient s ex ey
    (omega (arith, c.ranges.right.fits)) c.if-right-eq0.false eq

pub returns-in-None : goal.returns-in-None
returns-in-None c =
    let s = sym c.is_signed.ensures ∙ c.if-is_signed.true in
    let x = c.cast_signed.result in
    let y = c.cast_signed-then-is_signed.result in
    let fx : FitsSigned w64 c.cast_signed.result = search rules in
    let fy : FitsSigned w64 c.cast_signed-then-is_signed.result = search rules in
    let ex = to_z-of_z w64 x fx ∙ c.cast_signed.ensures in
    let ey = to_z-of_z w64 y fy ∙ c.cast_signed-then-is_signed.ensures in
    divides_none c.args.of c.args.left c.args.right (to_z w64 (of_z w64 x)) (to_z w64 (of_z w64 y)) s ex ey
    (omega (arith, c.ranges.right.fits)) c.if-right-eq0.false c.in-None.ensures
