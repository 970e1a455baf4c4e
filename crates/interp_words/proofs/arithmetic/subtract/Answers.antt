use Rattle.std.proofs.Common.{rules, sym, ◌∙◌, FitsSigned, to_z, of_z}
use Rattle.std.proofs.lemmas.Int.{to_z-of_z}
use mir.Syntax.{w64}
use Rattle.interp_words.proofs.Fitting.{none_less}
use Rattle.interp_words.proofs.arithmetic.subtract.Goals as goal

pub returns-in-None : goal.returns-in-None
returns-in-None c =
    let s = sym c.is_signed.ensures ∙ c.if-is_signed.true in
    let x = c.cast_signed.result in
    let y = c.cast_signed-then-is_signed.result in
    let fx : FitsSigned w64 c.cast_signed.result = search rules in
    let fy : FitsSigned w64 c.cast_signed-then-is_signed.result = search rules in
    let ex = to_z-of_z w64 x fx ∙ c.cast_signed.ensures in
    let ey = to_z-of_z w64 y fy ∙ c.cast_signed-then-is_signed.ensures in
    none_less c.args.of c.args.left c.args.right (to_z w64 (of_z w64 x)) (to_z w64 (of_z w64 y)) s ex ey c.in-None.ensures
