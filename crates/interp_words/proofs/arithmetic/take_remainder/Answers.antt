use Rattle.std.proofs.Common.{rules, arith, sym, ◌∙◌, FitsSigned, int_rem}
use Rattle.std.proofs.lemmas.Int.{to_z-of_z}
use mir.Syntax.{w64}
use Rattle.mc_value.specs.Arithmetic.{quotient}
use Rattle.interp_words.specs.Words.{number_of}
use Rattle.interp_words.proofs.Fitting.{divided_ok, remainder_runs, remainder_fits, remainder_word, remainder_unsigned}
use Rattle.interp_words.proofs.arithmetic.take_remainder.Goals as goal

pub nonzero_rem-cast_signed : goal.nonzero_rem-cast_signed
nonzero_rem-cast_signed c =
    let s = sym c.is_signed.ensures ∙ c.if-is_signed.true in
    let x = c.cast_signed.result in
    let y = c.cast_signed-then-is_signed.result in
    let a = number_of c.args.of c.args.left in
    let b = number_of c.args.of c.args.right in
    let ok = divided_ok c.args.of a b (quotient a b) (number_of c.args.of c.in-Ok.field-0) c.in-Ok.ensures in
    remainder_runs c.args.of c.args.left c.args.right x y s c.cast_signed.ensures c.cast_signed-then-is_signed.ensures
    (omega (arith, c.ranges.left.fits)) (omega (arith, c.ranges.right.fits)) ok.0 ok.1

pub returns-then-is_signed : goal.returns-then-is_signed
returns-then-is_signed c =
    let s = sym c.is_signed.ensures ∙ c.if-is_signed.true in
    let x = c.cast_signed.result in
    let y = c.cast_signed-then-is_signed.result in
    let a = number_of c.args.of c.args.left in
    let b = number_of c.args.of c.args.right in
    let ok = divided_ok c.args.of a b (quotient a b) (number_of c.args.of c.in-Ok.field-0) c.in-Ok.ensures in
    let fx : FitsSigned w64 c.cast_signed.result = search rules in
    let fy : FitsSigned w64 c.cast_signed-then-is_signed.result = search rules in
    let fr : FitsSigned w64 (int_rem c.cast_signed.result c.cast_signed-then-is_signed.result) =
    remainder_fits c.args.of c.args.left c.args.right x y s c.cast_signed.ensures c.cast_signed-then-is_signed.ensures c.requires.left in
    let rest = simp to_z-of_z at c.cast_unsigned.ensures in
    remainder_word c.args.of c.args.left c.args.right x y c.cast_unsigned.result s c.cast_signed.ensures c.cast_signed-then-is_signed.ensures
    c.requires.left ok.0 ok.1 rest

pub returns-else-is_signed : goal.returns-else-is_signed
returns-else-is_signed c =
    let a = number_of c.args.of c.args.left in
    let b = number_of c.args.of c.args.right in
    let ok = divided_ok c.args.of a b (quotient a b) (number_of c.args.of c.in-Ok.field-0) c.in-Ok.ensures in
    remainder_unsigned c.args.of c.args.left c.args.right (sym c.is_signed.ensures ∙ c.if-is_signed.false) ok.0 ok.1
