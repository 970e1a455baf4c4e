use Rattle.std.proofs.Common.{rules, arith, ◌≡◌, pos, sym, ◌∙◌, ap, ◌*ℤ◌, FitsSigned, to_z, of_z, Ok}
use Rattle.std.proofs.lemmas.Int.{to_z-of_z}
use mir.Syntax.{w128}
use Rattle.mc_value.specs.IntTypes.{in_range}
use Rattle.std.proofs.Common.{◌<◌, ◌*◌, ◌^◌, ◌%◌, refl, int_le}
use Rattle.mc_value.proofs.Bounds.{width_le, power_is, shift_fits, left_wraps, left_fits}
use Rattle.mc_value.specs.Conversions.{wrapped}
use Rattle.mc_value.proofs.shifts.shift_left.Goals as goal

pub overflow_mul-product : goal.overflow_mul-product
overflow_mul-product c =
    let small : c.args.count < 64 = let w = width_le c.args.t in let k = c.requires.amount in omega arith in
    rw (to_z-of_z w128 c.args.a c.ranges.a, power_is c.args.count small) (shift_fits c.args.t c.args.a c.args.count c.requires.operand small)

pub returns-then-not-is_signed-clause-value : goal.returns-then-not-is_signed-clause-value
returns-then-not-is_signed-clause-value c =
    let small : c.args.count < 64 = let w = width_le c.args.t in let k = c.requires.amount in omega arith in
    let e : to_z w128 (of_z w128 c.args.a) *ℤ to_z w128 ((1 * 2 ^ c.args.count) % 2 ^ 128) ≡ c.args.a *ℤ pos (2 ^ c.args.count) =
    rw (to_z-of_z w128 c.args.a c.ranges.a, power_is c.args.count small) refl in
    let f = shift_fits c.args.t c.args.a c.args.count c.requires.operand small in
    let p = ap (λ z. to_z w128 (of_z w128 z)) e ∙ to_z-of_z w128 _ f in
    let r : FitsSigned w128 c.wrap.result = search rules in
    ap Ok (to_z-of_z w128 c.wrap.result r ∙ c.wrap.ensures.value ∙ ap (wrapped c.args.t) p) ∙ left_wraps c.args.t c.args.a c.args.count (sym c.is_signed.ensures ∙ c.if-not-is_signed.true)

pub returns-then-is_in-clause-value : goal.returns-then-is_in-clause-value
returns-then-is_in-clause-value c =
    let small : c.args.count < 64 = let w = width_le c.args.t in let k = c.requires.amount in omega arith in
    let e : to_z w128 (of_z w128 c.args.a) *ℤ to_z w128 ((1 * 2 ^ c.args.count) % 2 ^ 128) ≡ c.args.a *ℤ pos (2 ^ c.args.count) =
    rw (to_z-of_z w128 c.args.a c.ranges.a, power_is c.args.count small) refl in
    let f = shift_fits c.args.t c.args.a c.args.count c.requires.operand small in
    let p = ap (λ z. to_z w128 (of_z w128 z)) e ∙ to_z-of_z w128 _ f in
    let s = sym c.is_signed.ensures ∙ c.if-not-is_signed.false in
    let n = ap (int_le (pos 0)) (sym (to_z-of_z w128 c.args.a c.ranges.a)) ∙ c.if-a-ge0.true in
    let i = ap (in_range c.args.t) (sym p) ∙ sym c.is_in.ensures.value ∙ c.if-is_in.true in
    ap Ok p ∙ left_fits c.args.t c.args.a c.args.count s n i
