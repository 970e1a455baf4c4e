use Rattle.std.proofs.Common.{arith, ◌≡◌, pos, false, sym, ◌∙◌, ap, to_z, int_lt, int_le}
use Rattle.std.proofs.lemmas.Int.{to_z-of_z, to_z_pos}
use mir.Syntax.{w128}
use Rattle.mc_value.specs.IntTypes.{width_of}
use Rattle.mc_value.proofs.Bounds.{width_le, by_amount}
use Rattle.mc_value.proofs.shifts.shift.Goals as goal

pub returns-clause-value : goal.returns-clause-value
returns-clause-value c =
    let fa = c.ranges.a in
    let fc = c.ranges.count in
    let e = to_z-of_z w128 c.args.count fc in
    let w : to_z w128 c.width.result ≡ pos (width_of c.args.t) = rw c.width.ensures (to_z_pos w128 (width_of c.args.t) (let u = width_le c.args.t in omega arith)) in
    let low : int_lt c.args.count (pos 0) ≡ false = ap (λ z. int_lt z (pos 0)) (sym e) ∙ c.if-count-lt0.false in
    let high : int_le (pos (width_of c.args.t)) c.args.count ≡ false = ap (λ z. int_le z c.args.count) (sym w) ∙ ap (int_le (to_z w128 c.width.result)) (sym e) ∙ c.if-width-count.false in
    simp to_z-of_z at c.shift_by.ensures.value ∙ by_amount c.args.op c.args.t c.args.a c.args.count low high
