use Rattle.std.proofs.Common.{◌≡◌, ◌/◌, ◌%◌, ◌^◌, ◌↔◌, true, subst, arith}
use Rattle.std.specs.Prelude.{◌==◌, bit_and}
use Rattle.mc_core.specs.Matrix.{MatrixView, Holds}
use Rattle.mc_core.proofs.Bits.{tested}
use Rattle.mc_core.proofs.matrix.Matrix.holds.Goals as goal

pub returns : goal.returns
returns c =
    subst (λ (m : MatrixView). (bit_and (c.index.result.now / 2 ^ (c.args.test % 64)) 1 == 1) ≡ true ↔ Holds m c.args.bit c.args.test) c.self.view_is
    (tested c.self.inside.shape c.self.inside.words.items c.args.bit c.args.test c.place.result c.index.result.now c.place.ensures c.self.invariant.whole (omega arith) (omega arith) c.index.ensures)
