use Rattle.std.proofs.Common.{subst, arith}
use Rattle.mc_core.specs.Matrix.{MatrixView, Holds}
use Rattle.mc_core.specs.Joined.{IsWordOf}
use Rattle.mc_core.proofs.Merging.{word_read}
use Rattle.mc_core.proofs.matrix.Matrix.word.Goals as goal

pub returns : goal.returns
returns c =
    let P : MatrixView → Type 0 = λ m. IsWordOf (Holds m c.args.bit) c.index.result.now c.args.row in
    subst P c.self.view_is
    (word_read record { shape = c.self.inside.shape; words = c.self.inside.words.items } c.args.bit c.args.row c.index.result.now c.place.result
    c.self.invariant (omega arith) (omega arith) c.place.ensures c.index.ensures)
