use Rattle.std.proofs.Common.{ℕ, ◌+◌, ◌*◌, subst, arith}
use Rattle.std.specs.Int.{w64, trailing_zeros}
use Rattle.mc_core.specs.declared.shape.Shape.{Shape}
use Rattle.mc_core.specs.Matrix.{MatrixView}
use Rattle.mc_core.proofs.Least.{IsLeast, is_least}
use Rattle.mc_core.proofs.matrix.Matrix.least_test.Goals as goal

pub returns-then-word-ne0-clause-some : goal.returns-then-word-ne0-clause-some
returns-then-word-ne0-clause-some c =
    let s : Shape = c.self.inside.shape in
    let from : ℕ = c.place-first.result in
    let x : ℕ = c.index-word.result.now in
    subst (λ (m : MatrixView). IsLeast m c.args.bit (c.loop-row.row * 64 + trailing_zeros w64 x)) c.self.view_is
    (is_least s c.self.inside.words.items c.args.bit c.loop-row.row from x c.self.invariant (omega arith) c.place-first.ensures (omega arith) c.index-word.ensures c.if-word-ne0.true (omega arith) c.loop-row.invariant)

pub returns-then-word-ne0-clause-none : goal.returns-then-word-ne0-clause-none
returns-then-word-ne0-clause-none c =
    let s : Shape = c.self.inside.shape in
    let from : ℕ = c.place-first.result in
    let x : ℕ = c.index-word.result.now in
    let least = subst (λ (m : MatrixView). IsLeast m c.args.bit (c.loop-row.row * 64 + trailing_zeros w64 x)) c.self.view_is
    (is_least s c.self.inside.words.items c.args.bit c.loop-row.row from x c.self.invariant (omega arith) c.place-first.ensures (omega arith) c.index-word.ensures c.if-word-ne0.true (omega arith) c.loop-row.invariant) in (
      (λ never t h. absurd (cc)),
      (λ none. absurd (none _ least.0)),
    )
