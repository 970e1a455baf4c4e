use Rattle.std.proofs.Common.{◌≡◌, ℕ, ◌<◌, ◌⊎◌, ◌↔◌, List, sym, subst}
use Rattle.mc_core.specs.declared.shape.Shape.{Shape}
use Rattle.mc_core.specs.Matrix.{MatrixView, Holds, IsSound}
use Rattle.mc_core.proofs.Bits.{sound_with, holds_with, written}
use Rattle.mc_core.proofs.matrix.Matrix.set.Goals as goal

pub invariant_of-self : goal.invariant_of-self
invariant_of-self c =
    let s : Shape = c.self.inside.shape in
    let ws : List ℕ = c.self.inside.words.items in
    let in_b : c.args.bit < s.bits = subst (λ (m : MatrixView). c.args.bit < m.shape.bits) (sym c.self.view_is) c.requires.in_range.0 in
    let in_t : c.args.test < s.tests = subst (λ (m : MatrixView). c.args.test < m.shape.tests) (sym c.self.view_is) c.requires.in_range.1 in
    let code = written s ws c.args.bit c.args.test c.place-place.result c.index_mut.result.now c.place-place.ensures c.self.invariant.whole in_b in_t c.index_mut.ensures.value in
    subst (λ (x : List ℕ). IsSound s x) (sym code) (sound_with s ws c.args.bit c.args.test c.self.invariant in_b in_t)

pub returns-clause-pairs : goal.returns-clause-pairs
returns-clause-pairs c b t =
    let s : Shape = c.self.inside.shape in
    let ws : List ℕ = c.self.inside.words.items in
    let in_b : c.args.bit < s.bits = subst (λ (m : MatrixView). c.args.bit < m.shape.bits) (sym c.self.view_is) c.requires.in_range.0 in
    let in_t : c.args.test < s.tests = subst (λ (m : MatrixView). c.args.test < m.shape.tests) (sym c.self.view_is) c.requires.in_range.1 in
    let code = written s ws c.args.bit c.args.test c.place-place.result c.index_mut.result.now c.place-place.ensures c.self.invariant.whole in_b in_t c.index_mut.ensures.value in
    let view = c.self.view_is in
    subst (λ (x : List ℕ × MatrixView). Holds record { shape = s; words = x.0 } b t ↔ (Holds x.1 b t ⊎ ((b ≡ c.args.bit) × (t ≡ c.args.test)))) (λ i. (sym code i, view i))
    (holds_with record { shape = s; words = ws } c.args.bit c.args.test c.self.invariant.whole in_b in_t b t)
