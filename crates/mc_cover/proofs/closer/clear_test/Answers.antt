use Rattle.std.proofs.Common.{◌≡◌, ℕ, ◌+◌, ◌*◌, ◌%◌, ◌<◌, List, [], ◌∷◌, sym, ap, ◌∙◌, subst, arith}
use Rattle.std.proofs.lemmas.List.{length-set}
use Rattle.mc_core.specs.declared.shape.Shape.{Shape}
use Rattle.mc_core.specs.Shape.{rows, place}
use Rattle.mc_core.specs.Matrix.{bit_of}
use Rattle.mc_cover.specs.Closed.{left_of}
use mathlib.Core.Logic.{dite}
use native.Mathlib.Decide.{ℕ_discrete}
use Rattle.mc_cover.proofs.Clears.{cleared, cleared_of, clear_more}
use Rattle.mc_cover.proofs.Closed.{left_apart, left_zero}
use Rattle.mc_cover.proofs.closer.clear_test.Goals as goal

pub returns-then-test-shape-clause-bits : goal.returns-then-test-shape-clause-bits
returns-then-test-shape-clause-bits c b t hb ht =
    let k : Shape = c.args.shape in
    let test : ℕ = c.args.test in
    let old : ℕ = bit_of k c.args.words.now b t in
    dite (ℕ_discrete t test)
    (λ e. let past = c.if-test-shape.true in let z : old ≡ 0 = c.requires.spare b t hb (omega arith) ht in z ∙ sym (ap (λ x. left_of (test ∷ []) t x) z ∙ left_zero (test ∷ []) t))
    (λ ne. sym (left_apart test t old ne))

pub loop-bit-preserved : goal.loop-bit-preserved
loop-bit-preserved c =
    let k : Shape = c.args.shape in
    let ws : List ℕ = c.loop-bit.words in
    let test : ℕ = c.args.test in
    let bit : ℕ = c.loop-bit.bit in
    let at : c.place.result ≡ place k bit test = c.place.ensures in record {
      whole = length-set ws c.place.result _ ∙ c.loop-bit.invariant.whole;
      bits = subst (λ (p : ℕ). (b t : ℕ) → b < k.bits → t < 64 * rows k → bit_of k (cleared ws p (test % 64)) b t ≡ cleared_of (bit + 1) test b t (bit_of k c.args.words.now b t)) (sym at)
          (clear_more k ws (λ b t. bit_of k c.args.words.now b t) bit test c.loop-bit.invariant.whole c.loop-bit-test.true (omega arith) c.loop-bit.invariant.bits);
    }
