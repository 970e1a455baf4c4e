use Rattle.std.proofs.Common.{◌≡◌, ℕ, ◌+◌, take, get_or, suc, ◌++◌, [], ◌∷◌, List, sym, ap, ◌∙◌, subst, arith}
use Rattle.std.proofs.Math.Seq.{take-suc}
use Rattle.mc_core.specs.Matrix.{bit_of}
use Rattle.mc_cover.specs.Closed.{left_of}
use Rattle.mc_cover.proofs.Closed.{left_more, left_zero}
use Rattle.mc_cover.proofs.closer.clear_tests.Goals as goal

pub loop-test-preserved : goal.loop-test-preserved
loop-test-preserved c =
    let k = c.args.shape in
    let xs : List ℕ = c.args.tests.now in
    let i : ℕ = c.loop-test.test-index in
    let test : ℕ = get_or xs i 0 in
    let more : take (i + 1) xs ≡ take i xs ++ test ∷ [] = subst (λ (m : ℕ). take m xs ≡ take i xs ++ test ∷ []) (let q : suc i ≡ i + 1 = omega arith in q) (take-suc xs i 0 c.loop-test-test.true) in record {
      whole = c.clear_test.ensures.whole;
      bits = λ b t hb ht.
          let old : ℕ = bit_of k c.args.words.now b t in
          let step = c.clear_test.ensures.bits b t hb ht in
          step ∙ ap (λ x. left_of (test ∷ []) t x) (c.loop-test.invariant.bits b t hb ht) ∙ sym (ap (λ (l : List ℕ). left_of l t old) more ∙ left_more (take i xs) test t old);
    }

pub clear_test-requires-clause-spare : goal.clear_test-requires-clause-spare
clear_test-requires-clause-spare c b t hb past ht =
    let done : List ℕ = take c.loop-test.test-index c.args.tests.now in
    c.loop-test.invariant.bits b t hb ht ∙ ap (λ x. left_of done t x) (c.requires.spare b t hb past ht) ∙ left_zero done t
