use Rattle.std.proofs.Common.{◌≡◌, ℕ, ◌+◌, ◌^◌, ◌<◌, ◌≤◌, List, length, get_or, count_ones, sym, ap, ◌∙◌, subst, arith}
use Rattle.std.specs.Prelude.{sum_by}
use Rattle.std.specs.Int.Count.{ones-le}
use Rattle.std.proofs.lemmas.List.{take_all}
use Rattle.std.proofs.lemmas.List.Sums.{sum_by_more}
use Rattle.mc_core.specs.Matrix.{Holds}
use Rattle.mc_watch.specs.Watched.{AreSoMany}
use Rattle.mc_watch.proofs.Sets.{so_many_held}
use Rattle.mc_watch.proofs.counting.pairs.Goals as goal

pub loop-word-preserved : goal.loop-word-preserved
loop-word-preserved c =
    let words : List ℕ = c.args.matrix.now.words in
    let i : ℕ = c.loop-word.word-index in
    let inv = c.loop-word.invariant in
    let same = c.as_words-word-items.ensures.words in
    let inside : i < length words = subst (λ (l : List ℕ). i < length l) same c.loop-word-test.true in
    let x : ℕ = get_or words i 0 in
    let is = ap (λ (l : List ℕ). get_or l i 0) same in
    let small : x < 2 ^ 64 = c.as_words-word-items.ensures.fits i 0 inside in
    let bits = ones-le 64 x small in
    let more = sum_by_more count_ones words i 0 inside in
    let ones = ap count_ones is in record {
      counted = (λ k. inv.counted k + ones k) ∙ sym more;
      few = let few = inv.few in omega arith;
    }

pub returns : goal.returns
returns c =
    let words : List ℕ = c.args.matrix.now.words in
    let i : ℕ = c.loop-word.word-index in
    let inv = c.loop-word.invariant in
    let same = c.as_words-word-items.ensures.words in
    let sound = c.as_words-word-items.ensures.sound in
    let end = c.loop-word-test.false in
    let past : length words ≤ i = (let long = ap (λ (l : List ℕ). length l) same in omega arith) in
    let all : c.loop-word.count ≡ sum_by count_ones words = inv.counted ∙ ap (λ (l : List ℕ). sum_by count_ones l) (take_all i words past) in
    subst (AreSoMany (Holds c.args.matrix.now)) (sym all) (so_many_held c.args.matrix.now sound.whole sound.spare c.as_words-word-items.ensures.fits)
