use Rattle.std.proofs.Common.{◌≡◌, ℕ, ◌++◌, [], take, drop, length, List, sym, ap, ◌∙◌, subst}
use Rattle.std.specs.Prelude.{Contains, ◌↔◌}
use Rattle.std.proofs.Math.Seq.{take-append_seam}
use Rattle.mc_core.specs.Matrix.{Holds, HasNoSpareBit, MatrixView, bit_of}
use Rattle.mc_core.specs.Shape.{rows}
use Rattle.mc_cover.specs.Closed.{HasHits, AreInRange, left_of}
use Rattle.mc_cover.specs.Model.{CoverView}
use Rattle.mc_cover.proofs.Closed.{no_spare, pairs}
use Rattle.mc_cover.proofs.closer.SkippingCloserCloser.close.Goals as goal
use Rattle.mc_cover.proofs.closer.SkippingCloserCloser.close.Goals.{After-closing_words-words, After-clear_tests}

in_range : (c : After-closing_words-words) → AreInRange c.cover.inside.shape c.args.pass.view.hits
in_range c = subst (λ (x : CoverView). AreInRange x.shape c.args.pass.view.hits) (sym c.cover.view_is) c.closing_words-words.ensures.in_range

all_hits : (c : After-closing_words-words) → HasHits c.cover.inside.shape c.args.pass.view.hits [] c.closing_words-words.result.items
all_hits c = subst (λ (x : CoverView). HasHits x.shape c.args.pass.view.hits [] c.closing_words-words.result.items) (sym c.cover.view_is) c.closing_words-words.ensures.bits

-- the words that the matrix is made of
final : (c : After-clear_tests) → take c.closing_words-words.result.len (c.clear_tests.new.words ++ drop (length c.clear_tests.new.words) c.closing_words-words.result.items) ≡ c.clear_tests.new.words
final c =
    let W : List ℕ = c.clear_tests.new.words in
    let old : List ℕ = c.closing_words-words.result.items in
    let whole = c.closing_words-words.ensures.whole in
    let long = c.clear_tests.ensures.whole in
    let same : c.closing_words-words.result.len ≡ length W = whole ∙ sym (long ∙ ap (λ (x : CoverView). Rattle.mc_core.specs.Shape.word_count x.shape) c.cover.view_is) in
    ap (λ (n : ℕ). take n (W ++ drop (length W) old)) same ∙ take-append_seam W (drop (length W) old)

kept_hits : (c : After-clear_tests) → HasHits c.cover.inside.shape c.args.pass.view.hits c.args.self.now.skipped.items c.clear_tests.new.words
kept_hits c b t hb ht =
    let k = c.cover.inside.shape in
    let skipped : List ℕ = c.args.self.now.skipped.items in
    let e = subst (λ (x : CoverView). HasHits x.shape c.args.pass.view.hits [] c.closing_words-words.result.items) (sym c.cover.view_is) c.closing_words-words.ensures.bits b t hb ht in
    c.clear_tests.ensures.bits b t hb ht
    ∙ (λ i. left_of (c.as_slice.ensures.value i) t (bit_of k (c.as_mut_slice.ensures.value i) b t))
    ∙ ap (λ x. left_of skipped t x) e

pub clear_tests-requires-clause-spare : goal.clear_tests-requires-clause-spare
clear_tests-requires-clause-spare c =
    let at = (goal.at.clear_tests-requires-clause-spare c).After-closing_words-words in
    subst (HasNoSpareBit c.cover.inside.shape) (sym c.as_mut_slice.ensures.value) (no_spare c.cover.inside.shape c.args.pass.view.hits [] c.closing_words-words.result.items (in_range at) (all_hits at))

pub of_words-requires-clause-spare : goal.of_words-requires-clause-spare
of_words-requires-clause-spare c =
    let at = (goal.at.of_words-requires-clause-spare c).After-clear_tests in
    let start = (goal.at.of_words-requires-clause-spare c).After-closing_words-words in
    subst (HasNoSpareBit c.cover.inside.shape) (sym (final at)) (no_spare c.cover.inside.shape c.args.pass.view.hits c.args.self.now.skipped.items c.clear_tests.new.words (in_range start) (kept_hits at))

pub returns-clause-pairs : goal.returns-clause-pairs
returns-clause-pairs c b t =
    let at = (goal.at.returns-clause-pairs c).After-clear_tests in
    let start = (goal.at.returns-clause-pairs c).After-closing_words-words in
    let k = c.cover.inside.shape in
    let p = pairs k c.args.pass.view.hits c.args.self.now.skipped.items c.clear_tests.new.words (in_range start) (kept_hits at) b t in
    subst (λ (m : MatrixView). Holds m b t ↔ (Contains c.args.pass.view.hits (b, t) × ¬ Contains c.args.self.now.skipped.items t)) (sym (c.of_words.ensures ∙ (λ i. let m : MatrixView = record { shape = k; words = final at i } in m))) p
