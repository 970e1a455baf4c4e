use Rattle.std.proofs.Common.{◌≡◌, ◌+◌, ℕ, List, take, get_or, sym, subst}
use Rattle.std.specs.Prelude.{Contains}
use Rattle.std.specs.List.{AllZip}
use Rattle.std.proofs.lemmas.List.{get_or_default}
use Rattle.std.proofs.lemmas.List.Elements.{Contains-get_or, all_zip_more}
use Rattle.mc_probe.specs.BitMaps.{map_of}
use Rattle.mc_oblige.specs.Shown.{HasEvent}
use Rattle.mc_reduce.specs.Kept.{IsFirstLost}
use Rattle.mc_reduce.specs.steps.Counts.{HasCounts}
use Rattle.mc_reduce.specs.steps.Loss.{IsCounted, IsLeft, IsFirstMissed, NoneMissed}
use Rattle.mc_reduce.proofs.Keeping.{kept_is_test}
use Rattle.mc_reduce.proofs.Tallies.{kept_fit, kept_distinct}
use Rattle.mc_reduce.proofs.Steps.{never_none, lost_first}
use Rattle.mc_reduce.proofs.kept.all_lost.Goals as goal

pub turn_to-requires-clause-test : goal.turn_to-requires-clause-test
turn_to-requires-clause-test c =
    let m = map_of c.args.map.now in
    let x = c.args.matrix.now in
    let mode = c.args.mode in
    let kept = c.args.kept.now in
    let counts = c.args.counts.now in
    let i = c.loop-test.test-index in
    let test : ℕ = get_or kept i 0 in
    let has : Contains kept test = Contains-get_or kept i 0 c.loop-test-test.true in
    kept_is_test (HasEvent m x) m mode x.shape.tests kept c.requires.kept test has

pub lost_without-requires-clause-counts : goal.lost_without-requires-clause-counts
lost_without-requires-clause-counts c =
    let m = map_of c.args.map.now in
    let x = c.args.matrix.now in
    let mode = c.args.mode in
    let kept = c.args.kept.now in
    let counts = c.args.counts.now in
    let i = c.loop-test.test-index in
    let test : ℕ = get_or kept i 0 in
    let has : Contains kept test = Contains-get_or kept i 0 c.loop-test-test.true in
    let words = c.turn_to.new.self.words.items in
    let row = c.turn_to.new.self.row in
    let at = c.in_ok-turn_to.ensures.words in
    let is = c.in_ok-turn_to.ensures.row in
    let are = c.requires.kept in
    subst (λ (ws : List ℕ). HasCounts test counts ws) (sym c.words-words.ensures)
    (kept_fit m x mode kept counts words test row c.requires.counts at is (kept_distinct m x mode kept are) has (kept_is_test (HasEvent m x) m mode x.shape.tests kept are))

pub lost_without-requires-clause-needed : goal.lost_without-requires-clause-needed
lost_without-requires-clause-needed c =
    let m = map_of c.args.map.now in
    let x = c.args.matrix.now in
    let mode = c.args.mode in
    let kept = c.args.kept.now in
    let counts = c.args.counts.now in
    let i = c.loop-test.test-index in
    let test : ℕ = get_or kept i 0 in
    let has : Contains kept test = Contains-get_or kept i 0 c.loop-test-test.true in
    let words = c.turn_to.new.self.words.items in
    let row = c.turn_to.new.self.row in
    let at = c.in_ok-turn_to.ensures.words in
    let is = c.in_ok-turn_to.ensures.row in
    let are = c.requires.kept in
    subst (λ (ws : List ℕ). ¬ NoneMissed m mode (IsCounted counts) (IsLeft test counts ws)) (sym c.words-words.ensures)
    (never_none m x mode kept counts words test row are c.requires.counts at is has)

pub loop-test-preserved : goal.loop-test-preserved
loop-test-preserved c =
    let m = map_of c.args.map.now in
    let x = c.args.matrix.now in
    let mode = c.args.mode in
    let kept = c.args.kept.now in
    let counts = c.args.counts.now in
    let i = c.loop-test.test-index in
    let test : ℕ = get_or kept i 0 in
    let has : Contains kept test = Contains-get_or kept i 0 c.loop-test-test.true in
    let words = c.turn_to.new.self.words.items in
    let row = c.turn_to.new.self.row in
    let at = c.in_ok-turn_to.ensures.words in
    let is = c.in_ok-turn_to.ensures.row in
    let are = c.requires.kept in
    let R : ℕ → ℕ → Type 0 = IsFirstLost (HasEvent m x) m mode kept in
    let position = c.in_ok-lost_without.field-0 in
    let missed = subst (λ (ws : List ℕ). IsFirstMissed m mode (IsCounted counts) (IsLeft test counts ws) position) c.words-words.ensures c.in_ok-lost_without.ensures in
    let own = lost_first m x mode kept counts words test row are c.requires.counts at is has position missed in
    let read : test ≡ get_or kept i test = get_or_default kept i 0 test c.loop-test-test.true in
    record {
      lost = subst (λ (ps : List ℕ). AllZip R (take (i + 1) kept) ps) (sym c.in_ok-push.ensures.items)
          (all_zip_more R kept c.loop-test.lost.items i test position c.loop-test-test.true read c.loop-test.invariant.lost own);
      words = at;
    }
