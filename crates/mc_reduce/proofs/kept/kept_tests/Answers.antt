use Rattle.std.proofs.Common.{◌≡◌, ◌<◌, ◌+◌, ◌-◌, ◌%◌, ◌∷◌, [], ℕ, suc, List, length, get_or, sym, ap, subst, ◌∙◌, arith}
use Rattle.std.specs.Prelude.{reverse}
use Rattle.std.specs.Int.{bit_at}
use Rattle.std.proofs.lemmas.List.{reverse-append}
use Rattle.mc_core.specs.declared.shape.Shape.{Shape}
use Rattle.mc_probe.specs.BitMaps.{map_of}
use Rattle.mc_reduce.specs.steps.Counts.{HasCounts}
use Rattle.mc_reduce.specs.steps.Loss.{IsCounted, IsLeft, SomeMissed, NoneMissed}
use Rattle.mc_reduce.proofs.Tallies.{counts_fit}
use Rattle.mc_reduce.proofs.Trees.{on_true, on_false}
use Rattle.mc_reduce.proofs.Steps.{IsTurn, first_turn, stays, drops}
use Rattle.mc_reduce.proofs.kept.kept_tests.Goals as goal

pub turns-init : goal.turns-init
turns-init c =
    let m = map_of c.args.map.now in
    let x = c.args.matrix.now in
    let mode = c.args.mode in
    let counts = c.args.counts.now in
    let shown = c.args.shown.now in
    let tests : c.shape-left.result.tests ≡ x.shape.tests = ap (λ (s : Shape). s.tests) c.shape-left.ensures in
    let none = subst (λ (ks : List ℕ). IsTurn m x mode x.shape.tests (reverse ks) counts shown) (sym c.new-kept.ensures.items) (first_turn m x mode counts shown c.requires.counts c.requires.shown) in
    record {
      turn = subst (λ (k : ℕ). IsTurn m x mode k (reverse c.new-kept.result.items) counts shown) (sym tests) none;
      words = c.in_ok-columns.ensures;
    }

pub is_needed-requires-clause-counts : goal.is_needed-requires-clause-counts
is_needed-requires-clause-counts c =
    let m = map_of c.args.map.now in
    let x = c.args.matrix.now in
    let mode = c.args.mode in
    let n : ℕ = c.turns.left - 1 in
    let stayed = reverse c.turns.kept.items in
    let counts = c.turns.counts in
    let shown = c.args.shown.now in
    let words = c.turn_to.new.self.words.items in
    let row = c.turn_to.new.self.row in
    let some = c.turns-test.true in
    let back : c.turns.left ≡ suc n = omega (arith, some) in
    let turn : IsTurn m x mode (suc n) stayed counts shown = subst (λ (k : ℕ). IsTurn m x mode k stayed counts shown) back c.turns.invariant.turn in
    let at = c.in_ok-turn_to.ensures.words in
    let is = c.in_ok-turn_to.ensures.row in
    subst (λ (ws : List ℕ). HasCounts n counts ws) (sym c.words.ensures) (counts_fit m x mode n stayed counts words row turn.tallies at is)

pub turns-preserved-in-Continue-branch-4 : goal.turns-preserved-in-Continue-branch-4
turns-preserved-in-Continue-branch-4 c =
    let m = map_of c.args.map.now in
    let x = c.args.matrix.now in
    let mode = c.args.mode in
    let n : ℕ = c.turns.left - 1 in
    let stayed = reverse c.turns.kept.items in
    let counts = c.turns.counts in
    let shown = c.args.shown.now in
    let words = c.turn_to.new.self.words.items in
    let row = c.turn_to.new.self.row in
    let some = c.turns-test.true in
    let back : c.turns.left ≡ suc n = omega (arith, some) in
    let turn : IsTurn m x mode (suc n) stayed counts shown = subst (λ (k : ℕ). IsTurn m x mode k stayed counts shown) back c.turns.invariant.turn in
    let at = c.in_ok-turn_to.ensures.words in
    let is = c.in_ok-turn_to.ensures.row in
    let missed = on_true c.in_ok-is_needed.field-0 (SomeMissed m mode (IsCounted counts) (IsLeft n counts c.words.result.now)) c.if-branch.true c.in_ok-is_needed.ensures.needed in
    let own = subst (λ (ws : List ℕ). SomeMissed m mode (IsCounted counts) (IsLeft n counts ws)) c.words.ensures missed in
    let items : reverse c.push.new.self.items ≡ n ∷ stayed = ap (λ (ks : List ℕ). reverse ks) c.in_ok-push.ensures.items ∙ reverse-append c.turns.kept.items (n ∷ []) in
    record {
      turn = subst (λ (ks : List ℕ). IsTurn m x mode n ks counts shown) (sym items) (stays m x mode n stayed counts words shown row turn at is own);
      words = at;
    }

pub lower-requires : goal.lower-requires
lower-requires c =
    let m = map_of c.args.map.now in
    let x = c.args.matrix.now in
    let mode = c.args.mode in
    let n : ℕ = c.turns.left - 1 in
    let stayed = reverse c.turns.kept.items in
    let counts = c.turns.counts in
    let shown = c.args.shown.now in
    let words = c.turn_to.new.self.words.items in
    let row = c.turn_to.new.self.row in
    let some = c.turns-test.true in
    let back : c.turns.left ≡ suc n = omega (arith, some) in
    let turn : IsTurn m x mode (suc n) stayed counts shown = subst (λ (k : ℕ). IsTurn m x mode k stayed counts shown) back c.turns.invariant.turn in
    let at = c.in_ok-turn_to.ensures.words in
    let is = c.in_ok-turn_to.ensures.row in
    subst (λ (ws : List ℕ). HasCounts n counts ws) (sym c.words-else-branch.ensures) (counts_fit m x mode n stayed counts words row turn.tallies at is)

pub turns-preserved : goal.turns-preserved
turns-preserved c =
    let m = map_of c.args.map.now in
    let x = c.args.matrix.now in
    let mode = c.args.mode in
    let n : ℕ = c.turns.left - 1 in
    let stayed = reverse c.turns.kept.items in
    let counts = c.turns.counts in
    let shown = c.args.shown.now in
    let words = c.turn_to.new.self.words.items in
    let row = c.turn_to.new.self.row in
    let some = c.turns-test.true in
    let back : c.turns.left ≡ suc n = omega (arith, some) in
    let turn : IsTurn m x mode (suc n) stayed counts shown = subst (λ (k : ℕ). IsTurn m x mode k stayed counts shown) back c.turns.invariant.turn in
    let at = c.in_ok-turn_to.ensures.words in
    let is = c.in_ok-turn_to.ensures.row in
    let none = on_false c.in_ok-is_needed.field-0 (NoneMissed m mode (IsCounted counts) (IsLeft n counts c.words.result.now)) c.if-branch.false c.in_ok-is_needed.ensures.other in
    let own = subst (λ (ws : List ℕ). NoneMissed m mode (IsCounted counts) (IsLeft n counts ws)) c.words.ensures none in
    let new = c.lower.new.counts in
    let same : length new ≡ length counts = c.lower.auto.counts in
    let less = subst (λ (ws : List ℕ). (b : ℕ) → b < length counts → get_or new b 0 + bit_at (get_or ws b 0) (n % 64) ≡ get_or counts b 0) c.words-else-branch.ensures c.lower.ensures in
    record {
      turn = drops m x mode n stayed counts words shown row turn at is new same less own;
      words = at;
    }
