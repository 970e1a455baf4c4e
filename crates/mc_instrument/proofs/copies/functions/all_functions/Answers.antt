use Rattle.std.proofs.Common.{◌∙◌, ◌+◌, ◌<◌, ◌≤◌, ℕ, ap, length, arith, rules}
use Rattle.mc_probe.specs.BitMaps.{map_of}
use Rattle.mc_probe.proofs.Kept.{kept}
use Rattle.mc_instrument.proofs.Room.{few_leads, few_places}
use Rattle.mc_instrument.proofs.Functions.{all_copied, begins, fits, leads, next}
use Rattle.mc_instrument.proofs.copies.functions.all_functions.Goals as goal

pub loop-number-init : goal.loop-number-init
loop-number-init c = record {
  left = begins _ _ _ _ (search rules) c.beginning-at.ensures c.requires.decisions c.requires.counted;
  first = omega arith;
}

pub function-requires-clause-decisions : goal.function-requires-clause-decisions
function-requires-clause-decisions c =
    let lt : c.loop-number.number < length c.args.trees.now = search rules in
    leads _ _ _ _ _ _ _ lt c.index-trees-number.is c.loop-number.invariant.left

pub function-requires-clause-room : goal.function-requires-clause-room
function-requires-clause-room c =
    let lt : c.loop-number.number < length c.args.trees.now = search rules in
    fits _ _ _ _ _ _ _ (kept c.args.bit_map.now) c.loop-number.invariant.first lt c.index-trees-number.is c.loop-number.invariant.left

pub overflow_add-first : goal.overflow_add-first
overflow_add-first c =
    let lt : c.loop-number.number < length c.args.trees.now = search rules in
    let few = few_places (map_of c.args.bit_map.now) (kept c.args.bit_map.now) in
    let more =
    few_leads (map_of c.args.bit_map.now).decisions c.loop-number.number c.loop-number.first _ _ c.loop-number.invariant.first (leads _ _ _ _ _ _ _ lt c.index-trees-number.is c.loop-number.invariant.left) c.in_ok-copy.ensures.decisions in
    omega (arith, few, more)

pub loop-number-preserved : goal.loop-number-preserved
loop-number-preserved c =
    let lt : c.loop-number.number < length c.args.trees.now = search rules in
    let leading = leads _ _ _ _ _ _ _ lt c.index-trees-number.is c.loop-number.invariant.left in
    record {
      left = next _ _ _ _ _ _ _ _ _ _ _ lt c.index-trees-number.is c.in_ok-push.ensures.items c.in_ok-copy.ensures.copy c.in_ok-copy.ensures.past
          (ap (λ (k : ℕ). c.loop-number.first + k) c.in_ok-copy.ensures.decisions) c.loop-number.invariant.left;
      first = few_leads (map_of c.args.bit_map.now).decisions c.loop-number.number c.loop-number.first _ _
          c.loop-number.invariant.first leading c.in_ok-copy.ensures.decisions;
    }

pub returns : goal.returns
returns c =
    let end : length c.args.trees.now ≤ c.loop-number.number = search rules in
    all_copied _ _ _ _ _ _ end c.loop-number.invariant.left
