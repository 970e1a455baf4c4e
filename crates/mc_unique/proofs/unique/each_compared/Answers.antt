use Rattle.std.proofs.Common.{◌≡◌, true, false, arith, sym, ◌∙◌}
use Rattle.mc_cond.specs.Tree.{tree_of}
use Rattle.mc_unique.proofs.Comparing.{chosen_here, none_here, none_next, none_without}
use Rattle.mc_unique.proofs.unique.each_compared.Goals as goal
use Rattle.mc_unique.proofs.unique.each_compared.Goals.{then-has_influence_as+in_default, else-has_influence_as}

pub returns-in-Some-clause-chosen : goal.returns-in-Some-clause-chosen
returns-in-Some-clause-chosen c =
    chosen_here (tree_of c.args.numbering.now) c.args.k c.requires.numbered c.args.seen.now c.requires.ascending c.loop-at.at c.loop-at.invariant.none c.loop-at-test.true c.in-Some.second c.in-Some.ensures.some

pub returns-clause-none : goal.returns-clause-none
returns-clause-none c =
    none_here (tree_of c.args.numbering.now) c.args.k c.requires.numbered c.args.seen.now c.requires.ascending c.loop-at.at c.loop-at.invariant.none (omega (arith, c.loop-at-test.false))

pub loop-at-init : goal.loop-at-init
loop-at-init c = record { none = λ m low q h x. omega (arith, low); passed = λ m low up x. omega (arith, up) }

pub loop-at-preserved : goal.loop-at-preserved
loop-at-preserved c =
    let t = tree_of c.args.numbering.now in
    record {
      none = elim c.if-has_influence_as.branch [
        | then-has_influence_as+in_default w ↦ none_next t c.args.k c.requires.numbered c.args.seen.now c.requires.ascending c.loop-at.at c.loop-at.invariant.none w.in_default.ensures.none
        | else-has_influence_as w ↦
            none_next t c.args.k c.requires.numbered c.args.seen.now c.requires.ascending c.loop-at.at c.loop-at.invariant.none
            (none_without t c.args.k c.requires.numbered c.args.seen.now c.requires.ascending c.loop-at.at c.loop-at.invariant.none
            (λ on. let f : true ≡ false = sym (c.has_influence_as.ensures.1 on) ∙ w.if-has_influence_as.false in cc))
      ];
      passed = λ m low up. c.next_off-off.ensures.passed m (omega (arith, low)) up;
    }
