use Rattle.std.proofs.Common.{Contains, sym, ◌∙◌, arith}
use Rattle.mc_cond.specs.Tree.{tree_of}
use Rattle.mc_reduce.specs.steps.Bits.{ShowAt}
use Rattle.mc_reduce.specs.steps.Loss.{AreTrueFrom}
use Rattle.mc_reduce.proofs.Judging.{not_true}
use Rattle.mc_reduce.proofs.Deciding.{none_next}
use Rattle.mc_reduce.proofs.loss.first_missed.Goals.{else-is_shown_with-via-then-is_shown_with+else-not-is_still_shown, else-is_shown_with-via-else-is_shown_with}
use Rattle.mc_reduce.proofs.loss.first_missed.Goals as goal

pub returns-then-not-is_still_shown-clause-lost : goal.returns-then-not-is_still_shown-clause-lost
returns-then-not-is_still_shown-clause-lost c = record {
  within = (let lt = c.loop-at-test.true in let e = c.obligation_count-at-end.ensures.value in omega (arith, lt, e));
  so = c.if-is_shown_with.true;
  not_also = λ s. not_true (sym c.if-not-is_still_shown.true ∙ c.is_still_shown.ensures.1 s);
  none_before = c.loop-at.invariant;
}

pub loop-at-preserved : goal.loop-at-preserved
loop-at-preserved c =
    let tree = tree_of c.args.mapped.now.decision.tree in
    none_next (AreTrueFrom c.args.shown.now c.args.position) (ShowAt (Contains c.args.left.now) c.args.mode tree) c.loop-at.at c.loop-at.invariant
    (λ so. elim c.else-is_shown_with.branch [
      | else-is_shown_with-via-then-is_shown_with+else-not-is_still_shown w ↦ w.is_still_shown.ensures.0 w.if-not-is_still_shown.false
      | else-is_shown_with-via-else-is_shown_with w ↦ absurd (not_true (sym w.if-is_shown_with.false ∙ so))
    ])
