use Rattle.std.proofs.Common.{◌≡◌, true, false, sym, ◌∙◌}
use Rattle.mc_cond.specs.Tree.{tree_of}
use Rattle.mc_unique.proofs.Comparing.{paired_by, mask_of_pair, outcomes_of_pair}
use Rattle.mc_unique.proofs.compare.are_paired.Goals as goal

pub returns-then-not-differ_alone : goal.returns-then-not-differ_alone
returns-then-not-differ_alone c =
    let t = tree_of c.args.numbering.now in
    let v = c.requires.first in
    let w = c.requires.second in (
      λ e. cc,
      λ pair.
          let f : true ≡ false =
          sym (c.differ_alone.ensures.1
          (mask_of_pair t c.args.k c.requires.numbered c.args.first c.args.second v.0 w.0 v.1 w.1 c.requires.on c.evaluated-one.result c.value.result c.evaluated-other.result c.value-2.result
          (c.evaluated-one.ensures v.0 v.1) (c.value.ensures v.0 v.1) (c.evaluated-other.ensures w.0 w.1) (c.value-2.ensures w.0 w.1) pair)) ∙ c.if-not-differ_alone.true in
          cc,
    )

pub returns : goal.returns
returns c =
    let t = tree_of c.args.numbering.now in
    let v = c.requires.first in
    let w = c.requires.second in (
      λ h. paired_by t c.args.k c.requires.numbered c.args.first c.args.second v.0 w.0 v.1 w.1 c.requires.on c.evaluated-one.result c.value.result c.evaluated-other.result c.value-2.result
          (c.evaluated-one.ensures v.0 v.1) (c.value.ensures v.0 v.1) (c.evaluated-other.ensures w.0 w.1) (c.value-2.ensures w.0 w.1)
          (c.differ_alone.ensures.0 c.if-not-differ_alone.false) c.outcome_of.result c.outcome_of-2.result (c.outcome_of.ensures v.0 v.1) (c.outcome_of-2.ensures w.0 w.1) (c.differ.ensures.0 h),
      λ pair. c.differ.ensures.1
          (outcomes_of_pair t c.args.k c.requires.numbered c.args.first c.args.second v.0 w.0 v.1 w.1 c.requires.on c.evaluated-one.result c.value.result c.evaluated-other.result c.value-2.result
          (c.evaluated-one.ensures v.0 v.1) (c.value.ensures v.0 v.1) (c.evaluated-other.ensures w.0 w.1) (c.value-2.ensures w.0 w.1)
          pair c.outcome_of.result c.outcome_of-2.result (c.outcome_of.ensures v.0 v.1) (c.outcome_of-2.ensures w.0 w.1)),
    )
