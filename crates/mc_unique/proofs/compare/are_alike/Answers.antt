use Rattle.mc_cond.specs.Tree.{tree_of}
use Rattle.mc_unique.proofs.Words.{alike_by, value_alike}
use Rattle.mc_unique.proofs.compare.are_alike.Goals as goal

pub returns-then-same_below : goal.returns-then-same_below
returns-then-same_below c =
    let t = tree_of c.args.numbering.now in
    let v = c.requires.one in
    let w = c.requires.other in (
      λ h. record {
        v = v.0;
        w = w.0;
        first_path = v.1;
        second_path = w.1;
        alike = alike_by t v.0 w.0 v.1.vector w.1.vector c.evaluated.result c.value.result c.evaluated-2.result c.value-then-same_below.result
            (c.evaluated.ensures v.0 v.1) (c.value.ensures v.0 v.1) (c.evaluated-2.ensures w.0 w.1) (c.value-then-same_below.ensures w.0 w.1)
            c.args.k c.requires.condition (c.same_below.ensures.0 c.if-same_below.true) (c.same_below-then-same_below.ensures.0 h);
      },
      λ p. c.same_below-then-same_below.ensures.1
          (value_alike t p.v p.w p.first_path.vector p.second_path.vector c.evaluated.result c.value.result c.evaluated-2.result c.value-then-same_below.result
          (c.evaluated.ensures p.v p.first_path) (c.value.ensures p.v p.first_path) (c.evaluated-2.ensures p.w p.second_path) (c.value-then-same_below.ensures p.w p.second_path)
          c.args.k p.alike),
    )
