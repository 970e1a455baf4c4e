use Rattle.std.proofs.Common.{◌≡◌, ◌∙◌, ◌+◌, ◌*◌, min, drop, sym, ap, arith}
use Rattle.types_rules.specs.Profile.{most_counted}
use Rattle.types_scopes.specs.Counted.{product}
use Rattle.types_scopes.proofs.Counted.{factors_counted, product_next, product_end}
use Rattle.types_scopes.proofs.layouts.counted_products.Goals as goal

pub loop-length-preserved : goal.loop-length-preserved
loop-length-preserved c =
    let ns = c.args.lengths.now in
    let i = c.loop-length.length-index in
    record {
      few = omega (arith, c.counted_product-total.ensures);
      whole =
          ap (λ n. min (n * product (drop (i + 1) ns)) most_counted) c.counted_product-total.ensures
          ∙ factors_counted most_counted c.loop-length.total _ (product (drop (i + 1) ns))
          ∙ ap (λ p. min (c.loop-length.total * p) most_counted) (sym (product_next ns i 0 c.loop-length-test.true))
          ∙ c.loop-length.invariant.whole;
    }

pub returns : goal.returns
returns c =
    let one = product_end c.args.lengths.now c.loop-length.length-index c.loop-length-test.false in
    let same : min (c.loop-length.total * 1) most_counted ≡ c.loop-length.total =
    omega (arith, c.loop-length.invariant.few) in
    sym same ∙ ap (λ p. min (c.loop-length.total * p) most_counted) (sym one) ∙ c.loop-length.invariant.whole
