use Rattle.std.proofs.Common.{arith, ◌∙◌, refl, sym}
use Rattle.mc_station.proofs.Older.{all_short, short_at}
use Rattle.mc_station.proofs.records.has_old_bits.Goals as goal

pub returns-then-not-is_short : goal.returns-then-not-is_short
returns-then-not-is_short c = (
  λ is. absurd (cc is),
  λ all.
      let short = c.is_short.ensures.1 (short_at _ _ c.loop-mapped.mapped-index c.mapped-item.result c.deref-mapped-items.ensures.value c.loop-mapped-test.true c.mapped-item.is all) in
      sym c.if-not-is_short.true ∙ short,
)

pub returns : goal.returns
returns c =
    (λ is. all_short c.args.accepted.now.map.decisions.items (λ k d below. c.loop-mapped.invariant k d (grind arith)), λ all. refl)
