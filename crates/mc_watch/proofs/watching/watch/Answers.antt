use Rattle.std.proofs.Common.{ℕ, ap, ◌∙◌, sym, arith}
use Rattle.mc_core.specs.Shape.{word_count}
use Rattle.mc_cover.specs.declared.view.View.{View}
use Rattle.mc_watch.proofs.Looks.{one_look, rising}
use Rattle.mc_watch.proofs.watching.watch.Goals as goal

pub loop-made-preserved : goal.loop-made-preserved
loop-made-preserved g c =
    let inv = c.loop-made.invariant in
    let words : ℕ = word_count c.args.cover.now.shape in
    let looked = c.look_at_all.ensures.looked in
    let old = c.loop-made.pass.view in
    let new = c.look_at_all.new.pass.view in
    let pushed = c.push_reserved.ensures.items in
    let count = inv.count in
    record {
      own = c.look_at_all.ensures.own ∙ inv.own;
      kept = looked.view ∙ (λ i. record (inv.kept i) { seen = sym (ap (λ (v : View). v.seen) looked.view) i });
      looked = one_look words old new c.look_at_all.result c.loop-made.counts.items c.push_reserved.new.self.items inv.looked looked pushed;
      growing = looked.growing inv.growing;
      count = let more = c.push_reserved.ensures.len in omega arith;
      room = let same = c.push_reserved.ensures.capacity in let old = inv.room in omega arith;
    }

pub returns-clause-looked : goal.returns-clause-looked
returns-clause-looked g c =
    let inv = c.loop-made.invariant in
    let count = inv.count in
    let end = c.loop-made-test.false in
    let ok = c.loop-made.counts.ok in
    record {
      kept = inv.kept;
      looked = inv.looked;
      as_many = omega arith;
      rising = rising (word_count c.args.cover.now.shape) c.loop-made.pass.view.seen c.loop-made.counts.items inv.looked inv.growing;
    }
