use Rattle.std.proofs.Common.{ℕ, ◌+◌, ◌^◌, ◌<◌, count_ones, refl, ap, ◌∙◌, arith}
use Rattle.std.specs.Int.Count.{ones-le}
use Rattle.mc_cover.specs.declared.view.View.{View}
use Rattle.mc_watch.proofs.Looks.{one_load}
use Rattle.mc_watch.proofs.watching.look_at_all.Goals as goal

pub loop-index-preserved : goal.loop-index-preserved
loop-index-preserved c =
    let inv = c.loop-index.invariant in
    let n : ℕ = c.loop-index.index in
    let count : ℕ = c.loop-index.count in
    let value : ℕ = c.look-value.result in
    let told = c.look-value.ensures in
    let small : value < 2 ^ 64 = c.look-value.type_inv in
    let bits = ones-le 64 value small in record {
      own = told.own ∙ inv.own;
      shape = ap (λ (v : View). v.shape) told.seen ∙ inv.shape;
      looked = one_load n c.args.pass.now.view c.loop-index.pass.view c.look-value.new.pass.view count value (count + count_ones value) inv.looked told.seen small refl told.no_less;
      few = let few = inv.few in omega arith;
    }
