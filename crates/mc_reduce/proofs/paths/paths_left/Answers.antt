use Rattle.std.proofs.Common.{ℕ, ◌+◌, ◌%◌, get_or}
use Rattle.std.specs.Int.{bit_at}
use Rattle.mc_reduce.specs.steps.Loss.{IsLeft, along}
use Rattle.mc_reduce.proofs.Rising.{next_where}
use Rattle.mc_reduce.proofs.paths.paths_left.Goals as goal

pub loop-path-preserved : goal.loop-path-preserved
loop-path-preserved c =
    let bit : ℕ = c.args.base + c.loop-path.path in
    let own : ℕ = bit_at (get_or c.args.words.now bit 0) (c.args.test % 64) in
    let on = along (IsLeft c.args.test c.args.counts.now c.args.words.now) c.args.base in
    rw c.in_ok-push_if.ensures
    (rw c.held.ensures (next_where on c.loop-path.path c.loop-path.seen.items c.loop-path.invariant own (get_or c.args.counts.now bit 0) (λ h. h) (λ h. h)))
