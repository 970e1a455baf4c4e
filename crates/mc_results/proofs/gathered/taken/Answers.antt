use Rattle.std.proofs.Common.{◌≡◌, get_or, subst, arith}
use Rattle.mc_results.specs.Seen.{IsRight}
use Rattle.mc_results.proofs.Right.{right_at}
use Rattle.mc_results.proofs.gathered.taken.Goals as goal

pub returns-clause-taken : goal.returns-clause-taken
returns-clause-taken c = λ all t right.
    let slots = c.args.slots.now.items in
    let value = c.take.ensures.value in
    let there = c.index_mut.ensures.value in
    let is : get_or slots c.args.test c.take.result ≡ c.take.result = grind (arith, value, there) in
    subst (IsRight (get_or all c.args.test t)) is (right_at all slots c.args.test t c.take.result right c.requires)
