use Rattle.std.proofs.Common.{List, Option, sym, subst}
use Rattle.interp_trail.specs.declared.test_trace.TestTrace.{TestTrace}
use Rattle.mc_results.specs.Seen.{AreRight}
use Rattle.mc_results.proofs.Right.{left_over, none_right, popped}
use Rattle.mc_results.proofs.gathered.gathered.Goals as goal

pub loop-part-init : goal.loop-part-init
loop-part-init c = λ all long are.
    (are, subst (λ (s : List (Option TestTrace)). AreRight all s) (sym c.in_ok-slots.ensures) (none_right all c.args.count long))

pub loop-part-preserved : goal.loop-part-preserved
loop-part-preserved c = λ all long are.
    let both = c.loop-part.invariant all long are in (
      left_over all c.loop-part.left.items c.pop.new.self.items c.pop.result both.0 c.pop.ensures.items,
      c.put.ensures all both.1 (popped all c.loop-part.left.items c.pop.new.self.items c.pop.result c.in-Some.part c.in_ok-part.field-0 both.0 c.pop.ensures.items c.in-Some.is c.in_ok-part.was),
    )

pub returns : goal.returns
returns c = λ all long are. (c.loop-part.invariant all long are).1
