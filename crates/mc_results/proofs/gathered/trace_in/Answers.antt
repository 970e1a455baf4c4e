use Rattle.std.proofs.Common.{get_or, subst}
use Rattle.mc_results.specs.Seen.{IsRight, traced_in}
use Rattle.mc_results.proofs.gathered.trace_in.Goals as goal

pub returns-in-Some : goal.returns-in-Some
returns-in-Some c = λ u. subst (IsRight (get_or (traced_in c.args.task.now) c.args.test u)) c.in-Some.is (c.requires.right u)
