use Rattle.std.proofs.Common.{sym, false}
use Rattle.std.proofs.lemmas.Option.{unwrap_or-slice_get}
use Rattle.mc_cond.proofs.evaluation.+evaluate.Goals as goal

pub returns-in-Leaf-clause-outcome : goal.returns-in-Leaf-clause-outcome
returns-in-Leaf-clause-outcome t c = rw c.in-Leaf.is (sym (unwrap_or-slice_get c.args.answers.now c.in-Leaf.k false))

pub returns-in-Leaf-clause-seen : goal.returns-in-Leaf-clause-seen
returns-in-Leaf-clause-seen t c = rw (c.in-Leaf.is, unwrap_or-slice_get c.args.answers.now c.in-Leaf.k false) c.push.ensures
