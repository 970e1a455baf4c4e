use Rattle.std.proofs.Common.{◌∙◌}
use Rattle.mc_typed.specs.Views.{expression_of}
use Rattle.decide_rules.proofs.Trees.{same_span}
use Rattle.decide_walk.proofs.gathered.span_of.Goals as goal

pub returns : goal.returns
returns c = c.span.ensures ∙ same_span (expression_of c.args.root.now)
