use Rattle.std.proofs.Common.{◌∙◌, ap}
use Rattle.mc_typed.specs.Views.{expression_of}
use Rattle.decide_rules.specs.Nodes.{expression}
use Rattle.decide_walk.specs.steps.Gathering.{is_taken}
use Rattle.decide_walk.proofs.Grows.{taken}
use Rattle.decide_walk.proofs.candidates.is_candidate.Goals as goal

pub returns : goal.returns
returns c =
    c.is_taken.ensures
    ∙ (ap (is_taken c.args.role) c.is_boolean.ensures
    ∙ taken c.args.role (expression (expression_of c.args.tree.now)))
