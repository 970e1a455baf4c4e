use Rattle.std.proofs.Common.{◌∙◌, ap}
use Rattle.types_rules.specs.Statements.{label_value}
use Rattle.types_jumps.proofs.labels.case_value.Goals as goal

pub returns : goal.returns
returns c =
    λ s. c.label_value.ensures ∙ ap (label_value c.args.labels.now) (c.constant_found.ensures s)
