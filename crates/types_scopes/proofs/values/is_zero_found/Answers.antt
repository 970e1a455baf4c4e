use Rattle.std.proofs.Common.{◌∙◌, ap}
use Rattle.types_rules.specs.Constants.{is_zero_constant}
use Rattle.types_scopes.proofs.values.is_zero_found.Goals as goal

pub returns : goal.returns
returns c = λ s. c.is_zero_constant.ensures ∙ ap is_zero_constant (c.constant_found.ensures s)
