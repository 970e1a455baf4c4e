use Rattle.std.proofs.Common.{◌∙◌, ap}
use Rattle.std.proofs.lemmas.Int.{to_z-of_z}
use mir.Syntax.{w128}
use Rattle.types_rules.specs.Statements.{has_value}
use Rattle.types_scopes.proofs.labels.Labels.has_value.Goals as goal

pub returns : goal.returns
returns c =
    rw (to_z-of_z w128 c.args.value c.ranges.value) at c.contains.ensures
    ∙ c.self.invariant c.args.value
    ∙ ap (λ l. has_value c.args.value l.values) c.self.view_is
