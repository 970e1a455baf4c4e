use Rattle.std.proofs.Common.{◌∙◌, sym}
use Rattle.types_scopes.proofs.Lengths.{short_kinds}
use Rattle.types_scopes.proofs.types.same_parameters.Goals as goal

pub returns-in_default : goal.returns-in_default
returns-in_default c =
    sym (short_kinds c.loop-kind.kind-index c.args.a.now c.loop-kind.left.now c.loop-kind-test.true c.in_default.len_below)
    ∙ c.loop-kind.invariant
