use Rattle.std.proofs.Common.{◌∙◌, sym}
use Rattle.types_scopes.proofs.Lengths.{short_lengths}
use Rattle.types_scopes.proofs.types.same_lengths.Goals as goal

pub returns-in_default : goal.returns-in_default
returns-in_default c =
    sym (short_lengths c.loop-length.length-index c.args.a.now c.loop-length.left.now c.loop-length-test.true c.in_default.len_below)
    ∙ c.loop-length.invariant
