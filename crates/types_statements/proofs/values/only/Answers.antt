use Rattle.std.proofs.Common.{arith}
use Rattle.types_statements.proofs.Lists.{only_none}
use Rattle.types_statements.proofs.values.only.Goals as goal

pub returns : goal.returns
returns g c =
    only_none c.args.list.items (λ h. grind (arith, h, c.len.ensures, c.if-len-eq1.false))
