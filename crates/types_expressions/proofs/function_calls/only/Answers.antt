use Rattle.std.proofs.Common.{arith}
use Rattle.types_expressions.proofs.Calls.{only_none}
use Rattle.types_expressions.proofs.function_calls.only.Goals as goal

pub returns-else-len-eq1 : goal.returns-else-len-eq1
returns-else-len-eq1 c =
    only_none c.args.arguments.items (λ h. grind (arith, h, c.len.ensures, c.if-len-eq1.false))
