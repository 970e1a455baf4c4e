-- The items of a switch are smaller than the switch, so that the walk over it ends.
use Rattle.std.proofs.Common.{◌≡◌, ℕ, ◌+◌, ◌*◌, ◌<◌, List, Option, Vec, ap, arith}
use Rattle.std.specs.Global.{Global}
use denote.Param.Weighed.{most}
use Rattle.mc_span.specs.declared.span.Span.{Span}
use Rattle.mc_typed.specs.declared.probes.Mark.{Mark}
use Rattle.mc_typed.specs.declared.expressions.Expression.{Expression}
use Rattle.mc_typed.specs.declared.statements.Statement.{Statement, size-Statement}
use Rattle.mc_typed.specs.declared.statements.Statement.TheVariants as statement
use Rattle.mc_typed.specs.declared.statements.Statement.TheViews.{sized-Switch}

switch_items : (e : Expression) (items : Vec Statement Global) (keyword span : Span) (bit : Option ℕ) (absent : Option Mark) → most size-Statement items.items < size-Statement (statement.Switch e items keyword span bit absent)
switch_items e items keyword span bit absent = omega (arith, sized-Switch e items keyword span bit absent)

-- from a switch on to its items
pub to_items : (xs : List Statement) (q : Statement) (t : ℕ) (e : Expression) (items : Vec Statement Global) (keyword span : Span) (bit : Option ℕ) (absent : Option Mark) → q ≡ statement.Switch e items keyword span bit absent → xs ≡ items.items → 2 * size-Statement q + 0 ≡ t → 2 * most size-Statement xs + 1 < t
to_items xs q t e items keyword span bit absent is at d =
    omega (arith, ap (most size-Statement) at, ap size-Statement is, switch_items e items keyword span bit absent, d)
