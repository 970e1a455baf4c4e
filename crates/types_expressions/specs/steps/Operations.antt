-- What binary operators do with their operands (C17 6.5.5 to 6.5.14).
use Rattle.mc_span.specs.declared.span.Span.{Span}
use Rattle.mc_typed.specs.declared.operators.Operator.TheVariants.{Shift}
use Rattle.mc_typed.specs.Tree.{Expression, Logic}
use Rattle.types_rules.specs.Expressions.{in_common_type, shifting}
use Rattle.types_expressions.specs.declared.binary_operators.Operation.{Operation}
use Rattle.types_expressions.specs.declared.binary_operators.Operation.TheVariants as operation

abbrev pub operating : Operation → Span → Expression → Expression → Expression
operating (operation.Common operator) = in_common_type operator
operating (operation.Shift operator) = shifting (Shift operator)
operating (operation.Logic operator) = λ span e f. Logic operator e f span
