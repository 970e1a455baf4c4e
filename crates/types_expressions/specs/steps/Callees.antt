-- What a call names, as far as it counts.
use Rattle.std.specs.Prelude.{true, Option, Some, None, option_map}
use Rattle.mc_span.specs.declared.span.Span.{Span}
use Rattle.mc_typed.specs.Tree.{Argument, NumberArgument, Arguments, Expression, arguments, no_arguments, Output}
use Rattle.types_rules.specs.Values.{Value, Done}
use Rattle.types_rules.specs.Scopes.{Meaning, Function, Typedef}
use Rattle.types_scopes.specs.Types.{signature_of}
use Rattle.types_expressions.specs.declared.callee.Callee.{Callee}
use Rattle.types_expressions.specs.declared.callee.Callee.TheVariants as callee

-- a meaning with the same faults and values of calls
abbrev pub meaning_of_callee : Callee → Option Meaning
meaning_of_callee callee.Missing = None
meaning_of_callee (callee.Function signature) =
    Some (Function (option_map (λ f. signature_of f.value) signature) true)
meaning_of_callee callee.Other = Some (Typedef None)

-- the argument of a call that has one
abbrev pub only_argument : Arguments → Option Argument
only_argument (arguments a no_arguments) = Some a
only_argument _ = None

-- the number that an argument is
abbrev pub given_number : Argument → Option Expression
given_number (NumberArgument e) = Some e
given_number _ = None

-- what a call of the function for output is with this argument
abbrev pub output_with : Span → Argument → Option Value
output_with span a = option_map (λ e. Done (Output e span)) (given_number a)
