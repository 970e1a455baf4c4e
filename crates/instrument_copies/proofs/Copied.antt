-- Lists of copies.
use Rattle.std.proofs.Common.{◌≡◌, List, [], ◌∷◌, map, refl, ap, ◌∙◌}
use Rattle.mc_typed.specs.declared.expressions.Argument.{Argument}
use Rattle.mc_typed.specs.declared.initializers.Initializer.{Initializer}
use Rattle.mc_typed.specs.declared.statements.Statement.{Statement}
use Rattle.mc_typed.specs.Views as plain
use Rattle.mc_probe.specs.Views as probed
use Rattle.mc_probe.specs.Tree as p
use Rattle.mc_probe.specs.Bare.{bare_argument, bare_arguments, bare_initializer, bare_initializers, bare_statement, bare_statements}

copied : (xs : List Argument) →
    probed.arguments_from (map (λ a. bare_argument (plain.argument_of a)) xs) ≡ bare_arguments (plain.arguments_from (map plain.argument_of xs))
copied [] = refl
copied (x ∷ xs) = ap (p.arguments (bare_argument (plain.argument_of x))) (copied xs)

pub arguments_bare : (xs ys : List Argument) →
    map probed.argument_of ys ≡ map (λ a. bare_argument (plain.argument_of a)) xs →
    probed.arguments_from (map probed.argument_of ys) ≡ bare_arguments (plain.arguments_from (map plain.argument_of xs))
arguments_bare xs ys e = ap probed.arguments_from e ∙ copied xs

copied_initializers : (xs : List Initializer) →
    probed.initializers_from (map (λ a. bare_initializer (plain.initializer_of a)) xs) ≡ bare_initializers (plain.initializers_from (map plain.initializer_of xs))
copied_initializers [] = refl
copied_initializers (x ∷ xs) = ap (p.initializers (bare_initializer (plain.initializer_of x))) (copied_initializers xs)

pub initializers_bare : (xs ys : List Initializer) →
    map probed.initializer_of ys ≡ map (λ a. bare_initializer (plain.initializer_of a)) xs →
    probed.initializers_from (map probed.initializer_of ys) ≡ bare_initializers (plain.initializers_from (map plain.initializer_of xs))
initializers_bare xs ys e = ap probed.initializers_from e ∙ copied_initializers xs

copied_statements : (xs : List Statement) →
    probed.statements_from (map (λ a. bare_statement (plain.statement_of a)) xs) ≡ bare_statements (plain.statements_from (map plain.statement_of xs))
copied_statements [] = refl
copied_statements (x ∷ xs) = ap (p.statements (bare_statement (plain.statement_of x))) (copied_statements xs)

pub statements_bare : (xs ys : List Statement) →
    map probed.statement_of ys ≡ map (λ a. bare_statement (plain.statement_of a)) xs →
    probed.statements_from (map probed.statement_of ys) ≡ bare_statements (plain.statements_from (map plain.statement_of xs))
statements_bare xs ys e = ap probed.statements_from e ∙ copied_statements xs
