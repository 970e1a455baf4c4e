-- Lists of parts with the change at which a search comes to its end, without probes.
use Rattle.std.proofs.Common.{◌≡◌, refl, ap, List, [], ◌∷◌}
use Rattle.mc_typed.specs.Views.{arguments_from, initializers_from, statements_from}
use Rattle.mc_typed.specs.Tree as t
use Rattle.mc_probe.specs.Bare.{bare_argument, bare_arguments, bare_initializer, bare_initializers, bare_statement, bare_statements}
use Rattle.mc_probe.specs.Tree as p
use Rattle.mc_probe.specs.Views as probed
use Rattle.decide_rules.specs.declared.role.Role.TheVariants.{Plain}
use Rattle.decide_rules.specs.Nodes as n
use Rattle.mc_mutate.specs.declared.search.sought.Sought.{Sought}
use Rattle.mc_mutate.specs.steps.Search.{searched}
use Rattle.mc_mutate.specs.steps.Changed.{argument_changed, arguments_changed, initializer_changed, initializers_changed, statement_changed, statements_changed}

abbrev pub all_arguments : List t.Argument → Sought → List p.Argument
all_arguments [] s = []
all_arguments (a ∷ rest) s = bare_argument (argument_changed a s) ∷ all_arguments rest (searched Plain (n.argument a) s)

pub arguments_are : (xs : List t.Argument) (s : Sought) → probed.arguments_from (all_arguments xs s) ≡ bare_arguments (arguments_changed (arguments_from xs) s)
arguments_are [] s = refl
arguments_are (a ∷ rest) s = ap (p.arguments (bare_argument (argument_changed a s))) (arguments_are rest (searched Plain (n.argument a) s))

abbrev pub all_initializers : List t.Initializer → Sought → List p.Initializer
all_initializers [] s = []
all_initializers (i ∷ rest) s = bare_initializer (initializer_changed i s) ∷ all_initializers rest (searched Plain (n.initializer i) s)

pub initializers_are : (xs : List t.Initializer) (s : Sought) → probed.initializers_from (all_initializers xs s) ≡ bare_initializers (initializers_changed (initializers_from xs) s)
initializers_are [] s = refl
initializers_are (i ∷ rest) s = ap (p.initializers (bare_initializer (initializer_changed i s))) (initializers_are rest (searched Plain (n.initializer i) s))

abbrev pub all_statements : List t.Statement → Sought → List p.Statement
all_statements [] s = []
all_statements (a ∷ rest) s = bare_statement (statement_changed a s) ∷ all_statements rest (searched Plain (n.statement a) s)

pub statements_are : (xs : List t.Statement) (s : Sought) → probed.statements_from (all_statements xs s) ≡ bare_statements (statements_changed (statements_from xs) s)
statements_are [] s = refl
statements_are (a ∷ rest) s = ap (p.statements (bare_statement (statement_changed a s))) (statements_are rest (searched Plain (n.statement a) s))
