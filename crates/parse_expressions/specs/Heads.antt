-- What a head stands for.
use Rattle.std.specs.Prelude.{map}
use Rattle.mc_tree.specs.Tree.{Specifiers}
use Rattle.mc_tree.specs.Views.{specifier_of, specifiers_from}
use Rattle.parse_expressions.specs.declared.declarations.Head.{Head}

abbrev pub words_of : Head → Specifiers
words_of head = specifiers_from (map specifier_of head.specifiers.items)
