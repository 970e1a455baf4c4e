-- An external declaration after its specifiers.
use Rattle.std.specs.Prelude.{ℕ, if◌then◌else◌, codes}
use Rattle.mc_span.specs.declared.span.Span.{Span}
use Rattle.mc_tree.specs.Tree.{Item, Specifiers}
use Rattle.mc_grammar.specs.steps.Parsers.{Parser, ◌>>=◌, see}
use Rattle.laws_grammar.specs.Specifiers.{declarator_of}
use Rattle.laws_grammar.specs.Rooms.{reading}
use Rattle.laws_grammar.specs.Items.{declaration_item_of, defined_of}

abbrev pub head_item_of : ℕ → Span → Specifiers → Parser Item
head_item_of room start s = do
  d ← declarator_of (reading room)
  opens ← see (codes "{")
  if opens then defined_of room start s d else declaration_item_of room start s d
