-- The readers of initializers and declarations, of fewer than so many levels.
use Rattle.std.specs.Prelude.{ℕ, zero, suc, Bool, false, if◌then◌else◌, List, [], ◌∷◌, Some, codes}
use Rattle.mc_span.specs.declared.span.Span.{Span}
use Rattle.mc_tree.specs.Tree.{Declaration, Declarator, InitDeclarator, Initializer, Specifiers}
use Rattle.mc_tree.specs.Tree as tree
use Rattle.mc_tree.specs.Units.{initializers_from}
use Rattle.mc_grammar.specs.Places.{at, to}
use Rattle.mc_grammar.specs.Nonterminal as nonterminal
use Rattle.mc_grammar.specs.Statements.{after}
use Rattle.mc_grammar.specs.steps.Parsers.{Parser, ◌>>=◌, pure, refuse, see, take, expect, first}
use Rattle.laws_grammar.specs.Lists.{braced_list, comma_list, listed}
use Rattle.laws_grammar.specs.Expressions.{Parts}
use Rattle.laws_grammar.specs.Specifiers.{declarator_of}
use Rattle.laws_grammar.specs.Rooms.{reading}

abbrev pub single_of : Parts → Parser Initializer
single_of parts = do
  a ← parts.expression nonterminal.assign
  pure (tree.Single a)

abbrev pub braced_of : Parser Initializer → Parser Initializer
braced_of one = do
  x ← take
  all ← listed (λ turns. braced_list turns one [])
  y ← expect (codes "}")
  pure (tree.Braced (initializers_from all) (to (at x) (at y)))

unfoldable pub initializer_of : ℕ → Parser Initializer
initializer_of zero = refuse
initializer_of (suc room) = do
  opens ← see (codes "{")
  if opens then braced_of (initializer_of room) else single_of (reading room)

-- the declarator is read: a typedef's name is one from here on
abbrev pub declares : Bool → Declarator → Parser Declarator
declares typedef d = λ ts. Some (d, after typedef d ts)

-- what follows a declarator
unfoldable pub valued_of : Bool → ℕ → Declarator → Parser InitDeclarator
valued_of typedef rooms d = do
  declared ← declares typedef d
  valued ← see (codes "=")
  if valued then (do
    x ← take
    i ← initializer_of rooms
    pure (tree.initialized d i)) else pure (tree.bare d)

unfoldable pub init_declarator_of : Bool → ℕ → Parser InitDeclarator
init_declarator_of typedef rooms = do
  d ← declarator_of (reading rooms)
  valued_of typedef rooms d

-- the declarators after the first
abbrev pub more_declarators_of : Bool → ℕ → InitDeclarator → Parser (List InitDeclarator)
more_declarators_of typedef rooms i = do
  more ← see (codes ",")
  if more then (do
    x ← take
    listed (λ turns. comma_list turns (init_declarator_of typedef rooms) (i ∷ [])))
      else pure (i ∷ [])

-- a declaration whose first declarator is read
unfoldable pub declared_of : Bool → ℕ → Span → Specifiers → Declarator → Parser Declaration
declared_of typedef rooms start s d = do
  i ← valued_of typedef rooms d
  all ← more_declarators_of typedef rooms i
  y ← expect (codes ";")
  pure (tree.declaration s all (to start (at y)))

abbrev pub undeclared_of : Span → Specifiers → Parser Declaration
undeclared_of start s = do
  y ← take
  pure (tree.declaration s [] (to start (at y)))

-- a declaration that is no typedef
unfoldable pub local_of : (Specifiers → Bool) → ℕ → Parser Declaration
local_of test rooms = do
  start ← first
  s ← (reading rooms).specifiers test
  ends ← see (codes ";")
  if ends then undeclared_of start s else (do
    d ← declarator_of (reading rooms)
    declared_of false rooms start s d)
