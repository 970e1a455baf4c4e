-- What the readers of initializers, declarations and items give, one alternative at a time.
use Rattle.std.proofs.Common.{◌≡◌, ℕ, suc, ◌+◌, ◌<◌, Bool, true, false, List, [], ◌∷◌, length, Some, refl, le-leb, codes}
use Rattle.mc_span.specs.declared.span.Span.{Span}
use Rattle.mc_tree.specs.Tree.{BlockItems, Declaration, Declarator, Expression, InitDeclarator, Initializer, Initializers, Name, Parameters, Specifiers}
use Rattle.mc_tree.specs.Tree as t
use Rattle.mc_tree.specs.Units.{initializers_from, block_from}
use Rattle.mc_grammar.specs.Words.{Lexeme, is_punctuator, sees}
use Rattle.mc_grammar.specs.Places.{at, to}
use Rattle.mc_grammar.specs.Counts.{for_item, for_function, is_typedef}
use Rattle.mc_grammar.specs.Nonterminal as n
use Rattle.mc_grammar.specs.Statements.{after}
use Rattle.mc_grammar.specs.steps.Parsers.{accept}
use Rattle.laws_grammar.specs.Lists.{braced_list, comma_list}
use Rattle.laws_grammar.specs.Specifiers.{declarator_of}
use Rattle.laws_grammar.specs.Rooms.{reading}
use Rattle.laws_grammar.specs.Declarations.{initializer_of, valued_of, init_declarator_of, declared_of, local_of}
use Rattle.laws_grammar.specs.Statements.{Block, compound_of, statement_of}
use Rattle.laws_grammar.specs.Items.{defined_of, item_of}

module _ (rooms : ℕ) where
  -- ---- initializers

  pub initializer_single : (ts rest : List Lexeme) (a : Expression) → sees (codes "{") ts ≡ false → (reading rooms).expression n.assign ts ≡ Some (a, rest) → initializer_of (suc rooms) ts ≡ Some (t.Single a, rest)
  unfolding initializer_of
  initializer_single ts rest a e h = rw (e, h) refl

  pub initializer_braced : (x y : Lexeme) (ts rest : List Lexeme) (items : List Initializer) (all : Initializers) → is_punctuator (codes "{") x ≡ true
      → braced_list (length ts + 1) (initializer_of rooms) [] ts ≡ Some (items, y ∷ rest) → initializers_from items ≡ all → is_punctuator (codes "}") y ≡ true
      → initializer_of (suc rooms) (x ∷ ts) ≡ Some (t.Braced all (to (at x) (at y)), rest)
  unfolding initializer_of accept
  initializer_braced x y ts rest items all e h back f = rw (e, h, f, back) refl

  -- ---- declarators with their initializers

  pub valued_bare : (typedef : Bool) (d : Declarator) (ts : List Lexeme) → sees (codes "=") (after typedef d ts) ≡ false → valued_of typedef rooms d ts ≡ Some (t.bare d, after typedef d ts)
  unfolding valued_of
  valued_bare typedef d ts e = rw e refl

  pub valued_given : (typedef : Bool) (d : Declarator) (x : Lexeme) (ts value rest : List Lexeme) (i : Initializer) → after typedef d ts ≡ x ∷ value → is_punctuator (codes "=") x ≡ true
      → initializer_of rooms value ≡ Some (i, rest) → valued_of typedef rooms d ts ≡ Some (t.initialized d i, rest)
  unfolding valued_of
  valued_given typedef d x ts value rest i g e h = rw (g, e, h) refl

  pub init_declarator_made : (typedef : Bool) (d : Declarator) (ts mid rest : List Lexeme) (i : InitDeclarator) → declarator_of (reading rooms) ts ≡ Some (d, mid) → valued_of typedef rooms d mid ≡ Some (i, rest)
      → init_declarator_of typedef rooms ts ≡ Some (i, rest)
  unfolding init_declarator_of
  init_declarator_made typedef d ts mid rest i h g = rw h g

  pub declared_last : (typedef : Bool) (start : Span) (s : Specifiers) (d : Declarator) (y : Lexeme) (ts rest : List Lexeme) (i : InitDeclarator) → valued_of typedef rooms d ts ≡ Some (i, y ∷ rest)
      → sees (codes ",") (y ∷ rest) ≡ false → is_punctuator (codes ";") y ≡ true → declared_of typedef rooms start s d ts ≡ Some (t.declaration s (i ∷ []) (to start (at y)), rest)
  unfolding declared_of accept
  declared_last typedef start s d y ts rest i h e f = rw (h, e, f) refl

  pub declared_more : (typedef : Bool) (start : Span) (s : Specifiers) (d : Declarator) (x y : Lexeme) (ts mid rest : List Lexeme) (i : InitDeclarator) (all : List InitDeclarator)
      → valued_of typedef rooms d ts ≡ Some (i, x ∷ mid) → is_punctuator (codes ",") x ≡ true → comma_list (length mid + 1) (init_declarator_of typedef rooms) (i ∷ []) mid ≡ Some (i ∷ all, y ∷ rest)
      → is_punctuator (codes ";") y ≡ true → declared_of typedef rooms start s d ts ≡ Some (t.declaration s (i ∷ all) (to start (at y)), rest)
  unfolding declared_of accept
  declared_more typedef start s d x y ts mid rest i all h e g f = rw (h, e, g, f) refl

  -- ---- locals

  pub local_none : (test : Specifiers → Bool) (x y : Lexeme) (ts rest : List Lexeme) (s : Specifiers) → (reading rooms).specifiers test (x ∷ ts) ≡ Some (s, y ∷ rest) → is_punctuator (codes ";") y ≡ true
      → local_of test rooms (x ∷ ts) ≡ Some (t.declaration s [] (to (at x) (at y)), rest)
  unfolding local_of
  local_none test x y ts rest s h e = rw (h, e) refl

  pub local_some : (test : Specifiers → Bool) (x : Lexeme) (ts mid left rest : List Lexeme) (s : Specifiers) (d : Declarator) (one : Declaration) → (reading rooms).specifiers test (x ∷ ts) ≡ Some (s, mid)
      → sees (codes ";") mid ≡ false → declarator_of (reading rooms) mid ≡ Some (d, left) → declared_of false rooms (at x) s d left ≡ Some (one, rest) → local_of test rooms (x ∷ ts) ≡ Some (one, rest)
  unfolding local_of
  local_some test x ts mid left rest s d one h e g f = rw (h, e, g, f) refl

  -- ---- items

  pub item_none : (x y : Lexeme) (ts rest : List Lexeme) (s : Specifiers) → (reading rooms).specifiers for_item (x ∷ ts) ≡ Some (s, y ∷ rest) → is_punctuator (codes ";") y ≡ true
      → item_of rooms (x ∷ ts) ≡ Some (t.Declared (t.declaration s [] (to (at x) (at y))), rest)
  unfolding item_of
  item_none x y ts rest s h e = rw (h, e) refl

  pub item_some : (typedef : Bool) (x : Lexeme) (ts mid left rest : List Lexeme) (s : Specifiers) (d : Declarator) (one : Declaration) → is_typedef s ≡ typedef
      → (reading rooms).specifiers for_item (x ∷ ts) ≡ Some (s, mid) → sees (codes ";") mid ≡ false → declarator_of (reading rooms) mid ≡ Some (d, left) → sees (codes "{") left ≡ false
      → declared_of typedef rooms (at x) s d left ≡ Some (one, rest) → item_of rooms (x ∷ ts) ≡ Some (t.Declared one, rest)
  unfolding item_of
  item_some typedef x ts mid left rest s d one u h e g f i = rw (h, e, g, f, u, i) refl

pub item_defined : (room : ℕ) (x : Lexeme) (ts mid left rest : List Lexeme) (s : Specifiers) (stars : ℕ) (name : Name) (ps : Parameters) (place : Span) (block : Block) (body : BlockItems) → 0 < room
    → (reading (suc room)).specifiers for_item (x ∷ ts) ≡ Some (s, mid) → sees (codes ";") mid ≡ false → declarator_of (reading (suc room)) mid ≡ Some (t.function stars name ps place, left)
    → sees (codes "{") left ≡ true → for_function s ≡ true → compound_of room (statement_of room) left ≡ Some (block, rest) → block_from block.items ≡ body
    → item_of (suc room) (x ∷ ts) ≡ Some (t.Defined s (t.function stars name ps place) body (to (at x) block.span), rest)
unfolding item_of defined_of
item_defined room x ts mid left rest s stars name ps place block body low h e g f i c back = rw (h, e, g, f, i, le-leb 1 room low, c, back) refl
