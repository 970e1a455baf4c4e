-- What the readers of statements give, one alternative at a time.
use Rattle.std.proofs.Common.{◌≡◌, ℕ, ◌+◌, true, false, List, [], ◌∷◌, length, Option, Some, None, refl, codes}
use Rattle.mc_tree.specs.Tree.{BlockItems, Declaration, Expression, ForStart, Statement, span_of, span_of_statement}
use Rattle.mc_tree.specs.Tree as t
use Rattle.mc_tree.specs.Units.{block_from}
use Rattle.mc_grammar.specs.Words.{Lexeme, is_keyword, is_name, is_punctuator, sees, sees_keyword, sees_specifiers}
use Rattle.mc_grammar.specs.Places.{at, name_at, to}
use Rattle.mc_grammar.specs.Counts.{for_local, for_type}
use Rattle.mc_grammar.specs.Nonterminal as n
use Rattle.mc_grammar.specs.steps.Parsers.{Parser, accept}
use Rattle.laws_grammar.specs.Lists.{until_list}
use Rattle.laws_grammar.specs.Expressions.{Parts}
use Rattle.laws_grammar.specs.Rooms.{reading}
use Rattle.laws_grammar.specs.Declarations.{local_of}
use Rattle.laws_grammar.specs.Statements.{Beginning, Block, begins, optional_of, test_of, block_item_of, compound_of, for_start_of, statement_by}
use Rattle.laws_grammar.specs.Statements as b

module _ (parts : Parts) where
  pub optional_none : (stop : List ℕ) (ts : List Lexeme) → sees stop ts ≡ true → optional_of stop parts ts ≡ Some (None, ts)
  unfolding optional_of
  optional_none stop ts e = rw e refl

  pub optional_some : (stop : List ℕ) (ts rest : List Lexeme) (a : Expression) → sees stop ts ≡ false → parts.expression n.comma ts ≡ Some (a, rest) → optional_of stop parts ts ≡ Some (Some a, rest)
  unfolding optional_of
  optional_some stop ts rest a e h = rw (e, h) refl

  pub test_made : (x y : Lexeme) (ts rest : List Lexeme) (a : Expression) → is_punctuator (codes "(") x ≡ true → parts.expression n.comma ts ≡ Some (a, y ∷ rest) → is_punctuator (codes ")") y ≡ true
      → test_of parts (x ∷ ts) ≡ Some (a, rest)
  unfolding test_of accept
  test_made x y ts rest a e h f = rw (e, h, f) refl

module _ (rooms : ℕ) where
  pub starts_local : (ts rest : List Lexeme) (d : Declaration) → sees_specifiers ts ≡ true → local_of for_type rooms ts ≡ Some (d, rest) → for_start_of rooms ts ≡ Some (t.StartsLocal d, rest)
  unfolding for_start_of
  starts_local ts rest d e h = rw (e, h) refl

  pub starts_expression : (y : Lexeme) (ts rest : List Lexeme) (a : Option Expression) → sees_specifiers ts ≡ false → optional_of (codes ";") (reading rooms) ts ≡ Some (a, y ∷ rest)
      → is_punctuator (codes ";") y ≡ true → for_start_of rooms ts ≡ Some (t.StartsExpression a, rest)
  unfolding for_start_of accept
  starts_expression y ts rest a e h f = rw (e, h, f) refl

module _ (rooms : ℕ) (one : Parser Statement) where
  -- ---- blocks

  pub item_local : (ts rest : List Lexeme) (d : Declaration) → sees_specifiers ts ≡ true → local_of for_local rooms ts ≡ Some (d, rest) → block_item_of rooms one ts ≡ Some (t.local d, rest)
  unfolding block_item_of
  item_local ts rest d e h = rw (e, h) refl

  pub item_statement : (ts rest : List Lexeme) (s : Statement) → sees_specifiers ts ≡ false → one ts ≡ Some (s, rest) → block_item_of rooms one ts ≡ Some (t.statement s, rest)
  unfolding block_item_of
  item_statement ts rest s e h = rw (e, h) refl

  pub compound_made : (x y : Lexeme) (ts rest : List Lexeme) (items : List (BlockItems → BlockItems)) → is_punctuator (codes "{") x ≡ true
      → until_list (length ts + 1) (sees (codes "}")) (block_item_of rooms one) [] ts ≡ Some (items, y ∷ rest) → is_punctuator (codes "}") y ≡ true
      → compound_of rooms one (x ∷ ts) ≡ Some (record { items = items; span = to (at x) (at y) }, rest)
  unfolding compound_of accept
  compound_made x y ts rest items e h f = rw (e, h, f) refl

  -- ---- each kind of statement, by what the next tokens begin

  pub begun : (ts : List Lexeme) (first : Beginning) (read : Option (Statement × List Lexeme)) → begins ts ≡ first → statement_by rooms one first ts ≡ read → statement_by rooms one (begins ts) ts ≡ read
  begun ts first read e h = rw e h

  pub block_made : (ts rest : List Lexeme) (block : Block) (body : BlockItems) → compound_of rooms one ts ≡ Some (block, rest) → block_from block.items ≡ body
      → statement_by rooms one b.block ts ≡ Some (t.Compound body block.span, rest)
  block_made ts rest block body h back = rw (h, back) refl

  pub null_made : (x : Lexeme) (ts : List Lexeme) → statement_by rooms one b.null (x ∷ ts) ≡ Some (t.Null (at x), ts)
  null_made x ts = refl

  pub expression_made : (y : Lexeme) (ts rest : List Lexeme) (a : Expression) → (reading rooms).expression n.comma ts ≡ Some (a, y ∷ rest) → is_punctuator (codes ";") y ≡ true
      → statement_by rooms one b.expression ts ≡ Some (t.ExpressionStatement a (to (span_of a) (at y)), rest)
  unfolding accept
  expression_made y ts rest a h e = rw (h, e) refl

  pub if_made : (x : Lexeme) (ts mid rest : List Lexeme) (a : Expression) (s : Statement) → test_of (reading rooms) ts ≡ Some (a, mid) → one mid ≡ Some (s, rest) → sees_keyword (codes "else") rest ≡ false
      → statement_by rooms one b.if_ (x ∷ ts) ≡ Some (t.If a s (to (at x) (span_of_statement s)), rest)
  if_made x ts mid rest a s h g e = rw (h, g, e) refl

  pub else_made : (x y : Lexeme) (ts mid other rest : List Lexeme) (a : Expression) (s u : Statement) → test_of (reading rooms) ts ≡ Some (a, mid) → one mid ≡ Some (s, y ∷ other)
      → is_keyword (codes "else") y ≡ true → one other ≡ Some (u, rest) → statement_by rooms one b.if_ (x ∷ ts) ≡ Some (t.IfElse a s u (to (at x) (span_of_statement u)), rest)
  else_made x y ts mid other rest a s u h g e f = rw (h, g, e, f) refl

  pub switch_made : (x : Lexeme) (ts mid rest : List Lexeme) (a : Expression) (s : Statement) → test_of (reading rooms) ts ≡ Some (a, mid) → one mid ≡ Some (s, rest)
      → statement_by rooms one b.switch (x ∷ ts) ≡ Some (t.Switch a s (to (at x) (span_of_statement s)), rest)
  switch_made x ts mid rest a s h g = rw (h, g) refl

  pub while_made : (x : Lexeme) (ts mid rest : List Lexeme) (a : Expression) (s : Statement) → test_of (reading rooms) ts ≡ Some (a, mid) → one mid ≡ Some (s, rest)
      → statement_by rooms one b.while (x ∷ ts) ≡ Some (t.While a s (to (at x) (span_of_statement s)), rest)
  while_made x ts mid rest a s h g = rw (h, g) refl

  pub do_made : (x y z : Lexeme) (ts mid rest : List Lexeme) (a : Expression) (s : Statement) → one ts ≡ Some (s, y ∷ mid) → is_keyword (codes "while") y ≡ true → test_of (reading rooms) mid ≡ Some (a, z ∷ rest)
      → is_punctuator (codes ";") z ≡ true → statement_by rooms one b.do_ (x ∷ ts) ≡ Some (t.DoWhile s a (to (at x) (at z)), rest)
  unfolding accept
  do_made x y z ts mid rest a s h e g f = rw (h, e, g, f) refl

  pub for_made : (x y z v : Lexeme) (ts after_start after_test body rest : List Lexeme) (start : ForStart) (a c : Option Expression) (s : Statement) → is_punctuator (codes "(") y ≡ true
      → for_start_of rooms ts ≡ Some (start, after_start) → optional_of (codes ";") (reading rooms) after_start ≡ Some (a, z ∷ after_test) → is_punctuator (codes ";") z ≡ true
      → optional_of (codes ")") (reading rooms) after_test ≡ Some (c, v ∷ body) → is_punctuator (codes ")") v ≡ true → one body ≡ Some (s, rest)
      → statement_by rooms one b.for_ (x ∷ y ∷ ts) ≡ Some (t.For start a c s (to (at x) (span_of_statement s)), rest)
  unfolding accept
  for_made x y z v ts after_start after_test body rest start a c s e h g f i j k = rw (e, h, g, f, i, j, k) refl

  pub case_made : (x y : Lexeme) (ts mid rest : List Lexeme) (a : Expression) (s : Statement) → (reading rooms).expression n.cond ts ≡ Some (a, y ∷ mid) → is_punctuator (codes ":") y ≡ true → one mid ≡ Some (s, rest)
      → statement_by rooms one b.case_ (x ∷ ts) ≡ Some (t.Case a (to (at x) (at y)) s (to (at x) (span_of_statement s)), rest)
  unfolding accept
  case_made x y ts mid rest a s h e g = rw (h, e, g) refl

  pub default_made : (x y : Lexeme) (ts rest : List Lexeme) (s : Statement) → is_punctuator (codes ":") y ≡ true → one ts ≡ Some (s, rest)
      → statement_by rooms one b.default_ (x ∷ y ∷ ts) ≡ Some (t.Default (to (at x) (at y)) s (to (at x) (span_of_statement s)), rest)
  unfolding accept
  default_made x y ts rest s e h = rw (e, h) refl

  pub label_made : (x y : Lexeme) (ts rest : List Lexeme) (s : Statement) → one ts ≡ Some (s, rest) → statement_by rooms one b.label (x ∷ y ∷ ts) ≡ Some (t.Label (name_at x) s (to (at x) (span_of_statement s)), rest)
  label_made x y ts rest s h = rw h refl

  pub goto_made : (x y z : Lexeme) (rest : List Lexeme) → is_name y ≡ true → is_punctuator (codes ";") z ≡ true → statement_by rooms one b.goto_ (x ∷ y ∷ z ∷ rest) ≡ Some (t.Goto (name_at y) (to (at x) (at z)), rest)
  unfolding accept
  goto_made x y z rest e f = rw (e, f) refl

  pub continue_made : (x y : Lexeme) (rest : List Lexeme) → is_punctuator (codes ";") y ≡ true → statement_by rooms one b.continue_ (x ∷ y ∷ rest) ≡ Some (t.Continue (to (at x) (at y)), rest)
  unfolding accept
  continue_made x y rest e = rw e refl

  pub break_made : (x y : Lexeme) (rest : List Lexeme) → is_punctuator (codes ";") y ≡ true → statement_by rooms one b.break_ (x ∷ y ∷ rest) ≡ Some (t.Break (to (at x) (at y)), rest)
  unfolding accept
  break_made x y rest e = rw e refl

  pub return_made : (x y : Lexeme) (ts rest : List Lexeme) (a : Option Expression) → optional_of (codes ";") (reading rooms) ts ≡ Some (a, y ∷ rest) → is_punctuator (codes ";") y ≡ true
      → statement_by rooms one b.return_ (x ∷ ts) ≡ Some (t.Return a (to (at x) (at y)), rest)
  unfolding accept
  return_made x y ts rest a h e = rw (h, e) refl
