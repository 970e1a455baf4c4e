-- What the grammar reads of statements, the readers give where there is room for its height.
use Rattle.std.proofs.Common.{◌≡◌, ℕ, zero, suc, ◌<◌, ◌≤◌, List, ◌∷◌, Option, Some, refl, arith, codes}
use Rattle.mc_lex.specs.declared.token.Dialect.{Dialect}
use Rattle.mc_span.specs.declared.span.Span.{Span}
use Rattle.mc_tree.specs.Tree.{BlockItems, Expression, ForStart, Statement}
use Rattle.mc_tree.specs.Tree as t
use Rattle.mc_tree.specs.Height.{height_optional, height_start, height_statement, height_block, height}
use Rattle.mc_grammar.specs.Words.{Lexeme, sees}
use Rattle.mc_grammar.specs.Nonterminal as n
use Rattle.mc_grammar.specs.Statements.{ReadsOptional, ReadsTest, ReadsForStart, ReadsStatement, ReadsCompound, ReadsBlockItems}
use Rattle.mc_grammar.specs.Statements as r
use Rattle.laws_grammar.specs.Lists.{until_list}
use Rattle.laws_grammar.specs.Rooms.{reading}
use Rattle.laws_grammar.specs.Statements.{begins, optional_of, test_of, block_item_of, compound_of, for_start_of, statement_by, statement_of}
use Rattle.laws_grammar.specs.Statements as b
use Rattle.mc_grammar.proofs.Lengths.{declaration_shorter, statement_shorter}
use Rattle.laws_grammar.proofs.TreeLists.{block_in, block_back}
use Rattle.laws_grammar.proofs.CompleteLists.{Adds, all_of, until_none, until_more}
use Rattle.laws_grammar.proofs.CompleteExpressions.{complete, inside}
use Rattle.laws_grammar.proofs.Beginnings.{declaration_begins, specifiers_no_brace, block_begins, begins_null, begins_label, begins_if, begins_switch, begins_while, begins_do, begins_for, begins_case, begins_default, begins_goto, begins_continue, begins_break, begins_return, begins_expression}
use Rattle.laws_grammar.proofs.CompleteDeclarations.{complete_local}
use Rattle.laws_grammar.proofs.StatementSteps as step

pub complete_optional : {d : Dialect} {stop : List ℕ} {ts rest : List Lexeme} {a : Option Expression} → ReadsOptional d stop ts a rest → (levels : ℕ) → height_optional a < levels
    → optional_of stop (reading levels) ts ≡ Some (a, rest)
complete_optional (r.no_expression e) levels h = step.optional_none (reading levels) _ _ e
complete_optional (r.an_expression e p) levels h = step.optional_some (reading levels) _ _ _ _ e (inside n.comma _ _ _ (complete p) levels h)

pub complete_test : {d : Dialect} {ts rest : List Lexeme} {a : Expression} → ReadsTest d ts a rest → (levels : ℕ) → height a < levels → test_of (reading levels) ts ≡ Some (a, rest)
complete_test (r.test e p f) levels h = step.test_made (reading levels) _ _ _ _ _ e (inside n.comma _ _ _ (complete p) levels h) f

pub complete_for_start : {d : Dialect} {ts rest : List Lexeme} {start : ForStart} → ReadsForStart d ts start rest → (levels : ℕ) → height_start start < levels → for_start_of levels ts ≡ Some (start, rest)
complete_for_start (r.starts_local p) levels h = step.starts_local levels _ _ _ (declaration_begins p) (complete_local p levels h)
complete_for_start (r.starts_expression e p f) levels h = step.starts_expression levels _ _ _ _ e (complete_optional p levels h) f

statement_pos : (one : Statement) → 0 < height_statement one
statement_pos (t.Compound all span) = omega arith
statement_pos (t.Null span) = omega arith
statement_pos (t.ExpressionStatement a span) = omega arith
statement_pos (t.If a s span) = omega arith
statement_pos (t.IfElse a s u span) = omega arith
statement_pos (t.Switch a s span) = omega arith
statement_pos (t.While a s span) = omega arith
statement_pos (t.DoWhile s a span) = omega arith
statement_pos (t.For start a c s span) = omega arith
statement_pos (t.Case a label s span) = omega arith
statement_pos (t.Default label s span) = omega arith
statement_pos (t.Label name s span) = omega arith
statement_pos (t.Goto name span) = omega arith
statement_pos (t.Break span) = omega arith
statement_pos (t.Continue span) = omega arith
statement_pos (t.Return a span) = omega arith

statement_inside : (ts rest : List Lexeme) (one : Statement) → ((room : ℕ) → height_statement one ≤ room → statement_by room (statement_of room) (begins ts) ts ≡ Some (one, rest))
    → (levels : ℕ) → height_statement one < levels → statement_of levels ts ≡ Some (one, rest)
unfolding statement_of
statement_inside ts rest one f zero h = absurd (omega (arith, h))
statement_inside ts rest one f (suc zero) h = absurd (omega (arith, h, statement_pos one))
statement_inside ts rest one f (suc (suc room)) h = f (suc room) (omega arith)

mutual
  made : {d : Dialect} {ts rest : List Lexeme} {one : Statement} → ReadsStatement d ts one rest → (room : ℕ) → height_statement one ≤ room → statement_by room (statement_of room) (begins ts) ts ≡ Some (one, rest)
  made (r.compound {ts = ts} {b = all} p) room h =
      step.begun room (statement_of room) ts b.block _ (block_begins p) (step.block_made room (statement_of room) _ _ _ _ (complete_compound p room (omega arith)) (block_back all))
  made (r.null {y = y} {rest = rest} e) room h = step.begun room (statement_of room) (y ∷ rest) b.null _ (begins_null y rest e) (step.null_made room (statement_of room) y rest)
  made (r.expression_statement {ts = ts} e f p g) room h =
      step.begun room (statement_of room) ts b.expression _ (begins_expression p refl f) (step.expression_made room (statement_of room) _ _ _ _ (inside n.comma _ _ _ (complete p) room (omega arith)) g)
  made (r.if_only {x = x} {ts = ts} e p q f) room h =
      step.begun room (statement_of room) (x ∷ ts) b.if_ _ (begins_if x ts e) (step.if_made room (statement_of room) x ts _ _ _ _ (complete_test p room (omega arith)) (statement_inside _ _ _ (made q) room (omega arith)) f)
  made (r.if_else {x = x} {ts = ts} e p q f v) room h =
      step.begun room (statement_of room) (x ∷ ts) b.if_ _ (begins_if x ts e)
      (step.else_made room (statement_of room) x _ ts _ _ _ _ _ _ (complete_test p room (omega arith)) (statement_inside _ _ _ (made q) room (omega arith)) f (statement_inside _ _ _ (made v) room (omega arith)))
  made (r.switch {x = x} {ts = ts} e p q) room h =
      step.begun room (statement_of room) (x ∷ ts) b.switch _ (begins_switch x ts e) (step.switch_made room (statement_of room) x ts _ _ _ _ (complete_test p room (omega arith)) (statement_inside _ _ _ (made q) room (omega arith)))
  made (r.while {x = x} {ts = ts} e p q) room h =
      step.begun room (statement_of room) (x ∷ ts) b.while _ (begins_while x ts e) (step.while_made room (statement_of room) x ts _ _ _ _ (complete_test p room (omega arith)) (statement_inside _ _ _ (made q) room (omega arith)))
  made (r.do_while {x = x} {ts = ts} e p f q g) room h =
      step.begun room (statement_of room) (x ∷ ts) b.do_ _ (begins_do x ts e) (step.do_made room (statement_of room) x _ _ ts _ _ _ _ (statement_inside _ _ _ (made p) room (omega arith)) f (complete_test q room (omega arith)) g)
  made (r.for {x = x} {y = y} {ts = ts} e f p q g v i w) room h =
      step.begun room (statement_of room) (x ∷ y ∷ ts) b.for_ _ (begins_for x (y ∷ ts) e)
      (step.for_made room (statement_of room) x y _ _ ts _ _ _ _ _ _ _ _ f (complete_for_start p room (omega arith)) (complete_optional q room (omega arith)) g (complete_optional v room (omega arith)) i
      (statement_inside _ _ _ (made w) room (omega arith)))
  made (r.case_label {x = x} {ts = ts} e p f q) room h =
      step.begun room (statement_of room) (x ∷ ts) b.case_ _ (begins_case x ts e)
      (step.case_made room (statement_of room) x _ ts _ _ _ _ (inside n.cond _ _ _ (complete p) room (omega arith)) f (statement_inside _ _ _ (made q) room (omega arith)))
  made (r.default {x = x} {y = y} {ts = ts} e f p) room h =
      step.begun room (statement_of room) (x ∷ y ∷ ts) b.default_ _ (begins_default x (y ∷ ts) e) (step.default_made room (statement_of room) x y ts _ _ f (statement_inside _ _ _ (made p) room (omega arith)))
  made (r.label {x = x} {y = y} {ts = ts} e f p) room h =
      step.begun room (statement_of room) (x ∷ y ∷ ts) b.label _ (begins_label x y ts e f) (step.label_made room (statement_of room) x y ts _ _ (statement_inside _ _ _ (made p) room (omega arith)))
  made (r.goto {x = x} {y = y} {z = z} {rest = rest} e f g) room h =
      step.begun room (statement_of room) (x ∷ y ∷ z ∷ rest) b.goto_ _ (begins_goto x (y ∷ z ∷ rest) e) (step.goto_made room (statement_of room) x y z rest f g)
  made (r.continue {x = x} {y = y} {rest = rest} e f) room h =
      step.begun room (statement_of room) (x ∷ y ∷ rest) b.continue_ _ (begins_continue x (y ∷ rest) e) (step.continue_made room (statement_of room) x y rest f)
  made (r.break {x = x} {y = y} {rest = rest} e f) room h = step.begun room (statement_of room) (x ∷ y ∷ rest) b.break_ _ (begins_break x (y ∷ rest) e) (step.break_made room (statement_of room) x y rest f)
  made (r.return {x = x} {ts = ts} e p f) room h =
      step.begun room (statement_of room) (x ∷ ts) b.return_ _ (begins_return x ts e) (step.return_made room (statement_of room) x _ ts _ _ (complete_optional p room (omega arith)) f)

  pub complete_compound : {d : Dialect} {span : Span} {ts rest : List Lexeme} {all : BlockItems} → ReadsCompound d ts all span rest → (levels : ℕ) → height_block all < levels
      → compound_of levels (statement_of levels) ts ≡ Some (record { items = block_in all; span = span }, rest)
  complete_compound (r.block e p f) levels h = step.compound_made levels (statement_of levels) _ _ _ _ _ e (all_of (complete_block_items p levels h)) f

  pub complete_block_items : {d : Dialect} {ts rest : List Lexeme} {all : BlockItems} → ReadsBlockItems d ts all rest → (levels : ℕ) → height_block all < levels
      → Adds (λ turns. until_list turns (sees (codes "}")) (block_item_of levels (statement_of levels))) ts (block_in all) rest
  complete_block_items (r.block_end e) levels h = until_none _ (sees (codes "}")) e
  complete_block_items (r.local {ts = ts} e p q) levels h =
      until_more _ (sees (codes "}")) (specifiers_no_brace ts e) (step.item_local levels (statement_of levels) _ _ _ e (complete_local p levels (omega arith))) (declaration_shorter p)
      (complete_block_items q levels (omega arith))
  complete_block_items (r.statement e f p q) levels h =
      until_more _ (sees (codes "}")) e (step.item_statement levels (statement_of levels) _ _ _ f (statement_inside _ _ _ (made p) levels (omega arith))) (statement_shorter p)
      (complete_block_items q levels (omega arith))

pub complete_statement : {d : Dialect} {ts rest : List Lexeme} {one : Statement} → ReadsStatement d ts one rest → (levels : ℕ) → height_statement one < levels → statement_of levels ts ≡ Some (one, rest)
complete_statement p levels h = statement_inside _ _ _ (made p) levels h
