-- Blocks, braces and labels with the brackets of their parts.
use Rattle.std.proofs.Common.{◌≡◌, ◌<◌, ℕ, Bool, true, false, ◌==◌, not, ◌&&◌, ◌||◌, List, [], ◌∷◌, Some, None, if◌then◌else◌, refl, ap, ap₂, ◌∙◌, arith}
use Rattle.std.proofs.lemmas.Bool.{eq-eqb, ne_eqb}
use Rattle.mc_span.specs.declared.span.Span.{Span}
use Rattle.mc_tree.specs.Tree.{Specifier, Specifiers, Declarator, InitDeclarator, Declaration, Statement, BlockItems, name_of, span_of_statement}
use Rattle.mc_tree.specs.Tree as tree
use Rattle.reread_probes.specs.declared.counted.Counted.{Counted}
use Rattle.reread_probes.specs.declared.spot.Spot.TheVariants as spot
use Rattle.reread_probes.specs.Walks.{Walk, must_take}
use Rattle.reread_probes.specs.Statements.{is_static, has_static, is_initialized, initializes, is_counted_local, span_of_declaration, take_local, enter_local, is_default, default_among, has_default, lacks_default, is_counted, counted_first, starts_at, enter_counted, enter_braces, take_default, leave_counted, leave_braces, walk_statement, walk_block}
use Rattle.reread_law_texts.specs.weave.Brackets.{Brackets}
use Rattle.reread_law_texts.specs.weave.Trees.{braced_by, bracketed, bracketed_specifier, bracketed_specifiers, bracketed_declarator, bracketed_init_declarator, bracketed_init_declarators, bracketed_declaration, bracketed_optional, bracketed_start, bracketed_statement, bracketed_block}
use Rattle.reread_law_rows.specs.inserted.Rows.{Row}
use Rattle.reread_law_texts.specs.apart.Enclosed.{StartsAfter}
use Rattle.reread_law_rows.proofs.Taken.Puts.{PutsInside}
use Rattle.reread_law_rows.proofs.Taken.Puts as puts

-- ---- a statement without the braces round itself

abbrev pub core : Brackets → Statement → Statement
core w (tree.Compound b span) = tree.Compound (bracketed_block w b) span
core w (tree.Null span) = tree.Null span
core w (tree.ExpressionStatement a span) = tree.ExpressionStatement (bracketed w a) span
core w (tree.If a s span) = tree.If (bracketed w a) (bracketed_statement w s) span
core w (tree.IfElse a s u span) =
    tree.IfElse (bracketed w a) (bracketed_statement w s) (bracketed_statement w u) span
core w (tree.Switch a s span) = tree.Switch (bracketed w a) (bracketed_statement w s) span
core w (tree.While a s span) = tree.While (bracketed w a) (bracketed_statement w s) span
core w (tree.DoWhile s a span) = tree.DoWhile (bracketed_statement w s) (bracketed w a) span
core w (tree.For start a b s span) =
    tree.For (bracketed_start w start) (bracketed_optional w a) (bracketed_optional w b)
    (bracketed_statement w s) span
core w (tree.Case a label s span) = tree.Case (bracketed w a) label (bracketed_statement w s) span
core w (tree.Default label s span) = tree.Default label (bracketed_statement w s) span
core w (tree.Label name s span) = tree.Label name (bracketed_statement w s) span
core w (tree.Goto name span) = tree.Goto name span
core w (tree.Break span) = tree.Break span
core w (tree.Continue span) = tree.Continue span
core w (tree.Return a span) = tree.Return (bracketed_optional w a) span

core_span : (w : Brackets) (s : Statement) → span_of_statement (core w s) ≡ span_of_statement s
core_span w (tree.Compound b span) = refl
core_span w (tree.Null span) = refl
core_span w (tree.ExpressionStatement a span) = refl
core_span w (tree.If a s span) = refl
core_span w (tree.IfElse a s u span) = refl
core_span w (tree.Switch a s span) = refl
core_span w (tree.While a s span) = refl
core_span w (tree.DoWhile s a span) = refl
core_span w (tree.For start a b s span) = refl
core_span w (tree.Case a label s span) = refl
core_span w (tree.Default label s span) = refl
core_span w (tree.Label name s span) = refl
core_span w (tree.Goto name span) = refl
core_span w (tree.Break span) = refl
core_span w (tree.Continue span) = refl
core_span w (tree.Return a span) = refl

braced_core : (w : Brackets) {s : Statement} {rows later : List Row} → PutsInside s rows later
    → bracketed_statement w s ≡ braced_by (w.braces (span_of_statement s)) (span_of_statement s) (core w s)
braced_core w puts.null = refl
braced_core w (puts.effect p) = refl
braced_core w (puts.if_only p q) = refl
braced_core w (puts.if_else p q r) = refl
braced_core w (puts.switch p q) = refl
braced_core w (puts.while p q) = refl
braced_core w (puts.do_while p q) = refl
braced_core w (puts.for p q r v) = refl
braced_core w puts.break = refl
braced_core w puts.continue = refl
braced_core w puts.return_nothing = refl
braced_core w (puts.return_value p) = refl

core_counted : (w : Brackets) {s : Statement} {rows later : List Row} → PutsInside s rows later → is_counted (core w s) ≡ true
core_counted w puts.null = refl
core_counted w (puts.effect p) = refl
core_counted w (puts.if_only p q) = refl
core_counted w (puts.if_else p q r) = refl
core_counted w (puts.switch p q) = refl
core_counted w (puts.while p q) = refl
core_counted w (puts.do_while p q) = refl
core_counted w (puts.for p q r v) = refl
core_counted w puts.break = refl
core_counted w puts.continue = refl
core_counted w puts.return_nothing = refl
core_counted w (puts.return_value p) = refl

-- ---- labels of a `switch`

braced_default : (b : Bool) (span : Span) (s : Statement) → is_default s ≡ false → is_default (braced_by b span s) ≡ false
braced_default true span s e = refl
braced_default false span s e = e

same_default : (w : Brackets) (s : Statement) → is_default (bracketed_statement w s) ≡ is_default s
same_default w (tree.Compound b span) = refl
same_default w (tree.Null span) = braced_default (w.braces span) span _ refl
same_default w (tree.ExpressionStatement a span) = braced_default (w.braces span) span _ refl
same_default w (tree.If a s span) = braced_default (w.braces span) span _ refl
same_default w (tree.IfElse a s u span) = braced_default (w.braces span) span _ refl
same_default w (tree.Switch a s span) = braced_default (w.braces span) span _ refl
same_default w (tree.While a s span) = braced_default (w.braces span) span _ refl
same_default w (tree.DoWhile s a span) = braced_default (w.braces span) span _ refl
same_default w (tree.For start a b s span) = braced_default (w.braces span) span _ refl
same_default w (tree.Case a label s span) = same_default w s
same_default w (tree.Default label s span) = refl
same_default w (tree.Label name s span) = same_default w s
same_default w (tree.Goto name span) = braced_default (w.braces span) span _ refl
same_default w (tree.Break span) = braced_default (w.braces span) span _ refl
same_default w (tree.Continue span) = braced_default (w.braces span) span _ refl
same_default w (tree.Return a span) = braced_default (w.braces span) span _ refl

same_among : (w : Brackets) (b : BlockItems) → default_among (bracketed_block w b) ≡ default_among b
same_among w tree.no_block_items = refl
same_among w (tree.local d rest) = same_among w rest
same_among w (tree.statement s rest) =
    ap (λ x. x || default_among (bracketed_block w rest)) (same_default w s) ∙ ap (λ x. is_default s || x) (same_among w rest)

braced_has : (b : Bool) (span : Span) (s : Statement) → is_default s ≡ false → has_default s ≡ false
    → has_default (braced_by b span s) ≡ false
braced_has true span s e k = ap (λ x. x || false) e
braced_has false span s e k = k

same_has : (w : Brackets) (s : Statement) → has_default (bracketed_statement w s) ≡ has_default s
same_has w (tree.Compound b span) = same_among w b
same_has w (tree.Null span) = braced_has (w.braces span) span _ refl refl
same_has w (tree.ExpressionStatement a span) = braced_has (w.braces span) span _ refl refl
same_has w (tree.If a s span) = braced_has (w.braces span) span _ refl refl
same_has w (tree.IfElse a s u span) = braced_has (w.braces span) span _ refl refl
same_has w (tree.Switch a s span) = braced_has (w.braces span) span _ refl refl
same_has w (tree.While a s span) = braced_has (w.braces span) span _ refl refl
same_has w (tree.DoWhile s a span) = braced_has (w.braces span) span _ refl refl
same_has w (tree.For start a b s span) = braced_has (w.braces span) span _ refl refl
same_has w (tree.Case a label s span) = same_default w s
same_has w (tree.Default label s span) = refl
same_has w (tree.Label name s span) = same_default w s
same_has w (tree.Goto name span) = braced_has (w.braces span) span _ refl refl
same_has w (tree.Break span) = braced_has (w.braces span) span _ refl refl
same_has w (tree.Continue span) = braced_has (w.braces span) span _ refl refl
same_has w (tree.Return a span) = braced_has (w.braces span) span _ refl refl

core_lacks : (w : Brackets) (s : Statement) → lacks_default (core w s) ≡ lacks_default s
core_lacks w (tree.Compound b span) = refl
core_lacks w (tree.Null span) = refl
core_lacks w (tree.ExpressionStatement a span) = refl
core_lacks w (tree.If a s span) = refl
core_lacks w (tree.IfElse a s u span) = refl
core_lacks w (tree.Switch a s span) = ap not (same_has w s)
core_lacks w (tree.While a s span) = refl
core_lacks w (tree.DoWhile s a span) = refl
core_lacks w (tree.For start a b s span) = refl
core_lacks w (tree.Case a label s span) = refl
core_lacks w (tree.Default label s span) = refl
core_lacks w (tree.Label name s span) = refl
core_lacks w (tree.Goto name span) = refl
core_lacks w (tree.Break span) = refl
core_lacks w (tree.Continue span) = refl
core_lacks w (tree.Return a span) = refl

-- ---- the braces of a probe

abbrev pub counting : Span → Bool → Counted
counting at lacks = record { span = at; lacks_default = lacks }

module _ (one : Statement) (at : Span) (lacks : Bool) (e : span_of_statement one ≡ at) (k : is_counted one ≡ true)
    (l : lacks_default one ≡ lacks) where
  abbrev alone : BlockItems
  alone = tree.statement one tree.no_block_items

  first_counted : counted_first alone ≡ Some (counting at lacks)
  first_counted =
      ap (λ (b : Bool). if b then Some (counting (span_of_statement one) (lacks_default one)) else None) k
      ∙ ap₂ (λ x y. Some (counting x y)) e l

  starts_there : starts_at at.start alone ≡ true
  starts_there = eq-eqb (span_of_statement one).start at.start (ap (λ (s : Span). s.start) e)

  entered : (walk : Walk) → enter_braces alone at walk ≡ must_take (spot.Statement at.start) at walk
  entered walk =
      ap (λ (b : Bool). if b then enter_counted (counted_first alone) walk else walk) starts_there
      ∙ ap (λ o. enter_counted o walk) first_counted

  left : (walk : Walk) → leave_braces alone at walk ≡ take_default (counting at lacks) walk
  left walk =
      ap (λ (b : Bool). if b then leave_counted (counted_first alone) walk else walk) starts_there
      ∙ ap (λ o. leave_counted o walk) first_counted

  pub braces_walk : (walk : Walk) → walk_statement (braced_by true at one) walk
      ≡ take_default (counting at lacks) (walk_statement one (must_take (spot.Statement at.start) at walk))
  braces_walk walk =
      ap (λ z. leave_braces alone at (walk_statement one z)) (entered walk)
      ∙ left (walk_statement one (must_take (spot.Statement at.start) at walk))

pub counted_walk : (w : Brackets) {s : Statement} {rows later : List Row} → PutsInside s rows later → (walk : Walk)
    → w.braces (span_of_statement s) ≡ true
    → walk_statement (bracketed_statement w s) walk
    ≡ take_default (counting (span_of_statement s) (lacks_default s))
    (walk_statement (core w s) (must_take (spot.Statement (span_of_statement s).start) (span_of_statement s) walk))
counted_walk w {s = s} p walk e =
    ap (λ x. walk_statement x walk) (braced_core w p ∙ ap (λ b. braced_by b (span_of_statement s) (core w s)) e)
    ∙ braces_walk (core w s) (span_of_statement s) (lacks_default s) (core_span w s) (core_counted w p) (core_lacks w s) walk

-- ---- the braces of the source

braced_span : (b : Bool) (at : Span) (s : Statement) → span_of_statement s ≡ at → span_of_statement (braced_by b at s) ≡ at
braced_span true at s e = refl
braced_span false at s e = e

statement_span : (w : Brackets) (s : Statement) → span_of_statement (bracketed_statement w s) ≡ span_of_statement s
statement_span w (tree.Compound b span) = refl
statement_span w (tree.Null span) = braced_span (w.braces span) span _ refl
statement_span w (tree.ExpressionStatement a span) = braced_span (w.braces span) span _ refl
statement_span w (tree.If a s span) = braced_span (w.braces span) span _ refl
statement_span w (tree.IfElse a s u span) = braced_span (w.braces span) span _ refl
statement_span w (tree.Switch a s span) = braced_span (w.braces span) span _ refl
statement_span w (tree.While a s span) = braced_span (w.braces span) span _ refl
statement_span w (tree.DoWhile s a span) = braced_span (w.braces span) span _ refl
statement_span w (tree.For start a b s span) = braced_span (w.braces span) span _ refl
statement_span w (tree.Case a label s span) = refl
statement_span w (tree.Default label s span) = refl
statement_span w (tree.Label name s span) = refl
statement_span w (tree.Goto name span) = braced_span (w.braces span) span _ refl
statement_span w (tree.Break span) = braced_span (w.braces span) span _ refl
statement_span w (tree.Continue span) = braced_span (w.braces span) span _ refl
statement_span w (tree.Return a span) = braced_span (w.braces span) span _ refl

later_not : (m n : ℕ) → m < n → (n == m) ≡ false
later_not m n h = ne_eqb n m (λ e. omega (arith, h, e))

starts_not : (w : Brackets) (at : ℕ) (b : BlockItems) → StartsAfter at b → starts_at at (bracketed_block w b) ≡ false
starts_not w at tree.no_block_items h = refl
starts_not w at (tree.local (tree.declaration s ds span) rest) h = later_not at span.start h
starts_not w at (tree.statement s rest) h =
    ap (λ (x : Span). x.start == at) (statement_span w s) ∙ later_not at (span_of_statement s).start h

pub compound_walk : (w : Brackets) (b : BlockItems) (at : Span) (walk : Walk) → StartsAfter at.start b
    → walk_statement (tree.Compound (bracketed_block w b) at) walk ≡ walk_block (bracketed_block w b) walk
compound_walk w b at walk h =
    ap (λ (x : Bool). leave_braces (bracketed_block w b) at (walk_block (bracketed_block w b)
    (if x then enter_counted (counted_first (bracketed_block w b)) walk else walk))) (starts_not w at.start b h)
    ∙ ap (λ (x : Bool). if x then leave_counted (counted_first (bracketed_block w b)) (walk_block (bracketed_block w b) walk)
    else walk_block (bracketed_block w b) walk) (starts_not w at.start b h)

-- ---- declarations in a block

same_static : (w : Brackets) (s : Specifier) → is_static (bracketed_specifier w s) ≡ is_static s
same_static w (tree.Word word span) = refl
same_static w (tree.TypedefName name) = refl
same_static w (tree.StructureTag name span) = refl
same_static w (tree.Structure tag all span) = refl
same_static w (tree.EnumerationTag name span) = refl
same_static w (tree.Enumeration tag all span) = refl

same_statics : (w : Brackets) (all : Specifiers) → has_static (bracketed_specifiers w all) ≡ has_static all
same_statics w tree.no_specifiers = refl
same_statics w (tree.specifiers s rest) =
    ap (λ x. x || has_static (bracketed_specifiers w rest)) (same_static w s)
    ∙ ap (λ x. is_static s || x) (same_statics w rest)

same_initialized : (w : Brackets) (d : InitDeclarator) → is_initialized (bracketed_init_declarator w d) ≡ is_initialized d
same_initialized w (tree.bare d) = refl
same_initialized w (tree.initialized d value) = refl

same_initializes : (w : Brackets) (ds : List InitDeclarator) → initializes (bracketed_init_declarators w ds) ≡ initializes ds
same_initializes w [] = refl
same_initializes w (d ∷ ds) =
    ap (λ x. x || initializes (bracketed_init_declarators w ds)) (same_initialized w d)
    ∙ ap (λ x. is_initialized d || x) (same_initializes w ds)

same_counted : (w : Brackets) (d : Declaration) → is_counted_local (bracketed_declaration w d) ≡ is_counted_local d
same_counted w (tree.declaration s ds span) =
    ap (λ x. not x && initializes (bracketed_init_declarators w ds)) (same_statics w s)
    ∙ ap (λ x. not (has_static s) && x) (same_initializes w ds)

same_place : (w : Brackets) (d : Declaration) → span_of_declaration (bracketed_declaration w d) ≡ span_of_declaration d
same_place w (tree.declaration s ds span) = refl

pub local_walk : (w : Brackets) (d : Declaration) (walk : Walk)
    → enter_local (bracketed_declaration w d) walk
    ≡ (if is_counted_local d then take_local (span_of_declaration d) walk else walk)
local_walk w d walk =
    ap (λ (x : Bool). if x then take_local (span_of_declaration (bracketed_declaration w d)) walk else walk) (same_counted w d)
    ∙ ap (λ s. if is_counted_local d then take_local s walk else walk) (same_place w d)

pub same_name : (w : Brackets) (d : Declarator) → (name_of (bracketed_declarator w d)).span ≡ (name_of d).span
same_name w (tree.object stars name all span) = refl
same_name w (tree.function stars name all span) = refl
