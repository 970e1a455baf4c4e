-- What is read of an initializer, a declaration, a statement and an item is read of the tokens with
-- brackets: one case for each alternative of a production.
use Rattle.std.proofs.Common.{◌≡◌, ℕ, ◌<◌, ◌-◌, Bool, true, false, List, [], ◌∷◌, Option, Some, refl, sym, ap, subst, ◌∙◌, codes}
use Rattle.mc_lex.specs.declared.token.Dialect.{Dialect}
use Rattle.mc_lex.specs.Tokens.{Tok}
use Rattle.mc_span.specs.declared.span.Span.{Span}
use Rattle.mc_tree.specs.Tree.{Expression, Specifiers, Declarator, Initializer, Initializers, InitDeclarator, Declaration, ForStart, Statement, BlockItems, Item, span_of, span_of_statement, span_of_parameters}
use Rattle.mc_tree.specs.Tree as t
use Rattle.mc_grammar.specs.Words.{Lexeme, is_punctuator, is_name, begins_specifiers, sees, sees_keyword, retag, retagged, lexeme_of}
use Rattle.mc_grammar.specs.Places.{at, name_at, to}
use Rattle.mc_grammar.specs.Expressions.{ReadsSpecifiers, ReadsStars, ReadsParameters}
use Rattle.mc_grammar.specs.Counts.{for_function}
use Rattle.mc_grammar.specs.Statements.{ReadsOptional, ReadsTest, ReadsInitializer, ReadsInitializers, ReadsInitDeclarator, ReadsInitDeclarators, ReadsDeclaration, ReadsForStart, ReadsStatement, ReadsCompound, ReadsBlockItems, after}
use Rattle.mc_grammar.specs.Statements as g
use Rattle.mc_grammar.specs.Items.{ReadsItem, ReadsUnit, IsTree}
use Rattle.mc_grammar.specs.Items as i
use Rattle.reread_law_texts.specs.weave.Brackets.{Brackets, AreAfterTokens, Step, copy, put, sign, run, in_braces_by, in_braces}
use Rattle.reread_law_texts.specs.weave.Trees.{braced_by, braced, bracketed, bracketed_specifiers, bracketed_declarator, bracketed_initializer, bracketed_initializers, bracketed_init_declarator, bracketed_init_declarators, bracketed_declaration, bracketed_optional, bracketed_start, bracketed_statement, bracketed_block, bracketed_item, bracketed_unit}
use Rattle.reread_law_texts.specs.weave.Weaving.{Steps, none, in_expression, in_stars, in_specifiers, in_declarator, in_parameters, in_initializer, in_initializers, in_init_declarator, in_init_declarators, in_declaration, in_optional, in_test, in_for_start, in_statement, in_compound, in_block_items, in_item, in_unit, woven}
use Rattle.reread_law_texts.proofs.Weave.Next.{AfterComma, AfterAssign, at_closing, at_brace, at_semicolon, at_colon, at_comma}
use Rattle.reread_law_texts.proofs.Weave.First.{NoStart, no_start, no_specifiers, closing_no_start, semicolon_no_start, open_brace_no_start}
use Rattle.reread_law_texts.proofs.Weave.Labels.{no_label}
use Rattle.reread_law_texts.proofs.Weave.Starts.{statement_no_brace, statement_no_specifiers, block_no_else, initializers_no_brace, optional_no_specifiers}
use Rattle.reread_law_texts.proofs.Weave.Enclosed.{same_place}
use Rattle.reread_law_texts.proofs.Weave.Stand.{from_start, to_statement, to_parameters, for_type_kept, for_local_kept, for_function_kept, item_of_kept}
use Rattle.reread_law_texts.proofs.Weave.Steady.{Steady, first, front, tail, copies, kept, stars_steady, specifiers_steady, declarator_steady}
use Rattle.reread_law_texts.proofs.Weave.WovenExpressions.{weave, weave_stars, weave_specifiers, weave_declarator, weave_parameters}

-- ---- typedef names

retag_run : (name : List ℕ) (s : List Step) (ts : List Lexeme) → retag name (run s ts) ≡ run s (retag name ts)
unfolding retag
retag_run name [] ts = refl
retag_run name (copy ∷ s) [] = refl
retag_run name (copy ∷ s) (x ∷ ts) = ap (λ us. retagged name x ∷ us) (retag_run name s ts)
retag_run name (put text start ∷ s) ts = ap (λ us. lexeme_of (sign text start) ∷ us) (retag_run name s ts)

after_run : (w : Brackets) (typedef : Bool) (d : Declarator) (s : List Step) (ts : List Lexeme) → after typedef (bracketed_declarator w d) (run s ts) ≡ run s (after typedef d ts)
after_run w true (t.object stars name all span) s ts = retag_run name.text s ts
after_run w true (t.function stars name all span) s ts = retag_run name.text s ts
after_run w false d s ts = refl

-- ---- declarations

mutual
  pub weave_initializer : {d : Dialect} (u : Dialect) (w : Brackets) → AreAfterTokens w → {ts rest : List Lexeme} {one : Initializer} (p : ReadsInitializer d ts one rest) (s : List Step) → AfterAssign (run s rest)
      → ReadsInitializer u (run (in_initializer w p s) ts) (bracketed_initializer w one) (run s rest)
  weave_initializer u w l (g.single e p) s h =
      let inner = weave u w l p s h in
      g.single (no_start (is_punctuator (codes "{")) open_brace_no_start refl inner) inner
  weave_initializer u w l (g.braced {y = y} {rest = rest} e p f) s h = g.braced e (weave_initializers u w l p (copy ∷ s) (copies s) (at_brace y (run s rest) f)) f

  pub weave_initializers : {d : Dialect} (u : Dialect) (w : Brackets) → AreAfterTokens w → {ts rest : List Lexeme} {all : Initializers} (p : ReadsInitializers d ts all rest) (s : List Step) → Steady s → AfterComma (run s rest)
      → ReadsInitializers u (run (in_initializers w p s) ts) (bracketed_initializers w all) (run s rest)
  weave_initializers u w l (g.last_initializer p e) s h q = g.last_initializer (weave_initializer u w l p s q.0) q.1
  weave_initializers u w l (g.last_initializer_comma {x = x} {rest = rest} p e f) s h q =
      g.last_initializer_comma (weave_initializer u w l p (copy ∷ s) (at_comma x (run s rest) e)) e (kept (is_punctuator (codes "}")) s h rest f)
  weave_initializers u w l (g.more_initializers {x = x} {mid = mid} p e f v) s h q =
      let others = weave_initializers u w l v s h q in
      g.more_initializers (weave_initializer u w l p (copy ∷ in_initializers w v s) (at_comma x (run (in_initializers w v s) mid) e)) e (initializers_no_brace others) others

pub weave_init_declarator : {d : Dialect} (u : Dialect) (w : Brackets) → AreAfterTokens w → {typedef : Bool} {ts rest : List Lexeme} {one : InitDeclarator} (p : ReadsInitDeclarator d typedef ts one rest) (s : List Step) → Steady s → AfterAssign (run s rest)
    → ReadsInitDeclarator u typedef (run (in_init_declarator w p s) ts) (bracketed_init_declarator w one) (run s rest)
weave_init_declarator u w l {typedef = typedef} {ts = ts} (g.bare {mid = mid} {d = one} p e) s h q =
    subst (λ us. ReadsInitDeclarator u typedef (run (in_declarator w p s) ts) (t.bare (bracketed_declarator w one)) us) (after_run w typedef one s mid)
    (g.bare (weave_declarator u w l p s h) (ap (sees (codes "=")) (after_run w typedef one s mid) ∙ kept (is_punctuator (codes "=")) s h (after typedef one mid) e))
weave_init_declarator u w l {typedef = typedef} (g.initialized {mid = mid} {d = one} p k e v) s h q =
    g.initialized (weave_declarator u w l p (copy ∷ in_initializer w v s) (copies (in_initializer w v s))) (after_run w typedef one (copy ∷ in_initializer w v s) mid ∙ ap (run (copy ∷ in_initializer w v s)) k) e
    (weave_initializer u w l v s q)

init_declarator_steady : (w : Brackets) {d : Dialect} {typedef : Bool} {ts rest : List Lexeme} {one : InitDeclarator} (p : ReadsInitDeclarator d typedef ts one rest) (s : List Step) → Steady (in_init_declarator w p s)
init_declarator_steady w (g.bare p e) s = declarator_steady w p s
init_declarator_steady w (g.initialized p k e v) s = declarator_steady w p (copy ∷ in_initializer w v s)

init_declarators_steady : (w : Brackets) {d : Dialect} {typedef : Bool} {ts rest : List Lexeme} {all : List InitDeclarator} (p : ReadsInitDeclarators d typedef ts all rest) (s : List Step) → Steady s → Steady (in_init_declarators w p s)
init_declarators_steady w (g.no_init_declarator e) s h = h
init_declarators_steady w (g.last_init_declarator p e) s h = init_declarator_steady w p s
init_declarators_steady w (g.more_init_declarators p e f q) s h = init_declarator_steady w p (copy ∷ in_init_declarators w q s)

pub weave_init_declarators : {d : Dialect} (u : Dialect) (w : Brackets) → AreAfterTokens w → {typedef : Bool} {ts rest : List Lexeme} {all : List InitDeclarator} (p : ReadsInitDeclarators d typedef ts all rest) (s : List Step) → Steady s → AfterComma (run s rest)
    → ReadsInitDeclarators u typedef (run (in_init_declarators w p s) ts) (bracketed_init_declarators w all) (run s rest)
weave_init_declarators u w l (g.no_init_declarator {ts = ts} e) s h q = g.no_init_declarator (kept (is_punctuator (codes ";")) s h ts e)
weave_init_declarators u w l (g.last_init_declarator p e) s h q = g.last_init_declarator (weave_init_declarator u w l p s h q.0) q.1
weave_init_declarators u w l (g.more_init_declarators {x = x} {mid = mid} p e f v) s h q =
    g.more_init_declarators (weave_init_declarator u w l p (copy ∷ in_init_declarators w v s) (copies (in_init_declarators w v s)) (at_comma x (run (in_init_declarators w v s) mid) e)) e
    (kept (is_punctuator (codes ";")) (in_init_declarators w v s) (init_declarators_steady w v s h) mid f) (weave_init_declarators u w l v s h q)

declaration_at : {d : Dialect} {typedef : Bool} {allowed : Specifiers → Bool} {x y : Lexeme} {mid rest : List Lexeme} {words : Specifiers} {all : List InitDeclarator} (us : List Lexeme) → first us ≡ Some x
    → begins_specifiers x ≡ true → ReadsSpecifiers d false us words mid → allowed words ≡ true → ReadsInitDeclarators d typedef mid all (y ∷ rest) → is_punctuator (codes ";") y ≡ true
    → ReadsDeclaration d typedef allowed us (t.declaration words all (to (at x) (at y))) rest
declaration_at {d = d} {typedef = typedef} {allowed = allowed} {x = x} {y = y} {mid = mid} {rest = rest} {words = words} {all = all} us k e p f q v =
    subst (λ us. ReadsDeclaration d typedef allowed us (t.declaration words all (to (at x) (at y))) rest) (sym (front us k)) (g.declaration e (subst (λ us. ReadsSpecifiers d false us words mid) (front us k) p) f q v)

pub declaration_steady : (w : Brackets) {d : Dialect} {typedef : Bool} {allowed : Specifiers → Bool} {ts rest : List Lexeme} {one : Declaration} (p : ReadsDeclaration d typedef allowed ts one rest) (s : List Step) → Steady (in_declaration w p s)
declaration_steady w (g.declaration e p f q v) s = specifiers_steady w p (in_init_declarators w q (copy ∷ s)) (init_declarators_steady w q (copy ∷ s) (copies s))

pub weave_declaration : {d : Dialect} (u : Dialect) (w : Brackets) → AreAfterTokens w → {typedef : Bool} {allowed : Specifiers → Bool} {ts rest : List Lexeme} {one : Declaration}
    → ((words : Specifiers) → allowed (bracketed_specifiers w words) ≡ allowed words) → (p : ReadsDeclaration d typedef allowed ts one rest) (s : List Step)
    → ReadsDeclaration u typedef allowed (run (in_declaration w p s) ts) (bracketed_declaration w one) (run s rest)
weave_declaration u w l same (g.declaration {x = x} {y = y} {ts = ts} {rest = rest} {s = words} e p f q v) s =
    let after_words = in_init_declarators w q (copy ∷ s) in
    let steady = init_declarators_steady w q (copy ∷ s) (copies s) in
    declaration_at (run (in_specifiers w p after_words) (x ∷ ts)) (specifiers_steady w p after_words steady (x ∷ ts)) e
    (weave_specifiers u w l p after_words steady) (same words ∙ f) (weave_init_declarators u w l q (copy ∷ s) (copies s) (at_semicolon y (run s rest) v)) v

-- ---- parts of statements

pub weave_optional : {d : Dialect} (u : Dialect) (w : Brackets) → AreAfterTokens w → {stop : List ℕ} {ts rest : List Lexeme} {a : Option Expression} (p : ReadsOptional d stop ts a rest) → NoStart (is_punctuator stop) → (s : List Step) → sees stop (run s rest) ≡ true → AfterComma (run s rest)
    → ReadsOptional u stop (run (in_optional w p s) ts) (bracketed_optional w a) (run s rest)
weave_optional u w l (g.no_expression e) k s f h = g.no_expression f
weave_optional u w l {stop = stop} (g.an_expression e p) k s f h =
    let inner = weave u w l p s h in
    g.an_expression (no_start (is_punctuator stop) k refl inner) inner

pub weave_test : {d : Dialect} (u : Dialect) (w : Brackets) → AreAfterTokens w → {ts rest : List Lexeme} {a : Expression} (p : ReadsTest d ts a rest) (s : List Step) → ReadsTest u (run (in_test w p s) ts) (bracketed w a) (run s rest)
weave_test u w l (g.test {y = y} {rest = rest} e p f) s = g.test e (weave u w l p (copy ∷ s) (at_closing y (run s rest) f)) f

pub weave_for_start : {d : Dialect} (u : Dialect) (w : Brackets) → AreAfterTokens w → {ts rest : List Lexeme} {start : ForStart} (p : ReadsForStart d ts start rest) (s : List Step)
    → ReadsForStart u (run (in_for_start w p s) ts) (bracketed_start w start) (run s rest)
weave_for_start u w l (g.starts_local p) s = g.starts_local (weave_declaration u w l (for_type_kept w) p s)
weave_for_start u w l (g.starts_expression {y = y} {rest = rest} e p f) s =
    let inner = weave_optional u w l p semicolon_no_start (copy ∷ s) f (at_semicolon y (run s rest) f) in
    g.starts_expression (optional_no_specifiers inner) inner f

-- ---- statements in braces

-- an `else` that is not next stays so
abbrev ElseKept : List Lexeme → List Step → Type 0
ElseKept rest s = sees_keyword (codes "else") rest ≡ false → sees_keyword (codes "else") (run s rest) ≡ false

abbrev MakesStatement : Dialect → List Lexeme → Steps → Statement → List Lexeme → Type 0
MakesStatement u ts f one rest = (s : List Step) → ElseKept rest s → ReadsStatement u (run (f s) ts) one (run s rest)

in_block : {u : Dialect} (span : Span) → 0 < span.end → {ts rest : List Lexeme} {one : Statement} → ReadsStatement u ts one (lexeme_of (sign (codes "}") (span.end - 1)) ∷ rest)
    → ReadsStatement u (lexeme_of (sign (codes "{") span.start) ∷ ts) (t.Compound (t.statement one t.no_block_items) span) rest
in_block {u = u} span h {ts = ts} {rest = rest} {one = one} p =
    subst (λ place. ReadsStatement u (lexeme_of (sign (codes "{") span.start) ∷ ts) (t.Compound (t.statement one t.no_block_items) place) rest) (same_place span h)
    (g.compound (g.block refl (g.statement (statement_no_brace p) (statement_no_specifiers p) p (g.block_end refl)) refl))

brace_by : {u : Dialect} (b : Bool) (span : Span) → (b ≡ true → 0 < span.end) → (ts rest : List Lexeme) (one : Statement) (f : Steps) → MakesStatement u ts f one rest
    → MakesStatement u ts (in_braces_by b span f) (braced_by b span one) rest
brace_by false span h ts rest one f make s k = make s k
brace_by true span h ts rest one f make s k = in_block span (h refl) (make (put (codes "}") (span.end - 1) ∷ s) (λ e. refl))

brace_node : {u : Dialect} (w : Brackets) → AreAfterTokens w → (span : Span) (ts rest : List Lexeme) (one : Statement) (f : Steps) → MakesStatement u ts f one rest
    → MakesStatement u ts (in_braces w span f) (braced w span one) rest
brace_node w l span ts rest one f make s k = brace_by (w.braces span) span (l.1 span) ts rest one f make s k

-- a statement that stands where its parts end
ended : {u : Dialect} {ts rest : List Lexeme} (one : Span → Statement) {place other : Span} → place ≡ other → ReadsStatement u ts (one place) rest → ReadsStatement u ts (one other) rest
ended {u = u} {ts = ts} {rest = rest} one e p = subst (λ place. ReadsStatement u ts (one place) rest) e p

mutual
  pub weave_statement : {d : Dialect} (u : Dialect) (w : Brackets) → AreAfterTokens w → {ts rest : List Lexeme} {one : Statement} (p : ReadsStatement d ts one rest) → MakesStatement u ts (in_statement w p) (bracketed_statement w one) rest
  weave_statement u w l (g.compound p) = λ s h. g.compound (weave_compound u w l p s)
  weave_statement u w l (g.null {y = y} {rest = rest} e) = brace_node w l (at y) (y ∷ rest) rest (t.Null (at y)) (λ z. copy ∷ z) (λ s h. g.null e)
  weave_statement u w l (g.expression_statement {y = y} {ts = ts} {rest = rest} {a = a} e f p v) =
      let span = to (span_of a) (at y) in
      brace_node w l span ts rest (t.ExpressionStatement (bracketed w a) span) (λ z. in_expression w p none (copy ∷ z))
      (λ s h. let inner = weave u w l p (copy ∷ s) (at_semicolon y (run s rest) v) in
      ended (t.ExpressionStatement (bracketed w a)) (from_start w a (at y)) (g.expression_statement (no_specifiers refl inner) (no_label inner v) inner v))
  weave_statement u w l (g.if_only {x = x} {ts = ts} {rest = rest} {a = a} {s = one} e p q f) =
      let span = to (at x) (span_of_statement one) in
      brace_node w l span (x ∷ ts) rest (t.If (bracketed w a) (bracketed_statement w one) span) (λ z. copy ∷ in_test w p (in_statement w q z))
      (λ s h. ended (t.If (bracketed w a) (bracketed_statement w one)) (to_statement w (at x) one) (g.if_only e (weave_test u w l p (in_statement w q s)) (weave_statement u w l q s h) (h f)))
  weave_statement u w l (g.if_else {x = x} {ts = ts} {rest = rest} {a = a} {s = one} {u = other} e p q f v) =
      let span = to (at x) (span_of_statement other) in
      brace_node w l span (x ∷ ts) rest (t.IfElse (bracketed w a) (bracketed_statement w one) (bracketed_statement w other) span)
      (λ z. copy ∷ in_test w p (in_statement w q (copy ∷ in_statement w v z)))
      (λ s h. ended (t.IfElse (bracketed w a) (bracketed_statement w one) (bracketed_statement w other)) (to_statement w (at x) other)
      (g.if_else e (weave_test u w l p (in_statement w q (copy ∷ in_statement w v s))) (weave_statement u w l q (copy ∷ in_statement w v s) (λ e. e)) f (weave_statement u w l v s h)))
  weave_statement u w l (g.switch {x = x} {ts = ts} {rest = rest} {a = a} {s = one} e p q) =
      let span = to (at x) (span_of_statement one) in
      brace_node w l span (x ∷ ts) rest (t.Switch (bracketed w a) (bracketed_statement w one) span) (λ z. copy ∷ in_test w p (in_statement w q z))
      (λ s h. ended (t.Switch (bracketed w a) (bracketed_statement w one)) (to_statement w (at x) one) (g.switch e (weave_test u w l p (in_statement w q s)) (weave_statement u w l q s h)))
  weave_statement u w l (g.while {x = x} {ts = ts} {rest = rest} {a = a} {s = one} e p q) =
      let span = to (at x) (span_of_statement one) in
      brace_node w l span (x ∷ ts) rest (t.While (bracketed w a) (bracketed_statement w one) span) (λ z. copy ∷ in_test w p (in_statement w q z))
      (λ s h. ended (t.While (bracketed w a) (bracketed_statement w one)) (to_statement w (at x) one) (g.while e (weave_test u w l p (in_statement w q s)) (weave_statement u w l q s h)))
  weave_statement u w l (g.do_while {x = x} {z = end} {ts = ts} {rest = rest} {a = a} {s = one} e p f q v) =
      let span = to (at x) (at end) in
      brace_node w l span (x ∷ ts) rest (t.DoWhile (bracketed_statement w one) (bracketed w a) span) (λ z. copy ∷ in_statement w p (copy ∷ in_test w q (copy ∷ z)))
      (λ s h. g.do_while e (weave_statement u w l p (copy ∷ in_test w q (copy ∷ s)) (λ e. e)) f (weave_test u w l q (copy ∷ s)) v)
  weave_statement u w l (g.for {x = x} {y = y} {z = z} {v = close} {ts = ts} {after_test = after_test} {body = body} {rest = rest} {start = start} {a = a} {b = b} {s = one} e f p q v m k c) =
      let span = to (at x) (span_of_statement one) in
      brace_node w l span (x ∷ y ∷ ts) rest (t.For (bracketed_start w start) (bracketed_optional w a) (bracketed_optional w b) (bracketed_statement w one) span)
      (λ s. copy ∷ copy ∷ in_for_start w p (in_optional w q (copy ∷ in_optional w m (copy ∷ in_statement w c s))))
      (λ s h. ended (t.For (bracketed_start w start) (bracketed_optional w a) (bracketed_optional w b) (bracketed_statement w one)) (to_statement w (at x) one)
      (g.for e f (weave_for_start u w l p (in_optional w q (copy ∷ in_optional w m (copy ∷ in_statement w c s))))
      (weave_optional u w l q semicolon_no_start (copy ∷ in_optional w m (copy ∷ in_statement w c s)) v (at_semicolon z (run (in_optional w m (copy ∷ in_statement w c s)) after_test) v)) v
      (weave_optional u w l m closing_no_start (copy ∷ in_statement w c s) k (at_closing close (run (in_statement w c s) body) k)) k (weave_statement u w l c s h)))
  weave_statement u w l (g.case_label {x = x} {y = y} {mid = mid} {a = a} {s = one} e p f q) =
      λ s h. ended (t.Case (bracketed w a) (to (at x) (at y)) (bracketed_statement w one)) (to_statement w (at x) one)
      (g.case_label e (weave u w l p (copy ∷ in_statement w q s) (at_colon y (run (in_statement w q s) mid) f).0.0) f (weave_statement u w l q s h))
  weave_statement u w l (g.default {x = x} {y = y} {s = one} e f p) =
      λ s h. ended (t.Default (to (at x) (at y)) (bracketed_statement w one)) (to_statement w (at x) one) (g.default e f (weave_statement u w l p s h))
  weave_statement u w l (g.label {x = x} {s = one} e f p) =
      λ s h. ended (t.Label (name_at x) (bracketed_statement w one)) (to_statement w (at x) one) (g.label e f (weave_statement u w l p s h))
  weave_statement u w l (g.goto {x = x} {y = y} {z = z} {rest = rest} e f v) =
      brace_node w l (to (at x) (at z)) (x ∷ y ∷ z ∷ rest) rest (t.Goto (name_at y) (to (at x) (at z))) (λ s. copy ∷ copy ∷ copy ∷ s) (λ s h. g.goto e f v)
  weave_statement u w l (g.continue {x = x} {y = y} {rest = rest} e f) =
      brace_node w l (to (at x) (at y)) (x ∷ y ∷ rest) rest (t.Continue (to (at x) (at y))) (λ s. copy ∷ copy ∷ s) (λ s h. g.continue e f)
  weave_statement u w l (g.break {x = x} {y = y} {rest = rest} e f) =
      brace_node w l (to (at x) (at y)) (x ∷ y ∷ rest) rest (t.Break (to (at x) (at y))) (λ s. copy ∷ copy ∷ s) (λ s h. g.break e f)
  weave_statement u w l (g.return {x = x} {y = y} {ts = ts} {rest = rest} {a = a} e p f) =
      brace_node w l (to (at x) (at y)) (x ∷ ts) rest (t.Return (bracketed_optional w a) (to (at x) (at y))) (λ s. copy ∷ in_optional w p (copy ∷ s))
      (λ s h. g.return e (weave_optional u w l p semicolon_no_start (copy ∷ s) f (at_semicolon y (run s rest) f)) f)

  pub weave_compound : {d : Dialect} (u : Dialect) (w : Brackets) → AreAfterTokens w → {span : Span} {ts rest : List Lexeme} {all : BlockItems} (p : ReadsCompound d ts all span rest) (s : List Step)
      → ReadsCompound u (run (in_compound w p s) ts) (bracketed_block w all) span (run s rest)
  weave_compound u w l (g.block e p f) s = g.block e (weave_block_items u w l p (copy ∷ s) f) f

  pub weave_block_items : {d : Dialect} (u : Dialect) (w : Brackets) → AreAfterTokens w → {ts rest : List Lexeme} {all : BlockItems} (p : ReadsBlockItems d ts all rest) (s : List Step) → sees (codes "}") (run s rest) ≡ true
      → ReadsBlockItems u (run (in_block_items w p s) ts) (bracketed_block w all) (run s rest)
  weave_block_items u w l (g.block_end e) s h = g.block_end h
  weave_block_items u w l (g.local {ts = ts} e p q) s h =
      g.local (kept begins_specifiers (in_declaration w p (in_block_items w q s)) (declaration_steady w p (in_block_items w q s)) ts e) (weave_declaration u w l (for_local_kept w) p (in_block_items w q s)) (weave_block_items u w l q s h)
  weave_block_items u w l (g.statement e f p q) s h =
      let others = weave_block_items u w l q s h in
      let one = weave_statement u w l p (in_block_items w q s) (λ e. block_no_else others) in
      g.statement (statement_no_brace one) (statement_no_specifiers one) one others

-- ---- items

defined_at : {d : Dialect} {x y z : Lexeme} {before span place : Span} {words mid body rest : List Lexeme} {all : Specifiers} {stars : ℕ} {ps : t.Parameters} {b : BlockItems} (us : List Lexeme) → first us ≡ Some x
    → ReadsSpecifiers d false us all words → for_function all ≡ true → first words ≡ Some y → ReadsStars (at y) words stars before (z ∷ mid) → is_name z ≡ true
    → ReadsParameters d mid ps body → ReadsCompound d body b span rest → to (at y) (span_of_parameters ps) ≡ place
    → ReadsItem d us (t.Defined all (t.function stars (name_at z) ps place) b (to (at x) span)) rest
defined_at {d = d} {x = x} {y = y} {z = z} {before = before} {span = span} {words = words} {mid = mid} {rest = rest} {all = all} {stars = stars} {ps = ps} {b = b} us k p e m q f v c j =
    subst (λ place. ReadsItem d us (t.Defined all (t.function stars (name_at z) ps place) b (to (at x) span)) rest) j
    (subst (λ us. ReadsItem d us (t.Defined all (t.function stars (name_at z) ps (to (at y) (span_of_parameters ps))) b (to (at x) span)) rest) (sym (front us k))
    (i.defined (subst (λ words. ReadsSpecifiers d false (x ∷ tail us) all words) (front words m) (subst (λ us. ReadsSpecifiers d false us all words) (front us k) p)) e
    (subst (λ words. ReadsStars (at y) words stars before (z ∷ mid)) (front words m) q) f v c))

pub weave_item : {d : Dialect} (u : Dialect) (w : Brackets) → AreAfterTokens w → {ts rest : List Lexeme} {one : Item} (p : ReadsItem d ts one rest) (s : List Step) → ReadsItem u (run (in_item w p s) ts) (bracketed_item w one) (run s rest)
weave_item u w l (i.declared {typedef = typedef} p) s = i.declared (weave_declaration u w l (item_of_kept w typedef) p s)
weave_item u w l (i.defined {x = x} {y = y} {ts = ts} {words = words} {s = all} {ps = ps} p e q f v c) s =
    let parts = copy ∷ in_parameters w v (in_compound w c s) in
    let steady = stars_steady q parts (copies (in_parameters w v (in_compound w c s))) in
    defined_at (run (in_specifiers w p (in_stars q parts)) (x ∷ ts)) (specifiers_steady w p (in_stars q parts) steady (x ∷ ts))
    (weave_specifiers u w l p (in_stars q parts) steady) (for_function_kept w all ∙ e) (steady (y ∷ words)) (weave_stars q parts (copies (in_parameters w v (in_compound w c s)))) f
    (weave_parameters u w l v (in_compound w c s)) (weave_compound u w l c s) (to_parameters w (at y) ps)

pub weave_unit : {d : Dialect} (u : Dialect) (w : Brackets) → AreAfterTokens w → {ts : List Lexeme} {unit : List Item} (p : ReadsUnit d ts unit) → ReadsUnit u (run (in_unit w p) ts) (bracketed_unit w unit)
weave_unit u w l i.no_items = i.no_items
weave_unit u w l (i.item p q) = i.item (weave_item u w l p (in_unit w q)) (weave_unit u w l q)

-- ---- whole texts

pub tree_woven : (d u : Dialect) (w : Brackets) (tokens : List Tok) (unit : List Item) (p : IsTree d tokens unit) → AreAfterTokens w → ReadsUnit u (woven w tokens p) (bracketed_unit w unit)
tree_woven d u w tokens unit p l = weave_unit u w l p
