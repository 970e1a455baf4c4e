-- In a text the parts of a tree stand inside it and one after the other: one case for each
-- alternative of a production.
use Rattle.std.proofs.Common.{◌≡◌, ◌≤◌, ◌+◌, ◌-◌, ℕ, Bool, true, ◌&&◌, List, [], ◌∷◌, length, Option, Some, None, codes, sym, ap, subst, ◌∙◌, arith}
use Rattle.std.proofs.lemmas.Bool.{and_parts}
use Rattle.std.proofs.lemmas.Slice.Eq.{bytes_eq-Decides}
use Rattle.std.specs.Str.{bytes_eq}
use Rattle.mc_span.specs.declared.span.Span.{Span}
use Rattle.mc_lex.specs.declared.token.Dialect.{Dialect}
use Rattle.mc_tree.specs.Tree.{Expression, Expressions, Initializer, Initializers, InitDeclarator, Declaration, ForStart, Statement, BlockItems, span_of, span_of_statement}
use Rattle.mc_tree.specs.Tree as t
use Rattle.mc_grammar.specs.Words.{Lexeme, is_punctuator, is_punctuator_kind, is_keyword, is_keyword_kind}
use Rattle.mc_grammar.specs.Places.{at, to, end_of_expressions}
use Rattle.mc_grammar.specs.Nonterminal.{Nonterminal, Level, operand}
use Rattle.mc_grammar.specs.Nonterminal as n
use Rattle.mc_grammar.specs.Expressions.{Reads, ReadsExpressions}
use Rattle.mc_grammar.specs.Expressions as r
use Rattle.mc_grammar.specs.Statements.{ReadsOptional, ReadsTest, ReadsInitializer, ReadsInitializers, ReadsInitDeclarator, ReadsInitDeclarators, ReadsDeclaration, ReadsForStart, ReadsStatement, ReadsCompound, ReadsBlockItems}
use Rattle.mc_grammar.specs.Statements as g
use Rattle.reread_law_texts.specs.alike.Moves.{FollowFrom, end_of}
use Rattle.reread_law_texts.proofs.Apart.ApartExpressions.{apart_type_name, apart_specifiers, apart_declarator}
use Rattle.reread_law_printed.specs.ordered.Laws.{BlocksAreNested}
use Rattle.reread_law_printed.specs.ordered.Nested.{Nested, HoldsAll, InOptional, InInitializer, InInitializers, InObjects, InDeclaration, InStart, NestedStatement, InStatement, InBlock}
use Rattle.reread_law_printed.proofs.Ordered.Going.{le, same, forward}
use Rattle.reread_law_texts.proofs.Tokens.{tk, after_tokens}

-- ---- bytes

grows : {c : ℕ} (x : Lexeme) → c ≤ x.token.start → c ≤ end_of x.token
grows {c = c} x h = later c x.token.start (length x.token.text) h
  where
    later : (c s k : ℕ) → c ≤ s → c ≤ s + k
    later c s k h = omega (arith, h)

own : (x : Lexeme) → x.token.start ≤ end_of x.token
own x = grows x (same x.token.start)

-- ---- wider bounds

all_lower : {low from : ℕ} (all : Expressions) (to : ℕ) → low ≤ from → HoldsAll from all to → HoldsAll low all to
all_lower t.no_expressions _ l h = le l h
all_lower (t.expressions a rest) _ l h = (le l h.0, h.1, h.2)

all_higher : {to high : ℕ} (all : Expressions) (from : ℕ) → to ≤ high → HoldsAll from all to → HoldsAll from all high
all_higher t.no_expressions _ l h = le h l
all_higher (t.expressions a rest) _ l h = (h.0, h.1, all_higher rest _ l h.2)

optional_lower : {low from : ℕ} (a : Option Expression) (to : ℕ) → low ≤ from → InOptional from a to → InOptional low a to
optional_lower None _ l h = le l h
optional_lower (Some a) _ l h = (le l h.0, h.1, h.2)

optional_higher : {to high : ℕ} (a : Option Expression) (from : ℕ) → to ≤ high → InOptional from a to → InOptional from a high
optional_higher None _ l h = le h l
optional_higher (Some a) _ l h = (h.0, le h.1 l, h.2)

mutual
  initializer_lower : {low from : ℕ} (i : Initializer) (to : ℕ) → low ≤ from → InInitializer from i to → InInitializer low i to
  initializer_lower (t.Single a) _ l h = optional_lower (Some a) _ l h
  initializer_lower (t.Braced all span) _ l h = initializers_lower all _ l h

  initializers_lower : {low from : ℕ} (all : Initializers) (to : ℕ) → low ≤ from → InInitializers from all to → InInitializers low all to
  initializers_lower t.no_initializers _ l h = le l h
  initializers_lower (t.initializers i rest) _ l h = (h.0, initializer_lower i _ l h.1, h.2)

initializers_higher : {to high : ℕ} (all : Initializers) (from : ℕ) → to ≤ high → InInitializers from all to → InInitializers from all high
initializers_higher t.no_initializers _ l h = le h l
initializers_higher (t.initializers i rest) _ l h = (h.0, h.1, initializers_higher rest _ l h.2)

objects_lower : {low from : ℕ} (ds : List InitDeclarator) (to : ℕ) → low ≤ from → InObjects from ds to → InObjects low ds to
objects_lower [] _ l h = le l h
objects_lower (t.bare d ∷ rest) _ l h = objects_lower rest _ l h
objects_lower (t.initialized d i ∷ rest) _ l h = (h.0, initializer_lower i _ l h.1, h.2)

objects_higher : {to high : ℕ} (ds : List InitDeclarator) (from : ℕ) → to ≤ high → InObjects from ds to → InObjects from ds high
objects_higher [] _ l h = le h l
objects_higher (t.bare d ∷ rest) _ l h = objects_higher rest _ l h
objects_higher (t.initialized d i ∷ rest) _ l h = (h.0, h.1, objects_higher rest _ l h.2)

declaration_lower : {low from : ℕ} (d : Declaration) (to : ℕ) → low ≤ from → InDeclaration from d to → InDeclaration low d to
declaration_lower (t.declaration words ds span) _ l h = (le l h.0, h.1, h.2)

start_lower : {low from : ℕ} (s : ForStart) (to : ℕ) → low ≤ from → InStart from s to → InStart low s to
start_lower (t.StartsLocal d) _ l h = declaration_lower d _ l h
start_lower (t.StartsExpression a) _ l h = optional_lower a _ l h

start_higher : {to high : ℕ} (s : ForStart) (from : ℕ) → to ≤ high → InStart from s to → InStart from s high
start_higher (t.StartsLocal (t.declaration words ds span)) _ l h = (h.0, h.1, le h.2 l)
start_higher (t.StartsExpression a) _ l h = optional_higher a _ l h

block_lower : {low from : ℕ} (b : BlockItems) (to : ℕ) → low ≤ from → InBlock from b to → InBlock low b to
block_lower t.no_block_items _ l h = le l h
block_lower (t.local d rest) _ l h = (h.0, declaration_lower d _ l h.1, h.2)
block_lower (t.statement s rest) _ l h = (le l h.0, h.1, h.2)

block_higher : {to high : ℕ} (b : BlockItems) (from : ℕ) → to ≤ high → InBlock from b to → InBlock from b high
block_higher t.no_block_items _ l h = le h l
block_higher (t.local d rest) _ l h = (h.0, h.1, block_higher rest _ l h.2)
block_higher (t.statement s rest) _ l h = (h.0, h.1, block_higher rest _ l h.2)

-- ---- expressions

-- An expression from this byte on, before these tokens.
record Set (c : ℕ) (rest : List Lexeme) (a : Expression) : Type 0 where
  lower : c ≤ (span_of a).start
  nested : Nested a
  follow : FollowFrom (span_of a).end (tk rest)

-- some expressions
record Listed (c : ℕ) (place : Span) (rest : List Lexeme) (all : Expressions) : Type 0 where
  holds : HoldsAll c all (end_of_expressions place all).end
  follow : FollowFrom (end_of_expressions place all).end (tk rest)

-- The rest of a repetition goes on from an expression that stands there.
abbrev Stands : Nonterminal → List Lexeme → Expression → List Lexeme → Type 0
Stands (n.operations k a) ts b rest = (c : ℕ) → Set c ts a → Set c rest b
Stands (n.suffixes a) ts b rest = (c : ℕ) → Set c ts a → Set c rest b
Stands k ts a rest = (c : ℕ) → FollowFrom c (tk ts) → Set c rest a

operand_set : (k : Level) (ts : List Lexeme) (a : Expression) (rest : List Lexeme) → Stands (operand k) ts a rest → (c : ℕ) → FollowFrom c (tk ts) → Set c rest a
operand_set n.product ts a rest h = h
operand_set n.sum ts a rest h = h
operand_set n.shift ts a rest h = h
operand_set n.relation ts a rest h = h
operand_set n.equality ts a rest h = h
operand_set n.bit_and ts a rest h = h
operand_set n.bit_xor ts a rest h = h
operand_set n.bit_or ts a rest h = h
operand_set n.land ts a rest h = h
operand_set n.lor ts a rest h = h

-- from the end of one expression over a token to another
over : {e s : ℕ} (x : Lexeme) → e ≤ x.token.start → end_of x.token ≤ s → e ≤ s
over x h l = le (grows x h) l

mutual
  reads_set : {d : Dialect} {k : Nonterminal} {ts rest : List Lexeme} {a : Expression} → Reads d k ts a rest → Stands k ts a rest
  reads_set (r.comma_one p e) = λ c h. reads_set p c h
  reads_set (r.comma {x = x} {a = a} {all = all} p e q) =
      λ c h.
      let one = reads_set p c h in
      let more = all_set q (span_of a) (end_of x.token) one.follow.2 in
      record {
        lower = one.lower;
        nested = (same (span_of a).start, one.nested, all_lower all _ (grows x one.follow.0) more.holds);
        follow = more.follow;
      }
  reads_set (r.assign_cond p e) = λ c h. reads_set p c h
  reads_set (r.assign {x = x} {b = b} p e q) =
      λ c h.
      let one = reads_set p c h in
      let two = reads_set q (end_of x.token) one.follow.2 in
      record { lower = one.lower; nested = (same _, over x one.follow.0 two.lower, same _, one.nested, two.nested); follow = two.follow }
  reads_set (r.cond_level p e) = λ c h. reads_set p c h
  reads_set (r.cond {x = x} {y = y} p e q f v) =
      λ c h.
      let one = reads_set p c h in
      let two = reads_set q (end_of x.token) one.follow.2 in
      let three = reads_set v (end_of y.token) two.follow.2 in
      record {
        lower = one.lower;
        nested = (same _, over x one.follow.0 two.lower, over y two.follow.0 three.lower, same _, one.nested, two.nested, three.nested);
        follow = three.follow;
      }
  reads_set (r.level {k = k} {ts = ts} {mid = mid} {a = a} p q) = λ c h. reads_set q c (operand_set k ts a mid (reads_set p) c h)
  reads_set (r.operation {k = k} {x = x} {ts = ts} {mid = mid} {b = b} e p q) =
      λ c one.
      let two = operand_set k ts b mid (reads_set p) (end_of x.token) one.follow.2 in
      reads_set q c (record { lower = one.lower; nested = (same _, over x one.follow.0 two.lower, same _, one.nested, two.nested); follow = two.follow })
  reads_set (r.operations_end e) = λ c one. one
  reads_set (r.cast_unary e p) = λ c h. reads_set p c h
  reads_set (r.cast {x = x} {y = y} e f p v q) =
      λ c h.
      let type = apart_type_name p (end_of x.token) h.2 in
      let one = reads_set q (end_of y.token) type.part.follow.2 in
      record {
        lower = h.0;
        nested = (le (own x) (le type.part.forward (over y type.part.follow.0 one.lower)), same _, one.nested);
        follow = one.follow;
      }
  reads_set (r.unary_postfix e p) = λ c h. reads_set p c h
  reads_set (r.prefix_step {x = x} e p) =
      λ c h.
      let one = reads_set p (end_of x.token) h.2 in
      record { lower = h.0; nested = (le (own x) one.lower, same _, one.nested); follow = one.follow }
  reads_set (r.unary {x = x} e p) =
      λ c h.
      let one = reads_set p (end_of x.token) h.2 in
      record { lower = h.0; nested = (le (own x) one.lower, same _, one.nested); follow = one.follow }
  reads_set (r.postfix p q) = λ c h. reads_set q c (reads_set p c h)
  reads_set (r.index {x = x} {y = y} e p f q) =
      λ c one.
      let two = reads_set p (end_of x.token) one.follow.2 in
      reads_set q c (record {
        lower = one.lower;
        nested = (same _, over x one.follow.0 two.lower, grows y two.follow.0, one.nested, two.nested);
        follow = two.follow.2;
      })
  reads_set (r.member {x = x} {y = y} e f q) =
      λ c one.
      reads_set q c (record {
        lower = one.lower;
        nested = (same _, over x one.follow.0 (grows y one.follow.2.0), one.nested);
        follow = one.follow.2.2;
      })
  reads_set (r.postfix_step {x = x} e q) =
      λ c one. reads_set q c (record { lower = one.lower; nested = (same _, grows x one.follow.0, one.nested); follow = one.follow.2 })
  reads_set (r.suffixes_end e) = λ c one. one
  reads_set (r.named {x = x} e f) = λ c h. record { lower = h.0; nested = own x; follow = h.2 }
  reads_set (r.constant {x = x} e) = λ c h. record { lower = h.0; nested = own x; follow = h.2 }
  reads_set (r.character {x = x} e) = λ c h. record { lower = h.0; nested = own x; follow = h.2 }
  reads_set (r.parenthesized {x = x} {y = y} e f p v) =
      λ c h.
      let one = reads_set p (end_of x.token) h.2 in
      record { lower = h.0; nested = (le (own x) one.lower, grows y one.follow.0, one.nested); follow = one.follow.2 }
  reads_set (r.call_empty {x = x} {y = y} {z = z} e f v) =
      λ c h. record { lower = h.0; nested = le (own x) (over y h.2.0 (grows z h.2.2.0)); follow = h.2.2.2 }
  reads_set (r.call {x = x} {y = y} {z = z} {all = all} e f v p u) =
      λ c h.
      let more = all_set p (at y) (end_of y.token) h.2.2 in
      record {
        lower = h.0;
        nested = all_lower all _ (le (own x) (grows y h.2.0)) (all_higher all _ (grows z more.follow.0) more.holds);
        follow = more.follow.2;
      }

  all_set : {d : Dialect} {ts rest : List Lexeme} {all : Expressions} → ReadsExpressions d ts all rest → (place : Span) (c : ℕ) → FollowFrom c (tk ts) → Listed c place rest all
  all_set (r.last_expression {a = a} p e) place c h =
      let one = reads_set p c h in
      record { holds = (one.lower, one.nested, same (span_of a).end); follow = one.follow }
  all_set (r.more_expressions {x = x} {a = a} {all = all} p e q) place c h =
      let one = reads_set p c h in
      let more = all_set q (span_of a) (end_of x.token) one.follow.2 in
      record { holds = (one.lower, one.nested, all_lower all _ (grows x one.follow.0) more.holds); follow = more.follow }

-- ---- parts that end somewhere

record Part (c : ℕ) (rest : List Lexeme) (Holds : ℕ → Type 0) : Type 0 where
  end : ℕ
  holds : Holds end
  follow : FollowFrom end (tk rest)

reads_optional : {d : Dialect} {stop : List ℕ} {ts rest : List Lexeme} {a : Option Expression} → ReadsOptional d stop ts a rest → (c : ℕ) → FollowFrom c (tk ts)
    → Part c rest (InOptional c a)
reads_optional (g.no_expression e) c h = record { end = c; holds = same c; follow = h }
reads_optional (g.an_expression {a = a} e p) c h =
    let one = reads_set p c h in
    record { end = (span_of a).end; holds = (one.lower, same (span_of a).end, one.nested); follow = one.follow }

mutual
  reads_initializer : {d : Dialect} {ts rest : List Lexeme} {i : Initializer} → ReadsInitializer d ts i rest → (c : ℕ) → FollowFrom c (tk ts) → Part c rest (InInitializer c i)
  reads_initializer (g.single {a = a} e p) c h =
      let one = reads_set p c h in
      record { end = (span_of a).end; holds = (one.lower, same (span_of a).end, one.nested); follow = one.follow }
  reads_initializer (g.braced {x = x} {y = y} {all = all} e p f) c h =
      let more = reads_initializers p (end_of x.token) h.2 in
      record {
        end = end_of y.token;
        holds = initializers_lower all _ (grows x h.0) (initializers_higher all _ (grows y more.follow.0) more.holds);
        follow = more.follow.2;
      }

  reads_initializers : {d : Dialect} {ts rest : List Lexeme} {all : Initializers} → ReadsInitializers d ts all rest → (c : ℕ) → FollowFrom c (tk ts) → Part c rest (InInitializers c all)
  reads_initializers (g.last_initializer p e) c h =
      let one = reads_initializer p c h in
      record { end = one.end; holds = (one.end, one.holds, same one.end); follow = one.follow }
  reads_initializers (g.last_initializer_comma {x = x} p e f) c h =
      let one = reads_initializer p c h in
      record { end = end_of x.token; holds = (one.end, one.holds, grows x one.follow.0); follow = one.follow.2 }
  reads_initializers (g.more_initializers {x = x} {all = all} p e f q) c h =
      let one = reads_initializer p c h in
      let more = reads_initializers q (end_of x.token) one.follow.2 in
      record { end = more.end; holds = (one.end, one.holds, initializers_lower all _ (grows x one.follow.0) more.holds); follow = more.follow }

-- ---- declarations

-- with those that follow it
reads_init_declarator : {d : Dialect} {typedef : Bool} {ts rest : List Lexeme} {one : InitDeclarator} → ReadsInitDeclarator d typedef ts one rest → (c : ℕ) → FollowFrom c (tk ts)
    → Part c rest (λ e. (more : List InitDeclarator) (to : ℕ) → InObjects e more to → InObjects c (one ∷ more) to)
reads_init_declarator {typedef = typedef} (g.bare {mid = mid} {d = a} p e) c h =
    let named = apart_declarator p c h in
    record {
      end = named.end;
      holds = λ more to k. objects_lower more _ named.part.forward k;
      follow = subst (λ us. FollowFrom named.end us) (sym (after_tokens typedef a mid)) named.part.follow;
    }
reads_init_declarator {typedef = typedef} (g.initialized {x = x} {mid = mid} {d = a} {i = i} p k e q) c h =
    let named = apart_declarator p c h in
    let next = subst (λ us. FollowFrom named.end us) (sym (after_tokens typedef a mid) ∙ ap tk k) named.part.follow in
    let value = reads_initializer q (end_of x.token) next.2 in
    record {
      end = value.end;
      holds = λ more to l. (value.end, initializer_lower i _ (le named.part.forward (grows x next.0)) value.holds, l);
      follow = value.follow;
    }

reads_init_declarators : {d : Dialect} {typedef : Bool} {ts rest : List Lexeme} {all : List InitDeclarator} → ReadsInitDeclarators d typedef ts all rest → (c : ℕ) → FollowFrom c (tk ts)
    → Part c rest (InObjects c all)
reads_init_declarators (g.no_init_declarator e) c h = record { end = c; holds = same c; follow = h }
reads_init_declarators (g.last_init_declarator p e) c h =
    let one = reads_init_declarator p c h in
    record { end = one.end; holds = one.holds [] one.end (same one.end); follow = one.follow }
reads_init_declarators (g.more_init_declarators {x = x} {all = all} p e f q) c h =
    let one = reads_init_declarator p c h in
    let more = reads_init_declarators q (end_of x.token) one.follow.2 in
    record { end = more.end; holds = one.holds all more.end (objects_lower all _ (grows x one.follow.0) more.holds); follow = more.follow }

reads_declaration : {d : Dialect} {typedef : Bool} {allowed : _} {ts rest : List Lexeme} {one : Declaration} → ReadsDeclaration d typedef allowed ts one rest → (c : ℕ) → FollowFrom c (tk ts)
    → Part c rest (InDeclaration c one)
reads_declaration (g.declaration {x = x} {y = y} {all = all} e p f q v) c h =
    let words = apart_specifiers p x.token.start (same x.token.start, h.1, h.2) in
    let objects = reads_init_declarators q words.end words.part.follow in
    record {
      end = end_of y.token;
      holds = (h.0, objects_lower all _ words.part.forward (objects_higher all _ (grows y objects.follow.0) objects.holds), same (end_of y.token));
      follow = objects.follow.2;
    }

-- ---- statements

-- A test, its expression between two bytes.
reads_test : {d : Dialect} {ts rest : List Lexeme} {a : Expression} → ReadsTest d ts a rest → (c : ℕ) → FollowFrom c (tk ts)
    → Part c rest (λ e. (c ≤ (span_of a).start) × Nested a × ((span_of a).end ≤ e))
reads_test (g.test {x = x} {y = y} e p f) c h =
    let one = reads_set p (end_of x.token) h.2 in
    record { end = end_of y.token; holds = (le (grows x h.0) one.lower, one.nested, grows y one.follow.0); follow = one.follow.2 }

-- A statement from this byte on, before these tokens.
record Put (c : ℕ) (rest : List Lexeme) (s : Statement) : Type 0 where
  lower : c ≤ (span_of_statement s).start
  nested : NestedStatement s
  follow : FollowFrom (span_of_statement s).end (tk rest)

inside : {low c : ℕ} {rest : List Lexeme} (s : Statement) → low ≤ c → Put c rest s → InStatement low s (span_of_statement s).end
inside s l p = (le l p.lower, p.nested, same (span_of_statement s).end)

reads_start : {d : Dialect} {ts rest : List Lexeme} {s : ForStart} → ReadsForStart d ts s rest → (c : ℕ) → FollowFrom c (tk ts) → Part c rest (InStart c s)
reads_start (g.starts_local p) c h = reads_declaration p c h
reads_start (g.starts_expression {y = y} {a = a} e p f) c h =
    let one = reads_optional p c h in
    record { end = end_of y.token; holds = optional_higher a _ (grows y one.follow.0) one.holds; follow = one.follow.2 }

-- ---- the word `return`, and `;`

text_is : (b : Bool) (text bytes : List ℕ) → (b && bytes_eq bytes text) ≡ true → bytes ≡ text
text_is b text bytes e = (bytes_eq-Decides bytes text).0 (and_parts b (bytes_eq bytes text) e).1

return_length : (x : Lexeme) → is_keyword (codes "return") x ≡ true → length x.token.text ≡ 6
return_length x e = ap length (text_is (is_keyword_kind x.token.kind) (codes "return") x.token.text e)

semicolon_length : (y : Lexeme) → is_punctuator (codes ";") y ≡ true → length y.token.text ≡ 1
semicolon_length y e = ap length (text_is (is_punctuator_kind y.token.kind) (codes ";") y.token.text e)

six_after : (s k b : ℕ) → k ≡ 6 → s + k ≤ b → s + 6 ≤ b
six_after s k b e h = omega (arith, e, h)

one_before : (s k b : ℕ) → k ≡ 1 → b ≤ s → b ≤ (s + k) - 1
one_before s k b e h = omega (arith, e, h)

mutual
  reads_statement : {d : Dialect} {ts rest : List Lexeme} {s : Statement} → ReadsStatement d ts s rest → (c : ℕ) → FollowFrom c (tk ts) → Put c rest s
  reads_statement (g.compound p) c h = reads_compound p c h
  reads_statement (g.null {y = y} e) c h = record { lower = h.0; nested = own y; follow = h.2 }
  reads_statement (g.expression_statement {y = y} e f p v) c h =
      let one = reads_set p c h in
      record { lower = one.lower; nested = (same _, grows y one.follow.0, one.nested); follow = one.follow.2 }
  reads_statement (g.if_only {x = x} {s = s} e p q f) c h =
      let test = reads_test p (end_of x.token) h.2 in
      let one = reads_statement q test.end test.follow in
      record { lower = h.0; nested = (le (own x) test.holds.0, test.holds.1, inside s test.holds.2 one); follow = one.follow }
  reads_statement (g.if_else {x = x} {y = y} {s = s} {u = u} e p q f v) c h =
      let test = reads_test p (end_of x.token) h.2 in
      let one = reads_statement q test.end test.follow in
      let two = reads_statement v (end_of y.token) one.follow.2 in
      record {
        lower = h.0;
        nested = (le (own x) test.holds.0, test.holds.1, le test.holds.2 one.lower, one.nested, inside u (grows y one.follow.0) two);
        follow = two.follow;
      }
  reads_statement (g.switch {x = x} {s = s} e p q) c h =
      let test = reads_test p (end_of x.token) h.2 in
      let one = reads_statement q test.end test.follow in
      record { lower = h.0; nested = (le (own x) test.holds.0, test.holds.1, inside s test.holds.2 one); follow = one.follow }
  reads_statement (g.while {x = x} {s = s} e p q) c h =
      let test = reads_test p (end_of x.token) h.2 in
      let one = reads_statement q test.end test.follow in
      record { lower = h.0; nested = (le (own x) test.holds.0, test.holds.1, inside s test.holds.2 one); follow = one.follow }
  reads_statement (g.do_while {x = x} {y = y} {z = z} {s = s} e p f q v) c h =
      let one = reads_statement p (end_of x.token) h.2 in
      let test = reads_test q (end_of y.token) one.follow.2 in
      record {
        lower = h.0;
        nested = (le (own x) one.lower, one.nested, (over y one.follow.0 test.holds.0, le test.holds.2 (grows z test.follow.0), test.holds.1));
        follow = test.follow.2;
      }
  reads_statement (g.for {x = x} {y = y} {z = z} {v = v} {start = start} {a = a} {b = b} {s = s} e f p q k l m u) c h =
      let first = reads_start p (end_of y.token) h.2.2 in
      let test = reads_optional q first.end first.follow in
      let step = reads_optional l (end_of z.token) test.follow.2 in
      let one = reads_statement u (end_of v.token) step.follow.2 in
      record {
        lower = h.0;
        nested = (
          first.end,
          end_of z.token,
          end_of v.token,
          start_lower start _ (le (own x) (grows y h.2.0)) first.holds,
          optional_higher a _ (grows z test.follow.0) test.holds,
          optional_higher b _ (grows v step.follow.0) step.holds,
          inside s (same (end_of v.token)) one,
        );
        follow = one.follow;
      }
  reads_statement (g.case_label {x = x} {y = y} {s = s} e p f q) c h =
      let value = reads_set p (end_of x.token) h.2 in
      let one = reads_statement q (end_of y.token) value.follow.2 in
      record {
        lower = h.0;
        nested = (le (own x) (le value.lower (le (forward _ value.nested) (grows y value.follow.0))), inside s (same (end_of y.token)) one);
        follow = one.follow;
      }
  reads_statement (g.default {x = x} {y = y} {s = s} e f p) c h =
      let one = reads_statement p (end_of y.token) h.2.2 in
      record { lower = h.0; nested = (le (own x) (grows y h.2.0), inside s (same (end_of y.token)) one); follow = one.follow }
  reads_statement (g.label {x = x} {y = y} {s = s} e f p) c h =
      let one = reads_statement p (end_of y.token) h.2.2 in
      record { lower = h.0; nested = inside s (le (own x) (grows y h.2.0)) one; follow = one.follow }
  reads_statement (g.goto {x = x} {y = y} {z = z} e f v) c h =
      record { lower = h.0; nested = le (own x) (over y h.2.0 (grows z h.2.2.0)); follow = h.2.2.2 }
  reads_statement (g.continue {x = x} {y = y} e f) c h = record { lower = h.0; nested = le (own x) (grows y h.2.0); follow = h.2.2 }
  reads_statement (g.break {x = x} {y = y} e f) c h = record { lower = h.0; nested = le (own x) (grows y h.2.0); follow = h.2.2 }
  reads_statement (g.return {x = x} {y = y} {a = None} e p f) c h =
      let value = reads_optional p (end_of x.token) h.2 in
      record { lower = h.0; nested = le (own x) (le value.holds (grows y value.follow.0)); follow = value.follow.2 }
  reads_statement (g.return {x = x} {y = y} {a = Some a} e p f) c h =
      let value = reads_optional p (end_of x.token) h.2 in
      record {
        lower = h.0;
        nested = (
          six_after x.token.start (length x.token.text) (span_of a).start (return_length x e) value.holds.0,
          one_before y.token.start (length y.token.text) (span_of a).end (semicolon_length y f) (le value.holds.1 value.follow.0),
          value.holds.2,
        );
        follow = value.follow.2;
      }

  reads_compound : {d : Dialect} {ts rest : List Lexeme} {b : BlockItems} {span : Span} → ReadsCompound d ts b span rest → (c : ℕ) → FollowFrom c (tk ts) → Put c rest (t.Compound b span)
  reads_compound (g.block {x = x} {y = y} {b = b} e p f) c h =
      let items = reads_block p (end_of x.token) h.2 in
      record {
        lower = h.0;
        nested = block_lower b _ (own x) (block_higher b _ (grows y items.follow.0) items.holds);
        follow = items.follow.2;
      }

  reads_block : {d : Dialect} {ts rest : List Lexeme} {b : BlockItems} → ReadsBlockItems d ts b rest → (c : ℕ) → FollowFrom c (tk ts) → Part c rest (InBlock c b)
  reads_block (g.block_end e) c h = record { end = c; holds = same c; follow = h }
  reads_block (g.local {b = b} e p q) c h =
      let one = reads_declaration p c h in
      let more = reads_block q one.end one.follow in
      record { end = more.end; holds = (one.end, one.holds, more.holds); follow = more.follow }
  reads_block (g.statement {s = s} e f p q) c h =
      let one = reads_statement p c h in
      let more = reads_block q (span_of_statement s).end one.follow in
      record { end = more.end; holds = (one.lower, one.nested, more.holds); follow = more.follow }

pub blocks_are_nested : BlocksAreNested
blocks_are_nested d ts rest b from p h = let items = reads_block p from h in (items.end, items.holds, items.follow)
