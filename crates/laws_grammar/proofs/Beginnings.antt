-- With which token each part of a unit begins.
use Rattle.std.proofs.Common.{◌≡◌, ℕ, Bool, true, false, List, [], ◌∷◌, refl, codes}
use Rattle.mc_lex.specs.declared.token.Dialect.{Dialect}
use Rattle.mc_span.specs.declared.span.Span.{Span}
use Rattle.mc_tree.specs.declared.expressions.unary_operator.UnaryOperator.{UnaryOperator}
use Rattle.mc_tree.specs.declared.expressions.step_operator.StepOperator.{StepOperator}
use Rattle.mc_tree.specs.Tree.{Expression, Specifiers, Declarator, InitDeclarator, Declaration, BlockItems}
use Rattle.mc_grammar.specs.Words.{Lexeme, is_punctuator, is_keyword, is_name, begins_specifiers, sees, sees_specifiers, sees_label}
use Rattle.mc_grammar.specs.Operators as o
use Rattle.mc_grammar.specs.Nonterminal.{Nonterminal, takes}
use Rattle.mc_grammar.specs.Expressions.{Reads, ReadsStars, ReadsDeclarator}
use Rattle.mc_grammar.specs.Expressions as r
use Rattle.mc_grammar.specs.Statements.{ReadsInitDeclarator, ReadsDeclaration, ReadsCompound}
use Rattle.mc_grammar.specs.Statements as s
use Rattle.laws_grammar.specs.Statements.{Beginning, begins, keyword_begins}
use Rattle.laws_grammar.specs.Statements as b
use Rattle.laws_grammar.proofs.Known.{fails, punctuator, word, named, named_no_type}
use Rattle.mc_grammar.proofs.Lengths.{operand_takes}

-- ---- declarations and blocks

stars_begin : {before end : Span} {ts mid : List Lexeme} {x : Lexeme} {k : ℕ} → ReadsStars before ts k end (x ∷ mid) → is_name x ≡ true → sees (codes ";") ts ≡ false
stars_begin (r.star {x = x} e p) f = let k = punctuator (codes "*") x e in rw (k.kind_is, k.text_is) refl
stars_begin {x = x} (r.no_star e) f = rw (named x f) refl

pub declarator_begins : {d : Dialect} {ts rest : List Lexeme} {one : Declarator} → ReadsDeclarator d ts one rest → sees (codes ";") ts ≡ false
declarator_begins (r.object p e f q) = stars_begin p e
declarator_begins (r.function p e q) = stars_begin p e

pub init_declarator_begins : {d : Dialect} {typedef : Bool} {ts rest : List Lexeme} {one : InitDeclarator} → ReadsInitDeclarator d typedef ts one rest → sees (codes ";") ts ≡ false
init_declarator_begins (s.bare p e) = declarator_begins p
init_declarator_begins (s.initialized p g e q) = declarator_begins p

pub declaration_begins : {d : Dialect} {typedef : Bool} {allowed : Specifiers → Bool} {ts rest : List Lexeme} {one : Declaration} → ReadsDeclaration d typedef allowed ts one rest → sees_specifiers ts ≡ true
declaration_begins (s.declaration e p f q g) = e

pub compound_begins : {d : Dialect} {span : Span} {ts rest : List Lexeme} {all : BlockItems} → ReadsCompound d ts all span rest → sees (codes "{") ts ≡ true
compound_begins (s.block e p f) = e

no_specifier : (x : Lexeme) → is_punctuator (codes "}") x ≡ true → begins_specifiers x ≡ false
no_specifier x e = rw (punctuator (codes "}") x e).kind_is refl

pub specifiers_no_brace : (ts : List Lexeme) → sees_specifiers ts ≡ true → sees (codes "}") ts ≡ false
specifiers_no_brace [] e = refl
specifiers_no_brace (x ∷ ts) e = fails (is_punctuator (codes "}") x) (λ h. let g = no_specifier x h in absurd (cc))

-- ---- statements by their first tokens

begins_block : (x : Lexeme) (ts : List Lexeme) → is_punctuator (codes "{") x ≡ true → begins (x ∷ ts) ≡ b.block
begins_block x ts e = let k = punctuator (codes "{") x e in rw (k.kind_is, k.text_is) refl

pub begins_null : (x : Lexeme) (ts : List Lexeme) → is_punctuator (codes ";") x ≡ true → begins (x ∷ ts) ≡ b.null
begins_null x ts e = let k = punctuator (codes ";") x e in rw (k.kind_is, k.text_is) refl

pub begins_label : (x y : Lexeme) (ts : List Lexeme) → is_name x ≡ true → is_punctuator (codes ":") y ≡ true → begins (x ∷ y ∷ ts) ≡ b.label
begins_label x y ts e f = let no = named_no_type x e in rw (named x e, no, f) refl

pub begins_if : (x : Lexeme) (ts : List Lexeme) → is_keyword (codes "if") x ≡ true → begins (x ∷ ts) ≡ b.if_
begins_if x ts e = let w = word (codes "if") x e in rw (w.kind_is, w.text_is) refl

pub begins_switch : (x : Lexeme) (ts : List Lexeme) → is_keyword (codes "switch") x ≡ true → begins (x ∷ ts) ≡ b.switch
begins_switch x ts e = let w = word (codes "switch") x e in rw (w.kind_is, w.text_is) refl

pub begins_while : (x : Lexeme) (ts : List Lexeme) → is_keyword (codes "while") x ≡ true → begins (x ∷ ts) ≡ b.while
begins_while x ts e = let w = word (codes "while") x e in rw (w.kind_is, w.text_is) refl

pub begins_do : (x : Lexeme) (ts : List Lexeme) → is_keyword (codes "do") x ≡ true → begins (x ∷ ts) ≡ b.do_
begins_do x ts e = let w = word (codes "do") x e in rw (w.kind_is, w.text_is) refl

pub begins_for : (x : Lexeme) (ts : List Lexeme) → is_keyword (codes "for") x ≡ true → begins (x ∷ ts) ≡ b.for_
begins_for x ts e = let w = word (codes "for") x e in rw (w.kind_is, w.text_is) refl

pub begins_case : (x : Lexeme) (ts : List Lexeme) → is_keyword (codes "case") x ≡ true → begins (x ∷ ts) ≡ b.case_
begins_case x ts e = let w = word (codes "case") x e in rw (w.kind_is, w.text_is) refl

pub begins_default : (x : Lexeme) (ts : List Lexeme) → is_keyword (codes "default") x ≡ true → begins (x ∷ ts) ≡ b.default_
begins_default x ts e = let w = word (codes "default") x e in rw (w.kind_is, w.text_is) refl

pub begins_goto : (x : Lexeme) (ts : List Lexeme) → is_keyword (codes "goto") x ≡ true → begins (x ∷ ts) ≡ b.goto_
begins_goto x ts e = let w = word (codes "goto") x e in rw (w.kind_is, w.text_is) refl

pub begins_continue : (x : Lexeme) (ts : List Lexeme) → is_keyword (codes "continue") x ≡ true → begins (x ∷ ts) ≡ b.continue_
begins_continue x ts e = let w = word (codes "continue") x e in rw (w.kind_is, w.text_is) refl

pub begins_break : (x : Lexeme) (ts : List Lexeme) → is_keyword (codes "break") x ≡ true → begins (x ∷ ts) ≡ b.break_
begins_break x ts e = let w = word (codes "break") x e in rw (w.kind_is, w.text_is) refl

pub begins_return : (x : Lexeme) (ts : List Lexeme) → is_keyword (codes "return") x ≡ true → begins (x ∷ ts) ≡ b.return_
begins_return x ts e = let w = word (codes "return") x e in rw (w.kind_is, w.text_is) refl

pub block_begins : {d : Dialect} {span : Span} {ts rest : List Lexeme} {all : BlockItems} → ReadsCompound d ts all span rest → begins ts ≡ b.block
block_begins (s.block {x = x} {ts = ts} e p f) = begins_block x ts e

-- ---- expression statements

-- no other statement begins so, unless a label does
record Plain (ts : List Lexeme) : Type 0 where
  no_brace : sees (codes "{") ts ≡ false
  no_semicolon : sees (codes ";") ts ≡ false
  no_keyword : keyword_begins ts ≡ b.expression

plain_step : {x : Lexeme} {ts : List Lexeme} {operator : StepOperator} → o.IsStep x operator → Plain (x ∷ ts)
plain_step (o.increment {x = x} e) = let k = punctuator (codes "++") x e in record { no_brace = rw (k.kind_is, k.text_is) refl; no_semicolon = rw (k.kind_is, k.text_is) refl; no_keyword = rw k.kind_is refl }
plain_step (o.decrement {x = x} e) = let k = punctuator (codes "--") x e in record { no_brace = rw (k.kind_is, k.text_is) refl; no_semicolon = rw (k.kind_is, k.text_is) refl; no_keyword = rw k.kind_is refl }

plain_unary : {x : Lexeme} {ts : List Lexeme} {operator : UnaryOperator} → o.IsUnary x operator → Plain (x ∷ ts)
plain_unary (o.plus {x = x} e) = let k = punctuator (codes "+") x e in record { no_brace = rw (k.kind_is, k.text_is) refl; no_semicolon = rw (k.kind_is, k.text_is) refl; no_keyword = rw k.kind_is refl }
plain_unary (o.minus {x = x} e) = let k = punctuator (codes "-") x e in record { no_brace = rw (k.kind_is, k.text_is) refl; no_semicolon = rw (k.kind_is, k.text_is) refl; no_keyword = rw k.kind_is refl }
plain_unary (o.complement {x = x} e) = let k = punctuator (codes "~") x e in record { no_brace = rw (k.kind_is, k.text_is) refl; no_semicolon = rw (k.kind_is, k.text_is) refl; no_keyword = rw k.kind_is refl }
plain_unary (o.not {x = x} e) = let k = punctuator (codes "!") x e in record { no_brace = rw (k.kind_is, k.text_is) refl; no_semicolon = rw (k.kind_is, k.text_is) refl; no_keyword = rw k.kind_is refl }
plain_unary (o.dereference {x = x} e) = let k = punctuator (codes "*") x e in record { no_brace = rw (k.kind_is, k.text_is) refl; no_semicolon = rw (k.kind_is, k.text_is) refl; no_keyword = rw k.kind_is refl }
plain_unary (o.address {x = x} e) = let k = punctuator (codes "&") x e in record { no_brace = rw (k.kind_is, k.text_is) refl; no_semicolon = rw (k.kind_is, k.text_is) refl; no_keyword = rw k.kind_is refl }

plain_name : {x : Lexeme} {ts : List Lexeme} → is_name x ≡ true → Plain (x ∷ ts)
plain_name {x = x} e = let k = named x e in record { no_brace = rw k refl; no_semicolon = rw k refl; no_keyword = rw k refl }

plain_parenthesis : {x : Lexeme} {ts : List Lexeme} → is_punctuator (codes "(") x ≡ true → Plain (x ∷ ts)
plain_parenthesis {x = x} e = let k = punctuator (codes "(") x e in record { no_brace = rw (k.kind_is, k.text_is) refl; no_semicolon = rw (k.kind_is, k.text_is) refl; no_keyword = rw k.kind_is refl }

plain : {d : Dialect} {m : Nonterminal} {ts rest : List Lexeme} {a : Expression} → Reads d m ts a rest → takes m ≡ 1 → Plain ts
plain (r.comma_one p e) u = plain p refl
plain (r.comma p e q) u = plain p refl
plain (r.assign_cond p e) u = plain p refl
plain (r.assign p e q) u = plain p refl
plain (r.cond_level p e) u = plain p refl
plain (r.cond p e q f v) u = plain p refl
plain (r.level {k = k} p q) u = plain p (operand_takes k)
plain (r.operation e p q) u = absurd (cc)
plain (r.operations_end e) u = absurd (cc)
plain (r.cast_unary e p) u = plain p refl
plain (r.cast e f p g q) u = plain_parenthesis e
plain (r.unary_postfix e p) u = plain p refl
plain (r.prefix_step e p) u = plain_step e
plain (r.unary e p) u = plain_unary e
plain (r.postfix p q) u = plain p refl
plain (r.index e p f q) u = absurd (cc)
plain (r.member e f q) u = absurd (cc)
plain (r.postfix_step e q) u = absurd (cc)
plain (r.suffixes_end e) u = absurd (cc)
plain (r.named e f) u = plain_name e
plain (r.constant e) u = record { no_brace = rw e refl; no_semicolon = rw e refl; no_keyword = rw e refl }
plain (r.character e) u = record { no_brace = rw e refl; no_semicolon = rw e refl; no_keyword = rw e refl }
plain (r.parenthesized e f p g) u = plain_parenthesis e
plain (r.call_empty e f g) u = plain_name e
plain (r.call e f g p h) u = plain_name e

pub begins_expression : {d : Dialect} {m : Nonterminal} {ts rest : List Lexeme} {a : Expression} → Reads d m ts a rest → takes m ≡ 1 → sees_label ts ≡ false → begins ts ≡ b.expression
begins_expression p u e = let k = plain p u in rw (k.no_brace, k.no_semicolon, e, k.no_keyword) refl
