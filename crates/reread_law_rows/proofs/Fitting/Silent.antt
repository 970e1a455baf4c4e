-- No `;` stands in an expression without a list of members: one case for each alternative of a
-- production.
use Rattle.std.proofs.Common.{◌≡◌, ℕ, Bool, true, false, not, List, [], ◌∷◌, ◌++◌, refl, sym, ap, ◌∙◌, codes}
use Rattle.std.specs.List.{list_any}
use Rattle.std.proofs.lemmas.List.Folds.{list_any-append}
use Rattle.mc_span.specs.declared.span.Span.{Span}
use Rattle.mc_lex.specs.declared.token.Dialect.{Dialect}
use Rattle.mc_lex.specs.declared.token.TokenKind.TheVariants as kind
use Rattle.mc_lex.specs.Tokens.{Tok}
use Rattle.mc_tree.specs.declared.declarations.specifier_word.SpecifierWord.{SpecifierWord}
use Rattle.mc_tree.specs.Tree.{Expression, Expressions, TypeName, Specifiers}
use Rattle.mc_grammar.specs.Words.{Lexeme, is_punctuator, is_keyword, is_identifier_kind, is_name, is_type_name}
use Rattle.mc_grammar.specs.Operators.{IsSpecifierWord}
use Rattle.mc_grammar.specs.Operators as o
use Rattle.mc_grammar.specs.Nonterminal.{Nonterminal, Level, operand}
use Rattle.mc_grammar.specs.Nonterminal as n
use Rattle.mc_grammar.specs.Expressions.{Reads, ReadsExpressions, ReadsTypeName, ReadsSpecifiers, ReadsStars}
use Rattle.mc_grammar.specs.Expressions as r
use Rattle.reread_law_texts.proofs.Weave.Next.{of_sign}
use Rattle.reread_pieces.specs.Words.{is}
use Rattle.reread_law_rows.proofs.Fitting.Words.{Clear, AreClear}
use Rattle.reread_law_rows.proofs.Fitting.Sections.{assoc, comma_mild, question_mild, member_mild, star_mild, operator_mild, assignment_mild, step_mild, unary_mild, keyword_kind, identifier_no_sign, left_of}
use Rattle.reread_law_rows.proofs.Fitting.Profile.{HasNoList, GivesNoList, NamesNoList, HaveNoList}
use Rattle.reread_law_texts.proofs.Tokens.{tk}

abbrev pub is_semicolon : Tok → Bool
is_semicolon = is (codes ";")

pub record Silent (from rest : List Tok) : Type 0 where
  pub inside : List Tok
  pub all : from ≡ inside ++ rest
  pub silent : list_any is_semicolon inside ≡ false
  pub clear : AreClear rest

nothing : {ts : List Tok} → AreClear ts → Silent ts ts
nothing h = record { inside = []; all = refl; silent = refl; clear = h }

one : (x : Lexeme) {ts : List Tok} → is_semicolon x.token ≡ false → AreClear (x.token ∷ ts) → Silent (x.token ∷ ts) ts
one x e h = record { inside = x.token ∷ []; all = refl; silent = rw e refl; clear = h.1 }

chain : {a b c : List Tok} → Silent a b → (AreClear b → Silent b c) → Silent a c
chain {c = c} p f =
    let q = f p.clear in
    record {
      inside = p.inside ++ q.inside;
      all = p.all ∙ ap (λ us. p.inside ++ us) q.all ∙ sym (assoc p.inside q.inside c);
      silent = list_any-append is_semicolon p.inside q.inside ∙ rw (p.silent, q.silent) refl;
      clear = q.clear;
    }

-- ---- tokens

sign_silent : (text : List ℕ) (x : Lexeme) → is_punctuator text x ≡ true → ((start : ℕ) → is_semicolon (record { kind = kind.Punctuator; text = text; start = start }) ≡ false) → is_semicolon x.token ≡ false
sign_silent text x e h = of_sign (λ x. is_semicolon x.token ≡ false) text x e (λ start mark. h start)

name_silent : (x : Lexeme) → is_name x ≡ true → Clear x.token → is_semicolon x.token ≡ false
name_silent x e c = c.semicolon (identifier_no_sign x.token.kind (left_of (is_identifier_kind x.token.kind) (not x.names_type) e))

type_silent : (x : Lexeme) → is_type_name x ≡ true → Clear x.token → is_semicolon x.token ≡ false
type_silent x e c = c.semicolon (identifier_no_sign x.token.kind (left_of (is_identifier_kind x.token.kind) x.names_type e))

tag_silent : (x : Lexeme) → is_identifier_kind x.token.kind ≡ true → Clear x.token → is_semicolon x.token ≡ false
tag_silent x e c = c.semicolon (identifier_no_sign x.token.kind e)

keyword_silent : (text : List ℕ) (x : Lexeme) → is_keyword text x ≡ true → Clear x.token → is_semicolon x.token ≡ false
keyword_silent text x e c = c.semicolon (keyword_kind text x e)

word_silent : {x : Lexeme} {w : SpecifierWord} → IsSpecifierWord x w → Clear x.token → is_semicolon x.token ≡ false
word_silent {x = x} (o.typedef e) c = keyword_silent (codes "typedef") x e c
word_silent {x = x} (o.static e) c = keyword_silent (codes "static") x e c
word_silent {x = x} (o.extern e) c = keyword_silent (codes "extern") x e c
word_silent {x = x} (o.const e) c = keyword_silent (codes "const") x e c
word_silent {x = x} (o.void e) c = keyword_silent (codes "void") x e c
word_silent {x = x} (o.bool e) c = keyword_silent (codes "_Bool") x e c
word_silent {x = x} (o.char e) c = keyword_silent (codes "char") x e c
word_silent {x = x} (o.short e) c = keyword_silent (codes "short") x e c
word_silent {x = x} (o.int e) c = keyword_silent (codes "int") x e c
word_silent {x = x} (o.long e) c = keyword_silent (codes "long") x e c
word_silent {x = x} (o.signed e) c = keyword_silent (codes "signed") x e c
word_silent {x = x} (o.unsigned e) c = keyword_silent (codes "unsigned") x e c

-- ---- type names

stars : {before last : Span} {ts rest : List Lexeme} {k : ℕ} → ReadsStars before ts k last rest → AreClear (tk ts) → Silent (tk ts) (tk rest)
stars (r.star {x = x} e p) h = chain (one x (star_mild x e).semicolon h) (λ h. stars p h)
stars (r.no_star e) h = nothing h

specifiers : {d : Dialect} {has : Bool} {ts rest : List Lexeme} {all : Specifiers} → ReadsSpecifiers d has ts all rest → HaveNoList all → AreClear (tk ts) → Silent (tk ts) (tk rest)
specifiers (r.specifiers_end e) t h = nothing h
specifiers (r.word {x = x} e p) t h = chain (one x (word_silent e h.0) h) (λ h. specifiers p t.1 h)
specifiers (r.typedef_name {x = x} e p) t h = chain (one x (type_silent x e h.0) h) (λ h. specifiers p t.1 h)
specifiers (r.structure_tag {x = x} {y = y} e f v p) t h = chain (one x (keyword_silent (codes "struct") x e h.0) h) (λ h. chain (one y (tag_silent y f h.0) h) (λ h. specifiers p t.1 h))
specifiers (r.structure e f k p v q) t h = absurd t.0
specifiers (r.untagged_structure e k p v q) t h = absurd t.0
specifiers (r.enumeration_tag {x = x} {y = y} e f v p) t h = chain (one x (keyword_silent (codes "enum") x e h.0) h) (λ h. chain (one y (tag_silent y f h.0) h) (λ h. specifiers p t.1 h))
specifiers (r.enumeration e f k p v q) t h = absurd t.0
specifiers (r.untagged_enumeration e k p v q) t h = absurd t.0

type_name : {d : Dialect} {ts rest : List Lexeme} {type : TypeName} → ReadsTypeName d ts type rest → NamesNoList type → AreClear (tk ts) → Silent (tk ts) (tk rest)
type_name (r.type_name p e q) t h = chain (specifiers p t h) (λ h. stars q h)

-- ---- expressions

-- the rest of a repetition, and that the tree before it has no list
abbrev Quiet : Nonterminal → List Lexeme → Expression → List Lexeme → Type 0
Quiet (n.operations k a) ts b rest = HasNoList b → HasNoList a × (AreClear (tk ts) → Silent (tk ts) (tk rest))
Quiet (n.suffixes a) ts b rest = HasNoList b → HasNoList a × (AreClear (tk ts) → Silent (tk ts) (tk rest))
Quiet k ts a rest = HasNoList a → AreClear (tk ts) → Silent (tk ts) (tk rest)

operand_quiet : (k : Level) (ts : List Lexeme) (a : Expression) (rest : List Lexeme) → Quiet (operand k) ts a rest → HasNoList a → AreClear (tk ts) → Silent (tk ts) (tk rest)
operand_quiet n.product ts a rest h = h
operand_quiet n.sum ts a rest h = h
operand_quiet n.shift ts a rest h = h
operand_quiet n.relation ts a rest h = h
operand_quiet n.equality ts a rest h = h
operand_quiet n.bit_and ts a rest h = h
operand_quiet n.bit_xor ts a rest h = h
operand_quiet n.bit_or ts a rest h = h
operand_quiet n.land ts a rest h = h
operand_quiet n.lor ts a rest h = h

mutual
  pub quiet : {d : Dialect} {k : Nonterminal} {ts rest : List Lexeme} {a : Expression} → Reads d k ts a rest → Quiet k ts a rest
  quiet (r.comma_one p e) = λ t h. quiet p t h
  quiet (r.comma {x = x} p e q) = λ t h. chain (quiet p t.0 h) (λ h. chain (one x (comma_mild x e).semicolon h) (λ h. quiet_all q t.1 h))
  quiet (r.assign_cond p e) = λ t h. quiet p t h
  quiet (r.assign {x = x} p e q) = λ t h. chain (quiet p t.0 h) (λ h. chain (one x (assignment_mild x e).semicolon h) (λ h. quiet q t.1 h))
  quiet (r.cond_level p e) = λ t h. quiet p t h
  quiet (r.cond {x = x} {y = y} p e q f v) =
      λ t h. chain (quiet p t.0 h) (λ h. chain (one x (question_mild x e).semicolon h) (λ h. chain (quiet q t.1 h) (λ h. chain (one y (sign_silent (codes ":") y f (λ start. refl)) h) (λ h. quiet v t.2 h))))
  quiet (r.level {k = k} {ts = ts} {mid = mid} {a = a} p q) = λ t h. let later = quiet q t in chain (operand_quiet k ts a mid (quiet p) later.0 h) later.1
  quiet (r.operation {k = k} {x = x} {ts = ts} {mid = mid} {b = b} e p q) =
      λ t. let later = quiet q t in (later.0.0, λ h. chain (one x (operator_mild k x e).semicolon h) (λ h. chain (operand_quiet k ts b mid (quiet p) later.0.1 h) later.1))
  quiet (r.operations_end e) = λ t. (t, λ h. nothing h)
  quiet (r.cast_unary e p) = λ t h. quiet p t h
  quiet (r.cast {x = x} {y = y} e f p v q) =
      λ t h. chain (one x (sign_silent (codes "(") x e (λ start. refl)) h) (λ h. chain (type_name p t.0 h) (λ h. chain (one y (sign_silent (codes ")") y v (λ start. refl)) h) (λ h. quiet q t.1 h)))
  quiet (r.unary_postfix e p) = λ t h. quiet p t h
  quiet (r.prefix_step {x = x} e p) = λ t h. chain (one x (step_mild x e).semicolon h) (λ h. quiet p t h)
  quiet (r.unary {x = x} e p) = λ t h. chain (one x (unary_mild x e).semicolon h) (λ h. quiet p t h)
  quiet (r.postfix p q) = λ t h. let later = quiet q t in chain (quiet p later.0 h) later.1
  quiet (r.index {x = x} {y = y} e p f q) =
      λ t. let later = quiet q t in (later.0.0, λ h. chain (one x (sign_silent (codes "[") x e (λ start. refl)) h) (λ h. chain (quiet p later.0.1 h) (λ h. chain (one y (sign_silent (codes "]") y f (λ start. refl)) h) later.1)))
  quiet (r.member {x = x} {y = y} e f q) =
      λ t. let later = quiet q t in (later.0, λ h. chain (one x (member_mild x e).semicolon h) (λ h. chain (one y (name_silent y f h.0) h) later.1))
  quiet (r.postfix_step {x = x} e q) = λ t. let later = quiet q t in (later.0, λ h. chain (one x (step_mild x e).semicolon h) later.1)
  quiet (r.suffixes_end e) = λ t. (t, λ h. nothing h)
  quiet (r.named {x = x} e f) = λ t h. one x (name_silent x e h.0) h
  quiet (r.constant {x = x} e) = λ t h. one x (h.0.semicolon (rw e refl)) h
  quiet (r.character {x = x} e) = λ t h. one x (h.0.semicolon (rw e refl)) h
  quiet (r.parenthesized {x = x} {y = y} e f p v) =
      λ t h. chain (one x (sign_silent (codes "(") x e (λ start. refl)) h) (λ h. chain (quiet p t h) (λ h. one y (sign_silent (codes ")") y v (λ start. refl)) h))
  quiet (r.call_empty {x = x} {y = y} {z = z} e f v) =
      λ t h. chain (one x (name_silent x e h.0) h) (λ h. chain (one y (sign_silent (codes "(") y f (λ start. refl)) h) (λ h. one z (sign_silent (codes ")") z v (λ start. refl)) h))
  quiet (r.call {x = x} {y = y} {z = z} e f v p u) =
      λ t h. chain (one x (name_silent x e h.0) h) (λ h. chain (one y (sign_silent (codes "(") y f (λ start. refl)) h) (λ h. chain (quiet_all p t h) (λ h. one z (sign_silent (codes ")") z u (λ start. refl)) h)))

  quiet_all : {d : Dialect} {ts rest : List Lexeme} {all : Expressions} → ReadsExpressions d ts all rest → GivesNoList all → AreClear (tk ts) → Silent (tk ts) (tk rest)
  quiet_all (r.last_expression p e) t h = quiet p t.0 h
  quiet_all (r.more_expressions {x = x} p e q) t h = chain (quiet p t.0 h) (λ h. chain (one x (comma_mild x e).semicolon h) (λ h. quiet_all q t.1 h))
