-- Declarations and statements fit where they stand: one case for each alternative of a production.
use Rattle.std.proofs.Common.{◌≡◌, ℕ, Bool, true, false, List, [], ◌∷◌, ◌++◌, Option, Some, None, refl, sym, ap, ◌∙◌, subst, codes}
use Rattle.std.specs.List.{list_any}
use Rattle.std.proofs.lemmas.List.{append_cancel_right}
use Rattle.mc_span.specs.declared.span.Span.{Span}
use Rattle.mc_lex.specs.declared.token.Dialect.{Dialect}
use Rattle.mc_lex.specs.Tokens.{Tok}
use Rattle.mc_lex.specs.Words.{one_of}
use Rattle.mc_tree.specs.Tree.{Expression, Specifiers, Initializer, Initializers, InitDeclarator, Declaration, ForStart, Statement, BlockItems, Item, span_of, span_of_statement}
use Rattle.mc_tree.specs.Tree as t
use Rattle.mc_grammar.specs.Words.{Lexeme, is_keyword, is_punctuator, lexemes_of}
use Rattle.mc_grammar.specs.Places.{at as place_at, name_at, to}
use Rattle.mc_grammar.specs.Extent.{span_of_declaration}
use Rattle.mc_grammar.specs.Statements.{ReadsOptional, ReadsTest, ReadsInitializer, ReadsInitializers, ReadsInitDeclarator, ReadsInitDeclarators, ReadsDeclaration, ReadsForStart, ReadsStatement, ReadsCompound, ReadsBlockItems}
use Rattle.mc_grammar.specs.Statements as g
use Rattle.mc_grammar.specs.Items.{ReadsItem, ReadsUnit, IsTree}
use Rattle.mc_grammar.specs.Items as i
use Rattle.reread_law_texts.proofs.Weave.Next.{of_sign}
use Rattle.reread_pieces.specs.Words.{is, is_name, begins_declaration}
use Rattle.reread_law_texts.specs.alike.Moves.{end_of}
use Rattle.reread_law_rows.specs.inserted.Fits.{StartsAt, IsStatementAmong}
use Rattle.reread_law_rows.specs.fitting.Fitting.{FitsIn, FitsInOptional, FitsInInitializer, FitInInitializers, FitInObjects, FitsInDeclaration, FitsAsLocal, FitsInStart, FitsInStatement, FitInBlock, FitsInItem, FitInUnit}
use Rattle.reread_law_rows.proofs.Fitting.Words.{Clear, AreClear}
use Rattle.reread_law_rows.proofs.Fitting.Sections.{Section, empty, token, join, put, add, enclosed, are_round, are_curly, semicolon_free, colon_free, comma_mild, equals_mild, keyword_free, name_free, keyword_kind}
use Rattle.reread_law_rows.proofs.Fitting.Balance.{stars, specifiers, declarator, parameters}
use Rattle.reread_law_rows.proofs.Fitting.Spots.{At, Spot, at, next, after, over, stands, sign_name, last_snoc, starts_append, ends_last}
use Rattle.reread_law_rows.proofs.Fitting.FitExpressions.{fit}
use Rattle.reread_law_rows.proofs.Fitting.Begins.{calm, semicolon_wordless, statement_words, quiet_first, keyword_first, declaration_first, inits_wordy}
use Rattle.reread_law_rows.proofs.Fitting.Profile.{BeginsPlain, IsAllowed, AreAllowed, IsAllowedItem, AreAllowedItems}
use Rattle.reread_law_rows.proofs.Fitting.Silent.{quiet}
use Rattle.reread_law_rows.proofs.Fitting.Endings.{Ending, ending_append, ending_sign, after_ending, sign_colon, is_sign, is_word, keyword_name, starts_by, first_by, brace_first}
use Rattle.reread_law_texts.proofs.Tokens.{tk, after_tokens}

-- ---- signs

semicolon_ends : (xs : List Tok) (y : Lexeme) → is_punctuator (codes ";") y ≡ true → Ending (end_of y.token) (xs ++ y.token ∷ [])
semicolon_ends xs y e = ending_sign xs y.token (sign_name (codes ";") y e refl) (sign_colon (codes ";") y e refl)

round_ends : (xs : List Tok) (y : Lexeme) → is_punctuator (codes ")") y ≡ true → Ending (end_of y.token) (xs ++ y.token ∷ [])
round_ends xs y e = ending_sign xs y.token (sign_name (codes ")") y e refl) (sign_colon (codes ")") y e refl)

curly_ends : (xs : List Tok) (y : Lexeme) → is_punctuator (codes "}") y ≡ true → Ending (end_of y.token) (xs ++ y.token ∷ [])
curly_ends xs y e = ending_sign xs y.token (sign_name (codes "}") y e refl) (sign_colon (codes "}") y e refl)

-- ---- declarations

record Initial (tokens from rest : List Tok) (one : Initializer) : Type 0 where
  inside : List Tok
  section : Section from inside rest
  fits : FitsInInitializer tokens one

record Initials (tokens from rest : List Tok) (all : Initializers) : Type 0 where
  inside : List Tok
  section : Section from inside rest
  fits : FitInInitializers tokens all

mutual
  fit_initializer : (tokens : List Tok) {d : Dialect} {ts rest : List Lexeme} {one : Initializer} → ReadsInitializer d ts one rest → Spot tokens (tk ts) → AreClear (tk ts) → Initial tokens (tk ts) (tk rest) one
  fit_initializer tokens (g.single e p) s h = let only = fit tokens p s h in record { inside = only.inside; section = only.section; fits = only.fits }
  fit_initializer tokens (g.braced {x = x} {y = y} e p f) s h =
      let all = fit_initializers tokens p (after (at s) (sign_name (codes "{") x e refl)) h.1 in
      record { inside = x.token ∷ all.inside ++ y.token ∷ []; section = enclosed x.token y.token (are_curly x y e f) all.section; fits = all.fits }

  fit_initializers : (tokens : List Tok) {d : Dialect} {ts rest : List Lexeme} {all : Initializers} → ReadsInitializers d ts all rest → Spot tokens (tk ts) → AreClear (tk ts) → Initials tokens (tk ts) (tk rest) all
  fit_initializers tokens (g.last_initializer p e) s h =
      let only = fit_initializer tokens p s h in
      record { inside = only.inside; section = only.section; fits = (only.fits, tt) }
  fit_initializers tokens (g.last_initializer_comma {x = x} p e f) s h =
      let only = fit_initializer tokens p s h in
      record { inside = only.inside ++ x.token ∷ []; section = add x.token (comma_mild x e).bracket only.section; fits = (only.fits, tt) }
  fit_initializers tokens (g.more_initializers {x = x} p e f q) s h =
      let first = fit_initializer tokens p s h in
      let others = fit_initializers tokens q (after (over (at s) first.section) (comma_mild x e).name) first.section.clear.1 in
      record { inside = first.inside ++ x.token ∷ others.inside; section = join first.section (put x.token (comma_mild x e).bracket others.section); fits = (first.fits, others.fits) }

abbrev FitsObject : List Tok → InitDeclarator → Type 0
FitsObject tokens (t.bare d) = Unit {0}
FitsObject tokens (t.initialized d value) = FitsInInitializer tokens value

one_more : (tokens : List Tok) (one : InitDeclarator) (others : List InitDeclarator) → FitsObject tokens one → FitInObjects tokens others → FitInObjects tokens (one ∷ others)
one_more tokens (t.bare d) others h k = k
one_more tokens (t.initialized d value) others h k = (h, k)

record Object (tokens from rest : List Tok) (one : InitDeclarator) : Type 0 where
  inside : List Tok
  section : Section from inside rest
  fits : FitsObject tokens one

fit_init_declarator : (tokens : List Tok) {d : Dialect} {typedef : Bool} {ts rest : List Lexeme} {one : InitDeclarator} → ReadsInitDeclarator d typedef ts one rest → At tokens (tk ts) → AreClear (tk ts) → Object tokens (tk ts) (tk rest) one
fit_init_declarator tokens {typedef = typedef} {ts = ts} (g.bare {mid = mid} {d = one} p e) s h =
    let name = declarator p h in
    record { inside = name.inside; section = subst (λ us. Section (tk ts) name.inside us) (sym (after_tokens typedef one mid)) name.is; fits = tt }
fit_init_declarator tokens {typedef = typedef} {ts = ts} (g.initialized {x = x} {mid = mid} {value = value} {d = one} p k e q) s h =
    let name = declarator p h in
    let section : Section (tk ts) name.inside (x.token ∷ tk value) = subst (λ us. Section (tk ts) name.inside us) (sym (after_tokens typedef one mid) ∙ ap tk k) name.is in
    let initial = fit_initializer tokens q (after (over s section) (equals_mild x e).name) section.clear.1 in
    record { inside = name.inside ++ x.token ∷ initial.inside; section = join section (put x.token (equals_mild x e).bracket initial.section); fits = initial.fits }

record Objects (tokens from rest : List Tok) (all : List InitDeclarator) : Type 0 where
  inside : List Tok
  section : Section from inside rest
  fits : FitInObjects tokens all

fit_init_declarators : (tokens : List Tok) {d : Dialect} {typedef : Bool} {ts rest : List Lexeme} {all : List InitDeclarator} → ReadsInitDeclarators d typedef ts all rest → At tokens (tk ts) → AreClear (tk ts) → Objects tokens (tk ts) (tk rest) all
fit_init_declarators tokens (g.no_init_declarator e) s h = record { inside = []; section = empty h; fits = tt }
fit_init_declarators tokens (g.last_init_declarator {i = one} p e) s h =
    let only = fit_init_declarator tokens p s h in
    record { inside = only.inside; section = only.section; fits = one_more tokens one [] only.fits tt }
fit_init_declarators tokens (g.more_init_declarators {x = x} {i = one} {all = all} p e f q) s h =
    let first = fit_init_declarator tokens p s h in
    let others = fit_init_declarators tokens q (next (over s first.section)) first.section.clear.1 in
    record {
      inside = first.inside ++ x.token ∷ others.inside;
      section = join first.section (put x.token (comma_mild x e).bracket others.section);
      fits = one_more tokens one all first.fits others.fits;
    }

record Declared (tokens from rest : List Tok) (d : Declaration) : Type 0 where
  inside : List Tok
  section : Section from inside rest
  start : StartsAt (span_of_declaration d).start inside
  ending : Ending (span_of_declaration d).end inside
  fits : FitsInDeclaration tokens d

fit_declaration : (tokens : List Tok) {d : Dialect} {typedef : Bool} {allowed : Specifiers → Bool} {ts rest : List Lexeme} {one : Declaration} → ReadsDeclaration d typedef allowed ts one rest → At tokens (tk ts) → AreClear (tk ts)
    → Declared tokens (tk ts) (tk rest) one
fit_declaration tokens (g.declaration {x = x} {y = y} {ts = ts} {rest = rest} e p f q v) s h =
    let words = specifiers p h in
    let objects = fit_init_declarators tokens q (over s words.is) words.is.clear in
    let inside = (words.inside ++ objects.inside) ++ y.token ∷ [] in
    let section : Section (x.token ∷ tk ts) inside (tk rest) = add y.token (semicolon_free y v) (join words.is objects.section) in
    let ending : Ending (end_of y.token) inside = semicolon_ends (words.inside ++ objects.inside) y v in
    record { inside = inside; section = section; start = starts_by (end_of y.token) section ending.end; ending = ending; fits = objects.fits }

fit_local : (tokens : List Tok) {d : Dialect} {typedef : Bool} {allowed : Specifiers → Bool} {ts rest : List Lexeme} {one : Declaration} → ReadsDeclaration d typedef allowed ts one rest → BeginsPlain one → At tokens (tk ts)
    → Declared tokens (tk ts) (tk rest) one → FitsAsLocal tokens one
fit_local tokens (g.declaration {all = []} e p f q v) z s made = tt
fit_local tokens (g.declaration {x = x} {y = y} {all = one ∷ others} e p f q v) z s made =
    record {
      place = stands (to (place_at x) (place_at y)) s made.section made.start made.ending.end;
      begins = subst (λ us. begins_declaration us ≡ true) made.section.all (declaration_first e p (inits_wordy q z));
    }

-- ---- parts of statements

record Given (tokens from rest : List Tok) (a : Option Expression) : Type 0 where
  inside : List Tok
  section : Section from inside rest
  fits : FitsInOptional tokens a

fit_optional : (tokens : List Tok) {d : Dialect} {stop : List ℕ} {ts rest : List Lexeme} {a : Option Expression} → ReadsOptional d stop ts a rest → Spot tokens (tk ts) → AreClear (tk ts) → Given tokens (tk ts) (tk rest) a
fit_optional tokens (g.no_expression e) s h = record { inside = []; section = empty h; fits = tt }
fit_optional tokens (g.an_expression e p) s h = let only = fit tokens p s h in record { inside = only.inside; section = only.section; fits = only.fits }

record Tested (tokens from rest : List Tok) (a : Expression) : Type 0 where
  inside : List Tok
  section : Section from inside rest
  end : ℕ
  ending : Ending end inside
  fits : FitsIn tokens a

fit_test : (tokens : List Tok) {d : Dialect} {ts rest : List Lexeme} {a : Expression} → ReadsTest d ts a rest → At tokens (tk ts) → AreClear (tk ts) → Tested tokens (tk ts) (tk rest) a
fit_test tokens (g.test {x = x} {y = y} e p f) s h =
    let inner = fit tokens p (after s (sign_name (codes "(") x e refl)) h.1 in
    record {
      inside = x.token ∷ inner.inside ++ y.token ∷ [];
      section = enclosed x.token y.token (are_round x y e f) inner.section;
      end = end_of y.token;
      ending = round_ends (x.token ∷ inner.inside) y f;
      fits = inner.fits;
    }

record Begun (tokens from rest : List Tok) (start : ForStart) : Type 0 where
  inside : List Tok
  section : Section from inside rest
  end : ℕ
  ending : Ending end inside
  fits : FitsInStart tokens start

fit_start : (tokens : List Tok) {d : Dialect} {ts rest : List Lexeme} {start : ForStart} → ReadsForStart d ts start rest → Spot tokens (tk ts) → AreClear (tk ts) → Begun tokens (tk ts) (tk rest) start
fit_start tokens (g.starts_local {d = one} p) s h =
    let made = fit_declaration tokens p (at s) h in
    record { inside = made.inside; section = made.section; end = (span_of_declaration one).end; ending = made.ending; fits = made.fits }
fit_start tokens (g.starts_expression {y = y} e p f) s h =
    let first = fit_optional tokens p s h in
    record {
      inside = first.inside ++ y.token ∷ [];
      section = add y.token (semicolon_free y f) first.section;
      end = end_of y.token;
      ending = semicolon_ends first.inside y f;
      fits = first.fits;
    }

-- ---- statements

record Stated (tokens from rest : List Tok) (a : Statement) : Type 0 where
  inside : List Tok
  section : Section from inside rest
  start : StartsAt (span_of_statement a).start inside
  ending : Ending (span_of_statement a).end inside
  fits : FitsInStatement tokens a

record Blocked (tokens from rest : List Tok) (b : BlockItems) (span : Span) : Type 0 where
  inside : List Tok
  section : Section from inside rest
  start : StartsAt span.start inside
  ending : Ending span.end inside
  fits : FitInBlock tokens b

record Items (tokens from rest : List Tok) (b : BlockItems) : Type 0 where
  inside : List Tok
  section : Section from inside rest
  fits : FitInBlock tokens b

-- a statement that begins with a word
worded : {tokens us i rest : List Tok} (a : Statement) (text : List ℕ) (x : Lexeme) → is_keyword text x ≡ true → one_of statement_words text ≡ true → Spot tokens (x.token ∷ us) → Clear x.token → Section us i rest
    → (span_of_statement a).start ≡ x.token.start → Ending (span_of_statement a).end (x.token ∷ i) → (IsStatementAmong tokens (span_of_statement a) → FitsInStatement tokens a) → Stated tokens (x.token ∷ us) rest a
worded {us = us} {i = i} {rest = rest} a text x e f s c p same ending fits =
    let section : Section (x.token ∷ us) (x.token ∷ i) rest = put x.token (keyword_free text x e c) p in
    record {
      inside = x.token ∷ i;
      section = section;
      start = sym same;
      ending = ending;
      fits = fits (record {
        place = stands (span_of_statement a) (at s) section (sym same) ending.end;
        balanced = section.balanced;
        brace = c.brace (keyword_kind text x e);
        declaration = subst (λ us. begins_declaration us ≡ false) section.all (keyword_first text x us e f);
      });
    }

null_brace : (y : Lexeme) → is_punctuator (codes ";") y ≡ true → is (codes "{") y.token ≡ false
null_brace y e = of_sign (λ y. is (codes "{") y.token ≡ false) (codes ";") y e (λ start mark. refl)

colon_name : (y : Lexeme) → is_punctuator (codes ":") y ≡ true → is_name y.token ≡ false
colon_name y e = sign_name (codes ":") y e refl

mutual
  fit_statement : (tokens : List Tok) {d : Dialect} {ts rest : List Lexeme} {a : Statement} → ReadsStatement d ts a rest → IsAllowed a → Spot tokens (tk ts) → AreClear (tk ts) → Stated tokens (tk ts) (tk rest) a
  fit_statement tokens (g.compound p) ok s h =
      let block = fit_compound tokens p ok (at s) h in
      record { inside = block.inside; section = block.section; start = block.start; ending = block.ending; fits = block.fits }
  fit_statement tokens (g.null {y = y} {rest = rest} e) ok s h =
      let section : Section (y.token ∷ tk rest) (y.token ∷ []) (tk rest) = token y.token (semicolon_free y e) h in
      let ending : Ending (end_of y.token) (y.token ∷ []) = semicolon_ends [] y e in
      let words = semicolon_wordless y e in
      record {
        inside = y.token ∷ [];
        section = section;
        start = refl;
        ending = ending;
        fits = record {
          place = stands (place_at y) (at s) section refl ending.end;
          balanced = section.balanced;
          brace = null_brace y e;
          declaration = quiet_first y.token (tk rest) words.1 words.0;
        };
      }
  fit_statement tokens (g.expression_statement {y = y} {ts = ts} {rest = rest} {a = a} e f p v) ok s h =
      let value = fit tokens p s h in
      let inside = value.inside ++ y.token ∷ [] in
      let section : Section (tk ts) inside (tk rest) = add y.token (semicolon_free y v) value.section in
      let ending : Ending (end_of y.token) inside = semicolon_ends value.inside y v in
      let start : StartsAt (span_of a).start inside = starts_append (span_of a).start value.inside (y.token ∷ []) value.start in
      record {
        inside = inside;
        section = section;
        start = start;
        ending = ending;
        fits = (
          record {
            place = stands (to (span_of a) (place_at y)) (at s) section start ending.end;
            balanced = section.balanced;
            brace = sym (first_by (codes "{") (end_of y.token) section ending.end) ∙ brace_first p h;
            declaration = subst (λ us. begins_declaration us ≡ false) section.all (calm p h (semicolon_wordless y v));
          },
          value.fits,
        );
      }
  fit_statement tokens (g.if_only {x = x} {a = a} {s = inner} e p q f) ok s h =
      let test = fit_test tokens p (next (at s)) h.1 in
      let body = fit_statement tokens q ok (after_ending test.end (next (at s)) test.section test.ending) test.section.clear in
      let span = to (place_at x) (span_of_statement inner) in
      worded (t.If a inner span) (codes "if") x e refl s h.0 (join test.section body.section) refl (ending_append span.end (x.token ∷ test.inside) body.inside body.ending) (λ o. (o, test.fits, body.fits))
  fit_statement tokens (g.if_else {x = x} {y = y} {a = a} {s = one} {u = other} e p q f v) ok s h =
      let test = fit_test tokens p (next (at s)) h.1 in
      let first = fit_statement tokens q ok.0 (after_ending test.end (next (at s)) test.section test.ending) test.section.clear in
      let second = fit_statement tokens v ok.1 (after (over (over (next (at s)) test.section) first.section) (keyword_name (codes "else") y f refl)) first.section.clear.1 in
      let span = to (place_at x) (span_of_statement other) in
      worded (t.IfElse a one other span) (codes "if") x e refl s h.0 (join test.section (join first.section (put y.token (keyword_free (codes "else") y f first.section.clear.0) second.section))) refl
      (ending_append span.end (x.token ∷ test.inside) (first.inside ++ y.token ∷ second.inside)
      (ending_append span.end first.inside (y.token ∷ second.inside) (ending_append span.end (y.token ∷ []) second.inside second.ending))) (λ o. (o, test.fits, first.fits, second.fits))
  fit_statement tokens (g.switch {x = x} {ts = ts} {rest = rest} {a = a} {s = inner} e p q) ok s h =
      let test = fit_test tokens p (next (at s)) h.1 in
      let body = fit_statement tokens q ok (after_ending test.end (next (at s)) test.section test.ending) test.section.clear in
      let span = to (place_at x) (span_of_statement inner) in
      let whole : Section (tk ts) (test.inside ++ body.inside) (tk rest) = join test.section body.section in
      let ending : Ending span.end (x.token ∷ test.inside ++ body.inside) = ending_append span.end (x.token ∷ test.inside) body.inside body.ending in
      worded (t.Switch a inner span) (codes "switch") x e refl s h.0 whole refl ending
      (λ o. (o, record { place = stands span (at s) (put x.token (keyword_free (codes "switch") x e h.0) whole) refl ending.end; end = ending.colon }, test.fits, body.fits))
  fit_statement tokens (g.while {x = x} {a = a} {s = inner} e p q) ok s h =
      let test = fit_test tokens p (next (at s)) h.1 in
      let body = fit_statement tokens q ok (after_ending test.end (next (at s)) test.section test.ending) test.section.clear in
      let span = to (place_at x) (span_of_statement inner) in
      worded (t.While a inner span) (codes "while") x e refl s h.0 (join test.section body.section) refl (ending_append span.end (x.token ∷ test.inside) body.inside body.ending) (λ o. (o, test.fits, body.fits))
  fit_statement tokens (g.do_while {x = x} {y = y} {z = z} {a = a} {s = inner} e p f q v) ok s h =
      let body = fit_statement tokens p ok (after (at s) (keyword_name (codes "do") x e refl)) h.1 in
      let test = fit_test tokens q (next (over (next (at s)) body.section)) body.section.clear.1 in
      let span = to (place_at x) (place_at z) in
      worded (t.DoWhile inner a span) (codes "do") x e refl s h.0
      (join body.section (put y.token (keyword_free (codes "while") y f body.section.clear.0) (add z.token (semicolon_free z v) test.section))) refl
      (ending_append span.end (x.token ∷ body.inside) (y.token ∷ test.inside ++ z.token ∷ []) (semicolon_ends (y.token ∷ test.inside) z v)) (λ o. (o, body.fits, test.fits))
  fit_statement tokens (g.for {x = x} {y = y} {z = z} {v = close} {start = start} {a = a} {b = b} {s = inner} e f p q k m v u) ok s h =
      let at_y = next (at s) in
      let spot = after at_y (sign_name (codes "(") y f refl) in
      let first = fit_start tokens p spot h.1.1 in
      let second = fit_optional tokens q (after_ending first.end (at spot) first.section first.ending) first.section.clear in
      let at_z = over (over (at spot) first.section) second.section in
      let third = fit_optional tokens m (after at_z (sign_name (codes ";") z k refl)) second.section.clear.1 in
      let at_close = over (next at_z) third.section in
      let body = fit_statement tokens u ok (after at_close (sign_name (codes ")") close v refl)) third.section.clear.1 in
      let span = to (place_at x) (span_of_statement inner) in
      let parts = first.inside ++ (second.inside ++ z.token ∷ third.inside) in
      worded (t.For start a b inner span) (codes "for") x e refl s h.0
      (join (enclosed y.token close.token (are_round y close f v) (join first.section (join second.section (put z.token (semicolon_free z k) third.section)))) body.section) refl
      (ending_append span.end (x.token ∷ y.token ∷ parts ++ close.token ∷ []) body.inside body.ending) (λ o. (o, first.fits, second.fits, third.fits, body.fits))
  fit_statement tokens (g.case_label {x = x} {y = y} {ts = ts} {mid = mid} {a = a} {s = inner} e p f q) ok s h =
      let value = fit tokens p (after (at s) (keyword_name (codes "case") x e refl)) h.1 in
      let inside = x.token ∷ value.inside ++ y.token ∷ [] in
      let label : Section (x.token ∷ tk ts) inside (tk mid) = put x.token (keyword_free (codes "case") x e h.0) (add y.token (colon_free y f) value.section) in
      let body = fit_statement tokens q ok (after (over (next (at s)) value.section) (colon_name y f)) value.section.clear.1 in
      let span = to (place_at x) (span_of_statement inner) in
      record {
        inside = inside ++ body.inside;
        section = join label body.section;
        start = refl;
        ending = ending_append span.end inside body.inside body.ending;
        fits = (
          record {
            place = stands (to (place_at x) (place_at y)) (at s) label refl (ends_last (x.token ∷ value.inside) y.token);
            colon = last_snoc (is (codes ":")) (x.token ∷ value.inside) y.token ∙ is_sign (codes ":") y f;
          },
          body.fits,
        );
      }
  fit_statement tokens (g.default {x = x} {y = y} {ts = ts} {s = inner} e f p) ok s h =
      let inside = x.token ∷ y.token ∷ [] in
      let label : Section (x.token ∷ y.token ∷ tk ts) inside (tk ts) = put x.token (keyword_free (codes "default") x e h.0) (token y.token (colon_free y f) h.1) in
      let body = fit_statement tokens p ok (after (next (at s)) (colon_name y f)) h.1.1 in
      let span = to (place_at x) (span_of_statement inner) in
      record {
        inside = inside ++ body.inside;
        section = join label body.section;
        start = refl;
        ending = ending_append span.end inside body.inside body.ending;
        fits = (record { place = stands (to (place_at x) (place_at y)) (at s) label refl refl; colon = is_sign (codes ":") y f }, body.fits);
      }
  fit_statement tokens (g.label {x = x} {y = y} {ts = ts} {s = inner} e f p) ok s h =
      let inside = x.token ∷ y.token ∷ [] in
      let label : Section (x.token ∷ y.token ∷ tk ts) inside (tk ts) = put x.token (name_free x e h.0) (token y.token (colon_free y f) h.1) in
      let body = fit_statement tokens p ok (after (next (at s)) (colon_name y f)) h.1.1 in
      let span = to (place_at x) (span_of_statement inner) in
      record {
        inside = inside ++ body.inside;
        section = join label body.section;
        start = refl;
        ending = ending_append span.end inside body.inside body.ending;
        fits = body.fits;
      }
  fit_statement tokens (g.goto {x = x} {y = y} {z = z} e f v) ok s h =
      worded (t.Goto (name_at y) (to (place_at x) (place_at z))) (codes "goto") x e refl s h.0 (put y.token (name_free y f h.1.0) (token z.token (semicolon_free z v) h.1.1)) refl
      (semicolon_ends (x.token ∷ y.token ∷ []) z v) (λ o. o)
  fit_statement tokens (g.continue {x = x} {y = y} e f) ok s h =
      worded (t.Continue (to (place_at x) (place_at y))) (codes "continue") x e refl s h.0 (token y.token (semicolon_free y f) h.1) refl (semicolon_ends (x.token ∷ []) y f) (λ o. o)
  fit_statement tokens (g.break {x = x} {y = y} e f) ok s h =
      worded (t.Break (to (place_at x) (place_at y))) (codes "break") x e refl s h.0 (token y.token (semicolon_free y f) h.1) refl (semicolon_ends (x.token ∷ []) y f) (λ o. o)
  fit_statement tokens (g.return {x = x} {y = y} {rest = rest} e (g.no_expression k) f) ok s h =
      let span = to (place_at x) (place_at y) in
      let p : Section (y.token ∷ tk rest) (y.token ∷ []) (tk rest) = token y.token (semicolon_free y f) h.1 in
      worded (t.Return None span) (codes "return") x e refl s h.0 p refl (semicolon_ends (x.token ∷ []) y f)
      (λ o. (
        o,
        record {
          place = stands span (at s) (put x.token (keyword_free (codes "return") x e h.0) p) refl refl;
          word = x.token;
          semicolon = y.token;
          tokens_are = refl;
          word_is = is_word (codes "return") x e;
          semicolon_is = is_sign (codes ";") y f;
        },
      ))
  fit_statement tokens (g.return {x = x} {y = y} {ts = ts} {rest = rest} e (g.an_expression {a = a} k p) f) ok s h =
      let span = to (place_at x) (place_at y) in
      let value = fit tokens p (after (at s) (keyword_name (codes "return") x e refl)) h.1 in
      let whole : Section (tk ts) (value.inside ++ y.token ∷ []) (tk rest) = add y.token (semicolon_free y f) value.section in
      let silent = quiet p ok h.1 in
      let same : value.inside ≡ silent.inside = append_cancel_right value.inside silent.inside (y.token ∷ tk rest) (sym value.section.all ∙ silent.all) in
      let ending : Ending (end_of y.token) (x.token ∷ value.inside ++ y.token ∷ []) = semicolon_ends (x.token ∷ value.inside) y f in
      worded (t.Return (Some a) span) (codes "return") x e refl s h.0 whole refl ending
      (λ o. (
        o,
        record {
          value = value.inside;
          stands = record {
            place = stands span (at s) (put x.token (keyword_free (codes "return") x e h.0) whole) refl ending.end;
            word = x.token;
            semicolon = y.token;
            tokens_are = refl;
            word_is = is_word (codes "return") x e;
            semicolon_is = is_sign (codes ";") y f;
          };
          balanced = value.section.balanced;
          one = ap (list_any (is (codes ";"))) same ∙ silent.silent;
        },
        value.fits,
      ))

  fit_compound : (tokens : List Tok) {d : Dialect} {span : Span} {ts rest : List Lexeme} {b : BlockItems} → ReadsCompound d ts b span rest → AreAllowed b → At tokens (tk ts) → AreClear (tk ts) → Blocked tokens (tk ts) (tk rest) b span
  fit_compound tokens (g.block {x = x} {y = y} e p f) ok s h =
      let items = fit_block tokens p ok (after s (sign_name (codes "{") x e refl)) h.1 in
      record {
        inside = x.token ∷ items.inside ++ y.token ∷ [];
        section = enclosed x.token y.token (are_curly x y e f) items.section;
        start = refl;
        ending = curly_ends (x.token ∷ items.inside) y f;
        fits = items.fits;
      }

  fit_block : (tokens : List Tok) {d : Dialect} {ts rest : List Lexeme} {b : BlockItems} → ReadsBlockItems d ts b rest → AreAllowed b → Spot tokens (tk ts) → AreClear (tk ts) → Items tokens (tk ts) (tk rest) b
  fit_block tokens (g.block_end e) ok s h = record { inside = []; section = empty h; fits = tt }
  fit_block tokens (g.local {d = one} e p q) ok s h =
      let made = fit_declaration tokens p (at s) h in
      let others = fit_block tokens q ok.1 (after_ending (span_of_declaration one).end (at s) made.section made.ending) made.section.clear in
      record { inside = made.inside ++ others.inside; section = join made.section others.section; fits = (fit_local tokens p ok.0 (at s) made, made.fits, others.fits) }
  fit_block tokens (g.statement {s = one} e f p q) ok s h =
      let made = fit_statement tokens p ok.0 s h in
      let others = fit_block tokens q ok.1 (after_ending (span_of_statement one).end (at s) made.section made.ending) made.section.clear in
      record { inside = made.inside ++ others.inside; section = join made.section others.section; fits = (made.fits, others.fits) }

-- ---- items

record Placed (tokens from rest : List Tok) (one : Item) : Type 0 where
  inside : List Tok
  section : Section from inside rest
  fits : FitsInItem tokens one

fit_item : (tokens : List Tok) {d : Dialect} {ts rest : List Lexeme} {one : Item} → ReadsItem d ts one rest → IsAllowedItem one → At tokens (tk ts) → AreClear (tk ts) → Placed tokens (tk ts) (tk rest) one
fit_item tokens (i.declared p) ok s h = let made = fit_declaration tokens p s h in record { inside = made.inside; section = made.section; fits = tt }
fit_item tokens (i.defined {z = z} p e q f v c) ok s h =
    let words = specifiers p h in
    let pointers = stars q words.is.clear in
    let at_z = over (over s words.is) pointers.is in
    let given = parameters v pointers.is.clear.1 in
    let body = fit_compound tokens c ok (over (next at_z) given.is) given.is.clear in
    record {
      inside = words.inside ++ (pointers.inside ++ z.token ∷ (given.inside ++ body.inside));
      section = join words.is (join pointers.is (put z.token (name_free z f pointers.is.clear.0) (join given.is body.section)));
      fits = body.fits;
    }

fit_unit : (tokens : List Tok) {d : Dialect} {ts : List Lexeme} {unit : List Item} → ReadsUnit d ts unit → AreAllowedItems unit → At tokens (tk ts) → AreClear (tk ts) → FitInUnit tokens unit
fit_unit tokens i.no_items ok s h = tt
fit_unit tokens (i.item p q) ok s h =
    let made = fit_item tokens p ok.0 s h in
    (made.fits, fit_unit tokens q ok.1 (over s made.section) made.section.clear)

same_tokens : (tokens : List Tok) → tokens ≡ tk (lexemes_of tokens)
same_tokens [] = refl
same_tokens (x ∷ tokens) = ap (λ us. x ∷ us) (same_tokens tokens)

pub fit_text : {d : Dialect} (tokens : List Tok) (unit : List Item) → AreClear tokens → IsTree d tokens unit → AreAllowedItems unit → FitInUnit tokens unit
fit_text tokens unit h p ok = fit_unit tokens p ok (record { before = []; all = same_tokens tokens }) (subst (λ us. AreClear us) (same_tokens tokens) h)
