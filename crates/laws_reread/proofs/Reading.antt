-- In a text the parts of statements begin where they should: one case for each alternative of a
-- production.
use Rattle.std.proofs.Common.{◌≡◌, ◌≤◌, ◌<◌, ◌+◌, ℕ, Bool, true, false, ◌&&◌, List, [], ◌∷◌, ◌++◌, length, Option, codes, refl, sym, ap, subst, ◌∙◌, true≢false, arith}
use Rattle.std.specs.Str.{bytes_eq}
use Rattle.mc_span.specs.declared.span.Span.{Span}
use Rattle.mc_lex.specs.declared.token.Dialect.{Dialect}
use Rattle.mc_lex.specs.Tokens.{Tok}
use Rattle.mc_tree.specs.Tree.{Expression, Initializer, Initializers, InitDeclarator, Declaration, Specifiers, Statement, BlockItems, Item, span_of_statement}
use Rattle.mc_grammar.specs.Words.{Lexeme, is_punctuator, is_punctuator_kind, begins_specifiers}
use Rattle.mc_grammar.specs.Expressions.{ReadsStars}
use Rattle.mc_grammar.specs.Expressions as r
use Rattle.mc_grammar.specs.Statements.{ReadsOptional, ReadsTest, ReadsInitializer, ReadsInitializers, ReadsInitDeclarator, ReadsInitDeclarators, ReadsDeclaration, ReadsStatement, ReadsCompound, ReadsBlockItems, after}
use Rattle.mc_grammar.specs.Statements as g
use Rattle.mc_grammar.specs.Items.{ReadsItem}
use Rattle.mc_grammar.specs.Spelling.{Spelled, Spells}
use Rattle.mc_grammar.specs.Spelling as spelling
use Rattle.mc_grammar.proofs.Spelling.{spells, specifiers_spell, declarator_spells, declaration_spells, start_spells, statement_spells, item_spells}
use Rattle.mc_grammar.proofs.Storage.{local_typedef}
use Rattle.reread_law_texts.proofs.Weave.Next.{of_sign}
use Rattle.reread_law_texts.specs.alike.Moves.{FollowFrom, end_of}
use Rattle.reread_law_texts.proofs.Apart.ApartExpressions.{apart}
use Rattle.reread_law_printed.specs.placed.Separate.{HasTwoBefore}
use Rattle.laws_reread.proofs.Ready.{le, less, same}
use Rattle.laws_reread.proofs.Laid.{FirstFrom, FirstOf, IsFar, AreFar, IsFarIn, IsLaid, AreLaid}
use Rattle.reread_law_texts.proofs.Tokens.{tk, retag_tokens, after_tokens}

-- ---- bytes

pub grows : {c : ℕ} (x : Lexeme) → c ≤ x.token.start → c ≤ end_of x.token
grows {c = c} x h = later c x.token.start (length x.token.text) h
  where
    later : (c s k : ℕ) → c ≤ s → c ≤ s + k
    later c s k h = omega (arith, h)

-- from the end of one part over a token
over : {c e : ℕ} (x : Lexeme) → c ≤ e → e ≤ x.token.start → c ≤ end_of x.token
over x h l = le h (grows x l)

bytes : (x : Lexeme) → 0 < length x.token.text → x.token.start < end_of x.token
bytes x h = later x.token.start (length x.token.text) h
  where
    later : (s k : ℕ) → 0 < k → s < s + k
    later s k h = omega (arith, h)

-- ---- what is left of the tokens

pub record Leaves (from rest : List Tok) : Type 0 where
  pub inside : List Tok
  pub all : from ≡ inside ++ rest

pub assoc : (a b c : List Tok) → (a ++ b) ++ c ≡ a ++ (b ++ c)
assoc [] b c = refl
assoc (x ∷ a) b c = ap (λ us. x ∷ us) (assoc a b c)

all_left : {ts : List Tok} → Leaves ts ts
all_left = record { inside = []; all = refl }

one_left : (x : Tok) {ts rest : List Tok} → Leaves ts rest → Leaves (x ∷ ts) rest
one_left x p = record { inside = x ∷ p.inside; all = ap (λ us. x ∷ us) p.all }

pub spelled : {all : List Spelled} {ts rest : List Lexeme} → Spells all ts rest → Leaves (tk ts) (tk rest)
spelled spelling.nothing = all_left
spelled (spelling.token {x = x} e p) = one_left x.token (spelled p)
spelled (spelling.last_comma {x = x} e f p) = one_left x.token (spelled p)
spelled {rest = rest} (spelling.in_force {name = name} {ts = ts} p) = subst (λ us. Leaves us (tk rest)) (retag_tokens name ts) (spelled p)

optional_leaves : {d : Dialect} {stop : List ℕ} {ts rest : List Lexeme} {a : Option Expression} → ReadsOptional d stop ts a rest → Leaves (tk ts) (tk rest)
optional_leaves (g.no_expression e) = all_left
optional_leaves (g.an_expression e p) = spelled (spells refl p spelling.nothing)

pub item_leaves : {d : Dialect} {ts rest : List Lexeme} {one : Item} → ReadsItem d ts one rest → Leaves (tk ts) (tk rest)
item_leaves p = spelled (item_spells p spelling.nothing)

pub stars_leave : {before last : Span} {ts rest : List Lexeme} {k : ℕ} → ReadsStars before ts k last rest → Leaves (tk ts) (tk rest)
stars_leave (r.star {x = x} e p) = one_left x.token (stars_leave p)
stars_leave (r.no_star e) = all_left

join : {a b c : List Tok} → Leaves a b → Leaves b c → Leaves a c
join {c = c} p q = record { inside = p.inside ++ q.inside; all = p.all ∙ ap (λ us. p.inside ++ us) q.all ∙ sym (assoc p.inside q.inside c) }

pub block_leaves : {d : Dialect} {ts rest : List Lexeme} {b : BlockItems} → ReadsBlockItems d ts b rest → Leaves (tk ts) (tk rest)
block_leaves (g.block_end e) = all_left
block_leaves (g.local e p q) = join (spelled (declaration_spells local_typedef p spelling.nothing)) (block_leaves q)
block_leaves (g.statement e f p q) = join (spelled (statement_spells p spelling.nothing)) (block_leaves q)

-- ---- among all tokens

-- These tokens are the last of all, and follow each other from this byte on.
pub record Here (tokens : List Tok) (c : ℕ) (ts : List Lexeme) : Type 0 where
  pub before : List Tok
  pub all : tokens ≡ before ++ tk ts
  pub follow : FollowFrom c (tk ts)

pub step : {tokens : List Tok} {c : ℕ} {x : Lexeme} {ts : List Lexeme} → Here tokens c (x ∷ ts) → Here tokens (end_of x.token) ts
step {x = x} {ts = ts} h = record { before = h.before ++ x.token ∷ []; all = h.all ∙ sym (assoc h.before (x.token ∷ []) (tk ts)); follow = h.follow.2 }

pub record Follows (c : ℕ) (ts : List Tok) : Type 0 where
  pub end : ℕ
  pub low : c ≤ end
  pub follow : FollowFrom end ts

later_follows : (front ts : List Tok) (c : ℕ) → FollowFrom c (front ++ ts) → Follows c ts
later_follows [] ts c h = record { end = c; low = same c; follow = h }
later_follows (x ∷ front) ts c h =
    let f = later_follows front ts (end_of x) h.2 in
    record { end = f.end; low = le (longer c x.start (length x.text) h.0) f.low; follow = f.follow }
  where
    longer : (c s k : ℕ) → c ≤ s → c ≤ s + k
    longer c s k h = omega (arith, h)

pub record Later (tokens : List Tok) (c : ℕ) (ts : List Lexeme) : Type 0 where
  pub end : ℕ
  pub low : c ≤ end
  pub here : Here tokens end ts

pub passed : {tokens : List Tok} {c : ℕ} {ts rest : List Lexeme} → Here tokens c ts → Leaves (tk ts) (tk rest) → Later tokens c rest
passed {c = c} {rest = rest} h l =
    let f = later_follows l.inside (tk rest) c (subst (λ us. FollowFrom c us) l.all h.follow) in
    record { end = f.end; low = f.low; here = record { before = h.before ++ l.inside; all = h.all ∙ ap (λ us. h.before ++ us) l.all ∙ sym (assoc h.before l.inside (tk rest)); follow = f.follow } }

-- over a token more
passed_one : {tokens : List Tok} {c : ℕ} {x : Lexeme} {ts : List Lexeme} → Later tokens c (x ∷ ts) → Later tokens c ts
passed_one {x = x} l = record { end = end_of x.token; low = over x l.low l.here.follow.0; here = step l.here }

-- and one before
put_before : {tokens : List Tok} {c : ℕ} {x : Lexeme} {ts rest : List Lexeme} → Here tokens c (x ∷ ts) → Later tokens (end_of x.token) rest → Later tokens c rest
put_before {x = x} h l = record { end = l.end; low = le (grows x h.follow.0) l.low; here = l.here }

tested : {tokens : List Tok} {d : Dialect} {c : ℕ} {ts rest : List Lexeme} {a : Expression} → ReadsTest d ts a rest → Here tokens c ts → Later tokens c rest
tested (g.test {x = x} {y = y} e p f) h = put_before {x = x} h (passed_one {x = y} (passed (step {x = x} h) (spelled (spells refl p spelling.nothing))))

-- ---- initializers

mutual
  first_from : {d : Dialect} {ts rest : List Lexeme} {i : Initializer} → ReadsInitializer d ts i rest → (low c : ℕ) → low ≤ c → FollowFrom c (tk ts) → FirstFrom low i
  first_from (g.single e p) low c l h = let one = apart p c h in le l one.lower
  first_from (g.braced {x = x} e p f) low c l h = first_of p low (end_of x.token) (over x l h.0) h.2

  first_of : {d : Dialect} {ts rest : List Lexeme} {all : Initializers} → ReadsInitializers d ts all rest → (low c : ℕ) → low ≤ c → FollowFrom c (tk ts) → FirstOf low all
  first_of (g.last_initializer p e) low c l h = first_from p low c l h
  first_of (g.last_initializer_comma p e f) low c l h = first_from p low c l h
  first_of (g.more_initializers p e f q) low c l h = first_from p low c l h

-- ---- two tokens before a value

-- what begins specifiers is no `=`
no_equals : (x : Lexeme) → begins_specifiers x ≡ true → is_punctuator (codes "=") x ≡ true → ⊥
no_equals x b e = true≢false (sym b ∙ of_sign (λ x. begins_specifiers x ≡ false) (codes "=") x e (λ start mark. refl))

first_same : (x y : Tok) (us vs : List Tok) → x ∷ us ≡ y ∷ vs → x ≡ y
first_same x y us vs e = cc

others_same : (x y : Tok) (us vs : List Tok) → x ∷ us ≡ y ∷ vs → us ≡ vs
others_same x y us vs e = cc

record Two (tokens : List Tok) (span : Span) (rest : List Tok) : Type 0 where
  middle : ℕ
  two : HasTwoBefore tokens span middle
  past : span.start ≤ middle
  follow : FollowFrom middle rest

-- after the second token, some more, and a last one
after_second : (tokens before : List Tok) (x u : Tok) (last : ℕ) (more rest : List Tok) → tokens ≡ before ++ x ∷ u ∷ (more ++ rest) → FollowFrom last (u ∷ (more ++ rest)) → x.start ≤ last → (end : ℕ) → Two tokens (record { start = x.start; end = end }) rest
after_second tokens before x u last more rest e h l end =
    let f = later_follows more rest (end_of u) h.2 in
    record {
      middle = f.end;
      two = record { before = before; first = x; second = u; after = more ++ rest; all = e; start = refl; end = f.low };
      past = le l (le (longer last u.start (length u.text) h.0) f.low);
      follow = f.follow;
    }
  where
    longer : (c s k : ℕ) → c ≤ s → c ≤ s + k
    longer c s k h = omega (arith, h)

-- These tokens begin with `x`, and then this `=` comes, which is another one.
two_before : (tokens : List Tok) {c : ℕ} (x : Lexeme) (ts : List Lexeme) → Here tokens c (x ∷ ts) → begins_specifiers x ≡ true → (z : Lexeme) → is_punctuator (codes "=") z ≡ true → (front rest : List Tok)
    → x.token ∷ tk ts ≡ front ++ z.token ∷ rest → (end : ℕ) → Two tokens (record { start = x.token.start; end = end }) rest
two_before tokens x ts h b z f [] rest e end =
    absurd (no_equals x b (subst (λ (u : Tok). (is_punctuator_kind u.kind && bytes_eq u.text (codes "=")) ≡ true) (sym (first_same x.token z.token (tk ts) rest e)) f))
two_before tokens x ts h b z f (y ∷ []) rest e end =
    let others : tk ts ≡ z.token ∷ rest = others_same x.token y (tk ts) (z.token ∷ rest) e in
    after_second tokens h.before x.token z.token (end_of x.token) [] rest (h.all ∙ ap (λ us. h.before ++ x.token ∷ us) others) (subst (λ us. FollowFrom (end_of x.token) us) others h.follow.2) (grows x (same x.token.start)) end
two_before tokens x ts h b z f (y ∷ u ∷ more) rest e end =
    let others : tk ts ≡ u ∷ (more ++ z.token ∷ rest) = others_same x.token y (tk ts) (u ∷ (more ++ z.token ∷ rest)) e in
    let split : u ∷ (more ++ z.token ∷ rest) ≡ u ∷ ((more ++ z.token ∷ []) ++ rest) = ap (λ us. u ∷ us) (sym (assoc more (z.token ∷ []) rest)) in
    after_second tokens h.before x.token u (end_of x.token) (more ++ z.token ∷ []) rest (h.all ∙ ap (λ us. h.before ++ x.token ∷ us) (others ∙ split))
    (subst (λ us. FollowFrom (end_of x.token) us) (others ∙ split) h.follow.2) (grows x (same x.token.start)) end

-- ---- declarations

module _ (tokens : List Tok) {c : ℕ} (x : Lexeme) (ts : List Lexeme) (h : Here tokens c (x ∷ ts)) (b : begins_specifiers x ≡ true) (end : ℕ) where
  abbrev place : Span
  place = record { start = x.token.start; end = end }

  -- the tokens of the declaration up to these
  abbrev UpTo : List Tok → Type 0
  UpTo rest = (front : List Tok) × (x.token ∷ tk ts ≡ front ++ rest)

  up_to : {from rest : List Tok} → UpTo from → Leaves from rest → UpTo rest
  up_to {rest = rest} u l = (u.0 ++ l.inside, u.1 ∙ ap (λ us. u.0 ++ us) l.all ∙ sym (assoc u.0 l.inside rest))

  value_far : {d : Dialect} {value rest : List Lexeme} {i : Initializer} (z : Lexeme) → is_punctuator (codes "=") z ≡ true → ReadsInitializer d value i rest → UpTo (z.token ∷ tk value) → IsFar tokens place i
  value_far {value = value} z f q u =
      let two = two_before tokens x ts h b z f u.0 (tk value) u.1 end in
      record { middle = two.middle; two = two.two; past = two.past; first = first_from q two.middle two.middle (same two.middle) two.follow }

  -- with those that follow it
  one_far : {d : Dialect} {typedef : Bool} {from rest : List Lexeme} {one : InitDeclarator} → ReadsInitDeclarator d typedef from one rest → UpTo (tk from) → (more : List InitDeclarator)
      → (UpTo (tk rest) → AreFar tokens place more) → AreFar tokens place (one ∷ more)
  one_far {typedef = typedef} (g.bare {mid = mid} {d = a} p e) u more k =
      k (subst (λ us. UpTo us) (sym (after_tokens typedef a mid)) (up_to u (spelled (declarator_spells p spelling.nothing))))
  one_far {typedef = typedef} (g.initialized {x = z} {mid = mid} {d = a} p e f q) u more k =
      value_far z f q (subst (λ us. UpTo us) (sym (after_tokens typedef a mid) ∙ ap tk e) (up_to u (spelled (declarator_spells p spelling.nothing))))

  objects_far : {d : Dialect} {typedef : Bool} {from rest : List Lexeme} {all : List InitDeclarator} → ReadsInitDeclarators d typedef from all rest → UpTo (tk from) → AreFar tokens place all
  objects_far (g.no_init_declarator e) u = tt
  objects_far (g.last_init_declarator p e) u = one_far p u [] (λ u. tt)
  objects_far (g.more_init_declarators {x = z} {all = all} p e f q) u = one_far p u all (λ u. objects_far q (up_to u (one_left z.token all_left)))

declaration_far : {tokens : List Tok} {d : Dialect} {typedef : Bool} {allowed : Specifiers → Bool} {c : ℕ} {ts rest : List Lexeme} {one : Declaration} → ReadsDeclaration d typedef allowed ts one rest → Here tokens c ts
    → IsFarIn tokens one
declaration_far {tokens = tokens} (g.declaration {x = x} {y = y} {ts = ts} e p f q v) h =
    let words = spelled (specifiers_spell p spelling.nothing) in
    objects_far tokens x ts h e (end_of y.token) q (words.inside, words.all)

-- ---- statements

mutual
  laid : {tokens : List Tok} {d : Dialect} {ts rest : List Lexeme} {s : Statement} {c : ℕ} → ReadsStatement d ts s rest → Here tokens c ts → (c ≤ (span_of_statement s).start) × IsLaid tokens s
  laid (g.compound p) h = compound_laid p h
  laid (g.null {y = y} e) h = (h.follow.0, bytes y h.follow.1)
  laid {c = c} (g.expression_statement {y = y} e f p v) h =
      let one = apart p c h.follow in
      (one.lower, less one.bytes (grows y one.follow.0))
  laid (g.if_only {x = x} e p q f) h =
      let test = tested p (step h) in
      let one = laid q test.here in
      (h.follow.0, (less (bytes x h.follow.1) (le test.low one.0), one.1))
  laid (g.if_else {x = x} {y = y} e p q f v) h =
      let test = tested p (step h) in
      let one = laid q test.here in
      let other = laid v (passed_one {x = y} (passed test.here (spelled (statement_spells q spelling.nothing)))).here in
      (h.follow.0, (less (bytes x h.follow.1) (le test.low one.0), one.1, other.1))
  laid (g.switch {x = x} e p q) h =
      let test = tested p (step h) in
      let one = laid q test.here in
      (h.follow.0, (less (bytes x h.follow.1) (le test.low one.0), one.1))
  laid (g.while {x = x} e p q) h =
      let test = tested p (step h) in
      let one = laid q test.here in
      (h.follow.0, (less (bytes x h.follow.1) (le test.low one.0), one.1))
  laid (g.do_while {x = x} e p f q v) h =
      let one = laid p (step h) in
      (h.follow.0, (less (bytes x h.follow.1) one.0, one.1))
  laid (g.for {x = x} {y = y} {z = z} {v = last} e f p q v w u k) h =
      let start = passed (step (step h)) (spelled (start_spells p spelling.nothing)) in
      let test = passed_one {x = z} (passed start.here (optional_leaves q)) in
      let part = passed_one {x = last} (passed test.here (optional_leaves w)) in
      let one = laid k part.here in
      (h.follow.0, (less (bytes x h.follow.1) (le (grows y h.follow.2.0) (le start.low (le test.low (le part.low one.0)))), one.1))
  laid (g.case_label {x = x} {y = y} e p f q) h =
      let value = passed_one {x = y} (passed (step h) (spelled (spells refl p spelling.nothing))) in
      let one = laid q value.here in
      (h.follow.0, (same x.token.start, one.1))
  laid (g.default {x = x} e f p) h =
      let one = laid p (step (step h)) in
      (h.follow.0, (same x.token.start, one.1))
  laid (g.label e f p) h =
      let one = laid p (step (step h)) in
      (h.follow.0, one.1)
  laid (g.goto e f v) h = (h.follow.0, tt)
  laid (g.continue {x = x} {y = y} e f) h = (h.follow.0, less (bytes x h.follow.1) (grows y h.follow.2.0))
  laid (g.break {x = x} {y = y} e f) h = (h.follow.0, less (bytes x h.follow.1) (grows y h.follow.2.0))
  laid (g.return e p f) h = (h.follow.0, tt)

  compound_laid : {tokens : List Tok} {d : Dialect} {ts rest : List Lexeme} {b : BlockItems} {span : Span} {c : ℕ} → ReadsCompound d ts b span rest → Here tokens c ts → (c ≤ span.start) × AreLaid tokens b
  compound_laid (g.block e p f) h = (h.follow.0, block_laid p (step h))

  pub block_laid : {tokens : List Tok} {d : Dialect} {ts rest : List Lexeme} {b : BlockItems} {c : ℕ} → ReadsBlockItems d ts b rest → Here tokens c ts → AreLaid tokens b
  block_laid (g.block_end e) h = tt
  block_laid (g.local e p q) h = (declaration_far p h, block_laid q (passed h (spelled (declaration_spells local_typedef p spelling.nothing))).here)
  block_laid (g.statement e f p q) h =
      let one = laid p h in
      (one.1, block_laid q (passed h (spelled (statement_spells p spelling.nothing))).here)
