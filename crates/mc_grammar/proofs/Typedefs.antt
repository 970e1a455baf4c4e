-- What is no identifier stays none in all that is left, and so does the name of a typedef after its declaration.
use Rattle.std.proofs.Common.{◌≡◌, ◌≢◌, true≢false, ℕ, Bool, true, false, not, ◌&&◌, ◌||◌, List, [], ◌∷◌, ◌++◌, All, AllPairs, Contains, arith, Option, refl, sym, ◌∙◌, subst, if◌then◌else◌}
use Rattle.std.specs.Str.{bytes_eq}
use Rattle.std.specs.List.{list_any}
use Rattle.std.proofs.lemmas.List.Elements.{All-nil, All-cons, All-append, All-contains}
use Rattle.std.proofs.lemmas.List.Kept.{AllPairs-cons}
use Rattle.std.proofs.lemmas.Slice.Eq.{bytes_eq-Decides}
use Rattle.mc_lex.specs.declared.token.Dialect.{Dialect}
use Rattle.mc_span.specs.declared.span.Span.{Span}
use Rattle.mc_tree.specs.Tree.{Expression, Specifiers, Declarator, InitDeclarator, Declaration, ForStart, Statement, BlockItems, Item, name_of}
use Rattle.mc_grammar.specs.Words.{Lexeme, is_name, is_identifier_kind, retag, retagged}
use Rattle.mc_grammar.specs.Counts.{is_typedef, for_item}
use Rattle.mc_grammar.specs.Meaning.{is_name_of, IsGone, AreGone, declared_name, names_of, declared_names, typedef_names, typedef_names_of, ReadsItems}
use Rattle.mc_grammar.specs.Meaning as m
use Rattle.mc_grammar.specs.Expressions.{ReadsStars, ReadsDeclarator}
use Rattle.mc_grammar.specs.Expressions as r
use Rattle.mc_grammar.specs.Statements.{ReadsOptional, ReadsTest, ReadsInitDeclarator, ReadsInitDeclarators, ReadsDeclaration, ReadsForStart, ReadsStatement, ReadsCompound, ReadsBlockItems, after}
use Rattle.mc_grammar.specs.Statements as s
use Rattle.mc_grammar.specs.Items.{ReadsItem, ReadsUnit, is_item_of}
use Rattle.mc_grammar.specs.Items as i
use Rattle.mc_grammar.proofs.Choices.{no_name_follows}
use Rattle.mc_grammar.proofs.Ends.{IsEnd, whole, later, or_right, none_of_end, stars_ends, expression_ends, specifiers_ends, parameters_ends, declarator_ends, initializer_ends, valued_typedef_retags}

-- what is gone from the second is gone from the first
pub record Keeps (rest ts : List Lexeme) : Type 0 where
  pub gone : (name : List ℕ) → IsGone name ts → IsGone name rest

all_kept : {ts : List Lexeme} → Keeps ts ts
all_kept = record { gone = λ name e. e }

chain : {ts mid rest : List Lexeme} → Keeps mid ts → Keeps rest mid → Keeps rest ts
chain p q = record { gone = λ name e. q.gone name (p.gone name e) }

pub ends : {ts rest : List Lexeme} → IsEnd rest ts → Keeps rest ts
ends p = record { gone = λ name e. none_of_end (is_name_of name) p e }

next : {x : Lexeme} {ts rest : List Lexeme} → Keeps rest ts → Keeps rest (x ∷ ts)
next p = chain (ends (later whole)) p

-- a token that may be retagged is no identifier of this text where it was none
retagged_keeps : (name other : List ℕ) (x : Lexeme) (a b : Bool) → is_identifier_kind x.token.kind ≡ a → bytes_eq x.token.text other ≡ b → is_name_of name x ≡ false → is_name_of name (retagged other x) ≡ false
retagged_keeps name other x true true e f g = rw (e, f) (rw e refl)
retagged_keeps name other x true false e f g = rw (e, f) g
retagged_keeps name other x false b e f g = rw e (rw e refl)

or_left : (a b : Bool) → (a || b) ≡ false → a ≡ false
or_left false b e = refl
or_left true b e = e

neither : (a b : Bool) → a ≡ false → b ≡ false → (a || b) ≡ false
neither a b e f = rw (e, f) refl

retag_gone : (name other : List ℕ) (ts : List Lexeme) → IsGone name ts → IsGone name (retag other ts)
unfolding retag
retag_gone name other [] e = e
retag_gone name other (x ∷ ts) e =
    neither (is_name_of name (retagged other x)) (list_any (is_name_of name) (retag other ts))
    (retagged_keeps name other x (is_identifier_kind x.token.kind) (bytes_eq x.token.text other) refl refl (or_left (is_name_of name x) (list_any (is_name_of name) ts) e))
    (retag_gone name other ts (or_right (is_name_of name x) (list_any (is_name_of name) ts) e))

after_keeps : (typedef : Bool) (d : Declarator) (ts : List Lexeme) → Keeps (after typedef d ts) ts
after_keeps true d ts = record { gone = λ name e. retag_gone name (name_of d).text ts e }
after_keeps false d ts = all_kept

pub init_declarator_keeps : {d : Dialect} {typedef : Bool} {ts rest : List Lexeme} {one : InitDeclarator} → ReadsInitDeclarator d typedef ts one rest → Keeps rest ts
init_declarator_keeps {typedef = typedef} (s.bare {mid = mid} {d = one} p e) = chain (ends (declarator_ends p)) (after_keeps typedef one mid)
init_declarator_keeps {typedef = typedef} (s.initialized {x = x} {mid = mid} {value = value} {d = one} p g e q) =
    chain (ends (declarator_ends p)) (chain (subst (λ us. Keeps us mid) g (after_keeps typedef one mid)) (next {x = x} (ends (initializer_ends q))))

pub init_declarators_keep : {d : Dialect} {typedef : Bool} {ts rest : List Lexeme} {all : List InitDeclarator} → ReadsInitDeclarators d typedef ts all rest → Keeps rest ts
init_declarators_keep (s.no_init_declarator e) = all_kept
init_declarators_keep (s.last_init_declarator p e) = init_declarator_keeps p
init_declarators_keep (s.more_init_declarators p e f q) = chain (init_declarator_keeps p) (next (init_declarators_keep q))

pub declaration_keeps : {d : Dialect} {typedef : Bool} {allowed : Specifiers → Bool} {ts rest : List Lexeme} {one : Declaration} → ReadsDeclaration d typedef allowed ts one rest → Keeps rest ts
declaration_keeps (s.declaration e p f q g) = chain (ends (specifiers_ends p)) (chain (init_declarators_keep q) (next all_kept))

optional_keeps : {d : Dialect} {stop : List ℕ} {ts rest : List Lexeme} {a : Option Expression} → ReadsOptional d stop ts a rest → Keeps rest ts
optional_keeps (s.no_expression e) = all_kept
optional_keeps (s.an_expression e p) = ends (expression_ends p)

test_keeps : {d : Dialect} {ts rest : List Lexeme} {a : Expression} → ReadsTest d ts a rest → Keeps rest ts
test_keeps (s.test e p f) = next (chain (ends (expression_ends p)) (next all_kept))

for_start_keeps : {d : Dialect} {ts rest : List Lexeme} {start : ForStart} → ReadsForStart d ts start rest → Keeps rest ts
for_start_keeps (s.starts_local p) = declaration_keeps p
for_start_keeps (s.starts_expression e p f) = chain (optional_keeps p) (next all_kept)

mutual
  pub statement_keeps : {d : Dialect} {ts rest : List Lexeme} {one : Statement} → ReadsStatement d ts one rest → Keeps rest ts
  statement_keeps (s.compound p) = compound_keeps p
  statement_keeps (s.null e) = next all_kept
  statement_keeps (s.expression_statement e f p g) = chain (ends (expression_ends p)) (next all_kept)
  statement_keeps (s.if_only e p q f) = next (chain (test_keeps p) (statement_keeps q))
  statement_keeps (s.if_else e p q f v) = next (chain (test_keeps p) (chain (statement_keeps q) (next (statement_keeps v))))
  statement_keeps (s.switch e p q) = next (chain (test_keeps p) (statement_keeps q))
  statement_keeps (s.while e p q) = next (chain (test_keeps p) (statement_keeps q))
  statement_keeps (s.do_while e p f q g) = next (chain (statement_keeps p) (next (chain (test_keeps q) (next all_kept))))
  statement_keeps (s.for e f p q g v h w) =
      next (next (chain (for_start_keeps p) (chain (optional_keeps q) (next (chain (optional_keeps v) (next (statement_keeps w)))))))
  statement_keeps (s.case_label e p f q) = next (chain (ends (expression_ends p)) (next (statement_keeps q)))
  statement_keeps (s.default e f p) = next (next (statement_keeps p))
  statement_keeps (s.label e f p) = next (next (statement_keeps p))
  statement_keeps (s.goto e f g) = next (next (next all_kept))
  statement_keeps (s.continue e f) = next (next all_kept)
  statement_keeps (s.break e f) = next (next all_kept)
  statement_keeps (s.return e p f) = next (chain (optional_keeps p) (next all_kept))

  pub compound_keeps : {d : Dialect} {span : Span} {ts rest : List Lexeme} {all : BlockItems} → ReadsCompound d ts all span rest → Keeps rest ts
  compound_keeps (s.block e p f) = next (chain (block_items_keep p) (next all_kept))

  pub block_items_keep : {d : Dialect} {ts rest : List Lexeme} {all : BlockItems} → ReadsBlockItems d ts all rest → Keeps rest ts
  block_items_keep (s.block_end e) = all_kept
  block_items_keep (s.local e p q) = chain (declaration_keeps p) (block_items_keep q)
  block_items_keep (s.statement e f p q) = chain (statement_keeps p) (block_items_keep q)

pub item_keeps : {d : Dialect} {ts rest : List Lexeme} {one : Item} → ReadsItem d ts one rest → Keeps rest ts
item_keeps (i.declared p) = declaration_keeps p
item_keeps (i.defined p e q f v w) = chain (ends (specifiers_ends p)) (chain (ends (stars_ends q)) (next (chain (ends (parameters_ends v)) (compound_keeps w))))

pub items_keep : {d : Dialect} {ts rest : List Lexeme} {all : List Item} → ReadsItems d ts all rest → Keeps rest ts
items_keep m.no_items = all_kept
items_keep (m.item p q) = chain (item_keeps p) (items_keep q)

still_gone : {ts rest : List Lexeme} → Keeps rest ts → (names : List (List ℕ)) → AreGone names ts → AreGone names rest
still_gone p names h = λ k d lt. p.gone _ (h k d lt)

-- after a typedef's declarator, and its value if it has one, its name is gone
name_gone : {d : Dialect} {ts rest : List Lexeme} {one : InitDeclarator} → ReadsInitDeclarator d true ts one rest → IsGone (declared_name one) rest
name_gone (s.bare {mid = mid} {d = one} p e) = no_name_follows (name_of one).text mid
name_gone (s.initialized p g e q) = valued_typedef_retags (s.initialized p g e q)

names_gone : {d : Dialect} {ts rest : List Lexeme} {all : List InitDeclarator} → ReadsInitDeclarators d true ts all rest → AreGone (names_of all) rest
names_gone {rest = rest} (s.no_init_declarator e) = All-nil (λ name. IsGone name rest)
names_gone {rest = rest} (s.last_init_declarator {i = one} p e) = All-cons (λ name. IsGone name rest) (declared_name one) [] (name_gone p) (All-nil (λ name. IsGone name rest))
names_gone {rest = rest} (s.more_init_declarators {x = x} {i = one} {all = all} p e f q) =
    All-cons (λ name. IsGone name rest) (declared_name one) (names_of all) ((next {x = x} (init_declarators_keep q)).gone (declared_name one) (name_gone p)) (names_gone q)

of_typedef : (b : Bool) (names : List (List ℕ)) (ts : List Lexeme) → (b ≡ true → AreGone names ts) → AreGone (if b then names else []) ts
of_typedef true names ts h = h refl
of_typedef false names ts h = All-nil (λ name. IsGone name ts)

clash : (a b : Bool) → (a && not b) ≡ true → b ≡ true → ⊥
clash false b e f = cc
clash true true e f = cc
clash true false e f = cc

-- after an item its typedef names are gone
pub item_gone : {d : Dialect} {ts rest : List Lexeme} {one : Item} → ReadsItem d ts one rest → AreGone (typedef_names one) rest
item_gone {rest = rest} (i.declared {typedef = true} (s.declaration {y = y} {s = words} {all = all} e p f q g)) =
    of_typedef (is_typedef words) (names_of all) rest (λ h. still_gone {rest = rest} (next {x = y} all_kept) (names_of all) (names_gone q))
item_gone {rest = rest} (i.declared {typedef = false} (s.declaration {s = words} {all = all} e p f q g)) =
    of_typedef (is_typedef words) (names_of all) rest (λ h. absurd (clash (for_item words) (is_typedef words) f h))
item_gone {rest = rest} (i.defined p e q f v w) = All-nil (λ name. IsGone name rest)

pub items_gone : {d : Dialect} {ts rest : List Lexeme} {all : List Item} → ReadsItems d ts all rest → AreGone (typedef_names_of all) rest
items_gone {rest = rest} m.no_items = All-nil (λ name. IsGone name rest)
items_gone {rest = rest} (m.item {i = one} {all = all} p q) =
    All-append (λ name. IsGone name rest) (typedef_names one) (typedef_names_of all) (still_gone (items_keep q) (typedef_names one) (item_gone p)) (items_gone q)

-- A unit is read as any first items of it, and then the others.
pub split : (d : Dialect) (front back : List Item) (ts : List Lexeme) → ReadsUnit d ts (front ++ back) → (rest : List Lexeme) × ReadsItems d ts front rest × ReadsUnit d rest back × AreGone (typedef_names_of front) rest
split d [] back ts p = (ts, m.no_items, p, All-nil (λ name. IsGone name ts))
split d (one ∷ front) back ts (i.item p q) = let h = split d front back _ q in (h.0, m.item p h.1, h.2, items_gone (m.item p h.1))

pub joined : {d : Dialect} {ts rest : List Lexeme} {front : List Item} (back : List Item) → ReadsItems d ts front rest → ReadsUnit d rest back → ReadsUnit d ts (front ++ back)
joined back m.no_items q = q
joined back (m.item p v) q = i.item p (joined back v q)

right_false : (a b : Bool) → a ≡ true → (a && b) ≡ false → b ≡ false
right_false true b e f = f
right_false false true e f = sym e
right_false false false e f = refl

differs : (text name : List ℕ) → bytes_eq text name ≡ false → text ≢ name
differs text name f = λ e. true≢false (sym ((bytes_eq-Decides text name).1 e) ∙ f)

-- an identifier has another text, where no identifier of this text is left
other_text : (name : List ℕ) (x : Lexeme) (ts : List Lexeme) → is_name x ≡ true → IsGone name (x ∷ ts) → x.token.text ≢ name
other_text name x ts e f = differs x.token.text name (right_false (is_name x) (bytes_eq x.token.text name) e (or_left (is_name_of name x) (list_any (is_name_of name) ts) f))

declares_other : {d : Dialect} {ts rest : List Lexeme} {one : Declarator} (name : List ℕ) → ReadsDeclarator d ts one rest → IsGone name ts → (name_of one).text ≢ name
declares_other name (r.object {y = y} {mid = mid} p e f q) g = other_text name y mid e (none_of_end (is_name_of name) (stars_ends p) g)
declares_other name (r.function {y = y} {mid = mid} p e q) g = other_text name y mid e (none_of_end (is_name_of name) (stars_ends p) g)

init_declares_other : {d : Dialect} {typedef : Bool} {ts rest : List Lexeme} {one : InitDeclarator} (name : List ℕ) → ReadsInitDeclarator d typedef ts one rest → IsGone name ts → declared_name one ≢ name
init_declares_other name (s.bare p e) g = declares_other name p g
init_declares_other name (s.initialized p f e q) g = declares_other name p g

all_declare_others : {d : Dialect} {typedef : Bool} {ts rest : List Lexeme} {all : List InitDeclarator} (name : List ℕ) → ReadsInitDeclarators d typedef ts all rest → IsGone name ts → All (λ other. other ≢ name) (names_of all)
all_declare_others name (s.no_init_declarator e) g = All-nil (λ other. other ≢ name)
all_declare_others name (s.last_init_declarator {i = one} p e) g = All-cons (λ other. other ≢ name) (declared_name one) [] (init_declares_other name p g) (All-nil (λ other. other ≢ name))
all_declare_others name (s.more_init_declarators {x = x} {mid = mid} {i = one} {all = all} p e f q) g =
    All-cons (λ other. other ≢ name) (declared_name one) (names_of all) (init_declares_other name p g)
    (all_declare_others name q (or_right (is_name_of name x) (list_any (is_name_of name) mid) ((init_declarator_keeps p).gone name g)))

item_declares_others : {d : Dialect} {ts rest : List Lexeme} {one : Item} (name : List ℕ) → ReadsItem d ts one rest → IsGone name ts → All (λ other. other ≢ name) (declared_names one)
item_declares_others name (i.declared (s.declaration e p f q h)) g = all_declare_others name q (none_of_end (is_name_of name) (specifiers_ends p) g)
item_declares_others name (i.defined {z = z} {mid = mid} p e q f v w) g =
    All-cons (λ other. other ≢ name) z.token.text [] (other_text name z mid f (none_of_end (is_name_of name) (stars_ends q) (none_of_end (is_name_of name) (specifiers_ends p) g))) (All-nil (λ other. other ≢ name))

-- where no identifier of this text is left, an item declares none
pub declares_no : {d : Dialect} {ts rest : List Lexeme} {one : Item} (name : List ℕ) → ReadsItem d ts one rest → IsGone name ts → ¬ Contains (declared_names one) name
declares_no {one = one} name p g = λ c. All-contains (λ other. other ≢ name) (declared_names one) name (item_declares_others name p g) c refl

first_declares_no : {d : Dialect} {ts : List Lexeme} {one : Item} {back : List Item} (name : List ℕ) → ReadsUnit d ts (one ∷ back) → IsGone name ts → ¬ Contains (declared_names one) name
first_declares_no name (i.item p q) g = declares_no name p g

-- no item declares again a typedef name of an item before it
pub never_again : (d : Dialect) (ts : List Lexeme) (front back : List Item) (one : Item) (name : List ℕ) → ReadsUnit d ts (front ++ one ∷ back) → Contains (typedef_names_of front) name → ¬ Contains (declared_names one) name
never_again d ts front back one name p c =
    let h = split d front (one ∷ back) ts p in first_declares_no name h.2 (All-contains (λ other. IsGone other h.0) (typedef_names_of front) name h.3 c)

abbrev Differ : List (List ℕ) → Type 0
Differ names = AllPairs (λ name other. name ≢ other) names

none_differ : Differ []
none_differ = λ i j e lt less. absurd (omega arith)

names_differ : {d : Dialect} {ts rest : List Lexeme} {all : List InitDeclarator} → ReadsInitDeclarators d true ts all rest → Differ (names_of all)
names_differ (s.no_init_declarator e) = none_differ
names_differ (s.last_init_declarator {i = one} p e) =
    AllPairs-cons (λ name other. name ≢ other) (declared_name one) [] (All-nil (λ other. declared_name one ≢ other)) none_differ
names_differ (s.more_init_declarators {x = x} {mid = mid} {i = one} {all = all} p e f q) =
    let others = all_declare_others (declared_name one) q (or_right (is_name_of (declared_name one) x) (list_any (is_name_of (declared_name one)) mid) (name_gone p)) in
    AllPairs-cons (λ name other. name ≢ other) (declared_name one) (names_of all) (λ k e lt h. others k e lt (sym h)) (names_differ q)

if_typedef : (b : Bool) (names : List (List ℕ)) → (b ≡ true → Differ names) → Differ (if b then names else [])
if_typedef true names h = h refl
if_typedef false names h = none_differ

-- the typedef names of one item differ
pub item_differs : {d : Dialect} {ts rest : List Lexeme} {one : Item} → ReadsItem d ts one rest → Differ (typedef_names one)
item_differs (i.declared {typedef = true} (s.declaration {s = words} {all = all} e p f q g)) = if_typedef (is_typedef words) (names_of all) (λ h. names_differ q)
item_differs (i.declared {typedef = false} (s.declaration {s = words} {all = all} e p f q g)) =
    if_typedef (is_typedef words) (names_of all) (λ h. absurd (clash (for_item words) (is_typedef words) f h))
item_differs (i.defined p e q f v w) = none_differ
