-- The declarations in the blocks of a text start one after the other: each has a token of its own.
use Rattle.std.proofs.Common.{◌≡◌, ◌≤◌, ◌<◌, ℕ, suc, Bool, true, false, ◌&&◌, List, [], ◌∷◌, Option, refl, sym, subst, arith}
use Rattle.std.specs.Str.{bytes_eq}
use Rattle.mc_lex.specs.declared.token.Dialect.{Dialect}
use Rattle.mc_lex.specs.Tokens.{Tok}
use Rattle.mc_span.specs.declared.span.Span.{Span}
use Rattle.mc_tree.specs.Tree.{Expression, Specifiers, Declarator, InitDeclarator, Declaration, ForStart, Statement, BlockItems, Item, name_of}
use Rattle.mc_grammar.specs.Words.{Lexeme, is_identifier_kind, retag, lexemes_of}
use Rattle.mc_grammar.specs.Statements.{ReadsOptional, ReadsTest, ReadsInitDeclarator, ReadsInitDeclarators, ReadsDeclaration, ReadsForStart, ReadsStatement, ReadsCompound, ReadsBlockItems, after}
use Rattle.mc_grammar.specs.Statements as g
use Rattle.mc_grammar.specs.Items.{ReadsItem, ReadsUnit}
use Rattle.mc_grammar.specs.Items as i
use Rattle.mc_grammar.proofs.Ends.{IsEnd, whole, later, stars_ends, expression_ends, specifiers_ends, parameters_ends, declarator_ends, initializer_ends}
use Rattle.reread_law_texts.specs.alike.Moves.{FollowFrom, end_of}
use Rattle.reread_law_texts.specs.apart.Distinct.{Each, IsDistinct}
use Rattle.reread_law_rows.specs.taken.Locals.{local_starts, local_starts_in_block, local_starts_in_item, local_starts_in_unit}
use Rattle.reread_law_rows.specs.taken.Laws.{LocalsAreApart}
use Rattle.reread_law_texts.proofs.Tokens.{marked}

-- ---- bytes that rise

abbrev Rise : ℕ → List ℕ → Type 0
Rise n [] = Unit {0}
Rise n (s ∷ all) = (n ≤ s) × Rise (suc s) all

others : (s n : ℕ) (all : List ℕ) → s < n → Rise n all → Each (λ y. s ≡ y → ⊥) all
others s n [] h k = tt
others s n (x ∷ all) h k = (λ e. omega (arith, h, k.0, e), others s (suc x) all (omega (arith, h, k.0)) k.1)

distinct : (n : ℕ) (all : List ℕ) → Rise n all → IsDistinct all
distinct n [] k = tt
distinct n (s ∷ all) k = (others s (suc s) all (omega arith) k.1, distinct (suc s) all k.1)

-- ---- tokens that rise

-- the first of these starts at this byte or later
abbrev Low : ℕ → List Lexeme → Type 0
Low n [] = Unit {0}
Low n (x ∷ ts) = n ≤ x.token.start

abbrev Ascend : List Lexeme → Type 0
Ascend [] = Unit {0}
Ascend (x ∷ ts) = Low (suc x.token.start) ts × Ascend ts

record Climb (n : ℕ) (ts : List Lexeme) : Type 0 where
  low : Low n ts
  ascend : Ascend ts

low_lower : (n m : ℕ) (ts : List Lexeme) → n ≤ m → Low m ts → Low n ts
low_lower n m [] h k = tt
low_lower n m (x ∷ ts) h k = omega (arith, h, k)

-- after a token
next : {n : ℕ} {x : Lexeme} {ts : List Lexeme} → Climb n (x ∷ ts) → Climb (suc n) ts
next {n = n} {x = x} {ts = ts} h =
    record { low = low_lower (suc n) (suc x.token.start) ts (omega (arith, h.low)) h.ascend.0; ascend = h.ascend.1 }

weaker : {n : ℕ} {ts : List Lexeme} → Climb (suc n) ts → Climb n ts
weaker {n = n} {ts = ts} h = record { low = low_lower n (suc n) ts (omega arith) h.low; ascend = h.ascend }

step : {n : ℕ} {x : Lexeme} {ts : List Lexeme} → Climb n (x ∷ ts) → Climb n ts
step h = weaker (next h)

left : {n : ℕ} {ts rest : List Lexeme} → IsEnd rest ts → Climb n ts → Climb n rest
left whole h = h
left (later p) h = left p (step h)

follow_low : (place n : ℕ) (tokens : List Tok) → FollowFrom place tokens → n ≤ place → Low n (lexemes_of tokens)
follow_low place n [] h k = tt
follow_low place n (x ∷ tokens) h k = omega (arith, h.0, k)

follow_ascend : (place : ℕ) (tokens : List Tok) → FollowFrom place tokens → Ascend (lexemes_of tokens)
follow_ascend place [] h = tt
follow_ascend place (x ∷ tokens) h =
    (follow_low (end_of x) (suc x.start) tokens h.2 (omega (arith, h.1)), follow_ascend (end_of x) tokens h.2)

-- ---- typedef names

same_start : (b : Bool) (x : Lexeme) → (marked b x).token.start ≡ x.token.start
same_start true x = refl
same_start false x = refl

retag_low : (name : List ℕ) (n : ℕ) (ts : List Lexeme) → Low n ts → Low n (retag name ts)
unfolding retag
retag_low name n [] h = h
retag_low name n (x ∷ ts) h =
    subst (λ s. n ≤ s) (sym (same_start (is_identifier_kind x.token.kind && bytes_eq x.token.text name) x)) h

retag_ascend : (name : List ℕ) (ts : List Lexeme) → Ascend ts → Ascend (retag name ts)
unfolding retag
retag_ascend name [] h = h
retag_ascend name (x ∷ ts) h = (
  subst (λ n. Low (suc n) (retag name ts))
      (sym (same_start (is_identifier_kind x.token.kind && bytes_eq x.token.text name) x))
      (retag_low name (suc x.token.start) ts h.0),
  retag_ascend name ts h.1,
)

after_climb : {n : ℕ} (typedef : Bool) (d : Declarator) (ts : List Lexeme) → Climb n ts → Climb n (after typedef d ts)
after_climb {n = n} true d ts h =
    record { low = retag_low (name_of d).text n ts h.low; ascend = retag_ascend (name_of d).text ts h.ascend }
after_climb false d ts h = h

-- ---- what is left after a part

init_declarator_left : {n : ℕ} {d : Dialect} {typedef : Bool} {ts rest : List Lexeme} {one : InitDeclarator}
    → ReadsInitDeclarator d typedef ts one rest → Climb n ts → Climb n rest
init_declarator_left {typedef = typedef} (g.bare {mid = mid} {d = one} p e) h =
    after_climb typedef one mid (left (declarator_ends p) h)
init_declarator_left {n = n} {typedef = typedef} (g.initialized {mid = mid} {d = one} p k e q) h =
    left (initializer_ends q) (step (subst (λ us. Climb n us) k (after_climb typedef one mid (left (declarator_ends p) h))))

init_declarators_left : {n : ℕ} {d : Dialect} {typedef : Bool} {ts rest : List Lexeme} {all : List InitDeclarator}
    → ReadsInitDeclarators d typedef ts all rest → Climb n ts → Climb n rest
init_declarators_left (g.no_init_declarator e) h = h
init_declarators_left (g.last_init_declarator p e) h = init_declarator_left p h
init_declarators_left (g.more_init_declarators p e f q) h = init_declarators_left q (step (init_declarator_left p h))

declaration_left : {n : ℕ} {d : Dialect} {typedef : Bool} {allowed : Specifiers → Bool} {ts rest : List Lexeme}
    {one : Declaration} → ReadsDeclaration d typedef allowed ts one rest → Climb n ts → Climb (suc n) rest
declaration_left (g.declaration e p f q v) h = next (init_declarators_left q (left (specifiers_ends p) h))

optional_left : {n : ℕ} {d : Dialect} {stop : List ℕ} {ts rest : List Lexeme} {a : Option Expression}
    → ReadsOptional d stop ts a rest → Climb n ts → Climb n rest
optional_left (g.no_expression e) h = h
optional_left (g.an_expression e p) h = left (expression_ends p) h

test_left : {n : ℕ} {d : Dialect} {ts rest : List Lexeme} {a : Expression} → ReadsTest d ts a rest → Climb n ts
    → Climb n rest
test_left (g.test e p f) h = step (left (expression_ends p) (step h))

for_start_left : {n : ℕ} {d : Dialect} {ts rest : List Lexeme} {start : ForStart} → ReadsForStart d ts start rest
    → Climb n ts → Climb n rest
for_start_left (g.starts_local p) h = weaker (declaration_left p h)
for_start_left (g.starts_expression e p f) h = step (optional_left p h)

-- ---- the declarations of a block

-- these start at the tokens that are left
abbrev Stand : List Lexeme → List ℕ → Type 0
Stand ts all = (n : ℕ) → Climb n ts → Rise n all

reflexive : (n : ℕ) → n ≤ n
reflexive n = omega arith

mutual
  statement_stands : {d : Dialect} {ts rest : List Lexeme} {one : Statement} → ReadsStatement d ts one rest
      → (all : List ℕ) → Stand rest all → Stand ts (local_starts one all)
  statement_stands (g.compound p) all k n h = compound_stands p all k n h
  statement_stands (g.null e) all k n h = k n (step h)
  statement_stands (g.expression_statement e f p v) all k n h = k n (step (left (expression_ends p) h))
  statement_stands (g.if_only e p q f) all k n h = statement_stands q all k n (test_left p (step h))
  statement_stands (g.if_else {u = u} e p q f v) all k n h =
      statement_stands q (local_starts u all) (λ n h. statement_stands v all k n (step h)) n (test_left p (step h))
  statement_stands (g.switch e p q) all k n h = statement_stands q all k n (test_left p (step h))
  statement_stands (g.while e p q) all k n h = statement_stands q all k n (test_left p (step h))
  statement_stands (g.do_while e p f q v) all k n h =
      statement_stands p all (λ n h. k n (step (test_left q (step h)))) n (step h)
  statement_stands (g.for e f p q v m u c) all k n h =
      statement_stands c all k n
      (step (optional_left m (step (optional_left q (for_start_left p (step (step h)))))))
  statement_stands (g.case_label e p f q) all k n h = statement_stands q all k n (step (left (expression_ends p) (step h)))
  statement_stands (g.default e f p) all k n h = statement_stands p all k n (step (step h))
  statement_stands (g.label e f p) all k n h = statement_stands p all k n (step (step h))
  statement_stands (g.goto e f v) all k n h = k n (step (step (step h)))
  statement_stands (g.continue e f) all k n h = k n (step (step h))
  statement_stands (g.break e f) all k n h = k n (step (step h))
  statement_stands (g.return e p f) all k n h = k n (step (optional_left p (step h)))

  compound_stands : {d : Dialect} {span : Span} {ts rest : List Lexeme} {b : BlockItems} → ReadsCompound d ts b span rest
      → (all : List ℕ) → Stand rest all → Stand ts (local_starts_in_block b all)
  compound_stands (g.block e p f) all k n h = block_stands p all (λ n h. k n (step h)) n (step h)

  block_stands : {d : Dialect} {ts rest : List Lexeme} {b : BlockItems} → ReadsBlockItems d ts b rest
      → (all : List ℕ) → Stand rest all → Stand ts (local_starts_in_block b all)
  block_stands (g.block_end e) all k n h = k n h
  block_stands (g.local {b = rest} e (g.declaration {x = x} {ts = ts} o p f v w) q) all k n h =
      let at = x.token.start in
      let here : Climb at (x ∷ ts) = record { low = reflexive at; ascend = h.ascend } in
      (h.low, block_stands q all k (suc at) (next (init_declarators_left v (left (specifiers_ends p) here))))
  block_stands (g.statement {b = rest} e f p q) all k n h =
      statement_stands p (local_starts_in_block rest all) (λ n h. block_stands q all k n h) n h

item_stands : {d : Dialect} {ts rest : List Lexeme} {one : Item} → ReadsItem d ts one rest
    → (all : List ℕ) → Stand rest all → Stand ts (local_starts_in_item one all)
item_stands (i.declared p) all k n h = k n (weaker (declaration_left p h))
item_stands (i.defined p e q f v c) all k n h =
    compound_stands c all k n (left (parameters_ends v) (step (left (stars_ends q) (left (specifiers_ends p) h))))

unit_stands : {d : Dialect} {ts : List Lexeme} {unit : List Item} → ReadsUnit d ts unit → Stand ts (local_starts_in_unit unit)
unit_stands i.no_items n h = tt
unit_stands (i.item {all = all} p q) n h = item_stands p (local_starts_in_unit all) (unit_stands q) n h

nothing_before : (n : ℕ) → 0 ≤ n
nothing_before n = omega arith

pub locals_are_apart : LocalsAreApart
locals_are_apart d tokens unit follow p =
    distinct 0 (local_starts_in_unit unit) (unit_stands p 0 (record {
      low = follow_low 0 0 tokens follow (nothing_before 0);
      ascend = follow_ascend 0 tokens follow;
    }))
