-- What has to be known of the places of a tree, in the order of the text: how many probes stand round
-- each expression, and that a declaration without a row is not taken for another one.
use Rattle.std.proofs.Common.{◌≡◌, ℕ, ◌+◌, Bool, true, false, List, [], ◌∷◌, Option, length}
use Rattle.mc_span.specs.declared.span.Span.{Span}
use Rattle.reread_pieces.specs.declared.piece.What.{What}
use Rattle.reread_pieces.specs.declared.piece.What.TheVariants as what
use Rattle.mc_tree.specs.Tree.{Expression, Expressions, Initializer, Initializers, InitDeclarator, Declaration, ForStart, Statement, BlockItems, Item, span_of}
use Rattle.reread_probes.specs.Statements.{span_of_declaration}
use Rattle.reread_law_texts.specs.weave.Brackets.{Brackets}
use Rattle.reread_law_rows.specs.inserted.Rows.{Row}
use Rattle.reread_law_rows.specs.inserted.Signs.{is_same}
use Rattle.reread_law_texts.specs.apart.Places.{spans_in_expressions, spans_in_type_name, spans_in_specifiers, spans_in_declarator, spans_in_initializer, spans_in_declaration, spans}
use Rattle.reread_law_texts.specs.apart.Distinct.{Each}
use Rattle.reread_law_rows.proofs.Taken.Puts.{Bare, Puts, PutsAll, PutsInitial, PutsInitials, PutsDeclarators, PutsDeclaration, PutsOptional, PutsStart, PutsInside, PutsStatement, PutsBlock, PutsUnit}
use Rattle.reread_law_rows.proofs.Taken.Puts as puts

pub data Claim : Type 0 where
  -- so many probes stand round the expression at this place
  stands : Span → ℕ → Claim
  -- none of these rows is that of a declaration that starts at this byte
  starts : ℕ → List Row → Claim

abbrev pub without : List Span → List Claim → List Claim
without [] cs = cs
without (at ∷ all) cs = stands at 0 ∷ without all cs

-- ---- the claims of a tree, before those that follow

abbrev mutual
  pub bare_claims : {a : Expression} {rows later : List Row} → Bare a rows later → List Claim
      → List Claim
  bare_claims puts.named cs = cs
  bare_claims puts.constant cs = cs
  bare_claims puts.character cs = cs
  bare_claims (puts.call p) cs = all_claims p cs
  bare_claims (puts.call_without {given = given}) cs = without (spans_in_expressions given []) cs
  bare_claims (puts.index p q) cs = claims p (claims q cs)
  bare_claims (puts.member p) cs = claims p cs
  bare_claims (puts.step_after p) cs = claims p cs
  bare_claims (puts.step_before p) cs = claims p cs
  bare_claims (puts.unary p) cs = claims p cs
  bare_claims (puts.cast {type = type} p) cs = without (spans_in_type_name type []) (claims p cs)
  bare_claims (puts.binary p q) cs = claims p (claims q cs)
  bare_claims (puts.conditional p q r) cs = claims p (claims q (claims r cs))

  pub claims : {a : Expression} {rows later : List Row} → Puts a rows later → List Claim
      → List Claim
  claims (puts.bare {a = a} qs p) cs = stands (span_of a) (length qs) ∷ bare_claims p cs
  claims (puts.inside {span = span} p) cs = stands span 0 ∷ claims p cs
  claims (puts.assignment {span = span} p q) cs = stands span 0 ∷ claims p (claims q cs)
  claims (puts.comma {span = span} p) cs = stands span 0 ∷ all_claims p cs

  pub all_claims : {all : Expressions} {rows later : List Row} → PutsAll all rows later → List Claim
      → List Claim
  all_claims puts.no_expressions cs = cs
  all_claims (puts.expressions p q) cs = claims p (all_claims q cs)

abbrev mutual
  pub initial_claims : {i : Initializer} {rows later : List Row} → PutsInitial i rows later
      → List Claim → List Claim
  initial_claims (puts.single p) cs = claims p cs
  initial_claims (puts.braced p) cs = initials_claims p cs
  initial_claims (puts.initial_without {i = i}) cs = without (spans_in_initializer i []) cs

  pub initials_claims : {all : Initializers} {rows later : List Row} → PutsInitials all rows later
      → List Claim → List Claim
  initials_claims puts.no_initials cs = cs
  initials_claims (puts.initials p q) cs = initial_claims p (initials_claims q cs)

abbrev pub declarators_claims : {ds : List InitDeclarator} {rows later : List Row}
    → PutsDeclarators ds rows later → List Claim → List Claim
declarators_claims puts.no_declarators cs = cs
declarators_claims (puts.declared {d = d} p) cs =
    without (spans_in_declarator d []) (declarators_claims p cs)
declarators_claims (puts.initialized {d = d} p q) cs =
    without (spans_in_declarator d []) (initial_claims p (declarators_claims q cs))

abbrev pub declaration_claims : {d : Declaration} {rows later : List Row}
    → PutsDeclaration d rows later → List Claim → List Claim
declaration_claims (puts.declaration {words = words} p) cs =
    without (spans_in_specifiers words []) (declarators_claims p cs)
declaration_claims (puts.declaration_without {d = d}) cs = without (spans_in_declaration d []) cs

abbrev pub optional_claims : {a : Option Expression} {rows later : List Row}
    → PutsOptional a rows later → List Claim → List Claim
optional_claims puts.nothing cs = cs
optional_claims (puts.something p) cs = claims p cs

abbrev pub start_claims : {s : ForStart} {rows later : List Row} → PutsStart s rows later
    → List Claim → List Claim
start_claims (puts.starts_local p) cs = declaration_claims p cs
start_claims (puts.starts_expression p) cs = optional_claims p cs

abbrev mutual
  pub inside_claims : {s : Statement} {rows later : List Row} → PutsInside s rows later
      → List Claim → List Claim
  inside_claims puts.null cs = cs
  inside_claims (puts.effect p) cs = claims p cs
  inside_claims (puts.if_only p q) cs = claims p (statement_claims q cs)
  inside_claims (puts.if_else p q r) cs = claims p (statement_claims q (statement_claims r cs))
  inside_claims (puts.switch p q) cs = claims p (statement_claims q cs)
  inside_claims (puts.while p q) cs = claims p (statement_claims q cs)
  inside_claims (puts.do_while p q) cs = statement_claims p (claims q cs)
  inside_claims (puts.for p q r s) cs =
      start_claims p (optional_claims q (optional_claims r (statement_claims s cs)))
  inside_claims puts.break cs = cs
  inside_claims puts.continue cs = cs
  inside_claims puts.return_nothing cs = cs
  inside_claims (puts.return_value p) cs = claims p cs

  pub statement_claims : {s : Statement} {rows later : List Row} → PutsStatement s rows later
      → List Claim → List Claim
  statement_claims (puts.compound p) cs = block_claims p cs
  statement_claims (puts.counted p q) cs = inside_claims p cs
  statement_claims (puts.case_label {a = a} p) cs = without (spans a []) (statement_claims p cs)
  statement_claims (puts.default_label p) cs = statement_claims p cs

  pub block_claims : {b : BlockItems} {rows later : List Row} → PutsBlock b rows later
      → List Claim → List Claim
  block_claims puts.no_items cs = cs
  block_claims (puts.counted_local e p q) cs = declaration_claims p (block_claims q cs)
  block_claims (puts.local {d = d} {rows = rows} p q) cs =
      starts (span_of_declaration d).start rows ∷ declaration_claims p (block_claims q cs)
  block_claims (puts.statement p q) cs = statement_claims p (block_claims q cs)

abbrev pub unit_claims : {unit : List Item} {rows : List Row} → PutsUnit unit rows → List Claim
unit_claims puts.no_functions = []
unit_claims (puts.declared_item {d = d} p) = without (spans_in_declaration d []) (unit_claims p)
unit_claims (puts.defined {words = words} {d = d} r p x e q) =
    without (spans_in_specifiers words [])
    (without (spans_in_declarator d []) (block_claims p (unit_claims q)))

-- ---- what they say

-- the row of a declaration does not start there
abbrev pub StartsElsewhereBy : What → ℕ → ℕ → Type 0
StartsElsewhereBy (what.Declaration bit) at start = start ≡ at → ⊥
StartsElsewhereBy w at start = Unit {0}

abbrev pub StartsElsewhere : ℕ → Row → Type 0
StartsElsewhere at r = StartsElsewhereBy r.what at r.span.start

abbrev pub IsRight : Brackets → Claim → Type 0
IsRight w (stands at n) = w.parentheses at ≡ n
IsRight w (starts at rows) = Each (StartsElsewhere at) rows

abbrev pub AreRight : Brackets → List Claim → Type 0
AreRight w cs = Each (IsRight w) cs

-- how many probes these claim at a place, and their places
abbrev pub more : Bool → ℕ → ℕ → ℕ
more true n k = n + k
more false n k = k

abbrev pub total : Span → List Claim → ℕ
total s [] = 0
total s (stands at n ∷ cs) = more (is_same at s) n (total s cs)
total s (starts at rows ∷ cs) = total s cs

abbrev pub places : List Claim → List Span
places [] = []
places (stands at n ∷ cs) = at ∷ places cs
places (starts at rows ∷ cs) = places cs

-- those of declarations alone
abbrev pub AreStarts : List Claim → Type 0
AreStarts [] = Unit {0}
AreStarts (stands at n ∷ cs) = AreStarts cs
AreStarts (starts at rows ∷ cs) = Each (StartsElsewhere at) rows × AreStarts cs
