-- The rows of declarations start at different bytes, where the declarations do.
use Rattle.std.proofs.Common.{◌≡◌, ℕ, List, [], ◌∷◌, Option, sym}
use Rattle.mc_span.specs.declared.span.Span.{Span}
use Rattle.mc_typed.specs.declared.probes.Probe.{Probe}
use Rattle.mc_typed.specs.declared.probes.Probe.TheVariants as probe
use Rattle.mc_tree.specs.Tree.{Expression, Expressions, Initializer, Initializers, InitDeclarator, Declaration, ForStart, Statement, BlockItems, Item, span_of}
use Rattle.mc_tree.specs.Tree as tree
use Rattle.reread_probes.specs.Statements.{span_of_declaration}
use Rattle.reread_law_rows.specs.inserted.Rows.{Row, row, row_of_probe}
use Rattle.reread_law_texts.specs.apart.Distinct.{Each, IsDistinct}
use Rattle.reread_law_rows.specs.taken.Locals.{local_starts, local_starts_in_block, local_starts_in_unit}
use Rattle.reread_law_rows.proofs.Taken.Puts.{opens, ends, Bare, Puts, PutsAll, PutsInitial, PutsInitials, PutsDeclarators, PutsDeclaration, PutsOptional, PutsStart, PutsDefault, PutsInside, PutsStatement, PutsBlock, PutsRegisters, PutsExit, PutsUnit}
use Rattle.reread_law_rows.proofs.Taken.Puts as puts
use Rattle.reread_law_rows.proofs.Taken.Claims.{Claim, StartsElsewhere, without, bare_claims, claims, all_claims, initial_claims, initials_claims, declarators_claims, declaration_claims, optional_claims, start_claims, inside_claims, statement_claims, block_claims, unit_claims, AreStarts}

-- ---- rows of expressions are none of declarations

module _ (at : ℕ) where
  else_opens : (qs : List Probe) (s : Span) (rows : List Row) → Each (StartsElsewhere at) rows
      → Each (StartsElsewhere at) (opens qs s rows)
  else_opens [] s rows h = h
  else_opens (probe.Decision r base ∷ qs) s rows h = else_opens qs s (row (row_of_probe (probe.Decision r base)) s rows) (tt, h)
  else_opens (probe.Condition r t f ∷ qs) s rows h = else_opens qs s (row (row_of_probe (probe.Condition r t f)) s rows) (tt, h)
  else_opens (probe.Switch r ∷ qs) s rows h = else_opens qs s (row (row_of_probe (probe.Switch r)) s rows) (tt, h)

  else_ends : (qs : List Probe) (s : Span) (later : List Row) → Each (StartsElsewhere at) later
      → Each (StartsElsewhere at) (ends qs s later)
  else_ends [] s later h = h
  else_ends (q ∷ qs) s later h = (tt, else_ends qs s later h)

  mutual
    bare_else : {a : Expression} {rows later : List Row} → Bare a rows later → Each (StartsElsewhere at) later
        → Each (StartsElsewhere at) rows
    bare_else puts.named h = h
    bare_else puts.constant h = h
    bare_else puts.character h = h
    bare_else (puts.call p) h = all_else p h
    bare_else puts.call_without h = h
    bare_else (puts.index p q) h = expression_else p (expression_else q h)
    bare_else (puts.member p) h = expression_else p h
    bare_else (puts.step_after p) h = expression_else p h
    bare_else (puts.step_before p) h = expression_else p h
    bare_else (puts.unary p) h = expression_else p h
    bare_else (puts.cast p) h = expression_else p h
    bare_else (puts.binary p q) h = expression_else p (expression_else q h)
    bare_else (puts.conditional p q r) h = expression_else p (expression_else q (expression_else r h))

    expression_else : {a : Expression} {rows later : List Row} → Puts a rows later → Each (StartsElsewhere at) later
        → Each (StartsElsewhere at) rows
    expression_else (puts.bare {a = a} {rows = rows} {later = later} qs p) h =
        else_opens qs (span_of a) rows (bare_else p (else_ends qs (span_of a) later h))
    expression_else (puts.inside p) h = expression_else p h
    expression_else (puts.assignment p q) h = expression_else p (expression_else q h)
    expression_else (puts.comma p) h = all_else p h

    all_else : {all : Expressions} {rows later : List Row} → PutsAll all rows later → Each (StartsElsewhere at) later
        → Each (StartsElsewhere at) rows
    all_else puts.no_expressions h = h
    all_else (puts.expressions p q) h = expression_else p (all_else q h)

  mutual
    initial_else : {i : Initializer} {rows later : List Row} → PutsInitial i rows later → Each (StartsElsewhere at) later
        → Each (StartsElsewhere at) rows
    initial_else (puts.single p) h = expression_else p h
    initial_else (puts.braced p) h = initials_else p h
    initial_else puts.initial_without h = h

    initials_else : {all : Initializers} {rows later : List Row} → PutsInitials all rows later
        → Each (StartsElsewhere at) later → Each (StartsElsewhere at) rows
    initials_else puts.no_initials h = h
    initials_else (puts.initials p q) h = initial_else p (initials_else q h)

  declarators_else : {ds : List InitDeclarator} {rows later : List Row} → PutsDeclarators ds rows later
      → Each (StartsElsewhere at) later → Each (StartsElsewhere at) rows
  declarators_else puts.no_declarators h = h
  declarators_else (puts.declared p) h = declarators_else p h
  declarators_else (puts.initialized p q) h = initial_else p (declarators_else q h)

  declaration_else : {d : Declaration} {rows later : List Row} → PutsDeclaration d rows later
      → Each (StartsElsewhere at) later → Each (StartsElsewhere at) rows
  declaration_else (puts.declaration p) h = declarators_else p h
  declaration_else puts.declaration_without h = h

  optional_else : {a : Option Expression} {rows later : List Row} → PutsOptional a rows later
      → Each (StartsElsewhere at) later → Each (StartsElsewhere at) rows
  optional_else puts.nothing h = h
  optional_else (puts.something p) h = expression_else p h

  start_else : {s : ForStart} {rows later : List Row} → PutsStart s rows later
      → Each (StartsElsewhere at) later → Each (StartsElsewhere at) rows
  start_else (puts.starts_local p) h = declaration_else p h
  start_else (puts.starts_expression p) h = optional_else p h

  default_else : {s : Statement} {rows later : List Row} → PutsDefault s rows later
      → Each (StartsElsewhere at) later → Each (StartsElsewhere at) rows
  default_else (puts.no_default e) h = h
  default_else (puts.absent_default e) h = (tt, h)

  -- ---- those of declarations start where these do

  abbrev Other : List ℕ → Type 0
  Other all = Each (λ s. at ≡ s → ⊥) all

  abbrev Part : List Row → List ℕ → Type 0
  Part rows all = Other all → Each (StartsElsewhere at) rows

  mutual
    inside_else : {s : Statement} {rows later : List Row} → PutsInside s rows later → (all : List ℕ) → Part later all
        → Part rows (local_starts s all)
    inside_else puts.null all k = k
    inside_else (puts.effect p) all k = λ h. expression_else p (k h)
    inside_else (puts.if_only p q) all k = λ h. expression_else p (statement_else q all k h)
    inside_else (puts.if_else {u = u} p q r) all k =
        λ h. expression_else p (statement_else q (local_starts u all) (statement_else r all k) h)
    inside_else (puts.switch p q) all k = λ h. expression_else p (statement_else q all k h)
    inside_else (puts.while p q) all k = λ h. expression_else p (statement_else q all k h)
    inside_else (puts.do_while p q) all k = statement_else p all (λ h. expression_else q (k h))
    inside_else (puts.for p q r v) all k =
        λ h. start_else p (optional_else q (optional_else r (statement_else v all k h)))
    inside_else puts.break all k = k
    inside_else puts.continue all k = k
    inside_else puts.return_nothing all k = λ h. (tt, (tt, k h))
    inside_else (puts.return_value p) all k = λ h. (tt, expression_else p (tt, k h))

    statement_else : {s : Statement} {rows later : List Row} → PutsStatement s rows later → (all : List ℕ) → Part later all
        → Part rows (local_starts s all)
    statement_else (puts.compound p) all k = block_else p all k
    statement_else (puts.counted p q) all k = λ h. (tt, inside_else p all (λ h. default_else q (tt, k h)) h)
    statement_else (puts.case_label p) all k = λ h. (tt, statement_else p all k h)
    statement_else (puts.default_label p) all k = λ h. (tt, statement_else p all k h)

    block_else : {b : BlockItems} {rows later : List Row} → PutsBlock b rows later → (all : List ℕ) → Part later all
        → Part rows (local_starts_in_block b all)
    block_else puts.no_items all k = k
    block_else (puts.counted_local e p q) all k = λ h. (λ x. h.0 (sym x), declaration_else p (block_else q all k h.1))
    block_else (puts.local p q) all k = λ h. declaration_else p (block_else q all k h.1)
    block_else (puts.statement {rest = rest} p q) all k =
        statement_else p (local_starts_in_block rest all) (block_else q all k)

  registers_else : {name : Span} {end : ℕ} {rows later : List Row} → PutsRegisters name end rows later
      → Each (StartsElsewhere at) later → Each (StartsElsewhere at) rows
  registers_else puts.no_registers h = (tt, h)
  registers_else puts.registers h = (tt, (tt, h))

  exit_else : {name : Span} {end : ℕ} {rows later : List Row} → PutsExit name end rows later
      → Each (StartsElsewhere at) later → Each (StartsElsewhere at) rows
  exit_else puts.no_exit h = h
  exit_else puts.exit h = (tt, h)

  unit_else : {unit : List Item} {rows : List Row} → PutsUnit unit rows → Part rows (local_starts_in_unit unit)
  unit_else puts.no_functions h = tt
  unit_else (puts.declared_item p) h = unit_else p h
  unit_else (puts.defined {rest = rest} r p x e q) h =
      registers_else r (block_else p (local_starts_in_unit rest) (λ h. exit_else x (unit_else q h)) h)

-- ---- the claims of declarations

pub record Sorted (cs : List Claim) : Type 0 where
  pub starts : AreStarts cs

without_starts : (all : List Span) (cs : List Claim) → AreStarts cs → AreStarts (without all cs)
without_starts [] cs h = h
without_starts (at ∷ all) cs h = without_starts all cs h

after : (all : List Span) {cs : List Claim} → Sorted cs → Sorted (without all cs)
after all {cs = cs} h = record { starts = without_starts all cs h.starts }

mutual
  bare_sorted : {a : Expression} {rows later : List Row} (p : Bare a rows later) {cs : List Claim} → Sorted cs
      → Sorted (bare_claims p cs)
  bare_sorted puts.named h = h
  bare_sorted puts.constant h = h
  bare_sorted puts.character h = h
  bare_sorted (puts.call p) h = all_sorted p h
  bare_sorted puts.call_without h = after _ h
  bare_sorted (puts.index p q) h = sorted p (sorted q h)
  bare_sorted (puts.member p) h = sorted p h
  bare_sorted (puts.step_after p) h = sorted p h
  bare_sorted (puts.step_before p) h = sorted p h
  bare_sorted (puts.unary p) h = sorted p h
  bare_sorted (puts.cast p) h = after _ (sorted p h)
  bare_sorted (puts.binary p q) h = sorted p (sorted q h)
  bare_sorted (puts.conditional p q r) h = sorted p (sorted q (sorted r h))

  sorted : {a : Expression} {rows later : List Row} (p : Puts a rows later) {cs : List Claim} → Sorted cs
      → Sorted (claims p cs)
  sorted (puts.bare qs p) h = record { starts = (bare_sorted p h).starts }
  sorted (puts.inside p) h = record { starts = (sorted p h).starts }
  sorted (puts.assignment p q) h = record { starts = (sorted p (sorted q h)).starts }
  sorted (puts.comma p) h = record { starts = (all_sorted p h).starts }

  all_sorted : {all : Expressions} {rows later : List Row} (p : PutsAll all rows later) {cs : List Claim} → Sorted cs
      → Sorted (all_claims p cs)
  all_sorted puts.no_expressions h = h
  all_sorted (puts.expressions p q) h = sorted p (all_sorted q h)

mutual
  initial_sorted : {i : Initializer} {rows later : List Row} (p : PutsInitial i rows later) {cs : List Claim} → Sorted cs
      → Sorted (initial_claims p cs)
  initial_sorted (puts.single p) h = sorted p h
  initial_sorted (puts.braced p) h = initials_sorted p h
  initial_sorted puts.initial_without h = after _ h

  initials_sorted : {all : Initializers} {rows later : List Row} (p : PutsInitials all rows later) {cs : List Claim}
      → Sorted cs → Sorted (initials_claims p cs)
  initials_sorted puts.no_initials h = h
  initials_sorted (puts.initials p q) h = initial_sorted p (initials_sorted q h)

declarators_sorted : {ds : List InitDeclarator} {rows later : List Row} (p : PutsDeclarators ds rows later)
    {cs : List Claim} → Sorted cs → Sorted (declarators_claims p cs)
declarators_sorted puts.no_declarators h = h
declarators_sorted (puts.declared p) h = after _ (declarators_sorted p h)
declarators_sorted (puts.initialized p q) h = after _ (initial_sorted p (declarators_sorted q h))

declaration_sorted : {d : Declaration} {rows later : List Row} (p : PutsDeclaration d rows later)
    {cs : List Claim} → Sorted cs → Sorted (declaration_claims p cs)
declaration_sorted (puts.declaration p) h = after _ (declarators_sorted p h)
declaration_sorted puts.declaration_without h = after _ h

optional_sorted : {a : Option Expression} {rows later : List Row} (p : PutsOptional a rows later)
    {cs : List Claim} → Sorted cs → Sorted (optional_claims p cs)
optional_sorted puts.nothing h = h
optional_sorted (puts.something p) h = sorted p h

start_sorted : {s : ForStart} {rows later : List Row} (p : PutsStart s rows later)
    {cs : List Claim} → Sorted cs → Sorted (start_claims p cs)
start_sorted (puts.starts_local p) h = declaration_sorted p h
start_sorted (puts.starts_expression p) h = optional_sorted p h

-- what is left of places that are different
mutual
  rest_distinct : (s : Statement) (all : List ℕ) → IsDistinct (local_starts s all) → IsDistinct all
  rest_distinct (tree.Compound b span) all h = block_distinct b all h
  rest_distinct (tree.Null span) all h = h
  rest_distinct (tree.ExpressionStatement a span) all h = h
  rest_distinct (tree.If a s span) all h = rest_distinct s all h
  rest_distinct (tree.IfElse a s u span) all h = rest_distinct u all (rest_distinct s (local_starts u all) h)
  rest_distinct (tree.Switch a s span) all h = rest_distinct s all h
  rest_distinct (tree.While a s span) all h = rest_distinct s all h
  rest_distinct (tree.DoWhile s a span) all h = rest_distinct s all h
  rest_distinct (tree.For start a b s span) all h = rest_distinct s all h
  rest_distinct (tree.Case a label s span) all h = rest_distinct s all h
  rest_distinct (tree.Default label s span) all h = rest_distinct s all h
  rest_distinct (tree.Label name s span) all h = rest_distinct s all h
  rest_distinct (tree.Goto name span) all h = h
  rest_distinct (tree.Break span) all h = h
  rest_distinct (tree.Continue span) all h = h
  rest_distinct (tree.Return a span) all h = h

  block_distinct : (b : BlockItems) (all : List ℕ) → IsDistinct (local_starts_in_block b all) → IsDistinct all
  block_distinct tree.no_block_items all h = h
  block_distinct (tree.local d rest) all h = block_distinct rest all h.1
  block_distinct (tree.statement s rest) all h = block_distinct rest all (rest_distinct s (local_starts_in_block rest all) h)

-- these rows start elsewhere than each byte but these
abbrev Among : List Row → List ℕ → Type 0
Among rows all = (at : ℕ) → Each (λ s. at ≡ s → ⊥) all → Each (StartsElsewhere at) rows

mutual
  inside_sorted : {s : Statement} {rows later : List Row} (p : PutsInside s rows later) (all : List ℕ) {cs : List Claim}
      → Among later all → IsDistinct (local_starts s all) → Sorted cs → Sorted (inside_claims p cs)
  inside_sorted puts.null all k d h = h
  inside_sorted (puts.effect p) all k d h = sorted p h
  inside_sorted (puts.if_only p q) all k d h = sorted p (statement_sorted q all k d h)
  inside_sorted (puts.if_else {s = s} {u = u} p q r) all k d h =
      sorted p (statement_sorted q (local_starts u all) (λ at. statement_else at r all (k at)) d
      (statement_sorted r all k (rest_distinct s (local_starts u all) d) h))
  inside_sorted (puts.switch p q) all k d h = sorted p (statement_sorted q all k d h)
  inside_sorted (puts.while p q) all k d h = sorted p (statement_sorted q all k d h)
  inside_sorted (puts.do_while p q) all k d h =
      statement_sorted p all (λ at h. expression_else at q (k at h)) d (sorted q h)
  inside_sorted (puts.for p q r v) all k d h =
      start_sorted p (optional_sorted q (optional_sorted r (statement_sorted v all k d h)))
  inside_sorted puts.break all k d h = h
  inside_sorted puts.continue all k d h = h
  inside_sorted puts.return_nothing all k d h = h
  inside_sorted (puts.return_value p) all k d h = sorted p h

  statement_sorted : {s : Statement} {rows later : List Row} (p : PutsStatement s rows later) (all : List ℕ)
      {cs : List Claim} → Among later all → IsDistinct (local_starts s all) → Sorted cs → Sorted (statement_claims p cs)
  statement_sorted (puts.compound p) all k d h = block_sorted p all k d h
  statement_sorted (puts.counted p q) all k d h = inside_sorted p all (λ at h. default_else at q (tt, k at h)) d h
  statement_sorted (puts.case_label p) all k d h = after _ (statement_sorted p all k d h)
  statement_sorted (puts.default_label p) all k d h = statement_sorted p all k d h

  block_sorted : {b : BlockItems} {rows later : List Row} (p : PutsBlock b rows later) (all : List ℕ)
      {cs : List Claim} → Among later all → IsDistinct (local_starts_in_block b all) → Sorted cs
      → Sorted (block_claims p cs)
  block_sorted puts.no_items all k d h = h
  block_sorted (puts.counted_local e p q) all k d h = declaration_sorted p (block_sorted q all k d.1 h)
  block_sorted (puts.local {d = one} p q) all k d h =
      let at = (span_of_declaration one).start in
      record {
        starts = (
          declaration_else at p (block_else at q all (k at) d.0),
          (declaration_sorted p (block_sorted q all k d.1 h)).starts,
        );
      }
  block_sorted (puts.statement {s = s} {rest = rest} p q) all k d h =
      let others = local_starts_in_block rest all in
      statement_sorted p others (λ at. block_else at q all (k at)) d (block_sorted q all k (rest_distinct s others d) h)

unit_sorted : {unit : List Item} {rows : List Row} (p : PutsUnit unit rows) → IsDistinct (local_starts_in_unit unit)
    → Sorted (unit_claims p)
unit_sorted puts.no_functions d = record { starts = tt }
unit_sorted (puts.declared_item p) d = after _ (unit_sorted p d)
unit_sorted (puts.defined {b = b} {rest = rest} r p x e q) d =
    let others = local_starts_in_unit rest in
    after _ (after _ (block_sorted p others (λ at h. exit_else at x (unit_else at q h)) d
    (unit_sorted q (block_distinct b others d))))

pub unit_starts : {unit : List Item} {rows : List Row} (p : PutsUnit unit rows) → IsDistinct (local_starts_in_unit unit)
    → AreStarts (unit_claims p)
unit_starts p d = (unit_sorted p d).starts
