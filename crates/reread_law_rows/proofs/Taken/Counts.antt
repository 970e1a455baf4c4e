-- As many rows stand round an expression at a place as the claims say.
use Rattle.std.proofs.Common.{◌≡◌, ℕ, ◌+◌, suc, Bool, true, false, List, [], ◌∷◌, Option, length, if◌then◌else◌, refl, sym, ap, ◌∙◌, arith}
use Rattle.mc_span.specs.declared.span.Span.{Span}
use Rattle.mc_tree.specs.Tree.{Expression, Expressions, Initializer, Initializers, InitDeclarator, Declaration, ForStart, Statement, BlockItems, Item, span_of}
use Rattle.mc_typed.specs.declared.probes.Probe.{Probe}
use Rattle.mc_typed.specs.declared.probes.Probe.TheVariants as probe
use Rattle.reread_law_rows.specs.inserted.Rows.{Row, row, row_of_probe}
use Rattle.reread_law_rows.specs.inserted.Signs.{is_same, count_round}
use Rattle.reread_law_rows.proofs.Taken.Puts.{opens, ends, Bare, Puts, PutsAll, PutsInitial, PutsInitials, PutsDeclarators, PutsDeclaration, PutsOptional, PutsStart, PutsDefault, PutsInside, PutsStatement, PutsBlock, PutsRegisters, PutsExit, PutsUnit}
use Rattle.reread_law_rows.proofs.Taken.Puts as puts
use Rattle.reread_law_rows.proofs.Taken.Claims.{Claim, stands, without, bare_claims, claims, all_claims, initial_claims, initials_claims, declarators_claims, declaration_claims, optional_claims, start_claims, inside_claims, statement_claims, block_claims, unit_claims, more, total}

-- ---- some probes

pub none_more : (b : Bool) (k : ℕ) → more b 0 k ≡ k
none_more true k = omega arith
none_more false k = refl

one_more : (b : Bool) (n k : ℕ) → more b n (if b then 1 + k else k) ≡ more b (suc n) k
one_more true n k = omega arith
one_more false n k = refl

counts_probe : (q : Probe) (at s : Span) (rows : List Row)
    → count_round s (row (row_of_probe q) at rows) ≡ (if is_same at s then 1 + count_round s rows else count_round s rows)
counts_probe (probe.Decision r base) at s rows = refl
counts_probe (probe.Condition r t f) at s rows = refl
counts_probe (probe.Switch r) at s rows = refl

counts_opens : (qs : List Probe) (at s : Span) (rows : List Row)
    → count_round s (opens qs at rows) ≡ more (is_same at s) (length qs) (count_round s rows)
counts_opens [] at s rows = sym (none_more (is_same at s) (count_round s rows))
counts_opens (q ∷ qs) at s rows =
    counts_opens qs at s (row (row_of_probe q) at rows)
    ∙ ap (more (is_same at s) (length qs)) (counts_probe q at s rows)
    ∙ one_more (is_same at s) (length qs) (count_round s rows)

counts_ends : (qs : List Probe) (at s : Span) (later : List Row)
    → count_round s (ends qs at later) ≡ count_round s later
counts_ends [] at s later = refl
counts_ends (q ∷ qs) at s later = counts_ends qs at s later

without_total : (s : Span) (all : List Span) (cs : List Claim) → total s (without all cs) ≡ total s cs
without_total s [] cs = refl
without_total s (at ∷ all) cs = none_more (is_same at s) (total s (without all cs)) ∙ without_total s all cs

-- as many rows as claimed
record Same (s : Span) (rows : List Row) (cs : List Claim) : Type 0 where
  same : count_round s rows ≡ total s cs

after : (s : Span) (all : List Span) {rows : List Row} {cs : List Claim} → Same s rows cs → Same s rows (without all cs)
after s all {cs = cs} h = record { same = h.same ∙ sym (without_total s all cs) }

beside : (at s : Span) {rows : List Row} {cs : List Claim} → Same s rows cs → Same s rows (stands at 0 ∷ cs)
beside at s {cs = cs} h = record { same = h.same ∙ sym (none_more (is_same at s) (total s cs)) }

-- ---- expressions

mutual
  bare_counts : (s : Span) {a : Expression} {rows later : List Row} (p : Bare a rows later) {cs : List Claim}
      → Same s later cs → Same s rows (bare_claims p cs)
  bare_counts s puts.named h = h
  bare_counts s puts.constant h = h
  bare_counts s puts.character h = h
  bare_counts s (puts.call p) h = all_counts s p h
  bare_counts s (puts.call_without {given = given}) h = after s _ h
  bare_counts s (puts.index p q) h = counts s p (counts s q h)
  bare_counts s (puts.member p) h = counts s p h
  bare_counts s (puts.step_after p) h = counts s p h
  bare_counts s (puts.step_before p) h = counts s p h
  bare_counts s (puts.unary p) h = counts s p h
  bare_counts s (puts.cast p) h = after s _ (counts s p h)
  bare_counts s (puts.binary p q) h = counts s p (counts s q h)
  bare_counts s (puts.conditional p q r) h = counts s p (counts s q (counts s r h))

  counts : (s : Span) {a : Expression} {rows later : List Row} (p : Puts a rows later) {cs : List Claim}
      → Same s later cs → Same s rows (claims p cs)
  counts s (puts.bare {a = a} {rows = rows} {later = later} qs p) h =
      record {
        same =
            counts_opens qs (span_of a) s rows
            ∙ ap (more (is_same (span_of a) s) (length qs))
            (bare_counts s p (record { same = counts_ends qs (span_of a) s later ∙ h.same })).same;
      }
  counts s (puts.inside {span = span} p) h = beside span s (counts s p h)
  counts s (puts.assignment {span = span} p q) h = beside span s (counts s p (counts s q h))
  counts s (puts.comma {span = span} p) h = beside span s (all_counts s p h)

  all_counts : (s : Span) {all : Expressions} {rows later : List Row} (p : PutsAll all rows later) {cs : List Claim}
      → Same s later cs → Same s rows (all_claims p cs)
  all_counts s puts.no_expressions h = h
  all_counts s (puts.expressions p q) h = counts s p (all_counts s q h)

-- ---- declarations

mutual
  initial_counts : (s : Span) {i : Initializer} {rows later : List Row} (p : PutsInitial i rows later) {cs : List Claim}
      → Same s later cs → Same s rows (initial_claims p cs)
  initial_counts s (puts.single p) h = counts s p h
  initial_counts s (puts.braced p) h = initials_counts s p h
  initial_counts s puts.initial_without h = after s _ h

  initials_counts : (s : Span) {all : Initializers} {rows later : List Row} (p : PutsInitials all rows later)
      {cs : List Claim} → Same s later cs → Same s rows (initials_claims p cs)
  initials_counts s puts.no_initials h = h
  initials_counts s (puts.initials p q) h = initial_counts s p (initials_counts s q h)

declarators_counts : (s : Span) {ds : List InitDeclarator} {rows later : List Row} (p : PutsDeclarators ds rows later)
    {cs : List Claim} → Same s later cs → Same s rows (declarators_claims p cs)
declarators_counts s puts.no_declarators h = h
declarators_counts s (puts.declared p) h = after s _ (declarators_counts s p h)
declarators_counts s (puts.initialized p q) h = after s _ (initial_counts s p (declarators_counts s q h))

declaration_counts : (s : Span) {d : Declaration} {rows later : List Row} (p : PutsDeclaration d rows later)
    {cs : List Claim} → Same s later cs → Same s rows (declaration_claims p cs)
declaration_counts s (puts.declaration p) h = after s _ (declarators_counts s p h)
declaration_counts s puts.declaration_without h = after s _ h

-- ---- statements

optional_counts : (s : Span) {a : Option Expression} {rows later : List Row} (p : PutsOptional a rows later)
    {cs : List Claim} → Same s later cs → Same s rows (optional_claims p cs)
optional_counts s puts.nothing h = h
optional_counts s (puts.something p) h = counts s p h

start_counts : (s : Span) {a : ForStart} {rows later : List Row} (p : PutsStart a rows later)
    {cs : List Claim} → Same s later cs → Same s rows (start_claims p cs)
start_counts s (puts.starts_local p) h = declaration_counts s p h
start_counts s (puts.starts_expression p) h = optional_counts s p h

default_counts : (s : Span) {one : Statement} {rows later : List Row} {cs : List Claim} → PutsDefault one rows later
    → Same s later cs → Same s rows cs
default_counts s (puts.no_default e) h = h
default_counts s (puts.absent_default e) h = record { same = h.same }

mutual
  inside_counts : (s : Span) {one : Statement} {rows later : List Row} (p : PutsInside one rows later)
      {cs : List Claim} → Same s later cs → Same s rows (inside_claims p cs)
  inside_counts s puts.null h = h
  inside_counts s (puts.effect p) h = counts s p h
  inside_counts s (puts.if_only p q) h = counts s p (statement_counts s q h)
  inside_counts s (puts.if_else p q r) h = counts s p (statement_counts s q (statement_counts s r h))
  inside_counts s (puts.switch p q) h = counts s p (statement_counts s q h)
  inside_counts s (puts.while p q) h = counts s p (statement_counts s q h)
  inside_counts s (puts.do_while p q) h = statement_counts s p (counts s q h)
  inside_counts s (puts.for p q r v) h =
      start_counts s p (optional_counts s q (optional_counts s r (statement_counts s v h)))
  inside_counts s puts.break h = h
  inside_counts s puts.continue h = h
  inside_counts s puts.return_nothing h = record { same = h.same }
  inside_counts s (puts.return_value p) h = record { same = (counts s p (record { same = h.same })).same }

  statement_counts : (s : Span) {one : Statement} {rows later : List Row} (p : PutsStatement one rows later)
      {cs : List Claim} → Same s later cs → Same s rows (statement_claims p cs)
  statement_counts s (puts.compound p) h = block_counts s p h
  statement_counts s (puts.counted p q) h =
      record { same = (inside_counts s p (default_counts s q (record { same = h.same }))).same }
  statement_counts s (puts.case_label p) h = record { same = (after s _ (statement_counts s p h)).same }
  statement_counts s (puts.default_label p) h = record { same = (statement_counts s p h).same }

  block_counts : (s : Span) {b : BlockItems} {rows later : List Row} (p : PutsBlock b rows later)
      {cs : List Claim} → Same s later cs → Same s rows (block_claims p cs)
  block_counts s puts.no_items h = h
  block_counts s (puts.counted_local e p q) h =
      record { same = (declaration_counts s p (block_counts s q h)).same }
  block_counts s (puts.local p q) h = record { same = (declaration_counts s p (block_counts s q h)).same }
  block_counts s (puts.statement p q) h = statement_counts s p (block_counts s q h)

-- ---- units

registers_count : (s name : Span) (end : ℕ) {rows later : List Row} {cs : List Claim}
    → PutsRegisters name end rows later → Same s later cs → Same s rows cs
registers_count s name end puts.no_registers h = record { same = h.same }
registers_count s name end puts.registers h = record { same = h.same }

exit_counts : (s name : Span) (end : ℕ) {rows later : List Row} {cs : List Claim}
    → PutsExit name end rows later → Same s later cs → Same s rows cs
exit_counts s name end puts.no_exit h = h
exit_counts s name end puts.exit h = record { same = h.same }

unit_same : (s : Span) {unit : List Item} {rows : List Row} (p : PutsUnit unit rows) → Same s rows (unit_claims p)
unit_same s puts.no_functions = record { same = refl }
unit_same s (puts.declared_item p) = after s _ (unit_same s p)
unit_same s (puts.defined r p x e q) =
    registers_count s _ _ r (after s _ (after s _ (block_counts s p (exit_counts s _ _ x (unit_same s q)))))

pub unit_counts : {unit : List Item} {rows : List Row} (p : PutsUnit unit rows) (s : Span)
    → count_round s rows ≡ total s (unit_claims p)
unit_counts p s = (unit_same s p).same
