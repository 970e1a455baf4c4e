-- The walk over statements and items takes the probes of their rows.
use Rattle.std.proofs.Common.{◌≡◌, ℕ, Bool, true, false, ◌==◌, ◌&&◌, ◌||◌, List, [], ◌∷◌, Some, if◌then◌else◌, refl, sym, ap, subst, ◌∙◌}
use Rattle.std.proofs.lemmas.Bool.{eqb-true, ne_eqb}
use Rattle.mc_span.specs.declared.span.Span.{Span}
use Rattle.mc_tree.specs.Tree.{Statement, BlockItems, Item, name_of, span_of_statement}
use Rattle.mc_tree.specs.Tree as tree
use Rattle.reread_pieces.specs.declared.piece.What.{What}
use Rattle.reread_pieces.specs.declared.piece.What.TheVariants as what
use Rattle.reread_probes.specs.declared.probe.Probe.{Probe}
use Rattle.reread_probes.specs.declared.spot.Spot.{Spot}
use Rattle.reread_probes.specs.declared.spot.Spot.TheVariants as spot
use Rattle.reread_probes.specs.Walks.{Walk, is_row, stands, passed, passed_if, may_take, must_take}
use Rattle.reread_probes.specs.Expressions.{walk_expression, walk_specifiers, walk_declarator}
use Rattle.reread_probes.specs.Statements.{walk_declaration, walk_optional, walk_start, is_counted_local, span_of_declaration, take_local, lacks_default, take_default, take_label, leave_value, walk_statement, walk_block, enter_body, leave_body, walk_items}
use Rattle.reread_law_texts.specs.weave.Brackets.{Brackets}
use Rattle.reread_law_texts.specs.weave.Trees.{bracketed, bracketed_specifiers, bracketed_declarator, bracketed_declaration, bracketed_optional, bracketed_start, bracketed_statement, bracketed_block, bracketed_unit}
use Rattle.reread_law_rows.specs.inserted.Rows.{Row, row}
use Rattle.reread_law_rows.specs.inserted.Signs.{is_counted}
use Rattle.reread_law_rows.specs.inserted.Seats.{probe_rows, AreThere, Seat}
use Rattle.reread_law_texts.specs.apart.Distinct.{Each}
use Rattle.reread_law_texts.specs.apart.Places.{spans, spans_in_specifiers, spans_in_declarator, spans_in_declaration}
use Rattle.reread_law_texts.specs.apart.Enclosed.{EnclosesInStatement, EnclosesInBlock, EnclosesInUnit}
use Rattle.reread_law_rows.proofs.Taken.Puts.{is_exit, BeginsAnew, PutsDefault, PutsInside, PutsStatement, PutsBlock, PutsRegisters, PutsExit, PutsUnit}
use Rattle.reread_law_rows.proofs.Taken.Puts as puts
use Rattle.reread_law_rows.proofs.Taken.Claims.{Claim, StartsElsewhereBy, StartsElsewhere, without, claims, optional_claims, inside_claims, statement_claims, block_claims, unit_claims}
use Rattle.reread_law_rows.proofs.Taken.Right.{same_self}
use Rattle.reread_law_rows.proofs.Taken.Steps.{Holds, and_false, claimed, may, must, may_not, passed_holds, stands_first, stands_not, skip_statement, skip_return}
use Rattle.reread_law_rows.proofs.Taken.Still.{expression_still, specifiers_still, declarator_still, declaration_still}
use Rattle.reread_law_rows.proofs.Taken.Blocks.{core, counting, counted_walk, compound_walk, local_walk, same_name}
use Rattle.reread_law_rows.proofs.Taken.WalkedExpressions.{same_walk, past, walked, declaration_walked, optional_walked, start_walked}

-- ---- a declaration without a row

false_and : (a b : Bool) → b ≡ false → (a && b) ≡ false
false_and true b e = e
false_and false b e = refl

other_next : (start next at : ℕ) → (next == start) ≡ true → (start ≡ at → ⊥) → (next == at) ≡ false
other_next start next at e h = ne_eqb next at (λ k. h (sym (eqb-true next start e) ∙ k))

by_what : (at : ℕ) (w : What) (s : Span) (end : ℕ) (rows : List Row) (qs : List Probe)
    → (AreThere (probe_rows rows) qs → stands (spot.Declaration at) qs ≡ false) → StartsElsewhereBy w at s.start
    → AreThere (probe_rows (record { what = w; span = s; end = end } ∷ rows)) qs
    → stands (spot.Declaration at) qs ≡ false
by_what at what.Source s end rows qs later h k = later k
by_what at (what.Opening b) s end rows qs later h k = later k
by_what at what.Closing s end rows qs later h k = later k
by_what at what.StatementEnd s end rows qs later h k = later k
by_what at what.ReturnEnd s end rows qs later h k = later k
by_what at what.OperandEnd s end rows qs later h k = later k
by_what at (what.Declaration b) s end rows [] later h k = absurd k
by_what at (what.Declaration b) s end rows (q ∷ qs) later h k =
    false_and (is_row (spot.Declaration at) q.what) (q.next == at) (other_next s.start q.next at k.0.1 h)
by_what at w s end rows [] later h k = absurd k
by_what at w s end rows (q ∷ qs) later h k =
    and_false (is_row (spot.Declaration at) q.what) (q.next == at) (ap (is_row (spot.Declaration at)) k.0.0)

not_begun : (at : ℕ) (rows : List Row) (qs : List Probe) → Each (StartsElsewhere at) rows → AreThere (probe_rows rows) qs
    → stands (spot.Declaration at) qs ≡ false
not_begun at [] [] h k = refl
not_begun at [] (q ∷ qs) h k = absurd k
not_begun at (r ∷ rows) qs h k = by_what at r.what r.span r.end rows qs (not_begun at rows qs h.1) h.0 k

local_not : (at : Span) (b : Bool) {w : Brackets} {all : List Seat} {rows : List Row} {cs : List Claim} {walk : Walk}
    → Each (StartsElsewhere at.start) rows → Holds w all rows cs walk
    → Holds w all rows cs (if b then take_local at walk else walk)
local_not at true {rows = rows} {walk = walk} h k =
    may_not (spot.Declaration at.start) at (not_begun at.start rows walk.left h k.there) k
local_not at false h k = k

-- ---- statements

in_braces : (w : Brackets) {all : List Seat} {bit : ℕ} {at : Span} {rows : List Row} {cs : List Claim} {walk : Walk}
    → Holds w all (row (what.Statement bit) at rows) cs walk → w.braces at ≡ true
in_braces w {at = at} {rows = rows} h = h.braces at (ap (λ b. b || is_counted at rows) (same_self at))

default_walked : {w : Brackets} {all : List Seat} {s : Statement} {rows later : List Row} {cs : List Claim} {walk : Walk}
    → PutsDefault s rows later → Holds w all rows cs walk
    → Holds w all later cs (take_default (counting (span_of_statement s) (lacks_default s)) walk)
default_walked {w = w} {all = all} {s = s} {later = later} {cs = cs} {walk = walk} (puts.no_default e) h =
    subst (λ (b : Bool). Holds w all later cs (if b then may_take (spot.Default (span_of_statement s).end) (span_of_statement s) walk else walk))
    (sym e) h
default_walked {w = w} {all = all} {s = s} {later = later} {cs = cs} {walk = walk} (puts.absent_default {r = r} {b = b} e) h =
    subst (λ (b : Bool). Holds w all later cs (if b then may_take (spot.Default (span_of_statement s).end) (span_of_statement s) walk else walk))
    (sym e)
    (may (spot.Default (span_of_statement s).end)
    (record { what = what.Default r b; span = span_of_statement s; end = (span_of_statement s).end }) refl refl refl refl h)

mutual
  inside_walked : {w : Brackets} {all : List Seat} {s : Statement} {rows later : List Row} (p : PutsInside s rows later)
      (cs : List Claim) (walk : Walk) → EnclosesInStatement s → Holds w all rows (inside_claims p cs) walk
      → Holds w all later cs (walk_statement (core w s) walk)
  inside_walked puts.null cs walk e h = h
  inside_walked (puts.effect p) cs walk e h = walked p cs walk e h
  inside_walked {w = w} (puts.if_only {a = a} p q) cs walk e h =
      statement_walked q cs (walk_expression (bracketed w a) walk) e.1 (walked p (statement_claims q cs) walk e.0 h)
  inside_walked {w = w} (puts.if_else {a = a} {s = s} p q r) cs walk e h =
      statement_walked r cs (walk_statement (bracketed_statement w s) (walk_expression (bracketed w a) walk)) e.2
      (statement_walked q (statement_claims r cs) (walk_expression (bracketed w a) walk) e.1
      (walked p (statement_claims q (statement_claims r cs)) walk e.0 h))
  inside_walked {w = w} (puts.switch {a = a} p q) cs walk e h =
      statement_walked q cs (walk_expression (bracketed w a) walk) e.1 (walked p (statement_claims q cs) walk e.0 h)
  inside_walked {w = w} (puts.while {a = a} p q) cs walk e h =
      statement_walked q cs (walk_expression (bracketed w a) walk) e.1 (walked p (statement_claims q cs) walk e.0 h)
  inside_walked {w = w} (puts.do_while {s = s} p q) cs walk e h =
      walked q cs (walk_statement (bracketed_statement w s) walk) e.1 (statement_walked p (claims q cs) walk e.0 h)
  inside_walked {w = w} (puts.for {start = start} {a = a} {b = b} p q r v) cs walk e h =
      statement_walked v cs
      (walk_optional (bracketed_optional w b) (walk_optional (bracketed_optional w a) (walk_start (bracketed_start w start) walk))) e.3
      (optional_walked r (statement_claims v cs) (walk_optional (bracketed_optional w a) (walk_start (bracketed_start w start) walk)) e.2
      (optional_walked q (optional_claims r (statement_claims v cs)) (walk_start (bracketed_start w start) walk) e.1
      (start_walked p (optional_claims q (optional_claims r (statement_claims v cs))) walk e.0 h)))
  inside_walked puts.break cs walk e h = h
  inside_walked puts.continue cs walk e h = h
  inside_walked (puts.return_nothing {span = span} {b = b}) cs walk e h =
      skip_return (may (spot.Return span.start) (record { what = what.Return b; span = span; end = span.end }) refl refl refl refl h)
  inside_walked {w = w} (puts.return_value {a = a} {span = span} {b = b} p) cs walk e h =
      let value : Row = record { what = what.Value; span = span; end = span.end } in
      same_walk (walk_statement (core w (tree.Return (Some a) span)) walk)
      (ap (λ (x : Bool). leave_value x span (walk_expression (bracketed w a) (passed_if x walk)))
      (stands_first (spot.Value span.start) value refl refl refl h))
      (must spot.ValueEnd (record { what = what.ValueEnd b; span = span; end = span.end }) refl refl refl refl
      (walked p cs (passed walk) e (passed_holds value refl refl h)))

  statement_walked : {w : Brackets} {all : List Seat} {s : Statement} {rows later : List Row} (p : PutsStatement s rows later)
      (cs : List Claim) (walk : Walk) → EnclosesInStatement s → Holds w all rows (statement_claims p cs) walk
      → Holds w all later cs (walk_statement (bracketed_statement w s) walk)
  statement_walked {w = w} (puts.compound {b = b} {span = span} p) cs walk e h =
      same_walk (walk_statement (tree.Compound (bracketed_block w b) span) walk) (compound_walk w b span walk e.0)
      (block_walked p cs walk e.1 h)
  statement_walked {w = w} (puts.counted {s = s} {bit = bit} p q) cs walk e h =
      same_walk (walk_statement (bracketed_statement w s) walk) (counted_walk w p walk (in_braces w h))
      (skip_statement (default_walked q
      (inside_walked p cs (must_take (spot.Statement (span_of_statement s).start) (span_of_statement s) walk) e
      (must (spot.Statement (span_of_statement s).start)
      (record { what = what.Statement bit; span = span_of_statement s; end = (span_of_statement s).end }) refl refl refl refl h))))
  statement_walked {w = w} (puts.case_label {a = a} {label = label} {span = span} {s = s} {r = r} {b = b} p) cs walk e h =
      same_walk (walk_statement (bracketed_statement w (tree.Case a label s span)) walk)
      (ap (λ z. walk_statement (bracketed_statement w s) (take_label label z))
      (expression_still w a (statement_claims p cs) walk e.0 h.claims))
      (statement_walked p cs (may_take (spot.Label label.end) label walk) e.1
      (may (spot.Label label.end) (record { what = what.Label r b; span = label; end = label.end }) refl refl refl refl
      (past (spans a []) h)))
  statement_walked {w = w} (puts.default_label {label = label} {r = r} {b = b} p) cs walk e h =
      statement_walked p cs (may_take (spot.Label label.end) label walk) e
      (may (spot.Label label.end) (record { what = what.Label r b; span = label; end = label.end }) refl refl refl refl h)

  block_walked : {w : Brackets} {all : List Seat} {b : BlockItems} {rows later : List Row} (p : PutsBlock b rows later)
      (cs : List Claim) (walk : Walk) → EnclosesInBlock b → Holds w all rows (block_claims p cs) walk
      → Holds w all later cs (walk_block (bracketed_block w b) walk)
  block_walked puts.no_items cs walk e h = h
  block_walked {w = w} (puts.counted_local {d = d} {rest = rest} {bit = bit} k p q) cs walk e h =
      let at = span_of_declaration d in
      let walk2 = take_local at walk in
      same_walk (walk_block (bracketed_block w (tree.local d rest)) walk)
      (ap (λ z. walk_block (bracketed_block w rest) (walk_declaration (bracketed_declaration w d) z))
      (local_walk w d walk ∙ ap (λ (x : Bool). if x then take_local at walk else walk) k))
      (block_walked q cs (walk_declaration (bracketed_declaration w d) walk2) e.1
      (declaration_walked p (block_claims q cs) walk2 e.0
      (may (spot.Declaration at.start) (record { what = what.Declaration bit; span = at; end = at.end }) refl refl refl refl h)))
  block_walked {w = w} (puts.local {d = d} {rest = rest} p q) cs walk e h =
      let at = span_of_declaration d in
      let walk2 = if is_counted_local d then take_local at walk else walk in
      same_walk (walk_block (bracketed_block w (tree.local d rest)) walk)
      (ap (λ z. walk_block (bracketed_block w rest) (walk_declaration (bracketed_declaration w d) z)) (local_walk w d walk))
      (block_walked q cs (walk_declaration (bracketed_declaration w d) walk2) e.1
      (declaration_walked p (block_claims q cs) walk2 e.0
      (local_not at (is_counted_local d) h.claims.0 (claimed h))))
  block_walked {w = w} (puts.statement {s = s} p q) cs walk e h =
      block_walked q cs (walk_statement (bracketed_statement w s) walk) e.1
      (statement_walked p (block_claims q cs) walk e.0 h)

-- ---- functions

registers_walked : {name : Span} {end : ℕ} {w : Brackets} {all : List Seat} {rows later : List Row} {cs : List Claim}
    {walk : Walk} → PutsRegisters name end rows later → Holds w all rows cs walk
    → Holds w all later cs (enter_body name end walk)
registers_walked {name = name} {end = end} (puts.no_registers {b = b}) h =
    let entry : Row = record { what = what.Entry b; span = name; end = end } in
    may (spot.Entry end) entry refl refl refl refl
    (may_not (spot.Registers end) name (stands_not (spot.Registers end) entry refl refl h) h)
registers_walked {name = name} {end = end} (puts.registers {n = n} {b = b}) h =
    may (spot.Entry end) (record { what = what.Entry b; span = name; end = end }) refl refl refl refl
    (may (spot.Registers end) (record { what = what.Registers n; span = name; end = end }) refl refl refl refl h)

exits : (end : ℕ) (x : What) → is_exit x ≡ false → is_row (spot.Exit end) x ≡ false
exits end (what.Exit b) e = e
exits end x e = refl

anew : (end : ℕ) {w : Brackets} {all : List Seat} (later : List Row) {cs : List Claim} {walk : Walk}
    → BeginsAnew later → Holds w all later cs walk → stands (spot.Exit end) walk.left ≡ false
anew end [] {walk = walk} k h = none_stands (spot.Exit end) walk.left h.there
  where
    none_stands : (s : Spot) (qs : List Probe) → AreThere [] qs → stands s qs ≡ false
    none_stands s [] k = refl
    none_stands s (q ∷ qs) k = absurd k
anew end (r ∷ later) k h = stands_not (spot.Exit end) r k.0 (exits end r.what k.1) h

exit_walked : {name : Span} {end : ℕ} {w : Brackets} {all : List Seat} {rows later : List Row} {cs : List Claim}
    {walk : Walk} → PutsExit name end rows later → BeginsAnew later → Holds w all rows cs walk
    → Holds w all later cs (leave_body name end walk)
exit_walked {name = name} {end = end} {later = later} puts.no_exit k h = may_not (spot.Exit end) name (anew end later k h) h
exit_walked {name = name} {end = end} (puts.exit {b = b}) k h =
    may (spot.Exit end) (record { what = what.Exit b; span = name; end = end }) refl refl refl refl h

pub unit_walked : {w : Brackets} {all : List Seat} {unit : List Item} {rows : List Row} (p : PutsUnit unit rows) (walk : Walk)
    → EnclosesInUnit unit → Holds w all rows (unit_claims p) walk
    → Holds w all [] [] (walk_items (bracketed_unit w unit) walk)
unit_walked puts.no_functions walk e h = h
unit_walked {w = w} (puts.declared_item {d = d} {rest = rest} p) walk e h =
    same_walk (walk_items (bracketed_unit w (tree.Declared d ∷ rest)) walk)
    (ap (walk_items (bracketed_unit w rest)) (declaration_still w d (unit_claims p) walk e.0 h.claims))
    (unit_walked p walk e.1 (past (spans_in_declaration d []) h))
unit_walked {w = w} (puts.defined {words = words} {d = d} {b = b} {span = span} {rest = rest} r p x k q) walk e h =
    let name = (name_of d).span in
    let cs = block_claims p (unit_claims q) in
    let within = past (spans_in_specifiers words []) h in
    let body = enter_body name span.end walk in
    same_walk (walk_items (bracketed_unit w (tree.Defined words d b span ∷ rest)) walk)
    (ap (λ z. walk_items (bracketed_unit w rest) (leave_body z span.end (walk_block (bracketed_block w b) (enter_body z span.end
    (walk_declarator (bracketed_declarator w d) (walk_specifiers (bracketed_specifiers w words) walk)))))) (same_name w d)
    ∙ ap (λ z. walk_items (bracketed_unit w rest) (leave_body name span.end (walk_block (bracketed_block w b) (enter_body name span.end
    (walk_declarator (bracketed_declarator w d) z)))))
    (specifiers_still w words (without (spans_in_declarator d []) cs) walk e.0.1 h.claims)
    ∙ ap (λ z. walk_items (bracketed_unit w rest) (leave_body name span.end (walk_block (bracketed_block w b) (enter_body name span.end z))))
    (declarator_still w d cs walk e.0.2 within.claims))
    (unit_walked q (leave_body name span.end (walk_block (bracketed_block w b) body)) e.1
    (exit_walked x k
    (block_walked p (unit_claims q) body e.0.3 (registers_walked r (past (spans_in_declarator d []) within)))))
