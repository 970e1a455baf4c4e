-- What is found of the statements of a body, at other places.
use Rattle.std.proofs.Common.{◌≡◌, ℕ, List, [], ◌∷◌, Option, Some, None, refl, sym, ap, ◌∙◌}
use Rattle.mc_span.specs.declared.span.Span.{Span}
use Rattle.mc_tree.specs.Tree.{Expression, Expressions, Declaration, ForStart, Statement, BlockItems, span_of}
use Rattle.mc_tree.specs.Tree as tree
use Rattle.mc_typed.specs.Tree.{Effect}
use Rattle.mc_typed.specs.Tree as t
use Rattle.types_faults.specs.declared.fault.FaultKind.TheVariants.{Mismatch}
use Rattle.types_rules.specs.Scopes.{Scope, block}
use Rattle.types_rules.specs.Values.{Judged}
use Rattle.types_rules.specs.Declarations.{append, judge_declaration}
use Rattle.types_rules.specs.Judgement.{judge}
use Rattle.types_rules.specs.Statements.{Around, inside, in_loop, in_switch, compound_scope, declaration_judged, case_judged}
use Rattle.types_rules.specs.Bodies.{listed, judge_effect, judge_clauses, judge_part, judge_optional_part, judge_start, judge_test, no_start, no_step, span_of_declaration, judge_statement, judge_block}
use Rattle.reread_law_texts.specs.alike.Moves.{Move, moved_span}
use Rattle.reread_law_texts.specs.alike.Trees.{moved, moved_expressions, moved_declaration, moved_optional, moved_start, moved_statement, moved_block}
use Rattle.reread_law_places.specs.natural.Moved.{moved_effect, moved_effects}
use Rattle.reread_law_places.specs.natural.Settled.{settled_effect, settled_effects}
use Rattle.reread_law_places.proofs.Natural.Basics.{both, none, same2, Goes}
use Rattle.reread_law_places.proofs.Natural.Basics as basics
use Rattle.reread_law_places.proofs.Natural.Words.{start_kept}
use Rattle.reread_law_places.proofs.Natural.Related.{Both, neither, each, map_both, lift2_both}
use Rattle.reread_law_places.proofs.Natural.Judgement.{go}
use Rattle.reread_law_places.proofs.Natural.Declarations.{declaration_go}
use Rattle.reread_law_places.proofs.Natural.Statements.{Runs, Acts_as, Clauses, Starts, Tests, followed_goes, closed_goes, compound_goes, declaration_goes, effect_goes, effect_statement_goes, if_goes, if_else_goes, switch_scopes, switch_goes, case_goes, default_goes, test_goes, do_goes, loop_goes, effects_start_goes, declaration_start_goes, return_nothing_goes, return_goes, break_goes, continue_goes, leaf_goes}

-- ---- the parts of a `for`

effect_go : (m : Move) (a : Expression) {s u : Scope} → s ≡ u → Goes m (Both (Acts_as m)) (judge_effect (moved m a) s) (judge_effect a u)
effect_go m a h = effect_goes m a (go m a h)

listed_goes : (m : Move) {x y : Judged Effect} → Goes m (Both (Acts_as m)) x y → Goes m (Both (Clauses m)) (listed x) (listed y)
listed_goes m h = record {
  faults = h.faults;
  value = map_both (Clauses m) (λ effect. effect ∷ []) (λ effect. effect ∷ []) (λ x y e. ap (λ effect. effect ∷ []) e) h.value;
  scope = h.scope;
}

appended_settled : (x y : List Effect) → settled_effects (append x y) ≡ append (settled_effects x) (settled_effects y)
appended_settled [] y = refl
appended_settled (a ∷ x) y = ap (λ l. settled_effect a ∷ l) (appended_settled x y)

appended_moved : (m : Move) (x y : List Effect) → moved_effects m (append x y) ≡ append (moved_effects m x) (moved_effects m y)
appended_moved m [] y = refl
appended_moved m (a ∷ x) y = ap (λ l. moved_effect m a ∷ l) (appended_moved m x y)

appended : (m : Move) (x y v w : List Effect) → Clauses m x y → Clauses m v w → Clauses m (append x v) (append y w)
appended m x y v w e f =
    appended_settled x v ∙ same2 append e f ∙ sym (appended_settled (moved_effects m y) (moved_effects m w)) ∙ ap settled_effects (sym (appended_moved m y w))

clauses_go : (m : Move) (all : Expressions) {s u : Scope} → s ≡ u → Goes m (Both (Clauses m)) (judge_clauses (moved_expressions m all) s) (judge_clauses all u)
clauses_go m tree.no_expressions h = record { faults = none; value = each refl; scope = h }
clauses_go m (tree.expressions a rest) h =
    let x = listed_goes m (effect_go m a h) in
    let y = clauses_go m rest x.scope in
    record { faults = both x.faults (both y.faults none); value = lift2_both (Clauses m) append append (appended m) x.value y.value; scope = y.scope }

part_go : (m : Move) (a : Expression) {s u : Scope} → s ≡ u → Goes m (Both (Clauses m)) (judge_part (moved m a) s) (judge_part a u)
part_go m (tree.Comma all span) h = clauses_go m all h
part_go m (tree.Named name) h = listed_goes m (effect_go m (tree.Named name) h)
part_go m (tree.Constant v decimal unsigned longs span) h = listed_goes m (effect_go m (tree.Constant v decimal unsigned longs span) h)
part_go m (tree.Character v span) h = listed_goes m (effect_go m (tree.Character v span) h)
part_go m (tree.Parenthesized a span) h = listed_goes m (effect_go m (tree.Parenthesized a span) h)
part_go m (tree.Call name given span) h = listed_goes m (effect_go m (tree.Call name given span) h)
part_go m (tree.Index a b span) h = listed_goes m (effect_go m (tree.Index a b span) h)
part_go m (tree.Member a name span) h = listed_goes m (effect_go m (tree.Member a name span) h)
part_go m (tree.PostfixStep operator a span) h = listed_goes m (effect_go m (tree.PostfixStep operator a span) h)
part_go m (tree.PrefixStep operator a span) h = listed_goes m (effect_go m (tree.PrefixStep operator a span) h)
part_go m (tree.Unary operator a span) h = listed_goes m (effect_go m (tree.Unary operator a span) h)
part_go m (tree.Cast type a span) h = listed_goes m (effect_go m (tree.Cast type a span) h)
part_go m (tree.Binary operator a b span) h = listed_goes m (effect_go m (tree.Binary operator a b span) h)
part_go m (tree.Conditional a b c span) h = listed_goes m (effect_go m (tree.Conditional a b c span) h)
part_go m (tree.Assignment operator a b span) h = listed_goes m (effect_go m (tree.Assignment operator a b span) h)

optional_part_go : (m : Move) (a : Option Expression) {s u : Scope} → s ≡ u → Goes m (Both (Clauses m)) (judge_optional_part (moved_optional m a) s) (judge_optional_part a u)
optional_part_go m None h = record { faults = none; value = each refl; scope = h }
optional_part_go m (Some a) h = part_go m a h

start_go : (m : Move) (start : ForStart) {s u : Scope} → s ≡ u → Goes m (Both (Starts m)) (judge_start (moved_start m start) s) (judge_start start u)
start_go m (tree.StartsLocal d) h = declaration_start_goes m (declaration_go m d h)
start_go m (tree.StartsExpression a) h = effects_start_goes m (optional_part_go m a h)

test_go : (m : Move) (at : ℕ) (a : Option Expression) {s u : Scope} → s ≡ u → Goes m (Both (Tests m)) (judge_test (m.start at) (moved_optional m a) s) (judge_test at a u)
test_go m at None h = record { faults = none; value = each refl; scope = h }
test_go m at (Some a) h = test_goes m at (go m a h)

no_start_go : (m : Move) {s u : Scope} → s ≡ u → Goes m (Both (Starts m)) (no_start s) (no_start u)
no_start_go m h = record { faults = none; value = each refl; scope = h }

no_step_go : (m : Move) {s u : Scope} → s ≡ u → Goes m (Both (Clauses m)) (no_step s) (no_step u)
no_step_go m h = record { faults = none; value = each refl; scope = h }

declaration_span : (m : Move) (d : Declaration) → span_of_declaration (moved_declaration m d) ≡ moved_span m (span_of_declaration d)
declaration_span m (tree.declaration all ds span) = refl

local_go : (m : Move) (d : Declaration) {s u : Scope} → s ≡ u
    → Goes m (Both (Runs m)) (declaration_judged (span_of_declaration (moved_declaration m d)) (judge_declaration (moved_declaration m d) s)) (declaration_judged (span_of_declaration d) (judge_declaration d u))
local_go m d h = rw (declaration_span m d) (declaration_goes m (span_of_declaration d) (declaration_go m d h))

case_go : (m : Move) (a : Expression) (label : Span) {s u : Scope} → s ≡ u
    → Goes m (Both (Runs m)) (case_judged (moved_span m label) (span_of (moved m a)).start (judge (moved m a) s)) (case_judged label (span_of a).start (judge a u))
case_go m a label h = rw (start_kept m a) (case_goes m label (span_of a).start (go m a h))

-- ---- statements

mutual
  pub statement_go : (m : Move) (w : Around) (one : Statement) {s u : Scope} → s ≡ u → Goes m (Both (Runs m)) (judge_statement w (moved_statement m one) s) (judge_statement w one u)
  statement_go m w (tree.Compound items span) h = compound_goes m span (closed_goes m (Both (Runs m)) h (block_go m (inside w) items (ap (compound_scope w) h)))
  statement_go m w (tree.Null span) h = leaf_goes m (t.Null (moved_span m span)) (t.Null span) refl h
  statement_go m w (tree.ExpressionStatement a span) h = effect_statement_goes m span (effect_go m a h)
  statement_go m w (tree.If a one span) h =
      let x = go m a h in
      if_goes m span x (closed_goes m (Both (Runs m)) x.scope (statement_go m (inside w) one (ap block x.scope)))
  statement_go m w (tree.IfElse a one other span) h =
      let x = go m a h in
      let y = closed_goes m (Both (Runs m)) x.scope (statement_go m (inside w) one (ap block x.scope)) in
      if_else_goes m span x y (closed_goes m (Both (Runs m)) y.scope (statement_go m (inside w) other (ap block y.scope)))
  statement_go m w (tree.Switch a body span) h =
      let x = go m a h in
      switch_goes m span body x (closed_goes m (Both (Runs m)) x.scope (statement_go m (in_switch w) body (switch_scopes x)))
  statement_go m w (tree.While a one span) h =
      let x = no_start_go m h in
      let y = test_go m span.start (Some a) x.scope in
      let z = no_step_go m y.scope in
      loop_goes m 5 span x y z (closed_goes m (Both (Runs m)) z.scope (statement_go m (in_loop w) one (ap block z.scope)))
  statement_go m w (tree.DoWhile one a span) h =
      let x = closed_goes m (Both (Runs m)) h (statement_go m (in_loop w) one (ap block h)) in
      do_goes m span x (go m a x.scope)
  statement_go m w (tree.For start test step one span) h =
      let x = start_go m start (ap block h) in
      let y = test_go m span.start test x.scope in
      let z = optional_part_go m step y.scope in
      closed_goes m (Both (Runs m)) h (loop_goes m 3 span x y z (closed_goes m (Both (Runs m)) z.scope (statement_go m (in_loop w) one (ap block z.scope))))
  statement_go m w (tree.Case a label one span) h = let x = case_go m a label h in followed_goes m x (statement_go m (inside w) one x.scope)
  statement_go m w (tree.Default label one span) h = let x = default_goes m label h in followed_goes m x (statement_go m (inside w) one x.scope)
  statement_go m w (tree.Label name one span) h =
      let x = statement_go m (inside w) one h in
      record { faults = both (basics.one m Mismatch span.start) x.faults; value = neither; scope = x.scope }
  statement_go m w (tree.Goto name span) h = record { faults = basics.one m Mismatch span.start; value = neither; scope = h }
  statement_go m w (tree.Break span) h = break_goes m w span h
  statement_go m w (tree.Continue span) h = continue_goes m w span h
  statement_go m w (tree.Return None span) h = return_nothing_goes m w.result span h
  statement_go m w (tree.Return (Some a) span) h = return_goes m w.result span (go m a h)

  pub block_go : (m : Move) (w : Around) (items : BlockItems) {s u : Scope} → s ≡ u → Goes m (Both (Runs m)) (judge_block w (moved_block m items) s) (judge_block w items u)
  block_go m w tree.no_block_items h = record { faults = none; value = each refl; scope = h }
  block_go m w (tree.local d rest) h = let x = local_go m d h in followed_goes m x (block_go m w rest x.scope)
  block_go m w (tree.statement one rest) h = let x = statement_go m w one h in followed_goes m x (block_go m w rest x.scope)
