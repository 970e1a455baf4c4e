-- What is found of a statement, from what is found of its parts one after another: of the faults of
-- each the least alone is kept.
use Rattle.std.proofs.Common.{◌≡◌, ◌∙◌, ℕ, List, [], ◌++◌, Option, Some, None, refl, sym, ap}
use Rattle.mc_span.specs.declared.span.Span.{Span}
use Rattle.mc_tree.specs.Tree.{span_of}
use Rattle.mc_tree.specs.Tree as t
use Rattle.mc_typed.specs.Tree.{Declarator, Effect, ForStart, Statements}
use Rattle.mc_typed.specs.Tree as typed
use Rattle.types_faults.specs.declared.fault.Fault.{Fault}
use Rattle.types_faults.specs.declared.fault.FaultKind.TheVariants.{Mismatch}
use Rattle.types_faults.specs.Faults.{fault}
use Rattle.types_rules.specs.Scopes.{Scope, block}
use Rattle.types_rules.specs.Values.{Judged, judged, Found, lift2}
use Rattle.types_rules.specs.Judgement.{judge}
use Rattle.types_rules.specs.Declarations.{judge_declaration}
use Rattle.types_rules.specs.Statements.{Around, inside, in_loop, in_switch, closed, compound_scope, compound_judged, declaration_judged, declaration_start, default_judged, do_judged, effect_judged, effect_statement_judged, effects_start, case_judged, followed, followed_judged, if_judged, if_else_judged, loop_judged, return_judged, switch_judged, switch_scope, test_judged}
use Rattle.types_rules.specs.Bodies.{judge_block, judge_clauses, judge_effect, judge_optional_part, judge_part, judge_start, judge_statement, judge_test, no_start, no_step, span_of_declaration}
use Rattle.types_rules.specs.Bodies as bodies
use Rattle.types_scopes.specs.Blocks.{around, left_by}
use Rattle.types_faults.specs.Kept.{listed, least}
use Rattle.types_scopes.specs.steps.Squeezed.{squeezed, squeezed_part}
use Rattle.types_scopes.proofs.Squeezed.{least_back, least_least}
use Rattle.types_statements.proofs.StatementNodes.{compound_node, declaration_node, declaration_start_node, do_node, effect_node, effect_statement_node, effects_start_node, case_node, followed_node, if_node, if_else_node, loop_node, return_node, switch_node, test_node}
use Rattle.mc_types.specs.Operands.{operands_in}
use Rattle.mc_types.proofs.Parts.{two_front}
use Rattle.mc_types.proofs.Arms.{one_arm, two_arm, three_arm}

abbrev after : Found → Scope
after x = x.scope

abbrev moved : Found → Scope → Found
moved x s = record x { scope = s }

abbrev after_part : {A : Type 0} → Judged A → Scope
after_part x = x.scope

abbrev moved_part : {A : Type 0} → Judged A → Scope → Judged A
moved_part x s = record x { scope = s }

-- the end of a block, whose beginning kept what was around it
pub closes : {A : Type 0} (s u : Scope) (x y : Judged A)
    → x ≡ squeezed_part y → u ≡ left_by (around s) x.scope
    → record x { scope = u } ≡ squeezed_part (closed s y)
closes {A = A} s u x y e f =
    ap (λ (v : Scope). let j : Judged A = record x { scope = v } in j) f
    ∙ ap (λ (v : Judged A). let j : Judged A = record v { scope = left_by (around s) v.scope } in j) e

-- ---- compound and expression statements

pub in_compound : (w : Around) (items : t.BlockItems) (span : Span) (s : Scope)
    (x : Judged Statements)
    → x ≡ squeezed_part (closed s (judge_block (inside w) items (compound_scope w s)))
    → squeezed_part (compound_judged span x)
    ≡ squeezed_part (judge_statement w (t.Compound items span) s)
in_compound w items span s x e =
    one_arm squeezed_part squeezed_part (compound_judged span) (λ v. compound_node span v)
    (closed s (judge_block (inside w) items (compound_scope w s))) x e

pub in_effect : (e : t.Expression) (s : Scope) (x : Found)
    → x ≡ squeezed (judge e s)
    → squeezed_part (effect_judged e x) ≡ squeezed_part (judge_effect e s)
in_effect e s x h =
    one_arm squeezed squeezed_part (effect_judged e) (λ v. effect_node e v) (judge e s) x h

pub in_effect_statement : (w : Around) (e : t.Expression) (span : Span) (s : Scope)
    (x : Judged Effect)
    → x ≡ squeezed_part (judge_effect e s)
    → squeezed_part (effect_statement_judged span x)
    ≡ squeezed_part (judge_statement w (t.ExpressionStatement e span) s)
in_effect_statement w e span s x h =
    one_arm squeezed_part squeezed_part (effect_statement_judged span)
    (λ v. effect_statement_node span v) (judge_effect e s) x h

-- ---- selection statements

pub in_if : (w : Around) (e : t.Expression) (one : t.Statement) (span : Span) (s : Scope)
    (x : Found) (y : Judged Statements)
    → x ≡ squeezed (judge e s)
    → y ≡ squeezed_part (closed x.scope (judge_statement (inside w) one (block x.scope)))
    → squeezed_part (if_judged span (record x { scope = y.scope }) y)
    ≡ squeezed_part (judge_statement w (t.If e one span) s)
in_if w e one span s x y h k =
    two_arm squeezed squeezed_part squeezed_part after moved (if_judged span)
    (λ v r u. if_node span v r u) (judge e s)
    (λ (u : Scope). closed u (judge_statement (inside w) one (block u))) x y y.scope h k refl

pub in_if_else : (w : Around) (e : t.Expression) (one other : t.Statement) (span : Span)
    (s : Scope) (x : Found) (y z : Judged Statements)
    → x ≡ squeezed (judge e s)
    → y ≡ squeezed_part (closed x.scope (judge_statement (inside w) one (block x.scope)))
    → z ≡ squeezed_part (closed y.scope (judge_statement (inside w) other (block y.scope)))
    → squeezed_part (if_else_judged span (record x { scope = z.scope })
    (record y { scope = z.scope }) z)
    ≡ squeezed_part (judge_statement w (t.IfElse e one other span) s)
in_if_else w e one other span s x y z h k l =
    three_arm squeezed squeezed_part squeezed_part squeezed_part after moved after_part moved_part
    (if_else_judged span) (λ v r q u p. if_else_node span v r q u p) (judge e s)
    (λ (u : Scope). closed u (judge_statement (inside w) one (block u)))
    (λ (u : Scope). closed u (judge_statement (inside w) other (block u)))
    x y z z.scope z.scope h k l refl (λ q. refl)

pub in_switch_statement : (w : Around) (e : t.Expression) (body : t.Statement) (span : Span)
    (s : Scope) (x : Found) (y : Judged Statements)
    → x ≡ squeezed (judge e s)
    → y ≡ squeezed_part (closed x.scope (judge_statement (in_switch w) body (switch_scope x)))
    → squeezed_part (switch_judged span body (record x { scope = y.scope }) y)
    ≡ squeezed_part (judge_statement w (t.Switch e body span) s)
in_switch_statement w e body span s x y h k =
    let p : Found = judge e s in
    let same : y ≡ squeezed_part (closed p.scope (judge_statement (in_switch w) body (switch_scope p))) =
    k ∙ ap (λ (v : Found).
    squeezed_part (closed v.scope (judge_statement (in_switch w) body (switch_scope v)))) h in
    ap (λ (v : Found). squeezed_part (switch_judged span body (record v { scope = y.scope }) y)) h
    ∙ ap (λ (v : Judged Statements).
    squeezed_part (switch_judged span body (record (squeezed p) { scope = y.scope }) v)) same
    ∙ switch_node span body p
    (closed p.scope (judge_statement (in_switch w) body (switch_scope p))) y.scope

-- ---- iteration statements

pub in_test : (at : ℕ) (e : t.Expression) (s : Scope) (x : Found)
    → x ≡ squeezed (judge e s)
    → squeezed_part (test_judged at x) ≡ squeezed_part (judge_test at (Some e) s)
in_test at e s x h =
    one_arm squeezed squeezed_part (test_judged at) (λ v. test_node at v) (judge e s) x h

pub in_do : (w : Around) (one : t.Statement) (e : t.Expression) (span : Span) (s : Scope)
    (x : Judged Statements) (y : Found)
    → x ≡ squeezed_part (closed s (judge_statement (in_loop w) one (block s)))
    → y ≡ squeezed (judge e x.scope)
    → squeezed_part (do_judged span (record x { scope = y.scope }) y)
    ≡ squeezed_part (judge_statement w (t.DoWhile one e span) s)
in_do w one e span s x y h k =
    two_arm squeezed_part squeezed squeezed_part after_part moved_part (do_judged span)
    (λ v r u. do_node span v r u) (closed s (judge_statement (in_loop w) one (block s)))
    (λ (u : Scope). judge e u) x y y.scope h k refl

-- the four parts of a loop
pub in_loop_parts : (size : ℕ) (span : Span) (x : Judged ForStart)
    (test : Scope → Judged (Option typed.Expression)) (step : Scope → Judged (List Effect))
    (body : Scope → Judged Statements) (p : Judged ForStart) (y : Judged (Option typed.Expression))
    (z : Judged (List Effect)) (v : Judged Statements) (q r u : Scope)
    → x ≡ squeezed_part p → y ≡ squeezed_part (test x.scope) → z ≡ squeezed_part (step y.scope)
    → v ≡ squeezed_part (body z.scope)
    → squeezed_part (loop_judged size span (record x { scope = q }) (record y { scope = r })
    (record z { scope = u }) v)
    ≡ squeezed_part (loop_judged size span p (test p.scope) (step (test p.scope).scope)
    (body (step (test p.scope).scope).scope))
in_loop_parts size span x test step body p y z v q r u hx hy hz hv =
    let ty = test p.scope in
    let tz = step ty.scope in
    let ey : y ≡ squeezed_part ty = hy ∙ ap (λ (a : Judged ForStart). squeezed_part (test a.scope)) hx in
    let ez : z ≡ squeezed_part tz =
    hz ∙ ap (λ (a : Judged (Option typed.Expression)). squeezed_part (step a.scope)) ey in
    let ev : v ≡ squeezed_part (body tz.scope) =
    hv ∙ ap (λ (a : Judged (List Effect)). squeezed_part (body a.scope)) ez in
    ap (λ (a : Judged ForStart). squeezed_part (loop_judged size span (record a { scope = q })
    (record y { scope = r }) (record z { scope = u }) v)) hx
    ∙ ap (λ (a : Judged (Option typed.Expression)).
    squeezed_part (loop_judged size span (record (squeezed_part p) { scope = q })
    (record a { scope = r }) (record z { scope = u }) v)) ey
    ∙ ap (λ (a : Judged (List Effect)).
    squeezed_part (loop_judged size span (record (squeezed_part p) { scope = q })
    (record (squeezed_part ty) { scope = r }) (record a { scope = u }) v)) ez
    ∙ ap (λ (a : Judged Statements).
    squeezed_part (loop_judged size span (record (squeezed_part p) { scope = q })
    (record (squeezed_part ty) { scope = r }) (record (squeezed_part tz) { scope = u }) a)) ev
    ∙ loop_node size span p ty tz (body tz.scope) q r u

-- ---- labels

pub in_case_label : (e : t.Expression) (label : Span) (s : Scope) (x : Found)
    → x ≡ squeezed (judge e s)
    → squeezed_part (case_judged label (span_of e).start x)
    ≡ squeezed_part (case_judged label (span_of e).start (judge e s))
in_case_label e label s x h =
    one_arm squeezed squeezed_part (case_judged label (span_of e).start)
    (λ v. case_node label (span_of e).start v) (judge e s) x h

pub in_case : (w : Around) (e : t.Expression) (label : Span) (one : t.Statement) (span : Span)
    (s : Scope) (y z : Judged Statements)
    → y ≡ squeezed_part (case_judged label (span_of e).start (judge e s))
    → z ≡ squeezed_part (judge_statement (inside w) one y.scope)
    → squeezed_part (followed_judged (record y { scope = z.scope }) z)
    ≡ squeezed_part (judge_statement w (t.Case e label one span) s)
in_case w e label one span s y z hy hz =
    two_arm squeezed_part squeezed_part squeezed_part after_part moved_part followed_judged
    (λ v r u. followed_node v r u) (case_judged label (span_of e).start (judge e s))
    (λ (u : Scope). judge_statement (inside w) one u) y z z.scope hy hz refl

pub in_default : (w : Around) (label : Span) (one : t.Statement) (span : Span) (s : Scope)
    (y z : Judged Statements)
    → y ≡ squeezed_part (default_judged label s)
    → z ≡ squeezed_part (judge_statement (inside w) one y.scope)
    → squeezed_part (followed_judged (record y { scope = z.scope }) z)
    ≡ squeezed_part (judge_statement w (t.Default label one span) s)
in_default w label one span s y z hy hz =
    two_arm squeezed_part squeezed_part squeezed_part after_part moved_part followed_judged
    (λ v r u. followed_node v r u) (default_judged label s)
    (λ (u : Scope). judge_statement (inside w) one u) y z z.scope hy hz refl

abbrev labelled : Span → Judged Statements → Judged Statements
labelled span x = judged (fault Mismatch span.start ++ x.faults) None x.scope

pub in_label : (w : Around) (name : t.Name) (one : t.Statement) (span : Span) (s : Scope)
    (x : Judged Statements)
    → x ≡ squeezed_part (judge_statement (inside w) one s)
    → squeezed_part (labelled span x) ≡ squeezed_part (judge_statement w (t.Label name one span) s)
in_label w name one span s x h =
    let p : Judged Statements = judge_statement (inside w) one s in
    ap (λ (v : Judged Statements). squeezed_part (labelled span v)) h
    ∙ ap (λ (fs : List Fault). let j : Judged Statements = judged fs None p.scope in j)
    (least_back (fault Mismatch span.start) (least p.faults) p.faults (ap listed (least_least p.faults)))

-- ---- jump statements

pub in_return : (w : Around) (e : t.Expression) (span : Span) (s : Scope) (x : Found)
    → x ≡ squeezed (judge e s)
    → squeezed_part (return_judged w.result span x)
    ≡ squeezed_part (judge_statement w (t.Return (Some e) span) s)
in_return w e span s x h =
    one_arm squeezed squeezed_part (return_judged w.result span) (λ v. return_node w.result span v)
    (judge e s) x h

-- ---- loops

pub in_while : (w : Around) (e : t.Expression) (one : t.Statement) (span : Span) (s u : Scope)
    (f : Found) (x : Judged ForStart) (y : Judged (Option typed.Expression))
    (z : Judged (List Effect)) (v : Judged Statements)
    → f ≡ squeezed (judge e s) → x ≡ no_start u → y ≡ squeezed_part (test_judged span.start f)
    → z ≡ no_step u
    → v ≡ squeezed_part (closed f.scope (judge_statement (in_loop w) one (block f.scope)))
    → squeezed_part (loop_judged 5 span x (record y { scope = u }) z v)
    ≡ squeezed_part (judge_statement w (t.While e one span) s)
in_while w e one span s u f x y z v hf hx hy hz hv =
    let p : Judged (Option typed.Expression) = judge_test span.start (Some e) s in
    let ey : y ≡ squeezed_part p =
    hy ∙ ap (λ (a : Found). squeezed_part (test_judged span.start a)) hf
    ∙ test_node span.start (judge e s) in
    let body : Scope → Judged Statements =
    λ (a : Scope). closed a (judge_statement (in_loop w) one (block a)) in
    let ev : v ≡ squeezed_part (body p.scope) =
    hv ∙ ap (λ (a : Found). squeezed_part (body a.scope)) hf in
    ap (λ (a : Judged ForStart). squeezed_part (loop_judged 5 span a (record y { scope = u }) z v)) hx
    ∙ ap (λ (a : Judged (List Effect)).
    squeezed_part (loop_judged 5 span (no_start u) (record y { scope = u }) a v)) hz
    ∙ in_loop_parts 5 span (no_start s) (λ (a : Scope). judge_test span.start (Some e) a)
    (λ (a : Scope). no_step a) body (no_start s) y (no_step p.scope) v u u u refl ey
    (ap (λ (a : Judged (Option typed.Expression)). no_step a.scope) (sym ey)) ev

pub in_for : (w : Around) (start : t.ForStart) (test step : Option t.Expression)
    (one : t.Statement) (span : Span) (s u : Scope) (x : Judged ForStart)
    (y : Judged (Option typed.Expression)) (z : Judged (List Effect)) (v : Judged Statements)
    → x ≡ squeezed_part (judge_start start (block s))
    → y ≡ squeezed_part (judge_test span.start test x.scope)
    → z ≡ squeezed_part (judge_optional_part step y.scope)
    → v ≡ squeezed_part (closed z.scope (judge_statement (in_loop w) one (block z.scope)))
    → u ≡ left_by (around s) v.scope
    → squeezed_part (loop_judged 3 span (record x { scope = u }) (record y { scope = u })
    (record z { scope = u }) (record v { scope = u }))
    ≡ squeezed_part (judge_statement w (t.For start test step one span) s)
in_for w start test step one span s u x y z v hx hy hz hv hu =
    let body : Scope → Judged Statements =
    λ (a : Scope). closed a (judge_statement (in_loop w) one (block a)) in
    let p : Judged ForStart = judge_start start (block s) in
    let q : Judged (Option typed.Expression) = judge_test span.start test p.scope in
    let r : Judged (List Effect) = judge_optional_part step q.scope in
    let whole : Judged Statements = loop_judged 3 span p q r (body r.scope) in
    let parts : squeezed_part (loop_judged 3 span (record x { scope = u }) (record y { scope = u })
    (record z { scope = u }) v) ≡ squeezed_part whole =
    in_loop_parts 3 span x (λ (a : Scope). judge_test span.start test a)
    (λ (a : Scope). judge_optional_part step a) body p y z v u u u hx hy hz hv in
    closes s u (squeezed_part (loop_judged 3 span (record x { scope = u }) (record y { scope = u })
    (record z { scope = u }) v)) whole parts hu

-- ---- items of a block

pub in_local : (a : Around) (d : t.Declaration) (s : Scope) (x : Judged (List Declarator))
    (y : Judged Statements)
    → x ≡ squeezed_part (judge_declaration d s)
    → y ≡ squeezed_part (declaration_judged (span_of_declaration d) x)
    → (rest : t.BlockItems)
    → squeezed_part (followed_judged y (judge_block a rest x.scope))
    ≡ squeezed_part (judge_block a (t.local d rest) s)
in_local a d s x y e f rest =
    let q : Judged (List Declarator) = judge_declaration d s in
    let p : Judged Statements = declaration_judged (span_of_declaration d) q in
    let same : y ≡ squeezed_part p =
    f ∙ ap (λ (v : Judged (List Declarator)).
    squeezed_part (declaration_judged (span_of_declaration d) v)) e
    ∙ declaration_node (span_of_declaration d) q in
    ap (λ (v : Judged Statements). squeezed_part (followed_judged v (judge_block a rest x.scope))) same
    ∙ ap (λ (v : Judged (List Declarator)).
    squeezed_part (followed_judged (squeezed_part p) (judge_block a rest v.scope))) e
    ∙ two_front [] (lift2 followed p.value (judge_block a rest q.scope).value) p
    (judge_block a rest q.scope)

pub in_item : (a : Around) (one : t.Statement) (s : Scope) (y : Judged Statements)
    → y ≡ squeezed_part (judge_statement a one s)
    → (rest : t.BlockItems)
    → squeezed_part (followed_judged y (judge_block a rest y.scope))
    ≡ squeezed_part (judge_block a (t.statement one rest) s)
in_item a one s y e rest =
    let p : Judged Statements = judge_statement a one s in
    ap (λ (v : Judged Statements).
    squeezed_part (followed_judged v (judge_block a rest v.scope))) e
    ∙ two_front [] (lift2 followed p.value (judge_block a rest p.scope).value) p
    (judge_block a rest p.scope)

-- ---- the parts of a `for`

pub in_declaration_start : (d : t.Declaration) (s : Scope) (x : Judged (List Declarator))
    → x ≡ squeezed_part (judge_declaration d s)
    → squeezed_part (declaration_start x) ≡ squeezed_part (judge_start (t.StartsLocal d) s)
in_declaration_start d s x e =
    one_arm squeezed_part squeezed_part declaration_start (λ v. declaration_start_node v)
    (judge_declaration d s) x e

pub in_effects_start : (e : Option t.Expression) (s : Scope) (x : Judged (List Effect))
    → x ≡ squeezed_part (judge_optional_part e s)
    → squeezed_part (effects_start x) ≡ squeezed_part (judge_start (t.StartsExpression e) s)
in_effects_start e s x h =
    one_arm squeezed_part squeezed_part effects_start (λ v. effects_start_node v)
    (judge_optional_part e s) x h

pub part_of_operands : (e : t.Expression) (all : t.Expressions) (s : Scope)
    → Some all ≡ operands_in e → judge_clauses all s ≡ judge_part e s
part_of_operands (t.Comma operands span) all s h =
    let same : all ≡ operands = cc in ap (λ (v : t.Expressions). judge_clauses v s) same
part_of_operands (t.Named name) all s h = cc
part_of_operands (t.Constant v decimal unsigned longs span) all s h = cc
part_of_operands (t.Character v span) all s h = cc
part_of_operands (t.Parenthesized inner span) all s h = cc
part_of_operands (t.Call name given span) all s h = cc
part_of_operands (t.Index a b span) all s h = cc
part_of_operands (t.Member a name span) all s h = cc
part_of_operands (t.PostfixStep o a span) all s h = cc
part_of_operands (t.PrefixStep o a span) all s h = cc
part_of_operands (t.Unary o a span) all s h = cc
part_of_operands (t.Cast type a span) all s h = cc
part_of_operands (t.Binary o a b span) all s h = cc
part_of_operands (t.Conditional a b c span) all s h = cc
part_of_operands (t.Assignment o a b span) all s h = cc

pub part_of_other : (e : t.Expression) (s : Scope)
    → None ≡ operands_in e → bodies.listed (judge_effect e s) ≡ judge_part e s
part_of_other (t.Comma operands span) s h = cc
part_of_other (t.Named name) s h = refl
part_of_other (t.Constant v decimal unsigned longs span) s h = refl
part_of_other (t.Character v span) s h = refl
part_of_other (t.Parenthesized inner span) s h = refl
part_of_other (t.Call name given span) s h = refl
part_of_other (t.Index a b span) s h = refl
part_of_other (t.Member a name span) s h = refl
part_of_other (t.PostfixStep o a span) s h = refl
part_of_other (t.PrefixStep o a span) s h = refl
part_of_other (t.Unary o a span) s h = refl
part_of_other (t.Cast type a span) s h = refl
part_of_other (t.Binary o a b span) s h = refl
part_of_other (t.Conditional a b c span) s h = refl
part_of_other (t.Assignment o a b span) s h = refl
