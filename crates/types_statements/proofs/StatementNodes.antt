-- Nodes of statements see of the faults of their parts the least alone.
use Rattle.std.proofs.Common.{◌≡◌, ℕ, List, [], Option, Some, option_map, option_and_then, ap}
use Rattle.mc_span.specs.declared.span.Span.{Span}
use Rattle.mc_tree.specs.Tree as tree
use Rattle.mc_typed.specs.Tree.{Declarator, Effect, ForStart, Statements}
use Rattle.mc_typed.specs.Tree as t
use Rattle.types_rules.specs.Types.{Base}
use Rattle.types_rules.specs.Scopes.{Scope}
use Rattle.types_rules.specs.Values.{Judged, Found, part, with_scope, lift2, lift3, kind_found, number_found, integer_faults, effect_faults, effect_in, whole}
use Rattle.types_rules.specs.Constants.{constant_found}
use Rattle.types_rules.specs.Expressions.{promote}
use Rattle.types_rules.specs.Declarations.{append, both_lists}
use Rattle.types_rules.specs.Statements.{alone, followed, followed_judged, statement_found, keyword, compound_judged, declaration_judged, effect_judged, effect_statement_judged, if_judged, if_else_judged, items_of, switch_faults, switch_judged, label_value, with_label, case_faults, case_judged, test_judged, do_judged, loop, lift4, loop_judged, effects_start, declaration_start, return_faults, return_value, return_judged}
use Rattle.types_scopes.specs.steps.Squeezed.{squeezed, squeezed_part}
use Rattle.types_scopes.proofs.Squeezed.{one_part, two_parts, three_parts, four_parts}

-- ---- compound and expression statements

pub followed_node : (x y : Judged Statements) (s : Scope)
    → squeezed_part (followed_judged (record (squeezed_part x) { scope = s }) (squeezed_part y))
    ≡ squeezed_part (followed_judged x y)
followed_node x y s = two_parts [] (lift2 followed x.value y.value) x y

pub compound_node : (span : Span) (x : Judged Statements)
    → squeezed_part (compound_judged span (squeezed_part x))
    ≡ squeezed_part (compound_judged span x)
compound_node span x =
    one_part [] (option_map (λ items. alone (t.Compound items span)) x.value) x

pub declaration_node : (span : Span) (x : Judged (List Declarator))
    → squeezed_part (declaration_judged span (squeezed_part x))
    ≡ squeezed_part (declaration_judged span x)
declaration_node span x =
    one_part [] (option_map (λ ds. alone (t.Declaration ds span)) x.value) x

pub effect_node : (e : tree.Expression) (x : Found)
    → squeezed_part (effect_judged e (squeezed x)) ≡ squeezed_part (effect_judged e x)
effect_node e x =
    one_part (effect_faults e (kind_found x))
    (option_map whole (option_and_then effect_in x.value)) (part x)

pub effect_statement_node : (span : Span) (x : Judged Effect)
    → squeezed_part (effect_statement_judged span (squeezed_part x))
    ≡ squeezed_part (effect_statement_judged span x)
effect_statement_node span x =
    one_part [] (option_map (λ effect. alone (t.EffectStatement effect span)) x.value) x

-- ---- selection statements

pub if_node : (span : Span) (x : Found) (y : Judged Statements) (s : Scope)
    → squeezed_part (if_judged span (record (squeezed x) { scope = s }) (squeezed_part y))
    ≡ squeezed_part (if_judged span x y)
if_node span x y s =
    two_parts (integer_faults span.start (kind_found x))
    (lift2 (λ e one. alone (t.If e one (keyword 2 span) span)) (number_found x)
    (statement_found y)) (part x) y

pub if_else_node : (span : Span) (x : Found) (y z : Judged Statements) (r s : Scope)
    → squeezed_part (if_else_judged span (record (squeezed x) { scope = r })
    (record (squeezed_part y) { scope = s }) (squeezed_part z))
    ≡ squeezed_part (if_else_judged span x y z)
if_else_node span x y z r s =
    three_parts (integer_faults span.start (kind_found x))
    (lift3 (λ e one other. alone (t.IfElse e one other (keyword 2 span) span)) (number_found x)
    (statement_found y) (statement_found z)) (part x) y z

pub switch_node : (span : Span) (body : tree.Statement) (x : Found) (y : Judged Statements)
    (s : Scope)
    → squeezed_part (switch_judged span body (record (squeezed x) { scope = s })
    (squeezed_part y))
    ≡ squeezed_part (switch_judged span body x y)
switch_node span body x y s =
    two_parts (switch_faults span.start body (kind_found x))
    (lift2 (λ e items. alone (t.Switch (promote e) items (keyword 6 span) span))
    (number_found x) (option_and_then items_of (statement_found y))) (part x) y

-- ---- labels

pub case_node : (label : Span) (at : ℕ) (x : Found)
    → squeezed_part (case_judged label at (squeezed x)) ≡ squeezed_part (case_judged label at x)
case_node label at x =
    let v = label_value x.scope.labels (constant_found x) in
    ap (with_scope (with_label v x.scope))
    (one_part (case_faults label at x.constant (number_found x) x.scope.labels)
    (option_map (λ w. alone (t.Label (Some w) label)) v) (part x))

-- ---- iteration statements

pub test_node : (at : ℕ) (x : Found)
    → squeezed_part (test_judged at (squeezed x)) ≡ squeezed_part (test_judged at x)
test_node at x =
    one_part (integer_faults at (kind_found x)) (option_map Some (number_found x)) (part x)

pub do_node : (span : Span) (x : Judged Statements) (y : Found) (s : Scope)
    → squeezed_part (do_judged span (record (squeezed_part x) { scope = s }) (squeezed y))
    ≡ squeezed_part (do_judged span x y)
do_node span x y s =
    two_parts (integer_faults span.start (kind_found y))
    (lift2 (λ one e. alone (t.DoWhile one e (keyword 2 span) span)) (statement_found x)
    (number_found y)) x (part y)

pub loop_node : (size : ℕ) (span : Span) (x : Judged ForStart)
    (y : Judged (Option t.Expression)) (z : Judged (List Effect)) (w : Judged Statements)
    (q r s : Scope)
    → squeezed_part (loop_judged size span (record (squeezed_part x) { scope = q })
    (record (squeezed_part y) { scope = r }) (record (squeezed_part z) { scope = s })
    (squeezed_part w))
    ≡ squeezed_part (loop_judged size span x y z w)
loop_node size span x y z w q r s =
    four_parts [] (lift4 (loop size span) x.value y.value z.value (statement_found w)) x y z w

pub effects_start_node : (x : Judged (List Effect))
    → squeezed_part (effects_start (squeezed_part x)) ≡ squeezed_part (effects_start x)
effects_start_node x = one_part [] (option_map t.StartEffects x.value) x

pub declaration_start_node : (x : Judged (List Declarator))
    → squeezed_part (declaration_start (squeezed_part x)) ≡ squeezed_part (declaration_start x)
declaration_start_node x = one_part [] (option_map t.StartDeclaration x.value) x

pub both_lists_node : {A : Type 0} (x y : Judged (List A)) (s : Scope)
    → squeezed_part (both_lists (record (squeezed_part x) { scope = s }) (squeezed_part y))
    ≡ squeezed_part (both_lists x y)
both_lists_node x y s = two_parts [] (lift2 append x.value y.value) x y

-- ---- jump statements

pub return_node : (result : Option Base) (span : Span) (x : Found)
    → squeezed_part (return_judged result span (squeezed x))
    ≡ squeezed_part (return_judged result span x)
return_node result span x =
    one_part (return_faults result span.start (kind_found x))
    (option_map (λ v. alone (t.Return v span))
    (option_and_then (return_value x.scope.structures result) x.value)) (part x)
