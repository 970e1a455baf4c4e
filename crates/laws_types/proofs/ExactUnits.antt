-- Statements and units: what is found of them is exact.
use Rattle.std.proofs.Common.{◌≡◌, ℕ, ℤ, false, List, [], ◌∷◌, ◌++◌, Option, Some, None, option_map, option_and_then, subst}
use Rattle.mc_span.specs.declared.span.Span.{Span}
use Rattle.mc_tree.specs.Tree.{Name, Expression, Expressions, Statement, BlockItems, ForStart, Item, span_of}
use Rattle.mc_tree.specs.Tree as tree
use Rattle.mc_typed.specs.Tree.{Declarator, Effect, Statements}
use Rattle.mc_typed.specs.Tree as typed
use Rattle.types_rules.specs.Types.{Base, Void, Integer, Tagged, plain, Structure, cells_of, Signature}
use Rattle.types_rules.specs.Scopes.{Scope, block, prototype, body_scope, file_scope}
use Rattle.types_rules.specs.Values.{Judged, Value, Number, Stored, Borrowed, Returned, Done, Assigned, Designator, number_in, structure_in, number_found, effect_in, whole, lift2, lift3}
use Rattle.types_rules.specs.Constants.{constant_found}
use Rattle.types_rules.specs.Expressions.{convert_to, promote}
use Rattle.types_rules.specs.Judgement.{typed_by, judge, judge_specifiers, judge_parameters}
use Rattle.types_rules.specs.Declarations.{result_of, signature_listed, append, judge_declaration}
use Rattle.types_rules.specs.Statements.{Around, outermost, inside, in_loop, in_switch, closed, compound_scope, alone, only, followed, followed_judged, statement_found, keyword, declaration_judged, items_of, switch_scope, label_value, case_judged, default_judged, lift4, loop, loop_judged, return_value}
use Rattle.types_rules.specs.Bodies.{listed, judge_effect, judge_clauses, judge_part, judge_optional_part, judge_start, judge_test, no_start, no_step, span_of_declaration, judge_statement, judge_block}
use Rattle.types_rules.specs.Typing.{function_from, with_function, function_listed, judge_item, judge_unit, bodies_of, found_of, program_from}
use Rattle.laws_types.specs.Exact.{IsTested, IsExactStructure, IsExactEffect, AreExactDeclarators, AreExactClauses, IsExactStart, IsExactTest, IsExactReturn, IsExactStatement, AreExactStatements, AreExactFunctions}
use Rattle.laws_types.specs.Exact.{UnitsAreExact}
use Rattle.laws_types.proofs.ExactValues.{WhereSome, map_where, then_where, lift_where, IsExactValue, convert_exact, promote_exact, number_exact, number_found_exact, structure_exact, discarded_exact, found_exact}
use Rattle.laws_types.proofs.ExactInitializers.{declaration_exact}

-- ---- the parts of a statement

whole_exact : (e : Effect) → IsExactEffect e → IsExactEffect (whole e)
whole_exact (typed.NumberEffect e b) h = h
whole_exact (typed.StructureEffect value b) h = h
whole_exact (typed.Discard effect span) h = whole_exact effect h
whole_exact (typed.Assign target a e span) h = h
whole_exact (typed.Update target a operator common e span) h = h
whole_exact (typed.Copy target value n span) h = h
whole_exact (typed.CallEffect c) h = h
whole_exact (typed.Output e span) h = h
whole_exact (typed.ChoiceEffect e a b span) h = h

effect_in_exact : (v : Value) → IsExactValue v → WhereSome IsExactEffect (effect_in v)
effect_in_exact (Assigned effect) h = h
effect_in_exact (Number e) h = discarded_exact (Number e) h
effect_in_exact (Stored place u) h = discarded_exact (Stored place u) h
effect_in_exact (Borrowed array u span) h = discarded_exact (Borrowed array u span) h
effect_in_exact (Returned c k) h = discarded_exact (Returned c k) h
effect_in_exact (Done effect) h = discarded_exact (Done effect) h
effect_in_exact Designator h = discarded_exact Designator h

effect_exact : (e : Expression) (s : Scope) → WhereSome IsExactEffect (judge_effect e s).value
effect_exact e s =
    let x = judge e s in
    map_where IsExactEffect IsExactEffect whole (option_and_then effect_in x.value) whole_exact
    (then_where IsExactValue IsExactEffect effect_in x.value effect_in_exact (found_exact e s))

clause_exact : (e : Expression) (s : Scope) → WhereSome AreExactClauses (listed (judge_effect e s)).value
clause_exact e s =
    map_where IsExactEffect AreExactClauses (λ effect. effect ∷ []) (judge_effect e s).value (λ x p. (p, tt))
    (effect_exact e s)

clauses_append : (xs ys : List Effect) → AreExactClauses xs → AreExactClauses ys → AreExactClauses (xs ++ ys)
clauses_append [] ys p q = q
clauses_append (x ∷ xs) ys p q = (p.0, clauses_append xs ys p.1 q)

clauses_exact : (es : Expressions) (s : Scope) → WhereSome AreExactClauses (judge_clauses es s).value
clauses_exact tree.no_expressions s = tt
clauses_exact (tree.expressions e rest) s =
    let x = listed (judge_effect e s) in
    lift_where AreExactClauses AreExactClauses AreExactClauses append x.value (judge_clauses rest x.scope).value
    clauses_append (clause_exact e s) (clauses_exact rest x.scope)

part_exact : (e : Expression) (s : Scope) → WhereSome AreExactClauses (judge_part e s).value
part_exact (tree.Comma operands span) s = clauses_exact operands s
part_exact (tree.Named name) s = clause_exact (tree.Named name) s
part_exact (tree.Constant v decimal unsigned longs span) s =
    clause_exact (tree.Constant v decimal unsigned longs span) s
part_exact (tree.Character v span) s = clause_exact (tree.Character v span) s
part_exact (tree.Parenthesized inner span) s = clause_exact (tree.Parenthesized inner span) s
part_exact (tree.Call name given span) s = clause_exact (tree.Call name given span) s
part_exact (tree.Index a b span) s = clause_exact (tree.Index a b span) s
part_exact (tree.Member a name span) s = clause_exact (tree.Member a name span) s
part_exact (tree.PostfixStep operator a span) s = clause_exact (tree.PostfixStep operator a span) s
part_exact (tree.PrefixStep operator a span) s = clause_exact (tree.PrefixStep operator a span) s
part_exact (tree.Unary operator a span) s = clause_exact (tree.Unary operator a span) s
part_exact (tree.Cast type a span) s = clause_exact (tree.Cast type a span) s
part_exact (tree.Binary operator a b span) s = clause_exact (tree.Binary operator a b span) s
part_exact (tree.Conditional a b c span) s = clause_exact (tree.Conditional a b c span) s
part_exact (tree.Assignment operator a b span) s = clause_exact (tree.Assignment operator a b span) s

optional_part_exact : (e : Option Expression) (s : Scope)
    → WhereSome AreExactClauses (judge_optional_part e s).value
optional_part_exact None s = tt
optional_part_exact (Some e) s = part_exact e s

start_exact : (start : ForStart) (s : Scope) → WhereSome IsExactStart (judge_start start s).value
start_exact (tree.StartsLocal d) s =
    map_where AreExactDeclarators IsExactStart typed.StartDeclaration (judge_declaration d s).value (λ x p. p)
    (declaration_exact d s)
start_exact (tree.StartsExpression e) s =
    map_where AreExactClauses IsExactStart typed.StartEffects (judge_optional_part e s).value (λ x p. p)
    (optional_part_exact e s)

test_exact : (at : ℕ) (e : Option Expression) (s : Scope) → WhereSome IsExactTest (judge_test at e s).value
test_exact at None s = tt
test_exact at (Some e) s =
    let x = judge e s in
    map_where IsTested IsExactTest Some (number_found x) (λ f p. p) (number_found_exact x (found_exact e s))

number_of_exact : (e : Expression) (s : Scope) → WhereSome IsTested (number_found (judge e s))
number_of_exact e s = number_found_exact (judge e s) (found_exact e s)

return_exact : (all : List Structure) (r : Option Base) (v : Value) → IsExactValue v
    → WhereSome IsExactReturn (return_value all r v)
return_exact all (Some (Integer a)) v h =
    map_where IsTested IsExactReturn (λ e. typed.ReturnNumber (convert_to a e)) (number_in v)
    (λ e p. (convert_exact a e p).operand) (number_exact v h)
return_exact all (Some (Tagged k)) v h =
    map_where IsExactStructure IsExactReturn
    (λ w. typed.ReturnStructure w (cells_of all (plain (Tagged k)))) (structure_in k v) (λ w p. p)
    (structure_exact k v h)
return_exact all (Some Void) v h = tt
return_exact all None v h = tt

label_exact : (label : Span) (v : Option ℤ)
    → WhereSome AreExactStatements (option_map (λ w. alone (typed.Label (Some w) label)) v)
label_exact label None = tt
label_exact label (Some v) = (tt, tt)

only_exact : (ss : Statements) → AreExactStatements ss → WhereSome IsExactStatement (only ss)
only_exact typed.no_statements h = tt
only_exact (typed.statements one typed.no_statements) h = h.0
only_exact (typed.statements one (typed.statements other rest)) h = tt

statement_found_exact : (x : Judged Statements) → WhereSome AreExactStatements x.value
    → WhereSome IsExactStatement (statement_found x)
statement_found_exact x h = then_where AreExactStatements IsExactStatement only x.value only_exact h

items_of_exact : (one : typed.Statement) → IsExactStatement one → WhereSome AreExactStatements (items_of one)
items_of_exact (typed.Compound items span) h = h
items_of_exact (typed.Label v span) h = tt
items_of_exact (typed.Declaration ds span) h = tt
items_of_exact (typed.Null span) h = tt
items_of_exact (typed.EffectStatement effect span) h = tt
items_of_exact (typed.If e s word span) h = tt
items_of_exact (typed.IfElse e s u word span) h = tt
items_of_exact (typed.Switch e items word span) h = tt
items_of_exact (typed.For start test step s word span) h = tt
items_of_exact (typed.DoWhile s e word span) h = tt
items_of_exact (typed.Break span) h = tt
items_of_exact (typed.Continue span) h = tt
items_of_exact (typed.Return value span) h = tt

followed_exact : (xs ys : Statements) → AreExactStatements xs → AreExactStatements ys
    → AreExactStatements (followed xs ys)
followed_exact typed.no_statements ys p q = q
followed_exact (typed.statements x xs) ys p q = (p.0, followed_exact xs ys p.1 q)

both_exact : (x y : Judged Statements) → WhereSome AreExactStatements x.value
    → WhereSome AreExactStatements y.value → WhereSome AreExactStatements (followed_judged x y).value
both_exact x y p q =
    lift_where AreExactStatements AreExactStatements AreExactStatements followed x.value y.value followed_exact
    p q

loop_exact : (size : ℕ) (span : Span) (x : Judged typed.ForStart) (y : Judged (Option typed.Expression))
    (z : Judged (List Effect)) (w : Judged Statements) → WhereSome IsExactStart x.value
    → WhereSome IsExactTest y.value → WhereSome AreExactClauses z.value → WhereSome AreExactStatements w.value
    → WhereSome AreExactStatements (loop_judged size span x y z w).value
loop_exact size span x y z w p q r h =
    by_parts x.value y.value z.value (statement_found w) p q r (statement_found_exact w h)
  where
    by_parts : (a : Option typed.ForStart) (b : Option (Option typed.Expression)) (c : Option (List Effect))
        (d : Option typed.Statement) → WhereSome IsExactStart a → WhereSome IsExactTest b
        → WhereSome AreExactClauses c → WhereSome IsExactStatement d
        → WhereSome AreExactStatements (lift4 (loop size span) a b c d)
    by_parts (Some a) (Some b) (Some c) (Some d) p q r h = ((p, q, r, h), tt)
    by_parts (Some a) (Some b) (Some c) None p q r h = tt
    by_parts (Some a) (Some b) None d p q r h = tt
    by_parts (Some a) None c d p q r h = tt
    by_parts None b c d p q r h = tt

if_else_exact : (span : Span) (e : Option typed.Expression) (a b : Option typed.Statement) → WhereSome IsTested e
    → WhereSome IsExactStatement a → WhereSome IsExactStatement b
    → WhereSome AreExactStatements
    (lift3 (λ e one other. alone (typed.IfElse e one other (keyword 2 span) span)) e a b)
if_else_exact span (Some e) (Some a) (Some b) p q r = ((p, q, r), tt)
if_else_exact span (Some e) (Some a) None p q r = tt
if_else_exact span (Some e) None b p q r = tt
if_else_exact span None a b p q r = tt

-- ---- statements

mutual
  statement_exact : (w : Around) (one : Statement) (s : Scope)
      → WhereSome AreExactStatements (judge_statement w one s).value
  statement_exact w (tree.Compound items span) s =
      map_where AreExactStatements AreExactStatements (λ items. alone (typed.Compound items span))
      (judge_block (inside w) items (compound_scope w s)).value (λ x p. (p, tt))
      (block_exact (inside w) items (compound_scope w s))
  statement_exact w (tree.Null span) s = (tt, tt)
  statement_exact w (tree.ExpressionStatement e span) s =
      map_where IsExactEffect AreExactStatements (λ effect. alone (typed.EffectStatement effect span))
      (judge_effect e s).value (λ x p. (p, tt)) (effect_exact e s)
  statement_exact w (tree.If e one span) s =
      let x = judge e s in
      let y = closed x.scope (judge_statement (inside w) one (block x.scope)) in
      lift_where IsTested IsExactStatement AreExactStatements
      (λ e one. alone (typed.If e one (keyword 2 span) span)) (number_found x) (statement_found y)
      (λ f u p q. ((p, q), tt)) (number_of_exact e s)
      (statement_found_exact y (statement_exact (inside w) one (block x.scope)))
  statement_exact w (tree.IfElse e one other span) s =
      let x = judge e s in
      let y = closed x.scope (judge_statement (inside w) one (block x.scope)) in
      let z = closed y.scope (judge_statement (inside w) other (block y.scope)) in
      if_else_exact span (number_found x) (statement_found y) (statement_found z) (number_of_exact e s)
      (statement_found_exact y (statement_exact (inside w) one (block x.scope)))
      (statement_found_exact z (statement_exact (inside w) other (block y.scope)))
  statement_exact w (tree.Switch e body span) s =
      let x = judge e s in
      let y = closed x.scope (judge_statement (in_switch w) body (switch_scope x)) in
      lift_where IsTested AreExactStatements AreExactStatements
      (λ e items. alone (typed.Switch (promote e) items (keyword 6 span) span)) (number_found x)
      (option_and_then items_of (statement_found y)) (λ f items p q. let x = promote_exact f p in (((x.is, x.operand), q), tt))
      (number_of_exact e s)
      (then_where IsExactStatement AreExactStatements items_of (statement_found y) items_of_exact
      (statement_found_exact y (statement_exact (in_switch w) body (switch_scope x))))
  statement_exact w (tree.While e one span) s =
      let x = no_start s in
      let y = judge_test span.start (Some e) x.scope in
      let z = no_step y.scope in
      loop_exact 5 span x y z (closed z.scope (judge_statement (in_loop w) one (block z.scope))) tt
      (test_exact span.start (Some e) x.scope) tt (statement_exact (in_loop w) one (block z.scope))
  statement_exact w (tree.DoWhile one e span) s =
      let x = closed s (judge_statement (in_loop w) one (block s)) in
      lift_where IsExactStatement IsTested AreExactStatements
      (λ one e. alone (typed.DoWhile one e (keyword 2 span) span)) (statement_found x)
      (number_found (judge e x.scope)) (λ u f p q. ((p, q), tt))
      (statement_found_exact x (statement_exact (in_loop w) one (block s))) (number_of_exact e x.scope)
  statement_exact w (tree.For start test step one span) s =
      let x = judge_start start (block s) in
      let y = judge_test span.start test x.scope in
      let z = judge_optional_part step y.scope in
      loop_exact 3 span x y z (closed z.scope (judge_statement (in_loop w) one (block z.scope)))
      (start_exact start (block s)) (test_exact span.start test x.scope) (optional_part_exact step y.scope)
      (statement_exact (in_loop w) one (block z.scope))
  statement_exact w (tree.Case e label one span) s =
      let x = case_judged label (span_of e).start (judge e s) in
      both_exact x (judge_statement (inside w) one x.scope)
      (label_exact label (label_value (judge e s).scope.labels (constant_found (judge e s))))
      (statement_exact (inside w) one x.scope)
  statement_exact w (tree.Default label one span) s =
      let x = default_judged label s in
      both_exact x (judge_statement (inside w) one x.scope) (tt, tt) (statement_exact (inside w) one x.scope)
  statement_exact w (tree.Label name one span) s = tt
  statement_exact w (tree.Goto name span) s = tt
  statement_exact w (tree.Break span) s = (tt, tt)
  statement_exact w (tree.Continue span) s = (tt, tt)
  statement_exact w (tree.Return None span) s = (tt, tt)
  statement_exact w (tree.Return (Some e) span) s =
      let x = judge e s in
      let all = x.scope.structures in
      map_where IsExactReturn AreExactStatements (λ v. alone (typed.Return v span))
      (option_and_then (return_value all w.result) x.value) (λ v p. (p, tt))
      (then_where IsExactValue IsExactReturn (return_value all w.result) x.value
      (return_exact all w.result) (found_exact e s))

  block_exact : (w : Around) (items : BlockItems) (s : Scope)
      → WhereSome AreExactStatements (judge_block w items s).value
  block_exact w tree.no_block_items s = tt
  block_exact w (tree.local d rest) s =
      let at = span_of_declaration d in
      let x = declaration_judged at (judge_declaration d s) in
      both_exact x (judge_block w rest x.scope)
      (map_where AreExactDeclarators AreExactStatements (λ ds. alone (typed.Declaration ds at))
      (judge_declaration d s).value (λ ds p. (p, tt)) (declaration_exact d s))
      (block_exact w rest x.scope)
  block_exact w (tree.statement one rest) s =
      let x = judge_statement w one s in
      both_exact x (judge_block w rest x.scope) (statement_exact w one s) (block_exact w rest x.scope)

-- ---- units

function_exact : (name : Name) (span : Span) (f : Option Signature) (x : Judged Statements)
    → WhereSome AreExactStatements x.value → WhereSome AreExactFunctions (function_listed name span f x)
function_exact name span f x h = by_parts f x.value h
  where
    by_parts : (o : Option Signature) (b : Option Statements) → WhereSome AreExactStatements b
        → WhereSome AreExactFunctions (lift2 (λ g body. function_from name span x.scope g body ∷ []) o b)
    by_parts (Some g) (Some b) h = (h, tt)
    by_parts (Some g) None h = tt
    by_parts None b h = tt

nothing_exact : (ds : Option (List Declarator))
    → WhereSome AreExactFunctions (option_map (λ x. []) ds)
nothing_exact None = tt
nothing_exact (Some ds) = tt

unit_item_exact : (i : Item) (s : Scope) → WhereSome AreExactFunctions (judge_item i s).value
unit_item_exact (tree.Declared d) s = nothing_exact (judge_declaration d s).value
unit_item_exact (tree.Defined all (tree.function stars name parameters at) body span) s =
    let x = typed_by span.start all (judge_specifiers false all s) in
    let y = judge_parameters parameters (prototype x.scope) in
    let f = signature_listed x.value y in
    let b = body_scope x.scope (with_function name f x.scope) y.scope in
    let w = outermost (result_of x.value) in
    function_exact name span f (judge_block w body b) (block_exact w body b)
unit_item_exact (tree.Defined all (tree.object stars name lengths at) body span) s = tt

functions_append : (xs ys : List typed.Function) → AreExactFunctions xs → AreExactFunctions ys
    → AreExactFunctions (xs ++ ys)
functions_append [] ys p q = q
functions_append (x ∷ xs) ys p q = (p.0, functions_append xs ys p.1 q)

unit_exact : (items : List Item) (s : Scope) → WhereSome AreExactFunctions (judge_unit items s).value
unit_exact [] s = tt
unit_exact (i ∷ rest) s =
    let x = judge_item i s in
    lift_where AreExactFunctions AreExactFunctions AreExactFunctions append x.value
    (judge_unit rest x.scope).value functions_append (unit_item_exact i s) (unit_exact rest x.scope)

pub units_exact : UnitsAreExact
units_exact items p h =
    by_value (found_of items).value (unit_exact items (file_scope (bodies_of items))) h
  where
    by_value : (o : Option (List typed.Function)) → WhereSome AreExactFunctions o
        → option_map (program_from (found_of items).scope) o ≡ Some p → AreExactFunctions p.functions
    by_value None k e = absurd (cc)
    by_value (Some fs) k e =
        let same : program_from (found_of items).scope fs ≡ p = cc in
        subst (λ (q : typed.Program). AreExactFunctions q.functions) same k
