-- Statements and units: what is found of them is plain.
use Rattle.std.proofs.Common.{◌≡◌, ℕ, ℤ, false, List, [], ◌∷◌, ◌++◌, Option, Some, None, option_map, option_and_then, subst}
use Rattle.mc_span.specs.declared.span.Span.{Span}
use Rattle.mc_tree.specs.Tree.{Name, Expression, Expressions, Statement, BlockItems, ForStart, Item, span_of}
use Rattle.mc_tree.specs.Tree as tree
use Rattle.mc_typed.specs.Tree.{Declarator, Effect, Statements}
use Rattle.mc_typed.specs.Tree as t
use Rattle.types_rules.specs.Types.{Base, Void, Integer, Tagged, plain, Structure, cells_of, Signature}
use Rattle.types_rules.specs.Scopes.{Scope, block, prototype, body_scope, file_scope}
use Rattle.types_rules.specs.Values.{Judged, Value, Number, Stored, Borrowed, Returned, Done, Assigned, Designator, number_in, structure_in, number_found, effect_in, whole, lift2, lift3}
use Rattle.types_rules.specs.Constants.{constant_found}
use Rattle.types_rules.specs.Expressions.{convert_to, promote}
use Rattle.types_rules.specs.Judgement.{typed_by, judge, judge_specifiers, judge_parameters}
use Rattle.types_rules.specs.Declarations.{result_of, signature_listed, append, judge_declaration}
use Rattle.types_rules.specs.Statements.{Around, outermost, inside, in_loop, in_switch, closed, compound_scope, alone, only, followed, followed_judged, statement_found, keyword, declaration_judged, items_of, switch_scope, label_value, case_judged, default_judged, lift4, loop, loop_judged, return_value}
use Rattle.types_rules.specs.Bodies.{listed, judge_effect, judge_clauses, judge_part, judge_optional_part, judge_start, judge_test, no_start, no_step, span_of_declaration, judge_statement, judge_block}
use Rattle.types_rules.specs.Typing.{function_from, with_function, function_listed, judge_item, judge_unit, bodies_of, found_of, program_from}
use Rattle.laws_soundness.specs.Plain.{IsTested, IsPlainStructure, IsPlainEffect, ArePlainDeclarators, ArePlainClauses, IsPlainStart, IsPlainTest, IsPlainReturn, IsPlainStatement, ArePlainStatements, ArePlainFunctions}
use Rattle.laws_soundness.specs.Laws.{UnitsArePlain}
use Rattle.laws_soundness.proofs.PlainValues.{WhereSome, map_where, then_where, lift_where, IsPlainValue, convert_plain, promote_plain, number_plain, number_found_plain, structure_plain, discarded_plain, found_plain}
use Rattle.laws_soundness.proofs.PlainInitializers.{declaration_plain}

-- ---- the parts of a statement

whole_plain : (e : Effect) → IsPlainEffect e → IsPlainEffect (whole e)
whole_plain (t.NumberEffect e b) h = h
whole_plain (t.StructureEffect value b) h = h
whole_plain (t.Discard effect span) h = whole_plain effect h
whole_plain (t.Assign target a e span) h = h
whole_plain (t.Update target a operator common e span) h = h
whole_plain (t.Copy target value n span) h = h
whole_plain (t.CallEffect c) h = h
whole_plain (t.Output e span) h = h
whole_plain (t.ChoiceEffect e a b span) h = h

effect_in_plain : (v : Value) → IsPlainValue v → WhereSome IsPlainEffect (effect_in v)
effect_in_plain (Assigned effect) h = h
effect_in_plain (Number e) h = discarded_plain (Number e) h
effect_in_plain (Stored place u) h = discarded_plain (Stored place u) h
effect_in_plain (Borrowed array u span) h = discarded_plain (Borrowed array u span) h
effect_in_plain (Returned c k) h = discarded_plain (Returned c k) h
effect_in_plain (Done effect) h = discarded_plain (Done effect) h
effect_in_plain Designator h = discarded_plain Designator h

effect_plain : (e : Expression) (s : Scope) → WhereSome IsPlainEffect (judge_effect e s).value
effect_plain e s =
    let x = judge e s in
    map_where IsPlainEffect IsPlainEffect whole (option_and_then effect_in x.value) whole_plain
    (then_where IsPlainValue IsPlainEffect effect_in x.value effect_in_plain (found_plain e s))

clause_plain : (e : Expression) (s : Scope) → WhereSome ArePlainClauses (listed (judge_effect e s)).value
clause_plain e s =
    map_where IsPlainEffect ArePlainClauses (λ effect. effect ∷ []) (judge_effect e s).value (λ x p. (p, tt))
    (effect_plain e s)

clauses_append : (xs ys : List Effect) → ArePlainClauses xs → ArePlainClauses ys → ArePlainClauses (xs ++ ys)
clauses_append [] ys p q = q
clauses_append (x ∷ xs) ys p q = (p.0, clauses_append xs ys p.1 q)

clauses_plain : (es : Expressions) (s : Scope) → WhereSome ArePlainClauses (judge_clauses es s).value
clauses_plain tree.no_expressions s = tt
clauses_plain (tree.expressions e rest) s =
    let x = listed (judge_effect e s) in
    lift_where ArePlainClauses ArePlainClauses ArePlainClauses append x.value (judge_clauses rest x.scope).value
    clauses_append (clause_plain e s) (clauses_plain rest x.scope)

part_plain : (e : Expression) (s : Scope) → WhereSome ArePlainClauses (judge_part e s).value
part_plain (tree.Comma operands span) s = clauses_plain operands s
part_plain (tree.Named name) s = clause_plain (tree.Named name) s
part_plain (tree.Constant v decimal unsigned longs span) s =
    clause_plain (tree.Constant v decimal unsigned longs span) s
part_plain (tree.Character v span) s = clause_plain (tree.Character v span) s
part_plain (tree.Parenthesized inner span) s = clause_plain (tree.Parenthesized inner span) s
part_plain (tree.Call name given span) s = clause_plain (tree.Call name given span) s
part_plain (tree.Index a b span) s = clause_plain (tree.Index a b span) s
part_plain (tree.Member a name span) s = clause_plain (tree.Member a name span) s
part_plain (tree.PostfixStep operator a span) s = clause_plain (tree.PostfixStep operator a span) s
part_plain (tree.PrefixStep operator a span) s = clause_plain (tree.PrefixStep operator a span) s
part_plain (tree.Unary operator a span) s = clause_plain (tree.Unary operator a span) s
part_plain (tree.Cast type a span) s = clause_plain (tree.Cast type a span) s
part_plain (tree.Binary operator a b span) s = clause_plain (tree.Binary operator a b span) s
part_plain (tree.Conditional a b c span) s = clause_plain (tree.Conditional a b c span) s
part_plain (tree.Assignment operator a b span) s = clause_plain (tree.Assignment operator a b span) s

optional_part_plain : (e : Option Expression) (s : Scope)
    → WhereSome ArePlainClauses (judge_optional_part e s).value
optional_part_plain None s = tt
optional_part_plain (Some e) s = part_plain e s

start_plain : (start : ForStart) (s : Scope) → WhereSome IsPlainStart (judge_start start s).value
start_plain (tree.StartsLocal d) s =
    map_where ArePlainDeclarators IsPlainStart t.StartDeclaration (judge_declaration d s).value (λ x p. p)
    (declaration_plain d s)
start_plain (tree.StartsExpression e) s =
    map_where ArePlainClauses IsPlainStart t.StartEffects (judge_optional_part e s).value (λ x p. p)
    (optional_part_plain e s)

test_plain : (at : ℕ) (e : Option Expression) (s : Scope) → WhereSome IsPlainTest (judge_test at e s).value
test_plain at None s = tt
test_plain at (Some e) s =
    let x = judge e s in
    map_where IsTested IsPlainTest Some (number_found x) (λ f p. p) (number_found_plain x (found_plain e s))

number_of_plain : (e : Expression) (s : Scope) → WhereSome IsTested (number_found (judge e s))
number_of_plain e s = number_found_plain (judge e s) (found_plain e s)

return_plain : (all : List Structure) (r : Option Base) (v : Value) → IsPlainValue v
    → WhereSome IsPlainReturn (return_value all r v)
return_plain all (Some (Integer a)) v h =
    map_where IsTested IsPlainReturn (λ e. t.ReturnNumber (convert_to a e)) (number_in v)
    (λ e p. convert_plain a e p.1) (number_plain v h)
return_plain all (Some (Tagged k)) v h =
    map_where IsPlainStructure IsPlainReturn
    (λ w. t.ReturnStructure w (cells_of all (plain (Tagged k)))) (structure_in k v) (λ w p. p)
    (structure_plain k v h)
return_plain all (Some Void) v h = tt
return_plain all None v h = tt

label_plain : (label : Span) (v : Option ℤ)
    → WhereSome ArePlainStatements (option_map (λ w. alone (t.Label (Some w) label)) v)
label_plain label None = tt
label_plain label (Some v) = (tt, tt)

only_plain : (ss : Statements) → ArePlainStatements ss → WhereSome IsPlainStatement (only ss)
only_plain t.no_statements h = tt
only_plain (t.statements one t.no_statements) h = h.0
only_plain (t.statements one (t.statements other rest)) h = tt

statement_found_plain : (x : Judged Statements) → WhereSome ArePlainStatements x.value
    → WhereSome IsPlainStatement (statement_found x)
statement_found_plain x h = then_where ArePlainStatements IsPlainStatement only x.value only_plain h

items_of_plain : (one : t.Statement) → IsPlainStatement one → WhereSome ArePlainStatements (items_of one)
items_of_plain (t.Compound items span) h = h
items_of_plain (t.Label v span) h = tt
items_of_plain (t.Declaration ds span) h = tt
items_of_plain (t.Null span) h = tt
items_of_plain (t.EffectStatement effect span) h = tt
items_of_plain (t.If e s word span) h = tt
items_of_plain (t.IfElse e s u word span) h = tt
items_of_plain (t.Switch e items word span) h = tt
items_of_plain (t.For start test step s word span) h = tt
items_of_plain (t.DoWhile s e word span) h = tt
items_of_plain (t.Break span) h = tt
items_of_plain (t.Continue span) h = tt
items_of_plain (t.Return value span) h = tt

followed_plain : (xs ys : Statements) → ArePlainStatements xs → ArePlainStatements ys
    → ArePlainStatements (followed xs ys)
followed_plain t.no_statements ys p q = q
followed_plain (t.statements x xs) ys p q = (p.0, followed_plain xs ys p.1 q)

both_plain : (x y : Judged Statements) → WhereSome ArePlainStatements x.value
    → WhereSome ArePlainStatements y.value → WhereSome ArePlainStatements (followed_judged x y).value
both_plain x y p q =
    lift_where ArePlainStatements ArePlainStatements ArePlainStatements followed x.value y.value followed_plain
    p q

loop_plain : (size : ℕ) (span : Span) (x : Judged t.ForStart) (y : Judged (Option t.Expression))
    (z : Judged (List Effect)) (w : Judged Statements) → WhereSome IsPlainStart x.value
    → WhereSome IsPlainTest y.value → WhereSome ArePlainClauses z.value → WhereSome ArePlainStatements w.value
    → WhereSome ArePlainStatements (loop_judged size span x y z w).value
loop_plain size span x y z w p q r h =
    by_parts x.value y.value z.value (statement_found w) p q r (statement_found_plain w h)
  where
    by_parts : (a : Option t.ForStart) (b : Option (Option t.Expression)) (c : Option (List Effect))
        (d : Option t.Statement) → WhereSome IsPlainStart a → WhereSome IsPlainTest b
        → WhereSome ArePlainClauses c → WhereSome IsPlainStatement d
        → WhereSome ArePlainStatements (lift4 (loop size span) a b c d)
    by_parts (Some a) (Some b) (Some c) (Some d) p q r h = ((p, q, r, h), tt)
    by_parts (Some a) (Some b) (Some c) None p q r h = tt
    by_parts (Some a) (Some b) None d p q r h = tt
    by_parts (Some a) None c d p q r h = tt
    by_parts None b c d p q r h = tt

if_else_plain : (span : Span) (e : Option t.Expression) (a b : Option t.Statement) → WhereSome IsTested e
    → WhereSome IsPlainStatement a → WhereSome IsPlainStatement b
    → WhereSome ArePlainStatements
    (lift3 (λ e one other. alone (t.IfElse e one other (keyword 2 span) span)) e a b)
if_else_plain span (Some e) (Some a) (Some b) p q r = ((p, q, r), tt)
if_else_plain span (Some e) (Some a) None p q r = tt
if_else_plain span (Some e) None b p q r = tt
if_else_plain span None a b p q r = tt

-- ---- statements

mutual
  statement_plain : (w : Around) (one : Statement) (s : Scope)
      → WhereSome ArePlainStatements (judge_statement w one s).value
  statement_plain w (tree.Compound items span) s =
      map_where ArePlainStatements ArePlainStatements (λ items. alone (t.Compound items span))
      (judge_block (inside w) items (compound_scope w s)).value (λ x p. (p, tt))
      (block_plain (inside w) items (compound_scope w s))
  statement_plain w (tree.Null span) s = (tt, tt)
  statement_plain w (tree.ExpressionStatement e span) s =
      map_where IsPlainEffect ArePlainStatements (λ effect. alone (t.EffectStatement effect span))
      (judge_effect e s).value (λ x p. (p, tt)) (effect_plain e s)
  statement_plain w (tree.If e one span) s =
      let x = judge e s in
      let y = closed x.scope (judge_statement (inside w) one (block x.scope)) in
      lift_where IsTested IsPlainStatement ArePlainStatements
      (λ e one. alone (t.If e one (keyword 2 span) span)) (number_found x) (statement_found y)
      (λ f u p q. ((p, q), tt)) (number_of_plain e s)
      (statement_found_plain y (statement_plain (inside w) one (block x.scope)))
  statement_plain w (tree.IfElse e one other span) s =
      let x = judge e s in
      let y = closed x.scope (judge_statement (inside w) one (block x.scope)) in
      let z = closed y.scope (judge_statement (inside w) other (block y.scope)) in
      if_else_plain span (number_found x) (statement_found y) (statement_found z) (number_of_plain e s)
      (statement_found_plain y (statement_plain (inside w) one (block x.scope)))
      (statement_found_plain z (statement_plain (inside w) other (block y.scope)))
  statement_plain w (tree.Switch e body span) s =
      let x = judge e s in
      let y = closed x.scope (judge_statement (in_switch w) body (switch_scope x)) in
      lift_where IsTested ArePlainStatements ArePlainStatements
      (λ e items. alone (t.Switch (promote e) items (keyword 6 span) span)) (number_found x)
      (option_and_then items_of (statement_found y)) (λ f items p q. ((promote_plain f p.1, q), tt))
      (number_of_plain e s)
      (then_where IsPlainStatement ArePlainStatements items_of (statement_found y) items_of_plain
      (statement_found_plain y (statement_plain (in_switch w) body (switch_scope x))))
  statement_plain w (tree.While e one span) s =
      let x = no_start s in
      let y = judge_test span.start (Some e) x.scope in
      let z = no_step y.scope in
      loop_plain 5 span x y z (closed z.scope (judge_statement (in_loop w) one (block z.scope))) tt
      (test_plain span.start (Some e) x.scope) tt (statement_plain (in_loop w) one (block z.scope))
  statement_plain w (tree.DoWhile one e span) s =
      let x = closed s (judge_statement (in_loop w) one (block s)) in
      lift_where IsPlainStatement IsTested ArePlainStatements
      (λ one e. alone (t.DoWhile one e (keyword 2 span) span)) (statement_found x)
      (number_found (judge e x.scope)) (λ u f p q. ((p, q), tt))
      (statement_found_plain x (statement_plain (in_loop w) one (block s))) (number_of_plain e x.scope)
  statement_plain w (tree.For start test step one span) s =
      let x = judge_start start (block s) in
      let y = judge_test span.start test x.scope in
      let z = judge_optional_part step y.scope in
      loop_plain 3 span x y z (closed z.scope (judge_statement (in_loop w) one (block z.scope)))
      (start_plain start (block s)) (test_plain span.start test x.scope) (optional_part_plain step y.scope)
      (statement_plain (in_loop w) one (block z.scope))
  statement_plain w (tree.Case e label one span) s =
      let x = case_judged label (span_of e).start (judge e s) in
      both_plain x (judge_statement (inside w) one x.scope)
      (label_plain label (label_value (judge e s).scope.labels (constant_found (judge e s))))
      (statement_plain (inside w) one x.scope)
  statement_plain w (tree.Default label one span) s =
      let x = default_judged label s in
      both_plain x (judge_statement (inside w) one x.scope) (tt, tt) (statement_plain (inside w) one x.scope)
  statement_plain w (tree.Label name one span) s = tt
  statement_plain w (tree.Goto name span) s = tt
  statement_plain w (tree.Break span) s = (tt, tt)
  statement_plain w (tree.Continue span) s = (tt, tt)
  statement_plain w (tree.Return None span) s = (tt, tt)
  statement_plain w (tree.Return (Some e) span) s =
      let x = judge e s in
      let all = x.scope.structures in
      map_where IsPlainReturn ArePlainStatements (λ v. alone (t.Return v span))
      (option_and_then (return_value all w.result) x.value) (λ v p. (p, tt))
      (then_where IsPlainValue IsPlainReturn (return_value all w.result) x.value
      (return_plain all w.result) (found_plain e s))

  block_plain : (w : Around) (items : BlockItems) (s : Scope)
      → WhereSome ArePlainStatements (judge_block w items s).value
  block_plain w tree.no_block_items s = tt
  block_plain w (tree.local d rest) s =
      let at = span_of_declaration d in
      let x = declaration_judged at (judge_declaration d s) in
      both_plain x (judge_block w rest x.scope)
      (map_where ArePlainDeclarators ArePlainStatements (λ ds. alone (t.Declaration ds at))
      (judge_declaration d s).value (λ ds p. (p, tt)) (declaration_plain d s))
      (block_plain w rest x.scope)
  block_plain w (tree.statement one rest) s =
      let x = judge_statement w one s in
      both_plain x (judge_block w rest x.scope) (statement_plain w one s) (block_plain w rest x.scope)

-- ---- units

function_plain : (name : Name) (span : Span) (f : Option Signature) (x : Judged Statements)
    → WhereSome ArePlainStatements x.value → WhereSome ArePlainFunctions (function_listed name span f x)
function_plain name span f x h = by_parts f x.value h
  where
    by_parts : (o : Option Signature) (b : Option Statements) → WhereSome ArePlainStatements b
        → WhereSome ArePlainFunctions (lift2 (λ g body. function_from name span x.scope g body ∷ []) o b)
    by_parts (Some g) (Some b) h = (h, tt)
    by_parts (Some g) None h = tt
    by_parts None b h = tt

nothing_plain : (ds : Option (List Declarator))
    → WhereSome ArePlainFunctions (option_map (λ x. []) ds)
nothing_plain None = tt
nothing_plain (Some ds) = tt

unit_item_plain : (i : Item) (s : Scope) → WhereSome ArePlainFunctions (judge_item i s).value
unit_item_plain (tree.Declared d) s = nothing_plain (judge_declaration d s).value
unit_item_plain (tree.Defined all (tree.function stars name parameters at) body span) s =
    let x = typed_by span.start all (judge_specifiers false all s) in
    let y = judge_parameters parameters (prototype x.scope) in
    let f = signature_listed x.value y in
    let b = body_scope x.scope (with_function name f x.scope) y.scope in
    let w = outermost (result_of x.value) in
    function_plain name span f (judge_block w body b) (block_plain w body b)
unit_item_plain (tree.Defined all (tree.object stars name lengths at) body span) s = tt

functions_append : (xs ys : List t.Function) → ArePlainFunctions xs → ArePlainFunctions ys
    → ArePlainFunctions (xs ++ ys)
functions_append [] ys p q = q
functions_append (x ∷ xs) ys p q = (p.0, functions_append xs ys p.1 q)

unit_plain : (items : List Item) (s : Scope) → WhereSome ArePlainFunctions (judge_unit items s).value
unit_plain [] s = tt
unit_plain (i ∷ rest) s =
    let x = judge_item i s in
    lift_where ArePlainFunctions ArePlainFunctions ArePlainFunctions append x.value
    (judge_unit rest x.scope).value functions_append (unit_item_plain i s) (unit_plain rest x.scope)

pub units_plain : UnitsArePlain
units_plain items p h =
    by_value (found_of items).value (unit_plain items (file_scope (bodies_of items))) h
  where
    by_value : (o : Option (List t.Function)) → WhereSome ArePlainFunctions o
        → option_map (program_from (found_of items).scope) o ≡ Some p → ArePlainFunctions p.functions
    by_value None k e = absurd (cc)
    by_value (Some fs) k e =
        let same : program_from (found_of items).scope fs ≡ p = cc in
        subst (λ (q : t.Program). ArePlainFunctions q.functions) same k
