-- Statements: what is declared before them stays, and names of a block go with it.
use Rattle.std.proofs.Common.{ℕ, zero, suc, ℤ, Bool, true, false, if◌then◌else◌, List, [], ◌∷◌, length, take, Option, Some, None, refl, sym, ◌∙◌, subst}
use Rattle.mc_tree.specs.Tree.{Expression, Expressions, Statement, BlockItems, ForStart, span_of}
use Rattle.mc_tree.specs.Tree as tree
use Rattle.mc_typed.specs.Tree.{Object, StaticObject}
use Rattle.types_rules.specs.Types.{Structure}
use Rattle.types_rules.specs.Scopes.{Entry, Labels, Scope, entered, block, left}
use Rattle.types_rules.specs.Constants.{constant_found}
use Rattle.types_rules.specs.Statements.{Around, inside, in_loop, in_switch, compound_scope, switch_scope, label_value, with_label, case_judged, default_judged}
use Rattle.types_rules.specs.Judgement.{judge}
use Rattle.types_rules.specs.Declarations.{judge_declaration}
use Rattle.types_rules.specs.Bodies.{judge_clauses, judge_part, judge_optional_part, judge_start, judge_test, judge_statement, judge_block}
use Rattle.laws_soundness.specs.Growth.{AreBelow, Grown, Passed}
use Rattle.laws_soundness.specs.Fits.{World, NamesFit, Fits}
use Rattle.laws_soundness.proofs.Lists.{right_nil, begins_refl, cut_back}
use Rattle.laws_soundness.proofs.Grows.{grown_refl, grown_trans, grows}
use Rattle.laws_soundness.proofs.Fitting.{extended, passed, passed_refl, passed_trans}
use Rattle.laws_soundness.proofs.Extends.{declaration_extends}

pub passed_by : (s t : Scope) → Grown s t → Passed s t
passed_by s t g = passed s t (extended s t g)

-- ---- blocks

pub passed_left : (l : Option Labels) (s t : Scope) → Passed (entered l s) t → Passed s (left s t)
passed_left l s t g = record {
  names = ([], cut_back Entry s.names t.names g.names ∙ sym (right_nil s.names));
  structures = g.structures;
  statics = g.statics;
  objects = g.objects;
  bodies = g.bodies;
}

pub compound_left : (a : Around) (s t : Scope) → Passed (compound_scope a s) t → Passed s (left s t)
compound_left a s t g = by_test a.is_body g
  where
    by_test : (b : Bool) → Passed (if b then entered s.labels s else block s) t → Passed s (left s t)
    by_test true g = passed_left s.labels s t g
    by_test false g = passed_left None s t g

pub names_take : (w : World) (all : List Structure) (n : ℕ) (es : List Entry) → NamesFit w all es
    → NamesFit w all (take n es)
names_take w all zero es h = tt
names_take w all (suc n) [] h = tt
names_take w all (suc n) (e ∷ es) h = (h.0, names_take w all n es h.1)

pub below_take : (m n : ℕ) (es : List Entry) → AreBelow m es → AreBelow m (take n es)
below_take m zero es h = tt
below_take m (suc n) [] h = tt
below_take m (suc n) (e ∷ es) h = (h.0, below_take m n es h.1)

pub fits_left : (w : World) (s t : Scope) → Fits w t → Fits w (left s t)
fits_left w s t fit = record {
  names = names_take w t.structures (length s.names) t.names fit.names;
  structures = fit.structures;
  laid = fit.laid;
  frame = fit.frame;
  statics = fit.statics;
  bodies = fit.bodies;
}

pub fits_entered : (w : World) (l : Option Labels) (s : Scope) → Fits w s → Fits w (entered l s)
fits_entered w l s fit = record {
  names = fit.names;
  structures = fit.structures;
  laid = fit.laid;
  frame = fit.frame;
  statics = fit.statics;
  bodies = fit.bodies;
}

pub below_grown : (s t : Scope) → Grown s t → AreBelow (length s.statics) s.names
    → AreBelow (length t.statics) t.names
below_grown s t g h = subst (λ l. AreBelow (length l) t.names) (sym g.statics) (g.below (length s.statics) h)

-- ---- the parts of a `for`

pub clauses_grow : (es : Expressions) (s : Scope) → Grown s (judge_clauses es s).scope
clauses_grow tree.no_expressions s = grown_refl s
clauses_grow (tree.expressions e rest) s =
    grown_trans s (judge e s).scope _ (grows e s) (clauses_grow rest (judge e s).scope)

pub part_grows : (e : Expression) (s : Scope) → Grown s (judge_part e s).scope
part_grows (tree.Comma operands span) s = clauses_grow operands s
part_grows (tree.Named name) s = grows (tree.Named name) s
part_grows (tree.Constant v decimal unsigned longs span) s =
    grows (tree.Constant v decimal unsigned longs span) s
part_grows (tree.Character v span) s = grows (tree.Character v span) s
part_grows (tree.Parenthesized inner span) s = grows (tree.Parenthesized inner span) s
part_grows (tree.Call name given span) s = grows (tree.Call name given span) s
part_grows (tree.Index a b span) s = grows (tree.Index a b span) s
part_grows (tree.Member a name span) s = grows (tree.Member a name span) s
part_grows (tree.PostfixStep operator a span) s = grows (tree.PostfixStep operator a span) s
part_grows (tree.PrefixStep operator a span) s = grows (tree.PrefixStep operator a span) s
part_grows (tree.Unary operator a span) s = grows (tree.Unary operator a span) s
part_grows (tree.Cast type a span) s = grows (tree.Cast type a span) s
part_grows (tree.Binary operator a b span) s = grows (tree.Binary operator a b span) s
part_grows (tree.Conditional a b c span) s = grows (tree.Conditional a b c span) s
part_grows (tree.Assignment operator a b span) s = grows (tree.Assignment operator a b span) s

pub optional_part_grows : (e : Option Expression) (s : Scope) → Grown s (judge_optional_part e s).scope
optional_part_grows None s = grown_refl s
optional_part_grows (Some e) s = part_grows e s

pub test_grows : (at : ℕ) (e : Option Expression) (s : Scope) → Grown s (judge_test at e s).scope
test_grows at None s = grown_refl s
test_grows at (Some e) s = grows e s

pub start_passes : (start : ForStart) (s : Scope) → Passed s (judge_start start s).scope
start_passes (tree.StartsLocal d) s = passed s _ (declaration_extends d s)
start_passes (tree.StartsExpression e) s = passed_by s _ (optional_part_grows e s)

-- ---- labels

-- nothing but the labels changes
pub relabelled : (l : Option Labels) (s : Scope) → Passed s (record s { labels = l })
relabelled l s = record {
  names = begins_refl Entry s.names;
  structures = λ k x h n. h;
  statics = begins_refl StaticObject s.statics;
  objects = begins_refl Object s.objects;
  bodies = refl;
}

pub label_passes : (v : Option ℤ) (s : Scope) → Passed s (with_label v s)
label_passes None s = passed_refl s
label_passes (Some v) s = relabelled _ s

-- ---- statements

mutual
  pub passes : (a : Around) (one : Statement) (s : Scope) → Passed s (judge_statement a one s).scope
  passes a (tree.Compound items span) s =
      compound_left a s _ (block_passes (inside a) items (compound_scope a s))
  passes a (tree.Null span) s = passed_refl s
  passes a (tree.ExpressionStatement e span) s = passed_by s _ (grows e s)
  passes a (tree.If e one span) s =
      let x = (judge e s).scope in
      passed_trans s x _ (passed_by s x (grows e s)) (passed_left None x _ (passes (inside a) one (block x)))
  passes a (tree.IfElse e one other span) s =
      let x = (judge e s).scope in
      let y = left x (judge_statement (inside a) one (block x)).scope in
      passed_trans s x _ (passed_by s x (grows e s))
      (passed_trans x y _ (passed_left None x _ (passes (inside a) one (block x)))
      (passed_left None y _ (passes (inside a) other (block y))))
  passes a (tree.Switch e body span) s =
      let x = judge e s in
      passed_trans s x.scope _ (passed_by s x.scope (grows e s))
      (passed_left _ x.scope _ (passes (in_switch a) body (switch_scope x)))
  passes a (tree.While e one span) s =
      let x = (judge e s).scope in
      passed_trans s x _ (passed_by s x (grows e s)) (passed_left None x _ (passes (in_loop a) one (block x)))
  passes a (tree.DoWhile one e span) s =
      let x = left s (judge_statement (in_loop a) one (block s)).scope in
      passed_trans s x _ (passed_left None s _ (passes (in_loop a) one (block s))) (passed_by x _ (grows e x))
  passes a (tree.For start test step one span) s =
      let b = block s in
      let x = (judge_start start b).scope in
      let y = (judge_test span.start test x).scope in
      let z = (judge_optional_part step y).scope in
      passed_left None s _
      (passed_trans b x _ (start_passes start b)
      (passed_trans x y _ (passed_by x y (test_grows span.start test x))
      (passed_trans y z _ (passed_by y z (optional_part_grows step y))
      (passed_left None z _ (passes (in_loop a) one (block z))))))
  passes a (tree.Case e label one span) s =
      let x = judge e s in
      let c = case_judged label (span_of e).start x in
      passed_trans s c.scope _
      (passed_trans s x.scope c.scope (passed_by s x.scope (grows e s))
      (label_passes (label_value x.scope.labels (constant_found x)) x.scope))
      (passes (inside a) one c.scope)
  passes a (tree.Default label one span) s =
      let c = default_judged label s in
      passed_trans s c.scope _ (relabelled _ s) (passes (inside a) one c.scope)
  passes a (tree.Label name one span) s = passes (inside a) one s
  passes a (tree.Goto name span) s = passed_refl s
  passes a (tree.Break span) s = passed_refl s
  passes a (tree.Continue span) s = passed_refl s
  passes a (tree.Return None span) s = passed_refl s
  passes a (tree.Return (Some e) span) s = passed_by s _ (grows e s)

  pub block_passes : (a : Around) (items : BlockItems) (s : Scope) → Passed s (judge_block a items s).scope
  block_passes a tree.no_block_items s = passed_refl s
  block_passes a (tree.local d rest) s =
      let x = (judge_declaration d s).scope in
      passed_trans s x _ (passed s x (declaration_extends d s)) (block_passes a rest x)
  block_passes a (tree.statement one rest) s =
      let x = (judge_statement a one s).scope in
      passed_trans s x _ (passes a one s) (block_passes a rest x)
