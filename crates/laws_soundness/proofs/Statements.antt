-- Statements: what is found of each is well where its parts are and it has no fault of its own.
use Rattle.std.proofs.Common.{◌≡◌, ℕ, ℤ, Bool, true, false, ◌||◌, List, [], ◌∷◌, ◌++◌, length, Option, Some, None, option_map, option_and_then, refl, ap, sym, ◌∙◌, subst, arith, append_assoc}
use Rattle.mc_span.specs.declared.span.Span.{Span}
use Rattle.mc_tree.specs.Tree.{Expression, Expressions, ForStart, span_of}
use Rattle.mc_tree.specs.Tree as tree
use Rattle.mc_value.specs.declared.int_type.IntType.{IntType}
use Rattle.mc_value.specs.declared.int_type.IntType.TheVariants as the
use Rattle.mc_value.specs.Conversions.{promoted, converted}
use Rattle.mc_value.specs.Arithmetic.{are_equal}
use Rattle.mc_value.proofs.Wrapping.{converted_within}
use Rattle.mc_typed.specs.Tree.{Effect, Statement, Statements, Declarator, Object}
use Rattle.mc_typed.specs.Tree as t
use Rattle.mc_typed.specs.Frames.{slots_effect, slots_effects, slots_start, slots_optional, slots_statement, slots_statements}
use Rattle.mc_typed.specs.Sound.{type_of, IsExpression, IsEffect, AreClauses, IsStart, IsTest, IsReturn, IsLabel, IsStatement, AreStatements, AreDeclarators, labels_of, Lacks, Differ, slots_from}
use Rattle.mc_typed.specs.Sound as sound
use Rattle.types_faults.specs.declared.fault.FaultKind.TheVariants.{Mismatch, DuplicateLabel}
use Rattle.types_rules.specs.Types.{Base, Void, Integer, Tagged, plain, layout_of, cells_of}
use Rattle.types_rules.specs.Scopes.{Labels, Scope}
use Rattle.types_rules.specs.Values.{Judged, Found, Kind, kind_found, is_integer, is_effect, fails, integer_faults, number_found, effect_in, whole, lift3}
use Rattle.types_rules.specs.Constants.{constant_found, constant_faults}
use Rattle.types_rules.specs.Expressions.{convert_to, promote}
use Rattle.types_rules.specs.Judgement.{judge}
use Rattle.types_rules.specs.Declarations.{append, judge_declaration}
use Rattle.types_rules.specs.Statements.{alone, only, followed, followed_judged, statement_found, keyword, if_judged, if_else_judged, items_of, switch_judged, has_value, label_value, is_repeated, place_faults, with_value, with_label, case_faults, case_judged, has_default_label, default_in, default_judged, do_judged, loop, lift4, loop_judged, return_nothing_faults, return_nothing_judged, fits, return_faults, return_value, return_judged}
use Rattle.types_rules.specs.Bodies.{listed, judge_effect, judge_clauses, judge_part, judge_optional_part, judge_start, judge_test}
use Rattle.types_rules.specs.Typing.{result_type}
use Rattle.laws_soundness.specs.Growth.{AreBelow}
use Rattle.laws_soundness.specs.Blocks.{StartsWithNoFunction}
use Rattle.laws_soundness.specs.Fits.{World, Completes, Fits, Ends, Made, IsWell, LabelsGo, LabelsFit, IsRun, IsOne}
use Rattle.laws_soundness.proofs.Lists.{right_nil}
use Rattle.laws_soundness.proofs.Tests.{nil_left, nil_right, no_fault, none_some, and_then_some, lift2_some}
use Rattle.laws_soundness.proofs.Sizes.{cells_exact}
use Rattle.laws_soundness.proofs.Fitting.{layout_kept, structure_type_fits, made_none, made_as, made_two, ends_back}
use Rattle.laws_soundness.proofs.Values.{converts, numbers, structures, effects, known_kind, finds_number}
use Rattle.laws_soundness.proofs.Expressions.{promotes}
use Rattle.laws_soundness.proofs.Types.{constant_well}
use Rattle.laws_soundness.proofs.Sound.{well}
use Rattle.laws_soundness.proofs.Declared.{declaration_well}
use Rattle.laws_soundness.proofs.Passes.{clauses_grow, optional_part_grows, below_grown}

-- ---- labels

pub labels_go : (l m n : Option Labels) (us vs : List (Option ℤ)) → LabelsGo l us m → LabelsGo m vs n
    → LabelsGo l (us ++ vs) n
labels_go l m n [] vs h k = subst (λ x. LabelsGo x vs n) h k
labels_go None m n (u ∷ us) vs h k = h
labels_go (Some l) m n (Some v ∷ us) vs h k = (h.0, labels_go (Some (with_value v l)) m n us vs h.1 k)
labels_go (Some l) m n (None ∷ us) vs h k = (h.0, labels_go (Some (default_in l)) m n us vs h.1 k)

equal_itself : (v : ℤ) → are_equal v v ≡ true
equal_itself v = grind arith

has_more : (v x : ℤ) (ws : List ℤ) → has_value v ws ≡ true → has_value v (ws ++ (x ∷ [])) ≡ true
has_more v x [] h = absurd (cc)
has_more v x (w ∷ ws) h = by_first (are_equal v w) h (λ q. has_more v x ws q)
  where
    by_first : (b : Bool) → (b || has_value v ws) ≡ true
        → (has_value v ws ≡ true → has_value v (ws ++ (x ∷ [])) ≡ true)
        → (b || has_value v (ws ++ (x ∷ []))) ≡ true
    by_first true q below = refl
    by_first false q below = below q

or_true : (b c : Bool) → c ≡ true → (b || c) ≡ true
or_true true c q = refl
or_true false c q = q

has_last : (v : ℤ) (ws : List ℤ) → has_value v (ws ++ (v ∷ [])) ≡ true
has_last v [] = ap (λ b. b || false) (equal_itself v)
has_last v (w ∷ ws) = or_true (are_equal v w) (has_value v (ws ++ (v ∷ []))) (has_last v ws)

not_among : (v : ℤ) (l : Labels) (vs : List (Option ℤ)) (m : Option Labels) → has_value v l.values ≡ true
    → LabelsGo (Some l) vs m → Lacks (Some v) vs
not_among v l [] m h k = tt
not_among v l (Some x ∷ vs) m h k =
    ((λ e. apart x (some_same v x e) k.0), not_among v (with_value x l) vs m (has_more v x l.values h) k.1)
  where
    some_same : (x y : ℤ) → Some x ≡ Some y → x ≡ y
    some_same x y e = cc

    apart : (x : ℤ) → v ≡ x → has_value x l.values ≡ false → ⊥
    apart x e q = let r : has_value x l.values ≡ true = subst (λ y. has_value y l.values ≡ true) e h in cc
not_among v l (None ∷ vs) m h k = ((λ e. none_some v (sym e)), not_among v (default_in l) vs m h k.1)

no_default : (l : Labels) (vs : List (Option ℤ)) (m : Option Labels) → l.has_default ≡ true
    → LabelsGo (Some l) vs m → Lacks None vs
no_default l [] m h k = tt
no_default l (Some x ∷ vs) m h k = ((λ e. none_some x e), no_default (with_value x l) vs m h k.1)
no_default l (None ∷ vs) m h k = absurd (both k.0)
  where
    both : l.has_default ≡ false → ⊥
    both e = cc

first_value : (v : ℤ) (l : Labels) → has_value v (with_value v l).values ≡ true
first_value v l = has_last v l.values

pub differ : (l : Labels) (vs : List (Option ℤ)) (m : Option Labels) → LabelsGo (Some l) vs m → Differ vs
differ l [] m h = tt
differ l (Some v ∷ vs) m h =
    (not_among v (with_value v l) vs m (first_value v l) h.1, differ (with_value v l) vs m h.1)
differ l (None ∷ vs) m h = (no_default (default_in l) vs m refl h.1, differ (default_in l) vs m h.1)

-- ---- lists of statements

pub statements_append : (c : sound.Scope) (v : sound.Around) (xs ys : Statements) → AreStatements xs c v
    → AreStatements ys c v → AreStatements (followed xs ys) c v
statements_append c v t.no_statements ys h k = k
statements_append c v (t.statements x xs) ys h k = (h.0, statements_append c v xs ys h.1 k)

slots_followed : (xs ys : Statements) → slots_statements (followed xs ys) ≡ slots_statements xs ++ slots_statements ys
slots_followed t.no_statements ys = refl
slots_followed (t.statements x xs) ys =
    ap (λ l. slots_statement x ++ l) (slots_followed xs ys)
    ∙ sym (append_assoc (slots_statement x) (slots_statements xs) (slots_statements ys))

labels_followed : (xs ys : Statements) → labels_of (followed xs ys) ≡ labels_of xs ++ labels_of ys
labels_followed t.no_statements ys = refl
labels_followed (t.statements (t.Label v span) xs) ys = ap (λ l. v ∷ l) (labels_followed xs ys)
labels_followed (t.statements (t.Compound items span) xs) ys = labels_followed xs ys
labels_followed (t.statements (t.Declaration ds span) xs) ys = labels_followed xs ys
labels_followed (t.statements (t.Null span) xs) ys = labels_followed xs ys
labels_followed (t.statements (t.EffectStatement e span) xs) ys = labels_followed xs ys
labels_followed (t.statements (t.If e x k span) xs) ys = labels_followed xs ys
labels_followed (t.statements (t.IfElse e x y k span) xs) ys = labels_followed xs ys
labels_followed (t.statements (t.Switch e items k span) xs) ys = labels_followed xs ys
labels_followed (t.statements (t.For a b c x k span) xs) ys = labels_followed xs ys
labels_followed (t.statements (t.DoWhile x e k span) xs) ys = labels_followed xs ys
labels_followed (t.statements (t.Break span) xs) ys = labels_followed xs ys
labels_followed (t.statements (t.Continue span) xs) ys = labels_followed xs ys
labels_followed (t.statements (t.Return value span) xs) ys = labels_followed xs ys

pub followed_well : (w : World) (v : sound.Around) (s : Scope) (x y : Judged Statements) → IsRun w v s x
    → IsRun w v x.scope y → IsRun w v s (followed_judged x y)
followed_well w v s x y rx ry = record {
  value = followed rx.value ry.value;
  is = lift2_some followed x.value y.value rx.value ry.value rx.is ry.is;
  sound = statements_append w.scope v rx.value ry.value rx.sound ry.sound;
  made = made_as s y.scope _ _ (sym (slots_followed rx.value ry.value))
      (made_two s x.scope y.scope _ _ rx.made ry.made);
  fits = ry.fits;
  below = ry.below;
  labels = subst (λ l. LabelsGo s.labels l y.scope.labels) (sym (labels_followed rx.value ry.value))
      (labels_go s.labels x.scope.labels y.scope.labels (labels_of rx.value) (labels_of ry.value) rx.labels ry.labels);
}

-- a statement that is no label, with what it makes
pub alone_well : (w : World) (v : sound.Around) (s : Scope) (x : Judged Statements) (one : Statement)
    → x.value ≡ Some (alone one) → IsStatement one w.scope v → Made s x.scope (slots_statement one)
    → Fits w x.scope → AreBelow (length x.scope.statics) x.scope.names → x.scope.labels ≡ s.labels
    → labels_of (alone one) ≡ [] → IsOne w v s x
alone_well w v s x one is h made fit below l none = record {
  run = record {
    value = alone one;
    is = is;
    sound = (h, tt);
    made = made_as s x.scope _ _ (sym (right_nil (slots_statement one))) made;
    fits = fit;
    below = below;
    labels = subst (λ z. LabelsGo s.labels z x.scope.labels) (sym none) l;
  };
  single = λ q. (one, refl);
}

-- a part of a statement, which stands in a block of its own
pub record IsPart (w : World) (v : sound.Around) (s : Scope) (x : Judged Statements) : Type 0 where
  pub one : Statement
  pub is : statement_found x ≡ Some one
  pub sound : IsStatement one w.scope v
  pub made : Made s x.scope (slots_statement one)

pub part_of : (w : World) (v : sound.Around) (s : Scope) (x : Judged Statements) → s.labels ≡ None
    → IsOne w v s x → IsPart w v s x
part_of w v s x none o =
    let p = o.single none in
    record {
      one = p.0;
      is = ap (option_and_then only) o.run.is ∙ ap only p.1;
      sound = (subst (λ z. AreStatements z w.scope v) p.1 o.run.sound).0;
      made = made_as s x.scope _ _ (ap slots_statements p.1 ∙ right_nil (slots_statement p.0)) o.run.made;
    }

-- ---- effects

pub record IsEffectFound (w : World) (s : Scope) (x : Judged Effect) : Type 0 where
  pub value : Effect
  pub is : x.value ≡ Some value
  pub sound : IsEffect value true w.scope
  pub made : Made s x.scope (slots_effect value)
  pub fits : Fits w x.scope

pub effect_well : (w : World) (e : Expression) (s : Scope) → Fits w s → Ends w (judge_effect e s).scope
    → (judge_effect e s).faults ≡ [] → IsEffectFound w s (judge_effect e s)
effect_well w e s fit ends h =
    let x = judge e s in
    let wx = well w e s fit ends (nil_left x.faults _ h) in
    let k = known_kind is_effect x.value wx.value wx.is (no_fault _ Mismatch _ (nil_right x.faults _ h)) in
    let f = effects w x.scope.structures wx.value k wx.sound in
    record {
      value = whole f.effect;
      is = ap (option_map whole) (and_then_some effect_in x.value wx.value wx.is ∙ f.is);
      sound = f.sound;
      made = made_as s x.scope _ _ (sym f.slots) wx.made;
      fits = wx.fits;
    }

pub record AreEffects (w : World) (s : Scope) (x : Judged (List Effect)) : Type 0 where
  pub value : List Effect
  pub is : x.value ≡ Some value
  pub sound : AreClauses value w.scope
  pub made : Made s x.scope (slots_effects value)
  pub fits : Fits w x.scope

one_clause : (w : World) (e : Expression) (s : Scope) → Fits w s → Ends w (listed (judge_effect e s)).scope
    → (listed (judge_effect e s)).faults ≡ [] → AreEffects w s (listed (judge_effect e s))
one_clause w e s fit ends h =
    let f = effect_well w e s fit ends h in
    record {
      value = f.value ∷ [];
      is = ap (option_map (λ effect. effect ∷ [])) f.is;
      sound = (f.sound, tt);
      made = made_as s (judge e s).scope _ _ (sym (right_nil (slots_effect f.value))) f.made;
      fits = f.fits;
    }

clauses_append : (c : sound.Scope) (xs ys : List Effect) → AreClauses xs c → AreClauses ys c → AreClauses (xs ++ ys) c
clauses_append c [] ys h k = k
clauses_append c (x ∷ xs) ys h k = (h.0, clauses_append c xs ys h.1 k)

effects_append : (xs ys : List Effect) → slots_effects (xs ++ ys) ≡ slots_effects xs ++ slots_effects ys
effects_append [] ys = refl
effects_append (x ∷ xs) ys =
    ap (λ l. slots_effect x ++ l) (effects_append xs ys)
    ∙ sym (append_assoc (slots_effect x) (slots_effects xs) (slots_effects ys))

clauses_well : (w : World) (es : Expressions) (s : Scope) → Fits w s → Ends w (judge_clauses es s).scope
    → (judge_clauses es s).faults ≡ [] → AreEffects w s (judge_clauses es s)
clauses_well w tree.no_expressions s fit ends h =
    record { value = []; is = refl; sound = tt; made = made_none s; fits = fit }
clauses_well w (tree.expressions e rest) s fit ends h =
    let x = listed (judge_effect e s) in
    let y = judge_clauses rest x.scope in
    let wx = one_clause w e s fit (ends_back w x.scope y.scope (clauses_grow rest x.scope) ends) (nil_left x.faults _ h) in
    let wy = clauses_well w rest x.scope wx.fits ends (nil_left y.faults [] (nil_right x.faults _ h)) in
    record {
      value = wx.value ++ wy.value;
      is = lift2_some append x.value y.value wx.value wy.value wx.is wy.is;
      sound = clauses_append w.scope wx.value wy.value wx.sound wy.sound;
      made = made_as s y.scope _ _ (sym (effects_append wx.value wy.value))
          (made_two s x.scope y.scope _ _ wx.made wy.made);
      fits = wy.fits;
    }

part_well : (w : World) (e : Expression) (s : Scope) → Fits w s → Ends w (judge_part e s).scope
    → (judge_part e s).faults ≡ [] → AreEffects w s (judge_part e s)
part_well w (tree.Comma operands span) s fit ends h = clauses_well w operands s fit ends h
part_well w (tree.Named name) s fit ends h = one_clause w (tree.Named name) s fit ends h
part_well w (tree.Constant v decimal unsigned longs span) s fit ends h = one_clause w (tree.Constant v decimal unsigned longs span) s fit ends h
part_well w (tree.Character v span) s fit ends h = one_clause w (tree.Character v span) s fit ends h
part_well w (tree.Parenthesized inner span) s fit ends h = one_clause w (tree.Parenthesized inner span) s fit ends h
part_well w (tree.Call name given span) s fit ends h = one_clause w (tree.Call name given span) s fit ends h
part_well w (tree.Index a b span) s fit ends h = one_clause w (tree.Index a b span) s fit ends h
part_well w (tree.Member a name span) s fit ends h = one_clause w (tree.Member a name span) s fit ends h
part_well w (tree.PostfixStep operator a span) s fit ends h = one_clause w (tree.PostfixStep operator a span) s fit ends h
part_well w (tree.PrefixStep operator a span) s fit ends h = one_clause w (tree.PrefixStep operator a span) s fit ends h
part_well w (tree.Unary operator a span) s fit ends h = one_clause w (tree.Unary operator a span) s fit ends h
part_well w (tree.Cast type a span) s fit ends h = one_clause w (tree.Cast type a span) s fit ends h
part_well w (tree.Binary operator a b span) s fit ends h = one_clause w (tree.Binary operator a b span) s fit ends h
part_well w (tree.Conditional a b c span) s fit ends h = one_clause w (tree.Conditional a b c span) s fit ends h
part_well w (tree.Assignment operator a b span) s fit ends h = one_clause w (tree.Assignment operator a b span) s fit ends h

pub optional_part_well : (w : World) (e : Option Expression) (s : Scope) → Fits w s
    → Ends w (judge_optional_part e s).scope → (judge_optional_part e s).faults ≡ []
    → AreEffects w s (judge_optional_part e s)
optional_part_well w None s fit ends h =
    record { value = []; is = refl; sound = tt; made = made_none s; fits = fit }
optional_part_well w (Some e) s fit ends h = part_well w e s fit ends h

-- ---- tests and starts

pub record IsTestFound (w : World) (s : Scope) (x : Judged (Option t.Expression)) : Type 0 where
  pub value : Option t.Expression
  pub is : x.value ≡ Some value
  pub sound : IsTest value w.scope
  pub made : Made s x.scope (slots_optional value)
  pub fits : Fits w x.scope

pub test_well : (w : World) (at : ℕ) (e : Option Expression) (s : Scope) → Fits w s
    → Ends w (judge_test at e s).scope → (judge_test at e s).faults ≡ [] → IsTestFound w s (judge_test at e s)
test_well w at None s fit ends h =
    record { value = None; is = refl; sound = tt; made = made_none s; fits = fit }
test_well w at (Some e) s fit ends h =
    let x = judge e s in
    let wx = well w e s fit ends (nil_left x.faults _ h) in
    let n = finds_number w s x wx (no_fault _ Mismatch at (nil_right x.faults _ h)) in
    record {
      value = Some n.number;
      is = ap (option_map Some) n.is;
      sound = n.sound;
      made = made_as s x.scope _ _ (sym n.slots) wx.made;
      fits = wx.fits;
    }

pub record IsStartFound (w : World) (s : Scope) (x : Judged t.ForStart) : Type 0 where
  pub value : t.ForStart
  pub is : x.value ≡ Some value
  pub sound : IsStart value w.scope
  pub made : Made s x.scope (slots_start value)
  pub fits : Fits w x.scope
  pub below : AreBelow (length x.scope.statics) x.scope.names

pub start_well : (w : World) (start : ForStart) (s : Scope) → StartsWithNoFunction start → Fits w s
    → AreBelow (length s.statics) s.names → Ends w (judge_start start s).scope
    → (judge_start start s).faults ≡ [] → IsStartFound w s (judge_start start s)
start_well w (tree.StartsLocal d) s none fit below ends h =
    let x = declaration_well w d s none fit below ends (nil_left (judge_declaration d s).faults [] h) in
    record {
      value = t.StartDeclaration x.declared;
      is = ap (option_map t.StartDeclaration) x.is;
      sound = x.sound;
      made = x.made;
      fits = x.fits;
      below = x.below;
    }
start_well w (tree.StartsExpression e) s none fit below ends h =
    let x = optional_part_well w e s fit ends (nil_left (judge_optional_part e s).faults [] h) in
    record {
      value = t.StartEffects x.value;
      is = ap (option_map t.StartEffects) x.is;
      sound = x.sound;
      made = x.made;
      fits = x.fits;
      below = below_grown s _ (optional_part_grows e s) below;
    }

lift3_some : {A B C D : Type 0} (f : A → B → C → D) (o : Option A) (p : Option B) (q : Option C) (a : A)
    (b : B) (c : C) → o ≡ Some a → p ≡ Some b → q ≡ Some c → lift3 f o p q ≡ Some (f a b c)
lift3_some f o p q a b c h k l = ap (λ x. lift3 f x p q) h ∙ lift2_some (f a) p q b c k l

lift4_some : {A B C D E : Type 0} (f : A → B → C → D → E) (o : Option A) (p : Option B) (q : Option C)
    (r : Option D) (a : A) (b : B) (c : C) (d : D) → o ≡ Some a → p ≡ Some b → q ≡ Some c → r ≡ Some d
    → lift4 f o p q r ≡ Some (f a b c d)
lift4_some f o p q r a b c d h k l m = ap (λ x. lift4 f x p q r) h ∙ lift3_some (f a) p q r b c d k l m

-- ---- each statement

pub if_well : (w : World) (v : sound.Around) (s : Scope) (span : Span) (x : Found) (y : Judged Statements)
    → IsWell w s x → IsPart w (sound.inside v) x.scope y → Fits w y.scope
    → AreBelow (length y.scope.statics) y.scope.names → y.scope.labels ≡ s.labels
    → integer_faults span.start (kind_found x) ≡ [] → IsOne w v s (if_judged span x y)
if_well w v s span x y wx py fit below l h =
    let n = finds_number w s x wx (no_fault _ Mismatch span.start h) in
    alone_well w v s (if_judged span x y) (t.If n.number py.one (keyword 2 span) span)
    (lift2_some (λ e one. alone (t.If e one (keyword 2 span) span)) (number_found x) (statement_found y) n.number py.one n.is py.is)
    (n.sound, py.sound)
    (made_as s y.scope _ _ (ap (λ z. z ++ slots_statement py.one) (sym n.slots)) (made_two s x.scope y.scope _ _ wx.made py.made))
    fit below l refl

pub if_else_well : (w : World) (v : sound.Around) (s : Scope) (span : Span) (x : Found)
    (y z : Judged Statements) → IsWell w s x → IsPart w (sound.inside v) x.scope y
    → IsPart w (sound.inside v) y.scope z → Fits w z.scope
    → AreBelow (length z.scope.statics) z.scope.names → z.scope.labels ≡ s.labels
    → integer_faults span.start (kind_found x) ≡ [] → IsOne w v s (if_else_judged span x y z)
if_else_well w v s span x y z wx py pz fit below l h =
    let n = finds_number w s x wx (no_fault _ Mismatch span.start h) in
    alone_well w v s (if_else_judged span x y z) (t.IfElse n.number py.one pz.one (keyword 2 span) span)
    (lift3_some (λ e one other. alone (t.IfElse e one other (keyword 2 span) span)) (number_found x) (statement_found y) (statement_found z) n.number py.one pz.one n.is py.is pz.is)
    (n.sound, py.sound, pz.sound)
    (made_as s z.scope _ _ (ap (λ q. q ++ slots_statement py.one ++ slots_statement pz.one) (sym n.slots))
    (made_two s y.scope z.scope _ _ (made_two s x.scope y.scope _ _ wx.made py.made) pz.made))
    fit below l refl

pub do_well : (w : World) (v : sound.Around) (s : Scope) (span : Span) (x : Judged Statements) (y : Found)
    → IsPart w sound.in_loop s x → IsWell w x.scope y
    → AreBelow (length y.scope.statics) y.scope.names → y.scope.labels ≡ s.labels
    → integer_faults span.start (kind_found y) ≡ [] → IsOne w v s (do_judged span x y)
do_well w v s span x y px wy below l h =
    let n = finds_number w x.scope y wy (no_fault _ Mismatch span.start h) in
    alone_well w v s (do_judged span x y) (t.DoWhile px.one n.number (keyword 2 span) span)
    (lift2_some (λ one e. alone (t.DoWhile one e (keyword 2 span) span)) (statement_found x) (number_found y) px.one n.number px.is n.is)
    (px.sound, n.sound)
    (made_as s y.scope _ _ (ap (λ z. slots_statement px.one ++ z) (sym n.slots)) (made_two s x.scope y.scope _ _ px.made wy.made))
    wy.fits below l refl

pub loop_well : (w : World) (v : sound.Around) (s : Scope) (size : ℕ) (span : Span) (x : Judged t.ForStart)
    (y : Judged (Option t.Expression)) (z : Judged (List Effect)) (q : Judged Statements)
    → IsStartFound w s x → IsTestFound w x.scope y → AreEffects w y.scope z
    → IsPart w sound.in_loop z.scope q → Fits w q.scope
    → AreBelow (length q.scope.statics) q.scope.names → q.scope.labels ≡ s.labels
    → IsOne w v s (loop_judged size span x y z q)
loop_well w v s size span x y z q wx wy wz pq fit below l =
    alone_well w v s (loop_judged size span x y z q) (t.For wx.value wy.value wz.value pq.one (keyword size span) span)
    (lift4_some (loop size span) x.value y.value z.value (statement_found q) wx.value wy.value wz.value pq.one wx.is wy.is wz.is pq.is)
    (wx.sound, wy.sound, wz.sound, pq.sound)
    (made_two s z.scope q.scope _ _ (made_two s y.scope z.scope _ _ (made_two s x.scope y.scope _ _ wx.made wy.made) wz.made) pq.made)
    fit below l refl

-- the promoted type of a controlling expression
abbrev pub type_promoted : Option t.Expression → IntType
type_promoted None = the.Int
type_promoted (Some e) = promoted (type_of e)

abbrev pub promoted_type : Found → IntType
promoted_type x = type_promoted (number_found x)

-- the labels of a `switch`
pub switch_well : (w : World) (v : sound.Around) (s : Scope) (span span2 : Span) (body : tree.Statement) (x : Found)
    (y : Judged Statements) (l : Labels) (m : Option Labels) (i : Statements) → IsWell w s x
    → statement_found y ≡ Some (t.Compound i span2)
    → AreStatements i w.scope (sound.in_switch v (promoted_type x))
    → LabelsGo (Some l) (labels_of i) m → Made x.scope y.scope (slots_statements i) → Fits w y.scope
    → AreBelow (length y.scope.statics) y.scope.names → y.scope.labels ≡ s.labels
    → fails is_integer (kind_found x) ≡ false → IsOne w v s (switch_judged span body x y)
switch_well w v s span span2 body x y l m i wx is h labels made fit below same k =
    let n = finds_number w s x wx k in
    let p = promotes w.scope n.number n.sound in
    let type : promoted_type x ≡ type_of (promote n.number) =
    ap type_promoted n.is ∙ sym p.type in
    alone_well w v s (switch_judged span body x y) (t.Switch (promote n.number) i (keyword 6 span) span)
    (lift2_some (λ e items. alone (t.Switch (promote e) items (keyword 6 span) span)) (number_found x)
    (option_and_then items_of (statement_found y)) n.number i n.is (ap (option_and_then items_of) is))
    (p.sound, p.stays, subst (λ a. AreStatements i w.scope (sound.in_switch v a)) type h, differ l (labels_of i) m labels)
    (made_as s y.scope _ _ (ap (λ z. z ++ slots_statements i) (sym (p.slots ∙ n.slots))) (made_two s x.scope y.scope _ _ wx.made made))
    fit below same refl

-- ---- labels

pub case_well : (w : World) (v : sound.Around) (s : Scope) (label : Span) (at : ℕ) (x : Found) → IsWell w s x
    → LabelsFit x.scope.labels v.labels → x.scope.labels ≡ s.labels
    → AreBelow (length x.scope.statics) x.scope.names
    → case_faults label at x.constant (number_found x) x.scope.labels ≡ []
    → IsRun w v s (case_judged label at x)
case_well w v s label at x wx fit same below h =
    by_labels x.scope.labels refl v.labels refl
  where
    c : constant_faults at x.constant (number_found x) ≡ []
    c = nil_left _ _ h

    by_labels : (l : Option Labels) → x.scope.labels ≡ l → (a : Option IntType) → v.labels ≡ a
        → IsRun w v s (case_judged label at x)
    by_labels None e a q =
        let own = nil_left _ _ (nil_right (constant_faults at x.constant (number_found x)) _ h) in
        absurd (no_place (subst (λ l. place_faults l label.start ≡ []) e own))
      where
        no_place : place_faults None label.start ≡ [] → ⊥
        no_place k = cc
    by_labels (Some l) e None q = absurd (subst (λ z. LabelsFit (Some l) z) q (subst (λ z. LabelsFit z v.labels) e fit))
    by_labels (Some l) e (Some a) q =
        let type : l.value_type ≡ Some a = subst (λ z. LabelsFit (Some l) z) q (subst (λ z. LabelsFit z v.labels) e fit) in
        let k = constant_well w s at x wx c in
        let value : label_value x.scope.labels (constant_found x) ≡ Some (converted a k.value) =
        ap (λ z. label_value z (constant_found x)) e
        ∙ lift2_some converted l.value_type (constant_found x) a k.value type k.is in
        let fresh : has_value (converted a k.value) l.values ≡ false =
        sym (ap (λ z. is_repeated z (label_value x.scope.labels (constant_found x))) e
        ∙ ap (is_repeated (Some l)) value)
        ∙ no_fault _ DuplicateLabel label.start
        (nil_right (place_faults x.scope.labels label.start) _ (nil_right (constant_faults at x.constant (number_found x)) _ h)) in
        let after : (case_judged label at x).scope ≡ with_label (Some (converted a k.value)) x.scope =
        ap (λ z. with_label z x.scope) value in
        record {
          value = alone (t.Label (Some (converted a k.value)) label);
          is = ap (option_map (λ w. alone (t.Label (Some w) label))) value;
          sound = (subst (λ z. IsLabel (Some (converted a k.value)) z) (sym q) (converted_within a k.value), tt);
          made = subst (λ z. Made s z []) (sym after) ([], k.still ∙ sym (right_nil s.objects), refl);
          fits = subst (Fits w) (sym after) (record {
            names = wx.fits.names;
            structures = wx.fits.structures;
            laid = wx.fits.laid;
            frame = wx.fits.frame;
            statics = wx.fits.statics;
            bodies = wx.fits.bodies;
          });
          below = subst (λ z. AreBelow (length z.statics) z.names) (sym after) below;
          labels = subst (λ z. LabelsGo z (Some (converted a k.value) ∷ []) (case_judged label at x).scope.labels) (sym (sym same ∙ e))
              (fresh, ap (λ z. z.labels) after ∙ ap (option_map (with_value (converted a k.value))) e);
        }

pub default_well : (w : World) (v : sound.Around) (s : Scope) (label : Span) → Fits w s
    → LabelsFit s.labels v.labels → AreBelow (length s.statics) s.names
    → (default_judged label s).faults ≡ [] → IsRun w v s (default_judged label s)
default_well w v s label fits fit below h = by_labels s.labels refl v.labels refl
  where
    by_labels : (l : Option Labels) → s.labels ≡ l → (a : Option IntType) → v.labels ≡ a
        → IsRun w v s (default_judged label s)
    by_labels None e a q =
        absurd (no_place (subst (λ l. place_faults l label.start ≡ []) e (nil_left (place_faults s.labels label.start) _ h)))
      where
        no_place : place_faults None label.start ≡ [] → ⊥
        no_place k = cc
    by_labels (Some l) e None q = absurd (subst (λ z. LabelsFit (Some l) z) q (subst (λ z. LabelsFit z v.labels) e fit))
    by_labels (Some l) e (Some a) q =
        let none : l.has_default ≡ false =
        sym (ap has_default_label e)
        ∙ no_fault _ DuplicateLabel label.start (nil_right (place_faults s.labels label.start) _ h) in
        record {
          value = alone (t.Label None label);
          is = refl;
          sound = (subst (λ z. IsLabel None z) (sym q) tt, tt);
          made = made_none s;
          fits = record {
            names = fits.names;
            structures = fits.structures;
            laid = fits.laid;
            frame = fits.frame;
            statics = fits.statics;
            bodies = fits.bodies;
          };
          below = below;
          labels = subst (λ z. LabelsGo z (None ∷ []) (option_map default_in s.labels)) (sym e)
              (none, ap (option_map default_in) e);
        }

-- ---- `return`

fits_integer : (a : IntType) (k : Kind) → fits (Integer a) k ≡ true → is_integer k ≡ true
fits_integer a k h = h

pub return_well : (w : World) (v : sound.Around) (s : Scope) (result : Option Base) (b : Base) (span : Span)
    (x : Found) → result ≡ Some b → w.scope.result ≡ result_type w.structures b → IsWell w s x
    → Completes x.scope.structures w.structures → AreBelow (length x.scope.statics) x.scope.names
    → x.scope.labels ≡ s.labels → return_faults result span.start (kind_found x) ≡ []
    → IsOne w v s (return_judged result span x)
return_well w v s result b span x is r wx c below l h =
    subst (λ o. return_faults o span.start (kind_found x) ≡ [] → IsOne w v s (return_judged o span x)) (sym is)
    (by_base b r) h
  where
    by_base : (b : Base) → w.scope.result ≡ result_type w.structures b
        → return_faults (Some b) span.start (kind_found x) ≡ [] → IsOne w v s (return_judged (Some b) span x)
    by_base Void r h = absurd (cc)
    by_base (Integer a) r h =
        let n = numbers w x.scope.structures wx.value
        (known_kind (fits (Integer a)) x.value wx.value wx.is (no_fault _ Mismatch span.start h)) wx.sound in
        let p = converts w.scope a n.number n.sound in
        let value = t.ReturnNumber (convert_to a n.number) in
        alone_well w v s (return_judged (Some (Integer a)) span x) (t.Return value span)
        (ap (option_map (λ v. alone (t.Return v span)))
        (and_then_some (return_value x.scope.structures (Some (Integer a))) x.value wx.value wx.is
        ∙ ap (option_map (λ e. t.ReturnNumber (convert_to a e))) n.is))
        (subst (λ z. IsReturn value z w.scope) (sym r) (p.sound, p.type))
        (made_as s x.scope _ _ (sym (p.slots ∙ n.slots)) wx.made) wx.fits below l refl
    by_base (Tagged k) r h =
        let n = structures w x.scope.structures k wx.value
        (known_kind (fits (Tagged k)) x.value wx.value wx.is (no_fault _ Mismatch span.start h)) wx.sound in
        let all = x.scope.structures in
        let value = t.ReturnStructure n.structure (cells_of all (plain (Tagged k))) in
        let exact = cells_exact w.structures (layout_of all (plain (Tagged k)))
        (structure_type_fits w all k wx.fits.structures c n.complete) in
        let same = layout_kept all w.structures (plain (Tagged k)) c n.complete in
        alone_well w v s (return_judged (Some (Tagged k)) span x) (t.Return value span)
        (ap (option_map (λ v. alone (t.Return v span)))
        (and_then_some (return_value all (Some (Tagged k))) x.value wx.value wx.is
        ∙ ap (option_map (λ z. t.ReturnStructure z (cells_of all (plain (Tagged k))))) n.is))
        (subst (λ z. IsReturn value z w.scope) (sym (r ∙ ap t.StructureResult (sym same))) (n.sound, n.type, exact))
        (made_as s x.scope _ _ (sym n.slots) wx.made) wx.fits below l refl

pub return_nothing_well : (w : World) (v : sound.Around) (s : Scope) (result : Option Base) (b : Base)
    (span : Span) → result ≡ Some b → w.scope.result ≡ result_type w.structures b → Fits w s
    → AreBelow (length s.statics) s.names → (return_nothing_judged result span s).faults ≡ []
    → IsOne w v s (return_nothing_judged result span s)
return_nothing_well w v s result b span is r fit below h =
    alone_well w v s (return_nothing_judged result span s) (t.Return t.ReturnNothing span) refl
    (by_base b r (subst (λ o. return_nothing_faults o span.start ≡ []) is h)) (made_none s) fit below refl refl
  where
    by_base : (b : Base) → w.scope.result ≡ result_type w.structures b
        → return_nothing_faults (Some b) span.start ≡ [] → IsReturn t.ReturnNothing w.scope.result w.scope
    by_base Void r h = subst (λ z. IsReturn t.ReturnNothing z w.scope) (sym r) tt
    by_base (Integer a) r h = absurd (cc)
    by_base (Tagged k) r h = absurd (cc)
