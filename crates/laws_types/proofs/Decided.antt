-- Roots and conditions stand where expressions of the source stand.
use Rattle.std.proofs.Common.{◌≡◌, ℕ, zero, suc, Bool, true, false, if◌then◌else◌, ◌||◌, IsTrue, List, [], ◌∷◌, Option, Some, None, subst, sym, refl, Contains}
use Rattle.mc_span.specs.declared.span.Span.{Span}
use Rattle.mc_tree.specs.Tree.{Expression, Expressions, Initializer, Initializers, InitDeclarator, Declaration, ForStart, Statement, BlockItems, Item}
use Rattle.mc_typed.specs.declared.operators.Operator.{Operator}
use Rattle.mc_typed.specs.Tree.{Place, FunctionCall, Arguments, Argument, StructureValue, Effect, Declarator, Statements}
use Rattle.mc_typed.specs.Tree as typed
use Rattle.decide_rules.specs.declared.operators.FullOperator.{FullOperator}
use Rattle.decide_rules.specs.declared.role.Role.{Role}
use Rattle.decide_rules.specs.declared.role.Role.TheVariants.{Controlling, Inner, Plain}
use Rattle.decide_rules.specs.Nodes.{Node, Constant, Not, Logic, Whole, Parts, no_parts, part, controlling, span_of}
use Rattle.decide_rules.specs.Nodes as nodes
use Rattle.decide_rules.specs.Roots.{Standing, standing, part_at, step, is_root, is_inner, IsAt}
use Rattle.decide_rules.specs.Roots as roots
use Rattle.decide_rules.specs.Conditions.{IsCondition}
use Rattle.decide_rules.specs.Conditions as conditions
use Rattle.decide_rules.proofs.Trees.{same_span}
use Rattle.laws_types.specs.Source.{IsOneAt, IsNumberOf, IsOperandOf, IsPlaceOf, IsCallOf, AreArgumentsOf, IsArgumentOf, IsStructureOf, IsEffectOf}
use Rattle.laws_types.specs.Source as of
use Rattle.laws_types.specs.SourceUnits.{IsInitializerOf, AreInitializersOf, AreObjectsOf, AreDeclaredBy, AreClausesOf, ArePartOf, IsStartOf, IsTestOf, IsReturnOf, AreStatementsOf, AreItemsOf, AreFunctionsOf, joined}
use Rattle.laws_types.specs.SourceUnits as of_units
use Rattle.laws_types.specs.Decided.{Each, EachOf, EachOptional, EachInitial, EachInitials, EachObject, EachDeclared, EachStart, EachStated, EachItem, EachInUnit, DecisionsStandInTheSource}
use Rattle.laws_types.proofs.ExactValues.{WhereSome}
use Rattle.laws_types.proofs.SourceBodies.{programs_have_their_source}

-- ---- nodes

-- it holds of the places of the operators of decisions and of their operands, of comparisons, and of
-- tests
abbrev mutual
  IsHeld : (Span → Type 0) → Node → Type 0
  IsHeld Has (Constant span) = Unit {0}
  IsHeld Has (Not a span) = Has span × Has (span_of a) × IsHeld Has a
  IsHeld Has (Logic operator a b span) =
      Has span × Has (span_of a) × Has (span_of b) × IsHeld Has a × IsHeld Has b
  IsHeld Has (nodes.Expression (nodes.Operator compares) ps span) =
      (compares ≡ true → Has span) × AreHeld Has ps
  IsHeld Has (nodes.Expression nodes.Other ps span) = AreHeld Has ps
  IsHeld Has (Whole ps) = AreHeld Has ps

  AreHeld : (Span → Type 0) → Parts → Type 0
  AreHeld Has no_parts = Unit {0}
  AreHeld Has (part a ps) = IsHeld Has a × AreHeld Has ps
  AreHeld Has (controlling a ps) = Has (span_of a) × IsHeld Has a × AreHeld Has ps

-- ---- expressions

one_held : (Has : Span → Type 0) {at : Span} {e : typed.Expression} → IsOneAt at e
    → IsHeld Has (nodes.expression e)
one_held Has of.one = tt
one_held Has of.converted_one = (λ q. absurd (cc), (tt, tt))

-- an operator that evaluates both of its operands
both_held : (Has : Span → Type 0) (full : Option FullOperator) (operator : Operator) (a b : Node) (span : Span)
    → Has span → Has (span_of a) × IsHeld Has a → Has (span_of b) × IsHeld Has b
    → Has (span_of (nodes.evaluates_both full operator a b span))
    × IsHeld Has (nodes.evaluates_both full operator a b span)
both_held Has (Some f) operator a b span own x y = (own, (own, x.0, y.0, x.1, y.1))
both_held Has None operator a b span own x y = (own, (λ q. own, (x.1, (y.1, tt))))

mutual
  number : (Has : Span → Type 0) {a : Expression} {e : typed.Expression} → IsNumberOf a e → Each Has a
      → Has (span_of (nodes.expression e)) × IsHeld Has (nodes.expression e)
  number Has (of.inside h) k = number Has h k
  number Has of.enumerator k = (k, tt)
  number Has of.constant k = (k, tt)
  number Has of.character k = (k, tt)
  number Has (of.read h) k = let x = place Has h k in (x.0, (x.1, tt))
  number Has (of.one_operand e h) k = (k.0, (λ q. k.0, ((operand Has h k.1).1, tt)))
  number Has (of.negation h) k = let x = number Has h k.1 in (k.0, (k.0, x.0, x.1))
  number Has (of.cast h) k = (k.0, (λ q. k.0, ((number Has h k.1).1, tt)))
  number Has (of.two_operands {o = o} {e = e} {f = f} {span = span} q h l) k =
      both_held Has (nodes.full_operator o e f) o (nodes.expression e) (nodes.expression f) span k.0
      (operand Has h k.1) (operand Has l k.2)
  number Has (of.logical e h l) k =
      let x = number Has h k.1 in
      let y = number Has l k.2 in
      (k.0, (k.0, x.0, y.0, x.1, y.1))
  number Has (of.choice h l m) k =
      let x = number Has h k.1 in
      (k.0, (λ q. k.0, (x.0, x.1, ((operand Has l k.2).1, ((operand Has m k.3).1, tt)))))
  number Has (of.call h) k = let x = call Has h k in (x.0, x.1)
  number Has (of.input e) k = (k.0, tt)

  operand : (Has : Span → Type 0) {a : Expression} {e : typed.Expression} → IsOperandOf a e → Each Has a
      → Has (span_of (nodes.expression e)) × IsHeld Has (nodes.expression e)
  operand Has (of.as_it_is h) k = number Has h k
  operand Has (of.converted {e = e} h) k =
      let x = number Has h k in (subst Has (sym (same_span e)) x.0, (λ q. absurd (cc), (x.1, tt)))

  place : (Has : Span → Type 0) {a : Expression} {p : Place} → IsPlaceOf a p → Each Has a
      → Has (typed.span_of_place p) × IsHeld Has (nodes.place p)
  place Has (of.place_inside h) k = place Has h k
  place Has of.local k = (k, tt)
  place Has of.static k = (k, tt)
  place Has (of.parameter h l) k = (k.0, ((number Has l k.2).1, tt))
  place Has (of.item h l) k = (k.0, ((place Has h k.1).1, ((number Has l k.2).1, tt)))
  place Has (of.member h) k = (k.0, ((place Has h k.1).1, tt))

  call : (Has : Span → Type 0) {a : Expression} {c : FunctionCall} → IsCallOf a c → Each Has a
      → Has (typed.span_of_call c) × AreHeld Has (nodes.call_parts c)
  call Has (of.call_inside h) k = call Has h k
  call Has (of.called h) k = (k.0, arguments Has h k.1)

  arguments : (Has : Span → Type 0) {given : Expressions} {all : Arguments} → AreArgumentsOf given all
      → EachOf Has given → AreHeld Has (nodes.arguments all)
  arguments Has of.no_arguments k = tt
  arguments Has (of.arguments h l) k = (argument Has h k.0, arguments Has l k.1)

  argument : (Has : Span → Type 0) {a : Expression} {x : Argument} → IsArgumentOf a x → Each Has a
      → IsHeld Has (nodes.argument x)
  argument Has (of.number_argument h) k = (operand Has h k).1
  argument Has (of.structure_argument h) k = structure Has h k
  argument Has (of.array_argument h) k = (place Has h k).1
  argument Has (of.again_argument h) k = tt

  structure : (Has : Span → Type 0) {a : Expression} {v : StructureValue} → IsStructureOf a v → Each Has a
      → IsHeld Has (nodes.structure v)
  structure Has (of.stored h) k = (place Has h k).1
  structure Has (of.returned h) k = (call Has h k).1

effect : (Has : Span → Type 0) {a : Expression} {x : Effect} → IsEffectOf a x → Each Has a
    → IsHeld Has (nodes.effect x)
effect Has (of.effect_inside h) k = effect Has h k
effect Has (of.assignment h l) k = ((place Has h k.1).1, ((operand Has l k.2).1, tt))
effect Has (of.copy h l) k = ((place Has h k.1).1, (structure Has l k.2, tt))
effect Has (of.update e h l) k = ((place Has h k.1).1, ((operand Has l k.2).1, tt))
effect Has (of.step_after h l) k = ((place Has h k.1).1, (one_held Has l, tt))
effect Has (of.step_before h l) k = ((place Has h k.1).1, (one_held Has l, tt))
effect Has (of.number_effect h) k = (number Has h k).1
effect Has (of.structure_effect h) k = structure Has h k
effect Has (of.call_effect h) k = (call Has h k).1
effect Has (of.output e h) (own, (k, rest)) = ((operand Has h k).1, tt)
effect Has (of.effect_choice h l m) k =
    let x = number Has h k.1 in (x.0, x.1, (effect Has l k.2, (effect Has m k.3, tt)))
effect Has (of.discard h) k = (effect Has h k.1, tt)

-- ---- initializers and declarations

mutual
  initial : (Has : Span → Type 0) {i : Initializer} {x : typed.Initializer} → IsInitializerOf i x
      → EachInitial Has i → IsHeld Has (nodes.initializer x)
  initial Has (of_units.number_initial h) k = (operand Has h k).1
  initial Has (of_units.structure_initial h) k = structure Has h k
  initial Has (of_units.list_initial h) k = initials Has h k
  initial Has (of_units.in_braces h) k = (initials Has h k).0
  initial Has (of_units.zero_initial h) k = (number Has h k.0).1

  initials : (Has : Span → Type 0) {items : Initializers} {all : typed.Initializers} → AreInitializersOf items all
      → EachInitials Has items → AreHeld Has (nodes.initializers all)
  initials Has of_units.no_initials k = tt
  initials Has (of_units.initials h l) k = (initial Has h k.0, initials Has l k.1)

absent_held : (Has : Span → Type 0) (o : Option typed.Initializer) → o ≡ None → IsHeld Has (nodes.initial o)
absent_held Has None q = tt
absent_held Has (Some i) q = absurd (cc)

present_held : (Has : Span → Type 0) (i : typed.Initializer) (o : Option typed.Initializer) → o ≡ Some i
    → IsHeld Has (nodes.initializer i) → IsHeld Has (nodes.initial o)
present_held Has i o q h = subst (λ (x : Option typed.Initializer). IsHeld Has (nodes.initial x)) (sym q) h

objects : (Has : Span → Type 0) {ds : List InitDeclarator} {all : List Declarator} → AreObjectsOf ds all
    → EachObject Has ds → AreHeld Has (nodes.declarators all)
objects Has of_units.no_objects k = tt
objects Has (of_units.object_bare {d = d} q h) k = (absent_held Has d.value q, objects Has h k)
objects Has (of_units.object_initialized {i = i} {d = d} l q h) k =
    (present_held Has i d.value q (initial Has l k.0), objects Has h k.1)
objects Has (of_units.function_bare h) k = objects Has h k
objects Has (of_units.function_initialized h) k = objects Has h k.1

declaration : (Has : Span → Type 0) {d : Declaration} {all : List Declarator} → AreDeclaredBy d all
    → EachDeclared Has d → AreHeld Has (nodes.declarators all)
declaration Has of_units.kept_apart k = tt
declaration Has (of_units.automatic apart h) k = objects Has h k

-- ---- statements

clauses : (Has : Span → Type 0) {all : Expressions} {xs : List Effect} → AreClausesOf all xs → EachOf Has all
    → AreHeld Has (nodes.effects xs)
clauses Has of_units.no_clauses k = tt
clauses Has (of_units.clauses h l) k = (effect Has h k.0, clauses Has l k.1)

part_held : (Has : Span → Type 0) {a : Option Expression} {xs : List Effect} → ArePartOf a xs → EachOptional Has a
    → AreHeld Has (nodes.effects xs)
part_held Has of_units.no_part k = tt
part_held Has (of_units.one_clause h) k = (effect Has h k, tt)
part_held Has (of_units.more_clauses h) k = clauses Has h k

start : (Has : Span → Type 0) {s : ForStart} {x : typed.ForStart} → IsStartOf s x → EachStart Has s
    → IsHeld Has (nodes.start x)
start Has (of_units.start_declaration h) k = declaration Has h k
start Has (of_units.start_clauses h) k = part_held Has h k

tested : (Has : Span → Type 0) {a : Option Expression} {e : Option typed.Expression} → IsTestOf a e
    → EachOptional Has a → IsHeld Has (nodes.optional_test e)
tested Has of_units.no_test k = tt
tested Has (of_units.one_test h) k = let x = number Has h k in (x.0, x.1, tt)

returned : (Has : Span → Type 0) {a : Option Expression} {v : typed.ReturnValue} → IsReturnOf a v
    → EachOptional Has a → IsHeld Has (nodes.return_value v)
returned Has of_units.return_nothing k = tt
returned Has (of_units.return_number h) k = (operand Has h k).1
returned Has (of_units.return_structure h) k = structure Has h k

joined_held : (Has : Span → Type 0) (xs ys : Statements) → AreHeld Has (nodes.statements xs)
    → AreHeld Has (nodes.statements ys) → AreHeld Has (nodes.statements (joined xs ys))
joined_held Has typed.no_statements ys h k = k
joined_held Has (typed.statements x xs) ys h k = (h.0, joined_held Has xs ys h.1 k)

mutual
  statement : (Has : Span → Type 0) {s : Statement} {xs : Statements} → AreStatementsOf s xs → EachStated Has s
      → AreHeld Has (nodes.statements xs)
  statement Has (of_units.compound h) k = (items_held Has h k, tt)
  statement Has of_units.null_statement k = (tt, tt)
  statement Has (of_units.effect_statement h) k = ((effect Has h k, tt), tt)
  statement Has (of_units.if_statement h l) k =
      let x = number Has h k.0 in ((x.0, x.1, ((statement Has l k.1).0, tt)), tt)
  statement Has (of_units.if_else_statement h l m) k =
      let x = number Has h k.0 in
      ((x.0, x.1, ((statement Has l k.1).0, ((statement Has m k.2).0, tt))), tt)
  statement Has (of_units.switch_statement h l) k = (((operand Has h k.0).1, ((statement Has l k.1).0, tt)), tt)
  statement Has (of_units.while_statement h l) k =
      let x = number Has h k.0 in
      ((tt, ((x.0, x.1, tt), (tt, ((statement Has l k.1).0, tt)))), tt)
  statement Has (of_units.do_statement h l) k =
      let x = number Has l k.1 in (((statement Has h k.0).0, (x.0, x.1, tt)), tt)
  statement Has (of_units.for_statement h l m n) k =
      ((start Has h k.0, (tested Has l k.1, (part_held Has m k.2, ((statement Has n k.3).0, tt)))), tt)
  statement Has (of_units.case_label t h q r l) k = (tt, statement Has l k)
  statement Has (of_units.default_label h) k = (tt, statement Has h k)
  statement Has of_units.break_statement k = (tt, tt)
  statement Has of_units.continue_statement k = (tt, tt)
  statement Has (of_units.return_statement h) k = ((returned Has h k, tt), tt)

  items_held : (Has : Span → Type 0) {items : BlockItems} {xs : Statements} → AreItemsOf items xs
      → EachItem Has items → AreHeld Has (nodes.statements xs)
  items_held Has of_units.no_items k = tt
  items_held Has (of_units.local_item h l) k = (declaration Has h k.0, items_held Has l k.1)
  items_held Has (of_units.statement_item {some = some} {all = all} h l) k =
      joined_held Has some all (statement Has h k.0) (items_held Has l k.1)

functions : (Has : Span → Type 0) {items : List Item} {fs : List typed.Function} → AreFunctionsOf items fs
    → EachInUnit Has items → AreHeld Has (nodes.functions fs)
functions Has of_units.no_functions k = tt
functions Has (of_units.declared h) k = functions Has h k
functions Has (of_units.defined h l) k = (items_held Has h.items k.0, functions Has l k.1)

-- ---- from the program to a root

abbrev HasTested : Role → Type 0 → Type 0
HasTested Controlling P = P
HasTested Inner P = Unit {0}
HasTested Plain P = Unit {0}

-- a controlling expression has it, and the node holds
abbrev IsGood : (Span → Type 0) → Standing → Type 0
IsGood Has s = HasTested s.role (Has (span_of s.node)) × IsHeld Has s.node

part_good : (Has : Span → Type 0) (ps : Parts) (i : ℕ) → AreHeld Has ps → WhereSome (IsGood Has) (part_at ps i)
part_good Has no_parts i h = tt
part_good Has (part a ps) zero h = (tt, h.0)
part_good Has (part a ps) (suc i) h = part_good Has ps i h.1
part_good Has (controlling a ps) zero h = (h.0, h.1)
part_good Has (controlling a ps) (suc i) h = part_good Has ps i h.2

operand_good : (Has : Span → Type 0) (b : Bool) (a : Node) → IsHeld Has a
    → IsGood Has (standing (if b then Inner else Plain) a)
operand_good Has true a h = (tt, h)
operand_good Has false a h = (tt, h)

step_good : (Has : Span → Type 0) (role : Role) (a : Node) (i : ℕ) → IsHeld Has a
    → WhereSome (IsGood Has) (step role a i)
step_good Has role (Constant span) i h = tt
step_good Has role (Not a span) zero h = operand_good Has (is_root role (Not a span) || is_inner role) a h.2
step_good Has role (Not a span) (suc i) h = tt
step_good Has role (Logic operator a b span) zero h =
    operand_good Has (is_root role (Logic operator a b span) || is_inner role) a h.3
step_good Has role (Logic operator a b span) (suc zero) h =
    operand_good Has (is_root role (Logic operator a b span) || is_inner role) b h.4
step_good Has role (Logic operator a b span) (suc (suc i)) h = tt
step_good Has role (nodes.Expression (nodes.Operator compares) ps span) i h = part_good Has ps i h.1
step_good Has role (nodes.Expression nodes.Other ps span) i h = part_good Has ps i h
step_good Has role (Whole ps) i h = part_good Has ps i h

walk : (Has : Span → Type 0) (p : roots.Place) (s u : Standing) → IsAt s p u → IsGood Has s → IsGood Has u
walk Has [] s u q h = subst (λ (x : Standing). IsGood Has x) q h
walk Has (i ∷ p) s u q h =
    walk Has p q.0 u q.2
    (subst (λ (o : Option Standing). WhereSome (IsGood Has) o) q.1 (step_good Has s.role s.node i h.1))

root_has : (Has : Span → Type 0) (role : Role) (a : Node) → IsGood Has (standing role a)
    → IsTrue (is_root role a) → Has (span_of a)
root_has Has Controlling a h q = h.0
root_has Has Inner a h q = absurd (cc)
root_has Has Plain (Constant span) h q = absurd (cc)
root_has Has Plain (Not a span) (good, (own, first, rest)) q = own
root_has Has Plain (Logic operator a b span) (good, (own, first, second, left, right)) q = own
root_has Has Plain (nodes.Expression (nodes.Operator true) ps span) (good, (own, rest)) q = own refl
root_has Has Plain (nodes.Expression (nodes.Operator false) ps span) h q = absurd (cc)
root_has Has Plain (nodes.Expression nodes.Other ps span) h q = absurd (cc)
root_has Has Plain (Whole ps) h q = absurd (cc)

condition_has : (Has : Span → Type 0) {a x : Node} {k : ℕ} {p : roots.Place} → IsCondition a k p x
    → Has (span_of a) → IsHeld Has a → Has (span_of x)
condition_has Has (conditions.itself e) h l = h
condition_has Has (conditions.under_not c) h l = condition_has Has c l.1 l.2
condition_has Has (conditions.in_left c) h l = condition_has Has c l.1 l.3
condition_has Has (conditions.in_right c) h l = condition_has Has c l.2 l.4

pub decisions_stand_in_the_source : DecisionsStandInTheSource
decisions_stand_in_the_source spans items p f each typing root =
    let held = functions (Contains spans) (programs_have_their_source items p typing) each in
    let good = walk (Contains spans) f.place (standing Plain (nodes.program p.functions)) (standing root.0 f.node) root.1 (tt, held) in
    let own = root_has (Contains spans) root.0 f.node good root.2 in
    (own, λ k place x c. condition_has (Contains spans) c own good.1)
