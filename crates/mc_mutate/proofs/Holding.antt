-- What holds of each mutant in a list.
use Rattle.std.proofs.Common.{◌≡◌, ◌∙◌, refl, sym, ap, ℕ, zero, suc, Bool, true, false, not, ◌&&◌, ◌||◌, if◌then◌else◌, List, [], ◌∷◌, ◌++◌, Option, Some, None, pos}
use Rattle.std.proofs.lemmas.List.{append-nil}
use Rattle.mc_span.specs.declared.span.Span.{Span}
use Rattle.mc_value.specs.declared.int_type.IntType.{IntType}
use Rattle.mc_value.specs.declared.int_type.IntType.TheVariants as the
use Rattle.mc_value.specs.declared.operators.BinOp.{BinOp}
use Rattle.mc_value.specs.declared.operators.BinOp.TheVariants.{Lt, Le, Gt, Ge, Eq, Ne}
use Rattle.mc_value.specs.Arithmetic.{binary_type}
use Rattle.mc_value.specs.Conversions.{promoted}
use Rattle.mc_value.specs.IntTypes.{InRange, least_of, greatest_of}
use Rattle.mc_value.proofs.Wrapping.{le_yes}
use Rattle.mc_typed.specs.declared.operators.LogicOperator.{LogicOperator}
use Rattle.mc_typed.specs.declared.operators.LogicOperator.TheVariants as logic
use Rattle.mc_typed.specs.declared.operators.Operator as code
use Rattle.mc_typed.specs.declared.operators.Operator.TheVariants.{Binary, Shift}
use Rattle.mc_typed.specs.declared.expressions.Slot.{Slot}
use Rattle.mc_typed.specs.Tree as t
use Rattle.mc_typed.specs.Sound.{HasOperands, Scope, IsExpression, type_of, operator_type}
use Rattle.mc_typed.specs.Frames.{slots}
use Rattle.decide_rules.specs.declared.operators.FullOperator.{FullOperator}
use Rattle.decide_rules.specs.declared.operators.FullOperator.TheVariants as full_operators
use Rattle.decide_rules.specs.declared.role.Role.{Role}
use Rattle.decide_rules.specs.declared.role.Role.TheVariants.{Inner, Plain}
use Rattle.decide_rules.specs.Nodes as n
use Rattle.decide_rules.specs.Roots.{is_boolean, is_constant, is_root}
use Rattle.mc_mutate.specs.declared.search.sought.Sought.{Sought}
use Rattle.mc_mutate.specs.declared.search.sought.Sought.TheVariants.{Left, Found}
use Rattle.mc_mutate.specs.declared.changes.MutantKind.TheVariants.{Exchanged}
use Rattle.mc_mutate.specs.Changes.{Mutant, mutant, within, exchanged_full, shifted, where_shifted, of_full, of_nodes, of_relation, truth_at, converted_from_int, of_truth, of_condition, of_operator, of_conditions}
use Rattle.mc_mutate.specs.Mutants as m
use Rattle.mc_mutate.specs.steps.Changed.{settled_at, settled, entered}

abbrev pub Hold : {X : Type 0} → (X → Type 0) → List (Mutant X) → Type 0
Hold P [] = Unit {0}
Hold P (m ∷ ms) = P m.tree × Hold P ms

hold_within : {X Y : Type 0} (P : X → Type 0) (Q : Y → Type 0) (f : X → Y) (ms : List (Mutant X)) → ((x : X) → P x → Q (f x)) → Hold P ms → Hold Q (within f ms)
hold_within P Q f [] h k = tt
hold_within P Q f (m ∷ ms) h k = (h m.tree k.0, hold_within P Q f ms h k.1)

hold_any : {X Y : Type 0} (Q : Y → Type 0) (f : X → Y) (ms : List (Mutant X)) → ((x : X) → Q (f x)) → Hold Q (within f ms)
hold_any Q f [] h = tt
hold_any Q f (m ∷ ms) h = (h m.tree, hold_any Q f ms h)

hold_append : {X : Type 0} (P : X → Type 0) (ms ns : List (Mutant X)) → Hold P ms → Hold P ns → Hold P (ms ++ ns)
hold_append P [] ns h k = k
hold_append P (m ∷ ms) ns h k = (h.0, hold_append P ms ns h.1 k)

hold_two : {X Y : Type 0} (P Q : X → Type 0) (R : Y → Type 0) (f : X → Y) (ms : List (Mutant X)) → ((x : X) → P x → Q x → R (f x)) → Hold P ms → Hold Q ms → Hold R (within f ms)
hold_two P Q R f [] h p q = tt
hold_two P Q R f (m ∷ ms) h p q = (h m.tree p.0 q.0, hold_two P Q R f ms h p.1 q.1)

settled_at_hold : (P : t.Expression → Type 0) (ms : List (Mutant t.Expression)) (k : ℕ) (inside : Sought → t.Expression) → Hold P ms → ((u : Sought) → P (inside u)) → P (settled_at ms k inside)
settled_at_hold P [] k inside h e = e (Left k)
settled_at_hold P (m ∷ ms) zero inside h e = h.0
settled_at_hold P (m ∷ ms) (suc k) inside h e = settled_at_hold P ms k inside h.1 e

pub settled_hold : (P : t.Expression → Type 0) (ms : List (Mutant t.Expression)) (s : Sought) (inside : Sought → t.Expression) → Hold P ms → ((u : Sought) → P (inside u)) → P (settled ms s inside)
settled_hold P ms (Found c) inside h e = e (Found c)
settled_hold P ms (Left k) inside h e = settled_at_hold P ms k inside h e

-- ---- types

abbrev OfType : IntType → t.Expression → Type 0
OfType a e = type_of e ≡ a

full_type : (full : FullOperator) (a : IntType) → binary_type (exchanged_full full) a ≡ a
full_type full_operators.And a = refl
full_type full_operators.Or a = refl
full_type full_operators.Xor a = refl

bitwise_type : (operator : code.Operator) (full : FullOperator) (a : IntType) → n.bitwise operator ≡ Some full → a ≡ operator_type operator a
bitwise_type (Shift operator) full a e = refl
bitwise_type (Binary Lt) full a e = absurd (cc)
bitwise_type (Binary Le) full a e = absurd (cc)
bitwise_type (Binary Gt) full a e = absurd (cc)
bitwise_type (Binary Ge) full a e = absurd (cc)
bitwise_type (Binary Eq) full a e = absurd (cc)
bitwise_type (Binary Ne) full a e = absurd (cc)
bitwise_type (Binary _) full a e = refl

-- what a full operator says of its operands
full_parts : (p q : Bool) (found : Option FullOperator) (full : FullOperator) → (if p && q then found else None) ≡ Some full → (p ≡ true) × (q ≡ true) × (found ≡ Some full)
full_parts true true found full e = (refl, refl, e)
full_parts true false found full e = absurd (cc)
full_parts false q found full e = absurd (cc)

exchanged_typed : (full : Option FullOperator) (operator : code.Operator) (a : IntType) (e f : t.Expression) (span : Span) (others : List (Mutant t.Expression)) → n.full_operator operator e f ≡ full → Hold (OfType (operator_type operator a)) others → Hold (OfType (operator_type operator a)) (of_full full (λ (other : BinOp). mutant Exchanged span (t.Binary (Binary other) a e f span)) others)
exchanged_typed None operator a e f span others is h = tt
exchanged_typed (Some full) operator a e f span others is h =
    let w = full_parts (n.is_operand e) (n.is_operand f) (n.bitwise operator) full is in
    (full_type full a ∙ bitwise_type operator full a w.2, h)

-- mutants of the operands change no type of what is around
around_typed : (operator : code.Operator) (a : IntType) (e f : t.Expression) (span : Span) (ms ns : List (Mutant t.Expression)) → Hold (OfType (operator_type operator a)) (within (λ (x : t.Expression). t.Binary operator a x f span) ms ++ within (λ (x : t.Expression). t.Binary operator a e x span) ns)
around_typed operator a e f span ms ns =
    hold_append (OfType (operator_type operator a)) (within (λ (x : t.Expression). t.Binary operator a x f span) ms) (within (λ (x : t.Expression). t.Binary operator a e x span) ns)
    (hold_any (OfType (operator_type operator a)) (λ (x : t.Expression). t.Binary operator a x f span) ms (λ x. refl))
    (hold_any (OfType (operator_type operator a)) (λ (x : t.Expression). t.Binary operator a e x span) ns (λ x. refl))

logic_typed : (operator : LogicOperator) (e f : t.Expression) (span : Span) (ms ns : List (Mutant t.Expression)) → Hold (OfType the.Int) (within (λ (x : t.Expression). t.Logic operator x f span) ms ++ within (λ (x : t.Expression). t.Logic operator e x span) ns)
logic_typed operator e f span ms ns =
    hold_append (OfType the.Int) (within (λ (x : t.Expression). t.Logic operator x f span) ms) (within (λ (x : t.Expression). t.Logic operator e x span) ns)
    (hold_any (OfType the.Int) (λ (x : t.Expression). t.Logic operator x f span) ms (λ x. refl))
    (hold_any (OfType the.Int) (λ (x : t.Expression). t.Logic operator e x span) ns (λ x. refl))

nodes_typed : (e : t.Expression) → Hold (OfType (type_of e)) (of_nodes e)
nodes_typed (t.Not e span) = hold_any (OfType the.Int) (λ (x : t.Expression). t.Not x span) (of_nodes e) (λ x. refl)
nodes_typed (t.Binary operator a e f span) =
    exchanged_typed (n.full_operator operator e f) operator a e f span
    (within (λ (x : t.Expression). t.Binary operator a x f span) (of_nodes e) ++ within (λ (x : t.Expression). t.Binary operator a e x span) (of_nodes f)) refl
    (around_typed operator a e f span (of_nodes e) (of_nodes f))
nodes_typed (t.Logic operator e f span) = (refl, logic_typed operator e f span (of_nodes e) (of_nodes f))
nodes_typed _ = tt

relation_typed : (operator : code.Operator) (a : IntType) (e f : t.Expression) (span : Span) → n.is_comparison operator ≡ true → Hold (OfType (operator_type operator a)) (of_condition (t.Binary operator a e f span))
relation_typed (Binary Lt) a e f span q = (refl, (refl, (refl, (refl, tt))))
relation_typed (Binary Le) a e f span q = (refl, (refl, (refl, (refl, tt))))
relation_typed (Binary Gt) a e f span q = (refl, (refl, (refl, (refl, tt))))
relation_typed (Binary Ge) a e f span q = (refl, (refl, (refl, (refl, tt))))
relation_typed (Binary Eq) a e f span q = (refl, (refl, (refl, (refl, tt))))
relation_typed (Binary Ne) a e f span q = (refl, (refl, (refl, (refl, tt))))
relation_typed _ a e f span q = absurd (cc)

operator_typed : (full : Option FullOperator) (operator : code.Operator) (a : IntType) (e f : t.Expression) (span : Span) → (full ≡ None → n.is_comparison operator ≡ true) → Hold (OfType (operator_type operator a)) (of_operator full (of_condition (t.Binary operator a e f span)) (within (λ (x : t.Expression). t.Binary operator a x f span) (of_conditions e) ++ within (λ (x : t.Expression). t.Binary operator a e x span) (of_conditions f)))
operator_typed None operator a e f span h = relation_typed operator a e f span (h refl)
operator_typed (Some full) operator a e f span h = around_typed operator a e f span (of_conditions e) (of_conditions f)

-- ---- a decision that is no test and all its mutants have the type int

none_compares : (full : Option FullOperator) (operator : code.Operator) (a b : n.Node) (span : Span) → is_boolean (n.evaluates_both full operator a b span) ≡ true → full ≡ None → n.is_comparison operator ≡ true
none_compares None operator a b span h e = h
none_compares (Some full) operator a b span h e = absurd (cc)

boolean_typed : (e : t.Expression) → is_boolean (n.expression e) ≡ true → Hold (OfType (type_of e)) (of_conditions e)
boolean_typed (t.Not e span) q = hold_any (OfType the.Int) (λ (x : t.Expression). t.Not x span) (of_conditions e) (λ x. refl)
boolean_typed (t.Binary operator a e f span) q =
    operator_typed (n.full_operator operator e f) operator a e f span
    (none_compares (n.full_operator operator e f) operator (n.expression e) (n.expression f) span q)
boolean_typed (t.Logic operator e f span) q = logic_typed operator e f span (of_conditions e) (of_conditions f)
boolean_typed _ q = absurd (cc)

first_true : (p q : Bool) → (p && q) ≡ true → p ≡ true
first_true true q e = refl
first_true false q e = e

own_typed : (b : Bool) (e : t.Expression) → is_root Plain (n.expression e) ≡ b → Hold (OfType (type_of e)) (m.own b e)
own_typed true e q =
    hold_append (OfType (type_of e)) (of_nodes e) (of_conditions e) (nodes_typed e)
    (boolean_typed e (first_true (is_boolean (n.expression e)) (not (is_constant (n.expression e))) q))
own_typed false e q = tt

pub entered_typed : (e : t.Expression) (s : Sought) (inside : Sought → t.Expression) → ((u : Sought) → type_of (inside u) ≡ type_of e) → type_of (entered Plain e s inside) ≡ type_of e
entered_typed e s inside h =
    settled_hold (OfType (type_of e)) (m.own (is_root Plain (n.expression e)) e) s inside (own_typed (is_root Plain (n.expression e)) e refl) h

-- an operand of a decision around it has no mutants of its own
pub entered_inner : (e : t.Expression) (s : Sought) (inside : Sought → t.Expression) → ((u : Sought) → type_of (inside u) ≡ type_of e) → type_of (entered Inner e s inside) ≡ type_of e
entered_inner e s inside h = settled_hold (OfType (type_of e)) [] s inside tt h

-- ---- a Boolean operand of a promoted type and all its mutants have this type

flag_stays : (a : IntType) → n.is_flag a ≡ true → promoted a ≡ a → ⊥
flag_stays the.Bool q p = let none : the.Int ≡ the.Bool = p in cc
flag_stays _ q p = cc

converted_typed : (a : IntType) (span : Span) (x : t.Expression) → type_of x ≡ the.Int → type_of (converted_from_int a span x) ≡ a
converted_typed the.Int span x e = e
converted_typed _ span x e = refl

abbrev is_full : Option FullOperator → Bool
is_full found = elim found as (λ _. Bool) [ Some _ ↦ true | None ↦ false ]

operand_compares : (compares p q : Bool) (found : Option FullOperator) → (compares || (is_full found && (p && q))) ≡ true → (if p && q then found else None) ≡ None → compares ≡ true
operand_compares true p q found h e = refl
operand_compares false true true (Some full) h e = absurd (cc)
operand_compares false true true None h e = absurd (cc)
operand_compares false true false (Some full) h e = absurd (cc)
operand_compares false true false None h e = absurd (cc)
operand_compares false false q (Some full) h e = absurd (cc)
operand_compares false false q None h e = absurd (cc)

operand_typed : (e : t.Expression) → n.is_operand e ≡ true → promoted (type_of e) ≡ type_of e → Hold (OfType (type_of e)) (of_conditions e)
operand_typed (t.Constant v a span) q p = absurd (flag_stays a q p)
operand_typed (t.Read place a) q p = absurd (flag_stays a q p)
operand_typed (t.Unary operator a e span) q p = absurd (flag_stays a q p)
operand_typed (t.Convert a true e span) q p = absurd (flag_stays a q p)
operand_typed (t.Convert a false e span) q p = (
  converted_typed a span (t.Not e span) refl,
  (
    converted_typed a span (t.Logic logic.Or e (truth_at 1 span) span) refl,
    (converted_typed a span (t.Logic logic.And e (truth_at 0 span) span) refl, tt),
  ),
)
operand_typed (t.Not e span) q p = hold_any (OfType the.Int) (λ (x : t.Expression). t.Not x span) (of_conditions e) (λ x. refl)
operand_typed (t.Binary operator a e f span) q p =
    operator_typed (n.full_operator operator e f) operator a e f span
    (operand_compares (n.is_comparison operator) (n.is_operand e) (n.is_operand f) (n.bitwise operator) q)
operand_typed (t.Logic operator e f span) q p = logic_typed operator e f span (of_conditions e) (of_conditions f)
operand_typed (t.Choice e f g a span) q p = absurd (flag_stays a q p)
operand_typed (t.Call k a) q p = absurd (flag_stays a q p)
operand_typed (t.Input span) q p = absurd (cc)

-- ---- the mutants of a decision are expressions

one_within : InRange the.Int (pos 1)
one_within = record { least = le_yes (least_of the.Int) (pos 1) refl; greatest = le_yes (pos 1) (greatest_of the.Int) refl }

zero_within : InRange the.Int (pos 0)
zero_within = record { least = le_yes (least_of the.Int) (pos 0) refl; greatest = le_yes (pos 0) (greatest_of the.Int) refl }

abbrev Is : Scope → t.Expression → Type 0
Is d e = IsExpression e d

pub operands_kept : (operator : code.Operator) (a l r x y : IntType) → x ≡ l → y ≡ r → HasOperands operator a l r → HasOperands operator a x y
operands_kept (Binary operator) a l r x y e h (p, q, o) = (p, e ∙ q, h ∙ o)
operands_kept (Shift operator) a l r x y e h (p, q, o) = (p, e ∙ q, ap promoted h ∙ (o ∙ sym h))

bitwise_operands : (operator : code.Operator) (full : FullOperator) (a l r : IntType) → n.bitwise operator ≡ Some full → HasOperands operator a l r → (promoted a ≡ a) × (l ≡ a) × (r ≡ a)
bitwise_operands (Binary operator) full a l r e h = h
bitwise_operands (Shift operator) full a l r e h = absurd (cc)

shifted_sound : (d : Scope) (operator : code.Operator) (a : IntType) (e f : t.Expression) (span : Span) → Is d (t.Binary operator a e f span) → Hold (Is d) (where_shifted (shifted operator) (λ o. t.Binary o a e f span) span)
shifted_sound d (Binary Lt) a e f span h = (h, tt)
shifted_sound d (Binary Le) a e f span h = (h, tt)
shifted_sound d (Binary Gt) a e f span h = (h, tt)
shifted_sound d (Binary Ge) a e f span h = (h, tt)
shifted_sound d (Binary Eq) a e f span h = (h, tt)
shifted_sound d (Binary Ne) a e f span h = (h, tt)
shifted_sound d _ a e f span h = tt

relation_sound : (d : Scope) (e : t.Expression) → Is d e → Hold (Is d) (of_relation e)
relation_sound d (t.Binary operator a e f span) h = shifted_sound d operator a e f span h
relation_sound d _ h = tt

truth_sound : (d : Scope) (span : Span) (c : t.Expression) (around : t.Expression → t.Expression) → ((x : t.Expression) → Is d x → Is d (around x)) → Is d c → Hold (Is d) (of_truth span c around)
truth_sound d span c around k h =
    (k (t.Not c span) h, (k (t.Logic logic.Or c (truth_at 1 span) span) (h, one_within), (k (t.Logic logic.And c (truth_at 0 span) span) (h, zero_within), tt)))

converted_sound : (d : Scope) (a : IntType) (span : Span) (x : t.Expression) → Is d x → Is d (converted_from_int a span x)
converted_sound d the.Int span x h = h
converted_sound d _ span x h = h

condition_sound : (d : Scope) (e : t.Expression) → Is d e → Hold (Is d) (of_condition e)
condition_sound d (t.Convert a false c span) h = truth_sound d span c (converted_from_int a span) (converted_sound d a span) h
condition_sound d e h =
    hold_append (Is d) (of_truth (t.span_of e) e (λ x. x)) (of_relation e) (truth_sound d (t.span_of e) e (λ x. x) (λ x k. k) h) (relation_sound d e h)

-- those of the operands of an operator, which keep their types
operands_sound : (d : Scope) (operator : code.Operator) (a : IntType) (e f : t.Expression) (span : Span) (ms ns : List (Mutant t.Expression)) → Is d (t.Binary operator a e f span) → Hold (Is d) ms → Hold (OfType (type_of e)) ms → Hold (Is d) ns → Hold (OfType (type_of f)) ns → Hold (Is d) (within (λ (x : t.Expression). t.Binary operator a x f span) ms ++ within (λ (x : t.Expression). t.Binary operator a e x span) ns)
operands_sound d operator a e f span ms ns (h, k, o) left left_types right right_types =
    hold_append (Is d) (within (λ (x : t.Expression). t.Binary operator a x f span) ms) (within (λ (x : t.Expression). t.Binary operator a e x span) ns)
    (hold_two (Is d) (OfType (type_of e)) (Is d) (λ (x : t.Expression). t.Binary operator a x f span) ms
    (λ x p q. (p, k, operands_kept operator a (type_of e) (type_of f) (type_of x) (type_of f) q refl o)) left left_types)
    (hold_two (Is d) (OfType (type_of f)) (Is d) (λ (x : t.Expression). t.Binary operator a e x span) ns
    (λ x p q. (h, p, operands_kept operator a (type_of e) (type_of f) (type_of e) (type_of x) refl q o)) right right_types)

full_sound : (d : Scope) (full : Option FullOperator) (operator : code.Operator) (a : IntType) (e f : t.Expression) (span : Span) (others : List (Mutant t.Expression)) → n.full_operator operator e f ≡ full → Is d (t.Binary operator a e f span) → Hold (Is d) others → Hold (Is d) (of_full full (λ (other : BinOp). mutant Exchanged span (t.Binary (Binary other) a e f span)) others)
full_sound d None operator a e f span others is h rest = tt
full_sound d (Some full) operator a e f span others is (h, k, o) rest =
    let w = full_parts (n.is_operand e) (n.is_operand f) (n.bitwise operator) full is in
    ((h, k, bitwise_operands operator full a (type_of e) (type_of f) w.2 o), rest)

nodes_sound : (d : Scope) (e : t.Expression) → Is d e → Hold (Is d) (of_nodes e)
nodes_sound d (t.Not e span) h =
    hold_within (Is d) (Is d) (λ (x : t.Expression). t.Not x span) (of_nodes e) (λ x k. k) (nodes_sound d e h)
nodes_sound d (t.Binary operator a e f span) (h, k, o) =
    full_sound d (n.full_operator operator e f) operator a e f span
    (within (λ (x : t.Expression). t.Binary operator a x f span) (of_nodes e) ++ within (λ (x : t.Expression). t.Binary operator a e x span) (of_nodes f)) refl (h, k, o)
    (operands_sound d operator a e f span (of_nodes e) (of_nodes f) (h, k, o) (nodes_sound d e h) (nodes_typed e) (nodes_sound d f k) (nodes_typed f))
nodes_sound d (t.Logic operator e f span) (h, k) = (
  (h, k),
  hold_append (Is d) (within (λ (x : t.Expression). t.Logic operator x f span) (of_nodes e)) (within (λ (x : t.Expression). t.Logic operator e x span) (of_nodes f))
      (hold_within (Is d) (Is d) (λ (x : t.Expression). t.Logic operator x f span) (of_nodes e) (λ x p. (p, k)) (nodes_sound d e h))
      (hold_within (Is d) (Is d) (λ (x : t.Expression). t.Logic operator e x span) (of_nodes f) (λ x p. (h, p)) (nodes_sound d f k)),
)
nodes_sound d _ h = tt

promoted_as : (a l : IntType) → promoted a ≡ a → l ≡ a → promoted l ≡ l
promoted_as a l p e = ap promoted e ∙ (p ∙ sym e)

operator_sound : (d : Scope) (full : Option FullOperator) (operator : code.Operator) (a : IntType) (e f : t.Expression) (span : Span) → n.full_operator operator e f ≡ full → Is d (t.Binary operator a e f span) → Hold (Is d) (of_conditions e) → Hold (Is d) (of_conditions f) → Hold (Is d) (of_operator full (of_condition (t.Binary operator a e f span)) (within (λ (x : t.Expression). t.Binary operator a x f span) (of_conditions e) ++ within (λ (x : t.Expression). t.Binary operator a e x span) (of_conditions f)))
operator_sound d None operator a e f span is h left right = condition_sound d (t.Binary operator a e f span) h
operator_sound d (Some full) operator a e f span is (h, k, o) left right =
    let w = full_parts (n.is_operand e) (n.is_operand f) (n.bitwise operator) full is in
    let u = bitwise_operands operator full a (type_of e) (type_of f) w.2 o in
    operands_sound d operator a e f span (of_conditions e) (of_conditions f) (h, k, o) left
    (operand_typed e w.0 (promoted_as a (type_of e) u.0 u.1)) right
    (operand_typed f w.1 (promoted_as a (type_of f) u.0 u.2))

conditions_sound : (d : Scope) (e : t.Expression) → Is d e → Hold (Is d) (of_conditions e)
conditions_sound d (t.Not e span) h =
    hold_within (Is d) (Is d) (λ (x : t.Expression). t.Not x span) (of_conditions e) (λ x k. k) (conditions_sound d e h)
conditions_sound d (t.Binary operator a e f span) (h, k, o) =
    operator_sound d (n.full_operator operator e f) operator a e f span refl (h, k, o) (conditions_sound d e h) (conditions_sound d f k)
conditions_sound d (t.Logic operator e f span) (h, k) =
    hold_append (Is d) (within (λ (x : t.Expression). t.Logic operator x f span) (of_conditions e)) (within (λ (x : t.Expression). t.Logic operator e x span) (of_conditions f))
    (hold_within (Is d) (Is d) (λ (x : t.Expression). t.Logic operator x f span) (of_conditions e) (λ x p. (p, k)) (conditions_sound d e h))
    (hold_within (Is d) (Is d) (λ (x : t.Expression). t.Logic operator e x span) (of_conditions f) (λ x p. (h, p)) (conditions_sound d f k))
conditions_sound d e h = condition_sound d e h

own_sound : (d : Scope) (b : Bool) (e : t.Expression) → Is d e → Hold (Is d) (m.own b e)
own_sound d true e h =
    hold_append (Is d) (of_nodes e) (of_conditions e) (nodes_sound d e h) (conditions_sound d e h)
own_sound d false e h = tt

pub entered_sound : (d : Scope) (role : Role) (e : t.Expression) (s : Sought) (inside : Sought → t.Expression) → IsExpression e d → ((u : Sought) → IsExpression (inside u) d) → IsExpression (entered role e s inside) d
entered_sound d role e s inside h k =
    settled_hold (Is d) (m.own (is_root role (n.expression e)) e) s inside (own_sound d (is_root role (n.expression e)) e h) k

-- ---- the mutants of a decision make the same objects

abbrev Makes : List Slot → t.Expression → Type 0
Makes l e = slots e ≡ l

relation_makes : (e : t.Expression) → Hold (Makes (slots e)) (of_relation e)
relation_makes (t.Binary (Binary Lt) a e f span) = (refl, tt)
relation_makes (t.Binary (Binary Le) a e f span) = (refl, tt)
relation_makes (t.Binary (Binary Gt) a e f span) = (refl, tt)
relation_makes (t.Binary (Binary Ge) a e f span) = (refl, tt)
relation_makes (t.Binary (Binary Eq) a e f span) = (refl, tt)
relation_makes (t.Binary (Binary Ne) a e f span) = (refl, tt)
relation_makes _ = tt

truth_makes : (span : Span) (c : t.Expression) (around : t.Expression → t.Expression) → ((x : t.Expression) → slots (around x) ≡ slots x) → Hold (Makes (slots c)) (of_truth span c around)
truth_makes span c around h =
    (h (t.Not c span), (h (t.Logic logic.Or c (truth_at 1 span) span) ∙ append-nil (slots c), (h (t.Logic logic.And c (truth_at 0 span) span) ∙ append-nil (slots c), tt)))

converted_makes : (a : IntType) (span : Span) (x : t.Expression) → slots (converted_from_int a span x) ≡ slots x
converted_makes the.Int span x = refl
converted_makes _ span x = refl

condition_makes : (e : t.Expression) → Hold (Makes (slots e)) (of_condition e)
condition_makes (t.Convert a false c span) = truth_makes span c (converted_from_int a span) (converted_makes a span)
condition_makes e =
    hold_append (Makes (slots e)) (of_truth (t.span_of e) e (λ x. x)) (of_relation e) (truth_makes (t.span_of e) e (λ x. x) (λ x. refl)) (relation_makes e)

operands_make : (operator : code.Operator) (a : IntType) (e f : t.Expression) (span : Span) (ms ns : List (Mutant t.Expression)) → Hold (Makes (slots e)) ms → Hold (Makes (slots f)) ns → Hold (Makes (slots e ++ slots f)) (within (λ (x : t.Expression). t.Binary operator a x f span) ms ++ within (λ (x : t.Expression). t.Binary operator a e x span) ns)
operands_make operator a e f span ms ns left right =
    hold_append (Makes (slots e ++ slots f)) (within (λ (x : t.Expression). t.Binary operator a x f span) ms) (within (λ (x : t.Expression). t.Binary operator a e x span) ns)
    (hold_within (Makes (slots e)) (Makes (slots e ++ slots f)) (λ (x : t.Expression). t.Binary operator a x f span) ms (λ x k. ap (λ (l : List Slot). l ++ slots f) k) left)
    (hold_within (Makes (slots f)) (Makes (slots e ++ slots f)) (λ (x : t.Expression). t.Binary operator a e x span) ns (λ x k. ap (λ (l : List Slot). slots e ++ l) k) right)

full_makes : (full : Option FullOperator) (a : IntType) (e f : t.Expression) (span : Span) (others : List (Mutant t.Expression)) → Hold (Makes (slots e ++ slots f)) others → Hold (Makes (slots e ++ slots f)) (of_full full (λ (other : BinOp). mutant Exchanged span (t.Binary (Binary other) a e f span)) others)
full_makes None a e f span others h = tt
full_makes (Some full) a e f span others h = (refl, h)

nodes_make : (e : t.Expression) → Hold (Makes (slots e)) (of_nodes e)
nodes_make (t.Not e span) =
    hold_within (Makes (slots e)) (Makes (slots e)) (λ (x : t.Expression). t.Not x span) (of_nodes e) (λ x k. k) (nodes_make e)
nodes_make (t.Binary operator a e f span) =
    full_makes (n.full_operator operator e f) a e f span
    (within (λ (x : t.Expression). t.Binary operator a x f span) (of_nodes e) ++ within (λ (x : t.Expression). t.Binary operator a e x span) (of_nodes f))
    (operands_make operator a e f span (of_nodes e) (of_nodes f) (nodes_make e) (nodes_make f))
nodes_make (t.Logic operator e f span) = (
  refl,
  hold_append (Makes (slots e ++ slots f)) (within (λ (x : t.Expression). t.Logic operator x f span) (of_nodes e)) (within (λ (x : t.Expression). t.Logic operator e x span) (of_nodes f))
      (hold_within (Makes (slots e)) (Makes (slots e ++ slots f)) (λ (x : t.Expression). t.Logic operator x f span) (of_nodes e) (λ x k. ap (λ (l : List Slot). l ++ slots f) k) (nodes_make e))
      (hold_within (Makes (slots f)) (Makes (slots e ++ slots f)) (λ (x : t.Expression). t.Logic operator e x span) (of_nodes f) (λ x k. ap (λ (l : List Slot). slots e ++ l) k) (nodes_make f)),
)
nodes_make _ = tt

operator_makes : (full : Option FullOperator) (e : t.Expression) (l : List Slot) (others : List (Mutant t.Expression)) → Hold (Makes l) (of_condition e) → Hold (Makes l) others → Hold (Makes l) (of_operator full (of_condition e) others)
operator_makes None e l others h k = h
operator_makes (Some full) e l others h k = k

conditions_make : (e : t.Expression) → Hold (Makes (slots e)) (of_conditions e)
conditions_make (t.Not e span) =
    hold_within (Makes (slots e)) (Makes (slots e)) (λ (x : t.Expression). t.Not x span) (of_conditions e) (λ x k. k) (conditions_make e)
conditions_make (t.Binary operator a e f span) =
    operator_makes (n.full_operator operator e f) (t.Binary operator a e f span) (slots e ++ slots f)
    (within (λ (x : t.Expression). t.Binary operator a x f span) (of_conditions e) ++ within (λ (x : t.Expression). t.Binary operator a e x span) (of_conditions f))
    (condition_makes (t.Binary operator a e f span)) (operands_make operator a e f span (of_conditions e) (of_conditions f) (conditions_make e) (conditions_make f))
conditions_make (t.Logic operator e f span) =
    hold_append (Makes (slots e ++ slots f)) (within (λ (x : t.Expression). t.Logic operator x f span) (of_conditions e)) (within (λ (x : t.Expression). t.Logic operator e x span) (of_conditions f))
    (hold_within (Makes (slots e)) (Makes (slots e ++ slots f)) (λ (x : t.Expression). t.Logic operator x f span) (of_conditions e) (λ x k. ap (λ (l : List Slot). l ++ slots f) k) (conditions_make e))
    (hold_within (Makes (slots f)) (Makes (slots e ++ slots f)) (λ (x : t.Expression). t.Logic operator e x span) (of_conditions f) (λ x k. ap (λ (l : List Slot). slots e ++ l) k) (conditions_make f))
conditions_make e = condition_makes e

own_makes : (b : Bool) (e : t.Expression) → Hold (Makes (slots e)) (m.own b e)
own_makes true e = hold_append (Makes (slots e)) (of_nodes e) (of_conditions e) (nodes_make e) (conditions_make e)
own_makes false e = tt

pub entered_makes : (role : Role) (e : t.Expression) (s : Sought) (inside : Sought → t.Expression) → ((u : Sought) → slots (inside u) ≡ slots e) → slots (entered role e s inside) ≡ slots e
entered_makes role e s inside h =
    settled_hold (Makes (slots e)) (m.own (is_root role (n.expression e)) e) s inside (own_makes (is_root role (n.expression e)) e) h
