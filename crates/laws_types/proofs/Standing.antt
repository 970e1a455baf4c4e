-- The typed program of an accepted source stands as in its text.
use Rattle.std.proofs.Common.{ℕ, ◌<◌, ◌≤◌, false, List, [], ◌∷◌, Option, Some, None, arith}
use Rattle.mc_span.specs.declared.span.Span.{Span}
use Rattle.mc_tree.specs.Tree.{Expression, Expressions, span_of}
use Rattle.mc_typed.specs.declared.operators.Operator.{Operator}
use Rattle.mc_typed.specs.Tree.{Place, FunctionCall, Arguments, Argument, StructureValue, Effect, Statements}
use Rattle.mc_typed.specs.Tree as typed
use Rattle.decide_rules.specs.declared.operators.FullOperator.{FullOperator}
use Rattle.decide_rules.specs.Nodes.{Node, Constant, Not, Logic, Whole, Parts, no_parts, part, controlling}
use Rattle.decide_rules.specs.Nodes as nodes
use Rattle.decide_rules.specs.Laws.{IsBetween, IsExpression, StandsIn, StandIn}
use Rattle.laws_types.specs.Source.{IsOneAt, IsNameOf, IsNumberOf, IsOperandOf, IsPlaceOf, IsCallOf, AreArgumentsOf, IsArgumentOf, IsStructureOf, IsEffectOf}
use Rattle.laws_types.specs.Source as of
use Rattle.laws_types.specs.SourceUnits.{AreClausesOf}
use Rattle.laws_types.specs.SourceUnits as of_units
use Rattle.laws_types.proofs.Nesting.{Follow, ordered, skip, behind, first, full, spans_of, Nested, AreNested}

-- ---- regions

own : {span : Span} → span.start < span.end → IsBetween span.start span.end span
own h = (omega arith, h, omega arith)

between : (l low high h : ℕ) (span : Span) → l ≤ low → high ≤ h → IsBetween low high span → IsBetween l h span
between l low high h span p q (a, b, c) = (omega (arith, p, a), b, omega (arith, q, c))

mutual
  pub wider : (a : Node) (l low high h : ℕ) → l ≤ low → high ≤ h → StandsIn low high a → StandsIn l h a
  wider (Constant span) l low high h p q s = tt
  wider (Not a span) l low high h p q s = λ c. (between l low high h span p q (s c).0, (s c).1)
  wider (Logic operator a b span) l low high h p q s =
      λ c. let (k, m, d, e, sa, sb) = s c in (between l low high h span p q k, m, d, e, sa, sb)
  wider (nodes.Expression top ps span) l low high h p q s = λ c. (between l low high h span p q (s c).0, (s c).1)
  wider (Whole ps) l low high h p q s = wider_parts ps l low high h p q s

  pub wider_parts : (ps : Parts) (l low high h : ℕ) → l ≤ low → high ≤ h → StandIn low high ps → StandIn l h ps
  wider_parts no_parts l low high h p q s = tt
  wider_parts (part a ps) l low high h p q (m, d, e, sa, sp) =
      (m, omega (arith, p, d), omega (arith, q, e), wider a l low m m p (omega arith) sa, wider_parts ps m m high h (omega arith) q sp)
  wider_parts (controlling a ps) l low high h p q (m, d, e, x, sa, sp) =
      (m, omega (arith, p, d), omega (arith, q, e), x, wider a l low m m p (omega arith) sa, wider_parts ps m m high h (omega arith) q sp)

-- a node stands within its own place, and this between two bytes
record Stood (low high : ℕ) (span : Span) (a : Node) : Type 0 where
  bounds : IsBetween low high span
  inside : StandsIn span.start span.end a

fits : {low high : ℕ} {span : Span} {a : Node} → Stood low high span a → StandsIn low high a
fits {low = low} {high = high} {span = span} {a = a} s = wider a low span.start span.end high s.bounds.0 s.bounds.2 s.inside

outer : {low high : ℕ} {x span : Span} {xs : List Span} {a : Node} → Follow low high (x ∷ xs) → Stood x.start x.end span a → Stood low high span a
outer {low = low} {high = high} {x = x} {span = span} f s = record {
  bounds = between low x.start x.end high span (first f) (ordered (behind f)) s.bounds;
  inside = s.inside;
}

-- ---- nodes from their parts

-- the first of some parts, which stands in the place of the first expression
first_part : {low high : ℕ} {x : Span} {xs : List Span} (a : Node) (ps : Parts) → Follow low high (x ∷ xs)
    → StandsIn x.start x.end a → StandIn x.end high ps → StandIn low high (part a ps)
first_part {low = low} {x = x} a ps f s k =
    (x.end, omega (arith, first f, full f), ordered (behind f), wider a low x.start x.end x.end (first f) (omega arith) s, k)

both_expression : (full : Option FullOperator) (operator : Operator) (a b : Node) (span : Span)
    → IsExpression (nodes.evaluates_both full operator a b span)
both_expression (Some f) operator a b span = tt
both_expression None operator a b span = tt

pub is_expression : (e : typed.Expression) → IsExpression (nodes.expression e)
is_expression (typed.Constant v t span) = tt
is_expression (typed.Read object t) = tt
is_expression (typed.Unary operator t e span) = tt
is_expression (typed.Convert t written e span) = tt
is_expression (typed.Not e span) = tt
is_expression (typed.Binary operator t e f span) =
    both_expression (nodes.full_operator operator e f) operator (nodes.expression e) (nodes.expression f) span
is_expression (typed.Logic operator e f span) = tt
is_expression (typed.Choice e f g t span) = tt
is_expression (typed.Call k t) = tt
is_expression (typed.Input span) = tt

first_test : {low high : ℕ} {x : Span} {xs : List Span} (e : typed.Expression) (ps : Parts) → Follow low high (x ∷ xs)
    → StandsIn x.start x.end (nodes.expression e) → StandIn x.end high ps → StandIn low high (controlling (nodes.expression e) ps)
first_test {low = low} {x = x} e ps f s k = (
  x.end,
  omega (arith, first f, full f),
  ordered (behind f),
  is_expression e,
  wider (nodes.expression e) low x.start x.end x.end (first f) (omega arith) s,
  k,
)

-- one part that takes the whole place
only : (a : Node) (low high : ℕ) → low ≤ high → StandsIn low high a → StandIn low high (part a no_parts)
only a low high le s = (high, le, omega arith, s, tt)

-- an expression with these parts
made : {span : Span} (top : nodes.Top) (ps : Parts) → span.start < span.end → StandIn span.start span.end ps
    → Stood span.start span.end span (nodes.Expression top ps span)
made top ps h s = record { bounds = own h; inside = λ c. (own h, s) }

-- an operator that evaluates both of its operands, which part at this byte
both_made : {span : Span} (full : Option FullOperator) (operator : Operator) (a b : Node) (middle : ℕ)
    → span.start < span.end → span.start ≤ middle → middle ≤ span.end
    → StandsIn span.start middle a → StandsIn middle span.end b
    → Stood span.start span.end span (nodes.evaluates_both full operator a b span)
both_made (Some f) operator a b middle h low high left right =
    record { bounds = own h; inside = λ c. (own h, middle, low, high, left, right) }
both_made {span = span} None operator a b middle h low high left right =
    made (nodes.Operator (nodes.is_comparison operator)) (part a (part b no_parts)) h
    (middle, low, high, left, only b middle span.end high right)

-- another node in the same place, with this as its part
around : {low high : ℕ} {span : Span} {a : Node} (top : nodes.Top) → Stood low high span a
    → Stood low high span (nodes.Expression top (part a no_parts) span)
around {span = span} {a = a} top s = record {
  bounds = s.bounds;
  inside = λ c. (own s.bounds.1, only a span.start span.end (omega (arith, s.bounds.1)) s.inside);
}

-- ---- expressions

name : {a : Expression} {at : Span} → IsNameOf a at → Nested a → (span_of a).start < (span_of a).end
    → IsBetween (span_of a).start (span_of a).end at
name of.name_bare k h = own h
name (of.name_inside {a = a} {span = span} {at = at} g) (w, k) h =
    between span.start (span_of a).start (span_of a).end span.end at (first w) (ordered (behind w)) (name g k (full w))

one_stands : {at : Span} {e : typed.Expression} (low high : ℕ) → IsOneAt at e → StandsIn low high (nodes.expression e)
one_stands low high of.one = tt
one_stands low high of.converted_one = λ c. absurd (cc)

mutual
  number : {a : Expression} {e : typed.Expression} → IsNumberOf a e → Nested a → (span_of a).start < (span_of a).end
      → Stood (span_of a).start (span_of a).end (typed.span_of e) (nodes.expression e)
  number (of.inside g) (w, k) h = outer w (number g k (full w))
  number of.enumerator k h = record { bounds = own h; inside = tt }
  number of.constant k h = record { bounds = own h; inside = tt }
  number of.character k h = record { bounds = own h; inside = tt }
  number (of.read g) k h = around nodes.Other (place g k h)
  number (of.one_operand {e = e} q g) (w, k) h =
      made (nodes.Operator false) (part (nodes.expression e) no_parts) h
      (first_part (nodes.expression e) no_parts w (fits (operand g k (full w))) tt)
  number (of.negation g) (w, k) h = record {
    bounds = own h;
    inside = λ c. (own h, fits (outer w (number g k (full w))));
  }
  number (of.cast {e = e} g) (w, k) h =
      made (nodes.Operator false) (part (nodes.expression e) no_parts) h
      (first_part (nodes.expression e) no_parts w (fits (number g k (full w))) tt)
  number (of.two_operands {o = o} {a = a} {e = e} {f = f} {span = span} q g i) (w, k, l) h =
      both_made (nodes.full_operator o e f) o (nodes.expression e) (nodes.expression f) (span_of a).end h
      (omega (arith, first w, full w)) (ordered (behind w))
      (wider (nodes.expression e) span.start (span_of a).start (span_of a).end (span_of a).end (first w) (omega arith) (fits (operand g k (full w))))
      (fits (outer (behind w) (operand i l (full (behind w)))))
  number (of.logical {a = a} {b = b} {e = e} {f = f} {span = span} q g i) (w, k, l) h = record {
    bounds = own h;
    inside = λ c. (
      own h,
      (span_of a).end,
      omega (arith, first w, full w),
      ordered (behind w),
      wider (nodes.expression e) span.start (span_of a).start (span_of a).end (span_of a).end (first w) (omega arith) (fits (number g k (full w))),
      fits (outer (behind w) (number i l (full (behind w)))),
    );
  }
  number (of.choice {e = e} {f = f} {g = g} i j m) (w, k, l, r) h =
      made (nodes.Operator false) (controlling (nodes.expression e) (part (nodes.expression f) (part (nodes.expression g) no_parts))) h
      (first_test e (part (nodes.expression f) (part (nodes.expression g) no_parts)) w (fits (number i k (full w)))
      (first_part (nodes.expression f) (part (nodes.expression g) no_parts) (behind w) (fits (operand j l (full (behind w))))
      (first_part (nodes.expression g) no_parts (behind (behind w)) (fits (operand m r (full (behind (behind w))))) tt)))
  number (of.call g) k h = called g k h
  number (of.input q) k h = record { bounds = own h; inside = λ c. (own h, tt) }

  operand : {a : Expression} {e : typed.Expression} → IsOperandOf a e → Nested a → (span_of a).start < (span_of a).end
      → Stood (span_of a).start (span_of a).end (typed.span_of e) (nodes.expression e)
  operand (of.as_it_is g) k h = number g k h
  operand (of.converted g) k h = around (nodes.Operator false) (number g k h)

  place : {a : Expression} {p : Place} → IsPlaceOf a p → Nested a → (span_of a).start < (span_of a).end
      → Stood (span_of a).start (span_of a).end (typed.span_of_place p) (nodes.place p)
  place (of.place_inside g) (w, k) h = outer w (place g k (full w))
  place of.local k h = record { bounds = own h; inside = λ c. (own h, tt) }
  place of.static k h = record { bounds = own h; inside = λ c. (own h, tt) }
  place (of.parameter {e = e} g i) (w, k, l) h =
      made nodes.Other (part (nodes.expression e) no_parts) h
      (first_part (nodes.expression e) no_parts (skip w) (fits (number i l (full (behind w)))) tt)
  place (of.item {place = p} {e = e} g i) (w, k, l) h =
      made nodes.Other (part (nodes.place p) (part (nodes.expression e) no_parts)) h
      (first_part (nodes.place p) (part (nodes.expression e) no_parts) w (fits (place g k (full w)))
      (first_part (nodes.expression e) no_parts (behind w) (fits (number i l (full (behind w)))) tt))
  place (of.member {place = p} g) (w, k) h =
      made nodes.Other (part (nodes.place p) no_parts) h
      (first_part (nodes.place p) no_parts w (fits (place g k (full w))) tt)

  called : {a : Expression} {c : FunctionCall} → IsCallOf a c → Nested a → (span_of a).start < (span_of a).end
      → Stood (span_of a).start (span_of a).end (typed.span_of_call c) (nodes.Expression nodes.Other (nodes.call_parts c) (typed.span_of_call c))
  called (of.call_inside g) (w, k) h = outer w (called g k (full w))
  called (of.called {all = all} g) (w, k) h = made nodes.Other (nodes.arguments all) h (arguments g k w)

  arguments : {given : Expressions} {all : Arguments} {low high : ℕ} → AreArgumentsOf given all → AreNested given
      → Follow low high (spans_of given) → StandIn low high (nodes.arguments all)
  arguments of.no_arguments k w = tt
  arguments (of.arguments {one = one} {all = all} g i) (k, l) w =
      first_part (nodes.argument one) (nodes.arguments all) w (argument g k (full w)) (arguments i l (behind w))

  argument : {a : Expression} {x : Argument} → IsArgumentOf a x → Nested a → (span_of a).start < (span_of a).end
      → StandsIn (span_of a).start (span_of a).end (nodes.argument x)
  argument (of.number_argument g) k h = fits (operand g k h)
  argument (of.structure_argument g) k h = structure g k h
  argument (of.array_argument g) k h = fits (place g k h)
  argument (of.again_argument g) k h = λ c. (name g k h, tt)

  structure : {a : Expression} {v : StructureValue} → IsStructureOf a v → Nested a → (span_of a).start < (span_of a).end
      → StandsIn (span_of a).start (span_of a).end (nodes.structure v)
  structure (of.stored g) k h = fits (place g k h)
  structure (of.returned g) k h = fits (called g k h)

-- the arguments of a call alone
call_parts : {a : Expression} {c : FunctionCall} → IsCallOf a c → Nested a → (span_of a).start < (span_of a).end
    → StandIn (span_of a).start (span_of a).end (nodes.call_parts c)
call_parts (of.call_inside {a = a} {k = c} {span = span} g) (w, k) h =
    wider_parts (nodes.call_parts c) span.start (span_of a).start (span_of a).end span.end (first w) (ordered (behind w)) (call_parts g k (full w))
call_parts (of.called g) (w, k) h = arguments g k w

pub number_stands : {a : Expression} {e : typed.Expression} → IsNumberOf a e → Nested a → (span_of a).start < (span_of a).end
    → StandsIn (span_of a).start (span_of a).end (nodes.expression e)
number_stands g k h = fits (number g k h)

pub operand_stands : {a : Expression} {e : typed.Expression} → IsOperandOf a e → Nested a → (span_of a).start < (span_of a).end
    → StandsIn (span_of a).start (span_of a).end (nodes.expression e)
operand_stands g k h = fits (operand g k h)

pub structure_stands : {a : Expression} {v : StructureValue} → IsStructureOf a v → Nested a → (span_of a).start < (span_of a).end
    → StandsIn (span_of a).start (span_of a).end (nodes.structure v)
structure_stands g k h = structure g k h

-- ---- effects

target_and : {a : Expression} {p : Place} {b : Span} {low high : ℕ} (x : Node) → IsPlaceOf a p → Nested a
    → Follow low high (span_of a ∷ b ∷ []) → StandsIn b.start b.end x → StandIn low high (part (nodes.place p) (part x no_parts))
target_and {p = p} x g k w s =
    first_part (nodes.place p) (part x no_parts) w (fits (place g k (full w))) (first_part x no_parts (behind w) s tt)

stepped : {a : Expression} {p : Place} {at : Span} {e : typed.Expression} {low high : ℕ} → IsPlaceOf a p → IsOneAt at e → Nested a
    → Follow low high (span_of a ∷ []) → StandIn low high (part (nodes.place p) (part (nodes.expression e) no_parts))
stepped {a = a} {p = p} {e = e} {high = high} g i k w =
    first_part (nodes.place p) (part (nodes.expression e) no_parts) w (fits (place g k (full w)))
    (only (nodes.expression e) (span_of a).end high (ordered (behind w)) (one_stands (span_of a).end high i))

pub effect : {a : Expression} {x : Effect} → IsEffectOf a x → Nested a → (span_of a).start < (span_of a).end
    → StandsIn (span_of a).start (span_of a).end (nodes.effect x)
effect (of.effect_inside {a = a} {x = x} {span = span} g) (w, k) h =
    wider (nodes.effect x) span.start (span_of a).start (span_of a).end span.end (first w) (ordered (behind w)) (effect g k (full w))
effect (of.assignment {e = e} g i) (w, k, l) h = target_and (nodes.expression e) g k w (fits (operand i l (full (behind w))))
effect (of.copy {value = v} g i) (w, k, l) h = target_and (nodes.structure v) g k w (structure i l (full (behind w)))
effect (of.update {e = e} q g i) (w, k, l) h = target_and (nodes.expression e) g k w (fits (operand i l (full (behind w))))
effect (of.step_after g i) (w, k) h = stepped g i k w
effect (of.step_before g i) (w, k) h = stepped g i k w
effect (of.number_effect g) k h = fits (number g k h)
effect (of.structure_effect g) k h = structure g k h
effect (of.call_effect g) k h = call_parts g k h
effect (of.output {e = e} q g) (w, (k, l)) h = first_part (nodes.expression e) no_parts w (fits (operand g k (full w))) tt
effect (of.effect_choice {e = e} {x = x} {y = y} g i j) (w, k, l, r) h =
    first_test e (part (nodes.effect x) (part (nodes.effect y) no_parts)) w (fits (number g k (full w)))
    (first_part (nodes.effect x) (part (nodes.effect y) no_parts) (behind w) (effect i l (full (behind w)))
    (first_part (nodes.effect y) no_parts (behind (behind w)) (effect j r (full (behind (behind w)))) tt))
effect (of.discard {x = x} g) (w, k) h = first_part (nodes.effect x) no_parts w (effect g k (full w)) tt

-- ---- clauses

pub clauses : {low high : ℕ} {all : Expressions} {xs : List Effect} → AreClausesOf all xs → AreNested all
    → Follow low high (spans_of all) → StandIn low high (nodes.effects xs)
clauses of_units.no_clauses k w = tt
clauses (of_units.clauses {x = x} {all = xs} g i) (k, l) w =
    first_part (nodes.effect x) (nodes.effects xs) w (effect g k (full w)) (clauses i l (behind w))
