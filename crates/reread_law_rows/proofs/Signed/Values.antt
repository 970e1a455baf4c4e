-- The brackets of expressions and effects: one case for each rule of what they have of their source.
use Rattle.std.proofs.Common.{◌≡◌, ◌≤◌, ℕ, ◌+◌, pos, false, true, List, [], ◌∷◌, length, refl, sym, subst, arith}
use Rattle.mc_span.specs.declared.span.Span.{Span}
use Rattle.mc_tree.specs.Tree.{Expression, Expressions}
use Rattle.mc_tree.specs.Tree as tree
use Rattle.mc_value.specs.declared.int_type.IntType.{IntType}
use Rattle.mc_value.specs.declared.int_type.IntType.TheVariants.{Int}
use Rattle.mc_typed.specs.declared.probes.Probe.{Probe}
use Rattle.mc_typed.specs.Tree.{Place, FunctionCall, Arguments, Argument, StructureValue, Effect}
use Rattle.mc_typed.specs.Tree as typed
use Rattle.decide_rules.specs.declared.role.Role.TheVariants.{Controlling, Plain}
use Rattle.decide_rules.specs.Nodes as nodes
use Rattle.decide_rules.specs.Nodes.{full_operator}
use Rattle.decide_rules.specs.Conditions.{width}
use Rattle.decide_rules.specs.Counts.{roots}
use Rattle.mc_probe.specs.Maps.{Map}
use Rattle.mc_probe.specs.Tree as p
use Rattle.mc_probe.specs.Table.{Stand, Loose, role_of, under, beside, inner, put, put_place, put_call, put_structure, put_argument, put_arguments, put_effect}
use Rattle.reread_law_texts.specs.weave.Brackets.{Brackets}
use Rattle.reread_law_texts.specs.brackets.Signs.{Sign, signs, signs_in_expressions}
use Rattle.reread_law_rows.specs.inserted.Rows.{Row, rows, rows_in_place, rows_in_structure, rows_in_argument, rows_in_arguments, rows_in_effect}
use Rattle.reread_law_texts.specs.apart.Places.{spans, spans_in_expressions}
use Rattle.laws_types.specs.Source.{IsOneAt, IsNumberOf, IsOperandOf, IsPlaceOf, IsCallOf, AreArgumentsOf, IsArgumentOf, IsStructureOf, IsEffectOf}
use Rattle.laws_types.specs.Source as of
use Rattle.reread_law_rows.proofs.Signed.Split.{probed_by}
use Rattle.reread_law_rows.proofs.Signed.Signed.{Level, Signed, opens_none, closes, node}
use Rattle.reread_law_rows.proofs.Signed.Silent.{silent, silent_in_expressions, silent_in_type_name}
use Rattle.reread_law_rows.proofs.Signed.Wrapped.{room, own_room, left_fits, right_fits, wrapped_by, wrapped, put_extent, converted_rows}

-- the 1 of `++` and `--` has no probe
pub one_silent : (m : Map) (first d : ℕ) {at : Span} {e : typed.Expression} (mine : List Row) → IsOneAt at e → rows (put m first (Loose Plain) d e) mine ≡ mine
one_silent m first d mine of.one = refl
one_silent m first d mine of.converted_one = refl

pub none : 0 ≤ 1
none = omega arith

none_of_three : 0 ≤ 3
none_of_three = omega arith

without_room : (n k : ℕ) → n + k ≤ 1 → n ≤ 1
without_room n k h = omega (arith, h)

with_room : (n k : ℕ) → n ≤ k → k ≤ 1 → n ≤ 1
with_room n k h l = omega (arith, h, l)

module _ (w : Brackets) (m : Map) (first : ℕ) where
  mutual
    pub number : {a : Expression} {e : typed.Expression} → IsNumberOf a e → (qs : List Probe) (st : Stand) (d : ℕ) → length qs ≤ 1 → {o : List Level} {own held : List Span} {mine : List Row} {ps : List Sign}
        → Signed w o own held mine ps → Signed w o (spans a own) held (rows (probed_by qs (put m first st d e)) mine) (signs w a ps)
    number (of.inside {span = span} h) qs st d b t = opens_none w span (number h qs st d b (closes w 0 span t))
    number (of.enumerator {name = name} {v = v}) qs st d b {mine = mine} t =
        wrapped w m first qs st d _ (λ c k. p.Constant v Int name.span) mine b (λ all few. node w all (p.Constant v Int name.span) mine few (closes w (length all) name.span t))
    number (of.constant {v = v} {t = ty} {span = span}) qs st d b {mine = mine} t =
        wrapped w m first qs st d _ (λ c k. p.Constant (pos v) ty span) mine b (λ all few. node w all _ mine few (closes w (length all) span t))
    number (of.character {v = v} {t = ty} {span = span}) qs st d b {mine = mine} t =
        wrapped w m first qs st d _ (λ c k. p.Constant v ty span) mine b (λ all few. node w all _ mine few (closes w (length all) span t))
    number (of.read {place = pl} {t = ty} h) qs st d b {mine = mine} t =
        wrapped w m first qs st d _ (λ c k. p.Read (put_place m first k pl) ty) mine b (λ all few. place h all ty _ few t)
    number (of.one_operand {o = operator} {e = x} {t = ty} {span = span} e h) qs st d b {mine = mine} t =
        wrapped w m first qs st d _ (λ c k. p.Unary operator ty (put m first (Loose Plain) k x) span) mine b (λ all few. node w all _ mine few (operand h [] (Loose Plain) _ none (closes w (length all) span t)))
    number (of.negation {e = x} {span = span} h) qs st d b {mine = mine} t =
        wrapped w m first qs st d _ (λ c k. p.Not (put m first c k x) span) mine b (λ all few. node w all _ mine few (number h [] _ _ none (closes w (length all) span t)))
    number (of.cast {type = type} {e = x} {t = ty} {span = span} h) qs st d b {mine = mine} t =
        wrapped w m first qs st d _ (λ c k. p.Convert ty true (put m first (Loose Plain) k x) span) mine b
        (λ all few. node w all _ mine few (silent_in_type_name w type (number h [] _ _ none (closes w (length all) span t))))
    number (of.two_operands {o = operator} {e = x} {f = y} {t = ty} {span = span} e h l) qs st d b {mine = mine} t =
        wrapped w m first qs st d _
        (λ c k. p.Binary operator ty (put m first (under (full_operator operator x y) c) k x)
        (put m first (beside (under (full_operator operator x y) c) (width (nodes.expression x)))
        (k + roots (role_of (under (full_operator operator x y) c)) (nodes.expression x)) y) span) mine b
        (λ all few.
        let full = full_operator operator x y in
        let whole = nodes.expression (typed.Binary operator ty x y span) in
        node w all _ mine few (operand h [] _ _ (left_fits full st d whole)
        (operand l [] _ _ (right_fits full st d whole (width (nodes.expression x))) (closes w (length all) span t))))
    number (of.logical {o = operator} {e = x} {f = y} {span = span} e h l) qs st d b {mine = mine} t =
        wrapped w m first qs st d _
        (λ c k. p.Logic operator (put m first c k x)
        (put m first (beside c (width (nodes.expression x))) (k + roots (role_of c) (nodes.expression x)) y) span) mine b
        (λ all few. node w all _ mine few (number h [] _ _ none (number l [] _ _ none (closes w (length all) span t))))
    number (of.choice {e = x} {f = y} {g = z} {t = ty} {span = span} h l k) qs st d b {mine = mine} t =
        wrapped w m first qs st d _
        (λ c k. p.Choice (put m first (Loose Controlling) k x) (put m first (Loose Plain) (k + roots Controlling (nodes.expression x)) y)
        (put m first (Loose Plain) (k + roots Controlling (nodes.expression x) + roots Plain (nodes.expression y)) z) ty span) mine b
        (λ all few. node w all _ mine few (number h [] _ _ none (operand l [] (Loose Plain) _ none (operand k [] (Loose Plain) _ none (closes w (length all) span t)))))
    number (of.call {k = x} {t = ty} h) qs st d b {mine = mine} t = wrapped w m first qs st d _ (λ c k. p.Call (put_call m first k x) ty) mine b (λ all few. call h all ty _ few t)
    number (of.input {given = given} {span = span} e) qs st d b {mine = mine} t =
        wrapped w m first qs st d _ (λ c k. p.Input span) mine b
        (λ all few. node w all (p.Input span) mine few (silent_in_expressions w given (closes w (length all) span t)))

    pub operand : {a : Expression} {e : typed.Expression} → IsOperandOf a e → (qs : List Probe) (st : Stand) (d : ℕ) → length qs + room st ≤ 1 → {o : List Level} {own held : List Span} {mine : List Row} {ps : List Sign}
        → Signed w o own held mine ps → Signed w o (spans a own) held (rows (probed_by qs (put m first st d e)) mine) (signs w a ps)
    operand (of.as_it_is h) qs st d b t = number h qs st d (without_room (length qs) (room st) b) t
    operand (of.converted {a = a} {e = e} {t = ty} h) qs st d b {o = o} {own = own} {held = held} {mine = mine} {ps = ps} t =
        wrapped_by w m first (room st) qs st d _ (λ c k. p.Convert ty false (put m first (Loose Plain) k e) (typed.span_of e)) mine (own_room m first st d ty e (typed.span_of e))
        (λ all few.
        let k = inner st d (nodes.expression (typed.Convert ty false e (typed.span_of e))) in
        subst (λ rs. Signed w o (spans a own) held rs (signs w a ps))
        (sym (converted_rows all ty (put m first (Loose Plain) k e) (typed.span_of e) mine (put_extent m first (Loose Plain) k e)))
        (number h all (Loose Plain) k (with_room (length all) (length qs + room st) few b) t))

    pub place : {a : Expression} {pl : Place} → IsPlaceOf a pl → (qs : List Probe) (ty : IntType) (d : ℕ) → length qs ≤ 3 → {o : List Level} {own held : List Span} {mine : List Row} {ps : List Sign}
        → Signed w o own held mine ps → Signed w o (spans a own) held (rows (probed_by qs (p.Read (put_place m first d pl) ty)) mine) (signs w a ps)
    place (of.place_inside {span = span} h) qs ty d b t = opens_none w span (place h qs ty d b (closes w 0 span t))
    place (of.local {name = name}) qs ty d b {mine = mine} t = node w qs _ mine b (closes w (length qs) name.span t)
    place (of.static {name = name}) qs ty d b {mine = mine} t = node w qs _ mine b (closes w (length qs) name.span t)
    place (of.parameter {a = a} {span = span} h l) qs ty d b {mine = mine} t =
        node w qs _ mine b (silent w a (number l [] _ _ none (closes w (length qs) span t)))
    place (of.item {span = span} h l) qs ty d b {mine = mine} t =
        node w qs _ mine b (place h [] ty _ none_of_three (number l [] _ _ none (closes w (length qs) span t)))
    place (of.member {span = span} h) qs ty d b {mine = mine} t =
        node w qs _ mine b (place h [] ty _ none_of_three (closes w (length qs) span t))

    pub call : {a : Expression} {k : FunctionCall} → IsCallOf a k → (qs : List Probe) (ty : IntType) (d : ℕ) → length qs ≤ 3 → {o : List Level} {own held : List Span} {mine : List Row} {ps : List Sign}
        → Signed w o own held mine ps → Signed w o (spans a own) held (rows (probed_by qs (p.Call (put_call m first d k) ty)) mine) (signs w a ps)
    call (of.call_inside {span = span} h) qs ty d b t = opens_none w span (call h qs ty d b (closes w 0 span t))
    call (of.called {span = span} h) qs ty d b {mine = mine} t =
        node w qs _ mine b (arguments h _ (closes w (length qs) span t))

    pub arguments : {given : Expressions} {all : Arguments} → AreArgumentsOf given all → (d : ℕ) {o : List Level} {own held : List Span} {mine : List Row} {ps : List Sign}
        → Signed w o own held mine ps → Signed w o (spans_in_expressions given own) held (rows_in_arguments (put_arguments m first d all) mine) (signs_in_expressions w given ps)
    arguments of.no_arguments d t = t
    arguments (of.arguments h l) d t = argument h _ (arguments l _ t)

    pub argument : {a : Expression} {x : Argument} → IsArgumentOf a x → (d : ℕ) {o : List Level} {own held : List Span} {mine : List Row} {ps : List Sign}
        → Signed w o own held mine ps → Signed w o (spans a own) held (rows_in_argument (put_argument m first d x) mine) (signs w a ps)
    argument (of.number_argument h) d t = operand h [] (Loose Plain) _ none t
    argument (of.structure_argument h) d t = structure h _ t
    argument (of.array_argument h) d t = place h [] Int _ none_of_three t
    argument (of.again_argument {a = a} h) d t = silent w a t

    pub structure : {a : Expression} {v : StructureValue} → IsStructureOf a v → (d : ℕ) {o : List Level} {own held : List Span} {mine : List Row} {ps : List Sign}
        → Signed w o own held mine ps → Signed w o (spans a own) held (rows_in_structure (put_structure m first d v) mine) (signs w a ps)
    structure (of.stored h) d t = place h [] Int _ none_of_three t
    structure (of.returned h) d t = call h [] Int _ none_of_three t

  pub effect : {a : Expression} {x : Effect} → IsEffectOf a x → (d : ℕ) {o : List Level} {own held : List Span} {mine : List Row} {ps : List Sign}
      → Signed w o own held mine ps → Signed w o (spans a own) held (rows_in_effect (put_effect m first d x) mine) (signs w a ps)
  effect (of.effect_inside {span = span} h) d t = opens_none w span (effect h d (closes w 0 span t))
  effect (of.assignment {span = span} h l) d t = opens_none w span (place h [] Int _ none_of_three (operand l [] (Loose Plain) _ none (closes w 0 span t)))
  effect (of.copy {span = span} h l) d t = opens_none w span (place h [] Int _ none_of_three (structure l _ (closes w 0 span t)))
  effect (of.update {span = span} e h l) d t = opens_none w span (place h [] Int _ none_of_three (operand l [] (Loose Plain) _ none (closes w 0 span t)))
  effect (of.step_after {operator = operator} {a = a} {place = pl} {e = e} {span = span} h l) d {o = o} {own = own} {held = held} {mine = mine} {ps = ps} t =
      subst (λ rs. Signed w o (span ∷ spans a own) held (rows_in_place (put_place m first d pl) rs) (signs w (tree.PostfixStep operator a span) ps))
      (sym (one_silent m first (d + roots Plain (nodes.place pl)) mine l)) (opens_none w span (place h [] Int d none_of_three (closes w 0 span t)))
  effect (of.step_before {operator = operator} {a = a} {place = pl} {e = e} {span = span} h l) d {o = o} {own = own} {held = held} {mine = mine} {ps = ps} t =
      subst (λ rs. Signed w o (span ∷ spans a own) held (rows_in_place (put_place m first d pl) rs) (signs w (tree.PrefixStep operator a span) ps))
      (sym (one_silent m first (d + roots Plain (nodes.place pl)) mine l)) (opens_none w span (place h [] Int d none_of_three (closes w 0 span t)))
  effect (of.number_effect h) d t = number h [] _ _ none t
  effect (of.structure_effect h) d t = structure h _ t
  effect (of.call_effect h) d t = call h [] Int _ none_of_three t
  effect (of.output {span = span} e h) d t = opens_none w span (operand h [] (Loose Plain) _ none (closes w 0 span t))
  effect (of.effect_choice {span = span} h l k) d t =
      opens_none w span (number h [] _ _ none (effect l _ (effect k _ (closes w 0 span t))))
  effect (of.discard {type = type} {span = span} h) d t =
      opens_none w span (silent_in_type_name w type (effect h _ (closes w 0 span t)))
