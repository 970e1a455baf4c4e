-- The order of the rows of expressions and effects: one case for each rule of what they have of
-- their source.
use Rattle.std.proofs.Common.{◌≤◌, ℕ, ◌+◌, pos, false, true, List, [], sym, subst}
use Rattle.mc_span.specs.declared.span.Span.{Span}
use Rattle.mc_tree.specs.Tree.{Expression, Expressions, span_of}
use Rattle.mc_value.specs.declared.int_type.IntType.{IntType}
use Rattle.mc_value.specs.declared.int_type.IntType.TheVariants.{Int}
use Rattle.mc_typed.specs.declared.probes.Probe.{Probe}
use Rattle.mc_typed.specs.Tree.{Place, FunctionCall, Arguments, Argument, StructureValue, Effect}
use Rattle.mc_typed.specs.Tree as typed
use Rattle.decide_rules.specs.declared.role.Role.TheVariants.{Controlling, Plain}
use Rattle.decide_rules.specs.Nodes as nodes
use Rattle.decide_rules.specs.Nodes.{full_operator}
use Rattle.decide_rules.specs.Conditions.{width}
use Rattle.decide_rules.specs.Counts.{roots}
use Rattle.mc_probe.specs.Maps.{Map}
use Rattle.mc_probe.specs.Tree as p
use Rattle.mc_probe.specs.Table.{Stand, Loose, role_of, under, beside, inner, put, put_place, put_call, put_structure, put_argument, put_arguments, put_effect}
use Rattle.reread_law_rows.specs.inserted.Rows.{Row, rows, rows_in_place, rows_in_structure, rows_in_argument, rows_in_arguments, rows_in_effect}
use Rattle.laws_types.specs.Source.{IsOneAt, IsNumberOf, IsOperandOf, IsPlaceOf, IsCallOf, AreArgumentsOf, IsArgumentOf, IsStructureOf, IsEffectOf}
use Rattle.laws_types.specs.Source as of
use Rattle.reread_law_rows.proofs.Signed.Split.{probed_by}
use Rattle.reread_law_rows.proofs.Signed.Wrapped.{put_extent, converted_rows}
use Rattle.reread_law_rows.proofs.Signed.Values.{one_silent}
use Rattle.reread_law_printed.specs.parts.Stands.{AreInOrder}
use Rattle.reread_law_printed.specs.ordered.Nested.{Nested, HoldsAll}
use Rattle.reread_law_printed.proofs.Ordered.Going.{le, same, Goes, nothing, followed, wider, node, wrapped, forward}

-- a leaf
leaf : (span : Span) → span.start ≤ span.end → Goes span.start span.start (λ later. later)
leaf span h = nothing (same span.start)

module _ (m : Map) (first : ℕ) where
  mutual
    pub number : {a : Expression} {e : typed.Expression} → IsNumberOf a e → Nested a → (qs : List Probe) (st : Stand) (d : ℕ)
        → Goes (span_of a).start (span_of a).end (rows (probed_by qs (put m first st d e)))
    number (of.inside h) k qs st d = wider k.0 k.1 (number h k.2 qs st d)
    number (of.enumerator {name = name} {v = v}) k qs st d =
        wrapped m first qs st d _ (λ c n. p.Constant v Int name.span) (λ all. node all (p.Constant v Int name.span) (leaf name.span k) (same name.span.start) k)
    number (of.constant {v = v} {t = ty} {span = span}) k qs st d =
        wrapped m first qs st d _ (λ c n. p.Constant (pos v) ty span) (λ all. node all (p.Constant (pos v) ty span) (leaf span k) (same span.start) k)
    number (of.character {v = v} {t = ty} {span = span}) k qs st d =
        wrapped m first qs st d _ (λ c n. p.Constant v ty span) (λ all. node all (p.Constant v ty span) (leaf span k) (same span.start) k)
    number (of.read {place = pl} {t = ty} h) k qs st d =
        wrapped m first qs st d _ (λ c n. p.Read (put_place m first n pl) ty) (λ all. place h k all ty _)
    number (of.one_operand {o = operator} {e = x} {t = ty} {span = span} e h) k qs st d =
        wrapped m first qs st d _ (λ c n. p.Unary operator ty (put m first (Loose Plain) n x) span)
        (λ all. node all (p.Unary operator ty (put m first (Loose Plain) (inner st d _) x) span) (operand h k.2 [] (Loose Plain) _) k.0 k.1)
    number (of.negation {e = x} {span = span} h) k qs st d =
        wrapped m first qs st d _ (λ c n. p.Not (put m first c n x) span) (λ all. node all (p.Not _ span) (number h k.2 [] _ _) k.0 k.1)
    number (of.cast {e = x} {t = ty} {span = span} h) k qs st d =
        wrapped m first qs st d _ (λ c n. p.Convert ty true (put m first (Loose Plain) n x) span)
        (λ all. node all (p.Convert ty true _ span) (number h k.2 [] _ _) k.0 k.1)
    number (of.two_operands {o = operator} {e = x} {f = y} {t = ty} {span = span} e h l) k qs st d =
        wrapped m first qs st d _
        (λ c n. p.Binary operator ty (put m first (under (full_operator operator x y) c) n x)
        (put m first (beside (under (full_operator operator x y) c) (width (nodes.expression x)))
        (n + roots (role_of (under (full_operator operator x y) c)) (nodes.expression x)) y) span)
        (λ all. node all (p.Binary operator ty _ _ span) (followed (operand h k.3 [] _ _) k.1 (operand l k.4 [] _ _)) k.0 k.2)
    number (of.logical {o = operator} {e = x} {f = y} {span = span} e h l) k qs st d =
        wrapped m first qs st d _
        (λ c n. p.Logic operator (put m first c n x)
        (put m first (beside c (width (nodes.expression x))) (n + roots (role_of c) (nodes.expression x)) y) span)
        (λ all. node all (p.Logic operator _ _ span) (followed (number h k.3 [] _ _) k.1 (number l k.4 [] _ _)) k.0 k.2)
    number (of.choice {e = x} {f = y} {g = z} {t = ty} {span = span} h l n) k qs st d =
        wrapped m first qs st d _
        (λ c j. p.Choice (put m first (Loose Controlling) j x) (put m first (Loose Plain) (j + roots Controlling (nodes.expression x)) y)
        (put m first (Loose Plain) (j + roots Controlling (nodes.expression x) + roots Plain (nodes.expression y)) z) ty span)
        (λ all. node all (p.Choice _ _ _ ty span)
        (followed (number h k.4 [] _ _) k.1 (followed (operand l k.5 [] (Loose Plain) _) k.2 (operand n k.6 [] (Loose Plain) _))) k.0 k.3)
    number (of.call {k = x} {t = ty} h) k qs st d =
        wrapped m first qs st d _ (λ c n. p.Call (put_call m first n x) ty) (λ all. call h k all ty _)
    number {a = a} (of.input {span = span} e) k qs st d =
        wrapped m first qs st d _ (λ c n. p.Input span) (λ all. node all (p.Input span) (leaf span (forward a k)) (same span.start) (forward a k))

    pub operand : {a : Expression} {e : typed.Expression} → IsOperandOf a e → Nested a → (qs : List Probe) (st : Stand) (d : ℕ)
        → Goes (span_of a).start (span_of a).end (rows (probed_by qs (put m first st d e)))
    operand (of.as_it_is h) k qs st d = number h k qs st d
    operand (of.converted {e = e} {t = ty} h) k qs st d =
        wrapped m first qs st d _ (λ c n. p.Convert ty false (put m first (Loose Plain) n e) (typed.span_of e))
        (λ all. record {
          goes = λ from to later f g.
              let n : ℕ = inner st d (nodes.expression (typed.Convert ty false e (typed.span_of e))) in
              subst (λ rs. AreInOrder from rs to)
              (sym (converted_rows all ty (put m first (Loose Plain) n e) (typed.span_of e) later (put_extent m first (Loose Plain) n e)))
              ((number h k all (Loose Plain) n).goes from to later f g);
        })

    pub place : {a : Expression} {pl : Place} → IsPlaceOf a pl → Nested a → (qs : List Probe) (ty : IntType) (d : ℕ)
        → Goes (span_of a).start (span_of a).end (rows (probed_by qs (p.Read (put_place m first d pl) ty)))
    place (of.place_inside h) k qs ty d = wider k.0 k.1 (place h k.2 qs ty d)
    place (of.local {name = name} {slot = slot}) k qs ty d = node qs (p.Read (p.Local slot name.span) ty) (leaf name.span k) (same name.span.start) k
    place (of.static {name = name} {slot = slot}) k qs ty d = node qs (p.Read (p.Static slot name.span) ty) (leaf name.span k) (same name.span.start) k
    place (of.parameter {a = a} {array = array} {stride = stride} {span = span} h l) k qs ty d =
        node qs (p.Read (p.Parameter array stride _ span) ty) (number l k.4 [] _ _) (le k.0 (le (forward a k.3) k.1)) k.2
    place (of.item {n = n} {stride = stride} {span = span} h l) k qs ty d =
        node qs (p.Read (p.Item _ n stride _ span) ty) (followed (place h k.3 [] ty _) k.1 (number l k.4 [] _ _)) k.0 k.2
    place (of.member {i = i} {offset = offset} {span = span} h) k qs ty d =
        node qs (p.Read (p.Member _ i offset span) ty) (place h k.2 [] ty _) k.0 k.1

    pub call : {a : Expression} {c : FunctionCall} → IsCallOf a c → Nested a → (qs : List Probe) (ty : IntType) (d : ℕ)
        → Goes (span_of a).start (span_of a).end (rows (probed_by qs (p.Call (put_call m first d c) ty)))
    call (of.call_inside h) k qs ty d = wider k.0 k.1 (call h k.2 qs ty d)
    call (of.called {f = f} {copy = copy} {span = span} h) k qs ty d =
        node qs (p.Call (p.call f _ copy span) ty) (arguments h k _) (same span.start) (same span.end)

    pub arguments : {given : Expressions} {all : Arguments} {from to : ℕ} → AreArgumentsOf given all → HoldsAll from given to → (d : ℕ)
        → Goes from to (rows_in_arguments (put_arguments m first d all))
    arguments of.no_arguments k d = nothing k
    arguments (of.arguments {given = given} h l) k d = wider k.0 (same _) (followed (argument h k.1 _) (same _) (arguments l k.2 _))

    pub argument : {a : Expression} {x : Argument} → IsArgumentOf a x → Nested a → (d : ℕ)
        → Goes (span_of a).start (span_of a).end (rows_in_argument (put_argument m first d x))
    argument (of.number_argument h) k d = operand h k [] (Loose Plain) _
    argument (of.structure_argument h) k d = structure h k _
    argument (of.array_argument h) k d = place h k [] Int _
    argument {a = a} (of.again_argument h) k d = nothing (forward a k)

    pub structure : {a : Expression} {v : StructureValue} → IsStructureOf a v → Nested a → (d : ℕ)
        → Goes (span_of a).start (span_of a).end (rows_in_structure (put_structure m first d v))
    structure (of.stored h) k d = place h k [] Int _
    structure (of.returned h) k d = call h k [] Int _

  -- the 1 of a step has no rows
  stepped : {s e : ℕ} (d : ℕ) {at : Span} {one : typed.Expression} (mine : List Row → List Row) → IsOneAt at one
      → Goes s e mine → Goes s e (λ later. mine (rows (put m first (Loose Plain) d one) later))
  stepped d mine l g = record {
    goes = λ from to later f k.
        subst (λ rs. AreInOrder from (mine rs) to) (sym (one_silent m first d later l)) (g.goes from to later f k);
  }

  pub effect : {a : Expression} {x : Effect} → IsEffectOf a x → Nested a → (d : ℕ)
      → Goes (span_of a).start (span_of a).end (rows_in_effect (put_effect m first d x))
  effect (of.effect_inside h) k d = wider k.0 k.1 (effect h k.2 d)
  effect (of.assignment h l) k d = wider k.0 k.2 (followed (place h k.3 [] Int _) k.1 (operand l k.4 [] (Loose Plain) _))
  effect (of.copy h l) k d = wider k.0 k.2 (followed (place h k.3 [] Int _) k.1 (structure l k.4 _))
  effect (of.update e h l) k d = wider k.0 k.2 (followed (place h k.3 [] Int _) k.1 (operand l k.4 [] (Loose Plain) _))
  effect (of.step_after {place = pl} h l) k d =
      wider k.0 k.1 (stepped (d + roots Plain (nodes.place pl)) (rows_in_place (put_place m first d pl)) l (place h k.2 [] Int d))
  effect (of.step_before {place = pl} h l) k d =
      wider k.0 k.1 (stepped (d + roots Plain (nodes.place pl)) (rows_in_place (put_place m first d pl)) l (place h k.2 [] Int d))
  effect (of.number_effect h) k d = number h k [] _ _
  effect (of.structure_effect h) k d = structure h k _
  effect (of.call_effect h) k d = call h k [] Int _
  effect (of.output e h) (f, one, rest) d = wider f rest (operand h one [] (Loose Plain) _)
  effect (of.effect_choice h l n) k d =
      wider k.0 k.3 (followed (number h k.4 [] _ _) k.1 (followed (effect l k.5 _) k.2 (effect n k.6 _)))
  effect (of.discard h) k d = wider k.0 k.1 (effect h k.2 _)
