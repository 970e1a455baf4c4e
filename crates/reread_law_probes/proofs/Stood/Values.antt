-- The places of expressions and effects are among those of their source: one case for each rule of
-- what they have of it.
use Rattle.std.proofs.Common.{◌≡◌, ℕ, ◌+◌, pos, false, true, List, ◌∷◌, refl, sym, subst}
use Rattle.mc_span.specs.declared.span.Span.{Span}
use Rattle.mc_tree.specs.Tree.{Expression, Expressions}
use Rattle.mc_tree.specs.Tree as tree
use Rattle.mc_value.specs.declared.int_type.IntType.TheVariants.{Int}
use Rattle.mc_typed.specs.Tree.{Place, FunctionCall, Arguments, Argument, StructureValue, Effect}
use Rattle.mc_typed.specs.Tree as typed
use Rattle.decide_rules.specs.declared.role.Role.TheVariants.{Controlling, Plain}
use Rattle.decide_rules.specs.Nodes as nodes
use Rattle.decide_rules.specs.Nodes.{full_operator}
use Rattle.decide_rules.specs.Conditions.{width}
use Rattle.decide_rules.specs.Counts.{roots}
use Rattle.mc_probe.specs.Maps.{Map}
use Rattle.mc_probe.specs.Tree as p
use Rattle.mc_probe.specs.Table.{Stand, Loose, role_of, under, beside, inner, put, put_place, put_call, put_structure, put_argument, put_arguments, put_effect}
use Rattle.reread_law_probes.specs.put.Places.{places, parts, in_place, in_call, in_structure, in_argument, in_arguments, in_effect}
use Rattle.laws_types.specs.Source.{first_two, last_two, IsOneAt, IsNumberOf, IsOperandOf, IsPlaceOf, IsCallOf, AreArgumentsOf, IsArgumentOf, IsStructureOf, IsEffectOf}
use Rattle.laws_types.specs.Source as of
use Rattle.reread_law_probes.specs.stood.Stands.{stands, stands_in_expressions}
use Rattle.reread_law_probes.proofs.Stood.Counted.{Within, keep, skip, drop, hold, release}
use Rattle.reread_law_probes.proofs.Stood.Wrapped.{call_extent, wrapped, stands_at}
use Rattle.reread_law_rows.proofs.Signed.Wrapped.{place_extent, put_extent}

-- ---- what a program has nothing of

mutual
  pub skipped : (a : Expression) {held later own : List Span} → Within held later own → Within held later (stands a own)
  skipped (tree.Named name) t = skip name.span t
  skipped (tree.Constant value decimal unsigned longs span) t = skip span t
  skipped (tree.Character value span) t = skip span t
  skipped (tree.Parenthesized a span) t = skip span (skipped a t)
  skipped (tree.Call name all span) t = skip span (skipped_all all t)
  skipped (tree.Index a b span) t = skip span (skipped a (skipped b t))
  skipped (tree.Member a name span) t = skip span (skipped a t)
  skipped (tree.PostfixStep operator a span) t = skip span (skipped a (skip (last_two span) t))
  skipped (tree.PrefixStep operator a span) t = skip span (skip (first_two span) (skipped a t))
  skipped (tree.Unary operator a span) t = skip span (skipped a t)
  skipped (tree.Cast type a span) t = skip span (skipped a t)
  skipped (tree.Binary operator a b span) t = skip span (skipped a (skipped b t))
  skipped (tree.Conditional a b c span) t = skip span (skipped a (skipped b (skipped c t)))
  skipped (tree.Assignment operator a b span) t = skip span (skipped a (skipped b t))
  skipped (tree.Comma all span) t = skip span (skipped_all all t)

  pub skipped_all : (all : Expressions) {held later own : List Span} → Within held later own → Within held later (stands_in_expressions all own)
  skipped_all tree.no_expressions t = t
  skipped_all (tree.expressions a rest) t = skipped a (skipped_all rest t)

module _ (m : Map) (first : ℕ) where
  -- the 1 of `++` and `--`
  one_stands : (d : ℕ) {at : Span} {e : typed.Expression} (later : List Span) → IsOneAt at e → places (put m first (Loose Plain) d e) later ≡ at ∷ later
  one_stands d later of.one = refl
  one_stands d later of.converted_one = refl

  mutual
    pub number : {a : Expression} {e : typed.Expression} → IsNumberOf a e → (st : Stand) (d : ℕ) {held later own : List Span}
        → Within held later own → Within held (places (put m first st d e) later) (stands a own)
    number (of.inside {span = span} h) st d t = skip span (number h st d t)
    number (of.enumerator {name = name} {v = v}) st d {later = later} t = wrapped m first st d _ (λ c k. p.Constant v Int name.span) later (keep name.span t)
    number (of.constant {v = v} {t = ty} {span = span}) st d {later = later} t = wrapped m first st d _ (λ c k. p.Constant (pos v) ty span) later (keep span t)
    number (of.character {v = v} {t = ty} {span = span}) st d {later = later} t = wrapped m first st d _ (λ c k. p.Constant v ty span) later (keep span t)
    number (of.read {place = pl} {t = ty} h) st d {later = later} t =
        let k = inner st d (nodes.expression (typed.Read pl ty)) in
        wrapped m first st d _ (λ c k. p.Read (put_place m first k pl) ty) later
        (stands_at (p.Read (put_place m first k pl) ty) (typed.span_of_place pl) later (place_extent m first k pl) (place h k t))
    number (of.one_operand {o = operator} {e = x} {t = ty} {span = span} e h) st d {later = later} t =
        wrapped m first st d _ (λ c k. p.Unary operator ty (put m first (Loose Plain) k x) span) later (keep span (operand h (Loose Plain) _ t))
    number (of.negation {e = x} {span = span} h) st d {later = later} t =
        wrapped m first st d _ (λ c k. p.Not (put m first c k x) span) later (keep span (number h _ _ t))
    number (of.cast {e = x} {t = ty} {span = span} h) st d {later = later} t =
        wrapped m first st d _ (λ c k. p.Convert ty true (put m first (Loose Plain) k x) span) later (keep span (number h (Loose Plain) _ t))
    number (of.two_operands {o = operator} {e = x} {f = y} {t = ty} {span = span} e h l) st d {later = later} t =
        wrapped m first st d _
        (λ c k. p.Binary operator ty (put m first (under (full_operator operator x y) c) k x)
        (put m first (beside (under (full_operator operator x y) c) (width (nodes.expression x)))
        (k + roots (role_of (under (full_operator operator x y) c)) (nodes.expression x)) y) span) later
        (keep span (operand h _ _ (operand l _ _ t)))
    number (of.logical {o = operator} {e = x} {f = y} {span = span} e h l) st d {later = later} t =
        wrapped m first st d _
        (λ c k. p.Logic operator (put m first c k x)
        (put m first (beside c (width (nodes.expression x))) (k + roots (role_of c) (nodes.expression x)) y) span) later
        (keep span (number h _ _ (number l _ _ t)))
    number (of.choice {e = x} {f = y} {g = z} {t = ty} {span = span} h l n) st d {later = later} t =
        wrapped m first st d _
        (λ c k. p.Choice (put m first (Loose Controlling) k x) (put m first (Loose Plain) (k + roots Controlling (nodes.expression x)) y)
        (put m first (Loose Plain) (k + roots Controlling (nodes.expression x) + roots Plain (nodes.expression y)) z) ty span) later
        (keep span (number h (Loose Controlling) _ (operand l (Loose Plain) _ (operand n (Loose Plain) _ t))))
    number (of.call {k = x} {t = ty} h) st d {later = later} t =
        let k = inner st d (nodes.expression (typed.Call x ty)) in
        wrapped m first st d _ (λ c k. p.Call (put_call m first k x) ty) later
        (stands_at (p.Call (put_call m first k x) ty) (typed.span_of_call x) later (call_extent m first k x) (call h k t))
    number (of.input {given = given} {span = span} e) st d {later = later} t = wrapped m first st d _ (λ c k. p.Input span) later (keep span (skipped_all given t))

    pub operand : {a : Expression} {e : typed.Expression} → IsOperandOf a e → (st : Stand) (d : ℕ) {held later own : List Span}
        → Within held later own → Within held (places (put m first st d e) later) (stands a own)
    operand (of.as_it_is h) st d t = number h st d t
    operand (of.converted {a = a} {e = e} {t = ty} h) st d {held = held} {later = later} {own = own} t =
        let k = inner st d (nodes.expression (typed.Convert ty false e (typed.span_of e))) in
        wrapped m first st d _ (λ c k. p.Convert ty false (put m first (Loose Plain) k e) (typed.span_of e)) later
        (subst (λ at. Within held (at ∷ parts (put m first (Loose Plain) k e) later) (stands a own))
        (put_extent m first (Loose Plain) k e) (number h (Loose Plain) k t))

    pub place : {a : Expression} {pl : Place} → IsPlaceOf a pl → (d : ℕ) {held later own : List Span}
        → Within held later own → Within held (typed.span_of_place pl ∷ in_place (put_place m first d pl) later) (stands a own)
    place (of.place_inside {span = span} h) d t = skip span (place h d t)
    place (of.local {name = name}) d t = keep name.span t
    place (of.static {name = name}) d t = keep name.span t
    place (of.parameter {a = a} {span = span} h l) d t = keep span (skipped a (number l (Loose Plain) d t))
    place (of.item {place = pl} {span = span} h l) d t =
        keep span (drop (typed.span_of_place pl) (place h d (number l (Loose Plain) _ t)))
    place (of.member {place = pl} {span = span} h) d t = keep span (drop (typed.span_of_place pl) (place h d t))

    pub call : {a : Expression} {k : FunctionCall} → IsCallOf a k → (d : ℕ) {held later own : List Span}
        → Within held later own → Within held (typed.span_of_call k ∷ in_call (put_call m first d k) later) (stands a own)
    call (of.call_inside {span = span} h) d t = skip span (call h d t)
    call (of.called {span = span} h) d t = keep span (arguments h d t)

    pub arguments : {given : Expressions} {all : Arguments} → AreArgumentsOf given all → (d : ℕ) {held later own : List Span}
        → Within held later own → Within held (in_arguments (put_arguments m first d all) later) (stands_in_expressions given own)
    arguments of.no_arguments d t = t
    arguments (of.arguments h l) d t = argument h d (arguments l _ t)

    pub argument : {a : Expression} {x : Argument} → IsArgumentOf a x → (d : ℕ) {held later own : List Span}
        → Within held later own → Within held (in_argument (put_argument m first d x) later) (stands a own)
    argument (of.number_argument h) d t = operand h (Loose Plain) d t
    argument (of.structure_argument h) d t = structure h d t
    argument (of.array_argument {place = pl} h) d t = drop (typed.span_of_place pl) (place h d t)
    argument (of.again_argument {a = a} h) d t = skipped a t

    pub structure : {a : Expression} {v : StructureValue} → IsStructureOf a v → (d : ℕ) {held later own : List Span}
        → Within held later own → Within held (in_structure (put_structure m first d v) later) (stands a own)
    structure (of.stored {place = pl} h) d t = drop (typed.span_of_place pl) (place h d t)
    structure (of.returned {k = k} h) d t = drop (typed.span_of_call k) (call h d t)

  target : {a : Expression} {pl : Place} → IsPlaceOf a pl → (d : ℕ) {held later own : List Span}
      → Within held later own → Within held (in_place (put_place m first d pl) later) (stands a own)
  target {pl = pl} h d t = drop (typed.span_of_place pl) (place h d t)

  pub effect : {a : Expression} {x : Effect} → IsEffectOf a x → (d : ℕ) {held later own : List Span}
      → Within held later own → Within held (in_effect (put_effect m first d x) later) (stands a own)
  effect (of.effect_inside {span = span} h) d t = skip span (effect h d t)
  effect (of.assignment {span = span} h l) d t = skip span (target h d (operand l (Loose Plain) _ t))
  effect (of.copy {span = span} h l) d t = skip span (target h d (structure l _ t))
  effect (of.update {span = span} e h l) d t = skip span (target h d (operand l (Loose Plain) _ t))
  effect (of.step_after {a = a} {place = pl} {span = span} h l) d {held = held} {later = later} {own = own} t =
      subst (λ ps. Within held (in_place (put_place m first d pl) ps) (span ∷ stands a (last_two span ∷ own)))
      (sym (one_stands (d + roots Plain (nodes.place pl)) later l)) (skip span (target h d (keep (last_two span) t)))
  effect (of.step_before {a = a} {place = pl} {span = span} h l) d {held = held} {later = later} {own = own} t =
      subst (λ ps. Within held (in_place (put_place m first d pl) ps) (span ∷ first_two span ∷ stands a own))
      (sym (one_stands (d + roots Plain (nodes.place pl)) later l))
      (skip span (release (first_two span) (target h d (hold (first_two span) t))))
  effect (of.number_effect h) d t = number h (Loose Plain) d t
  effect (of.structure_effect h) d t = structure h d t
  effect (of.call_effect {k = k} h) d t = drop (typed.span_of_call k) (call h d t)
  effect (of.output {span = span} e h) d t = skip span (operand h (Loose Plain) d t)
  effect (of.effect_choice {span = span} h l n) d t =
      skip span (number h (Loose Controlling) d (effect l _ (effect n _ t)))
  effect (of.discard {span = span} h) d t = skip span (effect h d t)
