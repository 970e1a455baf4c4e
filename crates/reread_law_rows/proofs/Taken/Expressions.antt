-- The rows that the table puts for an expression are those of the tree of the source.
use Rattle.std.proofs.Common.{◌≡◌, ℕ, ◌+◌, pos, Bool, true, false, List, [], ◌∷◌, if◌then◌else◌, refl, sym, subst, ◌∙◌}
use Rattle.mc_span.specs.declared.span.Span.{Span}
use Rattle.mc_tree.specs.Tree.{Expression, Expressions}
use Rattle.mc_tree.specs.Tree as tree
use Rattle.mc_tree.specs.declared.expressions.unary_operator.UnaryOperator.TheVariants as unary
use Rattle.mc_value.specs.declared.int_type.IntType.TheVariants.{Int}
use Rattle.mc_typed.specs.declared.probes.Probe.{Probe}
use Rattle.mc_typed.specs.declared.probes.Probe.TheVariants as probe
use Rattle.mc_typed.specs.Tree.{Place, FunctionCall, Arguments, Argument, StructureValue, Effect, span_of_place, span_of_call, span_of}
use Rattle.mc_typed.specs.Tree as typed
use Rattle.reread_pieces.specs.declared.piece.What.TheVariants as what
use Rattle.decide_rules.specs.declared.role.Role.TheVariants.{Controlling, Plain}
use Rattle.decide_rules.specs.Nodes.{Node, full_operator}
use Rattle.decide_rules.specs.Nodes as nodes
use Rattle.decide_rules.specs.Roots.{is_root}
use Rattle.decide_rules.specs.Conditions.{width, is_operator}
use Rattle.decide_rules.specs.Counts.{roots}
use Rattle.reread_probes.specs.Expressions.{bare}
use Rattle.mc_probe.specs.Tree as probed
use Rattle.mc_probe.specs.Erase.{erase_place, erase_call}
use Rattle.mc_probe.specs.Maps.{Map}
use Rattle.mc_probe.specs.Table.{Stand, Loose, InTree, role_of, operand, under, beside, inner, base_of, increment_of, mapped, round_condition, round, put_place, put, put_structure, put_call, put_argument, put_arguments, put_effect}
use Rattle.reread_law_rows.specs.inserted.Rows.{Row, row, row_of_probe, extent, rows, rows_in_place, rows_in_structure, rows_in_call, rows_in_argument, rows_in_arguments, rows_in_effect}
use Rattle.laws_types.specs.Source.{IsOneAt, IsNameOf, IsNumberOf, IsOperandOf, IsPlaceOf, IsCallOf, AreArgumentsOf, IsArgumentOf, IsStructureOf, IsEffectOf}
use Rattle.laws_types.specs.Source as of
use Rattle.reread_law_rows.proofs.Taken.Puts.{opens, ends, Puts, PutsAll}
use Rattle.reread_law_rows.proofs.Taken.Puts as puts

-- where an expression stands without parentheses
abbrev pub seat : Expression → Span
seat a = tree.span_of (bare a)

abbrev pub extent_of_place : probed.Place → Span
extent_of_place place = span_of_place (erase_place place)

abbrev pub extent_of_call : probed.FunctionCall → Span
extent_of_call k = span_of_call (erase_call k)

-- ---- places

place_seat : {a : Expression} {place : Place} → IsPlaceOf a place → span_of_place place ≡ seat a
place_seat (of.place_inside p) = place_seat p
place_seat of.local = refl
place_seat of.static = refl
place_seat (of.parameter p q) = refl
place_seat (of.item p q) = refl
place_seat (of.member p) = refl

call_seat : {a : Expression} {k : FunctionCall} → IsCallOf a k → span_of_call k ≡ seat a
call_seat (of.call_inside p) = call_seat p
call_seat (of.called p) = refl

pub number_seat : {a : Expression} {e : typed.Expression} → IsNumberOf a e → span_of e ≡ seat a
number_seat (of.inside p) = number_seat p
number_seat of.enumerator = refl
number_seat of.constant = refl
number_seat of.character = refl
number_seat (of.read p) = place_seat p
number_seat (of.one_operand e p) = refl
number_seat (of.negation p) = refl
number_seat (of.cast p) = refl
number_seat (of.two_operands e p q) = refl
number_seat (of.logical e p q) = refl
number_seat (of.choice p q r) = refl
number_seat (of.call p) = call_seat p
number_seat (of.input e) = refl

-- ---- probes round an expression

-- Any probes may stand round it.
abbrev pub Within : Expression → (List Row → List Row) → Type 0
Within a inner =
    (qs : List Probe) (later : List Row) → Puts a (opens qs (seat a) (inner (ends qs (seat a) later))) later

module _ (m : Map) (first : ℕ) where
  pub one_round : (q : Probe) (a : Expression) (x : probed.Expression) → extent x ≡ seat a → Within a (rows x)
      → Within a (rows (probed.Probe q x))
  one_round q a x e h qs later =
      subst (λ s. Puts a (opens qs (seat a) (row (row_of_probe q) s (rows x (row what.OperandEnd s (ends qs (seat a) later))))) later)
      (sym e) (h (q ∷ qs) later)

  by_operator : (b : Bool) (q : Probe) (a : Expression) (x : probed.Expression) → extent x ≡ seat a → Within a (rows x)
      → Within a (rows (if b then x else probed.Probe q x))
  by_operator true q a x e h = h
  by_operator false q a x e h = one_round q a x e h

  operator_extent : (b : Bool) (q : Probe) (a : Expression) (x : probed.Expression) → extent x ≡ seat a
      → extent (if b then x else probed.Probe q x) ≡ seat a
  operator_extent true q a x e = e
  operator_extent false q a x e = e

  by_root : (b : Bool) (q : Probe) (a : Expression) (x y : probed.Expression) → extent x ≡ seat a → Within a (rows x)
      → Within a (rows y) → Within a (rows (if b then probed.Probe q x else y))
  by_root true q a x y e h k = one_round q a x e h
  by_root false q a x y e h k = k

  rounded : (st : Stand) (d : ℕ) (node : Node) (a : Expression) (x : probed.Expression) → extent x ≡ seat a
      → Within a (rows x) → Within a (rows (round m first st d node x))
  rounded (Loose role) d node a x e h =
      let q = probe.Condition d 0 (increment_of (mapped m first d) 0) in
      by_root (is_root role node) (probe.Decision d (base_of (mapped m first d))) a (round_condition m first d 0 node x) x
      (operator_extent (is_operator node) q a x e) (by_operator (is_operator node) q a x e h) h
  rounded (InTree k c) d node a x e h =
      by_operator (is_operator node) (probe.Condition k 0 (increment_of (mapped m first k) c)) a x e h

  -- ---- numbers, places and calls

  name_puts : {a : Expression} {at : Span} → IsNameOf a at → (later : List Row) → Puts a later later
  name_puts of.name_bare later = puts.bare [] puts.named
  name_puts (of.name_inside p) later = puts.inside (name_puts p later)

  pub place_extent : (d : ℕ) (place : Place) → extent_of_place (put_place m first d place) ≡ span_of_place place
  place_extent d (typed.Local slot span) = refl
  place_extent d (typed.Static slot span) = refl
  place_extent d (typed.Parameter array stride index span) = refl
  place_extent d (typed.Item array n stride index span) = refl
  place_extent d (typed.Member structure i offset span) = refl

  pub call_extent : (d : ℕ) (k : FunctionCall) → extent_of_call (put_call m first d k) ≡ span_of_call k
  call_extent d (typed.call f given result span) = refl

  mutual
    pub number_puts : {a : Expression} {e : typed.Expression} → IsNumberOf a e → (st : Stand) (d : ℕ)
        → Within a (rows (put m first st d e))
    number_puts (of.inside p) st d = λ qs later. puts.inside (number_puts p st d qs later)
    number_puts (of.enumerator {name = name} {v = v}) st d =
        rounded st d (nodes.expression (typed.Constant v Int name.span)) (tree.Named name) (probed.Constant v Int name.span)
        refl (λ qs later. puts.bare qs puts.named)
    number_puts (of.constant {v = v} {longs = longs} {decimal = decimal} {unsigned = unsigned} {t = t} {span = span}) st d =
        rounded st d (nodes.expression (typed.Constant (pos v) t span)) (tree.Constant v decimal unsigned longs span)
        (probed.Constant (pos v) t span) refl (λ qs later. puts.bare qs puts.constant)
    number_puts (of.character {v = v} {t = t} {span = span}) st d =
        rounded st d (nodes.expression (typed.Constant v t span)) (tree.Character v span) (probed.Constant v t span)
        refl (λ qs later. puts.bare qs puts.character)
    number_puts (of.read {a = a} {place = place} {t = t} p) st d =
        let node = nodes.expression (typed.Read place t) in
        let k = inner st d node in
        rounded st d node a (probed.Read (put_place m first k place) t) (place_extent k place ∙ place_seat p) (place_puts p k)
    number_puts (of.one_operand {operator = operator} {o = o} {a = a} {e = e} {t = t} {span = span} q p) st d =
        let node = nodes.expression (typed.Unary o t e span) in
        rounded st d node (tree.Unary operator a span) (probed.Unary o t (put m first (Loose Plain) (inner st d node) e) span) refl
        (λ qs later. puts.bare qs (puts.unary (operand_puts p (Loose Plain) (inner st d node) [] (ends qs span later))))
    number_puts (of.negation {a = a} {e = e} {span = span} p) st d =
        let node = nodes.expression (typed.Not e span) in
        rounded st d node (tree.Unary unary.Not a span) (probed.Not (put m first (operand st d node) (inner st d node) e) span) refl
        (λ qs later. puts.bare qs (puts.unary (number_puts p (operand st d node) (inner st d node) [] (ends qs span later))))
    number_puts (of.cast {type = type} {a = a} {e = e} {t = t} {span = span} p) st d =
        let node = nodes.expression (typed.Convert t true e span) in
        rounded st d node (tree.Cast type a span) (probed.Convert t true (put m first (Loose Plain) (inner st d node) e) span) refl
        (λ qs later. puts.bare qs (puts.cast (number_puts p (Loose Plain) (inner st d node) [] (ends qs span later))))
    number_puts (of.two_operands {operator = operator} {o = o} {a = a} {b = b} {e = e} {f = f} {t = t} {span = span} q p r) st d =
        let node = nodes.expression (typed.Binary o t e f span) in
        let k = inner st d node in
        let left = under (full_operator o e f) (operand st d node) in
        let right = beside left (width (nodes.expression e)) in
        let next = k + roots (role_of left) (nodes.expression e) in
        rounded st d node (tree.Binary operator a b span)
        (probed.Binary o t (put m first left k e) (put m first right next f) span) refl
        (λ qs later. puts.bare qs (puts.binary
        (operand_puts p left k [] (rows (put m first right next f) (ends qs span later)))
        (operand_puts r right next [] (ends qs span later))))
    number_puts (of.logical {operator = operator} {o = o} {a = a} {b = b} {e = e} {f = f} {span = span} q p r) st d =
        let node = nodes.expression (typed.Logic o e f span) in
        let k = inner st d node in
        let left = operand st d node in
        let right = beside left (width (nodes.expression e)) in
        let next = k + roots (role_of left) (nodes.expression e) in
        rounded st d node (tree.Binary operator a b span)
        (probed.Logic o (put m first left k e) (put m first right next f) span) refl
        (λ qs later. puts.bare qs (puts.binary
        (number_puts p left k [] (rows (put m first right next f) (ends qs span later)))
        (number_puts r right next [] (ends qs span later))))
    number_puts (of.choice {a = a} {b = b} {c = c} {e = e} {f = f} {g = g} {t = t} {span = span} p q r) st d =
        let node = nodes.expression (typed.Choice e f g t span) in
        let k = inner st d node in
        let second = k + roots Controlling (nodes.expression e) in
        let third = second + roots Plain (nodes.expression f) in
        rounded st d node (tree.Conditional a b c span)
        (probed.Choice (put m first (Loose Controlling) k e) (put m first (Loose Plain) second f)
        (put m first (Loose Plain) third g) t span) refl
        (λ qs later. puts.bare qs (puts.conditional
        (number_puts p (Loose Controlling) k [] (rows (put m first (Loose Plain) second f)
        (rows (put m first (Loose Plain) third g) (ends qs span later))))
        (operand_puts q (Loose Plain) second [] (rows (put m first (Loose Plain) third g) (ends qs span later)))
        (operand_puts r (Loose Plain) third [] (ends qs span later))))
    number_puts (of.call {a = a} {k = k} {t = t} p) st d =
        let node = nodes.expression (typed.Call k t) in
        let n = inner st d node in
        rounded st d node a (probed.Call (put_call m first n k) t) (call_extent n k ∙ call_seat p) (call_puts p n)
    number_puts (of.input {name = name} {given = given} {span = span} e) st d =
        rounded st d (nodes.expression (typed.Input span)) (tree.Call name given span) (probed.Input span) refl
        (λ qs later. puts.bare qs puts.call_without)

    pub operand_puts : {a : Expression} {e : typed.Expression} → IsOperandOf a e → (st : Stand) (d : ℕ)
        → Within a (rows (put m first st d e))
    operand_puts (of.as_it_is p) st d = number_puts p st d
    operand_puts (of.converted {a = a} {e = e} {t = t} p) st d =
        let node = nodes.expression (typed.Convert t false e (span_of e)) in
        rounded st d node a (probed.Convert t false (put m first (Loose Plain) (inner st d node) e) (span_of e)) (number_seat p)
        (number_puts p (Loose Plain) (inner st d node))

    pub place_puts : {a : Expression} {place : Place} → IsPlaceOf a place → (d : ℕ)
        → Within a (rows_in_place (put_place m first d place))
    place_puts (of.place_inside p) d = λ qs later. puts.inside (place_puts p d qs later)
    place_puts of.local d = λ qs later. puts.bare qs puts.named
    place_puts of.static d = λ qs later. puts.bare qs puts.named
    place_puts (of.parameter {e = e} {span = span} p q) d =
        λ qs later. puts.bare qs (puts.index (name_puts p (rows (put m first (Loose Plain) d e) (ends qs span later)))
        (number_puts q (Loose Plain) d [] (ends qs span later)))
    place_puts (of.item {place = place} {e = e} {span = span} p q) d =
        let next = d + roots Plain (nodes.place place) in
        λ qs later. puts.bare qs (puts.index (place_puts p d [] (rows (put m first (Loose Plain) next e) (ends qs span later)))
        (number_puts q (Loose Plain) next [] (ends qs span later)))
    place_puts (of.member {span = span} p) d =
        λ qs later. puts.bare qs (puts.member (place_puts p d [] (ends qs span later)))

    pub call_puts : {a : Expression} {k : FunctionCall} → IsCallOf a k → (d : ℕ)
        → Within a (rows_in_call (put_call m first d k))
    call_puts (of.call_inside p) d = λ qs later. puts.inside (call_puts p d qs later)
    call_puts (of.called {span = span} p) d = λ qs later. puts.bare qs (puts.call (arguments_puts p d (ends qs span later)))

    arguments_puts : {given : Expressions} {all : Arguments} → AreArgumentsOf given all → (d : ℕ) (later : List Row)
        → PutsAll given (rows_in_arguments (put_arguments m first d all) later) later
    arguments_puts of.no_arguments d later = puts.no_expressions
    arguments_puts (of.arguments {one = one} {all = all} p q) d later =
        let next = d + roots Plain (nodes.argument one) in
        puts.expressions (argument_puts p d (rows_in_arguments (put_arguments m first next all) later)) (arguments_puts q next later)

    argument_puts : {a : Expression} {one : Argument} → IsArgumentOf a one → (d : ℕ) (later : List Row)
        → Puts a (rows_in_argument (put_argument m first d one) later) later
    argument_puts (of.number_argument p) d later = operand_puts p (Loose Plain) d [] later
    argument_puts (of.structure_argument p) d later = structure_puts p d later
    argument_puts (of.array_argument p) d later = place_puts p d [] later
    argument_puts (of.again_argument p) d later = name_puts p later

    pub structure_puts : {a : Expression} {value : StructureValue} → IsStructureOf a value → (d : ℕ) (later : List Row)
        → Puts a (rows_in_structure (put_structure m first d value) later) later
    structure_puts (of.stored p) d later = place_puts p d [] later
    structure_puts (of.returned p) d later = call_puts p d [] later

  -- ---- effects

  one_rows : {at : Span} {e : typed.Expression} → IsOneAt at e → (d : ℕ) (later : List Row)
      → rows (put m first (Loose Plain) d e) later ≡ later
  one_rows of.one d later = refl
  one_rows of.converted_one d later = refl

  updated : {a : Expression} {place : Place} {at : Span} {e : typed.Expression} → IsPlaceOf a place → IsOneAt at e
      → (d : ℕ) (later : List Row)
      → Puts a (rows_in_place (put_place m first d place) (rows (put m first (Loose Plain) (d + roots Plain (nodes.place place)) e) later)) later
  updated {a = a} {place = place} p h d later =
      subst (λ z. Puts a (rows_in_place (put_place m first d place) z) later)
      (sym (one_rows h (d + roots Plain (nodes.place place)) later)) (place_puts p d [] later)

  pub effect_puts : {a : Expression} {x : Effect} → IsEffectOf a x → (d : ℕ) (later : List Row)
      → Puts a (rows_in_effect (put_effect m first d x) later) later
  effect_puts (of.effect_inside p) d later = puts.inside (effect_puts p d later)
  effect_puts (of.assignment {place = place} {e = e} p q) d later =
      let next = d + roots Plain (nodes.place place) in
      puts.assignment (place_puts p d [] (rows (put m first (Loose Plain) next e) later)) (operand_puts q (Loose Plain) next [] later)
  effect_puts (of.copy {place = place} {value = value} p q) d later =
      let next = d + roots Plain (nodes.place place) in
      puts.assignment (place_puts p d [] (rows_in_structure (put_structure m first next value) later)) (structure_puts q next later)
  effect_puts (of.update {place = place} {e = e} h p q) d later =
      let next = d + roots Plain (nodes.place place) in
      puts.assignment (place_puts p d [] (rows (put m first (Loose Plain) next e) later)) (operand_puts q (Loose Plain) next [] later)
  effect_puts (of.step_after p h) d later = puts.bare [] (puts.step_after (updated p h d later))
  effect_puts (of.step_before p h) d later = puts.bare [] (puts.step_before (updated p h d later))
  effect_puts (of.number_effect p) d later = number_puts p (Loose Plain) d [] later
  effect_puts (of.structure_effect p) d later = structure_puts p d later
  effect_puts (of.call_effect p) d later = call_puts p d [] later
  effect_puts (of.output e p) d later =
      puts.bare [] (puts.call (puts.expressions (operand_puts p (Loose Plain) d [] later) puts.no_expressions))
  effect_puts (of.effect_choice {e = e} {x = x} {y = y} p q r) d later =
      let second = d + roots Controlling (nodes.expression e) in
      let third = second + roots Plain (nodes.effect x) in
      puts.bare [] (puts.conditional
      (number_puts p (Loose Controlling) d [] (rows_in_effect (put_effect m first second x)
      (rows_in_effect (put_effect m first third y) later)))
      (effect_puts q second (rows_in_effect (put_effect m first third y) later)) (effect_puts r third later))
  effect_puts (of.discard p) d later = puts.bare [] (puts.cast (effect_puts p d later))
