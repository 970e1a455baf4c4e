-- The rows of expressions and effects: one case for each rule of what they have of their source.
use Rattle.std.proofs.Common.{◌≡◌, ℕ, ◌+◌, pos, false, true, List, [], ◌∷◌, length, sym, subst}
use Rattle.mc_span.specs.declared.span.Span.{Span}
use Rattle.mc_lex.specs.Tokens.{Tok}
use Rattle.mc_tree.specs.Tree.{Expression, Expressions}
use Rattle.mc_value.specs.declared.int_type.IntType.{IntType}
use Rattle.mc_value.specs.declared.int_type.IntType.TheVariants.{Int}
use Rattle.mc_typed.specs.declared.probes.Probe.{Probe}
use Rattle.mc_typed.specs.Tree.{Place, FunctionCall, Arguments, Argument, StructureValue, Effect}
use Rattle.mc_typed.specs.Tree as typed
use Rattle.decide_rules.specs.declared.role.Role.TheVariants.{Controlling, Plain}
use Rattle.decide_rules.specs.Nodes as nodes
use Rattle.decide_rules.specs.Nodes.{full_operator}
use Rattle.decide_rules.specs.Conditions.{width}
use Rattle.decide_rules.specs.Counts.{roots}
use Rattle.mc_probe.specs.Maps.{Map}
use Rattle.mc_probe.specs.Tree as p
use Rattle.mc_probe.specs.Table.{Stand, Loose, role_of, under, beside, inner, put, put_place, put_call, put_structure, put_argument, put_arguments, put_effect}
use Rattle.reread_law_rows.specs.inserted.Rows.{Row, rows, rows_in_place, rows_in_structure, rows_in_argument, rows_in_arguments, rows_in_effect}
use Rattle.laws_types.specs.Source.{IsOneAt, IsNumberOf, IsOperandOf, IsPlaceOf, IsCallOf, AreArgumentsOf, IsArgumentOf, IsStructureOf, IsEffectOf}
use Rattle.laws_types.specs.Source as of
use Rattle.reread_law_rows.specs.fitting.Fitting.{FitsIn, FitInExpressions}
use Rattle.reread_law_rows.proofs.Signed.Split.{probed_by}
use Rattle.reread_law_rows.proofs.Signed.Wrapped.{put_extent, converted_rows}
use Rattle.reread_law_rows.proofs.Signed.Values.{one_silent}
use Rattle.reread_law_rows.proofs.Carried.Sitting.{Sit, ended, node, wrapped}

module _ (ts : List Tok) (m : Map) (first : ℕ) where
  mutual
    pub number : {a : Expression} {e : typed.Expression} → IsNumberOf a e → FitsIn ts a → (qs : List Probe) (st : Stand) (d : ℕ) {mine : List Row}
        → Sit ts mine → Sit ts (rows (probed_by qs (put m first st d e)) mine)
    number (of.inside h) k qs st d t = number h k qs st d t
    number (of.enumerator {name = name} {v = v}) k qs st d {mine = mine} t =
        wrapped ts m first qs st d _ (λ c n. p.Constant v Int name.span) mine (λ all. node ts all (p.Constant v Int name.span) mine k (ended ts (length all) name.span t))
    number (of.constant {v = v} {t = ty} {span = span}) k qs st d {mine = mine} t =
        wrapped ts m first qs st d _ (λ c n. p.Constant (pos v) ty span) mine (λ all. node ts all (p.Constant (pos v) ty span) mine k (ended ts (length all) span t))
    number (of.character {v = v} {t = ty} {span = span}) k qs st d {mine = mine} t =
        wrapped ts m first qs st d _ (λ c n. p.Constant v ty span) mine (λ all. node ts all (p.Constant v ty span) mine k (ended ts (length all) span t))
    number (of.read {place = pl} {t = ty} h) k qs st d {mine = mine} t =
        wrapped ts m first qs st d _ (λ c n. p.Read (put_place m first n pl) ty) mine (λ all. place h k all ty _ t)
    number (of.one_operand {o = operator} {e = x} {t = ty} {span = span} e h) k qs st d {mine = mine} t =
        wrapped ts m first qs st d _ (λ c n. p.Unary operator ty (put m first (Loose Plain) n x) span) mine
        (λ all. node ts all _ mine k.0 (operand h k.1 [] (Loose Plain) _ (ended ts (length all) span t)))
    number (of.negation {e = x} {span = span} h) k qs st d {mine = mine} t =
        wrapped ts m first qs st d _ (λ c n. p.Not (put m first c n x) span) mine
        (λ all. node ts all _ mine k.0 (number h k.1 [] _ _ (ended ts (length all) span t)))
    number (of.cast {e = x} {t = ty} {span = span} h) k qs st d {mine = mine} t =
        wrapped ts m first qs st d _ (λ c n. p.Convert ty true (put m first (Loose Plain) n x) span) mine
        (λ all. node ts all _ mine k.0 (number h k.1 [] _ _ (ended ts (length all) span t)))
    number (of.two_operands {o = operator} {e = x} {f = y} {t = ty} {span = span} e h l) k qs st d {mine = mine} t =
        wrapped ts m first qs st d _
        (λ c n. p.Binary operator ty (put m first (under (full_operator operator x y) c) n x)
        (put m first (beside (under (full_operator operator x y) c) (width (nodes.expression x)))
        (n + roots (role_of (under (full_operator operator x y) c)) (nodes.expression x)) y) span) mine
        (λ all. node ts all _ mine k.0 (operand h k.1 [] _ _ (operand l k.2 [] _ _ (ended ts (length all) span t))))
    number (of.logical {o = operator} {e = x} {f = y} {span = span} e h l) k qs st d {mine = mine} t =
        wrapped ts m first qs st d _
        (λ c n. p.Logic operator (put m first c n x)
        (put m first (beside c (width (nodes.expression x))) (n + roots (role_of c) (nodes.expression x)) y) span) mine
        (λ all. node ts all _ mine k.0 (number h k.1 [] _ _ (number l k.2 [] _ _ (ended ts (length all) span t))))
    number (of.choice {e = x} {f = y} {g = z} {t = ty} {span = span} h l n) k qs st d {mine = mine} t =
        wrapped ts m first qs st d _
        (λ c j. p.Choice (put m first (Loose Controlling) j x) (put m first (Loose Plain) (j + roots Controlling (nodes.expression x)) y)
        (put m first (Loose Plain) (j + roots Controlling (nodes.expression x) + roots Plain (nodes.expression y)) z) ty span) mine
        (λ all. node ts all _ mine k.0 (number h k.1 [] _ _ (operand l k.2 [] (Loose Plain) _ (operand n k.3 [] (Loose Plain) _ (ended ts (length all) span t)))))
    number (of.call {k = x} {t = ty} h) k qs st d {mine = mine} t =
        wrapped ts m first qs st d _ (λ c n. p.Call (put_call m first n x) ty) mine (λ all. call h k all ty _ t)
    number (of.input {span = span} e) k qs st d {mine = mine} t =
        wrapped ts m first qs st d _ (λ c n. p.Input span) mine (λ all. node ts all (p.Input span) mine k.0 (ended ts (length all) span t))

    pub operand : {a : Expression} {e : typed.Expression} → IsOperandOf a e → FitsIn ts a → (qs : List Probe) (st : Stand) (d : ℕ) {mine : List Row}
        → Sit ts mine → Sit ts (rows (probed_by qs (put m first st d e)) mine)
    operand (of.as_it_is h) k qs st d t = number h k qs st d t
    operand (of.converted {e = e} {t = ty} h) k qs st d {mine = mine} t =
        wrapped ts m first qs st d _ (λ c n. p.Convert ty false (put m first (Loose Plain) n e) (typed.span_of e)) mine
        (λ all.
        let n = inner st d (nodes.expression (typed.Convert ty false e (typed.span_of e))) in
        subst (λ rs. Sit ts rs) (sym (converted_rows all ty (put m first (Loose Plain) n e) (typed.span_of e) mine (put_extent m first (Loose Plain) n e)))
        (number h k all (Loose Plain) n t))

    pub place : {a : Expression} {pl : Place} → IsPlaceOf a pl → FitsIn ts a → (qs : List Probe) (ty : IntType) (d : ℕ) {mine : List Row}
        → Sit ts mine → Sit ts (rows (probed_by qs (p.Read (put_place m first d pl) ty)) mine)
    place (of.place_inside h) k qs ty d t = place h k qs ty d t
    place (of.local {name = name}) k qs ty d {mine = mine} t = node ts qs _ mine k (ended ts (length qs) name.span t)
    place (of.static {name = name}) k qs ty d {mine = mine} t = node ts qs _ mine k (ended ts (length qs) name.span t)
    place (of.parameter {span = span} h l) k qs ty d {mine = mine} t =
        node ts qs _ mine k.0 (number l k.2 [] _ _ (ended ts (length qs) span t))
    place (of.item {span = span} h l) k qs ty d {mine = mine} t =
        node ts qs _ mine k.0 (place h k.1 [] ty _ (number l k.2 [] _ _ (ended ts (length qs) span t)))
    place (of.member {span = span} h) k qs ty d {mine = mine} t =
        node ts qs _ mine k.0 (place h k.1 [] ty _ (ended ts (length qs) span t))

    pub call : {a : Expression} {c : FunctionCall} → IsCallOf a c → FitsIn ts a → (qs : List Probe) (ty : IntType) (d : ℕ) {mine : List Row}
        → Sit ts mine → Sit ts (rows (probed_by qs (p.Call (put_call m first d c) ty)) mine)
    call (of.call_inside h) k qs ty d t = call h k qs ty d t
    call (of.called {span = span} h) k qs ty d {mine = mine} t =
        node ts qs _ mine k.0 (arguments h k.1 _ (ended ts (length qs) span t))

    pub arguments : {given : Expressions} {all : Arguments} → AreArgumentsOf given all → FitInExpressions ts given → (d : ℕ) {mine : List Row}
        → Sit ts mine → Sit ts (rows_in_arguments (put_arguments m first d all) mine)
    arguments of.no_arguments k d t = t
    arguments (of.arguments h l) k d t = argument h k.0 _ (arguments l k.1 _ t)

    pub argument : {a : Expression} {x : Argument} → IsArgumentOf a x → FitsIn ts a → (d : ℕ) {mine : List Row}
        → Sit ts mine → Sit ts (rows_in_argument (put_argument m first d x) mine)
    argument (of.number_argument h) k d t = operand h k [] (Loose Plain) _ t
    argument (of.structure_argument h) k d t = structure h k _ t
    argument (of.array_argument h) k d t = place h k [] Int _ t
    argument (of.again_argument h) k d t = t

    pub structure : {a : Expression} {v : StructureValue} → IsStructureOf a v → FitsIn ts a → (d : ℕ) {mine : List Row}
        → Sit ts mine → Sit ts (rows_in_structure (put_structure m first d v) mine)
    structure (of.stored h) k d t = place h k [] Int _ t
    structure (of.returned h) k d t = call h k [] Int _ t

  pub effect : {a : Expression} {x : Effect} → IsEffectOf a x → FitsIn ts a → (d : ℕ) {mine : List Row}
      → Sit ts mine → Sit ts (rows_in_effect (put_effect m first d x) mine)
  effect (of.effect_inside h) k d t = effect h k d t
  effect (of.assignment h l) k d t = place h k.1 [] Int _ (operand l k.2 [] (Loose Plain) _ t)
  effect (of.copy h l) k d t = place h k.1 [] Int _ (structure l k.2 _ t)
  effect (of.update e h l) k d t = place h k.1 [] Int _ (operand l k.2 [] (Loose Plain) _ t)
  effect (of.step_after {place = pl} h l) k d {mine = mine} t =
      subst (λ rs. Sit ts (rows_in_place (put_place m first d pl) rs))
      (sym (one_silent m first (d + roots Plain (nodes.place pl)) mine l)) (place h k.1 [] Int d t)
  effect (of.step_before {place = pl} h l) k d {mine = mine} t =
      subst (λ rs. Sit ts (rows_in_place (put_place m first d pl) rs))
      (sym (one_silent m first (d + roots Plain (nodes.place pl)) mine l)) (place h k.1 [] Int d t)
  effect (of.number_effect h) k d t = number h k [] _ _ t
  effect (of.structure_effect h) k d t = structure h k _ t
  effect (of.call_effect h) k d t = call h k [] Int _ t
  effect (of.output e h) (own, (k, rest)) d t = operand h k [] (Loose Plain) _ t
  effect (of.effect_choice h l n) k d t = number h k.1 [] _ _ (effect l k.2 _ (effect n k.3 _ t))
  effect (of.discard h) k d t = effect h k.1 _ t
