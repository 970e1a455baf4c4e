-- There is room for all numbers that the counters give, since a map has few bits.
use Rattle.std.proofs.Common.{◌≡◌, ◌∙◌, refl, sym, ap, ℕ, zero, suc, ◌+◌, ◌-◌, ◌<◌, ◌≤◌, ◌^◌, ◌⊎◌, inl, inr, min, Bool, true, false, if◌then◌else◌, eqb, List, [], ◌∷◌, map, length, drop, slice_get, Option, Some, None, Box, arith}
use Rattle.std.specs.Global.{Global}
use Rattle.std.proofs.lemmas.Bool.{cases_lt}
use Rattle.std.proofs.lemmas.List.{length-drop, length-map}
use Rattle.mc_span.specs.declared.span.Span.{Span}
use Rattle.mc_paths.specs.Paths.{count_of}
use Rattle.mc_value.specs.declared.int_type.IntType.{IntType}
use Rattle.mc_typed.specs.declared.operators.Operator.{Operator}
use Rattle.mc_typed.specs.declared.operators.LogicOperator.{LogicOperator}
use Rattle.mc_typed.specs.declared.expressions.Expression.{Expression}
use Rattle.mc_typed.specs.declared.expressions.Expression.TheVariants as code_tree
use Rattle.mc_typed.specs.declared.expressions.Argument.TheOpen.{Expression-F}
use Rattle.mc_typed.specs.declared.expressions.Argument.TheFolds.{fold-roll-Expression}
use Rattle.mc_typed.specs.declared.probes.Probe.TheVariants as probe
use Rattle.mc_typed.specs.Tree as t
use Rattle.mc_typed.specs.Views as plain
use Rattle.decide_rules.specs.declared.operators.FullOperator.{FullOperator}
use Rattle.decide_rules.specs.declared.role.Role.TheVariants.{Controlling, Inner, Plain}
use Rattle.decide_rules.specs.Nodes as n
use Rattle.decide_rules.specs.Conditions.{width}
use Rattle.decide_rules.specs.Counts.{roots}
use Rattle.mc_steps.specs.Points.{Points, ◌⊕◌, no_points, points_of, points_of_all, points_of_function}
use Rattle.mc_probe.specs.declared.bit_map.BitMap.{BitMap}
use Rattle.mc_probe.specs.BitMaps.{map_of}
use Rattle.mc_probe.specs.Laws.{AreCounted}
use Rattle.mc_probe.specs.Maps.{Map, Mapped, IsMap, IsMapOf, AreBased, ArePlaced, first_path}
use Rattle.mc_probe.specs.Switches.{switches, switches_all}
use Rattle.mc_probe.specs.Table.{Loose, InTree, beside, role_of, under, wrap, increment_of, mapped, decisions_in, put, put_place, put_call, plain_roots, test_roots}
use Rattle.mc_probe.specs.Tree as p
use Rattle.mc_probe.specs.Views as probed
use Rattle.mc_probe.proofs.Counted.{events_listed}
use Rattle.mc_probe.proofs.Kept.{kept}
use Rattle.instrument_bits.specs.Faults.{most_bits}
use Rattle.instrument_bits.proofs.Operands.{both_node}
use Rattle.mc_instrument.specs.declared.copies.statements.At as code
use Rattle.mc_instrument.specs.steps.Inside.{inner_roots}
use Rattle.mc_instrument.specs.steps.Counters.{all_points, leading, taken_by_function, StandsAt}
use Rattle.mc_instrument.proofs.Edges.{no_edge}
use Rattle.mc_instrument.proofs.Rooted.{both_roots}

-- ---- how many decisions a map has, and which numbers its conditions have

few_decisions : (ds : List Mapped) (from to : ℕ) → AreBased ds from to → from + length ds ≤ to
few_decisions [] from to e = omega (arith, e)
few_decisions (d ∷ ds) from to h =
    let more = few_decisions ds (from + count_of d.decision.tree) to h.1 in
    omega (arith, more)

-- each place has a bit of its own, and each decision at least one
pub few_places : (m : Map) → IsMap m → first_path m + length m.decisions ≤ most_bits
few_places m h =
    let few = h.few in
    let low = few_decisions m.decisions (first_path m) m.bits h.based in
    omega (arith, few, low)

-- no condition of a decision has a number of 64 or more
no_increment : (ds : List Mapped) (i c : ℕ) → ArePlaced ds → 64 ≤ c → increment_of (slice_get ds i) c ≡ 0
no_increment [] i c h high = refl
no_increment (d ∷ ds) zero c h high =
    let few = h.0.numbered.few in
    sym (no_edge d.decision.tree c (omega (arith, few, high)))
no_increment (d ∷ ds) (suc i) c h high = no_increment ds i c h.1 high

-- ---- the decisions of a function

leading_few : (k : ℕ) (ms : List Mapped) → leading k ms ≤ length ms
leading_few k [] = omega arith
leading_few k (m ∷ ms) = by_test (eqb m.decision.function k) (leading_few k ms)
  where
    by_test : (b : Bool) → leading k ms ≤ length ms → (if b then 1 + leading k ms else 0) ≤ suc (length ms)
    by_test true below = omega (arith, below)
    by_test false below = omega arith

pub few_leads : (ms : List Mapped) (i first own count : ℕ) → first ≤ length ms → leading i (drop first ms) ≡ own → count ≡ own → first + count ≤ length ms
few_leads ms i first own count low leads is =
    let few = leading_few i (drop first ms) in
    let rest = length-drop first ms in
    omega (arith, low, leads, is, few, rest)

pub few_found : (m : Map) (function first k : ℕ) → IsMap m → k ≡ leading function (drop first m.decisions) → k < 2 ^ 32
few_found m function first k h is =
    let few = leading_few function (drop first m.decisions) in
    let rest = length-drop first m.decisions in
    let all = few_places m h in
    omega (arith, is, few, rest, all)

-- ---- the points of the functions that are left

-- where the points of these end, the lists of the map end
pub record Ends (m : Map) (q : Points) (fs : List t.Function) : Type 0 where
  pub statements : length m.statements ≡ q.statements + (all_points fs).statements
  pub exits : length m.exits ≡ q.exits + (all_points fs).exits
  pub labels : length m.labels ≡ q.labels + (all_points fs).labels

pub ends_begin : (m : Map) (fs : List t.Function) → AreCounted m.statements m.exits m.labels (all_points fs) → Ends m no_points fs
ends_begin m fs counted =
    let s = counted.statements in
    let e = counted.exits in
    let l = counted.labels in
    record { statements = omega (arith, s); exits = omega (arith, e); labels = omega (arith, l) }

pub ends_next : (m : Map) (q : Points) (f : t.Function) (fs : List t.Function) → Ends m q (f ∷ fs) → Ends m (q ⊕ points_of_function f) fs
ends_next m q f fs ends =
    let s : length m.statements ≡ q.statements + ((points_of_function f).statements + (all_points fs).statements) = ends.statements in
    let e : length m.exits ≡ q.exits + ((points_of_function f).exits + (all_points fs).exits) = ends.exits in
    let l : length m.labels ≡ q.labels + ((points_of_function f).labels + (all_points fs).labels) = ends.labels in
    record { statements = omega (arith, s); exits = omega (arith, e); labels = omega (arith, l) }

pub all_counted : (x : t.Program) (m : Map) → IsMapOf x m → AreCounted m.statements m.exits m.labels (all_points x.functions)
all_counted x m h =
    let listed = events_listed x in
    record {
      statements = ap length h.statements ∙ listed.statements;
      exits = ap length h.exits ∙ listed.exits;
      labels = ap length h.labels ∙ listed.labels;
    }

mutual
  few_switches : (s : t.Statement) → switches s ≤ (points_of s).statements
  few_switches (t.Compound items span) = few_switches_in items
  few_switches (t.Label v span) = omega arith
  few_switches (t.Declaration declarators span) = omega arith
  few_switches (t.Null span) = omega arith
  few_switches (t.EffectStatement effect span) = omega arith
  few_switches (t.If e s keyword span) = let a = few_switches s in omega (arith, a)
  few_switches (t.IfElse e s u keyword span) =
      let a = few_switches s in
      let b = few_switches u in
      omega (arith, a, b)
  few_switches (t.Switch e items keyword span) = let a = few_switches_in items in omega (arith, a)
  few_switches (t.For start test step s keyword span) = let a = few_switches s in omega (arith, a)
  few_switches (t.DoWhile s e keyword span) = let a = few_switches s in omega (arith, a)
  few_switches (t.Break span) = omega arith
  few_switches (t.Continue span) = omega arith
  few_switches (t.Return value span) = omega arith

  few_switches_in : (items : t.Statements) → switches_all items ≤ (points_of_all items).statements
  few_switches_in t.no_statements = omega arith
  few_switches_in (t.statements s rest) =
      let a = few_switches s in
      let b = few_switches_in rest in
      omega (arith, a, b)

pub function_fits : (m : Map) (q : Points) (f : t.Function) (fs : List t.Function) (at : code.At) (first : ℕ) → IsMap m → StandsAt m q at → Ends m q (f ∷ fs) → first + decisions_in f ≤ length m.decisions → at.exit + at.statement + at.label + taken_by_function f < 2 ^ 32
function_fits m q f fs at first h stands ends few =
    let s : length m.statements ≡ q.statements + ((points_of_function f).statements + (all_points fs).statements) = ends.statements in
    let e : length m.exits ≡ q.exits + ((points_of_function f).exits + (all_points fs).exits) = ends.exits in
    let l : length m.labels ≡ q.labels + ((points_of_function f).labels + (all_points fs).labels) = ends.labels in
    let turns = few_switches_in f.body in
    let all = few_places m h in
    let a = stands.exit in
    let b = stands.statement in
    let c = stands.label in
    omega (arith, s, e, l, turns, all, a, b, c, few)

-- ---- conditions past all those of a decision

abbrev pub greatest : ℕ
greatest = 2 ^ 32 - 1

-- an operator that evaluates both of its operands, in the tree of decision k, by the full operator that it is
abbrev both_put : (m : Map) (first k c d : ℕ) (operator : Operator) (a : IntType) (e f : t.Expression) (span : Span) → Option FullOperator → p.Expression
both_put m first k c d operator a e f span full =
    wrap m first (InTree k c) d (n.evaluates_both full operator (n.expression e) (n.expression f) span)
    (λ o d. p.Binary operator a (put m first (under full o) d e) (put m first (beside (under full o) (width (n.expression e))) (d + roots (role_of (under full o)) (n.expression e)) f) span)

module _ (m : Map) (first k : ℕ) (none : (c : ℕ) → 64 ≤ c → increment_of (mapped m first k) c ≡ 0) where
  round_beyond : (a b : ℕ) (x : p.Expression) → 64 ≤ a → 64 ≤ b → p.Probe (probe.Condition k 0 (increment_of (mapped m first k) a)) x ≡ p.Probe (probe.Condition k 0 (increment_of (mapped m first k) b)) x
  round_beyond a b x ha hb =
      ap (λ (i : ℕ). p.Probe (probe.Condition k 0 i) x) (none a ha ∙ sym (none b hb))

  -- of an operator that evaluates both of its operands, where both agree
  both_beyond : (a b d : ℕ) (operator : Operator) (ty : IntType) (e f : t.Expression) (span : Span) (full : Option FullOperator) → 64 ≤ a → 64 ≤ b → put m first (InTree k a) d e ≡ put m first (InTree k b) d e → put m first (InTree k (a + width (n.expression e))) (d + roots Inner (n.expression e)) f ≡ put m first (InTree k (b + width (n.expression e))) (d + roots Inner (n.expression e)) f → both_put m first k a d operator ty e f span full ≡ both_put m first k b d operator ty e f span full
  both_beyond a b d operator ty e f span (Some which) ha hb left right = λ i. p.Binary operator ty (left i) (right i) span
  both_beyond a b d operator ty e f span None ha hb left right =
      round_beyond a b (p.Binary operator ty (put m first (Loose Plain) d e) (put m first (Loose Plain) (d + plain_roots m first e) f) span) ha hb

  same_beyond : (a b d : ℕ) (e : t.Expression) → 64 ≤ a → 64 ≤ b → put m first (InTree k a) d e ≡ put m first (InTree k b) d e
  same_beyond a b d (t.Constant v ty span) ha hb = round_beyond a b (p.Constant v ty span) ha hb
  same_beyond a b d (t.Read place ty) ha hb =
      round_beyond a b (p.Read (put_place m first d place) ty) ha hb
  same_beyond a b d (t.Unary operator ty e span) ha hb =
      round_beyond a b (p.Unary operator ty (put m first (Loose Plain) d e) span) ha hb
  same_beyond a b d (t.Convert ty written e span) ha hb =
      round_beyond a b (p.Convert ty written (put m first (Loose Plain) d e) span) ha hb
  same_beyond a b d (t.Not e span) ha hb = ap (λ (x : p.Expression). p.Not x span) (same_beyond a b d e ha hb)
  same_beyond a b d (t.Binary operator ty e f span) ha hb =
      let w : ℕ = width (n.expression e) in
      both_beyond a b d operator ty e f span (n.full_operator operator e f) ha hb (same_beyond a b d e ha hb)
      (same_beyond (a + w) (b + w) (d + roots Inner (n.expression e)) f (omega (arith, ha)) (omega (arith, hb)))
  same_beyond a b d (t.Logic operator e f span) ha hb =
      let w : ℕ = width (n.expression e) in
      let left = same_beyond a b d e ha hb in
      let right = same_beyond (a + w) (b + w) (d + roots Inner (n.expression e)) f (omega (arith, ha)) (omega (arith, hb)) in
      λ i. p.Logic operator (left i) (right i) span
  same_beyond a b d (t.Choice e f g ty span) ha hb =
      round_beyond a b (p.Choice (put m first (Loose Controlling) d e) (put m first (Loose Plain) (d + test_roots m first e) f) (put m first (Loose Plain) (d + test_roots m first e + plain_roots m first f) g) ty span) ha hb
  same_beyond a b d (t.Call callee ty) ha hb =
      round_beyond a b (p.Call (put_call m first d callee) ty) ha hb
  same_beyond a b d (t.Input span) ha hb = round_beyond a b (p.Input span) ha hb

told : (m : Map) (first k c d : ℕ) (e : t.Expression) → IsMap m → put m first (InTree k (min c greatest)) d e ≡ put m first (InTree k c) d e
told m first k c d e h = by_test (cases_lt c greatest)
  where
    none : (i : ℕ) → 64 ≤ i → increment_of (mapped m first k) i ≡ 0
    none i low = no_increment m.decisions (first + k) i h.placed low

    by_test : (c < greatest) ⊎ (greatest ≤ c) → put m first (InTree k (min c greatest)) d e ≡ put m first (InTree k c) d e
    by_test (inl low) =
        let is : min c greatest ≡ c = omega (arith, low) in ap (λ (i : ℕ). put m first (InTree k i) d e) is
    by_test (inr high) =
        same_beyond m first k none (min c greatest) c d e (omega (arith, high)) (omega (arith, high))

-- the second operand, with the number of its first condition as the code tells it
second : (bits : BitMap) (first k c d after next : ℕ) (e f : t.Expression) (y : p.Expression) → after ≡ min (c + width (n.expression e)) greatest → next ≡ d + roots Inner (n.expression e) → y ≡ put (map_of bits) first (InTree k after) next f → y ≡ put (map_of bits) first (InTree k (c + width (n.expression e))) (d + roots Inner (n.expression e)) f
second bits first k c d after next e f y is_after is_next right =
    let m : Map = map_of bits in
    let w : ℕ = width (n.expression e) in
    let j : ℕ = d + roots Inner (n.expression e) in
    right
    ∙ (ap (λ (i : ℕ). put m first (InTree k i) next f) is_after
    ∙ (ap (λ (i : ℕ). put m first (InTree k (min (c + w) greatest)) i f) is_next
    ∙ told m first k (c + w) j f (kept bits)))

pub logic_copied : (bits : BitMap) (first k c d after next : ℕ) (operator : LogicOperator) (e f : t.Expression) (span : Span) (x y : p.Expression) → x ≡ put (map_of bits) first (InTree k c) d e → after ≡ min (c + width (n.expression e)) greatest → next ≡ d + roots Inner (n.expression e) → y ≡ put (map_of bits) first (InTree k after) next f → p.Logic operator x y span ≡ put (map_of bits) first (InTree k c) d (t.Logic operator e f span)
logic_copied bits first k c d after next operator e f span x y left is_after is_next right =
    let moved = second bits first k c d after next e f y is_after is_next right in
    λ i. p.Logic operator (left i) (moved i) span

pub full_copied : (bits : BitMap) (first k c d after next : ℕ) (which : FullOperator) (operator : Operator) (a : IntType) (e f : t.Expression) (span : Span) (x y : p.Expression) → n.full_operator operator e f ≡ Some which → x ≡ put (map_of bits) first (InTree k c) d e → after ≡ min (c + width (n.expression e)) greatest → next ≡ d + roots Inner (n.expression e) → y ≡ put (map_of bits) first (InTree k after) next f → p.Binary operator a x y span ≡ put (map_of bits) first (InTree k c) d (t.Binary operator a e f span)
full_copied bits first k c d after next which operator a e f span x y is left is_after is_next right =
    let moved = second bits first k c d after next e f y is_after is_next right in
    let both : p.Binary operator a x y span ≡ both_put (map_of bits) first k c d operator a e f span (Some which) = λ i. p.Binary operator a (left i) (moved i) span in
    both ∙ ap (both_put (map_of bits) first k c d operator a e f span) (sym is)

pub logic_counted : (c v w after last : ℕ) → after ≡ min (c + v) greatest → last ≡ min (after + w) greatest → last ≡ min (c + (v + w)) greatest
logic_counted c v w after last is_after is_last = omega (arith, is_after, is_last)

-- ---- a node of `&&` or `||`, as the two views see it

pub plain_logic : (tree : Expression) (operator : LogicOperator) (x y : Box Expression Global) (span : Span) → tree ≡ code_tree.Logic operator x y span → plain.expression_of tree ≡ t.Logic operator (plain.expression_of x.value) (plain.expression_of y.value) span
plain_logic tree operator x y span is =
    ap plain.expression_of is
    ∙ (ap plain.expression_of (sym (code_tree.rolls-Logic operator x y span))
    ∙ fold-roll-Expression t.Argument t.Expression t.Place t.StructureValue t.FunctionCall plain.node_argument plain.node_expression plain.node_place plain.node_structure plain.node_call (Expression-F.Logic operator x y span))

pub probed_logic : (operator : LogicOperator) (x y : Box Expression Global) (span : Span) → probed.expression_of (code_tree.Logic operator x y span) ≡ p.Logic operator (probed.expression_of x.value) (probed.expression_of y.value) span
probed_logic operator x y span =
    ap probed.expression_of (sym (code_tree.rolls-Logic operator x y span))
    ∙ fold-roll-Expression p.Argument p.Expression p.Place p.StructureValue p.FunctionCall probed.node_argument probed.node_expression probed.node_place probed.node_structure probed.node_call (Expression-F.Logic operator x y span)

-- ---- an operator that evaluates both of its operands, as the two views see it

pub probed_binary : (operator : Operator) (a : IntType) (x y : Box Expression Global) (span : Span) → probed.expression_of (code_tree.Binary operator a x y span) ≡ p.Binary operator a (probed.expression_of x.value) (probed.expression_of y.value) span
probed_binary operator a x y span =
    ap probed.expression_of (sym (code_tree.rolls-Binary operator a x y span))
    ∙ fold-roll-Expression p.Argument p.Expression p.Place p.StructureValue p.FunctionCall probed.node_argument probed.node_expression probed.node_place probed.node_structure probed.node_call (Expression-F.Binary operator a x y span)

pub binary_roots : (tree left right : Expression) (operator : Operator) (a : IntType) (x y : Box Expression Global) (span : Span) → tree ≡ code_tree.Binary operator a x y span → left ≡ x.value → right ≡ y.value → inner_roots (n.expression (plain.expression_of tree)) ≡ roots Plain (n.expression (plain.expression_of left)) + roots Plain (n.expression (plain.expression_of right))
binary_roots tree left right operator a x y span is first second =
    let e : t.Expression = plain.expression_of x.value in
    let f : t.Expression = plain.expression_of y.value in
    let full : Option FullOperator = n.full_operator operator e f in
    ap inner_roots (both_node tree operator a x y span full is refl)
    ∙ (both_roots full operator (n.expression e) (n.expression f) span
    ∙ (ap (λ (g : Expression). roots Plain (n.expression (plain.expression_of g)) + roots Plain (n.expression f)) (sym first)
    ∙ ap (λ (g : Expression). roots Plain (n.expression (plain.expression_of left)) + roots Plain (n.expression (plain.expression_of g))) (sym second)))
