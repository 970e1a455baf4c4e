-- The probes that the table puts round an expression itself.
use Rattle.std.proofs.Common.{◌≡◌, ◌≤◌, ℕ, ◌+◌, suc, Bool, true, false, if◌then◌else◌, List, [], ◌∷◌, ◌++◌, Option, Some, None, length, refl, sym, ap, subst, ◌∙◌, arith}
use Rattle.mc_span.specs.declared.span.Span.{Span}
use Rattle.mc_value.specs.declared.int_type.IntType.{IntType}
use Rattle.mc_typed.specs.declared.probes.Probe.{Probe}
use Rattle.mc_typed.specs.declared.probes.Probe.TheVariants as probe
use Rattle.mc_typed.specs.Tree as typed
use Rattle.decide_rules.specs.declared.operators.FullOperator.{FullOperator}
use Rattle.decide_rules.specs.declared.role.Role.TheVariants.{Controlling, Inner, Plain}
use Rattle.decide_rules.specs.Nodes.{Node}
use Rattle.decide_rules.specs.Nodes as nodes
use Rattle.decide_rules.specs.Roots.{is_root}
use Rattle.decide_rules.specs.Conditions.{is_operator}
use Rattle.mc_probe.specs.Erase.{erase_place}
use Rattle.mc_probe.specs.Maps.{Map}
use Rattle.mc_probe.specs.Tree as p
use Rattle.mc_probe.specs.Table.{Stand, Loose, InTree, operand, under, beside, inner, base_of, increment_of, mapped, round_condition, round, wrap, put, put_place}
use Rattle.reread_law_texts.specs.weave.Brackets.{Brackets}
use Rattle.reread_law_texts.specs.brackets.Signs.{Sign}
use Rattle.reread_law_rows.specs.inserted.Rows.{Row, extent, rows}
use Rattle.reread_law_rows.proofs.Signed.Split.{probed_by, openings, endings, extent_probed, rows_probed}
use Rattle.reread_law_rows.proofs.Signed.Signed.{Level, Signed}

-- ---- which they are

by_test : (b : Bool) → List Probe → List Probe → List Probe
by_test true qs rs = qs
by_test false qs rs = rs

condition_probes : Map → ℕ → ℕ → ℕ → Node → List Probe
unfolding by_test
condition_probes m first k c a = by_test (is_operator a) [] (probe.Condition k 0 (increment_of (mapped m first k) c) ∷ [])

pub own_probes : Map → ℕ → Stand → ℕ → Node → List Probe
unfolding by_test condition_probes
own_probes m first (Loose role) d a = by_test (is_root role a) (probe.Decision d (base_of (mapped m first d)) ∷ condition_probes m first d 0 a) []
own_probes m first (InTree k c) d a = condition_probes m first k c a

chosen : (b : Bool) (qs rs : List Probe) (x : p.Expression) → (if b then probed_by qs x else probed_by rs x) ≡ probed_by (by_test b qs rs) x
unfolding by_test
chosen true qs rs x = refl
chosen false qs rs x = refl

condition_is : (m : Map) (first k c : ℕ) (a : Node) (x : p.Expression) → round_condition m first k c a x ≡ probed_by (condition_probes m first k c a) x
unfolding condition_probes
condition_is m first k c a x = chosen (is_operator a) [] (probe.Condition k 0 (increment_of (mapped m first k) c) ∷ []) x

pub round_is : (m : Map) (first : ℕ) (st : Stand) (d : ℕ) (a : Node) (x : p.Expression) → round m first st d a x ≡ probed_by (own_probes m first st d a) x
unfolding own_probes
round_is m first (Loose role) d a x =
    ap (λ y. if is_root role a then p.Probe (probe.Decision d (base_of (mapped m first d))) y else x) (condition_is m first d 0 a x)
    ∙ chosen (is_root role a) (probe.Decision d (base_of (mapped m first d)) ∷ condition_probes m first d 0 a) [] x
round_is m first (InTree k c) d a x = condition_is m first k c a x

pub probed_both : (qs rs : List Probe) (x : p.Expression) → probed_by qs (probed_by rs x) ≡ probed_by (qs ++ rs) x
probed_both [] rs x = refl
probed_both (q ∷ qs) rs x = ap (λ y. p.Probe q y) (probed_both qs rs x)

-- ---- how many they are

test_length : (n : ℕ) (b : Bool) (qs rs : List Probe) → length qs ≤ n → length rs ≤ n → length (by_test b qs rs) ≤ n
unfolding by_test
test_length n true qs rs h l = h
test_length n false qs rs h l = l

one_condition : (m : Map) (first k c : ℕ) (a : Node) → length (condition_probes m first k c a) ≤ 1
unfolding condition_probes
one_condition m first k c a = test_length 1 (is_operator a) [] (probe.Condition k 0 (increment_of (mapped m first k) c) ∷ []) none one
  where
    none : 0 ≤ 1
    none = omega arith

    one : 1 ≤ 1
    one = omega arith

pub own_two : (m : Map) (first : ℕ) (st : Stand) (d : ℕ) (a : Node) → length (own_probes m first st d a) ≤ 2
unfolding own_probes
own_two m first (Loose role) d a =
    test_length 2 (is_root role a) (probe.Decision d (base_of (mapped m first d)) ∷ condition_probes m first d 0 a) [] (and_one (length (condition_probes m first d 0 a)) (one_condition m first d 0 a)) none
  where
    and_one : (n : ℕ) → n ≤ 1 → suc n ≤ 2
    and_one n h = omega (arith, h)

    none : 0 ≤ 2
    none = omega arith
own_two m first (InTree k c) d a = one_two (length (condition_probes m first k c a)) (one_condition m first k c a)
  where
    one_two : (n : ℕ) → n ≤ 1 → n ≤ 2
    one_two n h = omega (arith, h)

-- how many stand round an implied conversion at most
abbrev pub room : Stand → ℕ
room (Loose Controlling) = 2
room (Loose Plain) = 0
room (Loose Inner) = 0
room (InTree k c) = 1

pub own_room : (m : Map) (first : ℕ) (st : Stand) (d : ℕ) (t : IntType) (e : typed.Expression) (span : Span)
    → length (own_probes m first st d (nodes.expression (typed.Convert t false e span))) ≤ room st
unfolding own_probes condition_probes by_test
own_room m first (Loose Controlling) d t e span = own_two m first (Loose Controlling) d (nodes.expression (typed.Convert t false e span))
own_room m first (Loose Plain) d t e span = none
  where
    none : 0 ≤ 0
    none = omega arith
own_room m first (Loose Inner) d t e span = none
  where
    none : 0 ≤ 0
    none = omega arith
own_room m first (InTree k c) d t e span = one
  where
    one : 1 ≤ 1
    one = omega arith

operand_by : (b : Bool) (d : ℕ) → room (if b then InTree d 0 else Loose Plain) ≤ 1
operand_by true d = omega arith
operand_by false d = omega arith

room_operand : (st : Stand) (d : ℕ) (a : Node) → room (operand st d a) ≤ 1
room_operand (Loose role) d a = operand_by (is_root role a) d
room_operand (InTree k c) d a = omega arith

room_under : (full : Option FullOperator) (st : Stand) → room st ≤ 1 → room (under full st) ≤ 1
room_under (Some f) st h = h
room_under None st h = omega arith

room_beside : (st : Stand) (k : ℕ) → room st ≤ 1 → room (beside st k) ≤ 1
room_beside (Loose role) k h = h
room_beside (InTree j c) k h = h

no_more : (n : ℕ) → n ≤ 1 → 0 + n ≤ 1
no_more n h = omega (arith, h)

-- There is room for an operand of an operator that evaluates both.
pub left_fits : (full : Option FullOperator) (st : Stand) (d : ℕ) (a : Node) → 0 + room (under full (operand st d a)) ≤ 1
left_fits full st d a = no_more (room (under full (operand st d a))) (room_under full (operand st d a) (room_operand st d a))

pub right_fits : (full : Option FullOperator) (st : Stand) (d : ℕ) (a : Node) (k : ℕ) → 0 + room (beside (under full (operand st d a)) k) ≤ 1
right_fits full st d a k =
    no_more (room (beside (under full (operand st d a)) k)) (room_beside (under full (operand st d a)) k (room_under full (operand st d a) (room_operand st d a)))

-- ---- an expression with them

length_both : (qs rs : List Probe) (k : ℕ) → length rs ≤ k → length (qs ++ rs) ≤ length qs + k
length_both [] rs k h = no_probe (length rs) k h
  where
    no_probe : (n k : ℕ) → n ≤ k → n ≤ 0 + k
    no_probe n k h = omega (arith, h)
length_both (q ∷ qs) rs k h = one_more (length (qs ++ rs)) (length qs) k (length_both qs rs k h)
  where
    one_more : (n j k : ℕ) → n ≤ j + k → suc n ≤ suc j + k
    one_more n j k h = omega (arith, h)

-- What holds with any probes round it, of which there are not too many, holds with these.
pub wrapped_by : (w : Brackets) (m : Map) (first k : ℕ) (qs : List Probe) (st : Stand) (d : ℕ) (a : Node) (inside : Stand → ℕ → p.Expression) (mine : List Row)
    → length (own_probes m first st d a) ≤ k → {o : List Level} {own held : List Span} {ps : List Sign}
    → ((all : List Probe) → length all ≤ length qs + k → Signed w o own held (rows (probed_by all (inside (operand st d a) (inner st d a))) mine) ps)
    → Signed w o own held (rows (probed_by qs (wrap m first st d a inside)) mine) ps
wrapped_by w m first k qs st d a inside mine l {o = o} {own = own} {held = held} {ps = ps} h =
    let x = inside (operand st d a) (inner st d a) in
    let rs = own_probes m first st d a in
    let e = ap (λ y. probed_by qs y) (round_is m first st d a x) ∙ probed_both qs rs x in
    subst (λ y. Signed w o own held (rows y mine) ps) (sym e) (h (qs ++ rs) (length_both qs rs k l))

three : (n q : ℕ) → q ≤ 1 → n ≤ q + 2 → n ≤ 3
three n q h l = omega (arith, h, l)

pub wrapped : (w : Brackets) (m : Map) (first : ℕ) (qs : List Probe) (st : Stand) (d : ℕ) (a : Node) (inside : Stand → ℕ → p.Expression) (mine : List Row)
    → length qs ≤ 1 → {o : List Level} {own held : List Span} {ps : List Sign}
    → ((all : List Probe) → length all ≤ 3 → Signed w o own held (rows (probed_by all (inside (operand st d a) (inner st d a))) mine) ps)
    → Signed w o own held (rows (probed_by qs (wrap m first st d a inside)) mine) ps
wrapped w m first qs st d a inside mine l h =
    wrapped_by w m first 2 qs st d a inside mine (own_two m first st d a) (λ all k. h all (three (length all) (length qs) l k))

-- ---- where it stands

wrapped_extent : (m : Map) (first : ℕ) (st : Stand) (d : ℕ) (a : Node) (x : p.Expression) → extent (round m first st d a x) ≡ extent x
wrapped_extent m first st d a x = ap extent (round_is m first st d a x) ∙ extent_probed (own_probes m first st d a) x

pub place_extent : (m : Map) (first d : ℕ) (place : typed.Place) → typed.span_of_place (erase_place (put_place m first d place)) ≡ typed.span_of_place place
place_extent m first d (typed.Local slot span) = refl
place_extent m first d (typed.Static slot span) = refl
place_extent m first d (typed.Parameter array stride index span) = refl
place_extent m first d (typed.Item array n stride index span) = refl
place_extent m first d (typed.Member structure i offset span) = refl

pub put_extent : (m : Map) (first : ℕ) (st : Stand) (d : ℕ) (e : typed.Expression) → extent (put m first st d e) ≡ typed.span_of e
put_extent m first st d (typed.Constant v a span) = wrapped_extent m first st d (nodes.expression (typed.Constant v a span)) (p.Constant v a span)
put_extent m first st d (typed.Read place a) =
    let nd = nodes.expression (typed.Read place a) in
    wrapped_extent m first st d nd (p.Read (put_place m first (inner st d nd) place) a) ∙ place_extent m first (inner st d nd) place
put_extent m first st d (typed.Unary operator a e span) = wrapped_extent m first st d _ _
put_extent m first st d (typed.Convert a written e span) = wrapped_extent m first st d _ _
put_extent m first st d (typed.Not e span) = wrapped_extent m first st d _ _
put_extent m first st d (typed.Binary operator a e f span) = wrapped_extent m first st d _ _
put_extent m first st d (typed.Logic operator e f span) = wrapped_extent m first st d _ _
put_extent m first st d (typed.Choice e f g a span) = wrapped_extent m first st d _ _
put_extent m first st d (typed.Call (typed.call f given result span) a) = wrapped_extent m first st d _ _
put_extent m first st d (typed.Input span) = wrapped_extent m first st d _ _

-- An implied conversion has no place of its own: probes round it stand round what is converted.
pub converted_rows : (all : List Probe) (t : IntType) (y : p.Expression) (span : Span) (mine : List Row) → extent y ≡ span
    → rows (probed_by all (p.Convert t false y span)) mine ≡ rows (probed_by all y) mine
converted_rows all t y span mine e =
    rows_probed all (p.Convert t false y span) mine
    ∙ ap (λ at. openings all at (rows y (endings (length all) at mine))) (sym e)
    ∙ sym (rows_probed all y mine)
