-- The probes round an expression are those of its rows, and no other one is taken.
use Rattle.std.proofs.Common.{◌≡◌, ◌∙◌, refl, sym, ap, subst, ℕ, suc, ◌<◌, ◌≤◌, nat_eq, Bool, true, false, ◌&&◌, if◌then◌else◌, List, [], ◌∷◌, map, take, drop, arith}
use Rattle.std.proofs.lemmas.Bool.{eqb-true}
use Rattle.mc_limits.specs.Limits.{most_bits}
use Rattle.mc_span.specs.declared.span.Span.{Span}
use Rattle.mc_value.specs.declared.int_type.IntType.{IntType}
use Rattle.reread_pieces.specs.declared.piece.What.{What}
use Rattle.reread_pieces.specs.declared.piece.What.TheVariants as what
use Rattle.reread_pieces.specs.declared.placed.Placed.{Placed}
use Rattle.mc_typed.specs.declared.probes.Probe as code
use Rattle.mc_typed.specs.declared.probes.Probe.TheVariants as probe
use Rattle.mc_typed.specs.Sound.{type_of}
use Rattle.mc_typed.specs.Tree.{span_of}
use Rattle.mc_typed.specs.Tree as t
use Rattle.mc_probe.specs.Erase.{erase_expression}
use Rattle.mc_probe.specs.Tree as p
use Rattle.mc_probe.specs.WellFormed.{register_of}
use Rattle.reread_law_rows.specs.inserted.Rows.{Row, row, row_of_probe, extent, rows}
use Rattle.reread_law_rows.specs.inserted.Seats.{ArePlaced, is_placed, placed_rows, seat_of, seat_of_row}
use Rattle.reread_put_back.specs.Pens.{Pen, go_on, is_below, is_same, noted}
use Rattle.reread_put_back.specs.Rows as taken
use Rattle.reread_put_back.specs.Back.{around, back, end_round, has_round, is_outer, is_round, is_there, leading, round, surrounded}
use Rattle.reread_put_back.specs.steps.Inside.{inside}
use Rattle.reread_law_texts.specs.apart.Distinct.{IsDistinct}
use Rattle.reread_law_probes.specs.put.Places.{parts}
use Rattle.reread_law_probes.specs.put.Takes.{IsInside, Takes}
use Rattle.reread_law_probes.proofs.Put.Leads.{First, IsUnprobed, Leads, parts_lead}
use Rattle.reread_law_probes.proofs.Put.Walked.{IsFront, Walked, false_true, front, has_as, is_nonempty, put_one, same_place, span_at, what_of}

back_is : (r : ℕ) (x : t.Expression) (s : Pen) → back r x s ≡ around r x (inside r x) s
back_is r (t.Constant v a span) s = refl
back_is r (t.Read place a) s = refl
back_is r (t.Unary operator a e span) s = refl
back_is r (t.Convert a written e span) s = refl
back_is r (t.Not e span) s = refl
back_is r (t.Binary operator a e f span) s = refl
back_is r (t.Logic operator e f span) s = refl
back_is r (t.Choice e f g a span) s = refl
back_is r (t.Call k a) s = refl
back_is r (t.Input span) s = refl

-- ---- none at the front

abbrev pub NotThere : t.Expression → List Placed → Type 0
NotThere e [] = Unit {0}
NotThere e (q ∷ rest) = is_there e q ≡ false

leading_none : (e : t.Expression) (left : List Placed) → NotThere e left → leading e left ≡ 0
leading_none e [] h = refl
leading_none e (q ∷ rest) h = ap (λ (b : Bool). if b then suc (leading e rest) else 0) h

pub around_none : (r : ℕ) (e : t.Expression) (s : Pen) → NotThere e s.left → back r e s ≡ inside r e s
around_none r e s h =
    back_is r e s
    ∙ ap (λ (n : ℕ). surrounded r (take n s.left) (inside r e (record s { left = drop n s.left }))) (leading_none e s.left h)

and_left : (a b : Bool) → a && b ≡ true → a ≡ true
and_left true b e = refl
and_left false b e = false_true e

and_right : (a b : Bool) → a && b ≡ true → b ≡ true
and_right true b e = e
and_right false b e = false_true e

both_false : (a b : Bool) → (a ≡ true → b ≡ true → ⊥) → a && b ≡ false
both_false true true h = absurd (h refl refl)
both_false true false h = refl
both_false false b h = refl

pub same_is : (a b : Span) → is_same a b ≡ true → a ≡ b
same_is a b e =
    let start : a.start ≡ b.start = eqb-true a.start b.start (and_left (nat_eq a.start b.start) (nat_eq a.end b.end) e) in
    let end : a.end ≡ b.end = eqb-true a.end b.end (and_right (nat_eq a.start b.start) (nat_eq a.end b.end) e) in
    λ i. record { start = start i; end = end i }

outer_round : (a : IntType) (w : What) → is_outer a w ≡ true → is_round w ≡ true
outer_round a what.Source e = false_true e
outer_round a (what.Opening b) e = false_true e
outer_round a what.Closing e = false_true e
outer_round a (what.Registers n) e = false_true e
outer_round a (what.Entry b) e = false_true e
outer_round a (what.Exit b) e = false_true e
outer_round a (what.Declaration b) e = false_true e
outer_round a (what.Label r b) e = false_true e
outer_round a (what.Default r b) e = false_true e
outer_round a (what.Statement b) e = false_true e
outer_round a what.StatementEnd e = false_true e
outer_round a what.Value e = false_true e
outer_round a (what.ValueEnd b) e = false_true e
outer_round a (what.Return b) e = false_true e
outer_round a what.ReturnEnd e = false_true e
outer_round a (what.Decision r b) e = false_true e
outer_round a (what.Condition r b c) e = refl
outer_round a (what.Switch r) e = refl
outer_round a what.OperandEnd e = false_true e

round_there : (e : t.Expression) (w : What) → has_round e w ≡ true → is_round w ≡ true
round_there (t.Constant v a span) w h = h
round_there (t.Read place a) w h = h
round_there (t.Unary operator a e span) w h = h
round_there (t.Convert a true e span) w h = h
round_there (t.Convert a false e span) w h = outer_round (type_of e) w h
round_there (t.Not e span) w h = h
round_there (t.Binary operator a e f span) w h = h
round_there (t.Logic operator e f span) w h = h
round_there (t.Choice e f g a span) w h = h
round_there (t.Call k a) w h = h
round_there (t.Input span) w h = h

not_there_seats : (e : t.Expression) (s : Span) (prs : List Row) (left : List Placed) → span_of e ≡ s → First s prs → map seat_of left ≡ map seat_of_row prs → NotThere e left
not_there_seats e s prs [] place f h = tt
not_there_seats e s [] (q ∷ rest) place f h = false_true (sym (ap is_nonempty h))
not_there_seats e s (r ∷ prs) (q ∷ rest) place f h =
    both_false (is_same q.span (span_of e)) (has_round e q.what) (λ same there.
    f (subst (λ (w : What). is_round w ≡ true) (ap (what_of q.what) h) (round_there e q.what there))
    (sym place ∙ (sym (same_is q.span (span_of e) same) ∙ ap (span_at q.span) h)))

pub not_there : (e : t.Expression) (s : Span) (rs : List Row) (left : List Placed) → span_of e ≡ s → First s (placed_rows rs) → ArePlaced rs left → NotThere e left
not_there e s rs left place f h = not_there_seats e s (placed_rows rs) left place f h

-- ---- those of an implied conversion, which has the place of its operand

probe_placed : (q : code.Probe) → is_placed (row_of_probe q) ≡ true
probe_placed (probe.Decision r b) = refl
probe_placed (probe.Condition r b c) = refl
probe_placed (probe.Switch r) = refl

inner_seats : (a : IntType) (e : t.Expression) (span : Span) (w : What) (place : Span) (later : List Row) (left : List Placed) → is_outer (type_of e) w ≡ false → IsFront w place later left → NotThere (t.Convert a false e span) left
inner_seats a e span w place later left h f =
    subst (λ (l : List Placed). NotThere (t.Convert a false e span) l) (sym f.whole)
    (both_false (is_same f.first.span span) (is_outer (type_of e) f.first.what) (λ same there.
    absurd (true_false (sym there ∙ (ap (is_outer (type_of e)) f.what ∙ h)))))
  where
    true_false : true ≡ false → ⊥
    true_false e = false_true (sym e)

core_inner : (x : p.Expression) (a : IntType) (span : Span) (ps : List Span) (rs : List Row) (left : List Placed) → extent x ≡ span → Takes x → IsInside x → IsUnprobed x → Leads ps rs → IsDistinct (extent x ∷ parts x ps) → ArePlaced (rows x rs) left → NotThere (t.Convert a false (erase_expression x) span) left
core_inner x a span ps rs left place h i u l apart front =
    not_there (t.Convert a false (erase_expression x) span) (extent x) (rows x rs) left (sym place)
    (parts_lead x ps rs h i u l (extent x) apart.0) front

pub not_outer : (x : p.Expression) (a : IntType) (span : Span) (ps : List Span) (rs : List Row) (left : List Placed) → extent x ≡ span → Takes x → IsInside x → Leads ps rs → IsDistinct (extent x ∷ parts x ps) → ArePlaced (rows x rs) left → NotThere (t.Convert a false (erase_expression x) span) left
not_outer (p.Constant v b at) a span ps rs left place h i l apart f = core_inner (p.Constant v b at) a span ps rs left place h i tt l apart f
not_outer (p.Read x b) a span ps rs left place h i l apart f = core_inner (p.Read x b) a span ps rs left place h i tt l apart f
not_outer (p.Unary operator b e at) a span ps rs left place h i l apart f = core_inner (p.Unary operator b e at) a span ps rs left place h i tt l apart f
not_outer (p.Convert b true e at) a span ps rs left place h i l apart f = core_inner (p.Convert b true e at) a span ps rs left place h i tt l apart f
not_outer (p.Convert b false e at) a span ps rs left place h i l apart f = absurd i
not_outer (p.Not e at) a span ps rs left place h i l apart f = core_inner (p.Not e at) a span ps rs left place h i tt l apart f
not_outer (p.Binary operator b e g at) a span ps rs left place h i l apart f = core_inner (p.Binary operator b e g at) a span ps rs left place h i tt l apart f
not_outer (p.Logic operator e g at) a span ps rs left place h i l apart f = core_inner (p.Logic operator e g at) a span ps rs left place h i tt l apart f
not_outer (p.Choice e g c b at) a span ps rs left place h i l apart f = core_inner (p.Choice e g c b at) a span ps rs left place h i tt l apart f
not_outer (p.Call k b) a span ps rs left place h i l apart f = core_inner (p.Call k b) a span ps rs left place h i tt l apart f
not_outer (p.Input at) a span ps rs left place h i l apart f = core_inner (p.Input at) a span ps rs left place h i tt l apart f
not_outer (p.Probe q e) a span ps rs left place h i l apart f =
    inner_seats a (erase_expression e) span (row_of_probe q) (extent e) (rows e (row what.OperandEnd (extent e) rs)) left i
    (front (row_of_probe q) (extent e) (extent e).end (rows e (row what.OperandEnd (extent e) rs)) left (probe_placed q) f)

-- ---- one at the front

-- the next probe stands round what the walk gives behind it
abbrev one_round : ℕ → Placed → p.Expression × Pen → p.Expression × Pen
one_round r q done = go_on done (λ x s. (round q.what x, noted r q (end_round q.what x) s))

around_one : (r : ℕ) (e : t.Expression) (q : Placed) (rest : List Placed) (s : Pen) → is_there e q ≡ true → back r e (record s { left = q ∷ rest }) ≡ one_round r q (back r e (record s { left = rest }))
around_one r e q rest s h =
    back_is r e (record s { left = q ∷ rest })
    ∙ (ap (λ (b : Bool). surrounded r (take (if b then suc (leading e rest) else 0) (q ∷ rest)) (inside r e (record s { left = drop (if b then suc (leading e rest) else 0) (q ∷ rest) }))) h
    ∙ ap (one_round r q) (sym (back_is r e (record s { left = rest }))))

round_is : (q : code.Probe) (x : p.Expression) → round (row_of_probe q) x ≡ p.Probe q x
round_is (probe.Decision r b) x = refl
round_is (probe.Condition r b c) x = refl
round_is (probe.Switch r) x = refl

probe_below : (r : ℕ) (q : code.Probe) → register_of q < r → is_below r (taken.register_of (row_of_probe q)) ≡ true
probe_below r (probe.Decision k b) lt = grind arith
probe_below r (probe.Condition k b c) lt = grind arith
probe_below r (probe.Switch k) lt = grind arith

both_true : (a b : Bool) → a ≡ true → b ≡ true → a && b ≡ true
both_true true true e f = refl
both_true true false e f = f
both_true false b e f = e

module _ (r limit : ℕ) (few : limit ≤ most_bits) where
  probe_first : (q : code.Probe) (x : p.Expression) (rs : List Row) (H : ℕ → Type 0) → register_of q < r → end_round (row_of_probe q) x ≤ limit → has_round (erase_expression x) (row_of_probe q) ≡ true → (s : Pen) → (f : IsFront (row_of_probe q) (extent x) (rows x (row what.OperandEnd (extent x) rs)) s.left) → ((u : Pen) → ArePlaced (rows x (row what.OperandEnd (extent x) rs)) u.left → Walked limit H x (row what.OperandEnd (extent x) rs) u (back r (erase_expression x) u)) → Walked limit (λ n. (end_round (row_of_probe q) x ≤ n) × H n) (p.Probe q x) rs s (back r (erase_expression x) s)
  probe_first q x rs H lt le there s f walk =
      let e : t.Expression = erase_expression x in
      let u : Pen = record s { left = f.rest } in
      let w = walk u f.behind in
      let done : p.Expression × Pen = back r e u in
      let stands : is_there e f.first ≡ true =
      both_true (is_same f.first.span (span_of e)) (has_round e f.first.what)
      (same_place f.first.span (span_of e) f.span) (ap (has_round e) f.what ∙ there) in
      let all : back r e s ≡ one_round r f.first done =
      ap (λ (l : List Placed). back r e (record s { left = l })) f.whole ∙ around_one r e f.first f.rest s stands in
      let part : round f.first.what done.0 ≡ p.Probe q x =
      (λ i. round (f.what i) (w.value i)) ∙ round_is q x in
      let end : end_round f.first.what done.0 ≡ end_round (row_of_probe q) x = λ i. end_round (f.what i) (w.value i) in
      let below = ap (λ (v : What). is_below r (taken.register_of v)) f.what ∙ probe_below r q lt in
      subst (λ (out : p.Expression × Pen). Walked limit (λ n. (end_round (row_of_probe q) x ≤ n) × H n) (p.Probe q x) rs s out) (sym all)
      (subst (λ (y : p.Expression). Walked limit (λ n. (end_round (row_of_probe q) x ≤ n) × H n) (p.Probe q x) rs s (y, noted r f.first (end_round f.first.what done.0) done.1)) (sym part)
      (joined_after H (end_round (row_of_probe q) x) (p.Probe q x) x rs (row what.OperandEnd (extent x) rs) s u done
      (noted r f.first (end_round f.first.what done.0) done.1) w refl refl
      (has_as limit (λ n. end_round f.first.what done.0 ≤ n) (λ n. end_round (row_of_probe q) x ≤ n) (p.Probe q x) rs done.1 (p.Probe q x, noted r f.first (end_round f.first.what done.0) done.1) (λ n k. omega (arith, k, end))
      (put_one limit few r f.first (end_round f.first.what done.0) rs (p.Probe q x) done.1 done.1 w.left refl refl below (omega (arith, end, le))))))
    where
      joined_after : (H : ℕ → Type 0) (end : ℕ) (y x : p.Expression) (rs mid : List Row) (s u : Pen) (done : p.Expression × Pen) (last : Pen) → Walked limit H x mid u done → u.fault ≡ s.fault → u.bits ≡ s.bits → Walked limit (λ n. end ≤ n) y rs done.1 (y, last) → Walked limit (λ n. (end ≤ n) × H n) y rs s (y, last)
      joined_after H end y x rs mid s u done last w f b v =
          let g = w.grows in
          let k = v.grows in
          record {
            value = refl;
            left = v.left;
            fault = v.fault ∙ (w.fault ∙ f);
            grows = omega (arith, g, k, b);
            within = λ le. v.within (w.within (omega (arith, le, b)));
            has = λ n le. (v.has n le, w.has n (omega (arith, k, le)));
          }

  pub probe_walked : (q : code.Probe) (x : p.Expression) (rs : List Row) (H : ℕ → Type 0) → register_of q < r → end_round (row_of_probe q) x ≤ limit → has_round (erase_expression x) (row_of_probe q) ≡ true → ((u : Pen) → ArePlaced (rows x (row what.OperandEnd (extent x) rs)) u.left → Walked limit H x (row what.OperandEnd (extent x) rs) u (back r (erase_expression x) u)) → (s : Pen) → ArePlaced (rows (p.Probe q x) rs) s.left → Walked limit (λ n. (end_round (row_of_probe q) x ≤ n) × H n) (p.Probe q x) rs s (back r (erase_expression x) s)
  probe_walked q x rs H lt le there walk s h =
      probe_first q x rs H lt le there s
      (front (row_of_probe q) (extent x) (extent x).end (rows x (row what.OperandEnd (extent x) rs)) s.left (probe_placed q) h) walk
