-- The functions that are left are copied after those before.
use Rattle.std.proofs.Common.{◌≡◌, ◌∙◌, refl, sym, ap, subst, ℕ, suc, ◌+◌, ◌<◌, ◌≤◌, ◌^◌, Bool, true, false, if◌then◌else◌, eqb, eq-eqb, List, [], ◌∷◌, ◌++◌, map, length, get_or, drop, append_assoc, arith}
use Rattle.std.proofs.lemmas.List.{append-nil, drop_all, drop-drop, drop-map, length-append, length-map, map_push}
use Rattle.std.proofs.lemmas.Bool.Decides.{nat_tests}
use Rattle.mc_cond.specs.Tree.{Tree}
use Rattle.mc_typed.specs.declared.functions.Function.{Function}
use Rattle.mc_typed.specs.Tree as t
use Rattle.mc_typed.specs.Views as plain
use Rattle.decide_rules.specs.declared.role.Role.TheVariants.{Plain}
use Rattle.decide_rules.specs.Nodes.{Node}
use Rattle.decide_rules.specs.Nodes as n
use Rattle.decide_rules.specs.Counts.{roots}
use Rattle.decide_rules.specs.Decisions.{Decision, AreDecisions}
use Rattle.decide_rules.specs.steps.Walk.{decided, decision, inside}
use Rattle.decide_rules.proofs.Once.{one_list}
use Rattle.decide_rules.proofs.Told.{are_decisions}
use Rattle.mc_meaning.proofs.Decided.{decided_trees}
use Rattle.mc_meaning.proofs.Numbered.{trees, trees_length}
use Rattle.mc_steps.specs.Points.{Points, ◌⊕◌, no_points, points_of_function}
use Rattle.mc_probe.specs.Laws.{AreCounted}
use Rattle.mc_probe.specs.Maps.{Map, Mapped, IsMap}
use Rattle.mc_probe.specs.Table.{decisions_in, put_function, put_functions}
use Rattle.mc_probe.specs.Tree as p
use Rattle.mc_probe.specs.Views as probed
use Rattle.mc_instrument.specs.declared.copies.statements.At as code
use Rattle.mc_instrument.specs.steps.Counters.{all_points, leading, taken_by_function, StandsAt}
use Rattle.mc_instrument.proofs.Room.{Ends, ends_begin, ends_next, few_leads, function_fits}
use Rattle.instrument_bits.proofs.Each.{split}

-- ---- how many decisions a function has

abbrev leading_of : ℕ → List Decision → ℕ
leading_of k [] = 0
leading_of k (d ∷ ds) = if eqb d.function k then 1 + leading_of k ds else 0

leading_as : (k : ℕ) (ms : List Mapped) → leading k ms ≡ leading_of k (map (λ m. m.decision) ms)
leading_as k [] = refl
leading_as k (m ∷ ms) = ap (λ (r : ℕ). if eqb m.decision.function k then 1 + r else 0) (leading_as k ms)

equal : (k : ℕ) → eqb k k ≡ true
equal k = eq-eqb k k refl

unequal : (k j : ℕ) → k < j → eqb j k ≡ false
unequal k j lt = grind (arith, nat_tests)

other_leads : (k j : ℕ) (xs : List Node) (ys : List Decision) → k < j → leading_of k ys ≡ 0 → leading_of k (map (decision j) xs ++ ys) ≡ 0
other_leads k j [] ys lt h = h
other_leads k j (x ∷ xs) ys lt h =
    ap (λ (b : Bool). if b then 1 + leading_of k (map (decision j) xs ++ ys) else 0) (unequal k j lt)

later_leads : (k j : ℕ) (fs : List t.Function) → k < j → leading_of k (decided j fs) ≡ 0
later_leads k j [] lt = refl
later_leads k j (f ∷ fs) lt =
    other_leads k j (inside (n.function f) []) (decided (j + 1) fs) lt (later_leads k (j + 1) fs (omega (arith, lt)))

own_leads : (k : ℕ) (xs : List Node) (ys : List Decision) → leading_of k ys ≡ 0 → leading_of k (map (decision k) xs ++ ys) ≡ length xs
own_leads k [] ys h = h
own_leads k (x ∷ xs) ys h =
    ap (λ (b : Bool). if b then 1 + leading_of k (map (decision k) xs ++ ys) else 0) (equal k)
    ∙ (ap (λ (r : ℕ). 1 + r) (own_leads k xs ys h) ∙ omega arith)

function_count : (f : t.Function) → length (inside (n.function f) []) ≡ decisions_in f
function_count f =
    let all : List Decision = map (decision 0) (inside (n.function f) []) in
    sym (length-map (inside (n.function f) []) (decision 0))
    ∙ (ap length (sym (append-nil all))
    ∙ (sym (length-map (all ++ []) (λ (d : Decision). d.tree))
    ∙ (ap length (decided_trees 0 (f ∷ []))
    ∙ (ap length (append-nil (trees Plain (n.function f))) ∙ trees_length Plain (n.function f)))))

pub first_leads : (k : ℕ) (f : t.Function) (fs : List t.Function) (ms : List Mapped) → map (λ (m : Mapped). m.decision) ms ≡ decided k (f ∷ fs) → leading k ms ≡ decisions_in f
first_leads k f fs ms h =
    leading_as k ms ∙ (ap (leading_of k) h
    ∙ (own_leads k (inside (n.function f) []) (decided (k + 1) fs) (later_leads k (k + 1) fs (omega arith)) ∙ function_count f))

dropped : (k : ℕ) (xs : List Node) (ys : List Decision) → drop (length xs) (map (decision k) xs ++ ys) ≡ ys
dropped k [] ys = refl
dropped k (x ∷ xs) ys = dropped k xs ys

pub rest_decided : (k : ℕ) (f : t.Function) (fs : List t.Function) (first : ℕ) (ms : List Mapped) → map (λ (m : Mapped). m.decision) (drop first ms) ≡ decided k (f ∷ fs) → map (λ (m : Mapped). m.decision) (drop (first + decisions_in f) ms) ≡ decided (k + 1) fs
rest_decided k f fs first ms h =
    ap (map (λ (m : Mapped). m.decision)) (sym (drop-drop (decisions_in f) first ms))
    ∙ (sym (drop-map (λ (m : Mapped). m.decision) (decisions_in f) (drop first ms))
    ∙ (ap (drop (decisions_in f)) h
    ∙ (ap (λ (i : ℕ). drop i (decided k (f ∷ fs))) (sym (function_count f))
    ∙ dropped k (inside (n.function f) []) (decided (k + 1) fs))))

-- ---- the loop

pub record FunctionsLeft (m : Map) (trees copies : List Function) (i first : ℕ) (at : code.At) : Type 0 where
  pub points : Points
  pub stands : StandsAt m points at
  pub decisions : map (λ (d : Mapped). d.decision) (drop first m.decisions) ≡ decided i (map plain.function_of (drop i trees))
  pub copied : map probed.function_of copies ++ put_functions m i first points (map plain.function_of (drop i trees)) ≡ put_functions m 0 0 no_points (map plain.function_of trees)
  pub ends : Ends m points (map plain.function_of (drop i trees))

pub begins : (m : Map) (trees copies : List Function) (at : code.At) → copies ≡ [] → StandsAt m no_points at → AreDecisions (map plain.function_of trees) (map (λ (d : Mapped). d.decision) m.decisions) → AreCounted m.statements m.exits m.labels (all_points (map plain.function_of trees)) → FunctionsLeft m trees copies 0 0 at
begins m trees copies at none stands are counted = record {
  points = no_points;
  stands = stands;
  decisions = one_list (map plain.function_of trees) _ _ are (are_decisions (map plain.function_of trees));
  copied = ap (λ (zs : List Function). map probed.function_of zs ++ put_functions m 0 0 no_points (map plain.function_of trees)) none;
  ends = ends_begin m (map plain.function_of trees) counted;
}

pub leads : (m : Map) (trees copies : List Function) (x : Function) (i first : ℕ) (at : code.At) → i < length trees → x ≡ get_or trees i x → FunctionsLeft m trees copies i first at → leading i (drop first m.decisions) ≡ decisions_in (plain.function_of x)
leads m trees copies x i first at lt is left =
    first_leads i (plain.function_of x) (map plain.function_of (drop (i + 1) trees)) (drop first m.decisions)
    (left.decisions ∙ ap (λ (zs : List Function). decided i (map plain.function_of zs)) (split trees i x lt is))

pub fits : (m : Map) (trees copies : List Function) (x : Function) (i first : ℕ) (at : code.At) → IsMap m → first ≤ length m.decisions → i < length trees → x ≡ get_or trees i x → FunctionsLeft m trees copies i first at → at.exit + at.statement + at.label + taken_by_function (plain.function_of x) < 2 ^ 32
fits m trees copies x i first at kept low lt is left =
    let rest : List t.Function = map plain.function_of (drop (i + 1) trees) in
    function_fits m left.points (plain.function_of x) rest at first kept left.stands
    (subst (λ (zs : List Function). Ends m left.points (map plain.function_of zs)) (split trees i x lt is) left.ends)
    (few_leads m.decisions i first (decisions_in (plain.function_of x)) (decisions_in (plain.function_of x)) low (leads m trees copies x i first at lt is left) refl)

pub next : (m : Map) (trees copies new : List Function) (x y : Function) (i first later : ℕ) (at after : code.At) → i < length trees → x ≡ get_or trees i x → new ≡ copies ++ y ∷ [] → ((q : Points) → StandsAt m q at → probed.function_of y ≡ put_function m i first q (plain.function_of x)) → ((q : Points) → StandsAt m q at → StandsAt m (q ⊕ points_of_function (plain.function_of x)) after) → later ≡ first + decisions_in (plain.function_of x) → FunctionsLeft m trees copies i first at → FunctionsLeft m trees new (i + 1) later after
next m trees copies new x y i first later at after lt is pushed copied past counted left =
    let cut : drop i trees ≡ x ∷ drop (i + 1) trees = split trees i x lt is in
    let q : Points = left.points in
    let r : Points = q ⊕ points_of_function (plain.function_of x) in
    let rest : List t.Function = map plain.function_of (drop (i + 1) trees) in
    record {
      points = r;
      stands = past q left.stands;
      decisions =
          ap (λ (k : ℕ). map (λ (d : Mapped). d.decision) (drop k m.decisions)) counted
          ∙ rest_decided i (plain.function_of x) rest first m.decisions
          (left.decisions ∙ ap (λ (zs : List Function). decided i (map plain.function_of zs)) cut);
      copied =
          ap (λ (zs : List Function). map probed.function_of zs ++ put_functions m (i + 1) later r rest) pushed
          ∙ (ap (λ (zs : List p.Function). zs ++ put_functions m (i + 1) later r rest) (map_push probed.function_of copies y)
          ∙ (append_assoc (map probed.function_of copies) (probed.function_of y ∷ []) (put_functions m (i + 1) later r rest)
          ∙ (ap (λ (z : p.Function). map probed.function_of copies ++ z ∷ put_functions m (i + 1) later r rest) (copied q left.stands)
          ∙ (ap (λ (k : ℕ). map probed.function_of copies ++ put_function m i first q (plain.function_of x) ∷ put_functions m (i + 1) k r rest) counted
          ∙ (ap (λ (zs : List Function). map probed.function_of copies ++ put_functions m i first q (map plain.function_of zs)) (sym cut) ∙ left.copied)))));
      ends = ends_next m q (plain.function_of x) rest (subst (λ (zs : List Function). Ends m q (map plain.function_of zs)) cut left.ends);
    }

pub all_copied : (m : Map) (trees copies : List Function) (i first : ℕ) (at : code.At) → length trees ≤ i → FunctionsLeft m trees copies i first at → map probed.function_of copies ≡ put_functions m 0 0 no_points (map plain.function_of trees)
all_copied m trees copies i first at end left =
    sym (append-nil (map probed.function_of copies))
    ∙ (ap (λ (zs : List Function). map probed.function_of copies ++ put_functions m i first left.points (map plain.function_of zs)) (sym (drop_all i trees end)) ∙ left.copied)
