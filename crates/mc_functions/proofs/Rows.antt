-- Rows to which obligations are added.
use Rattle.std.proofs.Common.{◌≡◌, ◌∙◌, ◌+◌, ◌-◌, ◌<◌, ◌≤◌, ℕ, Bool, true, false, nat_eq, List, [], ◌∷◌, length, take, drop, get_or, refl, sym, ap, subst, arith}
use Rattle.std.specs.Prelude.{if◌then◌else◌, ◌&&◌, ◌==◌}
use Rattle.std.proofs.lemmas.Bool.Decides.{nat_tests}
use Rattle.mc_oblige.specs.declared.obligation.Obligation.{Obligation}
use Rattle.mc_oblige.specs.declared.verdict.Verdict.{Verdict}
use Rattle.mc_oblige.specs.declared.verdict.VerdictState.{VerdictState}
use Rattle.mc_oblige.specs.declared.verdict.VerdictState.TheVariants.{Met, Justified, Stale, Missing}
use Rattle.mc_functions.specs.declared.counts.Counts.{Counts}
use Rattle.mc_functions.specs.declared.row.Row.{Row}
use Rattle.mc_functions.specs.declared.kind.Kind.{Kind}
use Rattle.mc_functions.specs.declared.kind.Kind.TheVariants.{Entries, Exits, Statements, Labels, Outcomes, Conditions}
use Rattle.mc_functions.specs.Kinds.{kind_of, same_kind}
use Rattle.mc_functions.specs.Counts.{counted, counts_of, is_verdict, of_kind, of_verdict}
use Rattle.mc_functions.specs.Standing.{function_of}
use Rattle.mc_functions.specs.Measured.{Measured, is_counted, is_in, names_of, row_of}
use Rattle.mc_functions.proofs.Firsts.{first_is}
use Rattle.mc_functions.specs.steps.Table.{AreEmpty, AreRows, added, no_row, one_more, with_one}

-- ---- what a row has after one more

abbrev pub one_if : Bool → ℕ
one_if t = if t then 1 else 0

pub more_of : (asked state : VerdictState) (c : Counts) → of_verdict asked (one_more state c) ≡ of_verdict asked c + one_if (is_verdict asked state)
more_of Met Met c = omega arith
more_of Met Justified c = omega arith
more_of Met Stale c = omega arith
more_of Met Missing c = omega arith
more_of Justified Met c = omega arith
more_of Justified Justified c = omega arith
more_of Justified Stale c = omega arith
more_of Justified Missing c = omega arith
more_of Stale Met c = omega arith
more_of Stale Justified c = omega arith
more_of Stale Stale c = omega arith
more_of Stale Missing c = omega arith
more_of Missing Met c = omega arith
more_of Missing Justified c = omega arith
more_of Missing Stale c = omega arith
more_of Missing Missing c = omega arith

kind_more : (asked kind : Kind) (state : VerdictState) (r : Row) → of_kind asked (with_one kind state r) ≡ (if same_kind asked kind then one_more state (of_kind asked r) else of_kind asked r)
kind_more Entries Entries _ r = refl
kind_more Entries Exits _ r = refl
kind_more Entries Statements _ r = refl
kind_more Entries Labels _ r = refl
kind_more Entries Outcomes _ r = refl
kind_more Entries Conditions _ r = refl
kind_more Exits Entries _ r = refl
kind_more Exits Exits _ r = refl
kind_more Exits Statements _ r = refl
kind_more Exits Labels _ r = refl
kind_more Exits Outcomes _ r = refl
kind_more Exits Conditions _ r = refl
kind_more Statements Entries _ r = refl
kind_more Statements Exits _ r = refl
kind_more Statements Statements _ r = refl
kind_more Statements Labels _ r = refl
kind_more Statements Outcomes _ r = refl
kind_more Statements Conditions _ r = refl
kind_more Labels Entries _ r = refl
kind_more Labels Exits _ r = refl
kind_more Labels Statements _ r = refl
kind_more Labels Labels _ r = refl
kind_more Labels Outcomes _ r = refl
kind_more Labels Conditions _ r = refl
kind_more Outcomes Entries _ r = refl
kind_more Outcomes Exits _ r = refl
kind_more Outcomes Statements _ r = refl
kind_more Outcomes Labels _ r = refl
kind_more Outcomes Outcomes _ r = refl
kind_more Outcomes Conditions _ r = refl
kind_more Conditions Entries _ r = refl
kind_more Conditions Exits _ r = refl
kind_more Conditions Statements _ r = refl
kind_more Conditions Labels _ r = refl
kind_more Conditions Outcomes _ r = refl
kind_more Conditions Conditions _ r = refl

by_kind : (t : Bool) (asked state : VerdictState) (c : Counts) → of_verdict asked (if t then one_more state c else c) ≡ of_verdict asked c + one_if (t && is_verdict asked state)
by_kind true asked state c = more_of asked state c
by_kind false asked state c = omega arith

pub row_more : (asked_kind kind : Kind) (asked state : VerdictState) (r : Row) → of_verdict asked (of_kind asked_kind (with_one kind state r)) ≡ of_verdict asked (of_kind asked_kind r) + one_if (same_kind asked_kind kind && is_verdict asked state)
row_more asked_kind kind asked state r =
    ap (of_verdict asked) (kind_more asked_kind kind state r) ∙ by_kind (same_kind asked_kind kind) asked state (of_kind asked_kind r)

-- ---- a row by its numbers

pub of_counts : (asked : VerdictState) (chosen : Obligation → Bool) (os : List Obligation) (vs : List Verdict) → of_verdict asked (counts_of chosen os vs) ≡ counted chosen asked os vs
of_counts Met chosen os vs = refl
of_counts Justified chosen os vs = refl
of_counts Stale chosen os vs = refl
of_counts Missing chosen os vs = refl

abbrev pub belongs : Measured → ℕ → Kind → Obligation → Bool
belongs m k kind o = is_counted m o && is_in (names_of m) k kind o

pub of_row : (m : Measured) (k : ℕ) (kind : Kind) (asked : VerdictState) → of_verdict asked (of_kind kind (row_of m k)) ≡ counted (belongs m k kind) asked m.obligations m.verdicts
of_row m k Entries asked = of_counts asked (belongs m k Entries) m.obligations m.verdicts
of_row m k Exits asked = of_counts asked (belongs m k Exits) m.obligations m.verdicts
of_row m k Statements asked = of_counts asked (belongs m k Statements) m.obligations m.verdicts
of_row m k Labels asked = of_counts asked (belongs m k Labels) m.obligations m.verdicts
of_row m k Outcomes asked = of_counts asked (belongs m k Outcomes) m.obligations m.verdicts
of_row m k Conditions asked = of_counts asked (belongs m k Conditions) m.obligations m.verdicts

pub same_counts : (a b : Counts) → ((asked : VerdictState) → of_verdict asked a ≡ of_verdict asked b) → a ≡ b
same_counts a b each = λ i. record {
  met = each Met i;
  justified = each Justified i;
  stale = each Stale i;
  missing = each Missing i;
}

pub same_row : (a b : Row) → ((kind : Kind) (asked : VerdictState) → of_verdict asked (of_kind kind a) ≡ of_verdict asked (of_kind kind b)) → a ≡ b
same_row a b each = λ i. record {
  entries = same_counts a.entries b.entries (each Entries) i;
  exits = same_counts a.exits b.exits (each Exits) i;
  statements = same_counts a.statements b.statements (each Statements) i;
  labels = same_counts a.labels b.labels (each Labels) i;
  outcomes = same_counts a.outcomes b.outcomes (each Outcomes) i;
  conditions = same_counts a.conditions b.conditions (each Conditions) i;
}

-- ---- so many at most

at_most_one : (t : Bool) → one_if t ≤ 1
at_most_one true = omega arith
at_most_one false = omega arith

pub few : (chosen : Obligation → Bool) (asked : VerdictState) (os : List Obligation) (vs : List Verdict) → counted chosen asked os vs ≤ length os
few chosen asked [] vs = omega arith
few chosen asked (o ∷ os) [] = omega arith
few chosen asked (o ∷ os) (v ∷ vs) = omega (arith, at_most_one (chosen o && is_verdict asked v.state), few chosen asked os vs)

same_self : (kind : Kind) → same_kind kind kind ≡ true
same_self Entries = refl
same_self Exits = refl
same_self Statements = refl
same_self Labels = refl
same_self Outcomes = refl
same_self Conditions = refl

pub verdict_self : (state : VerdictState) → is_verdict state state ≡ true
verdict_self Met = refl
verdict_self Justified = refl
verdict_self Stale = refl
verdict_self Missing = refl

-- ---- the table after some of the obligations

module _ (m : Measured) where
  -- what the rows have and what is left to count are all
  pub record IsAt (rows : List Row) (os : List Obligation) (vs : List Verdict) : Type 0 where
    pub whole : length rows ≡ length (names_of m)
    pub each : (k : ℕ) → k < length rows → (kind : Kind) (asked : VerdictState) →
        of_verdict asked (of_kind kind (get_or rows k no_row)) + counted (belongs m k kind) asked os vs ≡ of_verdict asked (of_kind kind (row_of m k))

  none_in : (kind : Kind) (asked : VerdictState) → of_verdict asked (of_kind kind no_row) ≡ 0
  none_in Entries Met = refl
  none_in Entries Justified = refl
  none_in Entries Stale = refl
  none_in Entries Missing = refl
  none_in Exits Met = refl
  none_in Exits Justified = refl
  none_in Exits Stale = refl
  none_in Exits Missing = refl
  none_in Statements Met = refl
  none_in Statements Justified = refl
  none_in Statements Stale = refl
  none_in Statements Missing = refl
  none_in Labels Met = refl
  none_in Labels Justified = refl
  none_in Labels Stale = refl
  none_in Labels Missing = refl
  none_in Outcomes Met = refl
  none_in Outcomes Justified = refl
  none_in Outcomes Stale = refl
  none_in Outcomes Missing = refl
  none_in Conditions Met = refl
  none_in Conditions Justified = refl
  none_in Conditions Stale = refl
  none_in Conditions Missing = refl

  pub at_start : (rows : List Row) → AreEmpty (length (names_of m)) rows → IsAt rows m.obligations m.verdicts
  at_start rows are = record {
    whole = are.whole;
    each = λ k lt kind asked. (
        let row : of_verdict asked (of_kind kind (get_or rows k no_row)) ≡ 0 = ap (λ (r : Row). of_verdict asked (of_kind kind r)) (are.each k (omega (arith, lt, are.whole))) ∙ none_in kind asked in
        omega (arith, row, of_row m k kind asked)
        );
  }

  pub at_end : (rows : List Row) (vs : List Verdict) → IsAt rows [] vs → AreRows m rows
  at_end rows vs at = record {
    whole = at.whole;
    each = λ k lt. same_row (get_or rows k no_row) (row_of m k) (λ kind asked. omega (arith, at.each k lt kind asked));
  }

  module _ (o : Obligation) (v : Verdict) (os : List Obligation) (vs : List Verdict) where
    -- how many the obligation is of those
    abbrev own : ℕ → Kind → VerdictState → ℕ
    own k kind asked = one_if (belongs m k kind o && is_verdict asked v.state)

    own_none : (c b t : Bool) → c ≡ false → one_if ((c && b) && t) ≡ 0
    own_none true b t e = absurd (cc)
    own_none false b t e = refl

    -- one that is not counted
    pub left_out : (rows : List Row) → IsAt rows (o ∷ os) (v ∷ vs) → is_counted m o ≡ false → IsAt rows os vs
    left_out rows at out = record {
      whole = at.whole;
      each = λ k lt kind asked. omega (arith, at.each k lt kind asked, own_none (is_counted m o) (is_in (names_of m) k kind o) (is_verdict asked v.state) out);
    }

    own_one : (c b t : Bool) → c ≡ true → b ≡ true → t ≡ true → one_if ((c && b) && t) ≡ 1
    own_one c b t d e f = rw (d, e, f) refl

    with_own : (c e : Bool) (kind asked_kind : Kind) (asked : VerdictState) (r : Row) → c ≡ true → of_verdict asked (of_kind asked_kind (if e then with_one kind v.state r else r))
        ≡ of_verdict asked (of_kind asked_kind r) + one_if ((c && (e && same_kind asked_kind kind)) && is_verdict asked v.state)
    with_own true true kind asked_kind asked r is = row_more asked_kind kind asked v.state r
    with_own true false kind asked_kind asked r is = omega arith
    with_own false e kind asked_kind asked r is = absurd (cc)

    abbrev function : ℕ
    function = function_of (names_of m) o.span.start

    -- one that is counted
    pub one_on : (rows more : List Row) → IsAt rows (o ∷ os) (v ∷ vs) → is_counted m o ≡ true → length more ≡ length rows
        → ((k : ℕ) → k < length rows → get_or more k no_row ≡ added function (kind_of o.id) v.state k (get_or rows k no_row)) → IsAt more os vs
    one_on rows more at chosen same turned = record {
      whole = same ∙ at.whole;
      each = λ k lt kind asked. (
          let within : k < length rows = omega (arith, lt, same) in
          let row : of_verdict asked (of_kind kind (get_or more k no_row)) ≡ of_verdict asked (of_kind kind (get_or rows k no_row)) + own k kind asked =
          ap (λ (r : Row). of_verdict asked (of_kind kind r)) (turned k within) ∙ with_own (is_counted m o) (function == k) (kind_of o.id) kind asked (get_or rows k no_row) chosen in
          omega (arith, row, at.each k within kind asked)
          );
    }

    itself : (k : ℕ) → nat_eq k k ≡ true
    itself k = grind (arith, nat_tests)

    both : (a b : Bool) → a ≡ true → b ≡ true → (a && b) ≡ true
    both a b d e = rw (d, e) refl

    -- there is room for it
    pub room : (rows : List Row) → IsAt rows (o ∷ os) (v ∷ vs) → is_counted m o ≡ true → function < length rows
        → of_verdict v.state (of_kind (kind_of o.id) (get_or rows function no_row)) + 1 ≤ length m.obligations
    room rows at chosen lt =
        let one : own function (kind_of o.id) v.state ≡ 1 =
        own_one (is_counted m o) (is_in (names_of m) function (kind_of o.id) o) (is_verdict v.state v.state) chosen
        (both (function == function) (same_kind (kind_of o.id) (kind_of o.id)) (itself function) (same_self (kind_of o.id))) (verdict_self v.state) in
        omega (arith, at.each function lt (kind_of o.id) v.state, one, of_row m function (kind_of o.id) v.state, few (belongs m function (kind_of o.id)) v.state m.obligations m.verdicts)

  -- ---- the same of lists of which something is left

  any_first : (os : List Obligation) (d e : Obligation) → 1 ≤ length os → get_or os 0 d ≡ get_or os 0 e
  any_first [] d e some = absurd (omega arith)
  any_first (o ∷ os) d e some = refl

  split : (rows : List Row) (os : List Obligation) (vs : List Verdict) (d : Obligation) (v : Verdict) → IsAt rows os vs → 1 ≤ length os → 1 ≤ length vs → v ≡ get_or vs 0 v
      → IsAt rows (get_or os 0 d ∷ take (length os - 1) (drop 1 os)) (v ∷ take (length vs - 1) (drop 1 vs))
  split rows os vs d v at some some_too is =
      let o : Obligation = get_or os 0 d in
      let whole : os ≡ o ∷ take (length os - 1) (drop 1 os) = first_is os o some (any_first os d o some) in
      let whole_too : vs ≡ v ∷ take (length vs - 1) (drop 1 vs) = first_is vs v some_too is in
      subst (λ (ws : List Verdict). IsAt rows (o ∷ take (length os - 1) (drop 1 os)) ws) whole_too (subst (λ (ps : List Obligation). IsAt rows ps vs) whole at)

  pub room_left : (rows : List Row) (os : List Obligation) (vs : List Verdict) (d : Obligation) (v : Verdict) → IsAt rows os vs → 1 ≤ length os → 1 ≤ length vs → v ≡ get_or vs 0 v
      → is_counted m (get_or os 0 d) ≡ true → function_of (names_of m) (get_or os 0 d).span.start < length rows
      → of_verdict v.state (of_kind (kind_of (get_or os 0 d).id) (get_or rows (function_of (names_of m) (get_or os 0 d).span.start) no_row)) + 1 ≤ length m.obligations
  room_left rows os vs d v at some some_too is chosen lt =
      room (get_or os 0 d) v (take (length os - 1) (drop 1 os)) (take (length vs - 1) (drop 1 vs)) rows (split rows os vs d v at some some_too is) chosen lt

  pub next_left : (rows more : List Row) (os : List Obligation) (vs : List Verdict) (d : Obligation) (v : Verdict) → IsAt rows os vs → 1 ≤ length os → 1 ≤ length vs → v ≡ get_or vs 0 v
      → is_counted m (get_or os 0 d) ≡ true → length more ≡ length rows
      → ((k : ℕ) → k < length rows → get_or more k no_row ≡ added (function_of (names_of m) (get_or os 0 d).span.start) (kind_of (get_or os 0 d).id) v.state k (get_or rows k no_row))
      → IsAt more (take (length os - 1) (drop 1 os)) (take (length vs - 1) (drop 1 vs))
  next_left rows more os vs d v at some some_too is chosen same turned =
      one_on (get_or os 0 d) v (take (length os - 1) (drop 1 os)) (take (length vs - 1) (drop 1 vs)) rows more (split rows os vs d v at some some_too is) chosen same turned

  pub out_left : (rows : List Row) (os : List Obligation) (vs : List Verdict) (d : Obligation) (v : Verdict) → IsAt rows os vs → 1 ≤ length os → 1 ≤ length vs → v ≡ get_or vs 0 v
      → is_counted m (get_or os 0 d) ≡ false → IsAt rows (take (length os - 1) (drop 1 os)) (take (length vs - 1) (drop 1 vs))
  out_left rows os vs d v at some some_too is out =
      left_out (get_or os 0 d) v (take (length os - 1) (drop 1 os)) (take (length vs - 1) (drop 1 vs)) rows (split rows os vs d v at some some_too is) out

  pub none_left : (rows : List Row) (os : List Obligation) (vs : List Verdict) → IsAt rows os vs → length os < 1 → AreRows m rows
  none_left rows [] vs at few = at_end rows vs at
  none_left rows (o ∷ os) vs at few = absurd (omega arith)

  -- by a number and a kind that the code has found
  pub room_for : (rows : List Row) (os : List Obligation) (vs : List Verdict) (d : Obligation) (v : Verdict) (function_found : ℕ) (kind : Kind) → IsAt rows os vs → 1 ≤ length os → 1 ≤ length vs → v ≡ get_or vs 0 v
      → is_counted m (get_or os 0 d) ≡ true → function_found ≡ function_of (names_of m) (get_or os 0 d).span.start → kind ≡ kind_of (get_or os 0 d).id → function_found < length rows
      → of_verdict v.state (of_kind kind (get_or rows function_found no_row)) + 1 ≤ length m.obligations
  room_for rows os vs d v function_found kind at some some_too is chosen same same_too lt =
      let room_there = room_left rows os vs d v at some some_too is chosen (subst (λ (k : ℕ). k < length rows) same lt) in
      subst (λ (k : Kind). of_verdict v.state (of_kind k (get_or rows function_found no_row)) + 1 ≤ length m.obligations) (sym same_too)
      (subst (λ (f : ℕ). of_verdict v.state (of_kind (kind_of (get_or os 0 d).id) (get_or rows f no_row)) + 1 ≤ length m.obligations) (sym same) room_there)

  pub next_for : (rows more : List Row) (os : List Obligation) (vs : List Verdict) (d : Obligation) (v : Verdict) (function_found : ℕ) (kind : Kind) → IsAt rows os vs → 1 ≤ length os → 1 ≤ length vs → v ≡ get_or vs 0 v
      → is_counted m (get_or os 0 d) ≡ true → function_found ≡ function_of (names_of m) (get_or os 0 d).span.start → kind ≡ kind_of (get_or os 0 d).id → length more ≡ length rows
      → ((k : ℕ) → k < length rows → get_or more k no_row ≡ added function_found kind v.state k (get_or rows k no_row))
      → IsAt more (take (length os - 1) (drop 1 os)) (take (length vs - 1) (drop 1 vs))
  next_for rows more os vs d v function_found kind at some some_too is chosen same same_too whole turned =
      next_left rows more os vs d v at some some_too is chosen whole (λ k lt.
      turned k lt
      ∙ ap (λ (f : ℕ). added f kind v.state k (get_or rows k no_row)) same
      ∙ ap (λ (n : Kind). added (function_of (names_of m) (get_or os 0 d).span.start) n v.state k (get_or rows k no_row)) same_too)
