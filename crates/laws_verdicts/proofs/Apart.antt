-- No two obligations of a map are one.
use Rattle.std.proofs.Common.{◌≡◌, ◌≢◌, ℕ, ◌+◌, ◌<◌, ◌≤◌, ◌^◌, true, false, List, [], ◌∷◌, ◌++◌, length, refl, sym, ap, subst, arith}
use Rattle.std.specs.Prelude.{zero, suc, All, AllPairs, get_or}
use Rattle.std.proofs.lemmas.List.Kept.{AllPairs-cons}
use Rattle.mc_limits.specs.Limits.{most_bits}
use Rattle.mc_span.specs.declared.span.Span.{Span}
use Rattle.mc_cond.specs.Tree.{size}
use Rattle.decide_rules.specs.Decisions.{Decision}
use Rattle.mc_probe.specs.Maps.{Map, Mapped, IsMap, ArePlaced, IsPlaced, first_path}
use Rattle.mc_oblige.specs.Ids.{id_text}
use Rattle.mc_oblige.specs.Obligations.{numbered, of_places, of_decision, of_decisions, obligations_of}
use Rattle.mc_oblige.specs.declared.obligation.Obligation.{Obligation}
use Rattle.mc_oblige.specs.declared.obligation.ObligationId.{ObligationId}
use Rattle.mc_oblige.specs.declared.obligation.ObligationId.TheVariants.{Entry, Exit, Statement, Label, Outcome, Condition}
use Rattle.mc_oblige.proofs.Bounds.{few_places}
use Rattle.laws_verdicts.specs.Names.{NamesAreApart}
use Rattle.laws_verdicts.proofs.Reading.{IsSmall, one_name}

-- ---- lists

abbrev Each : (Obligation → Type 0) → List Obligation → Type 0
Each P [] = Unit {0}
Each P (o ∷ os) = P o × Each P os

abbrev Apart : List Obligation → Type 0
Apart [] = Unit {0}
Apart (o ∷ os) = Each (λ b. o.id ≢ b.id) os × Apart os

each_from : (P Q : Obligation → Type 0) → ((o : Obligation) → P o → Q o) → (os : List Obligation) → Each P os → Each Q os
each_from P Q so [] are = tt
each_from P Q so (o ∷ os) are = (so o are.0, each_from P Q so os are.1)

each_join : (P : Obligation → Type 0) (xs ys : List Obligation) → Each P xs → Each P ys → Each P (xs ++ ys)
each_join P [] ys first later = later
each_join P (x ∷ xs) ys first later = (first.0, each_join P xs ys first.1 later)

each_at : (P : Obligation → Type 0) (os : List Obligation) (k : ℕ) (d : Obligation) → k < length os → Each P os → P (get_or os k d)
each_at P [] k d inside are = absurd (omega (arith, inside))
each_at P (o ∷ os) zero d inside are = are.0
each_at P (o ∷ os) (suc k) d inside are = each_at P os k d (omega (arith, inside)) are.1

-- ---- one part of the list after the other

-- entries, exits, statements, labels, and then each decision
abbrev part : ObligationId → ℕ
part (Entry k) = 0
part (Exit k) = 1
part (Statement k) = 2
part (Label k) = 3
part (Outcome d outcome) = 4 + d
part (Condition d k) = 4 + d

abbrev Below : ℕ → List Obligation → Type 0
Below n = Each (λ o. part o.id < n)

abbrev From : ℕ → List Obligation → Type 0
From n = Each (λ o. n ≤ part o.id)

apart_join : (n : ℕ) (xs ys : List Obligation) → Below n xs → From n ys → Apart xs → Apart ys → Apart (xs ++ ys)
apart_join n [] ys below from first later = later
apart_join n (x ∷ xs) ys below from first later =
    let other : (o : Obligation) → n ≤ part o.id → x.id ≢ o.id = λ o le same. omega (arith, below.0, le, ap part same) in (
      each_join (λ b. x.id ≢ b.id) xs ys first.0 (each_from (λ o. n ≤ part o.id) (λ b. x.id ≢ b.id) other ys from),
      apart_join n xs ys below.1 from first.1 later,
    )

-- ---- numbered places

abbrev number : ObligationId → ℕ
number (Entry k) = k
number (Exit k) = k
number (Statement k) = k
number (Label k) = k
number (Outcome d outcome) = 0
number (Condition d k) = k

module _ (id : ℕ → ObligationId) (own : (k : ℕ) → number (id k) ≡ k) where
  later_numbers : (low k : ℕ) (spans : List Span) → low < k → Each (λ o. id low ≢ o.id) (numbered id k spans)
  later_numbers low k [] less = tt
  later_numbers low k (span ∷ rest) less =
      ((λ same. omega (arith, less, own low, own k, ap number same)), later_numbers low (k + 1) rest (omega (arith, less)))

  numbers_apart : (k : ℕ) (spans : List Span) → Apart (numbered id k spans)
  numbers_apart k [] = tt
  numbers_apart k (span ∷ rest) = (later_numbers k (k + 1) rest (omega arith), numbers_apart (k + 1) rest)

each_numbered : (P : ObligationId → Type 0) (id : ℕ → ObligationId) (k most : ℕ) (spans : List Span) → ((i : ℕ) → i < most → P (id i)) → k + length spans ≤ most → Each (λ o. P o.id) (numbered id k spans)
each_numbered P id k most [] so few = tt
each_numbered P id k most (span ∷ rest) so few = (so k (omega (arith, few)), each_numbered P id (k + 1) most rest so (omega (arith, few)))

each_number : (P : ObligationId → Type 0) (id : ℕ → ObligationId) (spans : List Span) → ((i : ℕ) → P (id i)) → Each (λ o. P o.id) (numbered id 0 spans)
each_number P id spans so = each_numbered P id 0 (length spans) spans (λ i less. so i) (omega arith)

-- ---- decisions

decision_apart : (d : ℕ) (x : Decision) → Apart (of_decision d x)
decision_apart d x =
    let Not : ObligationId → ObligationId → Type 0 = λ a b. a ≢ b in (
      ((λ same. cc), each_number (Not (Outcome d true)) (Condition d) x.conditions (λ i same. cc)),
      (
        each_number (Not (Outcome d false)) (Condition d) x.conditions (λ i same. cc),
        numbers_apart (Condition d) (λ k. refl) 0 x.conditions,
      ),
    )

decision_below : (d : ℕ) (x : Decision) → Below (4 + (d + 1)) (of_decision d x)
decision_below d x = (omega arith, (omega arith, each_number (λ id. part id < 4 + (d + 1)) (Condition d) x.conditions (λ i. omega arith)))

decision_from : (low d : ℕ) (x : Decision) → low ≤ d → From (4 + low) (of_decision d x)
decision_from low d x le = (omega (arith, le), (omega (arith, le), each_number (λ id. 4 + low ≤ part id) (Condition d) x.conditions (λ i. omega (arith, le))))

decisions_from : (low d : ℕ) (xs : List Mapped) → low ≤ d → From (4 + low) (of_decisions d xs)
decisions_from low d [] le = tt
decisions_from low d (x ∷ xs) le =
    each_join (λ o. 4 + low ≤ part o.id) (of_decision d x.decision) (of_decisions (d + 1) xs) (decision_from low d x.decision le) (decisions_from low (d + 1) xs (omega (arith, le)))

decisions_apart : (d : ℕ) (xs : List Mapped) → Apart (of_decisions d xs)
decisions_apart d [] = tt
decisions_apart d (x ∷ xs) =
    apart_join (4 + (d + 1)) (of_decision d x.decision) (of_decisions (d + 1) xs) (decision_below d x.decision) (decisions_from (d + 1) (d + 1) xs (omega arith))
    (decision_apart d x.decision) (decisions_apart (d + 1) xs)

-- ---- all

module _ (m : Map) where
  abbrev entries : List Obligation
  entries = numbered Entry 0 m.entries

  abbrev exits : List Obligation
  exits = numbered Exit 0 m.exits

  abbrev statements : List Obligation
  statements = numbered Statement 0 m.statements

  abbrev labels : List Obligation
  labels = numbered Label 0 m.labels

  module _ (P : ObligationId → Type 0) where
    places_each : Each (λ o. P o.id) entries → Each (λ o. P o.id) exits → Each (λ o. P o.id) statements → Each (λ o. P o.id) labels → Each (λ o. P o.id) (of_places m)
    places_each first second third last =
        each_join (λ o. P o.id) entries (exits ++ (statements ++ labels)) first
        (each_join (λ o. P o.id) exits (statements ++ labels) second (each_join (λ o. P o.id) statements labels third last))

  places_below : Below 4 (of_places m)
  places_below =
      let P : ObligationId → Type 0 = λ id. part id < 4 in
      places_each P (each_number P Entry m.entries (λ i. omega arith)) (each_number P Exit m.exits (λ i. omega arith))
      (each_number P Statement m.statements (λ i. omega arith)) (each_number P Label m.labels (λ i. omega arith))

  places_apart : Apart (of_places m)
  places_apart =
      let label_from : (n : ℕ) → n ≤ 3 → From n labels = λ n le. each_number (λ id. n ≤ part id) Label m.labels (λ i. omega (arith, le)) in
      let statement_from : (n : ℕ) → n ≤ 2 → From n statements = λ n le. each_number (λ id. n ≤ part id) Statement m.statements (λ i. omega (arith, le)) in
      let exit_from : From 1 exits = each_number (λ id. 1 ≤ part id) Exit m.exits (λ i. omega arith) in
      let rest_from : (n : ℕ) → n ≤ 2 → From n (statements ++ labels) = λ n le. each_join (λ o. n ≤ part o.id) statements labels (statement_from n le) (label_from n (omega (arith, le))) in
      let last = apart_join 3 statements labels (each_number (λ id. part id < 3) Statement m.statements (λ i. omega arith)) (label_from 3 (omega arith)) (numbers_apart Statement (λ k. refl) 0 m.statements) (numbers_apart Label (λ k. refl) 0 m.labels) in
      let later = apart_join 2 exits (statements ++ labels) (each_number (λ id. part id < 2) Exit m.exits (λ i. omega arith)) (rest_from 2 (omega arith)) (numbers_apart Exit (λ k. refl) 0 m.exits) last in
      apart_join 1 entries (exits ++ (statements ++ labels)) (each_number (λ id. part id < 1) Entry m.entries (λ i. omega arith))
      (each_join (λ o. 1 ≤ part o.id) exits (statements ++ labels) exit_from (rest_from 1 (omega arith)))
      (numbers_apart Entry (λ k. refl) 0 m.entries) later

  all_apart : Apart (obligations_of m)
  all_apart = apart_join 4 (of_places m) (of_decisions 0 m.decisions) places_below (decisions_from 0 0 m.decisions (omega arith)) places_apart (decisions_apart 0 m.decisions)

-- ---- their numbers are small

abbrev Small : List Obligation → Type 0
Small = Each (λ o. IsSmall o.id)

decision_small : (d : ℕ) (x : Decision) → d < most_bits → IsPlaced x → Small (of_decision d x)
decision_small d x less placed =
    (omega (arith, less), (omega (arith, less), each_numbered IsSmall (Condition d) 0 64 x.conditions (λ i low. (omega (arith, less), omega (arith, low))) (omega (arith, placed.places, placed.numbered.few))))

decisions_small : (d : ℕ) (xs : List Mapped) → d + length xs ≤ most_bits → ArePlaced xs → Small (of_decisions d xs)
decisions_small d [] few placed = tt
decisions_small d (x ∷ xs) few placed =
    each_join (λ o. IsSmall o.id) (of_decision d x.decision) (of_decisions (d + 1) xs) (decision_small d x.decision (omega (arith, few)) placed.0) (decisions_small (d + 1) xs (omega (arith, few)) placed.1)

all_small : (m : Map) → IsMap m → Small (obligations_of m)
all_small m is =
    let few = few_places m is in
    let low : (i : ℕ) → i < most_bits → i + 1 < 2 ^ 64 = λ i less. omega (arith, less) in
    each_join (λ o. IsSmall o.id) (of_places m) (of_decisions 0 m.decisions)
    (places_each m IsSmall (each_numbered IsSmall Entry 0 most_bits m.entries low (omega (arith, few))) (each_numbered IsSmall Exit 0 most_bits m.exits low (omega (arith, few)))
    (each_numbered IsSmall Statement 0 most_bits m.statements low (omega (arith, few))) (each_numbered IsSmall Label 0 most_bits m.labels low (omega (arith, few))))
    (decisions_small 0 m.decisions (omega (arith, few)) is.placed)

-- ---- so no two names are one

names_apart : (os : List Obligation) → Small os → Apart os → AllPairs (λ a b. id_text a.id ≢ id_text b.id) os
names_apart [] small apart = λ i j d less inside. absurd (omega (arith, inside))
names_apart (o ∷ os) small apart =
    let R : Obligation → Obligation → Type 0 = λ a b. id_text a.id ≢ id_text b.id in
    let head : All (R o) os = λ k d inside. λ same. each_at (λ b. o.id ≢ b.id) os k d inside apart.0 (one_name o.id (get_or os k d).id small.0 (each_at (λ b. IsSmall b.id) os k d inside small.1) same) in
    AllPairs-cons R o os head (names_apart os small.1 apart.1)

pub names_are_apart : NamesAreApart
names_are_apart m is = names_apart (obligations_of m) (all_small m is) (all_apart m)
