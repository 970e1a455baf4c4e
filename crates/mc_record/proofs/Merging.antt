-- Two records that are joined keep what a record has to keep.
use Rattle.std.proofs.Common.{◌≡◌, ◌≢◌, ◌∙◌, ◌+◌, ◌≤◌, ℕ, Bool, true, false, not, nat_lt, List, [], ◌∷◌, ◌++◌, length, Option, Some, None, refl, sym, ap, subst, arith, inl, inr, append_assoc, length-append}
use Rattle.std.specs.Prelude.{All}
use Rattle.std.specs.List.{list_all, list_any}
use Rattle.std.specs.Str.{bytes_eq}
use Rattle.std.proofs.lemmas.Bool.{cases_Bool}
use Rattle.std.proofs.lemmas.Bool.Decides.{nat_tests}
use Rattle.std.proofs.lemmas.List.{append-nil}
use Rattle.std.proofs.lemmas.List.Elements.{All-append}
use Rattle.std.proofs.lemmas.List.Folds.{list_all-append}
use Rattle.mc_limits.specs.Limits.{most_tests, most_words}
use Rattle.mc_core.specs.Merged.{words_of_both}
use Rattle.mc_core.specs.Shape.{word_count}
use Rattle.mc_core.specs.declared.shape.Shape.{Shape}
use Rattle.csv_records.specs.Names.{is_name}
use Rattle.mc_typed.specs.declared.plans.Ending.TheVariants.{Returned}
use Rattle.mc_typed.specs.declared.plans.TestState.TheVariants.{Ended}
use Rattle.mc_record.specs.Kept.{Kept, IsKept, are_distinct}
use Rattle.mc_record.specs.Merged.{IsMerged, fault_or, pair_fault, place_from, place_of, same_from, same_or, same_test, size_fault}
use Rattle.mc_record.specs.declared.pair_fault.PairFault.{PairFault}
use Rattle.mc_record.specs.declared.pair_fault.PairFault.TheVariants as fault
use Rattle.mc_record.proofs.Numbers.{and_parts}
use Rattle.mc_record.proofs.TestLines.{are_new, distinct_new, eq_swapped, new_more}

-- ---- no name in both

no_place : (k : ℕ) (names : List (List ℕ)) (name : List ℕ) → place_from k names name ≡ None → list_any (bytes_eq name) names ≡ false
no_place k [] name is = refl
no_place k (n ∷ names) name is = elim (cases_Bool (bytes_eq n name)) [
  | inl same ↦ absurd (cc (rw same at is))
  | inr differ ↦ rw (eq_swapped name n, differ) (no_place (k + 1) names name (rw differ at is))
]

none_same : (left : List (List ℕ)) (k : ℕ) (right : List (List ℕ)) → same_from left k right ≡ None → are_new left right ≡ true
none_same left k [] is = refl
none_same left k (name ∷ right) is = by_place (place_of left name) refl is (none_same left (k + 1) right)
  where
    by_place : (o : Option ℕ) → place_of left name ≡ o → same_or k o (same_from left (k + 1) right) ≡ None → (same_from left (k + 1) right ≡ None → are_new left right ≡ true) → are_new left (name ∷ right) ≡ true
    by_place (Some place) there found later = absurd (cc found)
    by_place None there found later = rw (no_place 0 left name there) (later found)

is_not : (a : Bool) → not a ≡ true → a ≡ false
is_not true is = cc
is_not false is = refl

joined_distinct : (left right : List (List ℕ)) → are_distinct left ≡ true → are_distinct right ≡ true → are_new left right ≡ true → are_distinct (left ++ right) ≡ true
joined_distinct left [] first second new = ap are_distinct (append-nil left) ∙ first
joined_distinct left (n ∷ right) first second new =
    let apart = and_parts (not (list_any (bytes_eq n) right)) (are_distinct right) second in
    let fresh = and_parts (not (list_any (bytes_eq n) left)) (are_new left right) new in
    let here = distinct_new left n first (is_not (list_any (bytes_eq n) left) fresh.0) in
    ap are_distinct (sym (append_assoc left (n ∷ []) right))
    ∙ joined_distinct (left ++ n ∷ []) right here apart.1 (new_more left n right fresh.1 apart.0)

-- ---- the faults

pub same_fault : (left right : Kept) (l r : ℕ) → same_test left.names right.names ≡ Some (l, r) → pair_fault left right ≡ Some (fault.SameTest l r)
same_fault left right l r is = ap (λ (o : Option (ℕ × ℕ)). fault_or o (size_fault left right)) is

pub other_fault : (left right : Kept) (o : Option PairFault) → same_test left.names right.names ≡ None → size_fault left right ≡ o → pair_fault left right ≡ o
other_fault left right o none is = ap (λ (s : Option (ℕ × ℕ)). fault_or s (size_fault left right)) none ∙ is

small : (left right : Kept) → size_fault left right ≡ None → (left.matrix.shape.tests + right.matrix.shape.tests ≤ most_tests) × (words_of_both left.matrix right.matrix ≤ most_words)
small left right is = elim (cases_Bool (nat_lt most_tests (left.matrix.shape.tests + right.matrix.shape.tests))) [
  | inl many ↦ absurd (cc (rw many at is))
  | inr few ↦ elim (cases_Bool (nat_lt most_words (words_of_both left.matrix right.matrix))) [
    | inl large ↦ absurd (cc (rw (few, large) at is))
    | inr fits ↦ (grind (arith, nat_tests), grind (arith, nat_tests))
  ]
]

-- ---- what comes of it

pub merged_kept : (left right both : Kept) → IsKept left → IsKept right → same_test left.names right.names ≡ None → size_fault left right ≡ None → IsMerged left right both → IsKept both
merged_kept left right both first second none fits are =
    let sizes = small left right fits in
    let bits : both.matrix.shape.bits ≡ left.matrix.shape.bits = ap (λ (s : Shape). s.bits) are.shape in
    let tests : both.matrix.shape.tests ≡ left.matrix.shape.tests + right.matrix.shape.tests = ap (λ (s : Shape). s.tests) are.shape in
    record {
      names = omega (arith, ap length are.names, length-append left.names right.names, first.names, second.names, tests);
      states = omega (arith, ap length are.states, length-append left.states right.states, first.states, second.states, tests);
      named = ap (list_all is_name) are.names ∙ list_all-append is_name left.names right.names ∙ rw (first.named, second.named) refl;
      distinct = ap are_distinct are.names ∙ joined_distinct left.names right.names first.distinct second.distinct (none_same left.names 0 right.names none);
      judged = subst (All (λ s. s ≢ Ended Returned)) (sym are.states) (All-append (λ s. s ≢ Ended Returned) left.states right.states first.judged second.judged);
      few_bits = omega (arith, bits, first.few_bits);
      few_tests = omega (arith, tests, sizes.0);
      few_words = omega (arith, ap word_count are.shape, sizes.1);
    }
