-- What is needed speaks of the known vectors, and of nothing else: where two facts hold of the same
-- vectors, the needs are the same.
use Rattle.std.proofs.Common.{ℕ, ◌<◌, Bool, List, [], ◌∷◌, inl, inr}
use Rattle.std.specs.Prelude.{◌↔◌}
use Rattle.mc_cond.specs.Tree.{Tree}
use Rattle.mc_paths.specs.Paths.{count_of}
use Rattle.mc_paths.proofs.Numbers.{in_use_below}
use Rattle.report_options.specs.declared.mode.Mode.{Mode}
use Rattle.mc_needs.specs.Needs.{Gives, IsUnpaired, IsLeastPair, IsHalfKnown, NeedsOne, NeedsTwo}
use Rattle.mc_needs.specs.Wanted.{PutsForCondition, met, one, two, PutsForOutcome, had, new}
use Rattle.mc_needs.proofs.Pairs.{below_first, below_second}

pub gives_below : (t : Tree) (outcome : Bool) (p : ℕ) → Gives t outcome p → p < count_of t
gives_below t outcome p h = in_use_below t p (h.v, h.is_path)

module _ (mode : Mode) (t : Tree) (k : ℕ) (known other : ℕ → Type 0) (same : (p : ℕ) → p < count_of t → known p ↔ other p) where
  half : (p q : ℕ) → IsHalfKnown mode t k known p q → IsHalfKnown mode t k other p q
  half p q h =
      let first = same p (below_first mode t k p q h.paired) in
      let second = same q (below_second mode t k p q h.paired) in
      record {
        paired = h.paired;
        half = elim h.half [
          | inl x ↦ inl (first.0 x.0, λ y. x.1 (second.1 y))
          | inr x ↦ inr (λ y. x.0 (first.1 y), second.0 x.1)
        ];
      }

  back : (p q : ℕ) → IsHalfKnown mode t k other p q → IsHalfKnown mode t k known p q
  back p q h =
      let first = same p (below_first mode t k p q h.paired) in
      let second = same q (below_second mode t k p q h.paired) in
      record {
        paired = h.paired;
        half = elim h.half [
          | inl x ↦ inl (first.1 x.0, λ y. x.1 (second.0 y))
          | inr x ↦ inr (λ y. x.0 (first.0 y), second.1 x.1)
        ];
      }

  least : (p q : ℕ) → IsLeastPair (IsHalfKnown mode t k known) p q → IsLeastPair (IsHalfKnown mode t k other) p q
  least p q h = record { so = half p q h.so; least = λ x y is. h.least x y (back x y is) }

  one_moved : (path partner : ℕ) → path < count_of t → partner < count_of t → NeedsOne mode t k known path partner → NeedsOne mode t k other path partner
  one_moved path partner below under h = record {
    new = λ x. h.new ((same path below).1 x);
    old = (same partner under).0 h.old;
    least = elim h.least [ inl x ↦ inl (least path partner x) | inr x ↦ inr (least partner path x) ];
  }

  pub needs_one : (path partner : ℕ) → NeedsOne mode t k known path partner → NeedsOne mode t k other path partner
  needs_one path partner h = elim h.least [
    | inl x ↦ one_moved path partner (below_first mode t k path partner x.so.paired) (below_second mode t k path partner x.so.paired) h
    | inr x ↦ one_moved path partner (below_second mode t k partner path x.so.paired) (below_first mode t k partner path x.so.paired) h
  ]

  pub needs_two : (first second : ℕ) → NeedsTwo mode t k known first second → NeedsTwo mode t k other first second
  needs_two first second h = record { none = λ p q is. h.none p q (back p q is); least = h.least }

  pub unpaired : IsUnpaired mode t k known → IsUnpaired mode t k other
  unpaired h p q first second pair =
      h p q ((same p (below_first mode t k p q pair)).1 first) ((same q (below_second mode t k p q pair)).1 second) pair

  pub puts_for_condition : (paths : List ℕ) → PutsForCondition mode t k known paths → PutsForCondition mode t k other paths
  puts_for_condition [] (met {p} {q} first second pair) =
      met ((same p (below_first mode t k p q pair)).0 first) ((same q (below_second mode t k p q pair)).0 second) pair
  puts_for_condition (_ ∷ []) (one {path} {partner} none need) = one (unpaired none) (needs_one path partner need)
  puts_for_condition (_ ∷ _ ∷ []) (two {first} {second} none need) = two (unpaired none) (needs_two first second need)
  puts_for_condition (_ ∷ _ ∷ _ ∷ _) h = elim h [ ]

  pub puts_for_outcome : (outcome : Bool) (paths : List ℕ) → PutsForOutcome t outcome known paths → PutsForOutcome t outcome other paths
  puts_for_outcome outcome [] (had {p} has gives) = had ((same p (gives_below t outcome p gives)).0 has) gives
  puts_for_outcome outcome (_ ∷ []) (new {path} none first) = new (λ p has gives. none p ((same p (gives_below t outcome p gives)).1 has) gives) first
  puts_for_outcome outcome (_ ∷ _ ∷ _) h = elim h [ ]
