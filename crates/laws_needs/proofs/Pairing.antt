-- One vector more: the chosen pair is the one that it makes with its partner.
use Rattle.std.proofs.Common.{◌≡◌, ℕ, ◌<◌, ◌≤◌, true, false, Option, Some, sym, subst, ◌∙◌, refl, arith, inl, inr, ◌⊎◌}
use Rattle.std.specs.Prelude.{slice_get, Contains}
use Rattle.mc_cond.specs.Tree.{Tree}
use Rattle.mc_cond.specs.Vectors.{Evaluation}
use Rattle.mc_paths.specs.Paths.{IsPath}
use Rattle.mc_paths.proofs.Numbers.{vector_once}
use Rattle.mc_core.specs.Matrix.{MatrixView}
use Rattle.mc_probe.specs.Maps.{Mapped, Map}
use Rattle.report_options.specs.declared.mode.Mode.{Mode}
use Rattle.mc_oblige.specs.declared.verdict.Evidence.{Evidence}
use Rattle.mc_oblige.specs.declared.verdict.Evidence.TheVariants.{Absent, One, Pair}
use Rattle.mc_oblige.specs.Shown.{HasEvent}
use Rattle.mc_oblige.specs.Evidence.{IsLeast, IsEvaluated, IsPair, NoPair, IsConditionEvidence}
use Rattle.needed_paths.specs.declared.need.Need.TheVariants.{Beside}
use Rattle.mc_needs.specs.Needs.{IsPairFor, IsHalfKnown, NeedsOne, IsSeen, IsConditionNeed}
use Rattle.mc_needs.proofs.One.{one_least}
use Rattle.mc_needs.proofs.Pairs.{any_order}
use Rattle.laws_needs.specs.Enough.{HasOneMore, OneGivesItsPair}

-- no vector is a pair with itself
pub not_itself : (mode : Mode) (t : Tree) (k p q : ℕ) → p ≡ q → ¬ IsPairFor mode t k p q
not_itself mode t k p q e h =
    let same : h.v ≡ h.w = vector_once t h.v h.w h.first_path.vector h.second_path.vector (h.first_path.number ∙ e ∙ sym h.second_path.number) in
    let P : Evaluation → Type 0 = λ v. slice_get v.answers k ≡ Some (Some true) in
    let f : Some (Some true) ≡ Some (Some false) = sym (subst P same h.shown.0) ∙ h.shown.1 in
    cc

least_both : (a b c e : ℕ) → (a < c) ⊎ ((a ≡ c) × (b ≤ e)) → (c < a) ⊎ ((c ≡ a) × (e ≤ b)) → (c ≡ a) × (e ≡ b)
least_both a b c e h g = elim h [
  | inl l ↦ elim g [ inl n ↦ absurd (omega (arith, l, n)) | inr n ↦ (let x = n.0 in absurd (omega (arith, l, x))) ]
  | inr l ↦ elim g [
    | inl n ↦ (let x = l.0 in absurd (omega (arith, n, x)))
    | inr n ↦ (n.0, (let x = l.1 in let y = n.1 in omega (arith, x, y)))
  ]
]

module _ (m : Map) (x y : MatrixView) (mode : Mode) (d k path partner least test : ℕ) (mapped : Mapped) (known : slice_get m.decisions d ≡ Some mapped)
    (missing : NoPair (HasEvent m x) mode d k mapped.decision.tree)
    (need : NeedsOne mode mapped.decision.tree k (IsSeen (HasEvent m x) m d) path partner)
    (tested : IsLeast (IsEvaluated (HasEvent m x) d mapped.decision.tree partner) least)
    (more : HasOneMore m x y d mapped.decision.tree path test) where
  abbrev t : Tree
  t = mapped.decision.tree

  abbrev Was : ℕ → ℕ → Type 0
  Was = IsEvaluated (HasEvent m x) d mapped.decision.tree

  abbrev Is : ℕ → ℕ → Type 0
  Is = IsEvaluated (HasEvent m y) d mapped.decision.tree

  abbrev Seen : ℕ → Type 0
  Seen = IsSeen (HasEvent m x) m d

  seen_by : (p u : ℕ) → Was p u → Seen p
  seen_by p u h = record { mapped = mapped; known = known; test = u; under = h }

  old_or_new : (p u : ℕ) → Is p u → Was p u ⊎ ((p ≡ path) × (u ≡ test))
  old_or_new p u h = elim ((more h.vector u).0 h.under) [
    | inl old ↦ inl (record { vector = h.vector; is_path = h.is_path; under = old })
    | inr new ↦ inr (sym h.is_path.number ∙ new.0.number, new.1)
  ]

  still : (p u : ℕ) → Was p u → Is p u
  still p u h = record { vector = h.vector; is_path = h.is_path; under = (more h.vector u).1 (inl h.under) }

  added : (v : Evaluation) → IsPath t path v → Is path test
  added v is = record { vector = v; is_path = is; under = (more v test).1 (inr (is, refl)) }

  now : Is path test
  now = elim need.least [ inl l ↦ added l.so.paired.v l.so.paired.first_path | inr l ↦ added l.so.paired.w l.so.paired.second_path ]

  partner_was : (u : ℕ) → Is partner u → Was partner u
  partner_was u h = elim (old_or_new partner u h) [ inl old ↦ old | inr new ↦ absurd (need.new (subst Seen new.0 need.old)) ]

  partner_now : Is partner least
  partner_now = still partner least tested.so

  test_is : (u : ℕ) → IsLeast (Is path) u → u ≡ test
  test_is u h = elim (old_or_new path u h.so) [ inl old ↦ absurd (need.new (seen_by path u old)) | inr new ↦ new.1 ]

  least_is : (u : ℕ) → IsLeast (Is partner) u → u ≡ least
  least_is u h =
      let own : IsLeast (Was partner) u = record { so = partner_was u h.so; none_before = λ w lt is. h.none_before w lt (still partner w is) } in
      one_least (Was partner) u least own tested

  module _ (first first_test second second_test : ℕ) (h : IsPair (HasEvent m y) mode d k mapped.decision.tree first first_test second second_test) where
    half : IsHalfKnown mode t k Seen first second
    half = record {
      paired = h.chosen.paired;
      half = elim (old_or_new first first_test h.first_least.so) [
        | inl one ↦ elim (old_or_new second second_test h.second_least.so) [
          | inl two ↦ absurd (missing first second first_test second_test one two (any_order mode t k first second h.chosen.paired))
          | inr new ↦ inl (seen_by first first_test one, λ s. need.new (subst Seen new.0 s))
        ]
        | inr new ↦ elim (old_or_new second second_test h.second_least.so) [
          | inl two ↦ inr (λ s. need.new (subst Seen new.0 s), seen_by second second_test two)
          | inr also ↦ absurd (not_itself mode t k first second (new.0 ∙ sym also.0) h.chosen.paired)
        ]
      ];
    }

    seen_path : Contains h.seen path
    seen_path = (h.are_seen.each path).1 (test, now)

    seen_partner : Contains h.seen partner
    seen_partner = (h.are_seen.each partner).1 (least, partner_now)

    module _ (p q s u : ℕ) (e : first ≡ p) (f : second ≡ q) where
      same_pair : (IsLeast (Is p) first_test → first_test ≡ s) → (IsLeast (Is q) second_test → second_test ≡ u)
          → Pair first first_test second second_test ≡ Pair p s q u
      same_pair one two =
          let P : ℕ → Type 0 = λ n. IsLeast (Is n) first_test in
          let Q : ℕ → Type 0 = λ n. IsLeast (Is n) second_test in
          let a : first_test ≡ s = one (subst P e h.first_least) in
          let b : second_test ≡ u = two (subst Q f h.second_least) in
          λ i. Pair (e i) (a i) (f i) (b i)

    the_pair : (Pair first first_test second second_test ≡ Pair path test partner least) ⊎ (Pair first first_test second second_test ≡ Pair partner least path test)
    the_pair = elim need.least [
      | inl l ↦
          (let same = least_both path partner first second (l.least first second half) (h.chosen.least path partner seen_path seen_partner l.so.paired) in
          inl (same_pair path partner test least same.0 same.1 (test_is first_test) (least_is second_test)))
      | inr l ↦
          (let same = least_both partner path first second (l.least first second half) (h.chosen.least partner path seen_partner seen_path l.so.paired) in
          inr (same_pair partner path least test same.0 same.1 (least_is first_test) (test_is second_test)))
    ]

  never_absent : NoPair (HasEvent m y) mode d k t → ⊥
  never_absent none = elim need.least [
    | inl l ↦ none path partner test least now partner_now (any_order mode t k path partner l.so.paired)
    | inr l ↦ none partner path least test partner_now now (any_order mode t k partner path l.so.paired)
  ]

  is_the_pair : (e : Evidence) → IsConditionEvidence (HasEvent m y) mode d k (Some mapped) e → (e ≡ Pair path test partner least) ⊎ (e ≡ Pair partner least path test)
  is_the_pair Absent h = absurd (never_absent h)
  is_the_pair (One u) h = absurd h
  is_the_pair (Pair first first_test second second_test) h = the_pair first first_test second second_test h

pub one_gives_its_pair : OneGivesItsPair
one_gives_its_pair m x y mode d k path partner least test mapped evidence known missing need more h =
    let P : Option Mapped → Type 0 = λ o. IsConditionEvidence (HasEvent m x) mode d k o Absent in
    let Q : Option Mapped → Type 0 = λ o. IsConditionNeed (HasEvent m x) m mode d k o (Beside path partner least) in
    let R : Option Mapped → Type 0 = λ o. IsConditionEvidence (HasEvent m y) mode d k o evidence in
    let own = subst Q known need in
    is_the_pair m x y mode d k path partner least test mapped known (subst P known missing) own.0 own.1 more evidence (subst R known h)
