-- The first obligation that is lost, in the order of the obligations.
use Rattle.std.proofs.Common.{◌≡◌, ◌∙◌, ◌+◌, ◌-◌, ◌<◌, ◌≤◌, ℕ, Some, length, sym, ap, subst, arith, inl, inr}
use Rattle.std.specs.Prelude.{slice_get}
use Rattle.std.proofs.lemmas.Bool.{cases_lt}
use Rattle.std.proofs.lemmas.Option.{slice_get_within}
use Rattle.mc_cond.specs.Tree.{Tree, size}
use Rattle.mc_probe.specs.Maps.{Mapped, Map, first_path}
use Rattle.report_options.specs.declared.mode.Mode.{Mode}
use Rattle.mc_oblige.specs.declared.obligation.Obligation.{Obligation}
use Rattle.mc_oblige.specs.declared.obligation.ObligationId.{ObligationId}
use Rattle.mc_oblige.specs.Obligations.{obligations_of}
use Rattle.mc_reduce.specs.steps.Bits.{See, ShowAt}
use Rattle.mc_reduce.specs.steps.Loss.{IsFirstAt, NoneAt, IsFirstMissed, NoneMissed}
use Rattle.mc_reduce.proofs.Positions.{IsAt, id_of, bit_of_position, count_first, decision_at, length_all}
use Rattle.mc_reduce.proofs.Seeing.{shows_there, shows_back}

module _ (m : Map) (mode : Mode) (on left : ℕ → Type 0) where
  -- none of the obligations before a position is lost
  abbrev pub NoneBefore : ℕ → Type 0
  NoneBefore position = (q : ℕ) (o : Obligation) → q < position → slice_get (obligations_of m) q ≡ Some o → See on m mode o.id → See left m mode o.id

  -- what stands at a position has the name that is known of it
  pub named : (q : ℕ) (o : Obligation) (id : ObligationId) → IsAt (obligations_of m) q id → slice_get (obligations_of m) q ≡ Some o → o.id ≡ id
  named q o id h there =
      let same : Some o ≡ Some h.obligation = sym there ∙ h.there in
      let one : o ≡ h.obligation = cc in
      ap (λ (p : Obligation). p.id) one ∙ h.named

  -- an obligation of one bit
  bit_left : (q : ℕ) (o : Obligation) → q < first_path m → slice_get (obligations_of m) q ≡ Some o → (on q → left q) → See on m mode o.id → See left m mode o.id
  bit_left q o lt there keeps shown =
      let h = bit_of_position m q lt in
      let name = named q o h.id h.at there in
      subst (λ (id : ObligationId). See left m mode id) (sym name)
      (h.of_bit.back left mode (keeps (h.of_bit.forth on mode (subst (λ (id : ObligationId). See on m mode id) name shown))))

  pub bits_left : ((b : ℕ) → b < first_path m → on b → left b) → NoneBefore (first_path m)
  bits_left keeps q o lt there shown = bit_left q o lt there (keeps q lt) shown

  pub bit_missed : (b : ℕ) → b < first_path m → on b → ¬ left b → ((c : ℕ) → c < b → on c → left c) → IsFirstMissed m mode on left b
  bit_missed b lt is not before =
      let h = bit_of_position m b lt in
      record {
        obligation = h.at.obligation;
        at = h.at.there;
        shown = subst (λ (id : ObligationId). See on m mode id) (sym h.at.named) (h.of_bit.back on mode is);
        missed = λ seen. not (h.of_bit.forth left mode (subst (λ (id : ObligationId). See left m mode id) h.at.named seen));
        none_before = λ q o less there shown. bit_left q o (omega (arith, less, lt)) there (before q less) shown;
      }

  -- ---- the obligations of a decision

  module _ (d : ℕ) (mapped : Mapped) (known : slice_get m.decisions d ≡ Some mapped) (whole : length mapped.decision.conditions ≡ size mapped.decision.tree) where
    abbrev tree : Tree
    tree = mapped.decision.tree

    abbrev along : (ℕ → Type 0) → ℕ → Type 0
    along bits p = bits (mapped.base + p)

    abbrev first : ℕ
    first = first_path m + count_first d m.decisions

    own : (at : ℕ) → at < 2 + size tree → IsAt (obligations_of m) (first + at) (id_of d at)
    own at lt = decision_at m d mapped at (first + at) known (omega (arith, lt, whole)) (omega arith)

    own_left : (at : ℕ) (o : Obligation) → at < 2 + size tree → slice_get (obligations_of m) (first + at) ≡ Some o → (ShowAt (along on) mode tree at → ShowAt (along left) mode tree at) → See on m mode o.id → See left m mode o.id
    own_left at o lt there keeps shown =
        let name = named (first + at) o (id_of d at) (own at lt) there in
        subst (λ (id : ObligationId). See left m mode id) (sym name)
        (shows_back left m mode d mapped known at (keeps (shows_there on m mode d mapped known at (subst (λ (id : ObligationId). See on m mode id) name shown))))

    more_left : (n : ℕ) → n ≤ 2 + size tree → NoneBefore first → ((at : ℕ) → at < n → ShowAt (along on) mode tree at → ShowAt (along left) mode tree at) → NoneBefore (first + n)
    more_left n le before keeps q o lt there shown = elim (cases_lt q first) [
      | inl less ↦ before q o less there shown
      | inr more ↦
          (let at : ℕ = q - first in
          let e : first + at ≡ q = omega (arith, more) in
          let within : at < n = omega (arith, lt, e) in
          own_left at o (omega (arith, within, le)) (subst (λ (k : ℕ). slice_get (obligations_of m) k ≡ Some o) (sym e) there) (keeps at within) shown)
    ]

    pub decision_left : NoneBefore first → NoneAt (along on) (along left) mode tree → NoneBefore (first + (2 + size tree))
    decision_left before none = more_left (2 + size tree) (omega arith) before none

    pub decision_missed : NoneBefore first → (at : ℕ) → IsFirstAt (along on) (along left) mode tree at → IsFirstMissed m mode on left (first + at)
    decision_missed before at h =
        let there = own at h.within in
        record {
          obligation = there.obligation;
          at = there.there;
          shown = subst (λ (id : ObligationId). See on m mode id) (sym there.named) (shows_back on m mode d mapped known at h.shown);
          missed = λ seen. h.missed (shows_there left m mode d mapped known at (subst (λ (id : ObligationId). See left m mode id) there.named seen));
          none_before = more_left at (let lt = h.within in omega (arith, lt)) before h.none_before;
        }

  -- ---- at the end

  pub none_missed : (position : ℕ) → position ≡ first_path m + count_first (length m.decisions) m.decisions → NoneBefore position → NoneMissed m mode on left
  none_missed position all before q o there shown =
      let within = slice_get_within (obligations_of m) q o there in
      before q o (omega (arith, all, within, length_all m)) there shown

-- ---- bits that only the test has

pub single_counted : (count own : ℕ) → count ≡ 1 → own ≡ 1 → (0 < count) × ¬ (own < count)
single_counted count own one is = (omega (arith, one), λ lt. omega (arith, lt, one, is))

pub others_left : (count own : ℕ) → own ≤ count → own < 2 → ¬ ((count ≡ 1) × (own ≡ 1)) → 0 < count → own < count
others_left count own le small not some = elim (cases_lt own count) [
  | inl less ↦ less
  | inr more ↦ absurd (not (omega (arith, le, small, some, more), omega (arith, le, small, some, more)))
]
