-- What is known of the obligations of a decision, one after the other.
use Rattle.std.proofs.Common.{◌≡◌, ◌∙◌, ◌+◌, ◌<◌, ◌≤◌, ◌++◌, ◌%◌, ℕ, Bool, true, false, List, [], ◌∷◌, length, get_or, refl, sym, subst, arith, inl, inr}
use Rattle.std.specs.Prelude.{◌↔◌, Contains}
use Rattle.std.specs.Int.{bit_at}
use Rattle.std.proofs.lemmas.Bool.{cases_lt}
use Rattle.std.proofs.lemmas.List.{get_or_append_left, get_or_push, length_push}
use Rattle.mc_cond.specs.Tree.{Tree, size}
use Rattle.mc_paths.specs.Paths.{count_of}
use Rattle.report_options.specs.declared.mode.Mode.{Mode}
use Rattle.mc_reduce.specs.steps.Bits.{ShowAt}
use Rattle.mc_reduce.specs.steps.Counts.{HasCounts, IsSingle}
use Rattle.mc_reduce.specs.steps.Loss.{IsCounted, IsLeft, along, ArePathsOn, AreKnown, AreShownFrom, IsFirstAt, NoneAt, IsFirstOf, NoneOf, AreTrueFrom}
use Rattle.mc_reduce.proofs.Counting.{bit_is_one}
use Rattle.mc_reduce.proofs.Losing.{others_left}
use Rattle.mc_reduce.proofs.Seeing.{show_too}

-- ---- lists of what is known

module _ (is : ℕ → Type 0) where
  pub none_known : AreKnown is 0 []
  none_known = record { count = refl; each = λ i lt. absurd (omega (arith, lt)) }

  pub known_next : (n : ℕ) (known : List Bool) (v : Bool) → AreKnown is n known → ((v ≡ true) ↔ is n) → AreKnown is (n + 1) (known ++ v ∷ [])
  known_next n known v h own = record {
    count = (let e = length_push known v in let f = h.count in omega (arith, e, f));
    each = λ i lt. elim (cases_lt i n) [
      | inl less ↦
          (let same : get_or (known ++ v ∷ []) i false ≡ get_or known i false = get_or_append_left known (v ∷ []) false i (let f = h.count in omega (arith, less, f)) in
          subst (λ (b : Bool). (b ≡ true) ↔ is i) (sym same) (h.each i less))
      | inr more ↦
          (let last : n ≡ i = omega (arith, lt, more) in
          let same : get_or (known ++ v ∷ []) i false ≡ v = get_or_push known v false i (h.count ∙ last) in
          subst (λ (b : Bool). (b ≡ true) ↔ is i) (sym same) (subst (λ (k : ℕ). (v ≡ true) ↔ is k) last own))
    ];
  }

-- ---- the paths that are seen

module _ (on : ℕ → Type 0) (mode : Mode) (tree : Tree) (n : ℕ) (seen : List ℕ) (are : ArePathsOn on n seen) (whole : n ≡ count_of tree) where
  pub seen_shows : (at : ℕ) → ShowAt on mode tree at → ShowAt (Contains seen) mode tree at
  seen_shows at h = show_too on (Contains seen) mode tree (λ p lt is. (are.each p).1 (omega (arith, lt, whole), is)) at h

  pub shows_seen : (at : ℕ) → ShowAt (Contains seen) mode tree at → ShowAt on mode tree at
  shows_seen at h = show_too (Contains seen) on mode tree (λ p lt is. ((are.each p).0 is).1) at h

  pub shown_next : (at : ℕ) (v : Bool) → ((v ≡ true) ↔ ShowAt (Contains seen) mode tree at) → (v ≡ true) ↔ ShowAt on mode tree at
  shown_next at v h = (λ e. shows_seen at (h.0 e), λ s. h.1 (seen_shows at s))

-- ---- bits that only the test has

module _ (test : ℕ) (counts words : List ℕ) (fit : HasCounts test counts words) where
  pub still_left : (b : ℕ) → b < length counts → ¬ IsSingle test counts words b → IsCounted counts b → IsLeft test counts words b
  still_left b lt not some =
      others_left (get_or counts b 0) (bit_at (get_or words b 0) (test % 64)) (fit.each b lt)
      (elim (bit_is_one (get_or words b 0) (test % 64)) [ inl clear ↦ omega (arith, clear) | inr held ↦ omega (arith, held) ])
      (λ h. not record { one = h.0; own = h.1 }) some

  -- where the test is alone on no path of the decision, nothing is lost there
  pub none_alone : (mode : Mode) (tree : Tree) (base : ℕ) → base + count_of tree ≤ length counts → ((c : ℕ) → base ≤ c → c < base + count_of tree → ¬ IsSingle test counts words c)
      → NoneAt (along (IsCounted counts) base) (along (IsLeft test counts words) base) mode tree
  none_alone mode tree base room none at lt shown =
      show_too (along (IsCounted counts) base) (along (IsLeft test counts words) base) mode tree
      (λ p less is. still_left (base + p) (omega (arith, less, room)) (none (base + p) (omega arith) (omega (arith, less))) is) at shown

-- ---- one obligation of a decision after the other

pub none_next : (is also : ℕ → Type 0) (n : ℕ) → NoneOf is also n → (is n → also n) → NoneOf is also (n + 1)
none_next is also n before own b lt so = elim (cases_lt b n) [
  | inl less ↦ before b less so
  | inr more ↦ (let same : n ≡ b = omega (arith, lt, more) in subst (λ (k : ℕ). also k) same (own (subst (λ (k : ℕ). is k) (sym same) so)))
]

module _ (on left : ℕ → Type 0) (mode : Mode) (tree : Tree) (position : ℕ) (shown : List Bool) (from : AreShownFrom on mode tree position shown) (n : ℕ) (seen : List ℕ) (are : ArePathsOn left n seen) (whole : n ≡ count_of tree) where
  pub first_at : (at : ℕ) → IsFirstOf (AreTrueFrom shown position) (ShowAt (Contains seen) mode tree) (2 + size tree) at → IsFirstAt on left mode tree at
  first_at at h = record {
    within = h.within;
    shown = (from.each at h.within).0 h.so;
    missed = λ s. h.not_also (seen_shows left mode tree n seen are whole at s);
    none_before = λ b less s. shows_seen left mode tree n seen are whole b (h.none_before b less ((from.each b (let lt = h.within in omega (arith, less, lt))).1 s));
  }

  pub none_at : NoneOf (AreTrueFrom shown position) (ShowAt (Contains seen) mode tree) (2 + size tree) → NoneAt on left mode tree
  none_at h b lt s = shows_seen left mode tree n seen are whole b (h b lt ((from.each b lt).1 s))
