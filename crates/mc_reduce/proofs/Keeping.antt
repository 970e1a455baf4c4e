-- The tests that are kept are enough, and they are the only ones.
use Rattle.std.proofs.Common.{◌≡◌, ◌∙◌, ◌<◌, ℕ, zero, suc, List, [], ◌∷◌, length, get_or, refl, sym, ap, subst, arith, inl, inr, ◌⊎◌}
use Rattle.std.specs.Prelude.{Contains}
use Rattle.std.specs.List.{AllZip}
use Rattle.std.proofs.lemmas.Bool.{cases_lt}
use Rattle.mc_steps.specs.Events.{Event}
use Rattle.mc_probe.specs.Maps.{Map}
use Rattle.report_options.specs.declared.mode.Mode.{Mode}
use Rattle.mc_reduce.specs.Kept.{AreEnough, IsStillKept, Leaves, AreKept, IsOther, IsFirstLost, IsReduced}
use Rattle.mc_reduce.specs.Laws.{ShowTheSame}
use Rattle.mc_reduce.proofs.Showing.{more_kept, all_show, shown_by_each}

first_of : (xs : List ℕ) (y : ℕ) → Contains (y ∷ xs) y
first_of xs y = (0, omega arith, refl)

later_of : (xs : List ℕ) (y z : ℕ) → Contains xs z → Contains (y ∷ xs) z
later_of xs y z h = (suc h.0, (let lt = h.1 in omega (arith, lt)), h.2)

pub at_place : (u t : ℕ) (ts : List ℕ) (k : ℕ) → k < length (u ∷ ts) → get_or (u ∷ ts) k t ≡ t → (t ≡ u) ⊎ Contains ts t
at_place u t ts zero lt e = inl (sym e)
at_place u t ts (suc k) lt e = inr (k, omega (arith, lt), e)

module _ (stands : Event → ℕ → Type 0) (m : Map) (mode : Mode) where
  more_enough : (keeps also : ℕ → Type 0) → ((t : ℕ) → keeps t → also t) → AreEnough stands m mode keeps → AreEnough stands m mode also
  more_enough keeps also more enough = λ o listed shown. more_kept stands m mode keeps also more o.id (enough o listed shown)

  -- a test that stays
  pub still_stays : (n : ℕ) (stayed : List ℕ) (t : ℕ) → IsStillKept (suc n) stayed t → IsStillKept n (n ∷ stayed) t
  still_stays n stayed t is = elim is [
    | inl below ↦ elim (cases_lt t n) [
      | inl less ↦ inl less
      | inr more ↦ inr (let same : n ≡ t = omega (arith, below, more) in subst (λ (u : ℕ). Contains (n ∷ stayed) u) same (first_of stayed n))
    ]
    | inr own ↦ inr (later_of stayed n t own)
  ]

  none_left : (stayed kept : List ℕ) → kept ≡ stayed → (t : ℕ) → IsStillKept 0 stayed t → Contains kept t
  none_left stayed kept same t is = elim is [
    | inl below ↦ absurd (omega (arith, below))
    | inr own ↦ subst (λ (ts : List ℕ). Contains ts t) (sym same) own
  ]

  enough : (n : ℕ) (stayed kept : List ℕ) → Leaves stands m mode n stayed kept → AreEnough stands m mode (IsStillKept n stayed) → AreEnough stands m mode (Contains kept)
  enough zero stayed kept same so = more_enough (IsStillKept 0 stayed) (Contains kept) (none_left stayed kept same) so
  enough (suc n) stayed kept leaves so = elim leaves [
    | inl dropped ↦ enough n stayed kept dropped.1 dropped.0
    | inr stayed_too ↦ enough n (n ∷ stayed) kept stayed_too.1 (more_enough (IsStillKept (suc n) stayed) (IsStillKept n (n ∷ stayed)) (still_stays n stayed) so)
  ]

  pub all_enough : (tests : ℕ) → ((e : Event) (t : ℕ) → stands e t → t < tests) → AreEnough stands m mode (IsStillKept tests [])
  all_enough tests low = λ o listed shown. shown_by_each stands m mode (IsStillKept tests []) (λ e t s. inl (low e t s)) o.id shown

  pub kept_enough : (tests : ℕ) (kept : List ℕ) → ((e : Event) (t : ℕ) → stands e t → t < tests) → AreKept stands m mode tests kept → AreEnough stands m mode (Contains kept)
  kept_enough tests kept low are = enough tests [] kept are (all_enough tests low)

  pub kept_show : (tests : ℕ) (kept : List ℕ) → ((e : Event) (t : ℕ) → stands e t → t < tests) → AreKept stands m mode tests kept → ShowTheSame stands m mode kept
  kept_show tests kept low are o listed = (
    λ shown. kept_enough tests kept low are o listed shown,
    λ shown. all_show stands m mode (Contains kept) o.id shown,
  )

  -- ---- a kept test is needed

  either : (n t : ℕ) (stayed : List ℕ) → Contains (n ∷ stayed) t → (t ≡ n) ⊎ Contains stayed t
  either n t stayed h = at_place n t stayed h.0 h.1 h.2

  -- what is kept was still kept before
  pub kept_within : (n : ℕ) (stayed kept : List ℕ) → Leaves stands m mode n stayed kept → (t : ℕ) → Contains kept t → IsStillKept n stayed t
  kept_within zero stayed kept same t h = inr (subst (λ (ts : List ℕ). Contains ts t) same h)
  kept_within (suc n) stayed kept leaves t h = elim leaves [
    | inl dropped ↦ elim (kept_within n stayed kept dropped.1 t h) [
      | inl below ↦ inl (omega (arith, below))
      | inr own ↦ inr own
    ]
    | inr stays ↦ elim (kept_within n (n ∷ stayed) kept stays.1 t h) [
      | inl below ↦ inl (omega (arith, below))
      | inr own ↦ elim (either n t stayed own) [ inl same ↦ inl (omega (arith, same)) | inr older ↦ inr older ]
    ]
  ]

  -- the others were not enough at its turn
  needed : (n : ℕ) (stayed kept : List ℕ) → Leaves stands m mode n stayed kept → (t : ℕ) → t < n → Contains kept t → ¬ Contains stayed t → ¬ AreEnough stands m mode (IsOther kept t)
  needed zero stayed kept leaves t lt h new = absurd (omega arith)
  needed (suc n) stayed kept leaves t lt h new = elim leaves [
    | inl dropped ↦ elim (kept_within n stayed kept dropped.1 t h) [
      | inl below ↦ needed n stayed kept dropped.1 t below h new
      | inr own ↦ absurd (new own)
    ]
    | inr stays ↦ elim (cases_lt t n) [
      | inl below ↦ needed n (n ∷ stayed) kept stays.1 t below h (λ own. elim (either n t stayed own) [ inl same ↦ omega (arith, same, below) | inr older ↦ new older ])
      | inr more ↦
          (let same : t ≡ n = omega (arith, lt, more) in
          λ so. stays.0 (more_enough (IsOther kept t) (IsStillKept n stayed) (λ u other. elim (kept_within n (n ∷ stayed) kept stays.1 u other.0) [
            | inl below ↦ inl below
            | inr own ↦ elim (either n u stayed own) [ inl is ↦ absurd (other.1 (is ∙ sym same)) | inr older ↦ inr older ]
          ]) so))
    ]
  ]

  pub kept_needed : (tests : ℕ) (kept : List ℕ) → AreKept stands m mode tests kept → (t : ℕ) → Contains kept t → ¬ AreEnough stands m mode (IsOther kept t)
  kept_needed tests kept are t h =
      let within : IsStillKept tests [] t = kept_within tests [] kept are t h in
      elim within [
        | inl below ↦ needed tests [] kept are t below h (λ none. (let lt = none.1 in omega (arith, lt)))
        | inr none ↦ absurd (let lt = none.1 in omega (arith, lt))
      ]

  pub kept_is_test : (tests : ℕ) (kept : List ℕ) → AreKept stands m mode tests kept → (t : ℕ) → Contains kept t → t < tests
  kept_is_test tests kept are t h = elim (kept_within tests [] kept are t h) [ inl below ↦ below | inr none ↦ absurd (let lt = none.1 in omega (arith, lt)) ]

  -- ---- one answer

  kept_one : (n : ℕ) (stayed one other : List ℕ) → Leaves stands m mode n stayed one → Leaves stands m mode n stayed other → one ≡ other
  kept_one zero stayed one other h g = h ∙ sym g
  kept_one (suc n) stayed one other h g = elim h [
    | inl dropped ↦ elim g [
      | inl too ↦ kept_one n stayed one other dropped.1 too.1
      | inr not ↦ absurd (not.0 dropped.0)
    ]
    | inr stays ↦ elim g [
      | inl too ↦ absurd (stays.0 too.0)
      | inr also ↦ kept_one n (n ∷ stayed) one other stays.1 also.1
    ]
  ]

  lost_one : (kept : List ℕ) (t p q : ℕ) → IsFirstLost stands m mode kept t p → IsFirstLost stands m mode kept t q → p ≡ q
  lost_one kept t p q h g = elim (cases_lt p q) [
    | inl less ↦ absurd (g.none_before p h.obligation less h.at h.lost)
    | inr more ↦ elim (cases_lt q p) [
      | inl less ↦ absurd (h.none_before q g.obligation less g.at g.lost)
      | inr also ↦ omega (arith, more, also)
    ]
  ]

  all_lost_one : (kept ts ps qs : List ℕ) → AllZip (IsFirstLost stands m mode kept) ts ps → AllZip (IsFirstLost stands m mode kept) ts qs → ps ≡ qs
  all_lost_one kept [] [] [] h g = refl
  all_lost_one kept [] [] (q ∷ qs) h g = absurd g
  all_lost_one kept [] (p ∷ ps) qs h g = absurd h
  all_lost_one kept (t ∷ ts) [] qs h g = absurd h
  all_lost_one kept (t ∷ ts) (p ∷ ps) [] h g = absurd g
  all_lost_one kept (t ∷ ts) (p ∷ ps) (q ∷ qs) h g =
      let first = lost_one kept t p q h.0 g.0 in
      let rest = all_lost_one kept ts ps qs h.1 g.1 in
      ap (λ (k : ℕ). k ∷ ps) first ∙ ap (λ (ks : List ℕ). q ∷ ks) rest

  pub reduced_one : (tests : ℕ) (kept lost also too : List ℕ) → IsReduced stands m mode tests kept lost → IsReduced stands m mode tests also too → (kept ≡ also) × (lost ≡ too)
  reduced_one tests kept lost also too h g =
      let same : kept ≡ also = kept_one tests [] kept also h.are_kept g.are_kept in
      let there : AllZip (IsFirstLost stands m mode kept) kept too = subst (λ (ks : List ℕ). AllZip (IsFirstLost stands m mode ks) ks too) (sym same) g.are_lost in
      (same, all_lost_one kept kept lost too h.are_lost there)
