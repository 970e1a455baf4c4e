-- The loops that list evaluated paths: one path more, one decision more.
use Rattle.std.proofs.Common.{◌≡◌, ℕ, ◌+◌, ◌<◌, ◌++◌, Option, Some, None, List, [], ◌∷◌, length, get_or, drop, sym, ap, subst, ◌∙◌, refl, arith, inl, inr, ◌⊎◌, append_assoc, add-zero}
use Rattle.std.specs.Prelude.{suc, slice_get, Contains}
use Rattle.std.proofs.lemmas.Bool.{cases_lt}
use Rattle.std.proofs.lemmas.List.{append-nil, drop_more}
use Rattle.std.proofs.lemmas.List.Elements.{Contains-push, Contains-push_cases, Contains-append_left, Contains-get_or}
use Rattle.std.proofs.lemmas.List.Quantifiers.{all_pairs_push}
use Rattle.std.proofs.lemmas.Option.{slice_get_within}
use Rattle.mc_cond.specs.Tree.{Tree}
use Rattle.mc_paths.specs.Paths.{count_of}
use Rattle.mc_paths.proofs.Numbers.{vector_below}
use Rattle.mc_steps.specs.Events.{Event}
use Rattle.mc_probe.specs.Maps.{Mapped, Map}
use Rattle.mc_oblige.specs.declared.evaluated.EvaluatedPath.{EvaluatedPath}
use Rattle.mc_oblige.specs.Evidence.{IsLeast, IsEvaluated}
use Rattle.mc_oblige.specs.Evaluated.{IsBefore, IsEvaluatedPath, AreEvaluated}
use Rattle.mc_oblige.specs.steps.Table.{IsLeastIf}
use Rattle.mc_oblige.specs.steps.Tested.{entry_of, tested_at, tested, IsEarlier, AreTestedBelow}

next : (p n : ℕ) → p < n + 1 → (p < n) ⊎ (p ≡ n)
next p n h = elim (cases_lt p n) [ inl less ↦ inl less | inr more ↦ inr (omega (arith, h, more)) ]

-- ---- the list of a decision

pub tested_step : (d i : ℕ) (tests : List (Option ℕ)) → i < length tests → (before after whole : List EvaluatedPath)
    → before ++ tested d i (drop i tests) ≡ whole → after ≡ before ++ tested_at d i (get_or tests i None)
    → after ++ tested d (i + 1) (drop (i + 1) tests) ≡ whole
tested_step d i tests lt before after whole e f =
    ap (λ es. es ++ tested d (i + 1) (drop (i + 1) tests)) f
    ∙ append_assoc before (tested_at d i (get_or tests i None)) (tested d (i + 1) (drop (i + 1) tests))
    ∙ ap (λ ts. before ++ tested d i ts) (sym (drop_more tests i None lt))
    ∙ e

-- ---- least tests

one_least : (is : ℕ → Type 0) (t u : ℕ) → IsLeast is t → IsLeast is u → t ≡ u
one_least is t u h g = elim (cases_lt t u) [
  | inl less ↦ absurd (g.none_before t less h.so)
  | inr more ↦ elim (cases_lt u t) [ inl less ↦ absurd (h.none_before u less g.so) | inr also ↦ omega arith ]
]

module _ (stands : Event → ℕ → Type 0) (m : Map) where
  abbrev Below : ℕ → ℕ → List EvaluatedPath → Type 0
  Below = AreTestedBelow stands m

  abbrev Is : EvaluatedPath → Type 0
  Is = IsEvaluatedPath stands m

  pub none_yet : Below 0 0 []
  none_yet = record {
    ascending = λ i j e before within. absurd (omega arith);
    each = λ e. (
      λ c. absurd (let lt = c.1 in omega arith),
      λ h. elim h.0 [ inl lt ↦ absurd (omega arith) | inr lt ↦ absurd (let l = lt.1 in omega arith) ],
    );
  }

  pub all_of_them : (n : ℕ) (es : List EvaluatedPath) → n ≡ length m.decisions → Below n 0 es → AreEvaluated stands m es
  all_of_them n es end h = record {
    ascending = h.ascending;
    each = λ e. (
      λ c. ((h.each e).0 c).1,
      λ is. (h.each e).1 (inl (let lt = slice_get_within m.decisions e.decision is.mapped is.known in omega arith), is),
    );
  }

  module _ (d : ℕ) (mapped : Mapped) (known : slice_get m.decisions d ≡ Some mapped) where
    abbrev tree : Tree
    tree = mapped.decision.tree

    -- the entry of this decision and of this path
    least_of : (path : ℕ) (e : EvaluatedPath) → e.decision ≡ d → e.path ≡ path → Is e → IsLeast (IsEvaluated stands d tree path) e.test
    least_of path e at along is =
        let own : Some is.mapped ≡ Some mapped = sym is.known ∙ ap (λ k. slice_get m.decisions k) at ∙ known in
        let same : is.mapped ≡ mapped = cc in
        let P : Mapped → Type 0 = λ x. IsLeast (IsEvaluated stands e.decision x.decision.tree e.path) e.test in
        let Q : ℕ → Type 0 = λ k. IsLeast (IsEvaluated stands k tree e.path) e.test in
        let R : ℕ → Type 0 = λ p. IsLeast (IsEvaluated stands d tree p) e.test in
        subst R along (subst Q at (subst P same is.least))

    entry_is : (path test : ℕ) → IsLeast (IsEvaluated stands d tree path) test → Is (entry_of d path test)
    entry_is path test least = record { mapped = mapped; known = known; least = least }

    module _ (path : ℕ) (es : List EvaluatedPath) (h : Below d path es) where
      later : (e : EvaluatedPath) → IsEarlier d path e → IsEarlier d (path + 1) e
      later e earlier = elim earlier [ inl less ↦ inl less | inr own ↦ inr (own.0, (let l = own.1 in omega arith)) ]

      -- an entry up to the path is one before it or the path's own
      cases : (e : EvaluatedPath) → IsEarlier d (path + 1) e → IsEarlier d path e ⊎ ((e.decision ≡ d) × (e.path ≡ path))
      cases e earlier = elim earlier [
        | inl less ↦ inl (inl less)
        | inr own ↦ elim (next e.path path own.1) [ inl less ↦ inl (inr (own.0, less)) | inr same ↦ inr (own.0, same) ]
      ]

      without : IsLeastIf (IsEvaluated stands d tree path) None → Below d (path + 1) es
      without none = record {
        ascending = h.ascending;
        each = λ e. (
          λ c. (let old = (h.each e).0 c in (later e old.0, old.1)),
          λ is. elim (cases e is.0) [
            | inl old ↦ (h.each e).1 (old, is.1)
            | inr own ↦ (let least = least_of path e own.0 own.1 is.1 in absurd (none e.test least.so))
          ],
        );
      }

      with_test : (test : ℕ) → IsLeast (IsEvaluated stands d tree path) test → Below d (path + 1) (es ++ entry_of d path test ∷ [])
      with_test test least =
          let own : EvaluatedPath = entry_of d path test in
          record {
            ascending = all_pairs_push IsBefore es own h.ascending (λ k e lt. ((h.each (get_or es k e)).0 (Contains-get_or es k e lt)).0);
            each = λ e. (
              λ c. elim (Contains-push_cases es own e c) [
                | inl old ↦ (let was = (h.each e).0 old in (later e was.0, was.1))
                | inr same ↦
                    (let P : EvaluatedPath → Type 0 = λ x. IsEarlier d (path + 1) x × Is x in
                    subst P same (inr (refl, omega arith), entry_is path test least))
              ],
              λ is. elim (cases e is.0) [
                | inl old ↦ Contains-append_left es (own ∷ []) e ((h.each e).1 (old, is.1))
                | inr at ↦
                    (let t : e.test ≡ test = one_least (IsEvaluated stands d tree path) e.test test (least_of path e at.0 at.1 is.1) least in
                    let same : own ≡ e = λ i. record { decision = sym at.0 i; path = sym at.1 i; test = sym t i } in
                    let P : EvaluatedPath → Type 0 = λ x. Contains (es ++ own ∷ []) x in
                    subst P same (Contains-push es own))
              ],
            );
          }

      one_more : (o : Option ℕ) → IsLeastIf (IsEvaluated stands d tree path) o → Below d (path + 1) (es ++ tested_at d path o)
      one_more None none = let P : List EvaluatedPath → Type 0 = λ xs. Below d (path + 1) xs in subst P (sym (append-nil es)) (without none)
      one_more (Some test) least = with_test test least

    abbrev Least : ℕ → List (Option ℕ) → Type 0
    Least path tests = (k : ℕ) → k < length tests → IsLeastIf (IsEvaluated stands d tree (path + k)) (get_or tests k None)

    least_first : (path : ℕ) (o : Option ℕ) (tests : List (Option ℕ)) → Least path (o ∷ tests) → IsLeastIf (IsEvaluated stands d tree path) o
    least_first path o tests h =
        let P : ℕ → Type 0 = λ p. IsLeastIf (IsEvaluated stands d tree p) o in
        subst P (add-zero path) (h 0 (omega arith))

    least_later : (path : ℕ) (o : Option ℕ) (tests : List (Option ℕ)) → Least path (o ∷ tests) → Least (path + 1) tests
    least_later path o tests h k lt =
        let P : ℕ → Type 0 = λ p. IsLeastIf (IsEvaluated stands d tree p) (get_or tests k None) in
        let same : path + suc k ≡ (path + 1) + k = omega arith in
        subst P same (h (suc k) (omega arith))

    all_more : (path end : ℕ) (tests : List (Option ℕ)) (es : List EvaluatedPath) → end ≡ path + length tests → Least path tests → Below d path es → Below d end (es ++ tested d path tests)
    all_more path end [] es last least h =
        let P : List EvaluatedPath → Type 0 = λ xs. Below d end xs in
        let Q : ℕ → Type 0 = λ p. Below d p es in
        let same : path ≡ end = omega arith in
        subst P (sym (append-nil es)) (subst Q same h)
    all_more path end (o ∷ tests) es last least h =
        let P : List EvaluatedPath → Type 0 = λ xs. Below d end xs in
        let one = one_more path es h o (least_first path o tests least) in
        let all = all_more (path + 1) end tests (es ++ tested_at d path o) (omega arith) (least_later path o tests least) one in
        subst P (append_assoc es (tested_at d path o) (tested d (path + 1) tests)) all

    -- a decision has no path from its count on
    path_below : (e : EvaluatedPath) → e.decision ≡ d → Is e → e.path < count_of tree
    path_below e at is =
        let least = least_of e.path e at refl is in
        let v = least.so in
        let below = vector_below tree v.vector v.is_path.vector in
        let number = v.is_path.number in
        omega arith

    next_decision : (end : ℕ) (es : List EvaluatedPath) → end ≡ count_of tree → Below d end es → Below (d + 1) 0 es
    next_decision end es whole h = record {
      ascending = h.ascending;
      each = λ e. (
        λ c. (
            let old = (h.each e).0 c in
            (elim old.0 [ inl less ↦ inl (omega arith) | inr own ↦ inl (let at = own.0 in omega arith) ], old.1)
            ),
        λ is. elim is.0 [
          | inl less ↦ elim (next e.decision d less) [
            | inl before ↦ (h.each e).1 (inl before, is.1)
            | inr own ↦ (h.each e).1 (inr (own, (let below = path_below e own is.1 in omega arith)), is.1)
          ]
          | inr own ↦ absurd (let none = own.1 in omega arith)
        ],
      );
    }

    -- ---- the code's own steps

    pub decision_more : (tests : List (Option ℕ)) (es : List EvaluatedPath) → length tests ≡ count_of tree
        → ((p : ℕ) → p < length tests → IsLeastIf (IsEvaluated stands d tree p) (get_or tests p None))
        → Below d 0 es → Below (d + 1) 0 (es ++ tested d 0 tests)
    decision_more tests es count least h =
        let own : Least 0 tests = λ k lt.
        (let same : k ≡ 0 + k = omega arith in
        let Q : ℕ → Type 0 = λ p. IsLeastIf (IsEvaluated stands d tree p) (get_or tests k None) in
        subst Q same (least k lt)) in
        next_decision (length tests) (es ++ tested d 0 tests) count (all_more 0 (length tests) tests es (omega arith) own h)
