-- The evidence of conditions, one more at the end.
use Rattle.std.proofs.Common.{◌≡◌, ℕ, ◌+◌, ◌++◌, Option, List, [], ◌∷◌, sym, subst, arith, inl, inr}
use Rattle.std.proofs.lemmas.Bool.{cases_lt}
use Rattle.std.proofs.lemmas.List.{get_or_append_left, get_or_push, length_push}
use Rattle.mc_cond.specs.Tree.{Tree}
use Rattle.report_options.specs.declared.mode.Mode.{Mode}
use Rattle.mc_oblige.specs.declared.verdict.Evidence.{Evidence}
use Rattle.mc_oblige.specs.declared.verdict.Evidence.TheVariants.{Absent}
use Rattle.mc_oblige.specs.steps.Found.{IsFoundCondition, AreFoundBelow}

pub found_more : (mode : Mode) (t : Tree) (tests : List (Option ℕ)) (n : ℕ) (found : List Evidence) (e : Evidence)
    → AreFoundBelow mode t tests n found → IsFoundCondition mode t tests n e → AreFoundBelow mode t tests (n + 1) (found ++ e ∷ [])
found_more mode t tests n found e h own = record {
  count = (let c = h.count in omega (arith, length_push found e));
  each = λ k lt. elim (cases_lt k n) [
    | inl less ↦ (let P : Evidence → Type 0 = λ f. IsFoundCondition mode t tests k f in
        let c = h.count in
        subst P (sym (get_or_append_left found (e ∷ []) Absent k (omega arith))) (h.each k less))
    | inr more ↦ (let same : n ≡ k = omega arith in
        let P : Evidence → Type 0 = λ f. IsFoundCondition mode t tests k f in
        let Q : ℕ → Type 0 = λ j. IsFoundCondition mode t tests j e in
        let c = h.count in
        subst P (sym (get_or_push found e Absent k (omega arith))) (subst Q same own))
  ];
}
