use Rattle.std.proofs.Common.{◌≡◌, zero, suc, Bool, true, false, Option, Some, [], ◌∷◌, refl, subst, arith}
use Rattle.mc_cond.specs.Tree.{IsNumbered}
use Rattle.mc_cond.specs.Vectors.{row_of, IsVector}
use Rattle.mc_paths.specs.Samples.{xor_then_and, on, off, skip}
use Rattle.mc_unique.specs.Samples.{vector}
use Rattle.mc_unique.specs.steps.Agreement.{AreCompatible, AgreeElsewhere}
use Rattle.mc_unique.proofs.Pairs.{pair_by, pair_prefix, pair_outcomes}
use Rattle.mc_unique.proofs.worked.xor_before_and.Goals as goal

numbered : IsNumbered xor_then_and
numbered = record { in_order = ((refl, refl), refl); few = omega arith }

compatible : (a b x y : Option Bool) → Some a ≡ Some x → Some b ≡ Some y → AreCompatible a b → AreCompatible x y
compatible a b x y e f h =
    let p : a ≡ x = cc in
    let q : b ≡ y = cc in
    let P : Option Bool → Type 0 = λ z. AreCompatible z b in
    let Q : Option Bool → Type 0 = λ z. AreCompatible x z in
    subst Q q (subst P p h)

first_agree : AgreeElsewhere 0 (on ∷ off ∷ on ∷ []) (off ∷ off ∷ skip ∷ [])
first_agree zero other x y e f = absurd (other refl)
first_agree (suc zero) other x y e f = compatible off off x y e f refl
first_agree (suc (suc zero)) other x y e f = compatible on skip x y e f tt
first_agree (suc (suc (suc j))) other x y e f = cc

second_agree : AgreeElsewhere 1 (on ∷ on ∷ skip ∷ []) (on ∷ off ∷ on ∷ [])
second_agree zero other x y e f = compatible on on x y e f refl
second_agree (suc zero) other x y e f = absurd (other refl)
second_agree (suc (suc zero)) other x y e f = compatible skip on x y e f tt
second_agree (suc (suc (suc j))) other x y e f = cc

both : IsVector xor_then_and (vector (on ∷ on ∷ skip ∷ []) false)
both = (row_of (true ∷ true ∷ []), refl)

one : IsVector xor_then_and (vector (on ∷ off ∷ on ∷ []) true)
one = (row_of (true ∷ false ∷ true ∷ []), refl)

other : IsVector xor_then_and (vector (off ∷ on ∷ off ∷ []) false)
other = (row_of (false ∷ true ∷ false ∷ []), refl)

neither : IsVector xor_then_and (vector (off ∷ off ∷ skip ∷ []) false)
neither = (row_of (false ∷ false ∷ []), refl)

pub returns-clause-first : goal.returns-clause-first
returns-clause-first c =
    pair_by xor_then_and 0 (vector (on ∷ off ∷ on ∷ []) true) (vector (off ∷ off ∷ skip ∷ []) false) numbered one neither refl refl (λ e. cc) first_agree

pub returns-clause-second : goal.returns-clause-second
returns-clause-second c =
    pair_by xor_then_and 1 (vector (on ∷ on ∷ skip ∷ []) false) (vector (on ∷ off ∷ on ∷ []) true) numbered both one refl refl (λ e. cc) second_agree

pub returns-clause-third : goal.returns-clause-third
returns-clause-third c = λ p.
    let same : Some on ≡ Some off = pair_prefix xor_then_and 2 (vector (on ∷ off ∷ on ∷ []) true) (vector (off ∷ on ∷ off ∷ []) false) numbered one other p 0 (omega arith) in
    cc

pub returns-clause-apart : goal.returns-clause-apart
returns-clause-apart c = λ p. pair_outcomes xor_then_and 0 (vector (on ∷ on ∷ skip ∷ []) false) (vector (off ∷ on ∷ off ∷ []) false) numbered both other p refl
