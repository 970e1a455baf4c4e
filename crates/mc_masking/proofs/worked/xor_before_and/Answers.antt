use Rattle.std.proofs.Common.{true, false, [], ◌∷◌, refl, arith}
use Rattle.mc_cond.specs.Tree.{IsNumbered}
use Rattle.mc_cond.specs.Vectors.{row_of}
use Rattle.mc_cond.specs.Influence.{HasInfluence}
use Rattle.mc_cond.proofs.Flips.{influence_exact}
use Rattle.mc_paths.specs.Samples.{xor_then_and, on, off, skip}
use Rattle.mc_masking.specs.Samples.{vector}
use Rattle.mc_masking.proofs.Pairs.{pair_by}
use Rattle.mc_masking.proofs.worked.xor_before_and.Goals as goal

numbered : IsNumbered xor_then_and
numbered = record { in_order = ((refl, refl), refl); few = omega arith }

first_in_both : HasInfluence xor_then_and 0 (vector (on ∷ on ∷ skip ∷ []) false)
first_in_both = (influence_exact xor_then_and 0 (vector (on ∷ on ∷ skip ∷ []) false) numbered (row_of (true ∷ true ∷ []), refl)).0 refl

first_in_neither : HasInfluence xor_then_and 0 (vector (off ∷ off ∷ skip ∷ []) false)
first_in_neither = (influence_exact xor_then_and 0 (vector (off ∷ off ∷ skip ∷ []) false) numbered (row_of (false ∷ false ∷ []), refl)).0 refl

pub returns-clause-first : goal.returns-clause-first
returns-clause-first c =
    pair_by xor_then_and 0 (vector (on ∷ off ∷ on ∷ []) true) (vector (off ∷ off ∷ skip ∷ []) false) refl refl (λ e. cc)
    ((influence_exact xor_then_and 0 (vector (on ∷ off ∷ on ∷ []) true) numbered (row_of (true ∷ false ∷ true ∷ []), refl)).0 refl) first_in_neither

pub returns-clause-second : goal.returns-clause-second
returns-clause-second c =
    pair_by xor_then_and 1 (vector (on ∷ on ∷ skip ∷ []) false) (vector (on ∷ off ∷ on ∷ []) true) refl refl (λ e. cc)
    ((influence_exact xor_then_and 1 (vector (on ∷ on ∷ skip ∷ []) false) numbered (row_of (true ∷ true ∷ []), refl)).0 refl)
    ((influence_exact xor_then_and 1 (vector (on ∷ off ∷ on ∷ []) true) numbered (row_of (true ∷ false ∷ true ∷ []), refl)).0 refl)

pub returns-clause-third : goal.returns-clause-third
returns-clause-third c =
    pair_by xor_then_and 2 (vector (on ∷ off ∷ on ∷ []) true) (vector (off ∷ on ∷ off ∷ []) false) refl refl (λ e. cc)
    ((influence_exact xor_then_and 2 (vector (on ∷ off ∷ on ∷ []) true) numbered (row_of (true ∷ false ∷ true ∷ []), refl)).0 refl)
    ((influence_exact xor_then_and 2 (vector (off ∷ on ∷ off ∷ []) false) numbered (row_of (false ∷ true ∷ false ∷ []), refl)).0 refl)

pub returns-clause-one : goal.returns-clause-one
returns-clause-one c = first_in_both

pub returns-clause-other : goal.returns-clause-other
returns-clause-other c = first_in_neither

pub returns-clause-apart : goal.returns-clause-apart
returns-clause-apart c = λ p. p.outcomes refl
