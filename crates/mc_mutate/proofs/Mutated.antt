-- The mutant of a program with a number is what a search by this number makes of it, and is sound.
use Rattle.std.proofs.Common.{◌≡◌, ◌∙◌, refl, sym, ap, subst, ℕ, zero, suc, ◌-◌, ◌<◌, ◌≤◌, List, [], ◌∷◌, length, slice_get, option_map, Some, arith}
use Rattle.mc_typed.specs.Tree.{Program}
use Rattle.mc_typed.specs.Sound.{IsSound}
use Rattle.mc_mutate.specs.declared.search.sought.Sought.TheVariants.{Left}
use Rattle.mc_mutate.specs.Changes.{Mutant}
use Rattle.mc_mutate.specs.Mutants.{mutants, count, IsMutant}
use Rattle.mc_mutate.specs.steps.Changed.{at_number, program_changed}
use Rattle.mc_mutate.proofs.Picked.{program_picked}
use Rattle.mc_mutate.proofs.Sound.{program_sound}

at_is : (ms : List (Mutant Program)) (p q : Program) (k : ℕ) → option_map (λ (m : Mutant Program). m.tree) (slice_get ms k) ≡ Some q → at_number ms p k ≡ q
at_is [] p q k e = cc
at_is (m ∷ ms) p q zero e = cc
at_is (m ∷ ms) p q (suc k) e = at_is ms p q k e

pub changed_is : (p q : Program) (number : ℕ) → IsMutant p number q → program_changed p (Left (number - 1)) ≡ q
changed_is p q number h = program_picked p (Left (number - 1)) ∙ at_is (mutants p) p q (number - 1) h.1

pub mutants_sound : (p : Program) (number : ℕ) (q : Program) → IsSound p → IsMutant p number q → IsSound q
mutants_sound p number q h is = subst IsSound (changed_is p q number is) (program_sound p (Left (number - 1)) h)

-- what a search by a number makes of a program is the mutant with this number
at_length : (ms : List (Mutant Program)) (p : Program) (k : ℕ) → k < length ms → option_map (λ (m : Mutant Program). m.tree) (slice_get ms k) ≡ Some (at_number ms p k)
at_length [] p k lt = absurd (omega arith)
at_length (m ∷ ms) p zero lt = refl
at_length (m ∷ ms) p (suc k) lt = at_length ms p k (omega arith)

pub is_mutant : (p : Program) (number : ℕ) → 1 ≤ number → number ≤ count p → IsMutant p number (program_changed p (Left (number - 1)))
is_mutant p number first last =
    let lt : number - 1 < length (mutants p) = omega arith in
    (first, at_length (mutants p) p (number - 1) lt ∙ ap Some (sym (program_picked p (Left (number - 1)))))

-- of a program's parts
pub is_mutant_of : (p q : Program) (number : ℕ) → q ≡ program_changed p (Left (number - 1)) → 1 ≤ number → number ≤ count p → IsMutant p number q
is_mutant_of p q number e first last =
    subst (λ (x : Program). IsMutant p number x) (sym e) (is_mutant p number first last)
