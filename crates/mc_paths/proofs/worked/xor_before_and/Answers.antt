use Rattle.std.proofs.Common.{true, false, [], ◌∷◌, refl}
use Rattle.mc_cond.specs.Vectors.{row_of}
use Rattle.mc_paths.specs.Samples.{xor_then_and}
use Rattle.mc_paths.proofs.Numbers.{descent_idle}
use Rattle.mc_paths.proofs.worked.xor_before_and.Goals as goal

pub returns-clause-zero : goal.returns-clause-zero
returns-clause-zero c = record { vector = (row_of (true ∷ true ∷ []), refl); number = refl }

pub returns-clause-two : goal.returns-clause-two
returns-clause-two c = record { vector = (row_of (true ∷ false ∷ true ∷ []), refl); number = refl }

pub returns-clause-three : goal.returns-clause-three
returns-clause-three c = record { vector = (row_of (true ∷ false ∷ false ∷ []), refl); number = refl }

pub returns-clause-four : goal.returns-clause-four
returns-clause-four c = record { vector = (row_of (false ∷ true ∷ true ∷ []), refl); number = refl }

pub returns-clause-five : goal.returns-clause-five
returns-clause-five c = record { vector = (row_of (false ∷ true ∷ false ∷ []), refl); number = refl }

pub returns-clause-six : goal.returns-clause-six
returns-clause-six c = record { vector = (row_of (false ∷ false ∷ false ∷ []), refl); number = refl }

pub returns-clause-one : goal.returns-clause-one
returns-clause-one c = descent_idle xor_then_and 1 ((refl, refl), refl) (λ h. cc)
