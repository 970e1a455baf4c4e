use Rattle.std.proofs.Common.{true, false, [], ◌∷◌, refl}
use Rattle.mc_cond.specs.Vectors.{row_of}
use Rattle.mc_paths.proofs.worked.full_and_alone.Goals as goal

pub returns-clause-zero : goal.returns-clause-zero
returns-clause-zero c = record { vector = (row_of (true ∷ true ∷ []), refl); number = refl }

pub returns-clause-one : goal.returns-clause-one
returns-clause-one c = record { vector = (row_of (true ∷ false ∷ []), refl); number = refl }

pub returns-clause-two : goal.returns-clause-two
returns-clause-two c = record { vector = (row_of (false ∷ true ∷ []), refl); number = refl }

pub returns-clause-three : goal.returns-clause-three
returns-clause-three c = record { vector = (row_of (false ∷ false ∷ []), refl); number = refl }
