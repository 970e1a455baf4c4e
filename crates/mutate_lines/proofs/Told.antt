-- Mutants are killed or survive.
use Rattle.std.proofs.Common.{◌≡◌, ◌+◌, ℕ, List, [], ◌∷◌, length, Option, Some, None, refl, arith}
use Rattle.mutate_lines.specs.Lines.{killed_of, survived_of}

pub all_told : (killers : List (Option ℕ)) → killed_of killers + survived_of killers ≡ length killers
all_told [] = refl
all_told (None ∷ ks) = let rest = all_told ks in omega arith
all_told (Some t ∷ ks) = let rest = all_told ks in omega arith
