-- Lists and optional values of the program as those of the definitions.
use Rattle.std.proofs.Common.{◌≡◌, ◌∙◌, List, [], ◌∷◌, ◌++◌, map, Option, option_map, refl}
use Rattle.std.proofs.lemmas.List.{map-append}
use Rattle.types_faults.specs.declared.fault.Fault.{Fault}
use Rattle.types_faults.specs.Faults.{least_of, unless_faulty}
use Rattle.types_faults.specs.Kept.{listed}
use Rattle.types_rules.specs.Declarations.{append}
use Rattle.types_declarations.proofs.DeclarationFaults.{unless_by_least}

pub mapped_joined : {A B : Type 0} (f : A → B) (xs ys : List A)
    → map f (xs ++ ys) ≡ append (map f xs) (map f ys)
mapped_joined f xs ys = map-append f xs ys

-- ---- unless there is a fault

pub unless_mapped : {A B : Type 0} (f : A → B) (fs : List Fault) (v : Option A)
    → option_map f (unless_faulty fs v) ≡ unless_faulty fs (option_map f v)
unless_mapped f [] v = refl
unless_mapped f (g ∷ fs) v = refl

pub unless_viewed : {A B : Type 0} (f : A → B) (fs : List Fault) (o : Option Fault) (v : Option A)
    → o ≡ least_of fs → option_map f (unless_faulty (listed o) v) ≡ unless_faulty fs (option_map f v)
unless_viewed f fs o v h = unless_mapped f (listed o) v ∙ unless_by_least fs o (option_map f v) h
