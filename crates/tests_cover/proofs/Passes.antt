-- What holds of each element holds of the last, and of those before it.
use Rattle.std.proofs.Common.{List, [], ◌∷◌, ◌++◌, length, refl, subst, arith}
use Rattle.std.specs.Prelude.{All}
use Rattle.std.proofs.lemmas.List.{get_or_push, get_or_append_left, length-append}

pub split_last : {X : Type 0} (P : X → Type 0) (xs : List X) (y : X) → All P (xs ++ y ∷ []) → All P xs × P y
split_last P xs y all =
    let long = length-append xs (y ∷ []) in (
      (λ i d less. subst P (get_or_append_left xs (y ∷ []) d i less) (all i d (omega arith))),
      subst P (get_or_push xs y y (length xs) refl) (all (length xs) y (omega arith)),
    )
