-- The value of an object is no integer constant expression.
use Rattle.std.proofs.Common.{◌≡◌, ℕ, false, List, [], ◌∷◌, None, refl, option_and_then}
use Rattle.mc_typed.specs.Tree.{Place}
use Rattle.types_rules.specs.Types.{Base, Void, Integer, Tagged, CType}
use Rattle.types_rules.specs.Values.{kind_of_base, kind_of_object, is_integer, number_stored}
use Rattle.mc_typed.specs.Constants.{constant_value}
use Rattle.types_rules.specs.Constants.{traps}

pub stored_is_none : (place : Place) (b : Base) (ns : List ℕ)
    → option_and_then constant_value (number_stored place b ns) ≡ None
stored_is_none place Void ns = refl
stored_is_none place (Integer a) [] = refl
stored_is_none place (Integer a) (n ∷ ns) = refl
stored_is_none place (Tagged k) ns = refl

scalar_traps : (place : Place) (b : Base) → traps (number_stored place b []) ≡ is_integer (kind_of_base b)
scalar_traps place Void = refl
scalar_traps place (Integer a) = refl
scalar_traps place (Tagged k) = refl

pub stored_traps : (place : Place) (u : CType) (ns : List ℕ)
    → traps (number_stored place u.base ns) ≡ is_integer (kind_of_object u ns)
stored_traps place u [] = scalar_traps place u.base
stored_traps place u (n ∷ ns) = array_traps place u.base n ns
  where
    array_traps : (place : Place) (b : Base) (n : ℕ) (ns : List ℕ) → traps (number_stored place b (n ∷ ns)) ≡ false
    array_traps place Void n ns = refl
    array_traps place (Integer a) n ns = refl
    array_traps place (Tagged k) n ns = refl
