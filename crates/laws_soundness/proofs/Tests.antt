-- Tests that hold where a list of faults is empty, and values that are there.
use Rattle.std.proofs.Common.{◌≡◌, ℕ, Bool, true, false, not, ◌&&◌, ◌||◌, List, [], ◌∷◌, ◌++◌, Option, Some, None, option_map, option_and_then, refl, ap, ◌∙◌}
use Rattle.types_faults.specs.declared.fault.Fault.{Fault}
use Rattle.types_faults.specs.declared.fault.FaultKind.{FaultKind}
use Rattle.types_faults.specs.Faults.{fault_if}
use Rattle.types_rules.specs.Values.{lift2}

pub nil_left : (xs ys : List Fault) → xs ++ ys ≡ [] → xs ≡ []
nil_left [] ys h = refl
nil_left (x ∷ xs) ys h = absurd (cc)

pub nil_right : (xs ys : List Fault) → xs ++ ys ≡ [] → ys ≡ []
nil_right [] ys h = h
nil_right (x ∷ xs) ys h = absurd (cc)

pub no_fault : (b : Bool) (kind : FaultKind) (at : ℕ) → fault_if b kind at ≡ [] → b ≡ false
no_fault true kind at h = absurd (cc)
no_fault false kind at h = refl

pub or_left : (a b : Bool) → (a || b) ≡ false → a ≡ false
or_left true b h = h
or_left false b h = refl

pub or_right : (a b : Bool) → (a || b) ≡ false → b ≡ false
or_right true b h = absurd (cc)
or_right false b h = h

pub not_false : (b : Bool) → not b ≡ false → b ≡ true
not_false true h = refl
not_false false h = absurd (cc)

pub and_left : (a b : Bool) → (a && b) ≡ true → a ≡ true
and_left true b h = refl
and_left false b h = absurd (cc)

pub and_right : (a b : Bool) → (a && b) ≡ true → b ≡ true
and_right true b h = h
and_right false b h = absurd (cc)

pub false_true : {A : Type 0} → false ≡ true → A
false_true h = absurd (cc)

pub none_some : {A B : Type 0} (a : A) → None ≡ Some a → B
none_some a h = absurd (cc)

pub and_then_some : {A B : Type 0} (f : A → Option B) (o : Option A) (a : A) → o ≡ Some a
    → option_and_then f o ≡ f a
and_then_some f o a h = ap (option_and_then f) h

pub map_some : {A B : Type 0} (f : A → B) (o : Option A) (a : A) → o ≡ Some a
    → option_map f o ≡ Some (f a)
map_some f o a h = ap (option_map f) h

pub lift2_some : {A B C : Type 0} (f : A → B → C) (o : Option A) (p : Option B) (a : A) (b : B)
    → o ≡ Some a → p ≡ Some b → lift2 f o p ≡ Some (f a b)
lift2_some f o p a b h k = ap (λ x. lift2 f x p) h ∙ ap (λ x. lift2 f (Some a) x) k
