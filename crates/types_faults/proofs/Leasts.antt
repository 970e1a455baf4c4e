-- The least of joined lists of faults, and that the least of a list is the first.
use Rattle.std.proofs.Common.{◌≡◌, ℕ, ◌<◌, ◌+◌, ◌*◌, ◌⊎◌, inl, inr, Bool, true, false, List, [], ◌∷◌, Option, Some, None, refl, ap, sym, ◌∙◌, arith, nat_lt, nat_le, if◌then◌else◌, subst}
use Rattle.types_faults.specs.declared.fault.Fault.{Fault}
use Rattle.types_faults.specs.declared.fault.FaultKind.{FaultKind}
use Rattle.types_faults.specs.declared.fault.FaultKind.TheVariants.{Undeclared, Redeclared, Mismatch, NotConstant, DuplicateLabel, NoBody, Limit}
use Rattle.types_faults.specs.Faults.{number_of, NotAfter, IsAmong, NoneBefore, lesser_of, lesser, least_of, LeastOfJoined, LeastIsFirst, NoLeastOfNone}

-- ---- joined lists

-- place and number as one number
abbrev key : Fault → ℕ
key f = 8 * f.at + number_of f.kind

number_small : (k : FaultKind) → number_of k < 8
number_small Undeclared = omega arith
number_small Redeclared = omega arith
number_small Mismatch = omega arith
number_small NotConstant = omega arith
number_small DuplicateLabel = omega arith
number_small NoBody = omega arith
number_small Limit = omega arith

abbrev first_by : (Fault → ℕ) → Fault → Fault → Fault
first_by k a b = if nat_le (k a) (k b) then a else b

by_numbers : (p q i j : ℕ) (a b : Fault) → i < 8 → j < 8
    → (if nat_lt p q then a else if nat_lt q p then b else if nat_le i j then a else b)
    ≡ (if nat_le (8 * p + i) (8 * q + j) then a else b)
by_numbers p q i j a b hi hj = grind (arith, hi, hj)

by_key : (a b : Fault) → lesser_of a b ≡ first_by key a b
by_key a b =
    by_numbers a.at b.at (number_of a.kind) (number_of b.kind) a b
    (number_small a.kind) (number_small b.kind)

first_by_assoc : (k : Fault → ℕ) (a b c : Fault)
    → first_by k a (first_by k b c) ≡ first_by k (first_by k a b) c
first_by_assoc k a b c = grind arith

lesser_of_assoc : (a b c : Fault)
    → lesser_of a (lesser_of b c) ≡ lesser_of (lesser_of a b) c
lesser_of_assoc a b c =
    ap (lesser_of a) (by_key b c) ∙ by_key a (first_by key b c) ∙ first_by_assoc key a b c
    ∙ sym (ap (λ x. lesser_of x c) (by_key a b) ∙ by_key (first_by key a b) c)

lesser_assoc : (a b c : Option Fault) → lesser a (lesser b c) ≡ lesser (lesser a b) c
lesser_assoc None b c = refl
lesser_assoc (Some a) None c = refl
lesser_assoc (Some a) (Some b) None = refl
lesser_assoc (Some a) (Some b) (Some c) = ap Some (lesser_of_assoc a b c)

pub least_joined : LeastOfJoined
least_joined [] gs = refl
least_joined (f ∷ fs) gs =
    ap (lesser (Some f)) (least_joined fs gs)
    ∙ lesser_assoc (Some f) (least_of fs) (least_of gs)

-- ---- the first of a list

some_not_none : (f : Fault) (o : Option Fault) → lesser (Some f) o ≡ None → ⊥
some_not_none f None h = cc
some_not_none f (Some g) h = cc

pub no_least : NoLeastOfNone
no_least [] h = refl
no_least (f ∷ fs) h = absurd (some_not_none f (least_of fs) h)

abbrev Chosen : Fault → Fault → Fault → Type 0
Chosen a b c = ((c ≡ a) × NotAfter a b) ⊎ ((c ≡ b) × NotAfter b a)

choose : (a b : Fault) → Chosen a b (lesser_of a b)
choose a b =
    by_tests (nat_lt a.at b.at) (nat_lt b.at a.at) (nat_le (number_of a.kind) (number_of b.kind))
    refl refl refl
  where
    by_tests : (x y z : Bool) → nat_lt a.at b.at ≡ x → nat_lt b.at a.at ≡ y
        → nat_le (number_of a.kind) (number_of b.kind) ≡ z
        → Chosen a b (if x then a else if y then b else if z then a else b)
    by_tests true y z hx hy hz = inl (refl, inl (grind (arith, hx)))
    by_tests false true z hx hy hz = inr (refl, inl (grind (arith, hy)))
    by_tests false false true hx hy hz =
        inl (refl, inr (grind (arith, hx, hy), grind (arith, hz)))
    by_tests false false false hx hy hz =
        inr (refl, inr (grind (arith, hx, hy), grind (arith, hz)))

after_trans : (f g h : Fault) → NotAfter f g → NotAfter g h → NotAfter f h
after_trans f g h (inl a) (inl b) = inl (omega (arith, a, b))
after_trans f g h (inl a) (inr b) = inl (omega (arith, a, b.0))
after_trans f g h (inr a) (inl b) = inl (omega (arith, a.0, b))
after_trans f g h (inr a) (inr b) = inr (omega (arith, a.0, b.0), omega (arith, a.1, b.1))

weaken : (f g : Fault) (fs : List Fault) → NotAfter f g → NoneBefore g fs → NoneBefore f fs
weaken f g [] a h = tt
weaken f g (x ∷ xs) a h = (after_trans f g x a h.0, weaken f g xs a h.1)

-- the least of those is one of them, and none is before it
abbrev Least : List Fault → Fault → Type 0
Least fs f = IsAmong f fs × NoneBefore f fs

more_least : (g : Fault) (gs : List Fault) (h f : Fault) → Least gs h → lesser_of g h ≡ f
    → Chosen g h (lesser_of g h) → Least (g ∷ gs) f
more_least g gs h f l e (inl c) =
    subst (λ x. Least (g ∷ gs) x) (sym c.0 ∙ e)
    (inl refl, (inr (refl, omega arith), weaken g h gs c.1 l.1))
more_least g gs h f l e (inr c) =
    subst (λ x. Least (g ∷ gs) x) (sym c.0 ∙ e) (inr l.0, (c.1, l.1))

some_same : (a b : Fault) → Some a ≡ Some b → a ≡ b
some_same a b h = cc

by_rest : (g : Fault) (gs : List Fault) (f : Fault) (o : Option Fault) → least_of gs ≡ o
    → lesser (Some g) o ≡ Some f → ((x : Fault) → least_of gs ≡ Some x → Least gs x)
    → Least (g ∷ gs) f
by_rest g gs f None e h below =
    let nil = no_least gs e in
    subst (λ x. Least (g ∷ gs) x) (some_same g f h)
    (rw nil (inl refl, (inr (refl, omega arith), tt)))
by_rest g gs f (Some x) e h below =
    more_least g gs x f (below x e) (some_same (lesser_of g x) f h) (choose g x)

least_first : (fs : List Fault) (f : Fault) → least_of fs ≡ Some f → Least fs f
least_first [] f h = absurd (cc)
least_first (g ∷ gs) f h = by_rest g gs f (least_of gs) refl h (λ x e. least_first gs x e)

pub least_is_first : LeastIsFirst
least_is_first fs f h =
    let l = least_first fs f h in record { there = l.0; first = l.1 }
