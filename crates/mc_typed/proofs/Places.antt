-- Where paths lead.
use Rattle.std.proofs.Common.{◌≡◌, ℕ, zero, suc, ◌+◌, ◌*◌, ◌<◌, ◌≤◌, ◌⊎◌, List, [], ◌∷◌, ◌++◌, Bool, true, false, cond, refl, sym, ap, subst, arith, inl, inr, Option, Some, None}
use Rattle.std.proofs.lemmas.Bool.{cases_order}
use Rattle.mc_value.specs.declared.int_type.IntType.{IntType}
use Rattle.mc_typed.specs.Layout.{ObjectType, Scalar, Array, Structure, Members, no_members, members, cells, cells_all, count, member, start, with_last, Leads, LeadsIn, same, is_below, rest}
use Rattle.mc_typed.specs.Laws.{GoesThroughLast, PathsLeadOn, MembersCanBeAdded}

pub same_refl : (i : ℕ) → same i i ≡ true
same_refl zero = refl
same_refl (suc i) = same_refl i

abbrev IsFalse' : Bool → Type 0
IsFalse' true = ⊥
IsFalse' false = Unit {0}

pub false_true : {X : Type 0} → false ≡ true → X
false_true e = absurd (subst IsFalse' e tt)

pub same_eq : (i j : ℕ) → same i j ≡ true → i ≡ j
same_eq zero zero e = refl
same_eq zero (suc j) e = false_true e
same_eq (suc i) zero e = false_true e
same_eq (suc i) (suc j) e = ap suc (same_eq i j e)

pub both_true : (b c : Bool) → cond b c false ≡ true → (b ≡ true) × (c ≡ true)
both_true true c e = (refl, e)
both_true false c e = false_true e

abbrev IsScalar : ObjectType → Type 0
IsScalar (Scalar a) = Unit {0}
IsScalar (Array k t) = ⊥
IsScalar (Structure number ts) = ⊥

pub not_array : {X : Type 0} (k : ℕ) (t : ObjectType) (a : IntType) → Array k t ≡ Scalar a → X
not_array k t a e = absurd (subst IsScalar (sym e) tt)

pub not_struct : {X : Type 0} (number : ℕ) (ts : Members) (a : IntType) → Structure number ts ≡ Scalar a → X
not_struct number ts a e = absurd (subst IsScalar (sym e) tt)

-- n blocks of c cells
pub block_fits : (c i k : ℕ) → i < k → i * c + c ≤ k * c
block_fits c zero zero lt = absurd (omega (arith, lt))
block_fits c zero (suc k) lt = omega arith
block_fits c (suc i) zero lt = absurd (omega (arith, lt))
block_fits c (suc i) (suc k) lt =
    let h = block_fits c i k (omega (arith, lt)) in
    omega (arith, h)

-- an object lies within the one that it is in
mutual
  pub within : (t : ObjectType) (p : List ℕ) (u : ObjectType) (n : ℕ) → Leads t p u n → n + cells u ≤ cells t
  within (Scalar a) [] u n h = let e : 1 ≡ cells u = ap cells h.0 in omega (arith, e, h.1)
  within (Scalar a) (i ∷ p) u n h = absurd h
  within (Array k t) [] u n h = let e : k * cells t ≡ cells u = ap cells h.0 in omega (arith, e, h.1)
  within (Array k t) (i ∷ p) u n h = omega (arith, within t p u h.0 h.2, block_fits (cells t) i k h.1, h.3)
  within (Structure number ts) [] u n h = let e : cells_all ts ≡ cells u = ap cells h.0 in omega (arith, e, h.1)
  within (Structure number ts) (i ∷ p) u n h = within_in ts i p u n h

  pub within_in : (ts : Members) (i : ℕ) (p : List ℕ) (u : ObjectType) (n : ℕ) → LeadsIn ts i p u n → n + cells u ≤ cells_all ts
  within_in no_members i p u n h = absurd h
  within_in (members t ts) zero p u n h = omega (arith, within t p u n h)
  within_in (members t ts) (suc i) p u n h = omega (arith, within_in ts i p u h.0 h.1, h.2)

pub here : (t : ObjectType) → Leads t [] t 0
here (Scalar a) = (refl, refl)
here (Array k t) = (refl, refl)
here (Structure number ts) = (refl, refl)

pub begins : (ts : Members) (i : ℕ) (u : ObjectType) → member ts i ≡ Some u → LeadsIn ts i [] u (start ts i)
begins no_members i u e = absurd (not_some e)
  where
    IsNone' : Option ObjectType → Type 0
    IsNone' None = Unit {0}
    IsNone' (Some x) = ⊥

    not_some : None ≡ Some u → ⊥
    not_some e = subst IsNone' e tt
begins (members t ts) zero u e = subst (λ x. Leads t [] x 0) (some_is t u e) (here t)
  where
    from : ObjectType → Option ObjectType → ObjectType
    from d None = d
    from d (Some x) = x

    some_is : (t u : ObjectType) → Some t ≡ Some u → t ≡ u
    some_is t u e = ap (from t) e
begins (members t ts) (suc i) u e = (start ts i, begins ts i u e, refl)

-- a path through an object
mutual
  pub joined : (t : ObjectType) (p : List ℕ) (u : ObjectType) (n : ℕ) (q : List ℕ) (r : ObjectType) (m : ℕ) → Leads t p u n → Leads u q r m → Leads t (p ++ q) r (n + m)
  joined (Scalar a) [] u n q r m h k = subst (λ x. Leads (Scalar a) q r x) (omega (arith, h.1)) (subst (λ x. Leads x q r m) (sym h.0) k)
  joined (Scalar a) (i ∷ p) u n q r m h k = absurd h
  joined (Array c t) [] u n q r m h k = subst (λ x. Leads (Array c t) q r x) (omega (arith, h.1)) (subst (λ x. Leads x q r m) (sym h.0) k)
  joined (Array c t) (i ∷ p) u n q r m h k = (h.0 + m, h.1, joined t p u h.0 q r m h.2 k, omega (arith, h.3))
  joined (Structure number ts) [] u n q r m h k = subst (λ x. Leads (Structure number ts) q r x) (omega (arith, h.1)) (subst (λ x. Leads x q r m) (sym h.0) k)
  joined (Structure number ts) (i ∷ p) u n q r m h k = joined_in ts i p u n q r m h k

  pub joined_in : (ts : Members) (i : ℕ) (p : List ℕ) (u : ObjectType) (n : ℕ) (q : List ℕ) (r : ObjectType) (m : ℕ) → LeadsIn ts i p u n → Leads u q r m → LeadsIn ts i (p ++ q) r (n + m)
  joined_in no_members i p u n q r m h k = absurd h
  joined_in (members t ts) zero p u n q r m h k = joined t p u n q r m h k
  joined_in (members t ts) (suc i) p u n q r m h k = (h.0 + m, joined_in ts i p u h.0 q r m h.1 k, omega (arith, h.2))

-- two items of one array
same_block : (c i j m l u : ℕ) → i * c + m ≤ j * c + l → j * c + l < i * c + m + u → m + u ≤ c → l < c → i ≡ j
same_block c i j m l u a b x y = go (cases_order i j)
  where
    go : (i ≡ j) ⊎ ((i < j) ⊎ (j < i)) → i ≡ j
    go (inl e) = e
    go (inr (inl lt)) = let f = block_fits c i j lt in absurd (omega (arith, f, a, b, x, y))
    go (inr (inr lt)) = let f = block_fits c j i lt in absurd (omega (arith, f, a, b, x, y))

-- a scalar that has one of an object's cells is in the object
mutual
  pub apart : (t : ObjectType) (p : List ℕ) (u : ObjectType) (n : ℕ) (q : List ℕ) (a : IntType) (l : ℕ) → Leads t p u n → Leads t q (Scalar a) l → n ≤ l → l < n + cells u → is_below p q ≡ true
  apart t [] u n q a l h k x y = refl
  apart (Scalar b) (i ∷ p) u n q a l h k x y = absurd h
  apart (Array c t) (i ∷ p) u n [] a l h k x y = not_array c t a k.0
  apart (Array c t) (i ∷ p) u n (j ∷ q) a l h k x y =
      let e : i ≡ j = same_block (cells t) i j h.0 k.0 (cells u) (omega (arith, x, h.3, k.3)) (omega (arith, y, h.3, k.3)) (within t p u h.0 h.2) (omega (arith, within t q (Scalar a) k.0 k.2)) in
      let z : i * cells t ≡ j * cells t = ap (λ x. x * cells t) e in
      rw (← e, same_refl i) (apart t p u h.0 q a k.0 h.2 k.2 (omega (arith, x, h.3, k.3, z)) (omega (arith, y, h.3, k.3, z)))
  apart (Structure number ts) (i ∷ p) u n [] a l h k x y = not_struct number ts a k.0
  apart (Structure number ts) (i ∷ p) u n (j ∷ q) a l h k x y = apart_in ts i p u n j q a l h k x y

  pub apart_in : (ts : Members) (i : ℕ) (p : List ℕ) (u : ObjectType) (n j : ℕ) (q : List ℕ) (a : IntType) (l : ℕ) → LeadsIn ts i p u n → LeadsIn ts j q (Scalar a) l → n ≤ l → l < n + cells u → is_below (i ∷ p) (j ∷ q) ≡ true
  apart_in no_members i p u n j q a l h k x y = absurd h
  apart_in (members t ts) zero p u n zero q a l h k x y = apart t p u n q a l h k x y
  apart_in (members t ts) zero p u n (suc j) q a l h k x y = absurd (omega (arith, within t p u n h, k.2, y))
  apart_in (members t ts) (suc i) p u n zero q a l h k x y = absurd (omega (arith, within t q (Scalar a) l k, h.2, x))
  apart_in (members t ts) (suc i) p u n (suc j) q a l h k x y = apart_in ts i p u h.0 j q a k.0 h.1 k.1 (omega (arith, x, h.2, k.2)) (omega (arith, y, h.2, k.2))

-- the path to one that is in it goes on inside
mutual
  pub split : (t : ObjectType) (p : List ℕ) (u : ObjectType) (n : ℕ) (q : List ℕ) (a : IntType) (l : ℕ) → Leads t p u n → Leads t q (Scalar a) l → is_below p q ≡ true → (m : ℕ) × Leads u (rest p q) (Scalar a) m × (l ≡ n + m)
  split (Scalar b) [] u n q a l h k e = (l, subst (λ x. Leads x q (Scalar a) l) h.0 k, omega (arith, h.1))
  split (Scalar b) (i ∷ p) u n q a l h k e = absurd h
  split (Array c t) [] u n q a l h k e = (l, subst (λ x. Leads x q (Scalar a) l) h.0 k, omega (arith, h.1))
  split (Array c t) (i ∷ p) u n [] a l h k e = false_true e
  split (Array c t) (i ∷ p) u n (j ∷ q) a l h k e =
      let b = both_true (same i j) (is_below p q) e in
      let z : i * cells t ≡ j * cells t = ap (λ x. x * cells t) (same_eq i j b.0) in
      let r = split t p u h.0 q a k.0 h.2 k.2 b.1 in
      (r.0, r.1, omega (arith, r.2, h.3, k.3, z))
  split (Structure number ts) [] u n q a l h k e = (l, subst (λ x. Leads x q (Scalar a) l) h.0 k, omega (arith, h.1))
  split (Structure number ts) (i ∷ p) u n [] a l h k e = false_true e
  split (Structure number ts) (i ∷ p) u n (j ∷ q) a l h k e = split_in ts i p u n j q a l h k e

  pub split_in : (ts : Members) (i : ℕ) (p : List ℕ) (u : ObjectType) (n j : ℕ) (q : List ℕ) (a : IntType) (l : ℕ) → LeadsIn ts i p u n → LeadsIn ts j q (Scalar a) l → is_below (i ∷ p) (j ∷ q) ≡ true → (m : ℕ) × Leads u (rest p q) (Scalar a) m × (l ≡ n + m)
  split_in no_members i p u n j q a l h k e = absurd h
  split_in (members t ts) zero p u n zero q a l h k e = split t p u n q a l h k e
  split_in (members t ts) zero p u n (suc j) q a l h k e = false_true e
  split_in (members t ts) (suc i) p u n zero q a l h k e = false_true e
  split_in (members t ts) (suc i) p u n (suc j) q a l h k e =
      let r = split_in ts i p u h.0 j q a k.0 h.1 k.1 e in
      (r.0, r.1, omega (arith, r.2, h.2, k.2))

-- one more object at the end
pub cells_last : (ms : Members) (t : ObjectType) → cells_all (with_last ms t) ≡ cells_all ms + cells t
cells_last no_members t = omega arith
cells_last (members u ms) t = omega (arith, cells_last ms t)

pub count_last : (ms : Members) (t : ObjectType) → count (with_last ms t) ≡ suc (count ms)
count_last no_members t = refl
count_last (members u ms) t = ap suc (count_last ms t)

pub still_in : (ms : Members) (t : ObjectType) (i : ℕ) (p : List ℕ) (u : ObjectType) (n : ℕ) → LeadsIn ms i p u n → LeadsIn (with_last ms t) i p u n
still_in no_members t i p u n h = absurd h
still_in (members x ms) t zero p u n h = h
still_in (members x ms) t (suc i) p u n h = (h.0, still_in ms t i p u h.0 h.1, h.2)

pub last_in : (ms : Members) (t : ObjectType) (p : List ℕ) (u : ObjectType) (n : ℕ) → Leads t p u n → LeadsIn (with_last ms t) (count ms) p u (cells_all ms + n)
last_in no_members t p u n h = subst (λ x. Leads t p u x) (omega arith) h
last_in (members x ms) t p u n h = (cells_all ms + n, last_in ms t p u n h, omega arith)

pub last_or : (ms : Members) (t : ObjectType) (i : ℕ) (p : List ℕ) (u : ObjectType) (n : ℕ) → LeadsIn (with_last ms t) i p u n → GoesThroughLast ms t i p u n
last_or no_members t zero p u n h = inr (refl, n, h, omega arith)
last_or no_members t (suc i) p u n h = absurd h.1
last_or (members x ms) t zero p u n h = inl (omega arith, h)
last_or (members x ms) t (suc i) p u n h = go (last_or ms t i p u h.0 h.1)
  where
    go : GoesThroughLast ms t i p u h.0 → GoesThroughLast (members x ms) t (suc i) p u n
    go (inl a) = inl (omega (arith, a.0), (h.0, a.1, h.2))
    go (inr b) = inr (ap suc b.0, b.1, b.2, omega (arith, b.3, h.2))

pub lead_on : PathsLeadOn
lead_on = record { here = here; into = begins; joined = joined; split = split }

pub can_be_added : MembersCanBeAdded
can_be_added = record { old = still_in; last = last_in; either = last_or; room = cells_last }
