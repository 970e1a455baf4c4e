-- What keeps places and cells alike.
use Rattle.std.proofs.Common.{◌≡◌, ℕ, zero, suc, ◌+◌, ◌-◌, ◌*◌, ◌<◌, ◌≤◌, ◌⊎◌, List, [], ◌∷◌, ◌++◌, length, take, replicate, Bool, true, false, not, ◌&&◌, if◌then◌else◌, refl, sym, ap, ◌∙◌, subst, arith, inl, inr, Option, Some, None, ℤ, pos, length-append, length-take-le}
use Rattle.std.proofs.lemmas.List.{length-replicate}
use Rattle.std.specs.Prelude.{slice_get, nat_lt}
use Rattle.std.proofs.lemmas.Bool.{cases_lt, cases_Bool}
use Rattle.std.proofs.lemmas.Bool.Decides.{nat_tests}
use Rattle.mc_value.specs.declared.int_type.IntType.{IntType}
use Rattle.mc_typed.specs.Layout.{ObjectType, Scalar, Array, Structure, Members, no_members, members, start, cells, cells_all, count, with_last, Leads, LeadsIn, same, is_below, rest}
use Rattle.mc_typed.specs.Laws.{GoesThroughLast}
use Rattle.mc_typed.proofs.Places.{same_refl, false_true, not_array, not_struct, block_fits, within, within_in, apart, split, joined, cells_last, still_in, last_or}
use Rattle.mc_cells.specs.Rows.{filled, moved}
use Rattle.mc_meaning.specs.Stores.{Store, put, starts_from, zeroed, copied}
use Rattle.laws_simulation.specs.Related.{whole, MayHold, Same}
use Rattle.laws_simulation.specs.Laws.{begins, HasParts, Fills, StoresAreKept}
use Rattle.laws_simulation.proofs.Values.{zero_fills}
use Rattle.laws_simulation.proofs.Rows.{length_filled, get_filled_in, get_filled_under, get_filled_over, get_moved_in, get_moved_under, get_moved_over, length_moved, get_new, get_old, get_take}

-- ---- what stands at a place after a change

put_in : (p q : List ℕ) (x : Option ℤ) (m : Store) → is_below p q ≡ true → put p x m q ≡ x
put_in p q x m b = ap (λ (c : Bool). elim c as (λ _. Option ℤ) [ true ↦ x | false ↦ m q ]) b

put_out : (p q : List ℕ) (x : Option ℤ) (m : Store) → is_below p q ≡ false → put p x m q ≡ m q
put_out p q x m b = ap (λ (c : Bool). elim c as (λ _. Option ℤ) [ true ↦ x | false ↦ m q ]) b

copied_in : (o p q : List ℕ) (m : Store) → is_below p q ≡ true → copied o p m q ≡ m (o ++ rest p q)
copied_in o p q m b = ap (λ (c : Bool). elim c as (λ _. Option ℤ) [ true ↦ m (o ++ rest p q) | false ↦ m q ]) b

copied_out : (o p q : List ℕ) (m : Store) → is_below p q ≡ false → copied o p m q ≡ m q
copied_out o p q m b = ap (λ (c : Bool). elim c as (λ _. Option ℤ) [ true ↦ m (o ++ rest p q) | false ↦ m q ]) b

abbrev zero_where : (m : Store) (q : List ℕ) → Bool → Option ℤ
zero_where m q c = elim c as (λ _. Option ℤ) [ true ↦ Some (pos 0) | false ↦ m q ]

in_parts : (p q : List ℕ) (i j : ℕ) (r : List ℕ) (c : Bool) → is_below p q ≡ true → rest p q ≡ j ∷ r → nat_lt j i ≡ c →
    (is_below p q && starts_from i (rest p q)) ≡ not c
in_parts p q i j r c b e t =
    ap (λ (d : Bool). d && starts_from i (rest p q)) b ∙ ap (starts_from i) e ∙ ap not t

zeroed_is : (p q : List ℕ) (i : ℕ) (m : Store) (c : Bool) → (is_below p q && starts_from i (rest p q)) ≡ c → zeroed p i m q ≡ zero_where m q c
zeroed_is p q i m c e = ap (zero_where m q) e

-- one value in a whole object: a write, a declaration
pub same_put : (ms : Members) (m : Store) (row : List (Option ℤ)) (p : List ℕ) (u : ObjectType) (n : ℕ) (x : Option ℤ) → Same ms m row → Leads (whole ms) p u n → Fills u x → Same ms (put p x m) (filled n (cells u) x row)
same_put ms m row p u n x h l fills = record { room = length_filled x n (cells u) row room ∙ h.room; same = each; held = λ q a k g. suits q a k g (cases_Bool (is_below p q)) }
  where
    suits : (q : List ℕ) (a : IntType) (k : ℕ) → Leads (whole ms) q (Scalar a) k → (is_below p q ≡ true) ⊎ (is_below p q ≡ false) → MayHold a (put p x m q)
    suits q a k g (inl b) =
        let z = split (whole ms) p u n q a k l g b in
        subst (λ (o : Option ℤ). MayHold a o) (sym (put_in p q x m b)) (fills (rest p q) a z.0 z.1)
    suits q a k g (inr b) = subst (λ (o : Option ℤ). MayHold a o) (sym (put_out p q x m b)) (h.held q a k g)

    room : n + cells u ≤ length row
    room = omega (arith, within (whole ms) p u n l, h.room)

    out : (q : List ℕ) (a : IntType) (k : ℕ) → Leads (whole ms) q (Scalar a) k → is_below p q ≡ false → (k < n) ⊎ (n ≤ k) → (k < n + cells u) ⊎ (n + cells u ≤ k) → slice_get (filled n (cells u) x row) k ≡ Some (m q)
    out q a k g b (inl y) z = get_filled_under x n (cells u) row k room y ∙ h.same q a k g
    out q a k g b (inr y) (inl z) = false_true (sym b ∙ apart (whole ms) p u n q a k l g y z)
    out q a k g b (inr y) (inr z) = get_filled_over x n (cells u) row k room z ∙ h.same q a k g

    go : (q : List ℕ) (a : IntType) (k : ℕ) → Leads (whole ms) q (Scalar a) k → (is_below p q ≡ true) ⊎ (is_below p q ≡ false) → slice_get (filled n (cells u) x row) k ≡ Some (put p x m q)
    go q a k g (inl b) =
        let z = split (whole ms) p u n q a k l g b in
        let v = within u (rest p q) (Scalar a) z.0 z.1 in
        get_filled_in x n (cells u) row k room (omega (arith, z.2)) (omega (arith, z.2, v)) ∙ ap Some (sym (put_in p q x m b))
    go q a k g (inr b) = out q a k g b (cases_lt k n) (cases_lt k (n + cells u)) ∙ ap Some (sym (put_out p q x m b))

    each : (q : List ℕ) (a : IntType) (k : ℕ) → Leads (whole ms) q (Scalar a) k → slice_get (filled n (cells u) x row) k ≡ Some (put p x m q)
    each q a k g = go q a k g (cases_Bool (is_below p q))

not_same : (i j : ℕ) → j < i → same i j ≡ false
not_same zero j lt = absurd (omega (arith, lt))
not_same (suc i) zero lt = refl
not_same (suc i) (suc j) lt = not_same i j (omega (arith, lt))

below_one : (i j : ℕ) (p : List ℕ) (c : Bool) → same i j ≡ c → is_below (i ∷ []) (j ∷ p) ≡ (if c then true else false)
below_one i j p c e = ap (λ (d : Bool). if d then true else false) e

-- one more object, unset
pub same_enter : (ms : Members) (t : ObjectType) (m : Store) (row : List (Option ℤ)) → Same ms m row → Same (with_last ms t) (put (count ms ∷ []) None m) (row ++ replicate (cells t) None)
same_enter ms t m row h = record { room = long; same = each; held = holds }
  where
    suits : (i : ℕ) (p : List ℕ) (a : IntType) (n : ℕ) → GoesThroughLast ms t i p (Scalar a) n → MayHold a (put (count ms ∷ []) None m (i ∷ p))
    suits i p a n (inl b) =
        subst (λ (o : Option ℤ). MayHold a o) (sym (put_out (count ms ∷ []) (i ∷ p) None m (below_one (count ms) i p false (not_same (count ms) i b.0)))) (h.held (i ∷ p) a n b.1)
    suits i p a n (inr b) =
        let s : same (count ms) i ≡ true = subst (λ (l : ℕ). same (count ms) l ≡ true) (sym b.0) (same_refl (count ms)) in
        let none : Option ℤ = None in
        subst (λ (o : Option ℤ). MayHold a o) (sym (put_in (count ms ∷ []) (i ∷ p) none m (below_one (count ms) i p true s))) tt

    holds : (p : List ℕ) (a : IntType) (n : ℕ) → Leads (whole (with_last ms t)) p (Scalar a) n → MayHold a (put (count ms ∷ []) None m p)
    holds [] a n l = not_struct 0 (with_last ms t) a l.0
    holds (i ∷ p) a n l = suits i p a n (last_or ms t i p (Scalar a) n l)

    long : length (row ++ replicate (cells t) None) ≡ cells_all (with_last ms t)
    long = let none : Option ℤ = None in length-append row (replicate (cells t) none) ∙ omega (arith, length-replicate (cells t) none, h.room, cells_last ms t)

    go : (i : ℕ) (p : List ℕ) (a : IntType) (n : ℕ) → GoesThroughLast ms t i p (Scalar a) n → slice_get (row ++ replicate (cells t) None) n ≡ Some (put (count ms ∷ []) None m (i ∷ p))
    go i p a n (inl b) =
        let w = within_in ms i p (Scalar a) n b.1 in
        get_old row (replicate (cells t) None) n (omega (arith, w, h.room)) ∙ h.same (i ∷ p) a n b.1
        ∙ ap Some (sym (put_out (count ms ∷ []) (i ∷ p) None m (below_one (count ms) i p false (not_same (count ms) i b.0))))
    go i p a n (inr b) =
        let w = within t p (Scalar a) b.1 b.2 in
        let e : n ≡ length row + b.1 = omega (arith, b.3, h.room) in
        let s : same (count ms) i ≡ true = subst (λ (l : ℕ). same (count ms) l ≡ true) (sym b.0) (same_refl (count ms)) in
        subst (λ (l : ℕ). slice_get (row ++ replicate (cells t) None) l ≡ Some None) (sym e) (get_new None row (cells t) b.1 (omega (arith, w)))
        ∙ ap Some (sym (put_in (count ms ∷ []) (i ∷ p) None m (below_one (count ms) i p true s)))

    each : (p : List ℕ) (a : IntType) (n : ℕ) → Leads (whole (with_last ms t)) p (Scalar a) n → slice_get (row ++ replicate (cells t) None) n ≡ Some (put (count ms ∷ []) None m p)
    each [] a n l = not_struct 0 (with_last ms t) a l.0
    each (i ∷ p) a n l = go i p a n (last_or ms t i p (Scalar a) n l)

-- the last object is over
pub same_leave : (ms : Members) (t : ObjectType) (m : Store) (row : List (Option ℤ)) (k : ℕ) → k ≡ cells_all ms → Same (with_last ms t) m row → Same ms m (take k row)
same_leave ms t m row k e h = record { room = length-take-le k row (omega (arith, e, h.room, cells_last ms t)) ∙ e; same = each; held = holds }
  where
    holds : (p : List ℕ) (a : IntType) (n : ℕ) → Leads (whole ms) p (Scalar a) n → MayHold a (m p)
    holds [] a n l = not_struct 0 ms a l.0
    holds (i ∷ p) a n l = h.held (i ∷ p) a n (still_in ms t i p (Scalar a) n l)

    each : (p : List ℕ) (a : IntType) (n : ℕ) → Leads (whole ms) p (Scalar a) n → slice_get (take k row) n ≡ Some (m p)
    each [] a n l = not_struct 0 ms a l.0
    each (i ∷ p) a n l =
        let w = within_in ms i p (Scalar a) n l in
        get_take k row n (omega (arith, w, e)) ∙ h.same (i ∷ p) a n (still_in ms t i p (Scalar a) n l)

-- a copy of a whole object
pub same_copy : (ms : Members) (m : Store) (row : List (Option ℤ)) (o p : List ℕ) (u : ObjectType) (f n : ℕ) → Same ms m row → Leads (whole ms) o u f → Leads (whole ms) p u n → Same ms (copied o p m) (moved f n (cells u) row)
same_copy ms m row o p u f n h k l = record { room = length_moved f n (cells u) row room_f room_n ∙ h.room; same = λ q a i g. go q a i g (cases_Bool (is_below p q)); held = λ q a i g. suits q a i g (cases_Bool (is_below p q)) }
  where
    suits : (q : List ℕ) (a : IntType) (i : ℕ) → Leads (whole ms) q (Scalar a) i → (is_below p q ≡ true) ⊎ (is_below p q ≡ false) → MayHold a (copied o p m q)
    suits q a i g (inl b) =
        let z = split (whole ms) p u n q a i l g b in
        subst (λ (x : Option ℤ). MayHold a x) (sym (copied_in o p q m b)) (h.held (o ++ rest p q) a (f + z.0) (joined (whole ms) o u f (rest p q) (Scalar a) z.0 k z.1))
    suits q a i g (inr b) = subst (λ (x : Option ℤ). MayHold a x) (sym (copied_out o p q m b)) (h.held q a i g)

    room_n : n + cells u ≤ length row
    room_n = omega (arith, within (whole ms) p u n l, h.room)

    room_f : f + cells u ≤ length row
    room_f = omega (arith, within (whole ms) o u f k, h.room)

    out : (q : List ℕ) (a : IntType) (i : ℕ) → Leads (whole ms) q (Scalar a) i → is_below p q ≡ false → (i < n) ⊎ (n ≤ i) → (i < n + cells u) ⊎ (n + cells u ≤ i) → slice_get (moved f n (cells u) row) i ≡ Some (m q)
    out q a i g b (inl y) z = get_moved_under f n (cells u) row i room_f room_n y ∙ h.same q a i g
    out q a i g b (inr y) (inl z) = false_true (sym b ∙ apart (whole ms) p u n q a i l g y z)
    out q a i g b (inr y) (inr z) = get_moved_over f n (cells u) row i room_f room_n z ∙ h.same q a i g

    go : (q : List ℕ) (a : IntType) (i : ℕ) → Leads (whole ms) q (Scalar a) i → (is_below p q ≡ true) ⊎ (is_below p q ≡ false) → slice_get (moved f n (cells u) row) i ≡ Some (copied o p m q)
    go q a i g (inl b) =
        let z = split (whole ms) p u n q a i l g b in
        let v = within u (rest p q) (Scalar a) z.0 z.1 in
        subst (λ (l : ℕ). slice_get (moved f n (cells u) row) l ≡ Some (m (o ++ rest p q))) (sym z.2) (get_moved_in f n (cells u) row z.0 room_f room_n (omega (arith, v)) ∙ h.same (o ++ rest p q) a (f + z.0) (joined (whole ms) o u f (rest p q) (Scalar a) z.0 k z.1))
        ∙ ap Some (sym (copied_in o p q m b))
    go q a i g (inr b) = out q a i g b (cases_lt i n) (cases_lt i (n + cells u)) ∙ ap Some (sym (copied_out o p q m b))

-- ---- parts

times : (i j c : ℕ) → i ≤ j → i * c ≤ j * c
times i j c h = go (cases_lt i j)
  where
    go : (i < j) ⊎ (j ≤ i) → i * c ≤ j * c
    go (inl y) = omega (arith, block_fits c i j y)
    go (inr y) = let e : i ≡ j = omega (arith, h, y) in subst (λ x. i * c ≤ x * c) e (omega arith)

mutual
  -- what is in the part i or after it stands where that part begins or after it
  at_or_after : (u : ObjectType) (i j : ℕ) (r : List ℕ) (a : IntType) (l : ℕ) → Leads u (j ∷ r) (Scalar a) l → i ≤ j → begins u i ≤ l
  at_or_after (Scalar b) i j r a l g h = absurd g
  at_or_after (Array k t) i j r a l g h = omega (arith, g.3, times i j (cells t) h)
  at_or_after (Structure k ts) i j r a l g h = at_or_after_in ts i j r a l g h

  at_or_after_in : (ts : Members) (i j : ℕ) (r : List ℕ) (a : IntType) (l : ℕ) → LeadsIn ts j r (Scalar a) l → i ≤ j → start ts i ≤ l
  at_or_after_in no_members i j r a l g h = absurd g
  at_or_after_in (members t ts) zero j r a l g h = omega arith
  at_or_after_in (members t ts) (suc i) zero r a l g h = absurd (omega (arith, h))
  at_or_after_in (members t ts) (suc i) (suc j) r a l g h = omega (arith, g.2, at_or_after_in ts i j r a g.0 g.1 (omega (arith, h)))

mutual
  -- what is in a part before i stands before the part i begins
  before : (u : ObjectType) (i j : ℕ) (r : List ℕ) (a : IntType) (l : ℕ) → Leads u (j ∷ r) (Scalar a) l → j < i → l < begins u i
  before (Scalar b) i j r a l g h = absurd g
  before (Array k t) i j r a l g h = omega (arith, g.3, within t r (Scalar a) g.0 g.2, block_fits (cells t) j i h)
  before (Structure k ts) i j r a l g h = before_in ts i j r a l g h

  before_in : (ts : Members) (i j : ℕ) (r : List ℕ) (a : IntType) (l : ℕ) → LeadsIn ts j r (Scalar a) l → j < i → l < start ts i
  before_in no_members i j r a l g h = absurd g
  before_in (members t ts) zero j r a l g h = absurd (omega (arith, h))
  before_in (members t ts) (suc i) zero r a l g h = omega (arith, within t r (Scalar a) l g)
  before_in (members t ts) (suc i) (suc j) r a l g h = omega (arith, g.2, before_in ts i j r a g.0 g.1 (omega (arith, h)))

no_scalar : {X : Type 0} (u : ObjectType) (a : IntType) (n : ℕ) → HasParts u → Leads u [] (Scalar a) n → X
no_scalar (Scalar b) a n h l = absurd h
no_scalar (Array k t) a n h l = not_array k t a l.0
no_scalar (Structure k ts) a n h l = not_struct k ts a l.0

-- the rest of a list
pub same_zeroed : (ms : Members) (m : Store) (row : List (Option ℤ)) (p : List ℕ) (u : ObjectType) (n i : ℕ) → Same ms m row → Leads (whole ms) p u n → HasParts u → begins u i ≤ cells u → Same ms (zeroed p i m) (filled (n + begins u i) (cells u - begins u i) (Some (pos 0)) row)
same_zeroed ms m row p u n i h l parts fits = record { room = length_filled zero_cell at size row room ∙ h.room; same = λ q a k g. go q a k g (cases_Bool (is_below p q)); held = λ q a k g. suits q a k g (cases_Bool (is_below p q && starts_from i (rest p q))) }
  where
    suits : (q : List ℕ) (a : IntType) (k : ℕ) → Leads (whole ms) q (Scalar a) k → ((is_below p q && starts_from i (rest p q)) ≡ true) ⊎ ((is_below p q && starts_from i (rest p q)) ≡ false) → MayHold a (zeroed p i m q)
    suits q a k g (inl c) = subst (λ (x : Option ℤ). MayHold a x) (sym (zeroed_is p q i m true c)) (zero_fills (whole ms) q a k g)
    suits q a k g (inr c) = subst (λ (x : Option ℤ). MayHold a x) (sym (zeroed_is p q i m false c)) (h.held q a k g)

    zero_cell : Option ℤ
    zero_cell = Some (pos 0)

    at : ℕ
    at = n + begins u i

    size : ℕ
    size = cells u - begins u i

    room : n + begins u i + (cells u - begins u i) ≤ length row
    room = omega (arith, within (whole ms) p u n l, h.room, fits)

    part : (q : List ℕ) (a : IntType) (k : ℕ) → Leads (whole ms) q (Scalar a) k → is_below p q ≡ true → (j : ℕ) (r : List ℕ) → rest p q ≡ j ∷ r → (o : ℕ) → Leads u (j ∷ r) (Scalar a) o → k ≡ n + o → (j < i) ⊎ (i ≤ j) → slice_get (filled at size zero_cell row) k ≡ Some (zeroed p i m q)
    part q a k g b j r e o lead is (inl y) =
        let w = before u i j r a o lead y in
        let t : nat_lt j i ≡ true = grind (arith, nat_tests) in
        get_filled_under zero_cell at size row k room (omega (arith, is, w)) ∙ h.same q a k g
        ∙ ap Some (sym (zeroed_is p q i m false (in_parts p q i j r true b e t)))
    part q a k g b j r e o lead is (inr y) =
        let w = at_or_after u i j r a o lead y in
        let v = within u (j ∷ r) (Scalar a) o lead in
        let t : nat_lt j i ≡ false = grind (arith, nat_tests) in
        get_filled_in zero_cell at size row k room (omega (arith, is, w)) (omega (arith, is, v, fits))
        ∙ ap Some (sym (zeroed_is p q i m true (in_parts p q i j r false b e t)))

    inside : (q : List ℕ) (a : IntType) (k : ℕ) → Leads (whole ms) q (Scalar a) k → is_below p q ≡ true → (r : List ℕ) → rest p q ≡ r → (o : ℕ) → Leads u r (Scalar a) o → k ≡ n + o → slice_get (filled at size zero_cell row) k ≡ Some (zeroed p i m q)
    inside q a k g b [] e o lead is = no_scalar u a o parts lead
    inside q a k g b (j ∷ r) e o lead is = part q a k g b j r e o lead is (cases_lt j i)

    out : (q : List ℕ) (a : IntType) (k : ℕ) → Leads (whole ms) q (Scalar a) k → is_below p q ≡ false → (k < n) ⊎ (n ≤ k) → (k < n + cells u) ⊎ (n + cells u ≤ k) → slice_get (filled at size zero_cell row) k ≡ Some (m q)
    out q a k g b (inl y) z = get_filled_under zero_cell at size row k room (omega (arith, y)) ∙ h.same q a k g
    out q a k g b (inr y) (inl z) = false_true (sym b ∙ apart (whole ms) p u n q a k l g y z)
    out q a k g b (inr y) (inr z) = get_filled_over zero_cell at size row k room (omega (arith, z, fits)) ∙ h.same q a k g

    go : (q : List ℕ) (a : IntType) (k : ℕ) → Leads (whole ms) q (Scalar a) k → (is_below p q ≡ true) ⊎ (is_below p q ≡ false) → slice_get (filled at size zero_cell row) k ≡ Some (zeroed p i m q)
    go q a k g (inl b) =
        let z = split (whole ms) p u n q a k l g b in
        inside q a k g b (rest p q) refl z.0 z.1 z.2
    go q a k g (inr b) = out q a k g b (cases_lt k n) (cases_lt k (n + cells u)) ∙ ap Some (sym (zeroed_is p q i m false (ap (λ (d : Bool). d && starts_from i (rest p q)) b)))

pub kept : StoresAreKept
kept = record {
  is_put = same_put;
  is_copied = same_copy;
  is_zeroed = same_zeroed;
  begins_unset = same_enter;
  ends = same_leave;
}
