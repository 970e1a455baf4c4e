use Rattle.std.proofs.Common.{◌≡◌, ◌-◌, ℕ, zero, suc, List, [], ◌∷◌, ◌++◌, length, take, drop, refl, ap, arith, subst}
use Rattle.std.proofs.lemmas.Grind.{common_steps}
use Rattle.name_table.proofs.table.Table.take_from.Goals as goal

-- a list without its last elements, and these
apart_left : {A : Type 0} (xs ys : List A) (n : ℕ)
    → length xs ≡ length (xs ++ ys) - (length (xs ++ ys) - n) → xs ≡ take n (xs ++ ys)
apart_left [] [] zero h = refl
apart_left [] [] (suc n) h = refl
apart_left [] (y ∷ ys) zero h = refl
apart_left [] (y ∷ ys) (suc n) h = absurd (omega (arith, h))
apart_left (x ∷ xs) ys zero h = absurd (omega (arith, h))
apart_left (x ∷ xs) ys (suc n) h = ap (λ zs. x ∷ zs) (apart_left xs ys n (omega (arith, h)))

apart_later : {A : Type 0} (xs ys : List A) (n : ℕ)
    → length xs ≡ length (xs ++ ys) - (length (xs ++ ys) - n) → ys ≡ drop n (xs ++ ys)
apart_later [] [] zero h = refl
apart_later [] [] (suc n) h = refl
apart_later [] (y ∷ ys) zero h = refl
apart_later [] (y ∷ ys) (suc n) h = absurd (omega (arith, h))
apart_later (x ∷ xs) ys zero h = absurd (omega (arith, h))
apart_later (x ∷ xs) ys (suc n) h = apart_later xs ys n (omega (arith, h))

-- the same of a list that they make together
left_of : {A : Type 0} (xs ys zs : List A) (n : ℕ) → xs ++ ys ≡ zs
    → length xs ≡ length zs - (length zs - n) → xs ≡ take n zs
left_of xs ys zs n e h =
    subst (λ l. length xs ≡ length l - (length l - n) → xs ≡ take n l) e (apart_left xs ys n) h

later_of : {A : Type 0} (xs ys zs : List A) (n : ℕ) → xs ++ ys ≡ zs
    → length xs ≡ length zs - (length zs - n) → ys ≡ drop n zs
later_of xs ys zs n e h =
    subst (λ l. length xs ≡ length l - (length l - n) → ys ≡ drop n l) e (apart_later xs ys n) h

pub returns-clause-left : goal.returns-clause-left
returns-clause-left g c =
    let n : c.len.result ≡ length c.args.self.now = grind (arith, common_steps) in
    left_of c.loop.self _ c.args.self.now c.args.from c.loop.invariant.taken
    (omega (arith, n, c.loop.invariant.left, c.loop.auto.counter-end, c.loop-test.false, c.saturating_sub-more.ensures))

pub returns-clause-later : goal.returns-clause-later
returns-clause-later g c =
    let n : c.len.result ≡ length c.args.self.now = grind (arith, common_steps) in
    later_of c.loop.self _ c.args.self.now c.args.from c.loop.invariant.taken
    (omega (arith, n, c.loop.invariant.left, c.loop.auto.counter-end, c.loop-test.false, c.saturating_sub-more.ensures))
