-- Counts that are exact, and the types of the parts of an object.
use Rattle.std.proofs.Common.{◌≡◌, ℕ, zero, suc, ◌+◌, ◌*◌, ◌≤◌, ◌<◌, List, [], ◌∷◌, length, map, Some, subst, arith, suc-mul}
use Rattle.mc_typed.specs.Layout.{ObjectType, Array, cells, cells_all, nesting, nesting_all, members_from, member, start}
use Rattle.mc_typed.specs.Sound.{AreFormed}
use Rattle.mc_limits.specs.Limits.{most_nesting}
use Rattle.mc_value.specs.ObjectTypes.{most_cells}
use Rattle.types_rules.specs.Profile.{counted, most_counted}
use Rattle.types_rules.specs.Types.{Member, Structure, structures_from}
use Rattle.laws_soundness.specs.Fits.{World, AreFull, IsTypeIn, AreTypesIn, ListFits}

-- ---- counts

pub counted_small : (n : ℕ) → n ≤ most_counted → counted n ≡ n
counted_small n h = omega (arith, h)

pub counted_cells : (n : ℕ) → n ≤ most_cells → counted n ≡ n
counted_cells n h = omega (arith, h)

pub cells_exact : (all : List Structure) (u : ObjectType) → IsTypeIn all u → counted (cells u) ≡ cells u
cells_exact all u t = counted_cells (cells u) t.small

-- ---- elements

once_of : (n m : ℕ) → 1 ≤ n → m ≤ n * m
once_of zero m h = absurd (omega (arith, h))
once_of (suc n) m h = let e : suc n * m ≡ n * m + m = suc-mul n m in omega (arith, e)

pub element_in : (all : List Structure) (n : ℕ) (u : ObjectType) → IsTypeIn all (Array n u)
    → IsTypeIn all u
element_in all n u t =
    let one = once_of n (cells u) t.full.0 in
    let whole : n * cells u ≤ most_cells = t.small in
    let flat : nesting u + 1 ≤ most_nesting = t.flat in
    record {
      formed = λ few. (t.formed few).1;
      full = t.full.1;
      small = omega (arith, one, whole);
      flat = omega (arith, flat);
    }

-- ---- members

pub types_all : (all : List Structure) (us : List ObjectType)
    → (length all ≤ most_counted → AreFormed (structures_from 0 all) (members_from us))
    → AreFull (members_from us) → cells_all (members_from us) ≤ most_cells
    → nesting_all (members_from us) ≤ most_nesting → AreTypesIn all us
types_all all [] formed full small flat = tt
types_all all (u ∷ us) formed full small flat = (
  record {
    formed = λ few. (formed few).0;
    full = full.0;
    small = omega (arith, small);
    flat = omega (arith, flat);
  },
  types_all all us (λ few. (formed few).1) full.1 (omega (arith, small)) (omega (arith, flat)),
)

pub list_types : (w : World) (all : List Structure) (ms : List Member) → ListFits w all ms
    → AreTypesIn w.structures (map (λ m. m.layout) ms)
list_types w all ms list =
    let flat = list.flat in
    types_all w.structures (map (λ m. m.layout) ms) list.formed list.full list.small
    (omega (arith, flat))

pub member_in : (all : List Structure) (us : List ObjectType) (i : ℕ) (u : ObjectType)
    → AreTypesIn all us → member (members_from us) i ≡ Some u → IsTypeIn all u
member_in all [] i u h e = absurd (cc)
member_in all (v ∷ us) zero u h e =
    let same : v ≡ u = cc in subst (IsTypeIn all) same h.0
member_in all (v ∷ us) (suc i) u h e = member_in all us i u h.1 e

pub start_within : (us : List ObjectType) (i : ℕ)
    → start (members_from us) i ≤ cells_all (members_from us)
start_within [] i = omega arith
start_within (u ∷ us) zero = omega arith
start_within (u ∷ us) (suc i) = let below = start_within us i in omega (arith, below)

pub member_below : (us : List ObjectType) (i : ℕ) (u : ObjectType)
    → member (members_from us) i ≡ Some u → i < length us
member_below [] i u e = absurd (cc)
member_below (v ∷ us) zero u e = omega arith
member_below (v ∷ us) (suc i) u e = let below = member_below us i u e in omega (arith, below)
