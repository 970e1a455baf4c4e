-- The values of constants are values of their types.
use Rattle.std.proofs.Common.{◌≡◌, ℕ, suc, ◌+◌, ◌-◌, ℤ, pos, List, [], ◌∷◌, ◌++◌, length, replicate, Option, Some, None, refl, ap, sym, ◌∙◌, subst, arith, append_assoc}
use Rattle.std.specs.Prelude.{unwrap_or}
use Rattle.std.proofs.lemmas.List.{length-append}
use Rattle.mc_value.specs.declared.int_type.IntType.{IntType}
use Rattle.mc_value.specs.declared.int_type.IntType.TheVariants as the
use Rattle.mc_value.specs.IntTypes.{InRange}
use Rattle.mc_typed.specs.Constants.{constant_value}
use Rattle.mc_typed.specs.Tree as t
use Rattle.mc_typed.specs.Sound.{type_of, IsExpression, AreInRange}
use Rattle.mc_typed.specs.Sound as sound
use Rattle.types_rules.specs.Initializers.{filled}
use Rattle.mc_typed.proofs.Values.{constant_within}
use Rattle.laws_soundness.proofs.Expressions.{in_range_is}

-- ---- values of constants

pub zero_within : (a : IntType) → InRange a (pos 0)
zero_within the.Bool = in_range_is the.Bool (pos 0) refl
zero_within the.Char = in_range_is the.Char (pos 0) refl
zero_within the.SChar = in_range_is the.SChar (pos 0) refl
zero_within the.UChar = in_range_is the.UChar (pos 0) refl
zero_within the.Short = in_range_is the.Short (pos 0) refl
zero_within the.UShort = in_range_is the.UShort (pos 0) refl
zero_within the.Int = in_range_is the.Int (pos 0) refl
zero_within the.UInt = in_range_is the.UInt (pos 0) refl
zero_within the.Long = in_range_is the.Long (pos 0) refl
zero_within the.ULong = in_range_is the.ULong (pos 0) refl
zero_within the.LLong = in_range_is the.LLong (pos 0) refl
zero_within the.ULLong = in_range_is the.ULLong (pos 0) refl

pub initial_within : (c : sound.Scope) (e : t.Expression) (a : IntType) → IsExpression e c
    → type_of e ≡ a → InRange a (unwrap_or (constant_value e) (pos 0))
initial_within c e a h k = by_value (constant_value e) refl
  where
    by_value : (o : Option ℤ) → constant_value e ≡ o → InRange a (unwrap_or o (pos 0))
    by_value None q = zero_within a
    by_value (Some v) q = subst (λ b. InRange b v) k (constant_within c e v h q)

-- ---- values of cells

pub within_append : (ts bs : List IntType) (us vs : List ℤ) → AreInRange ts us → AreInRange bs vs
    → AreInRange (ts ++ bs) (us ++ vs)
within_append [] bs [] vs h k = k
within_append [] bs (u ∷ us) vs h k = absurd h
within_append (a ∷ ts) bs [] vs h k = absurd h
within_append (a ∷ ts) bs (u ∷ us) vs h k = (h.0, within_append ts bs us vs h.1 k)

pub within_length : (ts : List IntType) (us : List ℤ) → AreInRange ts us → length us ≡ length ts
within_length [] [] h = refl
within_length [] (u ∷ us) h = absurd h
within_length (a ∷ ts) [] h = absurd h
within_length (a ∷ ts) (u ∷ us) h = ap suc (within_length ts us h.1)

zeros_within : (ts : List IntType) → AreInRange ts (replicate (length ts) (pos 0))
zeros_within [] = tt
zeros_within (a ∷ ts) = (zero_within a, zeros_within ts)

-- the first cells have these values
pub record AreFirst (all : List IntType) (vs : List ℤ) : Type 0 where
  pub first : List IntType
  pub rest : List IntType
  pub are : all ≡ first ++ rest
  pub within : AreInRange first vs

pub filled_within : (all : List IntType) (n : ℕ) (vs : List ℤ) → n ≡ length all → AreFirst all vs
    → AreInRange all (filled n vs)
filled_within all n vs e p =
    let total : n ≡ length p.first + length p.rest =
    e ∙ ap length p.are ∙ length-append p.first p.rest in
    let used : length vs ≡ length p.first = within_length p.first vs p.within in
    let left : n - length vs ≡ length p.rest = omega (arith, total, used) in
    subst (λ l. AreInRange l (filled n vs)) (sym p.are)
    (subst (λ k. AreInRange (p.first ++ p.rest) (vs ++ replicate k (pos 0))) (sym left)
    (within_append p.first p.rest vs (replicate (length p.rest) (pos 0)) p.within (zeros_within p.rest)))

pub none_first : (all : List IntType) → AreFirst all []
none_first all = record { first = []; rest = all; are = refl; within = tt }

pub more_first : (one all : List IntType) (us vs : List ℤ) → AreInRange one us → AreFirst all vs
    → AreFirst (one ++ all) (us ++ vs)
more_first one all us vs h p = record {
  first = one ++ p.first;
  rest = p.rest;
  are = ap (λ l. one ++ l) p.are ∙ sym (append_assoc one p.first p.rest);
  within = within_append one p.first us vs h p.within;
}
