-- The value of a condition that has influence, by the bits of the path's masks.
use mathlib.Core.Bool.{beq}
use Rattle.std.proofs.Common.{◌≡◌, ℕ, ◌<◌, Bool, true, false, Option, Some, sym, ap, subst, ◌∙◌, refl}
use Rattle.std.specs.Prelude.{◌↔◌, IsTrue, slice_get}
use Rattle.mc_cond.specs.Tree.{Tree, IsNumbered}
use Rattle.mc_cond.specs.Vectors.{Evaluation}
use Rattle.mc_cond.specs.Influence.{HasInfluence}
use Rattle.mc_cond.proofs.Flips.{evaluated_with}
use Rattle.mc_paths.specs.Paths.{IsPath, IsInUse}
use Rattle.mc_paths.proofs.Numbers.{vector_once}
use Rattle.mc_pairs.specs.Pairs.{HasInfluenceAs}

-- a test that says exactly where an answer is true, of an answer that is known
value_is : (set value : Bool) (answer : Option (Option Bool)) → (IsTrue set ↔ (answer ≡ Some (Some true))) → answer ≡ Some (Some value) → set ≡ value
value_is true true answer exact is = refl
value_is true false answer exact is = let f : Some (Some false) ≡ Some (Some true) = sym is ∙ exact.0 refl in cc
value_is false true answer exact is = let f : false ≡ true = exact.1 is in cc
value_is false false answer exact is = refl

pub beq_same : (x y : Bool) → IsTrue (beq x y) ↔ (x ≡ y)
beq_same true true = (λ e. refl, λ e. refl)
beq_same false false = (λ e. refl, λ e. refl)
beq_same true false = (λ e. cc, λ e. cc)
beq_same false true = (λ e. cc, λ e. cc)

-- a path in which a condition has influence is in use
pub used : (t : Tree) (k path : ℕ) (x : Bool) → HasInfluenceAs t k x path → IsInUse t path
used t k path x p = (p.v, p.is_path)

pub idle_value : (t : Tree) (k path : ℕ) → ¬ IsInUse t path → (x : Bool) → IsTrue false ↔ HasInfluenceAs t k x path
idle_value t k path idle x = (λ e. cc, λ p. absurd (idle (used t k path x p)))

module _ (t : Tree) (k path : ℕ) (v : Evaluation) (n : IsNumbered t) (is : IsPath t path v) where
  own_vector : (w : Evaluation) → IsPath t path w → w ≡ v
  own_vector w p = vector_once t w v p.vector is.vector (p.number ∙ sym is.number)

  pub as_value : (set : Bool) → (IsTrue set ↔ (slice_get v.answers k ≡ Some (Some true))) → HasInfluence t k v → (x : Bool) → IsTrue (beq set x) ↔ HasInfluenceAs t k x path
  as_value set on h x =
      let known : slice_get v.answers k ≡ Some (Some (h.row k)) = evaluated_with t k v h.row n is.vector h.completion h.changes in
      let same : set ≡ h.row k = value_is set (h.row k) (slice_get v.answers k) on known in (
        λ e. record { v = v; is_path = is; answer = known ∙ ap (λ y. Some (Some y)) (sym same ∙ (beq_same set x).0 e); influence = h },
        λ p. let P : Evaluation → Type 0 = λ w. slice_get w.answers k ≡ Some (Some x) in
            (beq_same set x).1 (value_is set x (slice_get v.answers k) on (subst P (own_vector p.v p.is_path) p.answer)),
      )

  pub no_value : ¬ HasInfluence t k v → (x : Bool) → IsTrue false ↔ HasInfluenceAs t k x path
  no_value none x = (
    λ e. cc,
    λ p. let P : Evaluation → Type 0 = λ w. HasInfluence t k w in
        absurd (none (subst P (own_vector p.v p.is_path) p.influence)),
  )
