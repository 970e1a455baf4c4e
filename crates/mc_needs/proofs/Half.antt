-- A pair of which one path is marked, where no pair has both marked; and what is made of it.
use Rattle.std.proofs.Common.{ℕ, Bool, true, false, Option, Some, None, List, inl, inr}
use Rattle.std.specs.Prelude.{IfSome, IfNone}
use Rattle.mc_cond.specs.Tree.{Tree, IsNumbered}
use Rattle.mc_paths.specs.Paths.{count_of}
use Rattle.mc_pairs.specs.Pairs.{NonePaired, IsChosen}
use Rattle.report_options.specs.declared.mode.Mode.{Mode}
use Rattle.mc_oblige.specs.Evidence.{pairs_of}
use Rattle.mc_needs.specs.Needs.{IsUnpaired, IsLeastPair, IsHalfKnown, NeedsOne}
use Rattle.mc_needs.specs.steps.Marks.{IsMarked}
use Rattle.mc_needs.specs.steps.Among.{AreAmong, IsMember}
use Rattle.mc_needs.specs.steps.Pairing.{lesser_of, IsLeastIfAny}
use Rattle.mc_needs.proofs.Pairs.{below_first, below_second, any_order, FirstKnown, SecondKnown, by_first, none_first, by_second, none_second}
use Rattle.mc_needs.proofs.Lesser.{lesser}

module _ (mode : Mode) (t : Tree) (k : ℕ) (n : IsNumbered t) (marks : List Bool) (base : ℕ) where
  abbrev Half : ℕ → ℕ → Type 0
  Half = IsHalfKnown mode t k (IsMarked marks base)

  abbrev Chosen : List ℕ → Option (ℕ × ℕ) → Type 0
  Chosen paths o = IfSome o (λ pair. IsChosen (pairs_of mode t k) t paths k pair.0 pair.1) × IfNone o (NonePaired (pairs_of mode t k) t paths)

  first_if : (paths : List ℕ) → AreAmong (IsMember t marks base k false) (count_of t) paths → (o : Option (ℕ × ℕ)) → Chosen paths o → IsLeastIfAny (FirstKnown mode t k n marks base) o
  first_if paths list None h = none_first mode t k n marks base paths list h.1
  first_if paths list (Some pair) h = by_first mode t k n marks base paths list pair.0 pair.1 h.0

  second_if : (paths : List ℕ) → AreAmong (IsMember t marks base k true) (count_of t) paths → (o : Option (ℕ × ℕ)) → Chosen paths o → IsLeastIfAny (SecondKnown mode t k n marks base) o
  second_if paths list None h = none_second mode t k n marks base paths list h.1
  second_if paths list (Some pair) h = by_second mode t k n marks base paths list pair.0 pair.1 h.0

  pub marked_unpaired : (paths : List ℕ) → AreAmong (IsMarked marks base) (count_of t) paths → NonePaired (pairs_of mode t k) t paths → IsUnpaired mode t k (IsMarked marks base)
  marked_unpaired paths list none p q a b pair =
      none p q ((list.each p).1 (below_first mode t k p q pair, a)) ((list.each q).1 (below_second mode t k p q pair, b)) (any_order mode t k p q pair)

  pub half_of : (missing : IsUnpaired mode t k (IsMarked marks base)) (xs ys : List ℕ) → AreAmong (IsMember t marks base k false) (count_of t) xs → AreAmong (IsMember t marks base k true) (count_of t) ys
      → (one other : Option (ℕ × ℕ)) → Chosen xs one → Chosen ys other → IsLeastIfAny Half (lesser_of one other)
  half_of missing xs ys first second one other h g =
      lesser (FirstKnown mode t k n marks base) (SecondKnown mode t k n marks base) Half
      (λ p q f. record { paired = f.0; half = inl (f.1, λ own. missing p q f.1 own f.0) })
      (λ p q f. record { paired = f.0; half = inr (λ own. missing p q own f.1 f.0, f.1) })
      (λ p q is. elim is.half [ inl one ↦ inl (is.paired, one.0) | inr two ↦ inr (is.paired, two.1) ])
      one other (first_if xs first one h) (second_if ys second other g)

module _ (mode : Mode) (t : Tree) (k : ℕ) (marks : List Bool) (base first second : ℕ) (h : IsLeastPair (IsHalfKnown mode t k (IsMarked marks base)) first second) where
  pub first_marked : IsMarked marks base first → NeedsOne mode t k (IsMarked marks base) second first
  first_marked own = elim h.so.half [
    | inl one ↦ record { new = one.1; old = own; least = inr h }
    | inr two ↦ absurd (two.0 own)
  ]

  pub second_marked : ¬ IsMarked marks base first → NeedsOne mode t k (IsMarked marks base) first second
  second_marked own = elim h.so.half [
    | inl one ↦ absurd (own one.0)
    | inr two ↦ record { new = own; old = two.1; least = inl h }
  ]
