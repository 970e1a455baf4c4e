-- The pairs of a condition: both paths have influence of it, so a pair with a marked path is one of
-- the paths of a list that has the marked ones and those that can be the other member.
use Rattle.std.proofs.Common.{◌≡◌, ℕ, ◌<◌, Bool, true, false, Some, List, sym, subst, ◌∙◌, inl, inr}
use Rattle.std.specs.Prelude.{slice_get, Contains}
use Rattle.mc_cond.specs.Tree.{Tree, size, IsNumbered}
use Rattle.mc_cond.specs.Vectors.{Evaluation}
use Rattle.mc_paths.specs.Paths.{count_of}
use Rattle.mc_paths.proofs.Numbers.{in_use_below, vector_once}
use Rattle.mc_pairs.specs.Pairs.{ArePaired, NonePaired, IsChosen, HasInfluenceAs}
use Rattle.mc_unique.proofs.Pairs as unique
use Rattle.mc_masking.proofs.Pairs as masking
use Rattle.report_options.specs.declared.mode.Mode.{Mode}
use Rattle.report_options.specs.declared.mode.Mode.TheVariants.{Unique, Masking}
use Rattle.mc_oblige.specs.Evidence.{pairs_of}
use Rattle.mc_needs.specs.Needs.{IsPairFor, IsLeastPair}
use Rattle.mc_needs.specs.steps.Marks.{IsMarked}
use Rattle.mc_needs.specs.steps.Among.{AreAmong, IsAny, IsMember}
use Rattle.mc_needs.proofs.Having.{has_pair}

pub first_has : (mode : Mode) (t : Tree) (k : ℕ) → IsNumbered t → (p q : ℕ) → IsPairFor mode t k p q → HasInfluenceAs t k true p
first_has Unique t k n p q h =
    record { v = h.v; is_path = h.first_path; answer = h.shown.0; influence = unique.first_influence t k h.v h.w n h.first_path.vector h.second_path.vector h.shown.2 }
first_has Masking t k n p q h =
    record { v = h.v; is_path = h.first_path; answer = h.shown.0; influence = masking.first_influence t k h.v h.w h.shown.2 }

pub second_has : (mode : Mode) (t : Tree) (k : ℕ) → IsNumbered t → (p q : ℕ) → IsPairFor mode t k p q → HasInfluenceAs t k false q
second_has Unique t k n p q h =
    record { v = h.w; is_path = h.second_path; answer = h.shown.1; influence = unique.second_influence t k h.v h.w n h.first_path.vector h.second_path.vector h.shown.2 }
second_has Masking t k n p q h =
    record { v = h.w; is_path = h.second_path; answer = h.shown.1; influence = masking.second_influence t k h.v h.w h.shown.2 }

-- no path has the condition both true and false
not_both : (t : Tree) (k p : ℕ) → HasInfluenceAs t k true p → HasInfluenceAs t k false p → ⊥
not_both t k p on off =
    let same : on.v ≡ off.v = vector_once t on.v off.v on.is_path.vector off.is_path.vector (on.is_path.number ∙ sym off.is_path.number) in
    let P : Evaluation → Type 0 = λ v. slice_get v.answers k ≡ Some (Some true) in
    let f : Some (Some true) ≡ Some (Some false) = sym (subst P same on.answer) ∙ off.answer in
    cc

pub any_order : (mode : Mode) (t : Tree) (k p q : ℕ) → IsPairFor mode t k p q → ArePaired (pairs_of mode t k) t p q
any_order mode t k p q h = record { v = h.v; w = h.w; first_path = h.first_path; second_path = h.second_path; shown = h.shown.2 }

pub below_first : (mode : Mode) (t : Tree) (k p q : ℕ) → IsPairFor mode t k p q → p < count_of t
below_first mode t k p q h = in_use_below t p (h.v, h.first_path)

pub below_second : (mode : Mode) (t : Tree) (k p q : ℕ) → IsPairFor mode t k p q → q < count_of t
below_second mode t k p q h = in_use_below t q (h.w, h.second_path)

module _ (mode : Mode) (t : Tree) (k : ℕ) (n : IsNumbered t) where
  abbrev pub Pair : ℕ → ℕ → Type 0
  Pair p q = IsPairFor mode t k p q

  -- ---- all paths

  module _ (paths : List ℕ) (all : AreAmong IsAny (count_of t) paths) where
    inside : (p q : ℕ) → Pair p q → Contains paths p × Contains paths q
    inside p q h = ((all.each p).1 (below_first mode t k p q h, tt), (all.each q).1 (below_second mode t k p q h, tt))

    pub least_of_all : (first second : ℕ) → IsChosen (pairs_of mode t k) t paths k first second → IsLeastPair (IsPairFor mode t k) first second
    least_of_all first second h = record { so = h.paired; least = λ p q pair. h.least p q (inside p q pair).0 (inside p q pair).1 pair }

    pub never_none : k < size t → NonePaired (pairs_of mode t k) t paths → ⊥
    never_none lt none =
        let pair : (first : ℕ) × (second : ℕ) × IsPairFor mode t k first second = has_pair mode t k n lt in
        let in_it : Contains paths pair.0 × Contains paths pair.1 = inside pair.0 pair.1 pair.2 in
        none pair.0 pair.1 in_it.0 in_it.1 (any_order mode t k pair.0 pair.1 pair.2)

  -- ---- a pair with a marked path

  module _ (marks : List Bool) (base : ℕ) where
    abbrev pub Known : ℕ → Type 0
    Known = IsMarked marks base

    abbrev pub FirstKnown : ℕ → ℕ → Type 0
    FirstKnown p q = Pair p q × Known p

    abbrev pub SecondKnown : ℕ → ℕ → Type 0
    SecondKnown p q = Pair p q × Known q

    module _ (paths : List ℕ) (list : AreAmong (IsMember t marks base k false) (count_of t) paths) where
      in_first : (p q : ℕ) → FirstKnown p q → Contains paths p × Contains paths q
      in_first p q h = (
        (list.each p).1 (below_first mode t k p q h.0, inl h.1),
        (list.each q).1 (below_second mode t k p q h.0, inr (second_has mode t k n p q h.0)),
      )

      known_first : (first second : ℕ) → Pair first second → Contains paths first → Known first
      known_first first second pair c = elim ((list.each first).0 c).1 [
        | inl marked ↦ marked
        | inr off ↦ absurd (not_both t k first (first_has mode t k n first second pair) off)
      ]

      pub by_first : (first second : ℕ) → IsChosen (pairs_of mode t k) t paths k first second → IsLeastPair FirstKnown first second
      by_first first second h = record {
        so = (h.paired, known_first first second h.paired h.first_seen);
        least = λ p q f. h.least p q (in_first p q f).0 (in_first p q f).1 f.0;
      }

      pub none_first : NonePaired (pairs_of mode t k) t paths → (p q : ℕ) → ¬ FirstKnown p q
      none_first none p q f = none p q (in_first p q f).0 (in_first p q f).1 (any_order mode t k p q f.0)

    module _ (paths : List ℕ) (list : AreAmong (IsMember t marks base k true) (count_of t) paths) where
      in_second : (p q : ℕ) → SecondKnown p q → Contains paths p × Contains paths q
      in_second p q h = (
        (list.each p).1 (below_first mode t k p q h.0, inr (first_has mode t k n p q h.0)),
        (list.each q).1 (below_second mode t k p q h.0, inl h.1),
      )

      known_second : (first second : ℕ) → Pair first second → Contains paths second → Known second
      known_second first second pair c = elim ((list.each second).0 c).1 [
        | inl marked ↦ marked
        | inr on ↦ absurd (not_both t k second on (second_has mode t k n first second pair))
      ]

      pub by_second : (first second : ℕ) → IsChosen (pairs_of mode t k) t paths k first second → IsLeastPair SecondKnown first second
      by_second first second h = record {
        so = (h.paired, known_second first second h.paired h.second_seen);
        least = λ p q f. h.least p q (in_second p q f).0 (in_second p q f).1 f.0;
      }

      pub none_second : NonePaired (pairs_of mode t k) t paths → (p q : ℕ) → ¬ SecondKnown p q
      none_second none p q f = none p q (in_second p q f).0 (in_second p q f).1 (any_order mode t k p q f.0)
