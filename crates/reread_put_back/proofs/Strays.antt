-- Probes at no part of a program, taken away one after the other.
use Rattle.std.proofs.Common.{◌≡◌, ◌-◌, ◌+◌, ◌<◌, ◌≤◌, ◌∙◌, ℕ, suc, List, [], ◌∷◌, ◌++◌, length, drop, remove, Option, Some, None, refl, sym, ap, subst, arith, append-nil}
use Rattle.std.proofs.lemmas.List.{drop_all, take_all}
use Rattle.mc_typed.specs.Tree.{Program}
use Rattle.reread_pieces.specs.declared.placed.Placed.{Placed}
use Rattle.reread_put_back.specs.declared.judging.Stray.{Stray}
use Rattle.reread_put_back.specs.Back.{faults, first_fault, put_all}
use Rattle.reread_put_back.specs.Pens.{Pen, first_of}
use Rattle.reread_put_back.specs.steps.Strays.{first_of_both, stray_of}

-- where there is none at the position
pub removed_past : {X : Type 0} (xs : List X) (at : ℕ) → length xs ≤ at → xs ≡ remove xs at
removed_past xs at past = sym (append-nil xs) ∙ sym (ap (λ l. l ++ drop (suc at) xs) (take_all at xs past) ∙ ap (λ l. xs ++ l) (drop_all (suc at) xs (omega (arith, past))))

-- ---- one walk

pub stray_judged : (others : List Placed → Option ℕ) (placed left : List Placed) (fault : Option ℕ) (s : Stray) → stray_of placed left ≡ Some s → first_fault others placed left fault ≡ first_of s.word (others (remove placed s.at))
stray_judged others placed [] fault s is = absurd (cc is)
stray_judged others placed (q ∷ rest) fault s is =
    let same : record { at = length placed - length (q ∷ rest); word = q.word } ≡ s = cc in
    ap (λ (x : Stray). first_of x.word (others (remove placed x.at))) same

pub none_judged : (others : List Placed → Option ℕ) (placed left : List Placed) (fault : Option ℕ) → stray_of placed left ≡ None → first_fault others placed left fault ≡ fault
none_judged others placed [] fault is = refl
none_judged others placed (q ∷ rest) fault is = absurd (cc is)

-- ---- turn by turn

both_none : (found : Option ℕ) → first_of_both found None ≡ found
both_none None = refl
both_none (Some word) = refl

moved : (word : ℕ) (found later : Option ℕ) → first_of_both (first_of word found) later ≡ first_of_both found (first_of word later)
moved word None later = refl
moved word (Some other) None = ap Some (omega arith)
moved word (Some other) (Some third) = ap Some (omega arith)

module _ (x : Program) (most turn : ℕ) (less : turn < most) (found : Option ℕ) (placed : List Placed) where
  abbrev pen : Pen
  pen = (put_all x placed).1

  one_turn : faults (most - turn) x placed ≡ first_fault (faults (most - (turn + 1)) x) placed pen.left pen.fault
  one_turn = let more : most - turn ≡ suc (most - (turn + 1)) = omega (arith, less) in ap (λ n. faults n x placed) more

  pub turn_more : (s : Stray) → stray_of placed pen.left ≡ Some s → first_of_both found (faults (most - turn) x placed) ≡ first_of_both (first_of s.word found) (faults (most - (turn + 1)) x (remove placed s.at))
  turn_more s is =
      ap (first_of_both found) (one_turn ∙ stray_judged (faults (most - (turn + 1)) x) placed pen.left pen.fault s is)
      ∙ sym (moved s.word found (faults (most - (turn + 1)) x (remove placed s.at)))

  pub turn_last : stray_of placed pen.left ≡ None → first_of_both found (faults (most - turn) x placed) ≡ first_of_both found pen.fault
  turn_last is = ap (first_of_both found) (one_turn ∙ none_judged (faults (most - (turn + 1)) x) placed pen.left pen.fault is)

pub turns_over : (x : Program) (most turn : ℕ) (found : Option ℕ) (placed : List Placed) → most ≤ turn → first_of_both found (faults (most - turn) x placed) ≡ found
turns_over x most turn found placed over = let none : most - turn ≡ 0 = omega (arith, over) in ap (λ n. first_of_both found (faults n x placed)) none ∙ both_none found

-- ---- the code's own steps

module _ (x : Program) (most turn : ℕ) (less : turn < most) (found whole : Option ℕ) (placed tried : List Placed) (same : tried ≡ placed) where
  abbrev Left : Type 0
  Left = first_of_both found (faults (most - turn) x placed) ≡ whole

  abbrev Found : Option Stray → List Placed → Type 0
  Found stray ps = stray ≡ stray_of ps (put_all x ps).1.left

  pub ends_here : (stray : Option Stray) (fault result : Option ℕ) → Found stray tried → fault ≡ (put_all x tried).1.fault → stray ≡ None → result ≡ first_of_both found fault → Left → result ≡ whole
  ends_here stray fault result is faulty none given left =
      let P : List Placed → Type 0 = λ ps. (Found stray ps × (fault ≡ (put_all x ps).1.fault)) in
      let on = subst P same (is, faulty) in
      given ∙ ap (first_of_both found) on.1 ∙ sym (turn_last x most turn less found placed (sym on.0 ∙ none)) ∙ left

  pub goes_on : (stray : Option Stray) (s : Stray) (now : Option ℕ) (rest : List Placed) → Found stray tried → stray ≡ Some s → now ≡ first_of s.word found → rest ≡ remove placed s.at → Left → first_of_both now (faults (most - (turn + 1)) x rest) ≡ whole
  goes_on stray s now rest is some also removed left =
      let P : List Placed → Type 0 = λ ps. Found stray ps in
      let on = subst P same is in
      (λ i. first_of_both (also i) (faults (most - (turn + 1)) x (removed i))) ∙ sym (turn_more x most turn less found placed s (sym on ∙ some)) ∙ left
