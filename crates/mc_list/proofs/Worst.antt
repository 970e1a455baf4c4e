-- The mark of some places is that of the worst verdict on what starts at one of them.
use Rattle.std.proofs.Common.{◌≡◌, ◌∙◌, ◌+◌, ◌<◌, ◌≤◌, ℕ, Bool, true, false, List, [], ◌∷◌, length, refl, sym, ap, arith, inl, inr, ◌⊎◌}
use Rattle.std.specs.Prelude.{nat_le, nat_lt, ◌&&◌, if◌then◌else◌}
use Rattle.std.proofs.lemmas.Bool.Decides.{nat_tests}
use Rattle.mc_oblige.specs.declared.obligation.Obligation.{Obligation}
use Rattle.mc_oblige.specs.declared.verdict.Verdict.{Verdict}
use Rattle.mc_list.specs.Lines.{Placed}
use Rattle.mc_list.specs.declared.mark.Mark.{Mark}
use Rattle.mc_list.specs.declared.mark.Mark.TheVariants.{Clear}
use Rattle.mc_list.specs.Marks.{rank_of, mark_of, own_mark, mark_within, mark_on}
use Rattle.mc_list.specs.Laws.{IsJudged, IsWorst}
use Rattle.mc_list.proofs.Marking.{own_inside, first_more}

-- ---- none is worse

none_worse : (x y : ℕ) (os : List Obligation) (vs : List Verdict) (o : Obligation) (v : Verdict) → IsJudged os vs o v → x ≤ o.span.start → o.span.start < y → rank_of (mark_of v.state) ≤ rank_of (mark_within x y os vs)
none_worse x y [] vs o v is low high = absurd is
none_worse x y (p ∷ os) [] o v is low high = absurd is
none_worse x y (p ∷ os) (w ∷ vs) o v is low high =
    let first = first_more x y p w os vs in
    elim is [
      | inl same ↦
          (let at : p.span.start ≡ o.span.start = ap (λ (q : Obligation). q.span.start) same.0 in
          let rank : rank_of (mark_of w.state) ≡ rank_of (mark_of v.state) = ap (λ (u : Verdict). rank_of (mark_of u.state)) same.1 in
          let own = own_inside x y p.span.start (rank_of (mark_of w.state)) (omega (arith, low, at)) (omega (arith, high, at)) in
          omega (arith, first, own, rank))
      | inr later ↦ (let rest = none_worse x y os vs o v later low high in omega (arith, first, rest))
    ]

-- ---- and there is one

abbrev Found : ℕ → ℕ → List Obligation → List Verdict → Mark → Type 0
Found x y os vs mark = (o : Obligation) × (v : Verdict) × IsJudged os vs o v × (x ≤ o.span.start) × (o.span.start < y) × (mark_of v.state ≡ mark)

by_worse : (t : Bool) (a b : Mark) → ((if t then b else a) ≡ a) ⊎ ((if t then b else a) ≡ b)
by_worse true a b = inr refl
by_worse false a b = inl refl

by_own : (t : Bool) (m : Mark) → ((if t then m else Clear) ≡ Clear) ⊎ ((t ≡ true) × ((if t then m else Clear) ≡ m))
by_own true m = inr (refl, refl)
by_own false m = inl refl

low_end : (x y at : ℕ) → (nat_le x at && nat_lt at y) ≡ true → x ≤ at
low_end x y at e = grind (arith, nat_tests)

high_end : (x y at : ℕ) → (nat_le x at && nat_lt at y) ≡ true → at < y
high_end x y at e = grind (arith, nat_tests)

own_found : (x y : ℕ) (o : Obligation) (v : Verdict) (os : List Obligation) (vs : List Verdict) (mark : Mark) → mark ≡ own_mark x y o.span.start (mark_of v.state) → (mark ≡ Clear) ⊎ Found x y (o ∷ os) (v ∷ vs) mark
own_found x y o v os vs mark e = elim (by_own (nat_le x o.span.start && nat_lt o.span.start y) (mark_of v.state)) [
  | inl none ↦ inl (e ∙ none)
  | inr own ↦ inr (o, v, inl (refl, refl), low_end x y o.span.start own.0, high_end x y o.span.start own.0, sym (e ∙ own.1))
]

later_found : (x y : ℕ) (o : Obligation) (v : Verdict) (os : List Obligation) (vs : List Verdict) (mark rest : Mark) → mark ≡ rest → (rest ≡ Clear) ⊎ Found x y os vs rest → (mark ≡ Clear) ⊎ Found x y (o ∷ os) (v ∷ vs) mark
later_found x y o v os vs mark rest e found = elim found [
  | inl none ↦ inl (e ∙ none)
  | inr some ↦ (let (p, w, is, low, high, own) = some in inr (p, w, inr is, low, high, own ∙ sym e))
]

found : (x y : ℕ) (os : List Obligation) (vs : List Verdict) → (mark_within x y os vs ≡ Clear) ⊎ Found x y os vs (mark_within x y os vs)
found x y [] vs = inl refl
found x y (o ∷ os) [] = inl refl
found x y (o ∷ os) (v ∷ vs) =
    let own : Mark = own_mark x y o.span.start (mark_of v.state) in
    let rest : Mark = mark_within x y os vs in
    elim (by_worse (nat_lt (rank_of own) (rank_of rest)) own rest) [
      | inl first ↦ own_found x y o v os vs (mark_within x y (o ∷ os) (v ∷ vs)) first
      | inr later ↦ later_found x y o v os vs (mark_within x y (o ∷ os) (v ∷ vs)) rest later (found x y os vs)
    ]

pub is_worst : (os : List Obligation) (vs : List Verdict) (line : Placed) → IsWorst os vs line (mark_on os vs line)
is_worst os vs line = record {
  none_worse = λ o v is low high. none_worse line.start (line.start + length line.bytes) os vs o v is low high;
  one = found line.start (line.start + length line.bytes) os vs;
}
