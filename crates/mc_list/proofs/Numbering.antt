-- The number of the line of a place is how many lines end before it, and one.
use Rattle.std.proofs.Common.{◌≡◌, ◌∙◌, ◌+◌, ◌-◌, ◌<◌, ◌≤◌, ℕ, zero, suc, Bool, true, false, cond, List, [], ◌∷◌, ◌++◌, length, take, get_or, refl, sym, ap, subst, arith, inl, inr}
use Rattle.std.specs.Prelude.{◌↔◌, Contains, count_by}
use Rattle.std.specs.List.{concat}
use Rattle.std.proofs.lemmas.Bool.{cases_lt}
use Rattle.std.proofs.lemmas.List.{length-append, append-nil}
use Rattle.std.proofs.lemmas.List.Sums.{sum_by-cons}
use Rattle.mc_lex.specs.Bytes.{is_line_end}
use Rattle.mc_lex.specs.Lines.{line_of}
use Rattle.mc_list.specs.Lines.{Placed, lines_of, placed_from, placed_lines}
use Rattle.mc_list.specs.Laws.{IsEnded, IsCut, AreLines}
use Rattle.mc_list.proofs.Joining.{whole, are_lines}

abbrev ends : List ℕ → ℕ
ends bs = count_by is_line_end bs

ends_first : (b : ℕ) (bs : List ℕ) → ends (b ∷ bs) ≡ cond (is_line_end b) 1 0 + ends bs
ends_first b bs = sum_by-cons (λ (x : ℕ). cond (is_line_end x) 1 0) b bs

not_one : (b : ℕ) (bs : List ℕ) → is_line_end b ≡ false → ends (b ∷ bs) ≡ ends bs
not_one b bs e =
    let none : ◌≡◌ {A = ℕ} (cond (is_line_end b) 1 0) 0 = ap (λ (t : Bool). cond t 1 0) e in
    omega (arith, none, ends_first b bs)

is_one : (b : ℕ) (bs : List ℕ) → is_line_end b ≡ true → ends (b ∷ bs) ≡ suc (ends bs)
is_one b bs e =
    let one : ◌≡◌ {A = ℕ} (cond (is_line_end b) 1 0) 1 = ap (λ (t : Bool). cond t 1 0) e in
    omega (arith, one, ends_first b bs)

-- no line ends before the last byte of one
ended_inside : (line rest : List ℕ) (a : ℕ) → IsEnded line → a < length line → ends (take a (line ++ rest)) ≡ 0
ended_inside [] rest a is lt = absurd is
ended_inside (b ∷ bs) rest zero is lt = refl
ended_inside (b ∷ []) rest (suc a) is lt = absurd (omega arith)
ended_inside (b ∷ c ∷ cs) rest (suc a) is lt = not_one b (take a ((c ∷ cs) ++ rest)) is.0 ∙ ended_inside (c ∷ cs) rest a is.1 (omega arith)

cut_inside : (line rest : List ℕ) (a : ℕ) → IsCut line → a < length line → ends (take a (line ++ rest)) ≡ 0
cut_inside [] rest a is lt = absurd is
cut_inside (b ∷ bs) rest zero is lt = refl
cut_inside (b ∷ []) rest (suc a) is lt = absurd (omega arith)
cut_inside (b ∷ c ∷ cs) rest (suc a) is lt = not_one b (take a ((c ∷ cs) ++ rest)) is.0 ∙ cut_inside (c ∷ cs) rest a is.1 (omega arith)

-- one ends with it
ended_past : (line rest : List ℕ) (a n : ℕ) → IsEnded line → n ≡ length line + a → ends (take n (line ++ rest)) ≡ suc (ends (take a rest))
ended_past [] rest a n is e = absurd is
ended_past (b ∷ bs) rest a zero is e = absurd (omega (arith, e))
ended_past (b ∷ []) rest a (suc n) is e =
    let same : n ≡ a = omega (arith, e) in
    is_one b (take n rest) is ∙ ap (λ (k : ℕ). suc (ends (take k rest))) same
ended_past (b ∷ c ∷ cs) rest a (suc n) is e = not_one b (take n ((c ∷ cs) ++ rest)) is.0 ∙ ended_past (c ∷ cs) rest a n is.1 (omega (arith, e))

-- the lines of a list begin at its start, and are numbered from its number on
later_lines : (number start : ℕ) (lines : List (List ℕ)) (k : ℕ) (line : Placed) → k < length (placed_from number start lines) → get_or (placed_from number start lines) k line ≡ line
    → (number ≤ line.number) × (start ≤ line.start)
later_lines number start [] k line lt is = absurd (omega arith)
later_lines number start (l ∷ ls) zero line lt is =
    let a : number ≡ line.number = ap (λ (p : Placed). p.number) is in
    let b : start ≡ line.start = ap (λ (p : Placed). p.start) is in
    (omega (arith, a), omega (arith, b))
later_lines number start (l ∷ ls) (suc k) line lt is =
    let rest = later_lines (number + 1) (start + length l) ls k line (omega arith) is in
    let a = rest.0 in
    let b = rest.1 in
    (omega (arith, a), omega (arith, b))

abbrev IsOn : Placed → ℕ → Type 0
IsOn line at = (line.start ≤ at) × (at < line.start + length line.bytes)

-- the place at `a` bytes after the start of these lines, with so many line ends before it
abbrev IsNumbered : ℕ → ℕ → List (List ℕ) → ℕ → ℕ → Type 0
IsNumbered number start lines a count =
    (k : ℕ) (line : Placed) → k < length (placed_from number start lines) → get_or (placed_from number start lines) k line ≡ line →
    IsOn line (start + a) ↔ (number + count ≡ line.number)

-- the first line has it
here : (number start : ℕ) (line : List ℕ) (lines : List (List ℕ)) (a count : ℕ) → a < length line → count ≡ 0 → IsNumbered number start (line ∷ lines) a count
here number start line lines a count lt none zero p within is =
    let n : number ≡ p.number = ap (λ (q : Placed). q.number) is in
    let s : start ≡ p.start = ap (λ (q : Placed). q.start) is in
    let b : length line ≡ length p.bytes = ap (λ (q : Placed). length q.bytes) is in
    (λ on. omega (arith, n, none), λ same. (omega (arith, s), omega (arith, s, b, lt)))
here number start line lines a count lt none (suc k) p within is =
    let later = later_lines (number + 1) (start + length line) lines k p (omega arith) is in
    let n = later.0 in
    let s = later.1 in
    (λ on. absurd (let low = on.0 in omega (arith, low, s, lt)), λ same. absurd (omega (arith, same, n, none)))

-- a later line has it
past : (number start : ℕ) (line : List ℕ) (lines : List (List ℕ)) (a b count : ℕ) → a ≡ length line + b → IsNumbered (number + 1) (start + length line) lines b count → IsNumbered number start (line ∷ lines) a (suc count)
past number start line lines a b count e rest zero p within is =
    let n : number ≡ p.number = ap (λ (q : Placed). q.number) is in
    let s : start ≡ p.start = ap (λ (q : Placed). q.start) is in
    let l : length line ≡ length p.bytes = ap (λ (q : Placed). length q.bytes) is in
    (λ on. absurd (let high = on.1 in omega (arith, high, s, l, e)), λ same. absurd (omega (arith, same, n)))
past number start line lines a b count e rest (suc k) p within is =
    let own = rest k p (omega arith) is in
    let at : (start + length line) + b ≡ start + a = omega (arith, e) in (
      λ on. (let number_is = own.0 (subst (λ (q : ℕ). IsOn p q) (sym at) on) in omega (arith, number_is)),
      λ same. subst (λ (q : ℕ). IsOn p q) at (own.1 (omega (arith, same))),
    )

numbered : (number start : ℕ) (lines : List (List ℕ)) (a : ℕ) → AreLines lines → a < length (concat lines) → IsNumbered number start lines a (ends (take a (concat lines)))
numbered number start [] a are lt = absurd (omega arith)
numbered number start (line ∷ []) a are lt =
    let all : line ++ [] ≡ line = append-nil line in
    let short : a < length line = omega (arith, ap length all) in
    here number start line [] a (ends (take a (line ++ []))) short (elim are [ inl ended ↦ ended_inside line [] a ended short | inr cut ↦ cut_inside line [] a cut short ])
numbered number start (line ∷ next ∷ lines) a are lt = elim (cases_lt a (length line)) [
  | inl less ↦ here number start line (next ∷ lines) a (ends (take a (line ++ concat (next ∷ lines)))) less (ended_inside line (concat (next ∷ lines)) a are.0 less)
  | inr more ↦
      (let b : ℕ = a - length line in
      let e : a ≡ length line + b = omega (arith, more) in
      let within : b < length (concat (next ∷ lines)) = omega (arith, lt, more, length-append line (concat (next ∷ lines))) in
      let rest = numbered (number + 1) (start + length line) (next ∷ lines) b are.1 within in
      let count : ends (take a (line ++ concat (next ∷ lines))) ≡ suc (ends (take b (concat (next ∷ lines)))) = ended_past line (concat (next ∷ lines)) b a are.0 e in
      subst (λ (n : ℕ). IsNumbered number start (line ∷ next ∷ lines) a n) (sym count) (past number start line (next ∷ lines) a b (ends (take b (concat (next ∷ lines)))) e rest))
]

pub on_line : (source : List ℕ) (line : Placed) (at : ℕ) → Contains (placed_lines source) line → at < length source → IsOn line at ↔ (line_of source at ≡ line.number)
on_line source line at has within =
    let all = numbered 1 0 (lines_of source) at (are_lines source) (omega (arith, within, ap length (whole source))) has.0 line has.1 has.2 in
    let same : 0 + at ≡ at = omega arith in
    let count : ends (take at (concat (lines_of source))) ≡ ends (take at source) = ap (λ (bs : List ℕ). ends (take at bs)) (whole source) in (
      λ on. ap (λ (n : ℕ). 1 + n) (sym count) ∙ all.0 (subst (λ (q : ℕ). IsOn line q) (sym same) on),
      λ is. subst (λ (q : ℕ). IsOn line q) same (all.1 (ap (λ (n : ℕ). 1 + n) count ∙ is)),
    )
