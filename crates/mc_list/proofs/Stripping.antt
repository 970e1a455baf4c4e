-- Lines after their margins, which have 12 bytes each and no LF.
use Rattle.std.proofs.Common.{◌≡◌, ◌∙◌, ◌+◌, ◌-◌, ◌%◌, ◌<◌, ◌≤◌, ◌^◌, ℕ, zero, suc, false, List, [], ◌∷◌, ◌++◌, length, drop, map, replicate, refl, ap, arith, inl, inr}
use Rattle.std.specs.Prelude.{flat_map, codes}
use Rattle.std.specs.Fmt.{decimal}
use Rattle.std.specs.List.{concat}
use Rattle.std.proofs.lemmas.Bool.Decides.{nat_tests}
use Rattle.std.proofs.lemmas.Fmt.{decimal_by_steps, length-decimal-le}
use Rattle.std.proofs.lemmas.List.{length-append, length-replicate, drop_at}
use Rattle.mc_limits.specs.Limits.{most_source_bytes}
use Rattle.mc_lex.specs.Bytes.{is_line_end}
use Rattle.mc_oblige.specs.declared.obligation.Obligation.{Obligation}
use Rattle.mc_oblige.specs.declared.verdict.Verdict.{Verdict}
use Rattle.mc_list.specs.declared.mark.Mark.{Mark}
use Rattle.mc_list.specs.declared.mark.Mark.TheVariants.{Clear, Met, Justified, Stale, Missing}
use Rattle.mc_list.specs.Lines.{Placed, lines_of, placed_from, stripped}
use Rattle.mc_list.specs.Marks.{byte_of, mark_on}
use Rattle.mc_list.specs.Listing.{in_places, margin, listed_line, listing}
use Rattle.mc_list.specs.Laws.{IsEnded, IsCut, AreLines}
use Rattle.mc_list.proofs.Joining.{whole, are_lines, split_again, few_lines}

-- ---- a margin has no LF

abbrev NoEnd : List ℕ → Type 0
NoEnd [] = Unit {0}
NoEnd (b ∷ bs) = (is_line_end b ≡ false) × NoEnd bs

no_end_both : (xs ys : List ℕ) → NoEnd xs → NoEnd ys → NoEnd (xs ++ ys)
no_end_both [] ys h k = k
no_end_both (x ∷ xs) ys h k = (h.0, no_end_both xs ys h.1 k)

no_end_spaces : (n : ℕ) → NoEnd (replicate n 32)
no_end_spaces zero = tt
no_end_spaces (suc n) = (refl, no_end_spaces n)

digit : (d : ℕ) → is_line_end (48 + d) ≡ false
digit d = grind (arith, nat_tests)

no_end_decimal : (n : ℕ) → n < 2 ^ 64 → NoEnd (decimal n)
no_end_decimal = decimal_by_steps (λ n ds. NoEnd ds) (λ n lt. (digit n, tt)) (λ n ds le h. no_end_both ds ((48 + n % 10) ∷ []) h (digit (n % 10), tt))

no_end_mark : (m : Mark) → is_line_end (byte_of m) ≡ false
no_end_mark Clear = refl
no_end_mark Met = refl
no_end_mark Justified = refl
no_end_mark Stale = refl
no_end_mark Missing = refl

no_end_margin : (n : ℕ) (m : Mark) → n < 2 ^ 64 → NoEnd (margin n m)
no_end_margin n m lt =
    no_end_both (in_places (decimal n)) (32 ∷ byte_of m ∷ codes " | ")
    (no_end_both (replicate (7 - length (decimal n)) 32) (decimal n) (no_end_spaces (7 - length (decimal n))) (no_end_decimal n lt))
    (refl, (no_end_mark m, (refl, (refl, (refl, tt)))))

-- ---- and 12 bytes

margin_length : (n : ℕ) (m : Mark) → n < 10 ^ 7 → length (margin n m) ≡ 12
margin_length n m small =
    let few : length (decimal n) ≤ 7 = length-decimal-le 7 n (omega arith) small (omega arith) in
    let all = length-append (in_places (decimal n)) (32 ∷ byte_of m ∷ codes " | ") in
    let front = length-append (replicate (7 - length (decimal n)) 32) (decimal n) in
    let spaces = length-replicate {A = ℕ} (7 - length (decimal n)) 32 in
    omega (arith, all, front, spaces, few)

-- ---- lines after margins are lines

front_ended : (front line : List ℕ) → NoEnd front → IsEnded line → IsEnded (front ++ line)
front_ended [] line h is = is
front_ended (b ∷ []) [] h is = absurd is
front_ended (b ∷ []) (c ∷ cs) h is = (h.0, is)
front_ended (b ∷ d ∷ ds) line h is = (h.0, front_ended (d ∷ ds) line h.1 is)

front_cut : (front line : List ℕ) → NoEnd front → IsCut line → IsCut (front ++ line)
front_cut [] line h is = is
front_cut (b ∷ []) [] h is = absurd is
front_cut (b ∷ []) (c ∷ cs) h is = (h.0, is)
front_cut (b ∷ d ∷ ds) line h is = (h.0, front_cut (d ∷ ds) line h.1 is)

module _ (os : List Obligation) (vs : List Verdict) where
  abbrev texts : ℕ → ℕ → List (List ℕ) → List (List ℕ)
  texts number start lines = map (listed_line os vs) (placed_from number start lines)

  abbrev place : ℕ → ℕ → List ℕ → Placed
  place number start line = record { number = number; start = start; bytes = line }

  texts_lines : (number start : ℕ) (lines : List (List ℕ)) → number + length lines < 2 ^ 64 → AreLines lines → AreLines (texts number start lines)
  texts_lines number start [] few are = tt
  texts_lines number start (line ∷ []) few are =
      let front = no_end_margin number (mark_on os vs (place number start line)) (omega arith) in
      elim are [
        | inl ended ↦ inl (front_ended (margin number (mark_on os vs (place number start line))) line front ended)
        | inr cut ↦ inr (front_cut (margin number (mark_on os vs (place number start line))) line front cut)
      ]
  texts_lines number start (line ∷ next ∷ lines) few are =
      let front = no_end_margin number (mark_on os vs (place number start line)) (omega arith) in (
        front_ended (margin number (mark_on os vs (place number start line))) line front are.0,
        texts_lines (number + 1) (start + length line) (next ∷ lines) (omega arith) are.1,
      )

  without : (number start : ℕ) (lines : List (List ℕ)) → number + length lines ≤ 10 ^ 7 → map (drop 12) (texts number start lines) ≡ lines
  without number start [] few = refl
  without number start (line ∷ lines) few =
      let mark = mark_on os vs (place number start line) in
      let own : drop 12 (margin number mark ++ line) ≡ line = drop_at (margin number mark) line 12 (margin_length number mark (omega arith)) in
      let rest = without (number + 1) (start + length line) lines (omega arith) in
      ap (λ (l : List ℕ). l ∷ map (drop 12) (texts (number + 1) (start + length line) lines)) own ∙ ap (λ (ls : List (List ℕ)). line ∷ ls) rest

  flat : (lines : List Placed) → flat_map (listed_line os vs) lines ≡ concat (map (listed_line os vs) lines)
  flat [] = refl
  flat (line ∷ lines) = ap (λ (bs : List ℕ). listed_line os vs line ++ bs) (flat lines)

  pub source_back : (source : List ℕ) → length source ≤ most_source_bytes → concat (stripped (listing source os vs)) ≡ source
  source_back source short =
      let lines = lines_of source in
      let few : length lines ≤ length source = few_lines source in
      let again : lines_of (listing source os vs) ≡ texts 1 0 lines =
      ap lines_of (flat (placed_from 1 0 lines)) ∙ split_again (texts 1 0 lines) (texts_lines 1 0 lines (omega arith) (are_lines source)) in
      ap (λ (ls : List (List ℕ)). concat (map (drop 12) ls)) again
      ∙ ap concat (without 1 0 lines (omega arith))
      ∙ whole source
