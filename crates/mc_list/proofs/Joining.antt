-- Lines that are joined are split into the same lines again.
use Rattle.std.proofs.Common.{◌≡◌, ◌∙◌, ◌+◌, ◌≤◌, ℕ, suc, Bool, true, false, List, [], ◌∷◌, ◌++◌, length, refl, sym, ap, subst, arith, inl, inr, ◌⊎◌}
use Rattle.std.specs.Prelude.{if◌then◌else◌}
use Rattle.std.specs.List.{concat}
use Rattle.std.proofs.lemmas.List.{append-nil}
use Rattle.mc_lex.specs.Bytes.{is_line_end}
use Rattle.mc_list.specs.Lines.{with_byte, lines_of}
use Rattle.mc_list.specs.Laws.{IsEnded, IsCut, AreLines}

-- ---- joined they are the text

with_whole : (b : ℕ) (lines : List (List ℕ)) → concat (with_byte b lines) ≡ b ∷ concat lines
with_whole b [] = refl
with_whole b (line ∷ lines) = refl

whole_by : (ends : Bool) (b : ℕ) (bs : List ℕ) (lines : List (List ℕ)) → concat lines ≡ bs → concat (if ends then (b ∷ []) ∷ lines else with_byte b lines) ≡ b ∷ bs
whole_by true b bs lines e = ap (λ (xs : List ℕ). b ∷ xs) e
whole_by false b bs lines e = with_whole b lines ∙ ap (λ (xs : List ℕ). b ∷ xs) e

pub whole : (bs : List ℕ) → concat (lines_of bs) ≡ bs
whole [] = refl
whole (b ∷ bs) = whole_by (is_line_end b) b bs (lines_of bs) (whole bs)

-- ---- and each is a line

ended_after : (b : ℕ) (lines : List (List ℕ)) → is_line_end b ≡ true → AreLines lines → AreLines ((b ∷ []) ∷ lines)
ended_after b [] e are = inl e
ended_after b (line ∷ lines) e are = (e, are)

more_ended : (b : ℕ) (line : List ℕ) → is_line_end b ≡ false → IsEnded line → IsEnded (b ∷ line)
more_ended b [] e is = absurd is
more_ended b (c ∷ cs) e is = (e, is)

more_cut : (b : ℕ) (line : List ℕ) → is_line_end b ≡ false → IsCut line → IsCut (b ∷ line)
more_cut b [] e is = absurd is
more_cut b (c ∷ cs) e is = (e, is)

in_line : (b : ℕ) (lines : List (List ℕ)) → is_line_end b ≡ false → AreLines lines → AreLines (with_byte b lines)
in_line b [] e are = inr e
in_line b (line ∷ []) e are = elim are [ inl ended ↦ inl (more_ended b line e ended) | inr cut ↦ inr (more_cut b line e cut) ]
in_line b (line ∷ next ∷ lines) e are = (more_ended b line e are.0, are.1)

lines_by : (ends : Bool) (b : ℕ) (lines : List (List ℕ)) → is_line_end b ≡ ends → AreLines lines → AreLines (if ends then (b ∷ []) ∷ lines else with_byte b lines)
lines_by true b lines e are = ended_after b lines e are
lines_by false b lines e are = in_line b lines e are

pub are_lines : (bs : List ℕ) → AreLines (lines_of bs)
are_lines [] = tt
are_lines (b ∷ bs) = lines_by (is_line_end b) b (lines_of bs) refl (are_lines bs)

-- ---- no other lines are joined to the text

at_end : (ends : Bool) (b : ℕ) (lines : List (List ℕ)) → ends ≡ true → (if ends then (b ∷ []) ∷ lines else with_byte b lines) ≡ (b ∷ []) ∷ lines
at_end true b lines e = refl
at_end false b lines e = cc

inside : (ends : Bool) (b : ℕ) (lines : List (List ℕ)) → ends ≡ false → (if ends then (b ∷ []) ∷ lines else with_byte b lines) ≡ with_byte b lines
inside true b lines e = cc
inside false b lines e = refl

ended_first : (line rest : List ℕ) → IsEnded line → lines_of (line ++ rest) ≡ line ∷ lines_of rest
ended_first [] rest is = absurd is
ended_first (b ∷ []) rest is = at_end (is_line_end b) b (lines_of rest) is
ended_first (b ∷ c ∷ cs) rest is =
    inside (is_line_end b) b (lines_of ((c ∷ cs) ++ rest)) is.0
    ∙ ap (with_byte b) (ended_first (c ∷ cs) rest is.1)

cut_alone : (line : List ℕ) → IsCut line → lines_of line ≡ line ∷ []
cut_alone [] is = absurd is
cut_alone (b ∷ []) is = inside (is_line_end b) b [] is
cut_alone (b ∷ c ∷ cs) is = inside (is_line_end b) b (lines_of (c ∷ cs)) is.0 ∙ ap (with_byte b) (cut_alone (c ∷ cs) is.1)

last_alone : (line : List ℕ) → IsEnded line ⊎ IsCut line → lines_of line ≡ line ∷ []
last_alone line is = elim is [
  | inl ended ↦ subst (λ (bs : List ℕ). lines_of bs ≡ line ∷ []) (append-nil line) (ended_first line [] ended)
  | inr cut ↦ cut_alone line cut
]

pub split_again : (lines : List (List ℕ)) → AreLines lines → lines_of (concat lines) ≡ lines
split_again [] are = refl
split_again (line ∷ []) are = subst (λ (bs : List ℕ). lines_of bs ≡ line ∷ []) (sym (append-nil line)) (last_alone line are)
split_again (line ∷ next ∷ lines) are =
    ended_first line (concat (next ∷ lines)) are.0
    ∙ ap (λ (ls : List (List ℕ)). line ∷ ls) (split_again (next ∷ lines) are.1)

-- ---- no more lines than bytes

with_count : (b : ℕ) (lines : List (List ℕ)) → length (with_byte b lines) ≤ length lines + 1
with_count b [] = omega arith
with_count b (line ∷ lines) = omega arith

count_by : (ends : Bool) (b n : ℕ) (lines : List (List ℕ)) → length lines ≤ n → length (if ends then (b ∷ []) ∷ lines else with_byte b lines) ≤ suc n
count_by true b n lines le = omega arith
count_by false b n lines le = omega (arith, with_count b lines, le)

pub few_lines : (bs : List ℕ) → length (lines_of bs) ≤ length bs
few_lines [] = omega arith
few_lines (b ∷ bs) = count_by (is_line_end b) b (length bs) (lines_of bs) (few_lines bs)
