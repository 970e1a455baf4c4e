-- Why it may be that no input reaches a vector: conditions with one text, and constants.
use Rattle.std.specs.Prelude.{ℕ, ◌+◌, not, if◌then◌else◌, Option, Some, None, List, [], ◌∷◌, ◌++◌, codes}
use Rattle.std.specs.List.{concat}
use Rattle.std.specs.Fmt.{decimal}
use Rattle.mc_span.specs.declared.span.Span.{Span}
use Rattle.mc_lex.specs.Tokens.{Tok}
use Rattle.needs_lines.specs.Needed.{newline}
use Rattle.needs_lines.specs.Parts.{are_same, has_name, tokens_in}

-- Conditions are numbered from 1.
abbrev pub one_text_line : (first later : ℕ) → List ℕ
one_text_line first later =
    concat (codes "  conditions " ∷ decimal first ∷ codes " and " ∷ decimal later
    ∷ codes " have one text"
    ∷ newline
    ∷ [])

abbrev pub one_text_lines : Option ℕ → ℕ → List (List ℕ)
one_text_lines None later = []
one_text_lines (Some first) later = one_text_line first later ∷ []

abbrev pub constant_line : ℕ → List ℕ
constant_line k = concat (codes "  condition " ∷ decimal k ∷ codes " is a constant" ∷ newline ∷ [])

module _ (tokens : List Tok) where
  -- the first of the conditions numbered from k that has the tokens of this one
  abbrev pub first_same : ℕ → List Span → Span → Option ℕ
  first_same k [] span = None
  first_same k (one ∷ spans) span =
      if are_same (tokens_in tokens one) (tokens_in tokens span) then Some k
      else first_same (k + 1) spans span

  -- for each condition that has the tokens of an earlier one, where k is the number of the next and
  -- `earlier` stand before it
  abbrev pub one_texts : (earlier : List Span) → ℕ → List Span → List (List ℕ)
  one_texts earlier k [] = []
  one_texts earlier k (span ∷ spans) =
      one_text_lines (first_same 1 earlier span) k
      ++ one_texts (earlier ++ span ∷ []) (k + 1) spans

  -- for each condition without a name
  abbrev pub constants : ℕ → List Span → List (List ℕ)
  constants k [] = []
  constants k (span ∷ spans) =
      (if not (has_name (tokens_in tokens span)) then constant_line k ∷ [] else [])
      ++ constants (k + 1) spans

  abbrev pub remark_lines : List Span → List (List ℕ)
  remark_lines spans = one_texts [] 1 spans ++ constants 1 spans
