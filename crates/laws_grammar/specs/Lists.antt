-- Readers of lists: a turn for each part, with the parts before it. Each loop has one turn more
-- than there are tokens.
use Rattle.std.specs.Prelude.{ℕ, zero, suc, ◌+◌, Bool, if◌then◌else◌, List, [], ◌∷◌, ◌++◌, length, codes}
use Rattle.mc_grammar.specs.Words.{Lexeme}
use Rattle.mc_grammar.specs.steps.Parsers.{Parser, ◌>>=◌, pure, refuse, ask, see, take}

-- parts with commas between them
abbrev pub comma_turn : {A : Type 0} → (List A → Parser (List A)) → Parser A → List A
    → Parser (List A)
comma_turn go one before = do
  part ← one
  more ← see (codes ",")
  if more then (do
    x ← take
    go (before ++ part ∷ [])) else pure (before ++ part ∷ [])

unfoldable pub comma_list : {A : Type 0} → ℕ → Parser A → List A → Parser (List A)
comma_list zero one before = refuse
comma_list (suc turns) one before = comma_turn (comma_list turns one) one before

-- parts with commas between them, and perhaps a last comma before a `}`
abbrev pub braced_turn : {A : Type 0} → (List A → Parser (List A)) → Parser A → List A
    → Parser (List A)
braced_turn go one before = do
  part ← one
  more ← see (codes ",")
  if more then (do
    x ← take
    ends ← see (codes "}")
    if ends then pure (before ++ part ∷ []) else go (before ++ part ∷ []))
      else pure (before ++ part ∷ [])

unfoldable pub braced_list : {A : Type 0} → ℕ → Parser A → List A → Parser (List A)
braced_list zero one before = refuse
braced_list (suc turns) one before = braced_turn (braced_list turns one) one before

-- a first part, and others as long as one can begin
abbrev pub some_turn : {A : Type 0} → (List A → Parser (List A)) → (List Lexeme → Bool) → Parser A
    → List A → Parser (List A)
some_turn go begins one before = do
  part ← one
  more ← ask begins
  if more then go (before ++ part ∷ []) else pure (before ++ part ∷ [])

unfoldable pub some_list : {A : Type 0} → ℕ → (List Lexeme → Bool) → Parser A → List A
    → Parser (List A)
some_list zero begins one before = refuse
some_list (suc turns) begins one before = some_turn (some_list turns begins one) begins one before

-- parts up to a token that ends them
abbrev pub until_turn : {A : Type 0} → (List A → Parser (List A)) → (List Lexeme → Bool) → Parser A
    → List A → Parser (List A)
until_turn go ends one before = do
  done ← ask ends
  if done then pure before else (do
    part ← one
    go (before ++ part ∷ []))

unfoldable pub until_list : {A : Type 0} → ℕ → (List Lexeme → Bool) → Parser A → List A
    → Parser (List A)
until_list zero ends one before = refuse
until_list (suc turns) ends one before = until_turn (until_list turns ends one) ends one before

-- all of a list, with turns enough
abbrev pub listed : {A : Type 0} → (ℕ → Parser A) → Parser A
listed list = λ ts. list (length ts + 1) ts
