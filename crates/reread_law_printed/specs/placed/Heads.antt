-- What stands before the bodies of functions (C17 6.9, 6.9.1).
use Rattle.std.specs.Prelude.{◌≡◌, ◌⊎◌, Bool, true, false, ◌&&◌, ◌||◌, List, [], ◌∷◌, ◌++◌, codes}
use Rattle.std.specs.List.{list_any}
use Rattle.mc_lex.specs.Tokens.{Tok}
use Rattle.reread_pieces.specs.Words.{is}
use Rattle.mc_probe.specs.Tree as p
use Rattle.reread_law_rows.specs.inserted.Fits.{IsBalanced, is_bracket, last_is}
use Rattle.reread_law_printed.specs.parts.Stands.{AreAmong}

-- a `)` and a `{` directly after it
abbrev pub has_body : List Tok → Bool
has_body [] = false
has_body (t ∷ []) = false
has_body (t ∷ u ∷ ts) = is (codes ")") t && is (codes "{") u || has_body (u ∷ ts)

-- no specifier, and `*`, which is none
abbrev pub is_apart : Tok → Bool
is_apart t = is_bracket t || is (codes ";") t || is (codes "*") t

-- Before the name of a function its specifiers stand, in which there is no list, and before them
-- external declarations, each through its `;`. The name is no `;`, and after it the parameters
-- stand in one pair of parentheses.
pub record IsHead (before : List Tok) (name : Tok) (parameters : List Tok) : Type 0 where
  pub declarations : List Tok
  pub specifiers : List Tok
  pub all : before ≡ declarations ++ specifiers
  pub balanced : IsBalanced declarations
  pub ended : (declarations ≡ []) ⊎ (last_is (is (codes ";")) declarations ≡ true)
  pub no_body : has_body declarations ≡ false
  pub plain : list_any is_apart specifiers ≡ false
  pub named : is (codes ";") name ≡ false
  pub first : Tok
  pub between : List Tok
  pub last : Tok
  pub pair : parameters ≡ first ∷ between ++ last ∷ []
  pub opens : is (codes "(") first ≡ true
  pub closes : is (codes ")") last ≡ true
  pub within : IsBalanced between

-- Each function has such a head, and after the last one no body stands.
abbrev pub HaveHeads : (fs : List p.Function) (ts : List Tok) → AreAmong fs ts → Type 0
HaveHeads [] ts q = has_body ts ≡ false
HaveHeads (f ∷ rest) ts q =
    IsHead q.0.before q.0.name q.0.parameters × HaveHeads rest q.0.after q.1
