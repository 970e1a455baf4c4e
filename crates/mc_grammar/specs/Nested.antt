-- Structures inside one another: `int a;`, `struct { int a; } a;`,
-- `struct { struct { int a; } a; } a;` and so on; or, where the innermost member has a length,
-- `struct { int a[1]; } a;`, `struct { struct { int a[1]; } a; } a;` and so on.
use Rattle.std.specs.Prelude.{ℕ, zero, suc, ◌+◌, Bool, true, false, List, [], ◌∷◌, codes}
use Rattle.mc_lex.specs.Tokens.{Tok}
use Rattle.mc_grammar.specs.Samples.{keyword, word_of, punctuator, number}

-- The type of the outermost `a` is an innermost type, `int` or `struct { int a[1]; }`, with so many
-- structures around it. How many bytes it has.
unfoldable pub width : Bool → ℕ → ℕ
width false zero = 3
width true zero = 20
width sized (suc k) = width sized k + 14

-- its tokens from this place on, and after them these
unfoldable pub nested : Bool → ℕ → ℕ → List Tok → List Tok
nested false zero place rest = keyword (codes "int") place ∷ rest
nested true zero place rest =
    keyword (codes "struct") place ∷ punctuator (codes "{") (place + 7)
    ∷ keyword (codes "int") (place + 9) ∷ word_of (codes "a") (place + 13)
    ∷ punctuator (codes "[") (place + 14) ∷ number 1 (codes "1") (place + 15)
    ∷ punctuator (codes "]") (place + 16) ∷ punctuator (codes ";") (place + 17)
    ∷ punctuator (codes "}") (place + 19) ∷ rest
nested sized (suc k) place rest =
    keyword (codes "struct") place ∷ punctuator (codes "{") (place + 7)
    ∷ nested sized k (place + 9)
    (word_of (codes "a") (place + 10 + width sized k)
    ∷ punctuator (codes ";") (place + 11 + width sized k)
    ∷ punctuator (codes "}") (place + 13 + width sized k) ∷ rest)

-- the text
abbrev pub nested_tokens : Bool → ℕ → List Tok
nested_tokens sized k = nested sized k 0
    (word_of (codes "a") (1 + width sized k) ∷ punctuator (codes ";") (2 + width sized k) ∷ [])

-- how high its tree is: one for each structure, and one for the length
abbrev pub nested_height : Bool → ℕ → ℕ
nested_height false k = k
nested_height true k = k + 2
