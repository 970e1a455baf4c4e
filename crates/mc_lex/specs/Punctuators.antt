-- Punctuators (C17 6.4.6), and how the literals begin that are left out.
use Rattle.std.specs.Prelude.{ℕ, List, [], ◌∷◌, codes}

-- the punctuators that are kept
unfoldable pub punctuators : List (List ℕ)
punctuators =
    codes "[" ∷ codes "]" ∷ codes "(" ∷ codes ")" ∷ codes "{" ∷ codes "}" ∷ codes "." ∷ codes ","
    ∷ codes ";" ∷ codes ":" ∷ codes "?" ∷ codes "~" ∷ codes "!" ∷ codes "+" ∷ codes "-"
    ∷ codes "*" ∷ codes "/" ∷ codes "%" ∷ codes "&" ∷ codes "|" ∷ codes "^" ∷ codes "<"
    ∷ codes ">" ∷ codes "=" ∷ codes "++" ∷ codes "--" ∷ codes "<<" ∷ codes ">>" ∷ codes "<="
    ∷ codes ">=" ∷ codes "==" ∷ codes "!=" ∷ codes "&&" ∷ codes "||" ∷ codes "+=" ∷ codes "-="
    ∷ codes "*=" ∷ codes "/=" ∷ codes "%=" ∷ codes "&=" ∷ codes "|=" ∷ codes "^=" ∷ codes "<<="
    ∷ codes ">>=" ∷ []

-- the punctuators that are left out
unfoldable pub outside_punctuators : List (List ℕ)
outside_punctuators =
    codes "->" ∷ codes "..." ∷ codes "<:" ∷ codes ":>" ∷ codes "<%" ∷ codes "%>" ∷ codes "%:" ∷ []

-- how a string literal, a wide character constant and a wide string literal begin
-- (C17 6.4.5, 6.4.4.4): `"`, `L"`, `u"`, `U"`, `u8"`, `L'`, `u'` and `U'`
unfoldable pub literal_openings : List (List ℕ)
literal_openings =
    (34 ∷ []) ∷ (76 ∷ 34 ∷ []) ∷ (117 ∷ 34 ∷ []) ∷ (85 ∷ 34 ∷ []) ∷ (117 ∷ 56 ∷ 34 ∷ [])
    ∷ codes "L'" ∷ codes "u'" ∷ codes "U'" ∷ []
