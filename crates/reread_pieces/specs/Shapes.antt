-- What the rows of the table insert, token by token. A `#` stands for a number: it is no token of
-- C.
use Rattle.std.specs.Prelude.{ℕ, zero, suc, nat_le, ◌==◌, Bool, true, false, not, ◌&&◌, ◌||◌, List}
use Rattle.std.specs.Prelude.{[], ◌∷◌, codes, if◌then◌else◌}
use Rattle.std.specs.Str.{bytes_eq}
use Rattle.mc_lex.specs.declared.token.TokenKind.{TokenKind}
use Rattle.mc_lex.specs.declared.token.TokenKind.TheVariants as kind
use Rattle.mc_lex.specs.Tokens.{Tok}

-- ---- the rows

-- an entry, an exit, a counted declaration
unfoldable pub hit : List (List ℕ)
hit = codes "MCDC_H" ∷ codes "(" ∷ codes "#" ∷ codes ")" ∷ codes ";" ∷ []

-- the registers of a function
unfoldable pub registers : List (List ℕ)
registers =
    codes "unsigned" ∷ codes "mcdc_r" ∷ codes "[" ∷ codes "#" ∷ codes "]" ∷ codes ";" ∷ []

-- a label, an absent `default`: the register and the bit
unfoldable pub label : List (List ℕ)
label =
    codes "MCDC_L" ∷ codes "(" ∷ codes "#" ∷ codes "," ∷ codes "#" ∷ codes ")" ∷ codes ";" ∷ []

-- before a counted statement
unfoldable pub statement : List (List ℕ)
statement =
    codes "{" ∷ codes "MCDC_H" ∷ codes "(" ∷ codes "#" ∷ codes ")" ∷ codes ";" ∷ []

-- after the value of a `return`
unfoldable pub value_end : List (List ℕ)
value_end =
    codes ";" ∷ codes "MCDC_H" ∷ codes "(" ∷ codes "#" ∷ codes ")" ∷ codes ";" ∷ codes "return"
    ∷ codes "mcdc_v" ∷ codes ";" ∷ codes "}" ∷ []

-- a `return` without a value
unfoldable pub bare_return : List (List ℕ)
bare_return =
    codes "{" ∷ codes "MCDC_H" ∷ codes "(" ∷ codes "#" ∷ codes ")" ∷ codes ";" ∷ codes "return"
    ∷ codes ";" ∷ codes "}" ∷ []

-- a root: the register and the base
unfoldable pub decision : List (List ℕ)
decision = codes "MCDC_D" ∷ codes "(" ∷ codes "#" ∷ codes "," ∷ codes "#" ∷ codes "," ∷ []

-- a condition: the register, and what is added where it is true and where it is false
unfoldable pub condition : List (List ℕ)
condition =
    codes "MCDC_C" ∷ codes "(" ∷ codes "#" ∷ codes "," ∷ codes "#" ∷ codes "," ∷ codes "#"
    ∷ codes "," ∷ []

-- the expression of a `switch`: the register
unfoldable pub switch : List (List ℕ)
switch = codes "MCDC_W" ∷ codes "(" ∷ codes "#" ∷ codes "," ∷ []

-- ---- whether a row stands at a place

abbrev pub value_of : TokenKind → ℕ
value_of (kind.Constant value decimal unsigned longs) =
    if nat_le value 4294967295 then value else 0
value_of _ = 0

-- `0` or a decimal constant without suffix, at most 4294967295
abbrev pub is_number_kind : TokenKind → List ℕ → Bool
is_number_kind (kind.Constant value decimal unsigned longs) text =
    (decimal || bytes_eq text (codes "0")) && not unsigned && (longs == 0)
    && nat_le value 4294967295
is_number_kind _ text = false

abbrev pub is_number : Tok → Bool
is_number t = is_number_kind t.kind t.text

abbrev pub fits : List ℕ → Tok → Bool
fits slot t = if bytes_eq slot (codes "#") then is_number t else bytes_eq t.text slot

abbrev pub begins : List (List ℕ) → List Tok → Bool
begins [] ts = true
begins (slot ∷ slots) [] = false
begins (slot ∷ slots) (t ∷ ts) = fits slot t && begins slots ts

-- the number that this token is, counted from 0
abbrev pub number_at : ℕ → List Tok → ℕ
number_at n [] = 0
number_at zero (t ∷ ts) = value_of t.kind
number_at (suc n) (t ∷ ts) = number_at n ts
