-- The pen that writes the instrumented text: it copies the tokens of the source, one after the
-- other, and inserts others between them.
use Rattle.std.specs.Prelude.{ℕ, nat_lt, Bool, List, [], ◌∷◌, ◌++◌, length, map, take, drop, suc, if◌then◌else◌, codes}
use Rattle.std.specs.Str.{bytes_eq}
use Rattle.mc_lex.specs.Tokens.{Tok}
use Rattle.mc_lex.specs.Words.{one_of}

-- the texts of the tokens that are written, the tokens of the source that are left, and the
-- specifiers of the function whose body is written
pub record Pen : Type 0 where
  pub written : List (List ℕ)
  pub left : List Tok
  pub specifiers : List Tok

abbrev pub begun : List Tok → Pen
begun tokens = record { written = []; left = tokens; specifiers = [] }

-- one after the other
infixr 60 ◌▸◌
abbrev pub ◌▸◌ : (Pen → Pen) → (Pen → Pen) → Pen → Pen
first ▸ second = λ pen. second (first pen)

abbrev pub nothing : Pen → Pen
nothing pen = pen

-- inserts these
abbrev pub put : List (List ℕ) → Pen → Pen
put texts pen = record pen { written = pen.written ++ texts }

-- ---- copying

abbrev pub texts_of : List Tok → List (List ℕ)
texts_of ts = map (λ t. t.text) ts

-- copies this number of tokens
abbrev pub copy : ℕ → Pen → Pen
copy n pen =
    record pen { written = pen.written ++ texts_of (take n pen.left); left = drop n pen.left }

-- leaves one token out
abbrev pub skip : Pen → Pen
skip pen = record pen { left = drop 1 pen.left }

-- how many tokens at the front start before a byte
abbrev pub before : ℕ → List Tok → ℕ
before at [] = 0
before at (t ∷ ts) = if nat_lt t.start at then suc (before at ts) else 0

-- copies the tokens that start before a byte
abbrev pub upto : ℕ → Pen → Pen
upto at pen = copy (before at pen.left) pen

-- how many tokens stand at the front up to the first `{`, with it
abbrev pub through : List Tok → ℕ
through [] = 0
through (t ∷ ts) = if bytes_eq t.text (codes "{") then 1 else suc (through ts)

-- copies the tokens through the first `{`
abbrev pub into_body : Pen → Pen
into_body pen = copy (through pen.left) pen

-- copies all
abbrev pub rest : Pen → Pen
rest pen = copy (length pen.left) pen

-- ---- the type words of a function

-- where an item of a unit ends
abbrev pub ends_item : Tok → Bool
ends_item t = one_of (codes ";" ∷ codes "}" ∷ []) t.text

-- the tokens after the last end of an item, or `found` where there is none
abbrev pub since : List Tok → List Tok → List Tok
since found [] = found
since found (t ∷ ts) = since (if ends_item t then ts else found) ts

abbrev pub last_item : List Tok → List Tok
last_item ts = since ts ts

-- notes the specifiers of the function whose name starts at a byte
abbrev pub note : ℕ → Pen → Pen
note at pen = record pen { specifiers = last_item (take (before at pen.left) pen.left) }

-- the words that say the type
abbrev pub type_words : List Tok → List (List ℕ)
type_words [] = []
type_words (t ∷ ts) =
    if one_of (codes "static" ∷ codes "extern" ∷ codes "const" ∷ []) t.text then type_words ts
    else t.text ∷ type_words ts

-- inserts them
abbrev pub put_type : Pen → Pen
put_type pen = put (type_words pen.specifiers) pen

-- ---- the bytes of a text

-- what stands after a token
abbrev pub gap_after : List ℕ → List ℕ
gap_after text =
    if one_of (codes ";" ∷ codes "{" ∷ codes "}" ∷ []) text then 10 ∷ [] else 32 ∷ []

-- the tokens, each with what stands after it; after the last one stands a line feed
abbrev pub spaced : List (List ℕ) → List ℕ
spaced [] = []
spaced (t ∷ []) = t ++ 10 ∷ []
spaced (t ∷ u ∷ ts) = t ++ (gap_after t ++ spaced (u ∷ ts))
